-- `frame::layout::logical_number` meets its contract: the words stand above the other bits. Assumes nothing.
use mathlib.Core.Path.{◌≡◌, refl, sym, ap, ◌∙◌, subst⁻¹}
use mathlib.Core.Bool.{◌&&◌}
use Prim.Native.Nat.{ℕ, ◌<◌}
use lib.Dec.{T}
use Rattle.bits.specs.Bits.{value, bits}
use Rattle.bits.proofs.Tests.{T_true, and_right}
use Rattle.pitch.specs.Pitch.{code_of}
use Rattle.pitch.proofs.Answers.{code_answered}
use Rattle.pitch.proofs.Codes.{code_lt}
use Rattle.sets.specs.Sets.{indices_fit, voicing_fits, sendable}
use Rattle.frame.specs.Layout.{unvoiced_words, voiced_words, others, logical}
use Rattle.sets.specs.declared.ParameterSet.{ParameterSet}
use Rattle.sets.specs.declared.ParameterSet.TheVariants.{Voiced}
use Rattle.sets.proofs.Ranges.{voicing_ranges, sendable_fits}
use Rattle.frame.proofs.Numbers.{logical_value}
use Rattle.frame.proofs.layout.logical_number.Goals as goal
use Rattle.frame.proofs.layout.logical_number.Goals.{In-Voiced, After-unwrap-code}

-- a voiced set's indices and its voicing are in their ranges
fits : (c : In-Voiced) → T (indices_fit c.in-Voiced.x && voicing_fits c.in-Voiced.v)
fits c = let set = Voiced c.in-Voiced.x c.in-Voiced.v in sendable_fits set (T_true _ (ap sendable (sym c.in-Voiced.is) ∙ c.requires))

pitch-fits : (c : In-Voiced) → c.in-Voiced.v.pitch < 99
pitch-fits c = (voicing_ranges c.in-Voiced.v (and_right (indices_fit c.in-Voiced.x) (voicing_fits c.in-Voiced.v) (fits c))).pitch

-- the code that is sent is that of the index
sent : (c : After-unwrap-code) → c.unwrap-code.result ≡ code_of c.in-Voiced.v.pitch
sent c = let e = code_answered _ (pitch-fits (goal.at.After-unwrap-code c).In-Voiced) in cc (c.unwrap-code.ensures, c.encode.ensures, e)

pub unwrap-code-requires : goal.unwrap-code-requires
unwrap-code-requires c = rw (c.encode.ensures, code_answered _ (pitch-fits (goal.at.unwrap-code-requires c).In-Voiced)) refl

pub other_bits-requires-in-Voiced : goal.other_bits-requires-in-Voiced
other_bits-requires-in-Voiced c =
    let s = (goal.at.other_bits-requires-in-Voiced c).In-Voiced in
    subst⁻¹ (λ (n : ℕ). n < 128) (sent (goal.at.other_bits-requires-in-Voiced c).After-unwrap-code) (code_lt _ (pitch-fits s))

pub returns-in-Unvoiced : goal.returns-in-Unvoiced
unfolding logical
returns-in-Unvoiced c =
    let x = c.in-Unvoiced.x in
    logical_value (unvoiced_words x) x 0 c.args.sync _ _ (c.four_words.ensures.number ∙ ap value c.unvoiced_parities.ensures) c.other_bits.ensures.number
    ∙ ap (λ (t : ParameterSet). value (logical t c.args.sync)) (sym c.in-Unvoiced.is)

pub returns-in-Voiced : goal.returns-in-Voiced
unfolding logical
returns-in-Voiced c =
    let x = c.in-Voiced.x in
    let v = c.in-Voiced.v in
    logical_value (voiced_words x v) x (code_of v.pitch) c.args.sync _ _ (c.four_words-in-Voiced.ensures.number ∙ ap value (c.voiced_parities.ensures x))
    (c.other_bits-in-Voiced.ensures.number ∙ ap (λ (n : ℕ). value (others x (bits 7 n) c.args.sync)) (sent (goal.at.returns-in-Voiced c).After-unwrap-code))
    ∙ ap (λ (t : ParameterSet). value (logical t c.args.sync)) (sym c.in-Voiced.is)
