-- What the writer owes in each of its cases. Assumes nothing.
use mathlib.Core.Path.{◌≡◌, refl, sym, ap, ◌∙◌}
use mathlib.Core.Bool.{Bool, true, false, not}
use mathlib.Core.List.{List, [], ◌∷◌, ◌++◌}
use Prim.Native.Nat.{ℕ, ◌≤◌, ◌<◌}
use native.Mathlib.Nat.{zero-add}
use lib.Dec.{ltb}
use lib.ListN.{length, drop}
use borrow.Author.Tests.{lt-ltb, le-ltb}
use Rattle.bits.specs.Lists.{written_unless}
use Rattle.std.specs.Prelude.{Option, Result, Ok, Err}
use Rattle.refusal.specs.Refusals.{first_refusal, unless}
use Rattle.refusal.specs.declared.Refusal.{Refusal}
use Rattle.refusal.specs.declared.Refusal.TheVariants.{ShortOutput, FrameLength, PaddingBits}
use Rattle.text.specs.Placing.{Put}
use Rattle.session.specs.Writing.{is_whole, any_padded, frames_of, text_of, write_answer, write_writes}

module _ (bytes out : List ℕ) where
  -- what a call owes
  abbrev pub Owes : List ℕ → Result ℕ Refusal → Type 0
  Owes after answer = (answer ≡ write_answer bytes (length out)) × (after ≡ write_writes bytes out)

  -- the refusal by its three tests: whole frames, an output that is too short, padding bits
  abbrev refusal : Bool → Bool → Bool → Option Refusal
  refusal whole short padded = first_refusal ((not whole, FrameLength) ∷ (short, ShortOutput) ∷ (padded, PaddingBits) ∷ [])

  -- the answer and the output by these
  by_tests : (whole short padded : Bool) → whole ≡ is_whole bytes → short ≡ ltb (length out) (length (text_of bytes)) → padded ≡ any_padded (frames_of bytes)
      → (after : List ℕ) (answer : Result ℕ Refusal) → answer ≡ unless (refusal whole short padded) (length (text_of bytes))
      → after ≡ written_unless (refusal whole short padded) (length (text_of bytes)) (text_of bytes) out → Owes after answer
  unfolding write_answer write_writes
  by_tests whole short padded w s p after answer e f = (
    e ∙ (λ i. unless (refusal (w i) (s i) (p i)) (length (text_of bytes))),
    f ∙ (λ i. written_unless (refusal (w i) (s i) (p i)) (length (text_of bytes)) (text_of bytes) out),
  )

  -- not whole frames
  pub part_owes : is_whole bytes ≡ false → Owes out (Err FrameLength)
  part_owes w = by_tests false _ _ (sym w) refl refl out (Err FrameLength) refl refl

  module _ (w : is_whole bytes ≡ true) where
    -- an output shorter than the text
    pub short_owes : length out < length (text_of bytes) → Owes out (Err ShortOutput)
    short_owes h = by_tests true true _ (sym w) (sym (lt-ltb _ _ h)) refl out (Err ShortOutput) refl refl

    module _ (h : length (text_of bytes) ≤ length out) where
      -- a frame with padding bits
      pub padding_owes : any_padded (frames_of bytes) ≡ true → Owes out (Err PaddingBits)
      padding_owes p = by_tests true false true (sym w) (sym (le-ltb _ _ h)) (sym p) out (Err PaddingBits) refl refl

      -- the text is put
      pub text_owes : any_padded (frames_of bytes) ≡ false → (after : List ℕ) (end : ℕ) → Put out 0 (text_of bytes) after end → Owes after (Ok end)
      text_owes p after end q =
          let n = zero-add (length (text_of bytes)) in
          by_tests true false false (sym w) (sym (le-ltb _ _ h)) (sym p) after (Ok end) (ap Ok (q.0 ∙ n))
          (q.1 ∙ ap (λ (k : ℕ). text_of bytes ++ drop k out) n)
