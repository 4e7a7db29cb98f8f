-- `set_bytes::reading::read` meets its contract: the number of bytes, the first one and the lacking ones decide. Assumes nothing.
use mathlib.Core.Path.{◌≡◌, sym, ap, ap₂, ◌∙◌}
use lib.ListN.{length}
use borrow.Author.Rules.{rules}
use Rattle.std.specs.Prelude.{Ok}
use Rattle.std.specs.Array.{IsWholeChunk}
use Rattle.sets.specs.declared.Indices.{Indices}
use Rattle.sets.specs.declared.Voicing.{Voicing}
use Rattle.sets.specs.declared.ParameterSet.TheVariants.{Unvoiced, Voiced}
use Rattle.set_bytes.specs.SetBytes.{read_answer}
use Rattle.set_bytes.proofs.Answers.{size_owes, voiced_owes, unvoiced_owes, other_owes}
use Rattle.set_bytes.proofs.reading.read.Goals as goal

pub returns-in_default : goal.returns-in_default
returns-in_default c =
    let other : length c.args.bytes.now ≡ 11 → ⊥ = search rules in
    size_owes c.args.bytes.now other

pub returns-then-bytes-eq1 : goal.returns-then-bytes-eq1
returns-then-bytes-eq1 c =
    let whole : IsWholeChunk c.args.bytes.now c.in-Some.bytes.now 11 = search rules in
    let eleven : length c.in-Some.bytes.now ≡ 11 = ap length whole.same ∙ whole.long in
    ap₂ (λ (x : Indices) (v : Voicing). Ok (Voiced x v)) c.read_indices.ensures c.read_voicing.ensures
    ∙ voiced_owes c.in-Some.bytes.now eleven c.if-bytes-eq1.true ∙ ap read_answer whole.same

pub returns-then-is_unvoiced : goal.returns-then-is_unvoiced
returns-then-is_unvoiced c =
    let whole : IsWholeChunk c.args.bytes.now c.in-Some.bytes.now 11 = search rules in
    ap (λ (x : Indices). Ok (Unvoiced x)) c.read_indices-then-is_unvoiced.ensures
    ∙ unvoiced_owes c.in-Some.bytes.now c.if-bytes-eq1.false (sym c.is_unvoiced.ensures ∙ c.if-is_unvoiced.true) ∙ ap read_answer whole.same

pub returns : goal.returns
returns c =
    let whole : IsWholeChunk c.args.bytes.now c.in-Some.bytes.now 11 = search rules in
    other_owes c.in-Some.bytes.now c.if-bytes-eq1.false (sym c.is_unvoiced.ensures ∙ c.if-is_unvoiced.false) ∙ ap read_answer whole.same
