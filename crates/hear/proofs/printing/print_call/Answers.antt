-- `hear::printing::print_call` meets its contract: the bytes that were read are the first 65,534 of the input. Assumes nothing.
use mathlib.Core.Path.{◌≡◌, ap, subst, ◌∙◌}
use mathlib.Core.List.{List}
use Prim.Native.Nat.{ℕ}
use lib.ListN.{length, take}
use Rattle.std.proofs.lemmas.Result.{IfOk-weaker, on_ok_weaker, on_err_weaker}
use Rattle.std.specs.Io.KnownBytes.{Appends}
use Rattle.bits.specs.Lists.{ReadFrom}
use Rattle.console.specs.Fronts.{AppendsFront}
use Rattle.hear.specs.Call.{text, most_bytes, heard, AllPrinted, AllSent, FrontSent}
use Rattle.hear.specs.declared.output.Sent.{Sent}
use Rattle.hear.proofs.printing.print_call.Goals as goal

-- what a buffer of that many bytes was read to is what is heard, and its text is what is printed
read_heard : (buffer input : List ℕ) (size : ℕ) → length buffer ≡ most_bytes → ReadFrom buffer size input → take size buffer ≡ heard input
read_heard buffer input size e read = read ∙ ap (λ (m : ℕ). take m input) e

pub returns-clause-printed : goal.returns-clause-printed
returns-clause-printed g c =
    let a = c.args in
    let to_all : (s : Sent) → s.count ≡ length (text (take a.size a.input.now)) → AllPrinted a.input.now a.size s.count =
    λ s e input read. e ∙ ap (λ (l : List ℕ). length (text l)) (read_heard a.input.now input a.size c.requires.0 read) in
    IfOk-weaker c.print_text.result _ _ to_all c.print_text.ensures.count

pub returns-clause-written : goal.returns-clause-written
returns-clause-written g c =
    let a = c.args in
    let before = g.W.Write.contents a.to.now in
    let after = g.W.Write.contents c.print_text.new.to in
    let to_all : Appends before after (text (take a.size a.input.now)) → AllSent a.input.now a.size before after =
    λ given input read. subst (λ (l : List ℕ). Appends before after (text l)) (read_heard a.input.now input a.size c.requires.0 read) given in
    on_ok_weaker c.print_text.result to_all c.print_text.ensures.written

pub returns-clause-failed : goal.returns-clause-failed
returns-clause-failed g c =
    let a = c.args in
    let before = g.W.Write.contents a.to.now in
    let after = g.W.Write.contents c.print_text.new.to in
    let to_all : AppendsFront before after (text (take a.size a.input.now)) → FrontSent a.input.now a.size before after =
    λ given input read. subst (λ (l : List ℕ). AppendsFront before after (text l)) (read_heard a.input.now input a.size c.requires.0 read) given in
    on_err_weaker c.print_text.result to_all c.print_text.ensures.failed
