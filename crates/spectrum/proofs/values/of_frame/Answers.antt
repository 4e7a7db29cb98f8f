-- `spectrum::values::of_frame` meets its contract, by what the receiver answers. Assumes nothing.
use mathlib.Core.Path.{◌≡◌, sym, ap, ◌∙◌}
use borrow.Author.Rules.{rules}
use Rattle.std.specs.Prelude.{Result, Err}
use Rattle.refusal.specs.declared.Refusal.{Refusal}
use Rattle.order.specs.Order.{default_order}
use Rattle.records.specs.Records.{fresh}
use Rattle.receiver.specs.Receiving.{receive}
use Rattle.receiver.specs.declared.FrameResult.{FrameResult}
use Rattle.receiver.specs.declared.Received.{Received}
use Rattle.spectrum.specs.Values.{of_answer, of_frame}
use Rattle.spectrum.proofs.values.of_frame.Goals as goal
use Rattle.spectrum.proofs.values.of_frame.Goals.{After-receive}

-- what the receiver answers is what the definition has
answered : (c : After-receive) → c.receive.result.answer ≡ (receive default_order fresh c.args.bytes.now).answer
answered c =
    let bytes = c.args.bytes.now in
    ap (λ (r : Received). r.answer) (c.receive.ensures ∙ (λ i. receive (c.default_order-order.ensures i) (c.fresh.ensures i) bytes))

pub returns-in_err-result : goal.returns-in_err-result
unfolding of_frame
returns-in_err-result c =
    let a = c.args in
    let e = sym c.in_err-result.was ∙ answered (goal.at.returns-in_err-result c).After-receive in
    let r : c.from_residual.result ≡ Err c.in_err-result.field-0.0 = search rules in
    r ∙ ap (λ (r : Result FrameResult Refusal). of_answer r a.lsf.now a.magnitudes.now) e

pub returns : goal.returns
unfolding of_frame
returns c =
    let a = c.args in
    let e = sym c.in_ok-result.was ∙ answered (goal.at.returns c).After-receive in
    c.of_texts.ensures ∙ ap (λ (r : Result FrameResult Refusal). of_answer r a.lsf.now a.magnitudes.now) e
