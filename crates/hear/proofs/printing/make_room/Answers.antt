-- `hear::printing::make_room` meets its contract: what waits is the next part of the text, and then nothing waits. Assumes nothing.
use native.Mathlib.Omega.{arith}
use lib.Seq.{length-take-le}
use Rattle.std.proofs.lemmas.Result.{MatchResult-from_err}
use Rattle.hear.specs.Call.{text, GivenFront}
use Rattle.hear.proofs.Buffer.{pending_part, given_more, given_front}
use Rattle.hear.proofs.printing.make_room.Goals as goal

pub send-requires : goal.send-requires
send-requires g c =
    let a = c.args in
    let b = a.before in
    let n = pending_part a.bytes.now a.out.now a.k b.sent.count b.end c.requires.k_bound.0 c.requires.k_bound.1 in
    let l = length-take-le b.end a.out.now (omega (arith, c.requires.out_len)) in
    (rw l n, omega (arith, l, c.requires.out_len.1))

pub returns-clause-written : goal.returns-clause-written
returns-clause-written g c =
    let a = c.args in
    let b = a.before in
    let n = pending_part a.bytes.now a.out.now a.k b.sent.count b.end c.requires.k_bound.0 c.requires.k_bound.1 in
    let e = c.in_ok-send.ensures in
    let l = length-take-le b.end a.out.now (omega (arith, c.requires.out_len)) in
    λ start given. given_more (text a.bytes.now) _ b.sent.count b.end _ start _ _ (rw l at e.count) n e.written given

pub returns-in_err-send-clause-failed : goal.returns-in_err-send-clause-failed
returns-in_err-send-clause-failed g c =
    let a = c.args in
    let b = a.before in
    let n = pending_part a.bytes.now a.out.now a.k b.sent.count b.end c.requires.k_bound.0 c.requires.k_bound.1 in
    let front : GivenFront (text a.bytes.now) b.sent.count (g.W.Write.contents a.to.now) (g.W.Write.contents c.send.new.to) =
    λ start given. given_front (text a.bytes.now) _ b.sent.count b.end start _ _ n c.in_err-send.ensures.failed given in
    MatchResult-from_err c.from_residual.result _ _ c.from_residual.ensures.0 (λ _. front)
