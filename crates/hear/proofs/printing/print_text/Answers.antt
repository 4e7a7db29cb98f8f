-- `hear::printing::print_text` meets its contract: with the last line the whole text is sent or waits, and what waits is sent. Assumes nothing.
use mathlib.Core.Path.{◌≡◌, refl, sym, ap, subst, ◌∙◌}
use Prim.Native.Nat.{◌+◌, ◌≤◌}
use native.Mathlib.Omega.{arith}
use lib.ListN.{length, take}
use lib.Seq.{take_all, length-take-le}
use Rattle.std.specs.Io.KnownBytes.{Appends}
use Rattle.std.proofs.lemmas.Result.{IfOk-weaker, on_ok_weaker, on_err_weaker}
use Rattle.console.specs.Fronts.{AppendsFront}
use Rattle.report.specs.Lines.{first_line, last_line}
use Rattle.receiver.specs.Frames.{frames_in}
use Rattle.hear.specs.Call.{left_in, text_before, text, Pending}
use Rattle.text.proofs.Additions.{line_added}
use Rattle.hear.proofs.Buffer.{given_more, given_front, whole_waits, whole_part}
use borrow.Author.Rules.{rules}
use Rattle.hear.specs.declared.output.Sent.{Sent}
use Rattle.hear.proofs.printing.print_text.Given.{Over}
use Rattle.hear.proofs.printing.print_text.Goals.{After-end_of-end}
use Rattle.hear.proofs.printing.print_text.Goals as goal

pub print_frames-requires : goal.print_frames-requires
unfolding text_before
print_frames-requires g c =
    let a = c.args in
    let size : length first_line ≤ 22 = omega arith in
    let w = c.first_line.ensures in
    let q = line_added first_line a.out.now _ 0 22 _ _ (w.answer, (w.written, size)) c.end_of-first.ensures (omega (arith, c.requires)) in
    (c.requires, (omega (arith, q.0.0), q.0.1))

-- the whole text is sent or waits
whole : (g : Over) (c : After-end_of-end g)
    → Pending (text c.args.bytes.now) c.in_ok-ready.ready.sent.count c.end_of-end.result c.last_line.new.out
    × (c.end_of-end.result ≤ c.in_ok-ready.ready.end + 144)
whole g c =
    let bytes = c.args.bytes.now in
    let r = c.in_ok-ready.ready in
    let l = c.last_line.ensures in
    let m = c.in_ok-ready.ensures in
    let q = line_added (last_line (frames_in bytes) r.repeats (left_in bytes)) _ _ r.end 144 _ _ (l.answer, (l.written, l.bound)) c.end_of-end.ensures (search rules) in
    (whole_waits bytes _ _ r.repeats r.sent.count r.end _ (m.repeats ∙ c.in_ok-printed.ensures.repeats) m.pending q.0, q.1)

-- there is room for what waits then, and it is as long as that
fits : (g : Over) (c : After-end_of-end g) → c.end_of-end.result ≤ length c.last_line.new.out
fits g c = omega (arith, (whole g c).1, c.in_ok-ready.ensures.room, c.requires)

size : (g : Over) (c : After-end_of-end g) → length (take c.end_of-end.result c.last_line.new.out) ≡ c.end_of-end.result
size g c = length-take-le c.end_of-end.result c.last_line.new.out (fits g c)

pub shared_ref_as_front-send : goal.shared_ref_as_front-send
shared_ref_as_front-send g c = omega (arith, (whole g (goal.at.shared_ref_as_front-send g c).After-end_of-end).1, c.in_ok-ready.ensures.room)

pub slice_bounds-send-end : goal.slice_bounds-send-end
slice_bounds-send-end g c = sym (size g (goal.at.slice_bounds-send-end g c).After-end_of-end)

pub send-requires : goal.send-requires
send-requires g c =
    let w = whole g (goal.at.send-requires g c).After-end_of-end in
    let m = c.in_ok-ready.ensures in
    let f = c.in_ok-printed.ensures in
    let l = size g (goal.at.send-requires g c).After-end_of-end in
    (rw l (whole_part c.args.bytes.now _ _ _ w.0), omega (arith, l, w.1, m.room, m.pending.0, f.pending.0, f.count))

pub returns-clause-count : goal.returns-clause-count
returns-clause-count g c =
    let w = whole g (goal.at.returns-clause-count g c).After-end_of-end in
    let part = take c.end_of-end.result c.last_line.new.out in
    let to_whole : (s : Sent) → s.count ≡ c.in_ok-ready.ready.sent.count + length part → s.count ≡ length (text c.args.bytes.now) =
    λ s e. e ∙ ap (λ n. c.in_ok-ready.ready.sent.count + n) (size g (goal.at.returns-clause-count g c).After-end_of-end) ∙ w.0.0 in
    IfOk-weaker c.send.result _ _ to_whole c.send.ensures.count

pub returns-clause-written : goal.returns-clause-written
returns-clause-written g c =
    let w = whole g (goal.at.returns-clause-written g c).After-end_of-end in
    let bytes = c.args.bytes.now in
    let sent = c.in_ok-ready.ready.sent.count in
    let end = c.end_of-end.result in
    let given = c.in_ok-ready.ensures.written _ c.in_ok-printed.ensures.written in
    let held = g.W.Write.contents c.send.new.to in
    let all : take (sent + end) (text bytes) ≡ text bytes = take_all (sent + end) (text bytes) (omega (arith, w.0.0)) in
    let to_whole : Appends (g.W.Write.contents c.make_room.new.to) held (take end c.last_line.new.out) → Appends (g.W.Write.contents c.args.to.now) held (text bytes) =
    λ grown. subst (Appends (g.W.Write.contents c.args.to.now) held) all (given_more (text bytes) _ sent end (sent + end) _ _ held refl (whole_part bytes _ sent end w.0) grown given) in
    on_ok_weaker c.send.result to_whole c.send.ensures.written

pub returns-clause-failed : goal.returns-clause-failed
returns-clause-failed g c =
    let w = whole g (goal.at.returns-clause-failed g c).After-end_of-end in
    let bytes = c.args.bytes.now in
    let sent = c.in_ok-ready.ready.sent.count in
    let end = c.end_of-end.result in
    let given = c.in_ok-ready.ensures.written _ c.in_ok-printed.ensures.written in
    let held = g.W.Write.contents c.send.new.to in
    let to_front : AppendsFront (g.W.Write.contents c.make_room.new.to) held (take end c.last_line.new.out) → AppendsFront (g.W.Write.contents c.args.to.now) held (text bytes) =
    λ grown. given_front (text bytes) _ sent end _ _ held (whole_part bytes _ sent end w.0) grown given in
    on_err_weaker c.send.result to_front c.send.ensures.failed
