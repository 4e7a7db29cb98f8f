-- `bench_pack::frames::pack_input` meets its contract: the order stands in front, and the sets that follow are packed in it. Assumes nothing.
use mathlib.Core.Path.{◌≡◌, refl, sym, ap, ◌∙◌}
use mathlib.Core.List.{List, [], ◌++◌}
use Prim.Native.Nat.{ℕ, ◌*◌, ◌≤◌, ◌<◌}
use native.Mathlib.Omega.{arith}
use lib.ListN.{length, take, drop, length-drop, drop_of_length-le}
use lib.Seq.{length-take-le}
use Rattle.set_frames.specs.Sending.{sets_in, sent_from, sent}
use Rattle.set_frames.proofs.Room.{answered, packed_is}
use Rattle.bench_pack.specs.Inputs.{input_sent}
use Rattle.bench_pack.proofs.frames.pack_input.Goals as goal

-- no sets follow a part of an order
short_sent : (input : List ℕ) → length input < 54 → [] ≡ input_sent input
unfolding sent_from sent
short_sent input h = sym (ap (sent (take 54 input)) (drop_of_length-le input {i = 54} (omega arith)))

-- the output has room for the frames of all sets
roomy : (input out : List ℕ) → length input ≤ 65581 → length out ≡ 41699 → 7 * sets_in (drop 54 input) ≤ length out
roomy input out h e = omega (arith, length-drop 54 input)

pub returns-in_default : goal.returns-in_default
returns-in_default c =
    let a = c.args in
    let none = short_sent a.input.now c.in_default.ensures.cases in
    record { end = ap length none; size = (omega arith, refl); written = ap (λ (l : List ℕ). l ++ a.out.now) none }

pub unwrap-requires : goal.unwrap-requires
unwrap-requires c =
    let input = c.args.input.now in
    let part = c.in-Some.ensures.cases in
    let answer = rw (part.0, part.1) at c.pack_sets.ensures.answer in
    rw (answer, answered (take 54 input) (drop 54 input) c.args.out.now (roomy input c.args.out.now c.requires.0 c.requires.1)) refl

pub returns : goal.returns
returns c =
    let input = c.args.input.now in
    let part = c.in-Some.ensures.cases in
    let answer = rw (part.0, part.1) at c.pack_sets.ensures.answer in
    let after = rw (part.0, part.1) at c.pack_sets.ensures.written in
    let x = packed_is (take 54 input) (drop 54 input) c.args.out.now (roomy input c.args.out.now c.requires.0 c.requires.1) c.unwrap.result _
    (sym answer ∙ c.unwrap.ensures) after in
    record { end = x.0; size = (x.1, sym (length-take-le _ _ x.1)); written = x.2 }
