-- `bench_soft::frames::sum_bytes` meets its contract: the order stands in front, and the frames that follow are summed. Assumes nothing.
use mathlib.Core.Path.{◌≡◌, sym, ap, ap₂, ◌∙◌}
use mathlib.Core.List.{List}
use Prim.Native.Nat.{ℕ, ◌<◌, ◌≤◌, ◌/◌}
use native.Mathlib.Omega.{arith}
use lib.ListN.{length, take, drop, length-drop, drop_of_length-le}
use borrow.Author.Rules.{rules}
use Rattle.records.specs.Records.{fresh}
use Rattle.answer_sums.specs.Sums.{sum_from, eight_bytes}
use Rattle.answer_sums.proofs.Exact.{sum_exact}
use Rattle.bench_soft.specs.SoftFrames.{frames_sum, input_sum}
use Rattle.bench_soft.proofs.frames.sum_bytes.Goals as goal

-- no frames follow a part of an order
short_sum : (input : List ℕ) → length input < 54 → 0 ≡ input_sum input
short_sum input h = sym (ap (frames_sum (take 54 input)) (drop_of_length-le input {i = 54} (omega arith)))

pub returns-in_default : goal.returns-in_default
returns-in_default c =
    let h : length c.args.input.now < 54 = search rules in
    c.eight_bytes.ensures ∙ ap eight_bytes (short_sum c.args.input.now h)

pub returns : goal.returns
returns c =
    let ord : c.in-Some.order.now ≡ take 54 c.args.input.now = search rules in
    let rest : c.in-Some.frames.now ≡ drop 54 c.args.input.now = search rules in
    let count : length c.as_chunks.result.0.now ≡ length c.in-Some.frames.now / 61 = c.as_chunks.ensures.front_len in
    let few : length c.as_chunks.result.0.now ≤ 65588 = omega (arith, count, ap length rest, length-drop 54 c.args.input.now, c.requires) in
    let whole = sum_exact _ _ _ c.sum_of.ensures.sum c.sum_of.ensures.bound few in
    c.eight_bytes-2.ensures ∙ ap eight_bytes (whole ∙ ap (sum_from _ fresh) c.as_chunks.ensures.front ∙ ap₂ frames_sum ord rest)
