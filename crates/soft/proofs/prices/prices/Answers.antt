-- `soft::prices::prices` meets its contract: after u turns the first u prices stand in front. Assumes nothing.
use mathlib.Core.Path.{◌≡◌, sym, ap, ap₂, ◌∙◌}
use mathlib.Core.List.{List}
use Prim.Native.Nat.{ℕ, ◌<◌}
use native.Mathlib.Nat.{zero-add}
use native.Mathlib.Numerals.{add-one}
use native.Mathlib.Omega.{arith}
use lib.ListN.{take, set, replicate}
use lib.Seq.{length-take-le}
use Rattle.bits.specs.Bits.{bits}
use Rattle.bits.proofs.Digits.{bits_length}
use Rattle.hamming.specs.Word.{length_of}
use Rattle.hamming.proofs.Lengths.{length_least, length_most}
use Rattle.soft.specs.Choice.{code_words}
use Rattle.soft.specs.Prices.{price_of}
use Rattle.soft.proofs.Entries.{code_words_le, Received, entry_fits, entry_is, price_le, stored}
use Rattle.soft.proofs.prices.prices.Goals as goal
use Rattle.soft.proofs.prices.prices.Goals.{After-parts_of-came}

received : (c : After-parts_of-came)
    → let n = length_of c.args.length in
    let came = c.parts_of-came.result in
    Received n (take n c.args.q) (bits n c.args.word) came.data came.parity c.sums_of.result.0 c.sums_of.result.1
received c =
    let a = c.args in
    let came = c.parts_of-came.ensures in
    let most = length_most a.length in
    record {
      least = length_least a.length;
      most = most;
      confidences = length-take-le (length_of a.length) a.q (omega arith);
      places = bits_length (length_of a.length) a.word;
      data_lt = came.bounds.0;
      parity_lt = came.bounds.1;
      data_is = came.data;
      parity_is = came.parity;
      data_sums = c.sums_of.ensures.data;
      parity_sums = c.sums_of.ensures.parity;
    }

pub price_at-requires : goal.price_at-requires
price_at-requires c =
    entry_fits (received (goal.at.price_at-requires c).After-parts_of-came) c.loop-u.u (omega (arith, c.code_words-u-end.ensures))

pub loop-u-preserved : goal.loop-u-preserved
loop-u-preserved c =
    let L = c.loop-u in
    let n = length_of c.args.length in
    let p = price_of n (take n c.args.q) (bits n c.args.word) in
    let is = c.price_at.ensures ∙ entry_is (received (goal.at.loop-u-preserved c).After-parts_of-came) L.u (omega (arith, c.code_words-u-end.ensures)) ∙ ap p (sym (zero-add L.u)) in
    let room : L.u < 16 = omega (arith, c.code_words-u-end.ensures, code_words_le n (length_least c.args.length) (length_most c.args.length)) in
    rw add-one (rw c.from.ensures (ap₂ (λ (d : List ℕ) (x : ℕ). set d L.u x) L.invariant is ∙ stored p (replicate 16 65535) 0 L.u room))

pub returns : goal.returns
returns c =
    let n = length_of c.args.length in
    let all : c.loop-u.u ≡ code_words n = omega (arith, c.code_words-u-end.ensures) in
    record { prices = rw all at c.loop-u.invariant; bound = price_le (received (goal.at.returns c).After-parts_of-came) }
