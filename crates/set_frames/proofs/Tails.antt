-- A slice from element a on: what is lent is the tail, and back it stands after what lies before. Assumes nothing.
use mathlib.Core.Path.{◌≡◌, ap, ◌∙◌}
use mathlib.Core.List.{List, ◌++◌, append-nil}
use Prim.Native.Nat.{ℕ, ◌-◌}
use native.Mathlib.Omega.{arith}
use lib.ListN.{length, take, drop, length-drop, drop_of_length-le}
use lib.Seq.{take_all}
use borrow.Rule.Slice.PartMut.{mid_of, put_mid}

module _ (a : ℕ) (out : List ℕ) where
  pub tail_is : mid_of a (length out - a) out ≡ drop a out
  tail_is = take_all (length out - a) (drop a out) (omega (arith, length-drop a out))

  pub tail_back : (ys : List ℕ) → put_mid a (length out - a) out ys ≡ take a out ++ ys
  tail_back ys =
      let none = drop_of_length-le (drop a out) {i = length out - a} (omega (arith, length-drop a out)) in
      ap (λ (l : List ℕ). take a out ++ (ys ++ l)) none ∙ ap (λ (l : List ℕ). take a out ++ l) (append-nil ys)
