-- The front of a text, if it is long enough, has the same lines: a frame's line, and all lines of the frames to come. Assumes nothing.
use mathlib.Core.Path.{◌≡◌, refl, sym, ap}
use mathlib.Core.Bool.{Bool, true, false, cond}
use mathlib.Core.List.{List, [], ◌∷◌}
use Prim.Native.Nat.{ℕ, zero, suc, ◌+◌, ◌-◌, ◌*◌, ◌≤◌}
use native.Mathlib.Nat.{sub-zero, zero-sub, suc-sub-suc}
use native.Mathlib.Omega.{arith}
use lib.Dec.{eqb}
use lib.ListN.{take, drop}
use lib.Seq.{take-nil, take-take}
use Rattle.session_lines.specs.Lines.{line_of, same_bytes, is_frame_line, frame_of}
use Rattle.session_claims.proofs.Rests.{rest_reading}

-- a part of a front is a front of the part
pub drop_take : (a m : ℕ) (l : List ℕ) → drop a (take m l) ≡ take (m - a) (drop a l)
drop_take zero m l = rw sub-zero refl
drop_take (suc a) zero l = rw zero-sub refl
drop_take (suc a) (suc m) [] = rw take-nil refl
drop_take (suc a) (suc m) (x ∷ l) = rw suc-sub-suc (drop_take a m l)

-- the first line of a front is the front of the first line
line_take : (m : ℕ) (t : List ℕ) → line_of (take m t) ≡ take m (line_of t)
unfolding line_of
line_take zero t = refl
line_take (suc m) [] = refl
line_take (suc m) (c ∷ cs) = go (eqb c 10) (line_take m cs)
  where
    go : (b : Bool) → line_of (take m cs) ≡ take m (line_of cs) → cond b (c ∷ []) (c ∷ line_of (take m cs)) ≡ take (suc m) (cond b (c ∷ []) (c ∷ line_of cs))
    go true h = ap (λ (l : List ℕ). c ∷ l) (sym (take-nil m))
    go false h = ap (λ (l : List ℕ). c ∷ l) h

-- two bytes tell whether a text is one LF
end_take : (m : ℕ) (t : List ℕ) → 2 ≤ m → same_bytes (take m t) (10 ∷ []) ≡ same_bytes t (10 ∷ [])
end_take zero t h = absurd (omega arith)
end_take (suc zero) t h = absurd (omega arith)
end_take (suc (suc m)) [] h = refl
end_take (suc (suc m)) (a ∷ []) h = refl
end_take (suc (suc m)) (a ∷ b ∷ t) h = refl

module _ (m : ℕ) (l : List ℕ) (h : 18 ≤ m) where
  -- 18 bytes tell whether a line is a frame's
  frame_line_take : is_frame_line (take m l) ≡ is_frame_line l
  unfolding is_frame_line
  frame_line_take =
      rw (
        take-take 2 m l (omega arith),
        drop_take 2 m l,
        take-take 14 (m - 2) (drop 2 l) (omega arith),
        drop_take 16 m l,
        end_take (m - 16) (drop 16 l) (omega arith),
      ) refl

  -- and have the frame
  frame_take : frame_of (take m l) ≡ frame_of l
  unfolding frame_of
  frame_take = rw (drop_take 2 m l, take-take 14 (m - 2) (drop 2 l) (omega arith)) refl

-- the lines of j frames and one byte more tell what is read
pub rest_take : (j m : ℕ) (t : List ℕ) (k : ℕ) → 17 * j + 1 ≤ m → rest_reading j (take m t) k ≡ rest_reading j t k
unfolding rest_reading
rest_take zero zero t k h = absurd (omega arith)
rest_take zero (suc m) [] k h = refl
rest_take zero (suc m) (c ∷ cs) k h = refl
rest_take (suc j) m t k h =
    rw (
      line_take m t,
      frame_line_take m (line_of t) (omega arith),
      frame_take m (line_of t) (omega arith),
      drop_take 17 m t,
      rest_take j (m - 17) (drop 17 t) (suc k) (omega arith),
    ) refl
