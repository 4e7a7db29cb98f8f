-- Texts put into a buffer one after the other, and the room that they need. Assumes nothing.
use mathlib.Core.Path.{◌≡◌, sym, ap, ◌∙◌}
use mathlib.Core.List.{List, [], ◌∷◌, ◌++◌, append-nil, append_assoc}
use Prim.Native.Nat.{ℕ, suc, ◌+◌, ◌≤◌, ◌<◌}
use native.Mathlib.Omega.{arith}
use lib.ListN.{length, take, drop, set, replicate, length-append, take-append-drop, length-set, length-replicate, get_or-replicate}
use lib.Seq.{drop-cons, take-append-add}
use Rattle.text.specs.Placing.{written, Appended, Put, PutIfRoom}
use Rattle.text.proofs.Writes.{written_length, written_appended, written_one, written_append}

-- one byte stored
pub byte_put : (out : List ℕ) (at b : ℕ) → at < length out → Put out at (b ∷ []) (set out at b) (at + 1)
byte_put out at b h = (omega arith, written_one out at b h)

-- nothing put
pub put_none : (out : List ℕ) (at : ℕ) → Put out at [] out at
put_none out at =
    let n : at ≡ at + 0 = omega arith in
    (n, sym (take-append-drop at out) ∙ (λ i. sym (append-nil (take at out)) i ++ drop (n i) out))

-- a buffer keeps its length
pub put_length : (a b : List ℕ) (at m : ℕ) (xs : List ℕ) → at + length xs ≤ length a → Put a at xs b m → length b ≡ length a
put_length a b at m xs h p = ap length p.1 ∙ written_length xs at a h

module _ (a b c : List ℕ) (at m n : ℕ) (xs ys : List ℕ) where
  -- one after the other
  pub put_append : at ≤ length a → Put a at xs b m → Put b m ys c n → Put a at (xs ++ ys) c n
  put_append h p q =
      let e : n ≡ at + length (xs ++ ys) = omega (arith, p.0, q.0, length-append xs ys) in
      (e, q.1 ∙ (λ i. written ys (p.0 i) (p.1 i)) ∙ written_append xs ys at a h)

  -- the same where there is room for both
  pub put_if_room_append : PutIfRoom a at xs b m → PutIfRoom b m ys c n → PutIfRoom a at (xs ++ ys) c n
  put_if_room_append p q room =
      let l = length-append xs ys in
      let first : at + length xs ≤ length a = omega (arith, l) in
      let w = p first in
      let size : length b ≡ length a = ap length w.1 ∙ written_length xs at a first in
      put_append (omega arith) w (q (omega (arith, l, w.0, size)))

-- two bytes stored
pub pair_put : (out : List ℕ) (at a b : ℕ) → at + 1 < length out → Put out at (a ∷ b ∷ []) (set (set out at a) (at + 1) b) (at + 2)
pair_put out at a b h =
    let p = byte_put out at a (omega arith) in
    let q = byte_put (set out at a) (at + 1) b (rw (length-set out at a) h) in
    (omega arith, (put_append out (set out at a) _ at (at + 1) _ (a ∷ []) (b ∷ []) (omega arith) p q).1)

-- what is put is appended
pub put_appended : (a b : List ℕ) (at m : ℕ) (xs : List ℕ) → at ≤ length a → Put a at xs b m → Appended a at xs b m
put_appended a b at m xs h p = rw (p.0, p.1) (written_appended xs at a h)

-- what is put to the front of a buffer is what stands before its end
pub front_is : (a b : List ℕ) (m : ℕ) (xs : List ℕ) → Put a 0 xs b m → take m b ≡ xs
front_is a b m xs p = (put_appended a b 0 m xs (omega arith) p).1

-- in a buffer of one byte only, that byte stands after it
pub front_then : (size byte : ℕ) (b : List ℕ) (m : ℕ) (xs : List ℕ) → length xs < size → Put (replicate size byte) 0 xs b m → take (m + 1) b ≡ xs ++ (byte ∷ [])
front_then size byte b m xs h p =
    let a = replicate size byte in
    let n : m + 1 ≡ length xs + 1 = omega (arith, p.0) in
    let z : 0 + length xs ≡ length xs = omega arith in
    let rest : drop (0 + length xs) a ≡ byte ∷ drop (suc (length xs)) a =
    ap (λ (k : ℕ). drop k a) z
    ∙ drop-cons a (length xs) 0 (rw (length-replicate size byte) h)
    ∙ ap (λ (k : ℕ). k ∷ drop (suc (length xs)) a) (get_or-replicate size (length xs) byte 0 h) in
    (λ i. take (n i) (p.1 i)) ∙ ap (λ (l : List ℕ). take (length xs + 1) (xs ++ l)) rest ∙ take-append-add xs (byte ∷ drop (suc (length xs)) a) 1

-- nothing appended
pub appended_none : (out : List ℕ) (at : ℕ) → Appended out at [] out at
appended_none out at = (omega arith, sym (append-nil (take at out)))

-- one appended after the other
pub appended_append : (a b c : List ℕ) (at m n : ℕ) (xs ys : List ℕ) → Appended a at xs b m → Appended b m ys c n → Appended a at (xs ++ ys) c n
appended_append a b c at m n xs ys h k = (
  omega (arith, h.0, k.0, length-append xs ys),
  k.1 ∙ ap (λ (l : List ℕ). l ++ ys) h.1 ∙ append_assoc (take at a) xs ys,
)
