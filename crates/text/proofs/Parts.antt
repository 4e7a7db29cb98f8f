-- A part of a line: it is put where there is room for it, and has at most so many bytes. One part after the other, and a whole line. Assumes nothing.
use mathlib.Core.List.{List, ◌++◌, append_assoc}
use Prim.Native.Nat.{ℕ, ◌+◌, ◌^◌, ◌≤◌, ◌<◌}
use native.Mathlib.Omega.{arith}
use lib.ListN.{length, take, replicate, length-append, length-take, length-replicate}
use Rattle.text.specs.Text.{ascii, decimal}
use Rattle.text.specs.Placing.{Put, PutIfRoom}
use Rattle.std.specs.Prelude.{Result}
use Rattle.refusal.specs.declared.Refusal.{Refusal}
use Rattle.text.proofs.Answers.{Owes}
use Rattle.text.proofs.Decimals.{decimal_length}
use Rattle.text.proofs.Puts.{put_if_room_append, front_is, front_then}

abbrev pub Part : List ℕ → ℕ → List ℕ → ℕ → List ℕ → ℕ → Type 0
Part before at text most after end = PutIfRoom before at text after end × (length text ≤ most)

-- one after the other
pub part_append : (a b c : List ℕ) (at m n p q : ℕ) (xs ys : List ℕ) → Part a at xs p b m → Part b m ys q c n → Part a at (xs ++ ys) (p + q) c n
part_append a b c at m n p q xs ys h k = (put_if_room_append a b c at m n xs ys h.0 k.0, omega (arith, length-append xs ys, h.1, k.1))

-- three texts, of which the last two were one
pub part_group : (a b : List ℕ) (at m p : ℕ) (xs ys zs : List ℕ) → Part a at (xs ++ (ys ++ zs)) p b m → Part a at (xs ++ ys ++ zs) p b m
part_group a b at m p xs ys zs h = rw (append_assoc xs ys zs) h

-- at most so many are at most more
pub part_within : (a b : List ℕ) (at m p q : ℕ) (xs : List ℕ) → p ≤ q → Part a at xs p b m → Part a at xs q b m
part_within a b at m p q xs l h = (h.0, omega (arith, h.1))

-- a number of 32 bits has at most ten digits
pub level_part : (a b : List ℕ) (at m : ℕ) (name : List ℕ) (n : ℕ) → n < 2 ^ 32 → PutIfRoom a at (name ++ decimal n) b m → Part a at (name ++ decimal n) (length name + 10) b m
level_part a b at m name n l h = (h, omega (arith, length-append name (decimal n), decimal_length 9 n (omega arith)))

-- a text after a name
pub field_le : (name : List ℕ) (width : ℕ) (text : List ℕ) (most : ℕ) → length text ≤ most → length (take width name ++ text) ≤ width + most
field_le name width text most h = omega (arith, length-append (take width name) text, length-take width name)

-- a line that was put to the front of a buffer of its own, and then into the lent one
module _ (a line text : List ℕ) (end most : ℕ) (w : Part a 0 text most line end) (h : most ≤ length a) where
  pub line_end_le : end ≤ length a
  line_end_le = omega (arith, w.1, (w.0 (omega (arith, w.1))).0)

  pub line_owes : (out after : List ℕ) (at : ℕ) (answer : Result ℕ Refusal) → Owes (take end line) at out after answer → Owes text at out after answer
  line_owes out after at answer o = rw (front_is a line end text (w.0 (omega (arith, w.1)))) at o

-- the same in a buffer of line ends, with the one that stands after it
module _ (size : ℕ) (line text : List ℕ) (end most : ℕ) (w : Part (replicate size 10) 0 text most line end) (h : most < size) where
  put : Put (replicate size 10) 0 text line end
  put = w.0 (omega (arith, w.1, length-replicate {A = ℕ} size 10))

  pub ended_lt : end < size
  ended_lt = omega (arith, w.1, put.0)

  pub ended_owes : (out after : List ℕ) (at : ℕ) (answer : Result ℕ Refusal) → Owes (take (end + 1) line) at out after answer
      → Owes (text ++ ascii "\n") at out after answer
  ended_owes out after at answer o = rw (front_then size 10 line end text (omega (arith, w.1)) put) at o

  pub ended_le : length (text ++ ascii "\n") ≤ size
  ended_le = omega (arith, w.1, length-append text (ascii "\n"))
