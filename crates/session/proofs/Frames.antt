-- Bytes that are frames one after another: how many they are, each of them, and both ways between the bytes and the frames. Assumes nothing.
use mathlib.Core.Path.{◌≡◌, refl, sym, ap, ap₂, ◌∙◌}
use mathlib.Core.Bool.{true, and-eq-true_iff}
use mathlib.Core.List.{List, [], ◌∷◌, ◌++◌}
use Prim.Native.Nat.{ℕ, zero, suc, ◌+◌, ◌*◌, ◌/◌, ◌%◌, ◌≤◌, ◌<◌}
use native.Mathlib.Omega.{arith}
use lib.Dec.{eqb, leb}
use Rattle.std.specs.Simd.{first_chunks}
use lib.ListN.{length, take, drop, length-append, length-drop}
use lib.Seq.{length-take-le, take_all, take_at, take-add, drop-drop, drop-append-add}
use borrow.Author.Tests.{eqb-true, leb-true, eq-eqb, le-leb}
use Rattle.bits.specs.Bits.{cut}
use Rattle.bits.specs.Lists.{Every}
use Rattle.bits.proofs.Chunks
use Rattle.bits.proofs.Cut.{cut_length, cut_ext, cut_suc}
use Rattle.session.specs.Format.{most_frames}
use Rattle.session.specs.Writing.{frame_at, frames_of, joined, is_whole}
use Rattle.session.proofs.Elements.{every_take, every_drop, every_cut}

-- there is a frame for every seven bytes
pub frames_length : (bytes : List ℕ) → length (frames_of bytes) ≡ length bytes / 7
unfolding frames_of
frames_length bytes = cut_length (frame_at bytes) 0 (length bytes / 7)

-- 0 to 2,000 whole frames are so many, and no bytes are left
pub whole_parts : (bytes : List ℕ) → is_whole bytes ≡ true → (length bytes % 7 ≡ 0) × (length bytes / 7 ≤ most_frames)
whole_parts bytes e =
    let p = (and-eq-true_iff (eqb (length bytes % 7) 0) (leb (length bytes / 7) most_frames)).0 e in
    (eqb-true (length bytes % 7) 0 p.0, leb-true (length bytes / 7) most_frames p.1)

-- and only such bytes are
pub whole_is : (bytes : List ℕ) → length bytes % 7 ≡ 0 → length bytes / 7 ≤ most_frames → is_whole bytes ≡ true
whole_is bytes r n = (and-eq-true_iff (eqb (length bytes % 7) 0) (leb (length bytes / 7) most_frames)).1 (eq-eqb _ 0 r, le-leb _ most_frames n)

-- std's chunks of seven bytes are the frames
pub chunks_are : (bytes : List ℕ) → first_chunks 7 (length bytes / 7) bytes ≡ frames_of bytes
unfolding frames_of
chunks_are bytes = Chunks.chunks_are 7 bytes (length bytes / 7)

-- a whole frame has seven bytes
pub frame_length : (bytes : List ℕ) (k : ℕ) → k < length bytes / 7 → length (frame_at bytes k) ≡ 7
frame_length bytes k h = length-take-le 7 (drop (7 * k) bytes) (omega (arith, length-drop (7 * k) bytes))

-- each of them is a byte where all are
frame_bytes : (bytes : List ℕ) (k : ℕ) → Every (λ b. b < 256) bytes → Every (λ b. b < 256) (frame_at bytes k)
frame_bytes bytes k h = every_take (λ b. b < 256) 7 (drop (7 * k) bytes) (every_drop (λ b. b < 256) (7 * k) bytes h)

-- all frames have seven bytes
pub frames_sized : (bytes : List ℕ) → Every (λ f. length f ≡ 7) (frames_of bytes)
unfolding frames_of
frames_sized bytes = every_cut (λ f. length f ≡ 7) (frame_at bytes) 0 (length bytes / 7) (λ j a b. frame_length bytes j (omega arith))

-- all frames of bytes are seven bytes
pub frames_seven : (bytes : List ℕ) → Every (λ b. b < 256) bytes → Every (λ f. (length f ≡ 7) × Every (λ b. b < 256) f) (frames_of bytes)
unfolding frames_of
frames_seven bytes h =
    every_cut (λ f. (length f ≡ 7) × Every (λ b. b < 256) f) (frame_at bytes) 0 (length bytes / 7)
    (λ j a b. (frame_length bytes j (omega arith), frame_bytes bytes j h))

-- the bytes of n frames from frame i on
joined_cut : (bytes : List ℕ) (i n : ℕ) → joined (cut (frame_at bytes) i n) ≡ take (7 * n) (drop (7 * i) bytes)
unfolding joined
joined_cut bytes i zero = refl
joined_cut bytes i (suc n) =
    let next : 7 * suc i ≡ 7 * i + 7 = omega arith in
    let size : 7 + 7 * n ≡ 7 * suc n = omega arith in
    let rest : drop (7 * suc i) bytes ≡ drop 7 (drop (7 * i) bytes) = ap (λ (k : ℕ). drop k bytes) next ∙ sym (drop-drop 7 (7 * i) bytes) in
    ap (λ (l : List ℕ). frame_at bytes i ++ l) (joined_cut bytes (suc i) n ∙ ap (take (7 * n)) rest)
    ∙ sym (take-add 7 (7 * n) (drop (7 * i) bytes))
    ∙ ap (λ (k : ℕ). take k (drop (7 * i) bytes)) size

-- the bytes of the first k frames
joined_front : (bytes : List ℕ) (k : ℕ) → joined (cut (frame_at bytes) 0 k) ≡ take (7 * k) bytes
joined_front bytes k = joined_cut bytes 0 k

-- whole frames joined are the bytes
pub frames_joined : (bytes : List ℕ) → length bytes % 7 ≡ 0 → joined (frames_of bytes) ≡ bytes
unfolding frames_of
frames_joined bytes h = joined_front bytes (length bytes / 7) ∙ take_all (7 * (length bytes / 7)) bytes (omega arith)

-- frames joined have seven bytes each
joined_length : (fs : List (List ℕ)) → Every (λ f. length f ≡ 7) fs → length (joined fs) ≡ 7 * length fs
unfolding joined
joined_length [] h = refl
joined_length (f ∷ fs) h = length-append f (joined fs) ∙ omega (arith, h.0, joined_length fs h.1)

-- and are cut into the same frames again
joined_back : (fs : List (List ℕ)) → Every (λ f. length f ≡ 7) fs → cut (frame_at (joined fs)) 0 (length fs) ≡ fs
unfolding joined
joined_back [] h = refl
joined_back (f ∷ fs) h =
    let next : (j : ℕ) → 7 * suc j ≡ length f + 7 * j = λ j. omega (arith, h.0) in
    let later : (j : ℕ) → frame_at (f ++ joined fs) (suc j) ≡ frame_at (joined fs) j = λ j. ap (λ (k : ℕ). take 7 (drop k (f ++ joined fs))) (next j) ∙ ap (take 7) (drop-append-add f (joined fs) (7 * j)) in
    ap₂ (λ (x : List ℕ) (xs : List (List ℕ)). x ∷ xs) (take_at f (joined fs) 7 h.0)
    (cut_suc (frame_at (f ++ joined fs)) 0 (length fs)
    ∙ cut_ext (λ j. frame_at (f ++ joined fs) (suc j)) (frame_at (joined fs)) 0 (length fs) (λ j a b. later j)
    ∙ joined_back fs h.1)

-- so frames joined are whole frames, the same ones
pub joined_frames : (fs : List (List ℕ)) → Every (λ f. length f ≡ 7) fs → (frames_of (joined fs) ≡ fs) × (length (joined fs) ≡ 7 * length fs)
unfolding frames_of
joined_frames fs h =
    let n : length (joined fs) / 7 ≡ length fs = omega (arith, joined_length fs h) in
    (ap (cut (frame_at (joined fs)) 0) n ∙ joined_back fs h, joined_length fs h)
