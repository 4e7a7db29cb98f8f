-- std's chunks of w values are the cuts at w, 2 w and so on. Assumes nothing.
use mathlib.Core.Path.{◌≡◌, refl, sym, ap, ◌∙◌}
use mathlib.Core.List.{List, [], ◌∷◌}
use Prim.Native.Nat.{ℕ, zero, suc, ◌*◌, ◌<◌}
use native.Mathlib.Nat.{zero-add, mul-zero, mul-suc}
use native.Mathlib.Omega.{arith}
use lib.ListN.{take, drop, get_or}
use lib.Seq.{drop-drop}
use Rattle.std.specs.Simd.{first_chunks}
use Rattle.bits.specs.Bits.{cut}
use Rattle.bits.proofs.Cut.{cut_at}

module _ {A : Type 0} (w : ℕ) (xs : List A) where
  -- the w values at place k of such cuts
  abbrev pub chunk : ℕ → List A
  chunk k = take w (drop (w * k) xs)

  chunks_from : (i n : ℕ) → first_chunks w n (drop (w * i) xs) ≡ cut chunk i n
  chunks_from i zero = refl
  chunks_from i (suc n) =
      let rest : drop w (drop (w * i) xs) ≡ drop (w * suc i) xs = drop-drop w (w * i) xs ∙ ap (λ (k : ℕ). drop k xs) (omega (arith, mul-suc w i)) in
      ap (λ (l : List (List A)). chunk i ∷ l) (ap (first_chunks w n) rest ∙ chunks_from (suc i) n)

  -- the first n chunks
  pub chunks_are : (n : ℕ) → first_chunks w n xs ≡ cut chunk 0 n
  chunks_are n = ap (λ (m : ℕ). first_chunks w n (drop m xs)) (sym (mul-zero w)) ∙ chunks_from 0 n

  -- chunk k of them
  pub chunk_at : (n k : ℕ) (chunks : List (List A)) → chunks ≡ first_chunks w n xs → k < n → get_or chunks k [] ≡ chunk k
  chunk_at n k chunks e h = ap (λ (l : List (List A)). get_or l k []) (e ∙ chunks_are n) ∙ cut_at [] chunk 0 n k h ∙ ap chunk (zero-add k)
