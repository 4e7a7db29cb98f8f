-- `session_lines::frames::seven_bytes` meets its contract: after i turns i bytes are made. Assumes nothing.
use mathlib.Core.Path.{◌≡◌, refl, sym, ap, ◌∙◌}
use mathlib.Core.List.{List, [], ◌∷◌, append-nil}
use Prim.Native.Nat.{ℕ, zero, suc, ◌+◌, ◌*◌, ◌/◌, ◌<◌}
use native.Mathlib.Omega.{arith}
use lib.ListN.{length, get_or, set, replicate, length-replicate}
use Rattle.std.specs.Simd.{first_chunks}
use Rattle.bits.proofs.Cut.{cut_length, cut_at}
use Rattle.bits.proofs.Front.{front_more, front_all}
use Rattle.session_lines.specs.Lines.{is_hex, hex_value, hex_bytes}
use Rattle.session_lines.proofs.HexDigits.{hex_digit_at}
use Rattle.session_lines.proofs.HexBytes.{byte_in, hex_at}
use Rattle.session_lines.proofs.frames.seven_bytes.Goals as goal

-- pair i of digits
pair_at : (ds : List ℕ) (n i : ℕ) → length ds ≡ 2 * n → i < n → get_or (first_chunks 2 n ds) i [] ≡ get_or ds (2 * i) 0 ∷ get_or ds (2 * i + 1) 0 ∷ []
pair_at [] n i h l = absurd (omega arith)
pair_at (a ∷ []) n i h l = absurd (omega arith)
pair_at (a ∷ b ∷ cs) zero i h l = absurd (omega arith)
pair_at (a ∷ b ∷ cs) (suc n) zero h l = refl
pair_at (a ∷ b ∷ cs) (suc n) (suc i) h l =
    let even : 2 * suc i ≡ suc (suc (2 * i)) = omega arith in
    let odd : 2 * suc i + 1 ≡ suc (suc (2 * i + 1)) = omega arith in
    pair_at cs n i (omega arith) (omega arith)
    ∙ (λ k. get_or (a ∷ b ∷ cs) (sym even k) 0 ∷ get_or (a ∷ b ∷ cs) (sym odd k) 0 ∷ [])

module _ (digits : List ℕ) (h : length digits ≡ 14) where
  -- seven bytes
  size : length (hex_bytes digits) ≡ 7
  size = ap length (hex_at digits 7 h) ∙ cut_length (byte_in digits) 0 7

  -- byte i is that of its two digits
  byte_is : (i : ℕ) → i < 7 → byte_in digits i ≡ get_or (hex_bytes digits) i 0
  byte_is i l = sym (ap (λ (l : List ℕ). get_or l i 0) (hex_at digits 7 h) ∙ cut_at 0 (byte_in digits) 0 7 i l ∙ ap (byte_in digits) (omega arith))

pub hex_byte-requires : goal.hex_byte-requires
hex_byte-requires c =
    let ds = c.args.digits.now in
    let i = c.loop-i.i in
    let long : length ds ≡ 14 = omega arith in
    let half : length ds / 2 ≡ 7 = omega arith in
    let front : c.as_chunks.result.0.now ≡ first_chunks 2 (length ds / 2) ds = c.as_chunks.ensures.front in
    let count : length c.as_chunks.result.0.now ≡ length ds / 2 = c.as_chunks.ensures.front_len in
    let few : i < 7 = omega (arith, c.loop-i-test.true) in
    let pair = ap (λ (ps : List (List ℕ)). get_or ps i []) (front ∙ ap (λ (n : ℕ). first_chunks 2 n ds) half) ∙ pair_at ds 7 i long few in (
      ap (λ (p : List ℕ). is_hex (get_or p 0 0)) pair ∙ hex_digit_at ds (2 * i) c.requires (omega arith),
      ap (λ (p : List ℕ). is_hex (get_or p 1 0)) pair ∙ hex_digit_at ds (2 * i + 1) c.requires (omega arith),
    )

pub loop-i-preserved : goal.loop-i-preserved
loop-i-preserved c =
    let ds = c.args.digits.now in
    let i = c.loop-i.i in
    let long : length ds ≡ 14 = omega arith in
    let half : length ds / 2 ≡ 7 = omega arith in
    let front : c.as_chunks.result.0.now ≡ first_chunks 2 (length ds / 2) ds = c.as_chunks.ensures.front in
    let count : length c.as_chunks.result.0.now ≡ length ds / 2 = c.as_chunks.ensures.front_len in
    let few : i < 7 = omega (arith, c.loop-i-test.true) in
    let pair = ap (λ (ps : List (List ℕ)). get_or ps i []) (front ∙ ap (λ (n : ℕ). first_chunks 2 n ds) half) ∙ pair_at ds 7 i long few in
    let stored = c.hex_byte.ensures ∙ ap (λ (p : List ℕ). 16 * hex_value (get_or p 0 0) + hex_value (get_or p 1 0)) pair ∙ byte_is ds long i few in
    let more = front_more (hex_bytes ds) (replicate 7 0) i 0 (omega (arith, length-replicate {A = ℕ} 7 0)) (omega (arith, size ds long)) in
    (λ k. set (c.loop-i.invariant k) i (stored k)) ∙ more

pub returns : goal.returns
returns c =
    let L = c.loop-i in
    let ds = c.args.digits.now in
    let long : length ds ≡ 14 = omega arith in
    let half : length ds / 2 ≡ 7 = omega arith in
    let count : length c.as_chunks.result.0.now ≡ length ds / 2 = c.as_chunks.ensures.front_len in
    front_all (hex_bytes ds) (replicate 7 0) L.frame L.i 7 L.invariant (omega (arith, c.loop-i-test.false)) (omega (arith, size ds long)) ∙ append-nil (hex_bytes ds)
