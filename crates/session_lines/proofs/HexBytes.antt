-- Bytes in pairs of hexadecimal digits: what is written is read back, and pairs of digits are the text of what they are read as. Assumes nothing.
use mathlib.Core.Path.{◌≡◌, refl, sym, ap, ◌∙◌}
use mathlib.Core.Bool.{true}
use mathlib.Core.List.{List, [], ◌∷◌}
use Prim.Native.Nat.{ℕ, zero, suc, ◌+◌, ◌*◌, ◌/◌, ◌%◌, ◌<◌}
use native.Mathlib.Omega.{arith}
use lib.ListN.{length, get_or}
use Rattle.bits.specs.Bits.{cut}
use Rattle.bits.specs.Lists.{Every}
use Rattle.bits.proofs.Cut.{cut_ext, cut_suc}
use Rattle.session.specs.Format.{hex_digit, hex_text}
use Rattle.session_lines.specs.Lines.{hex_value, all_hex, hex_bytes}
use Rattle.session_lines.proofs.HexDigits.{digit_is, digit_value, hex_back, hex_value_le, hex_parts}

-- the text of bytes has nothing but digits
pub text_hex : (bs : List ℕ) → Every (λ b. b < 256) bs → all_hex (hex_text bs) ≡ true
unfolding hex_text all_hex
text_hex [] h = refl
text_hex (b ∷ bs) h =
    let small : b < 256 = h.0 in
    rw (digit_is (b / 16) (omega arith), digit_is (b % 16) (omega arith)) (text_hex bs h.1)

-- the text of bytes is read as these bytes
pub text_back : (bs : List ℕ) → Every (λ b. b < 256) bs → hex_bytes (hex_text bs) ≡ bs
unfolding hex_text hex_bytes
text_back [] h = refl
text_back (b ∷ bs) h =
    let small : b < 256 = h.0 in
    let same : 16 * hex_value (hex_digit (b / 16)) + hex_value (hex_digit (b % 16)) ≡ b =
    omega (arith, digit_value (b / 16) (omega arith), digit_value (b % 16) (omega arith)) in
    λ i. same i ∷ text_back bs h.1 i

-- pairs of digits are the text of as many bytes, which they are read as
pub text_only : (ds : List ℕ) (n : ℕ) → all_hex ds ≡ true → length ds ≡ 2 * n
    → (hex_text (hex_bytes ds) ≡ ds) × (length (hex_bytes ds) ≡ n) × Every (λ b. b < 256) (hex_bytes ds)
unfolding hex_text hex_bytes
text_only [] n e h = (refl, omega arith, tt)
text_only (c ∷ []) n e h = absurd (omega arith)
text_only (c ∷ d ∷ cs) zero e h = absurd (omega arith)
text_only (c ∷ d ∷ cs) (suc n) e h =
    let p = hex_parts c (d ∷ cs) e in
    let q = hex_parts d cs p.1 in
    let high = hex_value_le c p.0 in
    let low = hex_value_le d q.0 in
    let rest = text_only cs n q.1 (omega arith) in
    let first : (16 * hex_value c + hex_value d) / 16 ≡ hex_value c = omega arith in
    let second : (16 * hex_value c + hex_value d) % 16 ≡ hex_value d = omega arith in (
      λ i. (ap hex_digit first ∙ hex_back c p.0) i ∷ (ap hex_digit second ∙ hex_back d q.0) i ∷ rest.0 i,
      ap suc rest.1,
      (omega arith, rest.2),
    )

-- the byte that the digits at 2 × i and after it are read as
abbrev pub byte_in : List ℕ → ℕ → ℕ
byte_in ds i = 16 * hex_value (get_or ds (2 * i) 0) + hex_value (get_or ds (2 * i + 1) 0)

-- the bytes of pairs of digits, place by place
pub hex_at : (ds : List ℕ) (n : ℕ) → length ds ≡ 2 * n → hex_bytes ds ≡ cut (byte_in ds) 0 n
unfolding hex_bytes
hex_at [] zero h = refl
hex_at [] (suc n) h = absurd (omega arith)
hex_at (c ∷ []) n h = absurd (omega arith)
hex_at (c ∷ d ∷ cs) zero h = absurd (omega arith)
hex_at (c ∷ d ∷ cs) (suc n) h =
    let even : (j : ℕ) → 2 * suc j ≡ suc (suc (2 * j)) = λ j. omega arith in
    let odd : (j : ℕ) → 2 * suc j + 1 ≡ suc (suc (2 * j + 1)) = λ j. omega arith in
    let later : (j : ℕ) → byte_in cs j ≡ byte_in (c ∷ d ∷ cs) (suc j) =
    λ j. (λ i. 16 * hex_value (get_or (c ∷ d ∷ cs) (sym (even j) i) 0) + hex_value (get_or (c ∷ d ∷ cs) (sym (odd j) i) 0)) in
    ap (λ (l : List ℕ). (16 * hex_value c + hex_value d) ∷ l)
    (hex_at cs n (omega arith)
    ∙ cut_ext (byte_in cs) (λ j. byte_in (c ∷ d ∷ cs) (suc j)) 0 n (λ j a b. later j)
    ∙ sym (cut_suc (byte_in (c ∷ d ∷ cs)) 0 n))
