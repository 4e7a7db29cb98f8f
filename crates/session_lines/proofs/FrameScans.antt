-- Whether the first line of a text is a frame's, by the bytes of the text. Assumes nothing.
use mathlib.Core.Path.{◌≡◌, refl, sym, ap, ◌∙◌}
use mathlib.Core.Bool.{Bool, true, false, ◌&&◌, and-eq-true_iff}
use mathlib.Core.List.{List, [], ◌∷◌, ◌++◌}
use Prim.Native.Nat.{ℕ, ◌≤◌}
use native.Mathlib.Omega.{arith}
use lib.ListN.{length, take, drop, length-drop, take-append-drop}
use lib.Seq.{take_at, drop_at, length-take-le, take-take, take-add, drop-drop, append_snoc}
use Rattle.text.specs.Text.{ascii}
use Rattle.session_lines.specs.Lines.{line_of, all_hex, hex_bytes, is_frame_line, frame_of}
use Rattle.session_lines.specs.Scans.{begins}
use Rattle.session_lines.proofs.Scans.{begins_is}
use Rattle.session_lines.proofs.WholeLines.{line_first}
use Rattle.session_lines.proofs.Fronts.{line_le, line_front}
use Rattle.session_lines.proofs.HexDigits.{hex_plain}
use Rattle.session_lines.proofs.FrameLines.{digits_line, digits_are, digits_line_lem}

-- the digits of the first 17 bytes are those of the text
pub part_is : (t : List ℕ) → take 14 (drop 2 (take 17 t)) ≡ take 14 (drop 2 t)
part_is [] = refl
part_is (a ∷ []) = refl
part_is (a ∷ b ∷ cs) = take-take 14 15 cs (omega arith)

-- and what follows these digits is one byte of it
pub end_is : (t : List ℕ) → 17 ≤ length t → drop 14 (drop 2 (take 17 t)) ≡ take 1 (drop 16 t)
end_is t h = drop-drop 14 2 (take 17 t) ∙ ap (drop 16) (take-add 16 1 t) ∙ drop_at (take 16 t) (take 1 (drop 16 t)) 16 (length-take-le 16 t (omega (arith, h)))

-- a first line that is a frame's is the first 17 bytes of the text
pub frame_is : (t : List ℕ) → is_frame_line (line_of t) ≡ true
    → (17 ≤ length t) × (line_of t ≡ take 17 t) × (frame_of (line_of t) ≡ hex_bytes (take 14 (drop 2 t)))
unfolding frame_of
frame_is t e =
    let n : length (line_of t) ≡ 17 = (digits_are (line_of t) e).2 in
    let front : line_of t ≡ take 17 t = sym (line_front t) ∙ ap (λ (k : ℕ). take k t) n in
    (omega (arith, line_le t), front, ap (λ (l : List ℕ). hex_bytes (take 14 (drop 2 l))) front ∙ ap hex_bytes (part_is t))

-- the tests of what a text begins with: `f=`, 14 digits and the line end
abbrev pub scanned : List ℕ → Bool
scanned t = begins (ascii "f=") t && (begins (ascii "\n") (drop 16 t) && all_hex (take 14 (drop 2 t)))

-- a frame's line and what follows it pass these tests
line_scanned : (ds r : List ℕ) → length ds ≡ 14 → all_hex ds ≡ true → scanned (digits_line ds ++ r) ≡ true
unfolding begins
line_scanned ds r n e =
    let rest : ds ++ (10 ∷ []) ++ r ≡ ds ++ (10 ∷ r) = append_snoc ds 10 r in
    ap (λ (l : List ℕ). begins (ascii "\n") (drop 14 l) && all_hex (take 14 l)) rest ∙ rw (drop_at ds (10 ∷ r) 14 n, take_at ds (10 ∷ r) 14 n, e) refl

-- a text that passes them begins with a frame's line
scanned_line : (t : List ℕ) → scanned t ≡ true → is_frame_line (line_of t) ≡ true
scanned_line t e =
    let ds : List ℕ = take 14 (drop 2 t) in
    let p = (and-eq-true_iff (begins (ascii "f=") t) (begins (ascii "\n") (drop 16 t) && all_hex ds)).0 e in
    let q = (and-eq-true_iff (begins (ascii "\n") (drop 16 t)) (all_hex ds)).0 p.1 in
    let end : drop 16 t ≡ 10 ∷ drop 1 (drop 16 t) = begins_is (ascii "\n") (drop 16 t) q.0 in
    let long : 17 ≤ length t = omega (arith, ap length end, length-drop 16 t) in
    let rest : drop 2 t ≡ ds ++ (10 ∷ []) ++ drop 17 t =
    sym (take-append-drop 14 (drop 2 t))
    ∙ ap (λ (l : List ℕ). ds ++ l) (drop-drop 14 2 t ∙ end ∙ ap (λ (l : List ℕ). 10 ∷ l) (drop-drop 1 16 t))
    ∙ sym (append_snoc ds 10 (drop 17 t)) in
    let whole : t ≡ digits_line ds ++ drop 17 t = begins_is (ascii "f=") t p.0 ∙ ap (λ (l : List ℕ). 102 ∷ 61 ∷ l) rest in
    let line : line_of t ≡ digits_line ds =
    ap line_of whole ∙ line_first (102 ∷ 61 ∷ ds) (drop 17 t) (λ e. omega arith, (λ e. omega arith, hex_plain ds q.1)) in
    ap is_frame_line line ∙ digits_line_lem ds (length-take-le 14 (drop 2 t) (omega (arith, long, length-drop 2 t))) q.1

-- so they tell whether the first line of a text is a frame's
pub scan_is : (t : List ℕ) → is_frame_line (line_of t) ≡ scanned t
scan_is t = go (is_frame_line (line_of t)) (scanned t) to (scanned_line t)
  where
    to : is_frame_line (line_of t) ≡ true → scanned t ≡ true
    to e =
        let p = digits_are (line_of t) e in
        let front = (frame_is t e).1 in
        let whole : t ≡ digits_line (take 14 (drop 2 (line_of t))) ++ drop 17 t =
        sym (take-append-drop 17 t) ∙ ap (λ (l : List ℕ). l ++ drop 17 t) (sym front ∙ p.0) in
        ap scanned whole ∙ line_scanned (take 14 (drop 2 (line_of t))) (drop 17 t) p.3 p.1

    go : (a b : Bool) → (a ≡ true → b ≡ true) → (b ≡ true → a ≡ true) → a ≡ b
    go true b f g = sym (f refl)
    go false true f g = g refl
    go false false f g = refl
