-- The third line by its bytes: whether it is good, and where the first frame's line starts. Assumes nothing.
use mathlib.Core.Path.{◌≡◌, refl, sym, ap, ◌∙◌}
use mathlib.Core.Bool.{Bool, true, ◌&&◌}
use mathlib.Core.List.{List}
use Prim.Native.Nat.{ℕ, ◌+◌}
use native.Mathlib.Omega.{arith}
use lib.Dec.{leb}
use lib.ListN.{length, take, drop}
use Rattle.text.specs.Text.{ascii}
use Rattle.session.specs.Format.{header, most_frames}
use Rattle.session_lines.specs.Lines.{line_of, digits_value, count_of, is_count_line}
use Rattle.session_lines.specs.Scans.{begins, digits_in}
use Rattle.session_lines.proofs.CountLines.{count_length, count_digits}
use Rattle.session_lines.proofs.CountScans.{well_ended, number_told}
use Rattle.session_lines.proofs.HeaderLines.{name_begins, third_told}

module _ (text : List ℕ) where
  -- the text from the number on, its value, and how many digits it has
  abbrev pub rest : List ℕ
  rest = drop 7 text

  abbrev pub n : ℕ
  n = digits_value 0 (take 4 rest)

  abbrev pub size : ℕ
  size = digits_in (take 4 rest)

  -- the first line is a good third one where the number is not too high, its name stands before it, and it is well ended
  pub third_scan : is_count_line (line_of text) ≡ (leb n most_frames && (begins (ascii "frames=") text && well_ended size rest))
  third_scan =
      sym (third_told text n refl)
      ∙ ap (λ (b : Bool). leb n most_frames && b) (name_begins n text ∙ ap (λ (b : Bool). begins (ascii "frames=") text && b) (number_told rest).0)

  -- where its name stands and it is well ended, the three lines for its number have 30 bytes and its digits
  pub scan_size : begins (ascii "frames=") text ≡ true → well_ended size rest ≡ true → (count_of (line_of text) ≡ n) × (length (header n) ≡ 30 + size)
  unfolding header
  scan_size name e = (count_digits text name, omega (arith, count_length n, (number_told rest).1 e))
