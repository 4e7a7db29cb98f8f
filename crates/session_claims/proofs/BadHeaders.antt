-- The first bad one of the three lines before the frames is the first bad line of the text. Assumes nothing.
use mathlib.Core.Path.{◌≡◌, refl, sym, ap, ◌∙◌}
use mathlib.Core.Bool.{Bool, true, false, false≢true}
use mathlib.Core.List.{List, [], ◌++◌}
use Prim.Native.Nat.{ℕ, ◌≤◌}
use native.Mathlib.Omega.{arith}
use lib.ListN.{drop}
use lib.Seq.{drop-drop}
use Rattle.std.specs.Prelude.{Some}
use Rattle.session.specs.Format.{file_line, order_line, count_line, most_frames}
use Rattle.text.specs.Text.{ascii}
use Rattle.session_lines.specs.Lines.{line_of, same_bytes, is_count_line}
use Rattle.session_lines.specs.Scans.{begins}
use Rattle.session_lines.specs.Headers.{third_line, first_bad, bad_header_line}
use Rattle.session_claims.specs.Claims.{FirstBad}
use Rattle.session_lines.proofs.Scans.{begins_is}
use Rattle.session_lines.proofs.WholeLines.{Plain, ended, line_begins, same_back}
use Rattle.session_lines.proofs.CountLines.{count_good}
use Rattle.session_lines.proofs.HeaderLines.{bad_is}

-- a text that does not begin with a line has another first line
other_line : (body t : List ℕ) → Plain body → begins (ended body) t ≡ false → line_of t ≡ ended body → ⊥
other_line body t p e q =
    false≢true (sym e ∙ sym (line_begins body t p) ∙ ap (λ (l : List ℕ). same_bytes l (ended body)) q ∙ same_back (ended body))

-- a line that is no third line is that for no number up to 2,000
other_count : (l : List ℕ) → is_count_line l ≡ false → (n : ℕ) → n ≤ most_frames → l ≡ count_line n → ⊥
other_count l e n h q = false≢true (sym e ∙ ap is_count_line q ∙ count_good n h)

-- the first bad line of the three
pub bad_header : (text : List ℕ) (number line : ℕ) → number ≡ 8 → bad_header_line text ≡ Some line → FirstBad text [] number line
bad_header text number line eight e =
    go (begins file_line text) (begins order_line (drop 10 text)) (is_count_line (third_line text)) refl refl refl (sym (bad_is text) ∙ e)
  where
    go : (a b c : Bool) → begins file_line text ≡ a → begins order_line (drop 10 text) ≡ b → is_count_line (third_line text) ≡ c → first_bad a b c ≡ Some line
        → FirstBad text [] number line
    go false b c f o n z = FirstBad.file refl eight (cc) (other_line (ascii "file=melp") text (omega arith) f)
    go true false c f o n z =
        FirstBad.order (drop 10 text) refl eight (cc) (begins_is file_line text f) (other_line (ascii "order=house") (drop 10 text) (omega arith) o)
    go true true false f o n z =
        let order : drop 10 text ≡ order_line ++ drop 22 text =
        begins_is order_line (drop 10 text) o ∙ ap (λ (l : List ℕ). order_line ++ l) (drop-drop 12 10 text) in
        FirstBad.count (drop 22 text) refl eight (cc) (begins_is file_line text f ∙ ap (λ (l : List ℕ). file_line ++ l) order)
        (other_count (third_line text) n)
    go true true true f o n z = absurd cc
