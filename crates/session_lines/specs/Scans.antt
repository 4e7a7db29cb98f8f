-- Helpers of the code: a text by what it begins with.
use Rattle.std.specs.Prelude.{ℕ, suc, Bool, true, false, ◌&&◌, cond, List, [], ◌∷◌, eqb, length, Option, None, Some}
use Rattle.session.specs.Format.{header}
use Rattle.session_lines.specs.Lines.{line_of, is_digit, count_of, is_count_line}
use Rattle.session_lines.specs.declared.header.Header.{Header}

-- whether a text begins with these bytes
unfoldable pub begins : List ℕ → List ℕ → Bool
begins [] text = true
begins (b ∷ bs) [] = false
begins (b ∷ bs) (c ∷ cs) = eqb b c && begins bs cs

-- how many digits are in front of a text
unfoldable pub digits_in : List ℕ → ℕ
digits_in [] = 0
digits_in (c ∷ cs) = cond (is_digit c) (suc (digits_in cs)) 0

-- what the first line of a text tells as a third line, if it is one
abbrev pub counted : List ℕ → Option Header
counted text = cond (is_count_line (line_of text)) (Some (record { frames = count_of (line_of text); first = length (header (count_of (line_of text))) })) None
