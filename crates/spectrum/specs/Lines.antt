-- Document 01, "LSF and magnitude values": what the program prints.
use Rattle.std.specs.Prelude.{ℕ, List, [], ◌∷◌, ◌++◌, ℤ, Result, Ok, Err}
use Rattle.refusal.specs.Refusals.{number_of}
use Rattle.refusal.specs.declared.Refusal.{Refusal}
use Rattle.value_lines.specs.Lines.{value_line, refusal_line}
use Rattle.spectrum.specs.declared.values.Spectrum.{Spectrum}

-- a line for each number
unfoldable pub lines : List ℤ → List ℕ
lines [] = []
lines (x ∷ xs) = value_line x ++ lines xs

-- the lines of LSF values and then of magnitudes, or the line of the refusal
abbrev pub text : Result Spectrum Refusal → List ℕ
text (Ok values) = lines values.lsf ++ lines values.magnitudes
text (Err f) = refusal_line (number_of f)
