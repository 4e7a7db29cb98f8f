-- Document 01, "LSF and magnitude values": the lines that `spectrum` prints.
use Rattle.std.specs.Prelude.{ℕ, List, ◌++◌, ℤ}
use Rattle.text.specs.Text.{ascii, decimal, signed, field}

-- the line of a value
unfoldable pub value_line : ℤ → List ℕ
value_line x = signed x ++ ascii "\n"

-- the line of a refusal, where nothing else is printed
unfoldable pub refusal_line : ℕ → List ℕ
refusal_line n = field "refused=" (decimal n) ++ ascii "\n"
