-- Bytes of text. A helper of the texts that document 01 has read and printed.
use Rattle.std.specs.Prelude.{ℕ, ◌+◌}

-- the byte of a digit: 48 is `0`
abbrev pub digit_byte : ℕ → ℕ
digit_byte d = 48 + d
