-- Document 01, "LSF and magnitude values": what the program prints for its three inputs, each taken whole: standard input, and the texts of
-- `lsf.txt` and `mag.txt`. A file that is missing is an empty text.
use Rattle.std.specs.Prelude.{ℕ, ◌≡◌, List, take}
use Rattle.bits.specs.Lists.{ReadFrom}
use Rattle.spectrum.specs.Values.{of_frame}
use Rattle.spectrum.specs.Lines.{text}

-- the printed bytes
abbrev pub printed : List ℕ → List ℕ → List ℕ → List ℕ
printed input lsf magnitudes = text (of_frame input lsf magnitudes)

-- the program reads at most 8 bytes of standard input and 65,536 of a file; what follows those changes nothing that is printed
pub record EnoughRead : Type 0 where
  pub same : (input lsf magnitudes : List ℕ) → printed (take 8 input) (take 65536 lsf) (take 65536 magnitudes) ≡ printed input lsf magnitudes

-- bytes that are printed for every three inputs from which these buffers were read
abbrev pub Prints : List ℕ → ℕ → List ℕ → ℕ → List ℕ → ℕ → List ℕ → Type 0
Prints input n lsf l magnitudes m bytes =
    (i f g : List ℕ) → ReadFrom input n i → ReadFrom lsf l f → ReadFrom magnitudes m g → bytes ≡ printed i f g
