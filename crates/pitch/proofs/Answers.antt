-- What the calls answer where nothing is refused.
-- Assumes nothing.
use mathlib.Core.Path.{◌≡◌}
use Rattle.std.specs.Prelude.{Ok}
use Prim.Native.Nat.{ℕ, ◌<◌}
use borrow.Author.Tests.{lt-ltb}
use Rattle.bits.specs.Bits.{bits}
use Rattle.pitch.specs.Pitch.{class_of, code_of, class_answer, code_answer}

-- a code's answer holds its class
pub class_answered : (c : ℕ) → c < 128 → class_answer c ≡ Ok (class_of (bits 7 c))
unfolding class_answer
class_answered c h = simp (lt-ltb c 128 h)

-- an index's answer holds its code
pub code_answered : (i : ℕ) → i < 99 → code_answer i ≡ Ok (code_of i)
unfolding code_answer
code_answered i h = simp (lt-ltb i 99 h)
