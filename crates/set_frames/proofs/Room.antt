-- Where the output has room for the frames of all sets, the call is not refused, and gives and leaves what is sent.
-- Assumes nothing.
use mathlib.Core.Path.{◌≡◌, refl, sym, ap, ◌∙◌}
use mathlib.Core.List.{List, ◌++◌}
use Prim.Native.Nat.{ℕ, ◌*◌, ◌/◌, ◌≤◌}
use native.Mathlib.Omega.{arith}
use lib.ListN.{length, drop, length-append}
use borrow.Author.Tests.{le-ltb}
use Rattle.bits.specs.Lists.{written_unless}
use Rattle.std.specs.Prelude.{Option, None, Ok}
use Rattle.refusal.specs.Refusals.{unless}
use Rattle.refusal.specs.declared.Refusal.{Refusal}
use Rattle.set_frames.specs.Sending.{sets_in, sent, frames_refusal, frames_answer, frames_writes}

module _ (ord bytes out : List ℕ) (h : 7 * sets_in bytes ≤ length out) where
  roomy : frames_refusal bytes (length out) ≡ None
  roomy = rw (le-ltb (length out / 7) (sets_in bytes) (omega arith)) refl

  -- what is answered and left
  pub answered : frames_answer ord bytes (length out) ≡ Ok (length (sent ord bytes))
  unfolding frames_answer
  answered = ap (λ (n : Option Refusal). unless n (length (sent ord bytes))) roomy

  written : frames_writes ord bytes out ≡ sent ord bytes ++ drop (length (sent ord bytes)) out
  unfolding frames_writes
  written = ap (λ (n : Option Refusal). written_unless n (length (sent ord bytes)) (sent ord bytes) out) roomy

  -- an end that is answered is that of the frames
  pub packed_is : (end : ℕ) (after : List ℕ) → frames_answer ord bytes (length out) ≡ Ok end → after ≡ frames_writes ord bytes out
      → (end ≡ length (sent ord bytes)) × (end ≤ length after) × (after ≡ sent ord bytes ++ drop end out)
  packed_is end after e w =
      let same : end ≡ length (sent ord bytes) = cc (answered, e) in
      let all : after ≡ sent ord bytes ++ drop end out = w ∙ written ∙ ap (λ (n : ℕ). sent ord bytes ++ drop n out) (sym same) in
      (same, omega (arith, same, ap length all ∙ length-append (sent ord bytes) (drop end out)), all)
