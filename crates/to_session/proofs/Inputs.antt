-- What is read of the input is enough: 14,001 bytes and more are no 0 to 2,000 whole frames, and less is read whole. Assumes nothing.
use mathlib.Core.Path.{◌≡◌, refl, sym, ap, ◌∙◌}
use mathlib.Core.Bool.{Bool, true, false}
use mathlib.Core.List.{List}
use Prim.Native.Nat.{ℕ, ◌≤◌}
use native.Mathlib.Omega.{arith}
use lib.Dec.{leb}
use lib.ListN.{length, take}
use lib.Seq.{take_all, length-take-le}
use borrow.Author.Tests.{leb-true, leb-false}
use Rattle.bits.specs.Lists.{ReadFrom}
use Rattle.std.specs.Prelude.{Option, Some}
use Rattle.refusal.specs.declared.Refusal.{Refusal}
use Rattle.refusal.specs.declared.Refusal.TheVariants.{FrameLength}
use Rattle.session.specs.Writing.{is_whole}
use Rattle.session.proofs.Frames.{whole_parts}
use Rattle.to_session.specs.Output.{most_input, refusal_of, file_unless, message_if, file, message}

-- a long input is not 0 to 2,000 whole frames
long_not_whole : (input : List ℕ) → most_input ≤ length input → is_whole input ≡ false
long_not_whole input h = go (is_whole input) refl
  where
    go : (b : Bool) → is_whole input ≡ b → b ≡ false
    go true e = absurd (omega (arith, whole_parts input e))
    go false e = refl

-- so it is refused for its length
long_refused : (input : List ℕ) → most_input ≤ length input → refusal_of input ≡ Some FrameLength
long_refused input h = rw (long_not_whole input h) refl

-- the file and the message of as many bytes as are read are those of the input
pub refusal_front : (input : List ℕ) → (file (take most_input input) ≡ file input) × (message (take most_input input) ≡ message input)
refusal_front input = go (leb most_input (length input)) refl
  where
    go : (t : Bool) → leb most_input (length input) ≡ t → (file (take most_input input) ≡ file input) × (message (take most_input input) ≡ message input)
    go true e =
        let h = leb-true most_input (length input) e in
        let a = long_refused (take most_input input) (omega (arith, length-take-le most_input input h)) in
        let b = long_refused input h in (
          ap (λ (r : Option Refusal). file_unless r (take most_input input)) a ∙ ap (λ (r : Option Refusal). file_unless r input) (sym b),
          ap message_if a ∙ ap message_if (sym b),
        )
    go false e =
        let all = take_all most_input input (omega (arith, leb-false most_input (length input) e)) in
        (ap file all, ap message all)

-- so are those of the bytes that were read into a buffer of so many
pub read_enough : (buffer input : List ℕ) (size : ℕ) → length buffer ≡ most_input → ReadFrom buffer size input
    → (file (take size buffer) ≡ file input) × (message (take size buffer) ≡ message input)
read_enough buffer input size e read =
    let all = read ∙ ap (λ (m : ℕ). take m input) e in
    let front = refusal_front input in
    (ap file all ∙ front.0, ap message all ∙ front.1)
