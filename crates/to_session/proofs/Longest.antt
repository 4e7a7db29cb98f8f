-- The longest file fits: no frames are refused for want of room. Assumes nothing.
use mathlib.Core.Path.{◌≡◌, refl}
use mathlib.Core.Bool.{Bool, true, false}
use mathlib.Core.List.{List, [], ◌∷◌}
use Prim.Native.Nat.{ℕ}
use lib.ListN.{length}
use borrow.Author.Tests.{le-ltb}
use Rattle.std.specs.Prelude.{Some}
use Rattle.refusal.specs.Refusals.{first_refusal}
use Rattle.refusal.specs.declared.Refusal.TheVariants.{ShortOutput, PaddingBits}
use Rattle.session.specs.Writing.{is_whole, any_padded, frames_of, text_of}
use Rattle.session.proofs.Frames.{whole_parts}
use Rattle.session.proofs.Texts.{text_le}
use Rattle.session.specs.Format.{most_text}
use Rattle.to_session.specs.Output.{refusal_of}

-- the refusal is never that of a short output
pub room_enough : (input : List ℕ) → refusal_of input ≡ Some ShortOutput → ⊥
room_enough input = go (is_whole input) refl
  where
    padded : (b : Bool) → first_refusal ((b, PaddingBits) ∷ []) ≡ Some ShortOutput → ⊥
    padded true e = cc
    padded false e = cc

    go : (b : Bool) → is_whole input ≡ b → refusal_of input ≡ Some ShortOutput → ⊥
    go true w =
        let short = le-ltb most_text (length (text_of input)) (text_le input (whole_parts input w).1) in
        rw (w, short) (padded (any_padded (frames_of input)))
    go false w = rw w (λ e. cc)
