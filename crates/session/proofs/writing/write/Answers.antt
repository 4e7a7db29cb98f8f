-- `session::writing::write` meets its contract: three tests decide the refusal, and otherwise the text is put. Assumes nothing.
use mathlib.Core.Path.{◌≡◌, refl, sym, ap, ◌∙◌}
use mathlib.Core.Bool.{Bool, true, false}
use mathlib.Core.Logic.{inl, inr}
use Prim.Native.Nat.{◌+◌, ◌*◌, ◌/◌, ◌≤◌}
use native.Mathlib.Omega.{arith}
use lib.ListN.{length}
use borrow.Author.Tests.{eqb-true, eqb-false}
use Rattle.session.specs.Writing.{is_whole, any_padded, frames_of, text_of}
use Rattle.text.proofs.Decimals.{decimal_length}
use Rattle.session.specs.Format.{header}
use Rattle.session.proofs.Frames.{whole_parts, whole_is, chunks_are}
use Rattle.session.proofs.Texts.{header_length, text_length}
use Rattle.session.proofs.Answers.{part_owes, short_owes, padding_owes, text_owes}
use Rattle.session.proofs.writing.write.Goals as goal
use Rattle.session.proofs.writing.write.Goals.{Joined-then-not-is_empty, Else-frames-gt2000}

-- bytes are left over, or there are too many frames
not_whole : (c : Joined-then-not-is_empty) → is_whole c.args.frames.now ≡ false
not_whole c = go (is_whole c.args.frames.now) refl
  where
    go : (b : Bool) → is_whole c.args.frames.now ≡ b → b ≡ false
    go false e = refl
    go true e =
        let w = whole_parts c.args.frames.now e in
        let n = c.as_chunks.ensures.back_len in
        let m = c.as_chunks.ensures.front_len in
        let t = c.is_empty.ensures in
        elim c.then-not-is_empty.either [ inl f ↦ absurd (omega (arith, eqb-false _ 0 (sym t ∙ f), n, w.0)) | inr f ↦ absurd (omega (arith, f.1, m, w.1)) ]

-- the frames are whole, and few
module _ (c : Else-frames-gt2000) where
  few : length c.args.frames.now / 7 ≤ 2000
  few = omega (arith, c.as_chunks.ensures.front_len)

  whole : is_whole c.args.frames.now ≡ true
  whole = whole_is c.args.frames.now (sym c.as_chunks.ensures.back_len ∙ eqb-true _ 0 (sym c.is_empty.ensures ∙ c.if-not-is_empty.false)) few

  same : c.as_chunks.result.0.now ≡ frames_of c.args.frames.now
  same = c.as_chunks.ensures.front ∙ chunks_are c.args.frames.now

pub returns-then-not-is_empty : goal.returns-then-not-is_empty
returns-then-not-is_empty c =
    let p = part_owes c.args.frames.now c.args.out.now (not_whole c) in
    record { answer = p.0; written = p.1 }

pub overflow_add-header_size : goal.overflow_add-header_size
overflow_add-header_size c =
    let n = length c.as_chunks.result.0.now in
    record { fits = omega (arith, header_length n, decimal_length 3 n (omega arith)) }

-- how long the text is
size : (c : Else-frames-gt2000) → length (text_of c.args.frames.now) ≡ length (header (length c.as_chunks.result.0.now)) + 17 * length c.as_chunks.result.0.now
size c = let e = c.as_chunks.ensures.front_len in rw e (text_length c.args.frames.now)

pub returns-then-out-header_size : goal.returns-then-out-header_size
returns-then-out-header_size c =
    let e = (goal.at.returns-then-out-header_size c).Else-frames-gt2000 in
    let p = short_owes c.args.frames.now c.args.out.now (whole e) (omega (arith, size e)) in
    record { answer = p.0; written = p.1 }

pub returns-then-has_padding : goal.returns-then-has_padding
returns-then-has_padding c =
    let e = (goal.at.returns-then-has_padding c).Else-frames-gt2000 in
    let p = padding_owes c.args.frames.now c.args.out.now (whole e) (omega (arith, size e)) (ap any_padded (sym (same e)) ∙ sym c.has_padding.ensures ∙ c.if-has_padding.true) in
    record { answer = p.0; written = p.1 }

pub returns : goal.returns
returns c =
    let e = (goal.at.returns c).Else-frames-gt2000 in
    let w = rw (same e) at c.write_text.ensures in
    let p = text_owes c.args.frames.now c.args.out.now (whole e) (omega (arith, size e)) (ap any_padded (sym (same e)) ∙ sym c.has_padding.ensures ∙ c.if-has_padding.false) _ _ w in
    record { answer = p.0; written = p.1 }
