-- What is read of the inputs is enough: of two inputs that fill what is read of them both are refused with the same number, and a shorter one
-- is read whole. Assumes nothing.
use mathlib.Core.Path.{◌≡◌, refl, sym, ap, ◌∙◌}
use mathlib.Core.Bool.{Bool, true, false, not, cond}
use mathlib.Core.List.{List}
use Prim.Native.Nat.{ℕ, ◌≤◌}
use native.Mathlib.Omega.{arith}
use lib.Dec.{leb, eqb}
use lib.ListN.{length, take}
use lib.Seq.{take_all, length-take-le}
use borrow.Author.Tests.{leb-true, leb-false, ne_eqb}
use Rattle.order.specs.Order.{default_order}
use Rattle.sets.specs.declared.ParameterSet.{ParameterSet}
use Rattle.records.specs.Records.{fresh}
use Rattle.receiver.specs.Receiving.{receive}
use Rattle.std.specs.Prelude.{Option, Some, Result, Ok, Err}
use Rattle.std.specs.Result.{result_and}
use Rattle.refusal.specs.Refusals.{unless}
use Rattle.refusal.specs.declared.Refusal.{Refusal}
use Rattle.refusal.specs.declared.Refusal.TheVariants.{FrameLength, InvalidCodebook}
use Rattle.receiver.specs.declared.FrameResult.{FrameResult}
use Rattle.codebook_text.specs.Text.{is_lines}
use Rattle.spectrum.specs.declared.values.Spectrum.{Spectrum}
use Rattle.spectrum.specs.Values.{of_texts, of_answer, of_frame}
use Rattle.spectrum.specs.Lines.{text}
use Rattle.spectrum.specs.Output.{printed, EnoughRead, Prints}
use Rattle.spectrum.proofs.LongFiles.{long_text_refused}

-- what is the same for all inputs of n bytes and more is known by the first n
front_ext : {B : Type 0} (n : ℕ) (f : List ℕ → B) (b : B) → ((xs : List ℕ) → n ≤ length xs → f xs ≡ b) → (xs : List ℕ) → f (take n xs) ≡ f xs
front_ext n f b same xs = go (leb n (length xs)) refl
  where
    go : (t : Bool) → leb n (length xs) ≡ t → f (take n xs) ≡ f xs
    go true e = let h = leb-true n (length xs) e in same (take n xs) (omega (arith, length-take-le n xs h)) ∙ sym (same xs h)
    go false e = ap f (take_all n xs (omega (arith, leb-false n (length xs) e)))

-- eight bytes and more are no frame
long_input_refused : (bytes : List ℕ) → 8 ≤ length bytes → (receive default_order fresh bytes).answer ≡ Err FrameLength
unfolding receive
long_input_refused bytes h = let e : eqb (length bytes) 7 ≡ false = ne_eqb (length bytes) 7 (λ q. absurd (omega arith)) in rw e refl

module _ (set : ParameterSet) (lsf magnitudes : List ℕ) where
  -- a long text of LSF
  long_lsf_refused : 65536 ≤ length lsf → of_texts set lsf magnitudes ≡ Err InvalidCodebook
  long_lsf_refused h = rw (long_text_refused 3200 lsf (omega arith) h) refl

  -- a long text of magnitudes, whatever the other is
  long_magnitudes_refused : 65536 ≤ length magnitudes → of_texts set lsf magnitudes ≡ Err InvalidCodebook
  long_magnitudes_refused h = rw (long_text_refused 2560 magnitudes (omega arith) h) (go (is_lines 3200 lsf) _)
    where
      go : (b : Bool) (found : Result Spectrum Refusal)
          → result_and (unless (cond {A = Option Refusal} (not b) (Some InvalidCodebook) (Some InvalidCodebook)) (tt {0})) found ≡ Err InvalidCodebook
      go true found = refl
      go false found = refl

-- for every answer of the receiver
answer_ext : (r : Result FrameResult Refusal) (lsf magnitudes : List ℕ) → of_answer r (take 65536 lsf) (take 65536 magnitudes) ≡ of_answer r lsf magnitudes
answer_ext (Err f) lsf magnitudes = refl
answer_ext (Ok r) lsf magnitudes =
    front_ext 65536 (λ t. of_texts r.set t (take 65536 magnitudes)) _ (λ t. long_lsf_refused r.set t (take 65536 magnitudes)) lsf
    ∙ front_ext 65536 (of_texts r.set lsf) _ (long_magnitudes_refused r.set lsf) magnitudes

pub enough_read : EnoughRead
unfolding of_frame
enough_read = record {
  same = λ input lsf magnitudes.
      let e = front_ext 8 (λ bytes. (receive default_order fresh bytes).answer) (Err FrameLength) long_input_refused input in
      ap text (answer_ext (receive default_order fresh (take 8 input)).answer lsf magnitudes ∙ ap (λ (r : Result FrameResult Refusal). of_answer r lsf magnitudes) e);
}

-- what is printed for the bytes that were read
pub read_printed : (input : List ℕ) (n : ℕ) (lsf : List ℕ) (l : ℕ) (magnitudes : List ℕ) (m : ℕ)
    → length input ≡ 8 → length lsf ≡ 65536 → length magnitudes ≡ 65536
    → Prints input n lsf l magnitudes m (printed (take n input) (take l lsf) (take m magnitudes))
read_printed input n lsf l magnitudes m a b c i f g hi hf hg =
    (λ k. printed (hi k) (hf k) (hg k))
    ∙ (λ k. printed (take (a k) i) (take (b k) f) (take (c k) g))
    ∙ enough_read.same i f g
