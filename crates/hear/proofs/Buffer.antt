-- What waits in the buffer: more of it, what is sent of it, and that it is the next part of the whole text. Assumes nothing.
use mathlib.Core.Path.{◌≡◌, sym, ap, subst, ◌∙◌}
use mathlib.Core.List.{List, [], ◌++◌, append-nil, append_assoc}
use Prim.Native.Nat.{ℕ, zero, suc, ◌+◌, ◌-◌, ◌≤◌}
use native.Mathlib.Omega.{arith}
use lib.ListN.{length, take, drop, length-append, length-drop}
use lib.Seq.{drop-length, drop-append-le, take_at, take-add}
use Rattle.std.specs.declared.option.Option.{Option}
use Rattle.std.specs.Io.KnownBytes.{Appends}
use Rattle.std.proofs.KnownBytes.{Appends-trans}
use Rattle.console.specs.Fronts.{AppendsFront}
use Rattle.console.proofs.Fronts.{front_more}
use Rattle.order.specs.Order.{default_order}
use Rattle.refusal.specs.Refusals.{number_of, numbered}
use Rattle.report.specs.Lines.{frame_line, last_line}
use Rattle.text.specs.Placing.{Appended}
use Rattle.receiver.specs.Frames.{frames_in, answer_at}
use Rattle.hear.specs.Call.{left_in, text_before, repeats_before, text, Pending}

module _ (so_far : List ℕ) (sent end : ℕ) (out : List ℕ) (p : Pending so_far sent end out) where
  -- a line more waits
  pub pending_more : (line after : List ℕ) (n : ℕ) → Appended out end line after n → Pending (so_far ++ line) sent n after
  pending_more line after n h =
      let le : sent ≤ length so_far = omega (arith, p.0) in (
        omega (arith, h.0, p.0, length-append so_far line),
        h.1 ∙ ap (λ (l : List ℕ). l ++ line) p.1 ∙ sym (drop-append-le sent so_far line le),
      )

  -- nothing waits once all is sent
  pub pending_none : Pending so_far (sent + end) 0 out
  pending_none = (omega (arith, p.0), sym (ap (λ (n : ℕ). drop n so_far) p.0 ∙ drop-length so_far))

  -- what waits is the next part of any text that goes on from there
  pub pending_next : (rest : List ℕ) → take end out ≡ take end (drop sent (so_far ++ rest))
  pending_next rest =
      let le : sent ≤ length so_far = omega (arith, p.0) in
      let n : length (drop sent so_far) ≡ end = length-drop sent so_far ∙ omega (arith, p.0) in
      p.1 ∙ sym (ap (take end) (drop-append-le sent so_far rest le) ∙ take_at (drop sent so_far) rest end n)

-- the text goes on from each frame
text_before_append : (bytes : List ℕ) (k j : ℕ) → (rest : List ℕ) × (text_before bytes (k + j) ≡ text_before bytes k ++ rest)
unfolding text_before
text_before_append bytes k zero =
    let e : k + zero ≡ k = omega arith in
    ([], ap (text_before bytes) e ∙ sym (append-nil (text_before bytes k)))
text_before_append bytes k (suc j) =
    let g = text_before_append bytes k j in
    let line = frame_line (k + j) (numbered number_of (answer_at default_order bytes (k + j))) in
    let e : k + suc j ≡ suc (k + j) = omega arith in
    (g.0 ++ line, ap (text_before bytes) e ∙ ap (λ (l : List ℕ). l ++ line) g.1 ∙ append_assoc (text_before bytes k) g.0 line)

pub text_append : (bytes : List ℕ) (k : ℕ) → k ≤ frames_in bytes → (rest : List ℕ) × (text bytes ≡ text_before bytes k ++ rest)
unfolding text
text_append bytes k h =
    let n = frames_in bytes in
    let g = text_before_append bytes k (n - k) in
    let last = last_line n (repeats_before bytes n) (left_in bytes) in
    let e : k + (n - k) ≡ n = omega arith in
    let b : text_before bytes n ≡ text_before bytes k ++ g.0 = ap (text_before bytes) (sym e) ∙ g.1 in
    (g.0 ++ last, ap (λ (l : List ℕ). l ++ last) b ∙ append_assoc (text_before bytes k) g.0 last)

-- what waits after k frames is the next part of the whole text
pub pending_part : (bytes out : List ℕ) (k sent end : ℕ) → k ≤ frames_in bytes → Pending (text_before bytes k) sent end out
    → take end out ≡ take end (drop sent (text bytes))
pending_part bytes out k sent end h p =
    let g = text_append bytes k h in
    pending_next (text_before bytes k) sent end out p g.0 ∙ ap (λ (l : List ℕ). take end (drop sent l)) (sym g.1)

-- a writer that was given the first m bytes of a text, and then its next part, was given the first n
pub given_more : (whole part : List ℕ) (m end n : ℕ) (start before after : Option (List ℕ)) → n ≡ m + end → part ≡ take end (drop m whole)
    → Appends before after part → Appends start before (take m whole) → Appends start after (take n whole)
given_more whole part m end n start before after e next grown given =
    let whole_is : take m whole ++ part ≡ take n whole = ap (λ (l : List ℕ). take m whole ++ l) next ∙ sym (take-add m end whole) ∙ ap (λ (k : ℕ). take k whole) (sym e) in
    subst (Appends start after) whole_is (Appends-trans start before after _ _ given grown)

-- a writer that was given the first m bytes of a text, and then a front of its next part, was given a front of it
pub given_front : (whole part : List ℕ) (m end : ℕ) (start before after : Option (List ℕ)) → part ≡ take end (drop m whole)
    → AppendsFront before after part → Appends start before (take m whole) → AppendsFront start after whole
given_front whole part m end start before after next grown given =
    front_more start before after whole m end given (subst (AppendsFront before after) next grown)

-- with the last line the whole text is sent or waits
pub whole_waits : (bytes before after : List ℕ) (repeats sent end last : ℕ) → repeats ≡ repeats_before bytes (frames_in bytes)
    → Pending (text_before bytes (frames_in bytes)) sent end before → Appended before end (last_line (frames_in bytes) repeats (left_in bytes)) after last
    → Pending (text bytes) sent last after
unfolding text
whole_waits bytes before after repeats sent end last e p added =
    let n = frames_in bytes in
    let Waits : ℕ → Type 0 = λ (k : ℕ). Pending (text_before bytes n ++ last_line n k (left_in bytes)) sent last after in
    subst Waits e (pending_more (text_before bytes n) sent end before p _ after last added)

-- what waits then is all that is not sent
pub whole_part : (bytes out : List ℕ) (sent end : ℕ) → Pending (text bytes) sent end out → take end out ≡ take end (drop sent (text bytes))
whole_part bytes out sent end p = pending_next (text bytes) sent end out p [] ∙ ap (λ (l : List ℕ). take end (drop sent l)) (append-nil (text bytes))
