-- A refusal after three good lines is what the first bad line asks for. Assumes nothing.
use mathlib.Core.Path.{◌≡◌, sym, ap, ◌∙◌}
use mathlib.Core.Bool.{true≢false}
use mathlib.Core.List.{List, [], ◌∷◌, ◌++◌, append-nil, append_assoc}
use Prim.Native.Nat.{ℕ, zero, suc, ◌+◌, ◌≤◌}
use native.Mathlib.Omega.{arith}
use lib.ListN.{length, drop, length-append}
use lib.Seq.{append_snoc}
use Rattle.std.specs.Prelude.{Option, None, Some}
use Rattle.bits.specs.Lists.{Every}
use Rattle.refusal.specs.Refusals.{number_of}
use Rattle.refusal.specs.declared.Refusal.{Refusal}
use Rattle.refusal.specs.declared.Refusal.TheVariants.{PaddingBits, BadLine}
use Rattle.session.specs.Format.{header, frame_line, frame_lines, session_text, most_frames}
use Rattle.session.proofs.Elements.{every_append}
use Rattle.session.proofs.Texts.{frame_lines_append}
use Rattle.session_lines.specs.Lines.{line_of, is_frame_line, frame_of, line_refusal, Seven}
use Rattle.session_claims.specs.Claims.{Good, FirstBad}
use Rattle.session_claims.specs.Reading.{Reading}
use Rattle.session_reader.specs.Steps.{refused}
use Rattle.session_lines.proofs.FrameLines.{line_back, frame_back}
use Rattle.session_claims.proofs.Refusals.{refused_only, Judged, judged}
use Rattle.session_claims.proofs.Rests.{handed, rest_reading, taken_front}

-- the lines of frames and one more, and what follows them
lines_snoc : (fs : List (List ℕ)) (f rest : List ℕ) → frame_lines fs ++ (frame_line f ++ rest) ≡ frame_lines (fs ++ (f ∷ [])) ++ rest
unfolding frame_lines
lines_snoc fs f rest =
    let one : frame_lines (f ∷ []) ≡ frame_line f = append-nil (frame_line f) in
    ap (λ (l : List ℕ). frame_lines fs ++ (l ++ rest)) (sym one)
    ∙ sym (append_assoc (frame_lines fs) (frame_lines (f ∷ [])) rest)
    ∙ ap (λ (l : List ℕ). l ++ rest) (sym (frame_lines_append fs (f ∷ [])))

module _ (text : List ℕ) (n : ℕ) (f : Refusal) (line : ℕ) (most : n ≤ most_frames) where
  -- after the lines of k good frames, with j to come
  pub rest_refused : (j : ℕ) (t : List ℕ) (k : ℕ) (fs : List (List ℕ)) → length fs ≡ k → k + j ≡ n → Every Good fs
      → text ≡ header n ++ (frame_lines fs ++ t) → (rest_reading j t k).answer ≡ refused f line
      → FirstBad text (fs ++ (rest_reading j t k).frames) (number_of f) line
  unfolding rest_reading session_text
  rest_refused zero [] k fs size left g is e = absurd cc
  rest_refused zero (c ∷ cs) k fs size left g is e =
      let count : n ≡ length fs = omega arith in
      let whole = is ∙ ap (λ (m : ℕ). header m ++ (frame_lines fs ++ (c ∷ cs))) count ∙ sym (append_assoc (header (length fs)) (frame_lines fs) (c ∷ cs)) in
      let p = refused_only BadLine f (k + 4) line e in
      rw (append-nil fs) (FirstBad.surplus (c ∷ cs) (omega arith) g p.0 (omega (arith, p.1)) whole (λ q. omega (arith, ap length q)))
  rest_refused (suc j) t k fs size left g is e =
      let one = frame_of l ∷ [] in
      let size : length (fs ++ one) ≡ suc k = omega (arith, length-append fs one) in
      go (line_refusal l) (judged l)
      (λ good. rest_refused j (drop 17 t) (suc k) (fs ++ one) size (omega arith) (every_append Good fs one g (good, tt))) e
    where
      l : List ℕ
      l = line_of t

      more : Reading
      more = rest_reading j (drop 17 t) (suc k)

      go : (r : Option Refusal) → Judged l r
          → (Good (frame_of l) → text ≡ header n ++ (frame_lines (fs ++ (frame_of l ∷ [])) ++ drop 17 t) → more.answer ≡ refused f line
          → FirstBad text (fs ++ (frame_of l ∷ []) ++ more.frames) (number_of f) line)
          → (handed r (k + 4) (frame_of l) more).answer ≡ refused f line → FirstBad text (fs ++ (handed r (k + 4) (frame_of l) more).frames) (number_of f) line
      go None (Judged.formless z i) h e = absurd cc
      go None (Judged.padded z i p) h e = absurd cc
      go None (Judged.taken z i good) h e =
          let front = ap (λ (r : List ℕ). frame_lines fs ++ r) (sym (taken_front t i)) ∙ lines_snoc fs (frame_of l) (drop 17 t) in
          rw (append_snoc fs (frame_of l) more.frames) at (h good (is ∙ ap (λ (r : List ℕ). header n ++ r) front) e)
      go (Some r) (Judged.formless z i) h e =
          let other : (x : List ℕ) → Seven x → l ≡ frame_line x → ⊥ = λ x s q. true≢false (sym (frame_back x s).0 ∙ ap is_frame_line (sym q) ∙ i) in
          let b : r ≡ BadLine = cc in
          let p = refused_only r f (k + 4) line e in
          rw (append-nil fs) (FirstBad.formless n t most (omega arith) g (p.0 ∙ ap number_of b) (omega (arith, p.1)) is other)
      go (Some r) (Judged.padded z i bits) h e =
          let l7 = line_back l i in
          let b : r ≡ PaddingBits = cc in
          let p = refused_only r f (k + 4) line e in
          rw (append-nil fs) (FirstBad.padded n t (frame_of l) most (omega arith) g (p.0 ∙ ap number_of b) (omega (arith, p.1)) is l7.0 bits l7.1)
      go (Some r) (Judged.taken z i good) h e = absurd cc
