-- The frames one after another: what holds after k of them, what one more makes of it, and what is owed where they end. Assumes nothing.
use mathlib.Core.Path.{◌≡◌, refl, sym, ap, ◌∙◌}
use mathlib.Core.List.{List, ◌++◌, append-nil, append_assoc}
use Prim.Native.Nat.{ℕ, suc, ◌+◌, ◌-◌, ◌*◌, ◌≤◌, ◌<◌}
use native.Mathlib.Omega.{arith}
use lib.ListN.{length, take, drop, length-append, take-append-drop}
use lib.Seq.{length-take-le, take_at, drop_at, drop-drop}
use Rattle.std.specs.Prelude.{None, Some, Ok, Err}
use Rattle.text.specs.Placing.{written}
use Rattle.text.proofs.Writes.{written_length}
use Rattle.session.specs.Format.{most_frames}
use Rattle.session.specs.Writing.{joined}
use Rattle.session_reader.specs.Steps.{Answer, step_at}
use Rattle.session_claims.specs.Reading.{Reading, and_then, ends_by, onward, reading_from, reading}
use Rattle.session_reader.specs.declared.Step.{Step}

-- what is to come after k frames
abbrev to_come : List ℕ → ℕ → ℕ → Reading
to_come text at k = reading_from (most_frames - k) text at

-- after k frames: they stand in front, the others are to come, and the rest of the output is as it was
pub record SoFar (text out₀ : List ℕ) (at k : ℕ) (out : List ℕ) : Type 0 where
  pub few : k ≤ most_frames
  pub room : 7 * most_frames ≤ length out₀
  pub size : length out ≡ length out₀
  pub answer : (to_come text at k).answer ≡ (reading text).answer
  pub front : take (7 * k) out ++ joined (to_come text at k).frames ≡ joined (reading text).frames
  pub rest : drop (7 * k) out ≡ drop (7 * k) out₀

-- what is owed where the frames end
abbrev pub Owed : List ℕ → List ℕ → Answer → ℕ → List ℕ → Type 0
Owed text out₀ answer end out =
    (answer ≡ (reading text).answer) × ((end ≡ length (joined (reading text).frames)) × (out ≡ joined (reading text).frames ++ drop end out₀))

-- before the first frame
pub none_yet : (text out : List ℕ) → 7 * most_frames ≤ length out → SoFar text out 0 0 out
none_yet text out h = record { few = omega arith; room = h; size = refl; answer = refl; front = refl; rest = refl }

module _ (text out₀ : List ℕ) (at k : ℕ) (out : List ℕ) (s : SoFar text out₀ at k out) where
  -- the frames fit
  fits : 7 * k ≤ length out
  fits = omega arith

  -- no frame is to come
  end_owes : (answer : Answer) → to_come text at k ≡ ends_by answer → Owed text out₀ answer (7 * k) out
  unfolding joined
  end_owes answer e =
      let front : take (7 * k) out ≡ joined (reading text).frames =
      sym (append-nil (take (7 * k) out)) ∙ ap (λ (r : Reading). take (7 * k) out ++ joined r.frames) (sym e) ∙ s.front in (
        ap (λ (r : Reading). r.answer) (sym e) ∙ s.answer,
        (sym (length-take-le (7 * k) out fits) ∙ ap length front, sym (take-append-drop (7 * k) out) ∙ (λ i. front i ++ s.rest i)),
      )

  module _ (step : Step) (is : step ≡ step_at text at) where
    -- after 2,000 frames
    pub last_owes : most_frames ≤ k → Owed text out₀ step.answer (7 * k) out
    unfolding reading_from
    last_owes h =
        let n : most_frames - k ≡ 0 = omega arith in
        end_owes step.answer (ap (λ (m : ℕ). reading_from m text at) n ∙ ap (λ (t : Step). ends_by t.answer) (sym is))

    module _ (more : k < most_frames) where
      -- what is to come, by the step
      next_is : to_come text at k ≡ onward step.answer (to_come text step.at (suc k))
      unfolding reading_from
      next_is =
          let n : most_frames - k ≡ suc (most_frames - suc k) = omega arith in
          ap (λ (m : ℕ). reading_from m text at) n ∙ ap (λ (t : Step). onward t.answer (to_come text t.at (suc k))) (sym is)

      -- a step without a frame ends them
      pub stop_owes : ((frame : List ℕ) → step.answer ≡ Ok (Some frame) → ⊥) → Owed text out₀ step.answer (7 * k) out
      stop_owes h = end_owes step.answer (next_is ∙ go step.answer h)
        where
          go : (answer : Answer) → ((frame : List ℕ) → answer ≡ Ok (Some frame) → ⊥) → onward answer (to_come text step.at (suc k)) ≡ ends_by answer
          go (Ok (Some frame)) h = absurd (h frame refl)
          go (Ok None) h = refl
          go (Err r) h = refl

      -- a frame more
      pub frame_more : (f : List ℕ) → step.answer ≡ Ok (Some f) → length f ≡ 7 → (after : List ℕ) → after ≡ written f (7 * k) out
          → SoFar text out₀ step.at (suc k) after
      unfolding joined
      frame_more f e seven after w =
          let p = take (7 * k) out in
          let back = drop (7 * k + length f) out in
          let later = to_come text step.at (suc k) in
          let next : to_come text at k ≡ and_then f later = next_is ∙ ap (λ (a : Answer). onward a later) e in
          let n : length (p ++ f) ≡ 7 * suc k = omega (arith, length-append p f, length-take-le (7 * k) out fits, seven) in
          let seam : 7 * k + length f ≡ 7 * k + 7 = omega (arith, seven) in
          let end : 7 * k + 7 ≡ 7 * suc k = omega arith in
          let there : take (7 * suc k) after ≡ p ++ f = ap (take (7 * suc k)) w ∙ take_at (p ++ f) back (7 * suc k) n in
          record {
            few = omega arith;
            room = s.room;
            size = ap length w ∙ written_length f (7 * k) out (omega arith) ∙ s.size;
            answer = ap (λ (r : Reading). r.answer) (sym next) ∙ s.answer;
            front = ap (λ (l : List ℕ). l ++ joined later.frames) there
                ∙ append_assoc p f (joined later.frames)
                ∙ ap (λ (r : Reading). p ++ joined r.frames) (sym next)
                ∙ s.front;
            rest = ap (drop (7 * suc k)) w
                ∙ drop_at (p ++ f) back (7 * suc k) n
                ∙ ap (λ (m : ℕ). drop m out) seam
                ∙ sym (drop-drop 7 (7 * k) out)
                ∙ ap (drop 7) s.rest
                ∙ drop-drop 7 (7 * k) out₀
                ∙ ap (λ (m : ℕ). drop m out₀) end;
          }
