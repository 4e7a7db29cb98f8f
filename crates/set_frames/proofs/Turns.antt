-- The sets one after another: what holds after k frames, what one more frame makes of it, and what is owed where they end.
-- Assumes nothing.
use mathlib.Core.Path.{◌≡◌, refl, sym, ap, ◌∙◌}
use mathlib.Core.Bool.{Bool, true, false, not, cond}
use mathlib.Core.List.{List, [], ◌++◌, append-nil, append_assoc}
use Prim.Native.Nat.{ℕ, suc, ◌+◌, ◌-◌, ◌*◌, ◌≤◌, ◌<◌}
use native.Mathlib.Omega.{arith}
use lib.ListN.{length, take, drop, length-append, length-drop, take-append-drop}
use lib.Seq.{length-take-le, take_at, drop_at, drop-drop}
use Rattle.order.proofs.Frames.{frame_length}
use Rattle.frame.specs.Layout.{logical_of}
use Rattle.std.specs.Prelude.{Result, Ok, Err}
use Rattle.refusal.specs.declared.Refusal.{Refusal}
use Rattle.set_bytes.specs.SetBytes.{set_in}
use Rattle.set_frames.specs.Sending.{sets_in, bytes_at, taken, frame_of, sent_from, sent, bytes_refusal, set_answer, set_writes}
use Rattle.set_frames.proofs.Packing.{taken_owes}

-- after k frames: they stand in front, the sets from k on are to come, and the rest of the output is as it was
abbrev pub SoFar : List ℕ → List ℕ → List ℕ → Bool → ℕ → List ℕ → Type 0
SoFar ord bytes out₀ sync k out =
    (length out ≡ length out₀) × (take (7 * k) out ++ sent_from ord bytes sync k (sets_in bytes - k) ≡ sent ord bytes) × (drop (7 * k) out ≡ drop (7 * k) out₀)

-- what is owed where the frames end
abbrev pub Owed : List ℕ → List ℕ → List ℕ → ℕ → List ℕ → Type 0
Owed ord bytes out₀ r out = (r ≡ length (sent ord bytes)) × ((r ≤ length out) × (out ≡ sent ord bytes ++ drop r out₀))

module _ (ord bytes out₀ : List ℕ) (sync : Bool) (k : ℕ) (out : List ℕ) (s : SoFar ord bytes out₀ sync k out) (fits : 7 * k ≤ length out) where
  -- nothing is to come
  end_owes : sent_from ord bytes sync k (sets_in bytes - k) ≡ [] → Owed ord bytes out₀ (7 * k) out
  end_owes e =
      let front : take (7 * k) out ≡ sent ord bytes = sym (append-nil (take (7 * k) out)) ∙ ap (λ (l : List ℕ). take (7 * k) out ++ l) (sym e) ∙ s.1 in
      let n = sym (length-take-le (7 * k) out fits) in
      (n ∙ ap length front, (fits, sym (take-append-drop (7 * k) out) ∙ (λ i. front i ++ s.2 i)))

  -- after the last set
  pub last_owes : sets_in bytes ≤ k → Owed ord bytes out₀ (7 * k) out
  unfolding sent_from
  last_owes h =
      let n : sets_in bytes - k ≡ 0 = omega arith in
      end_owes (ap (sent_from ord bytes sync k) n)

  module _ (more : k < sets_in bytes) where
    -- the sets after set k, and what is to come by whether the bytes of set k are taken
    abbrev left : ℕ
    left = sets_in bytes - suc k

    abbrev set : List ℕ
    set = bytes_at bytes k

    rest_is : (b : Bool) → taken ord set ≡ b → sent_from ord bytes sync k (sets_in bytes - k) ≡ cond b (frame_of ord set sync ++ sent_from ord bytes (not sync) (suc k) left) []
    unfolding sent_from
    rest_is b e =
        let n : sets_in bytes - k ≡ suc left = omega arith in
        ap (sent_from ord bytes sync k) n ∙ ap (λ (b : Bool). cond b (frame_of ord set sync ++ sent_from ord bytes (not sync) (suc k) left) []) e

    -- a frame more
    frames_more : taken ord set ≡ true → (after : List ℕ) → after ≡ take (7 * k) out ++ (frame_of ord set sync ++ drop (7 * suc k) out)
        → 7 * suc k ≤ length out → SoFar ord bytes out₀ (not sync) (suc k) after
    frames_more e after w room =
        let p = take (7 * k) out in
        let f = frame_of ord set sync in
        let rest = drop (7 * suc k) out in
        let next = sent_from ord bytes (not sync) (suc k) left in
        let split : after ≡ (p ++ f) ++ rest = w ∙ sym (append_assoc p f rest) in
        let seven : length f ≡ 7 = frame_length ord (logical_of (set_in set) sync) in
        let n : length (p ++ f) ≡ 7 * suc k = omega (arith, length-append p f, length-take-le (7 * k) out fits, seven) in
        let front : take (7 * suc k) after ≡ p ++ f = ap (take (7 * suc k)) split ∙ take_at (p ++ f) rest (7 * suc k) n in
        let all : (p ++ f) ++ next ≡ sent ord bytes = append_assoc p f next ∙ ap (λ (l : List ℕ). p ++ l) (sym (rest_is true e)) ∙ s.1 in
        let back : drop (7 * suc k) after ≡ rest = ap (drop (7 * suc k)) split ∙ drop_at (p ++ f) rest (7 * suc k) n in
        let m : 7 * suc k ≡ 7 * k + 7 = omega arith in
        let past : (l : List ℕ) → drop (7 * suc k) l ≡ drop 7 (drop (7 * k) l) = λ l. ap (λ (m : ℕ). drop m l) m ∙ sym (drop-drop 7 (7 * k) l) in
        let kept : rest ≡ drop (7 * suc k) out₀ = past out ∙ ap (drop 7) s.2 ∙ sym (past out₀) in
        let size : length after ≡ length out₀ = ap length split ∙ length-append (p ++ f) rest ∙ omega (arith, n, length-drop (7 * suc k) out, s.0) in
        (size, ap (λ (l : List ℕ). l ++ next) front ∙ all, back ∙ kept)

  -- one turn: what packing set k answers, and what it leaves
  module _ (more : k < sets_in bytes) (room : 7 * sets_in bytes ≤ length out₀) (answer : Result Bool Refusal) (after : List ℕ)
      (p : (answer ≡ set_answer ord (bytes_at bytes k) sync) × (after ≡ set_writes ord (bytes_at bytes k) sync k out)) where
    -- by whether the bytes are taken
    turn_is : (b : Bool) → taken ord (bytes_at bytes k) ≡ b
        → (answer ≡ cond b (Ok (not sync)) (Err (bytes_refusal ord (bytes_at bytes k)))) × (after ≡ cond b (take (7 * k) out ++ (frame_of ord (bytes_at bytes k) sync ++ drop (7 * suc k) out)) out)
    turn_is b e = let o = taken_owes ord (bytes_at bytes k) sync k out b e in (p.0 ∙ sym o.0, p.1 ∙ sym o.1)

    -- a frame is packed: one more stands in front
    pub packed_owes : (next : Bool) → answer ≡ Ok next → SoFar ord bytes out₀ next (suc k) after
    packed_owes next e = go (taken ord (bytes_at bytes k)) refl
      where
        go : (b : Bool) → taken ord (bytes_at bytes k) ≡ b → SoFar ord bytes out₀ next (suc k) after
        go true t =
            let same = sym (turn_is true t).0 ∙ e in
            let bit : not sync ≡ next = cc in
            let le : 7 * suc k ≤ length out = omega (arith, s.0) in
            rw bit at (frames_more more t after (turn_is true t).1 le)
        go false t = let same = sym (turn_is false t).0 ∙ e in let z : ◌≡◌ {A = ℕ} 0 1 = cc in absurd (omega arith)

    -- set k is refused: the frames end before it
    pub refused_owes : (f : Refusal) → answer ≡ Err f → Owed ord bytes out₀ (7 * k) after
    refused_owes f e = go (taken ord (bytes_at bytes k)) refl
      where
        go : (b : Bool) → taken ord (bytes_at bytes k) ≡ b → Owed ord bytes out₀ (7 * k) after
        go true t = let same = sym (turn_is true t).0 ∙ e in let z : ◌≡◌ {A = ℕ} 0 1 = cc in absurd (omega arith)
        go false t = rw (turn_is false t).1 (end_owes (rest_is more false t))
