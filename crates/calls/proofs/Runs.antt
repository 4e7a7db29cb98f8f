-- Lists of calls, of whatever kind: calls that do what the model does from the states they were given are what the model gives from
-- the first state on, and without the refused ones they are still such a list.
-- Assumes nothing.
use mathlib.Core.Path.{◌≡◌, refl, sym, ap, ◌∙◌, subst}
use mathlib.Core.List.{List, [], ◌∷◌, map}
use Rattle.std.specs.Prelude.{Option, None, Some}
use Rattle.calls.specs.Model.{Outcome, outcomes}
use Rattle.calls.specs.Calls.{Run, keep_unless, unrefused}
use Rattle.bits.specs.Lists.{Every}

module _ {C S : Type 0} (given left : C → S) (Keeps : C → Type 0) where
  -- all that is observed is what the model gives
  pub run_outcomes : {X A : Type 0} (arguments : C → X) (seen : C → Outcome A S) (model : S → X → Outcome A S)
      → ((c : C) → Keeps c → seen c ≡ model (given c) (arguments c)) → ((c : C) → (seen c).state ≡ left c)
      → (s : S) (cs : List C) → Run given left Keeps s cs → map seen cs ≡ outcomes model s (map arguments cs)
  run_outcomes arguments seen model keeps leaves s [] h = refl
  run_outcomes arguments seen model keeps leaves s (c ∷ cs) h =
      let here : seen c ≡ model s (arguments c) = keeps c h.1 ∙ ap (λ (t : S). model t (arguments c)) h.0 in
      let state : left c ≡ (model s (arguments c)).state = sym (leaves c) ∙ ap (λ (o : Outcome _ S). o.state) here in
      let rest = run_outcomes arguments seen model keeps leaves (left c) cs h.2 ∙ ap (λ (t : S). outcomes model t (map arguments cs)) state in
      λ i. here i ∷ rest i

  -- contracts that imply others
  pub run_weaker : (Weaker : C → Type 0) → ((c : C) → Keeps c → Weaker c) → (s : S) (cs : List C) → Run given left Keeps s cs → Run given left Weaker s cs
  run_weaker Weaker keeps s [] h = tt
  run_weaker Weaker keeps s (c ∷ cs) h = (h.0, keeps c h.1, run_weaker Weaker keeps (left c) cs h.2)

  -- what each contract gives holds of every call
  pub run_every : (P : C → Type 0) → ((c : C) → Keeps c → P c) → (s : S) (cs : List C) → Run given left Keeps s cs → Every P cs
  run_every P keeps s [] h = tt
  run_every P keeps s (c ∷ cs) h = (keeps c h.1, run_every P keeps (left c) cs h.2)

  -- what holds of every call beside the contracts
  pub run_with : (P : C → Type 0) (s : S) (cs : List C) → Run given left Keeps s cs → Every P cs → Run given left (λ c. Keeps c × P c) s cs
  run_with P s [] h e = tt
  run_with P s (c ∷ cs) h e = (h.0, (h.1, e.0), run_with P (left c) cs h.2 e.1)

  -- the calls that are not refused follow one another, since a refused one leaves the state
  pub run_unrefused : {F : Type 0} (refusal : C → Option F) → ((c : C) (f : F) → Keeps c → refusal c ≡ Some f → left c ≡ given c) → (s : S) (cs : List C)
      → Run given left Keeps s cs → Run given left (λ c. Keeps c × (refusal c ≡ None)) s (unrefused refusal cs)
  run_unrefused refusal leaves s [] h = tt
  run_unrefused refusal leaves s (c ∷ cs) h = go (refusal c) refl (λ (t : S). run_unrefused refusal leaves t cs)
    where
      go : (n : Option _) → refusal c ≡ n → ((t : S) → Run given left Keeps t cs → Run given left (λ c. Keeps c × (refusal c ≡ None)) t (unrefused refusal cs))
          → Run given left (λ c. Keeps c × (refusal c ≡ None)) s (keep_unless n c (unrefused refusal cs))
      go None e rest = (h.0, (h.1, e), rest (left c) h.2)
      go (Some f) e rest = rest s (subst (λ (t : S). Run given left Keeps t cs) (leaves c f h.1 e ∙ h.0) h.2)

-- a refused call is not kept
pub refused_left_out : {C F : Type 0} (n : Option F) (c : C) (cs : List C) → ¬ (n ≡ None) → keep_unless n c cs ≡ cs
refused_left_out None c cs h = absurd (h refl)
refused_left_out (Some f) c cs h = refl

-- calls whose refusal depends on something in them alone
pub unrefused_map : {C X F : Type 0} (f : C → X) (refusal : X → Option F) (cs : List C) → map f (unrefused (λ c. refusal (f c)) cs) ≡ unrefused refusal (map f cs)
unrefused_map f refusal [] = refl
unrefused_map f refusal (c ∷ cs) = go (refusal (f c)) (unrefused_map f refusal cs)
  where
    go : {F : Type 0} (n : Option F) → map f (unrefused (λ c. refusal (f c)) cs) ≡ unrefused refusal (map f cs)
        → map f (keep_unless n c (unrefused (λ c. refusal (f c)) cs)) ≡ keep_unless n (f c) (unrefused refusal (map f cs))
    go None e = λ i. f c ∷ e i
    go (Some r) e = e
