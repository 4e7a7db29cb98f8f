-- Of two tables one after the other, what the first refuses is refused.
-- Assumes nothing.
use mathlib.Core.Path.{◌≡◌, refl, sym, ◌∙◌}
use mathlib.Core.Bool.{Bool, true, false, cond}
use mathlib.Core.List.{[], ◌∷◌, ◌++◌}
use Rattle.std.specs.Prelude.{Option, None, Some}
use Rattle.refusal.specs.declared.Refusal.{Refusal}
use Rattle.refusal.specs.Refusals.{Table, first_refusal}

pub first_append : (rows others : Table) (f : Refusal) → first_refusal rows ≡ Some f → first_refusal (rows ++ others) ≡ Some f
first_append [] others f e = search
first_append (row ∷ rows) others f e = go row.0 (first_append rows others f) e
  where
    go : (b : Bool) → (first_refusal rows ≡ Some f → first_refusal (rows ++ others) ≡ Some f) → cond b (Some row.1) (first_refusal rows) ≡ Some f
        → cond b (Some row.1) (first_refusal (rows ++ others)) ≡ Some f
    go true more e = e
    go false more e = more e

-- so where nothing is refused, the first refuses nothing
pub append_none : (rows others : Table) → first_refusal (rows ++ others) ≡ None → first_refusal rows ≡ None
append_none rows others e = go (first_refusal rows) refl
  where
    go : (n : Option Refusal) → first_refusal rows ≡ n → n ≡ None
    go None h = refl
    go (Some f) h = sym (first_append rows others f h) ∙ e
