-- The eleven bytes of a set: a written set is read back as itself, and what is read as a set are exactly its bytes.
-- Assumes nothing.
use mathlib.Core.Path.{◌≡◌, refl, sym, ap, ◌∙◌}
use mathlib.Core.Bool.{Bool, true, false, cond}
use mathlib.Core.List.{List}
use Prim.Native.Nat.{ℕ}
use lib.ListN.{length}
use Rattle.std.specs.Prelude.{Ok, Err}
use Rattle.refusal.specs.declared.Refusal.{Refusal}
use Rattle.refusal.specs.declared.Refusal.TheVariants.{OutOfRange}
use Rattle.bits.proofs.Tests.{T_true, true_T}
use Rattle.sets.specs.declared.ParameterSet.{ParameterSet}
use Rattle.sets.specs.declared.ParameterSet.TheVariants.{Unvoiced, Voiced}
use Rattle.set_bytes.specs.SetBytes.{bytes_of, set_in, same, is_set, read_answer}
use Rattle.set_bytes.proofs.Comparison.{same_self, same_only}

-- there are eleven
pub bytes_length : (set : ParameterSet) → length (bytes_of set) ≡ 11
bytes_length (Unvoiced x) = refl
bytes_length (Voiced x v) = refl

-- they would be those of their set
pub bytes_back : (set : ParameterSet) → set_in (bytes_of set) ≡ set
unfolding set_in
bytes_back (Unvoiced x) = refl
bytes_back (Voiced x v) = refl

-- so no two sets share them
pub bytes_one_set : (x y : ParameterSet) → bytes_of x ≡ bytes_of y → x ≡ y
bytes_one_set x y e = sym (bytes_back x) ∙ ap set_in e ∙ bytes_back y

-- they pass the test
pub bytes_fits : (bytes : List ℕ) (set : ParameterSet) → bytes ≡ bytes_of set → is_set bytes ≡ true
unfolding is_set
bytes_fits bytes set e =
    let would : set_in bytes ≡ set = ap set_in e ∙ bytes_back set in
    ap (λ (l : List ℕ). same bytes l) (ap bytes_of would ∙ sym e) ∙ true_T (same bytes bytes) (same_self bytes)

-- and no others do
pub fits_only : (bytes : List ℕ) → is_set bytes ≡ true → bytes ≡ bytes_of (set_in bytes)
unfolding is_set
fits_only bytes e = same_only bytes (bytes_of (set_in bytes)) (T_true (is_set bytes) e)

-- the answer, by the test
pub answer_is : (bytes : List ℕ) (b : Bool) → is_set bytes ≡ b → read_answer bytes ≡ cond b (Ok (set_in bytes)) (Err OutOfRange)
unfolding read_answer
answer_is bytes true e = rw e refl
answer_is bytes false e = rw e refl

-- a written set is read back as itself
pub bytes_taken : (set : ParameterSet) → read_answer (bytes_of set) ≡ Ok set
bytes_taken set = answer_is (bytes_of set) true (bytes_fits (bytes_of set) set refl) ∙ ap Ok (bytes_back set)

-- an answer that is a set: the bytes pass, and would be those of it
pub answer_taken : (bytes : List ℕ) (set : ParameterSet) → read_answer bytes ≡ Ok set → (is_set bytes ≡ true) × (set_in bytes ≡ set)
answer_taken bytes set e = go (is_set bytes) refl
  where
    go : (b : Bool) → is_set bytes ≡ b → (is_set bytes ≡ true) × (set_in bytes ≡ set)
    go true q = (q, cc (answer_is bytes true q))
    go false q = absurd (cc (answer_is bytes false q))

-- one that is a refusal: they do not pass
pub answer_refused : (bytes : List ℕ) (f : Refusal) → read_answer bytes ≡ Err f → is_set bytes ≡ false
answer_refused bytes f e = go (is_set bytes) refl
  where
    go : (b : Bool) → is_set bytes ≡ b → is_set bytes ≡ false
    go true q = absurd (cc (answer_is bytes true q))
    go false q = q

-- what is read as a set are the bytes of that set
pub taken_only : (bytes : List ℕ) (set : ParameterSet) → read_answer bytes ≡ Ok set → bytes ≡ bytes_of set
taken_only bytes set e =
    let t = answer_taken bytes set e in
    fits_only bytes t.0 ∙ ap bytes_of t.1
