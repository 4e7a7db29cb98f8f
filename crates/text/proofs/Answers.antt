-- What a call owes where the buffer ends before the text, and where it does not; and what a call leaves where there is room. Assumes nothing.
use mathlib.Core.Path.{◌≡◌, refl, sym, ap, ◌∙◌}
use mathlib.Core.Bool.{Bool, true, false}
use mathlib.Core.List.{List}
use Prim.Native.Nat.{ℕ, ◌+◌, ◌≤◌, ◌<◌}
use lib.Dec.{ltb}
use lib.ListN.{length}
use borrow.Author.Tests.{lt-ltb, le-ltb, ltb-true, ltb-false}
use Rattle.std.specs.Prelude.{Result, Ok, Err}
use Rattle.std.specs.Result.{result_unwrap_or}
use Rattle.refusal.specs.declared.Refusal.{Refusal}
use Rattle.refusal.specs.declared.Refusal.TheVariants.{ShortOutput}
use Rattle.text.specs.Placing.{place_answer, place_writes, end_of, Put, PutIfRoom}

-- what a call for a text owes
abbrev pub Owes : List ℕ → ℕ → List ℕ → List ℕ → Result ℕ Refusal → Type 0
Owes text at out after answer = (answer ≡ place_answer text at (length out)) × (after ≡ place_writes text at out)

-- where a text ends is what std's `unwrap_or` gives
pub end_of_is : {E : Type 0} (answer : Result ℕ E) (at : ℕ) → result_unwrap_or answer at ≡ end_of answer at
end_of_is (Ok end) at = refl
end_of_is (Err f) at = refl

module _ (text : List ℕ) (at : ℕ) (out : List ℕ) where
  -- the buffer is too short
  pub short_owes : length out < at + length text → Owes text at out out (Err ShortOutput)
  unfolding place_answer place_writes
  short_owes h = let e = lt-ltb (length out) (at + length text) h in (simp e, simp e)

  -- there is room, and the text is put
  pub room_owes : (after : List ℕ) (end : ℕ) → at + length text ≤ length out → Put out at text after end → Owes text at out after (Ok end)
  unfolding place_answer place_writes
  room_owes after end h p = let e = le-ltb (length out) (at + length text) h in (simp e (ap Ok p.0), simp e p.1)

  -- what a call has put where there was room
  pub owed_put : (after : List ℕ) (answer : Result ℕ Refusal) (end : ℕ) → Owes text at out after answer → end ≡ end_of answer at → PutIfRoom out at text after end
  unfolding place_answer place_writes
  owed_put after answer end o n room =
      let e = le-ltb (length out) (at + length text) room in
      (n ∙ ap (λ (x : Result ℕ Refusal). end_of x at) o.0 ∙ simp e, o.1 ∙ simp e)

-- what the test tells
module _ (size at length : ℕ) (t : Bool) (is : t ≡ ltb size (at + length)) where
  pub test_short : t ≡ true → size < at + length
  test_short e = ltb-true size (at + length) (sym is ∙ e)

  pub test_room : t ≡ false → at + length ≤ size
  test_room e = ltb-false size (at + length) (sym is ∙ e)
