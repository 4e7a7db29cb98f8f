-- What the clauses of `Reader::new` and `Reader::next` say: each clause is equated with its statement by `refl`. Assumes nothing.
use mathlib.Core.Path.{◌≡◌, refl}
use seplogic.Ra.Ura.{Ura}
use prog.Memory.{Memory}
use prog.Routine.{Routine}
use base.Logic.{SProp}
use types.Logic.{Logic}
use contract.Monad.{Fun}
use contract.Notation.{connectives}
use contract.Lifetimes.{Lfts}
use Rattle.session_reader.specs.Readers.{handed}
use Rattle.session_reader.specs.contracts.reader.Reader.new as new
use Rattle.session_reader.specs.contracts.reader.Reader.next as next

module _ {M : Type 1} {𝓤 : Ura M} (𝓛 : Logic 𝓤) (κs : Lfts 1) (m : Memory → SProp 𝓤) (run : Routine → Fun 𝓤) where
  -- a new reader has the text that was lent, and stands at its start
  pub new_says : (text : _) (text' : _) (r : _) → new.ensures-1 𝓛 κs m run text text' r ≡ (connectives 𝓤).⌜◌⌝ ((r.text ≡ text'.entry) × (r.at ≡ 0))
  new_says text text' r = refl

  -- a step hands on what the text has at the offset, and the reader after it
  pub next_says : (self : _) (self' : _) (h : _) → next.ensures-1 𝓛 κs m run self self' h ≡ (connectives 𝓤).⌜◌⌝ (h ≡ handed self'.entry)
  next_says self self' h = refl
