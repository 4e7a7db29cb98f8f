-- A list of calls of a reader observes the reading of its text: a frame at a time, and then the same answer. Assumes nothing.
use mathlib.Core.Path.{◌≡◌, refl, sym, ap, subst, ◌∙◌}
use mathlib.Core.List.{List, [], ◌∷◌, map}
use Prim.Native.Nat.{ℕ, zero, suc}
use lib.ListN.{length}
use Rattle.std.specs.Prelude.{None, Some, Ok, Err}
use Rattle.session.specs.Format.{most_frames}
use Rattle.session_reader.specs.Steps.{Answer, step_at}
use Rattle.session_reader.specs.Readers.{handed}
use Rattle.session_claims.specs.Reading.{Reading, onward, and_then, ends_by, reading_from}
use Rattle.session_claims.specs.Calls.{NextCalls, observed, shown, CallsRead}
use Rattle.session_reader.specs.declared.Step.{Step}
use Rattle.session_reader.specs.declared.reader.Reader.{Reader}
use Rattle.session_reader.specs.declared.reader.Handed.{Handed}
use Rattle.session_claims.proofs.Repeats.{step_stays}
use Rattle.session_claims.proofs.Claims.{claims}

-- an answer that is no frame
abbrev NoFrame : Answer → Type 0
NoFrame a = (frame : List ℕ) → a ≡ Ok (Some frame) → ⊥

-- it ends a reading
ends_onward : (a : Answer) (rest : Reading) → NoFrame a → onward a rest ≡ ends_by a
ends_onward (Ok (Some frame)) rest h = absurd (h frame refl)
ends_onward (Ok None) rest h = refl
ends_onward (Err r) rest h = refl

reading_ends : (m : ℕ) (text : List ℕ) (at : ℕ) → NoFrame (step_at text at).answer → reading_from m text at ≡ ends_by (step_at text at).answer
unfolding reading_from
reading_ends zero text at h = refl
reading_ends (suc m) text at h = ends_onward (step_at text at).answer (reading_from m text (step_at text at).at) h

-- a reading of no frame ends by the step
reading_none : (text : List ℕ) (at : ℕ) → (reading_from zero text at).answer ≡ (step_at text at).answer
unfolding reading_from
reading_none text at = refl

-- a frame goes before the rest of it
reading_next : (m : ℕ) (text : List ℕ) (at : ℕ) (frame : List ℕ) → (step_at text at).answer ≡ Ok (Some frame)
    → reading_from (suc m) text at ≡ and_then frame (reading_from m text (step_at text at).at)
unfolding reading_from
reading_next m text at frame e = ap (λ (a : Answer). onward a (reading_from m text (step_at text at).at)) e

-- what calls show of a reading
abbrev shows : ℕ → Reading → List Answer
shows n r = shown n r.frames r.answer

-- a frame or not
frame_or_not : {P : Type 0} (a : Answer) → ((frame : List ℕ) → a ≡ Ok (Some frame) → P) → (NoFrame a → P) → P
frame_or_not (Ok (Some frame)) is is-not = is frame refl
frame_or_not (Ok None) is is-not = is-not (λ frame e. cc)
frame_or_not (Err r) is is-not = is-not (λ frame e. cc)

-- the reader that a call hands back stands where its step says
abbrev moved_to : Reader → ℕ → Reader
moved_to r at = record { text = r.text; at = at }

-- calls from any offset, for a reading that comes to an end
abbrev Claim : List Handed → Reader → ℕ → Type 0
Claim hs r m = NoFrame (reading_from m r.text.now r.at).answer → NextCalls r hs
    → map observed hs ≡ shows (length hs) (reading_from m r.text.now r.at)

-- the same after a first call, by those after it
abbrev Opened : List Handed → Reader → ℕ → Type 0
Opened hs r m = observed (handed r) ∷ map observed hs ≡ shows (suc (length hs)) (reading_from m r.text.now r.at)

module _ (hs : List Handed) (r : Reader) (later : NextCalls (handed r).rest hs) where
  abbrev text : List ℕ
  text = r.text.now

  abbrev step : Step
  step = step_at text r.at

  -- a frame was handed on
  onto : (m : ℕ) → ((n : ℕ) → Claim hs (handed r).rest n) → NoFrame (reading_from m text r.at).answer
      → (frame : List ℕ) → step.answer ≡ Ok (Some frame) → Opened hs r m
  onto zero more ends frame f = absurd (ends frame (reading_none text r.at ∙ f))
  onto (suc m) more ends frame f =
      let next = reading_next m text r.at frame f in
      let rest = more m (λ x q. ends x (ap (λ (y : Reading). y.answer) next ∙ q)) later in
      (λ i. f i ∷ rest i) ∙ ap (shows (suc (length hs))) (sym next)

  -- none was
  stop : (m : ℕ) → Claim hs r m → NoFrame (reading_from m text r.at).answer → NoFrame step.answer → Opened hs r m
  stop m more ends n =
      let same = step_stays text r.at n in
      let end = reading_ends m text r.at n in
      let rest = more ends (subst (λ (x : Step). NextCalls (moved_to r x.at) hs) same later) ∙ ap (shows (length hs)) end in
      (λ i. step.answer ∷ rest i) ∙ ap (shows (suc (length hs))) (sym end)

from : (hs : List Handed) (r : Reader) (m : ℕ) → Claim hs r m
from [] r m ends calls = refl
from (h ∷ hs) r m ends (e, calls) =
    let later = subst (λ (x : Handed). NextCalls x.rest hs) e calls in
    ap (λ (x : Handed). observed x ∷ map observed hs) e
    ∙ frame_or_not (step_at r.text.now r.at).answer (onto hs r later m (from hs (handed r).rest) ends) (stop hs r later m (from hs r m) ends)

-- calls from the start
pub calls_read : CallsRead
calls_read r hs z calls =
    let text = r.text.now in
    let r0 : r ≡ moved_to r 0 = λ i. moved_to r (z i) in
    from hs (moved_to r 0) most_frames (claims.ends text) (subst (λ (x : Reader). NextCalls x hs) r0 calls)

-- there are such calls: as many as one likes, of any reader
pub calls_had : (n : ℕ) (r : Reader) → (hs : List Handed) × ((length hs ≡ n) × NextCalls r hs)
calls_had zero r = ([], (refl, tt))
calls_had (suc n) r = let more = calls_had n (handed r).rest in (handed r ∷ more.0, (ap suc more.1.0, (refl, more.1.1)))
