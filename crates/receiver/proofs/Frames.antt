-- What the receiver answers frame k of many, and the record it leaves. Assumes nothing.
use mathlib.Core.Path.{◌≡◌, ap, ◌∙◌}
use mathlib.Core.List.{List}
use Prim.Native.Nat.{ℕ, suc}
use Rattle.receiver.specs.declared.Received.{Received}
use Rattle.records.specs.declared.Record.{Record}
use Rattle.receiver.specs.Receiving.{receive}
use Rattle.receiver.specs.Frames.{frame_at, record_after, answer_at}

module _ (ord bytes : List ℕ) (k : ℕ) (r : Record) (x : Received)
    (h : x ≡ receive ord r (frame_at bytes k)) (e : r ≡ record_after ord bytes k) where
  -- the receiver took frame k
  received_is : x ≡ receive ord (record_after ord bytes k) (frame_at bytes k)
  received_is = h ∙ ap (λ (s : Record). receive ord s (frame_at bytes k)) e

  pub answer_is : x.answer ≡ answer_at ord bytes k
  unfolding answer_at
  answer_is = ap (λ (y : Received). y.answer) received_is

  pub next_is : x.next ≡ record_after ord bytes (suc k)
  unfolding record_after
  next_is = ap (λ (y : Received). y.next) received_is
