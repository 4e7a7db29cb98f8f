-- Demand 2: packing gives the frame that is defined, receiving reads it so, whichever 54 bits come, and a packed set returns as itself.
-- All of it in every order of the bits, of calls that keep some contracts and are lent that order.
use Rattle.std.specs.Prelude.{ℕ, ◌<◌, ◌≡◌, Bool, List, T, get_or, None, Ok}
use Rattle.order.specs.Order.{Order, frame_of, logical_bit, frame_refusal}
use Rattle.sets.specs.Sets.{indices_in}
use Rattle.reading.specs.Reading.{read}
use Rattle.records.specs.Records.{valid}
use Rattle.records.specs.declared.Record.{Record}
use Rattle.receiver.specs.Steps.{kind_of, step}
use Rattle.receiver.specs.Receiving.{receive}
use Rattle.receiver.specs.declared.FrameResult.{FrameResult}
use Rattle.calls.specs.Model.{pack_kind, receive_kind}
use Rattle.calls.specs.Calls.{PackCall, pack_order, pack_call_refusal, sent, PackStep, ReceiveCall, receive_order, frame_in}

-- a receiving call gives what the logical bits g are read as; bit 53 is the sync bit
pub record ReadsBits (g : ℕ → Bool) (d : ReceiveCall receive_kind) : Type 0 where
  pub answer : d.answer ≡ (step d.given (g 53) (read g)).answer
  pub left : d.left ≡ (step d.given (g 53) (read g)).next

-- a receiving call gives back what a packing call packed: the set in its result, the set and its G2 in the record, the sync bit, nothing repaired
pub record Returns (c : PackCall pack_kind) (d : ReceiveCall receive_kind) : Type 0 where
  pub result : FrameResult
  pub answered : d.answer ≡ Ok result
  pub kind : result.kind ≡ kind_of c.arguments.set
  pub set : result.set ≡ c.arguments.set
  pub sync : result.sync ≡ c.given
  pub repaired : result.repaired ≡ 0
  pub last : d.left.last ≡ c.arguments.set
  pub g2 : d.left.g2 ≡ (indices_in c.arguments.set).g2

module _ (ord : List ℕ) where
  -- the definitions: the frame of any bits is read as they are, with any valid record, and every frame that is not refused is that of its bits
  pub record DefinedReturn : Type 0 where
    pub reads : (r : Record) → T (valid r) → (g : ℕ → Bool) → receive ord r (frame_of ord g) ≡ step r (g 53) (read g)
    pub covers : (bytes : List ℕ) → ((i : ℕ) → i < 7 → get_or bytes i 0 < 256) → frame_refusal ord bytes ≡ None → frame_of ord (logical_bit ord bytes) ≡ bytes

-- the calls: packing does what the model does, and receiving with any valid record reads whichever bits come in its order, and returns a set that was
-- packed in the same order
pub record CallsReturn (Packs : PackCall pack_kind → Type 0) (Receives : ReceiveCall receive_kind → Type 0) : Type 0 where
  pub packs : (c : PackCall pack_kind) → Packs c → PackStep c
  pub reads : (d : ReceiveCall receive_kind) → Receives d → T (valid d.given) → Order (receive_order d) → (g : ℕ → Bool)
      → frame_in d ≡ frame_of (receive_order d) g → ReadsBits g d
  pub returns : (c : PackCall pack_kind) (d : ReceiveCall receive_kind) → Packs c → Receives d → pack_call_refusal c ≡ None → T (valid d.given)
      → receive_order d ≡ pack_order c → frame_in d ≡ sent c → Returns c d
