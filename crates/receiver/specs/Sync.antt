-- Document 01, "Receiver": two frames that differ in the sync bit alone.
use Rattle.std.specs.Prelude.{ℕ, ◌<◌, ◌≡◌, Bool, List, None, Result, Ok, Err}
use Rattle.refusal.specs.declared.Refusal.{Refusal}
use Rattle.order.specs.Order.{logical_bit}
use Rattle.records.specs.declared.Record.{Record}
use Rattle.receiver.specs.Receiving.{receive_refusal, receive}
use Rattle.receiver.specs.declared.FrameResult.{FrameResult}

-- an answer with another sync bit, all else the same
abbrev pub with_sync : Bool → Result FrameResult Refusal → Result FrameResult Refusal
with_sync sync (Ok x) = Ok (record {
  kind = x.kind;
  set = x.set;
  first = x.first;
  second = x.second;
  mute = x.mute;
  sync = sync;
  repaired = x.repaired;
})
with_sync sync (Err f) = Err f

module _ (ord : List ℕ) (r : Record) (bytes other : List ℕ) where
  -- frames that are not refused, and whose logical bits 0 to 52 are the same
  pub record SyncDiffers : Type 0 where
    pub taken : receive_refusal ord r bytes ≡ None
    pub other_taken : receive_refusal ord r other ≡ None
    pub same : (j : ℕ) → j < 53 → logical_bit ord bytes j ≡ logical_bit ord other j

  -- their results differ in the sync bit alone, and the record after them is the same
  pub record SyncAlone : Type 0 where
    pub answer : (receive ord r other).answer ≡ with_sync (logical_bit ord other 53) (receive ord r bytes).answer
    pub next : (receive ord r other).next ≡ (receive ord r bytes).next
