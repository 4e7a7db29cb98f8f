-- Document 01, "Receiver", with document 02, T-06: what is claimed of the record after a call, in any order of the bits. Proved in the law file of this name.
use Rattle.std.specs.Prelude.{ℕ, ◌≡◌, List, T}
use Rattle.records.specs.Records.{repeats_in, valid}
use Rattle.records.specs.declared.Record.{Record}
use Rattle.receiver.specs.Receiving.{receive}
use Rattle.receiver.specs.SoftReceiving.{soft_receive}

module _ (ord : List ℕ) (r : Record) (bytes : List ℕ) where
  pub record StaysValid : Type 0 where
    -- a valid record stays valid, without and with confidences, whatever comes
    pub plain : T (valid r) → T (valid (receive ord r bytes).next)
    pub soft : (confidences : List ℕ) → T (valid r) → T (valid (soft_receive ord r bytes confidences).next)
    -- so the number of repeats stays true
    pub number : T (valid r) → (receive ord r bytes).next.repeats ≡ repeats_in (receive ord r bytes).next.kinds
    pub soft_number : (confidences : List ℕ) → T (valid r)
        → (soft_receive ord r bytes confidences).next.repeats ≡ repeats_in (soft_receive ord r bytes confidences).next.kinds
