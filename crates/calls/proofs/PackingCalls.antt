-- Packing calls of the code: what the toolchain reads in the contract of `frame::pack` is the model's step.
-- Assumes nothing.
use mathlib.Core.Path.{◌≡◌, refl, sym, ap, ap₂, ◌∙◌, subst⁻¹}
use mathlib.Core.Bool.{Bool, not}
use mathlib.Core.List.{List, [], ◌++◌}
use Prim.Native.Nat.{ℕ}
use denote.Ref.{Bor, MutBor}
use lib.ListN.{length, take, drop}
use lib.Seq.{take-append_seam}
use Rattle.std.specs.Prelude.{Option, None, Some}
use Rattle.refusal.specs.Refusals.{number_of, unless}
use Rattle.refusal.specs.declared.Refusal.{Refusal}
use Rattle.order.proofs.Frames.{frame_length}
use Rattle.frame.specs.Layout.{logical_of, frame}
use Rattle.bits.specs.Lists.{written_unless}
use Rattle.frame.specs.Packing.{pack_refusal, pack_answer, pack_writes}
use Rattle.sets.specs.declared.ParameterSet.{ParameterSet}
use Rattle.calls.specs.Model.{done, pack_unless, PackArguments, pack_kind}
use Rattle.calls.specs.Calls.{PackCall, PackStep}
use Rattle.calls.specs.CodeCalls.{pack_call, CodePacks}

-- a lent list
abbrev pub slice : List ℕ → Bor (List ℕ)
slice l = record { ref_ptr = (0, 0); now = l }

-- a value lent to be written
abbrev pub lent_to_write : {A : Type 0} → A → MutBor A
lent_to_write x = record { ref_ptr = (0, 0); ghost_name = 0; now = x }

-- there is such a call for all arguments
pub pack_had : (sync : Bool) (x : PackArguments)
    → CodePacks (pack_call x.order x.set sync x.lent (pack_answer x.order x.set sync (length x.lent)) (pack_writes x.order x.set sync x.lent))
pack_had sync x = record {
  κs = ([], ([], tt));
  passed = (x.set, (sync, (slice x.order, (lent_to_write x.lent, tt))));
  gave = pack_answer x.order x.set sync (length x.lent);
  left = (x.set, (sync, (slice x.order, (lent_to_write (pack_writes x.order x.set sync x.lent), tt))));
  contract = (refl, refl);
  observed = refl;
}

module _ (ord : List ℕ) (set : ParameterSet) (sync : Bool) where
  -- the frame stands in front of what is written
  frame_front : (rest : List ℕ) → take 7 (frame ord set sync ++ rest) ≡ frame ord set sync
  frame_front rest =
      ap (λ (n : ℕ). take n (frame ord set sync ++ rest)) (sym (frame_length ord (logical_of set sync))) ∙ take-append_seam (frame ord set sync) rest

  -- what the contract says is the model's step, whatever the refusal
  pub pack_step : (lent : List ℕ) (n : Option Refusal) → pack_refusal ord set (length lent) ≡ n
      → PackStep (pack_call ord set sync lent (unless n (not sync)) (written_unless n 7 (frame ord set sync) lent))
  pack_step lent None e = record {
    outcome = (λ i. record { answer = done (frame_front (drop 7 lent) i); state = not sync }) ∙ sym (ap (λ (n : Option Refusal). pack_unless number_of n ord sync set) e);
    output = ap (λ (l : List ℕ). l ++ drop 7 lent) (sym (frame_front (drop 7 lent)));
  }
  pack_step lent (Some f) e = record { outcome = sym (ap (λ (n : Option Refusal). pack_unless number_of n ord sync set) e); output = refl }

-- so a packing call of the code does what the model does
pub code_packs : (c : PackCall pack_kind) → CodePacks c → PackStep c
unfolding pack_answer pack_writes
code_packs c k =
    let set = k.passed.0 in
    let sync = k.passed.1.0 in
    let ord = k.passed.1.1.0.now in
    let lent = k.passed.1.1.1.0.now in
    let as_said : c ≡ pack_call ord set sync lent (pack_answer ord set sync (length lent)) (pack_writes ord set sync lent) =
    k.observed ∙ ap₂ (pack_call ord set sync lent) k.contract.0 k.contract.1 in
    subst⁻¹ PackStep as_said (pack_step ord set sync lent (pack_refusal ord set (length lent)) refl)
