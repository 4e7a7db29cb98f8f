-- Rows that follow one another: what demand 3 claims of each frame, and of each with the one before it.
-- Assumes nothing.
use mathlib.Core.Path.{◌≡◌, subst⁻¹}
use mathlib.Core.Bool.{Bool}
use mathlib.Core.List.{List, [], ◌∷◌}
use Prim.Native.Nat.{ℕ, suc}
use lib.Dec.{T}
use Rattle.order.specs.Order.{Order}
use Rattle.bursts.specs.Flips.{logical_flips, Correctable, Within}
use Rattle.bursts.specs.Width.{burst_width}
use Rattle.bursts.proofs.Claims.{widths}
use Rattle.records.specs.Records.{valid}
use Rattle.receiver.specs.Receiving.{receive}
use Rattle.receiver.specs.declared.FrameResult.{FrameResult}
use Rattle.records.specs.declared.Record.{Record}
use Rattle.calls.specs.Model.{PackKind, ReceiveKind}
use Rattle.calls.specs.Frames.{Row, set_of, FrameClaim, RowClaim, CorrectableFrame, SameLevels, PairClaim}
use Rattle.bits.specs.Lists.{Every, Successive}
use Rattle.calls.proofs.OneFrame.{frame_claim, g2_same, levels_same}
use Rattle.calls.proofs.Rows.{Known, Chain, got}
use Rattle.calls.proofs.Chains.{clean_valid}

-- flips within the burst width of an order are correctable in it
spread : (ord : List ℕ) → Order ord → (fl : ℕ → Bool) → Within (burst_width ord) fl → Correctable (logical_flips ord fl)
spread ord o = (widths.every_order ord o).inside

module _ (ord : List ℕ) {P : PackKind} {R : ReceiveKind} where
  pub row_claim : (r u : Record) (w : Row P R) → Known ord r u w → RowClaim ord (burst_width ord) w
  row_claim r u w k =
      subst⁻¹ (λ (y : FrameResult). FrameClaim ord (set_of w) w.flips y (burst_width ord)) k.result_is
      (frame_claim ord k.is_order_lem (burst_width ord) (spread ord k.is_order_lem) w.packing.given w.flips r k.is_valid (set_of w) k.may_send)

  -- every row
  pub chain_frames : (r u : Record) (flips : ℕ → ℕ → Bool) (ws : List (Row P R)) → Chain ord r u flips ws → Every (RowClaim ord (burst_width ord)) ws
  chain_frames r u flips [] h = tt
  chain_frames r u flips (w ∷ ws) h = (row_claim r u w h.0, chain_frames (receive ord r (got ord w)).next _ _ ws h.2)

  -- the levels of a row whose receivers have the same G2
  row_levels : (r u : Record) (w : Row P R) → Known ord r u w → T (valid u) → r.g2 ≡ u.g2 → CorrectableFrame ord (set_of w) w.flips
      → SameLevels w.result w.clean
  row_levels r u w k v q c =
      subst⁻¹ (λ (y : FrameResult). SameLevels y w.clean) k.result_is
      (subst⁻¹ (SameLevels _) k.clean_is
      (levels_same ord k.is_order_lem (burst_width ord) (spread ord k.is_order_lem) w.packing.given w.flips r k.is_valid u v (set_of w) k.may_send q c))

  -- every row after another: a correctable frame leaves both receivers the same G2
  pub chain_pairs : (r u : Record) (flips : ℕ → ℕ → Bool) (ws : List (Row P R)) → Chain ord r u flips ws → T (valid u) → Successive (PairClaim ord) ws
  chain_pairs r u flips [] h v = tt
  chain_pairs r u flips (w ∷ []) h v = tt
  chain_pairs r u flips (x ∷ w ∷ ws) h v =
      let k = h.0 in
      let stays = clean_valid ord r u x k v in (
        λ c d. row_levels _ _ w h.2.0 stays
            (g2_same ord k.is_order_lem (burst_width ord) (spread ord k.is_order_lem) x.packing.given x.flips r k.is_valid u v (set_of x) k.may_send c) d,
        chain_pairs (receive ord r (got ord x)).next _ (λ j. flips (suc j)) (w ∷ ws) h.2 stays,
      )
