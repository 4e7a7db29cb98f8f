-- std's chunks of seven bytes are the frames, and what the receiver makes of each. Assumes nothing.
use mathlib.Core.Path.{◌≡◌, ap}
use mathlib.Core.List.{List, []}
use Prim.Native.Nat.{ℕ, suc, ◌<◌}
use lib.ListN.{get_or}
use Rattle.std.specs.Simd.{first_chunks}
use Rattle.bits.proofs.Chunks
use Rattle.order.specs.Order.{default_order}
use Rattle.records.specs.declared.Record.{Record}
use Rattle.receiver.specs.Receiving.{receive}
use Rattle.receiver.specs.Frames.{frames_in, frame_at, record_after, answer_at}
use Rattle.receiver.proofs.Frames.{answer_is, next_is}

module _ (bytes : List ℕ) (frames : List (List ℕ)) (k : ℕ) (e : frames ≡ first_chunks 7 (frames_in bytes) bytes) (h : k < frames_in bytes) where
  -- chunk k is frame k
  chunk_at : get_or frames k [] ≡ frame_at bytes k
  chunk_at = Chunks.chunk_at 7 bytes (frames_in bytes) k frames e h

  -- received after the frames before it
  pub chunk_received : (rec : Record) → rec ≡ record_after default_order bytes k
      → ((receive default_order rec (get_or frames k [])).answer ≡ answer_at default_order bytes k)
      × ((receive default_order rec (get_or frames k [])).next ≡ record_after default_order bytes (suc k))
  chunk_received rec r =
      let frame = ap (receive default_order rec) chunk_at in
      (answer_is default_order bytes k rec _ frame r, next_is default_order bytes k rec _ frame r)
