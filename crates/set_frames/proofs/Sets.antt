-- std's chunks of eleven bytes are the bytes of the sets. Assumes nothing.
use mathlib.Core.Path.{◌≡◌}
use mathlib.Core.List.{List, []}
use Prim.Native.Nat.{ℕ, ◌<◌}
use lib.ListN.{get_or}
use Rattle.std.specs.Simd.{first_chunks}
use Rattle.bits.proofs.Chunks
use Rattle.set_frames.specs.Sending.{sets_in, bytes_at}

-- chunk k is the bytes of set k
pub chunk_at : (bytes : List ℕ) (sets : List (List ℕ)) (k : ℕ) → sets ≡ first_chunks 11 (sets_in bytes) bytes → k < sets_in bytes → get_or sets k [] ≡ bytes_at bytes k
chunk_at bytes sets k e h = Chunks.chunk_at 11 bytes (sets_in bytes) k sets e h
