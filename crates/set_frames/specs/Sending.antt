-- The programs `send` and `bench_pack`, no part of document 01: for the bytes of a call's sets, the frames that document 01 defines, by a sender that
-- starts fresh, in one order (document 02, T-07).
use Rattle.std.specs.Prelude.{ℕ, zero, suc, ◌*◌, ◌/◌, Bool, not, ◌&&◌, cond, List, [], ◌∷◌, ◌++◌, ltb, length, take, drop, Option, Result, Ok, Err}
use Rattle.bits.specs.Lists.{written_unless}
use Rattle.refusal.specs.Refusals.{Table, first_refusal, unless}
use Rattle.refusal.specs.declared.Refusal.{Refusal}
use Rattle.refusal.specs.declared.Refusal.TheVariants.{ShortOutput, OutOfRange}
use Rattle.order.specs.Order.{is_order}
use Rattle.sets.specs.Sets.{sendable}
use Rattle.frame.specs.Layout.{frame}
use Rattle.frame.specs.Packing.{fresh_sync, set_refusal}
use Rattle.set_bytes.specs.SetBytes.{set_in, is_set}

-- whole sets of eleven bytes
abbrev pub sets_in : List ℕ → ℕ
sets_in bytes = length bytes / 11

-- the eleven bytes of set k
abbrev pub bytes_at : List ℕ → ℕ → List ℕ
bytes_at bytes k = take 11 (drop (11 * k) bytes)

-- they are those of a set that a sender takes, in a list that is an order
unfoldable pub taken : List ℕ → List ℕ → Bool
taken ord set = is_set set && is_order ord && sendable (set_in set)

-- the frame of the set in eleven bytes
abbrev pub frame_of : List ℕ → List ℕ → Bool → List ℕ
frame_of ord set sync = frame ord (set_in set) sync

-- the frames of n sets from set k on: the sync bit changes after each, and bytes that are not taken end them
unfoldable pub sent_from : List ℕ → List ℕ → Bool → ℕ → ℕ → List ℕ
sent_from ord bytes sync k zero = []
sent_from ord bytes sync k (suc n) =
    cond (taken ord (bytes_at bytes k)) (frame_of ord (bytes_at bytes k) sync ++ sent_from ord bytes (not sync) (suc k) n) []

-- all frames
unfoldable pub sent : List ℕ → List ℕ → List ℕ
sent ord bytes = sent_from ord bytes fresh_sync 0 (sets_in bytes)

-- what refuses a call: an output that has room for fewer frames than there are sets
abbrev pub frames_table : List ℕ → ℕ → Table
frames_table bytes room = (ltb (room / 7) (sets_in bytes), ShortOutput) ∷ []

-- its refusal
abbrev pub frames_refusal : List ℕ → ℕ → Option Refusal
frames_refusal bytes room = first_refusal (frames_table bytes room)

-- the answer: where the frames end, or the refusal
unfoldable pub frames_answer : List ℕ → List ℕ → ℕ → Result ℕ Refusal
frames_answer ord bytes room = unless (frames_refusal bytes room) (length (sent ord bytes))

-- the output afterwards: the frames in front, and all past them kept; after a refusal all kept
unfoldable pub frames_writes : List ℕ → List ℕ → List ℕ → List ℕ
frames_writes ord bytes out = written_unless (frames_refusal bytes (length out)) (length (sent ord bytes)) (sent ord bytes) out

-- steps on the way: what refuses bytes that are not taken, what packing eleven bytes answers, and the output with their frame as its frame k
abbrev pub bytes_refusal : List ℕ → List ℕ → Refusal
bytes_refusal ord set = cond (is_set set) (set_refusal ord) OutOfRange

unfoldable pub set_answer : List ℕ → List ℕ → Bool → Result Bool Refusal
set_answer ord set sync = cond (taken ord set) (Ok (not sync)) (Err (bytes_refusal ord set))

unfoldable pub set_writes : List ℕ → List ℕ → Bool → ℕ → List ℕ → List ℕ
set_writes ord set sync k out = cond (taken ord set) (take (7 * k) out ++ (frame_of ord set sync ++ drop (7 * suc k) out)) out
