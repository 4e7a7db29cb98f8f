-- Document 01, "Order of the bits" and "Refusals by place", with document 02, T-07: what a packing call answers and leaves, in the order that it is lent.
use Rattle.std.specs.Prelude.{ℕ, Bool, false, not, cond, List, [], ◌∷◌, ◌++◌, ltb, length, Option, Result}
use Rattle.bits.specs.Lists.{written_unless}
use Rattle.refusal.specs.Refusals.{Table, first_refusal, unless}
use Rattle.refusal.specs.declared.Refusal.{Refusal}
use Rattle.refusal.specs.declared.Refusal.TheVariants.{ShortOutput, OutOfRange, InvalidOrder}
use Rattle.order.specs.Order.{is_order, order_table}
use Rattle.sets.specs.Sets.{sendable}
use Rattle.frame.specs.Layout.{frame}
use Rattle.sets.specs.declared.ParameterSet.{ParameterSet}

-- the sync bit of a fresh sender
abbrev pub fresh_sync : Bool
fresh_sync = false

-- what refuses a call: an output of fewer than seven bytes; what refuses the order; a set that a sender does not take
abbrev pub pack_table : List ℕ → ParameterSet → ℕ → Table
pack_table ord set room = (ltb room 7, ShortOutput) ∷ order_table ord ++ (not (sendable set), OutOfRange) ∷ []

-- its refusal
abbrev pub pack_refusal : List ℕ → ParameterSet → ℕ → Option Refusal
pack_refusal ord set room = first_refusal (pack_table ord set room)

-- the answer: the next sync bit, which changes after each frame packed, or the refusal
unfoldable pub pack_answer : List ℕ → ParameterSet → Bool → ℕ → Result Bool Refusal
pack_answer ord set sync room = unless (pack_refusal ord set room) (not sync)

-- the output afterwards: the frame in front and all past the seventh byte kept; after a refusal all kept
unfoldable pub pack_writes : List ℕ → ParameterSet → Bool → List ℕ → List ℕ
pack_writes ord set sync out = written_unless (pack_refusal ord set (length out)) 7 (frame ord set sync) out

-- helper of the code: what refuses a set that a sender does not take, once the output is long enough
abbrev pub set_refusal : List ℕ → Refusal
set_refusal ord = cond (is_order ord) OutOfRange InvalidOrder
