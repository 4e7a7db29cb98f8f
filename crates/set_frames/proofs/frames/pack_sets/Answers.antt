-- `set_frames::frames::pack_sets` meets its contract: the room decides the refusal. Assumes nothing.
use mathlib.Core.Path.{◌≡◌, refl, sym, ap, ◌∙◌}
use mathlib.Core.List.{List, ◌++◌}
use Prim.Native.Nat.{ℕ, ◌/◌}
use lib.ListN.{length, drop}
use borrow.Author.Tests.{lt-ltb, le-ltb}
use Rattle.bits.specs.Lists.{written_unless}
use Rattle.std.specs.Prelude.{Option, None, Some, Ok}
use Rattle.refusal.specs.Refusals.{unless}
use Rattle.refusal.specs.declared.Refusal.{Refusal}
use Rattle.refusal.specs.declared.Refusal.TheVariants.{ShortOutput}
use Rattle.set_frames.specs.Sending.{sets_in, sent, frames_refusal, frames_answer, frames_writes}
use Rattle.set_frames.proofs.frames.pack_sets.Goals as goal

-- what is owed by the refusal
owes : (ord bytes out : List ℕ) (n : Option Refusal) → frames_refusal bytes (length out) ≡ n
    → (unless n (length (sent ord bytes)) ≡ frames_answer ord bytes (length out))
    × (written_unless n (length (sent ord bytes)) (sent ord bytes) out ≡ frames_writes ord bytes out)
unfolding frames_answer frames_writes
owes ord bytes out n e = (
  ap (λ (m : Option Refusal). unless m (length (sent ord bytes))) (sym e),
  ap (λ (m : Option Refusal). written_unless m (length (sent ord bytes)) (sent ord bytes) out) (sym e),
)

pub returns-then-out-bytes : goal.returns-then-out-bytes
returns-then-out-bytes c =
    let a = c.args in
    let p = owes a.order.now a.bytes.now a.out.now (Some ShortOutput)
    (rw (lt-ltb (length a.out.now / 7) (sets_in a.bytes.now) c.if-out-bytes.true) refl) in record { answer = p.0; written = p.1 }

pub returns : goal.returns
returns c =
    let packed = c in
    let a = packed.args in
    let e = packed.pack_all.ensures in
    let o = owes a.order.now a.bytes.now a.out.now None (rw (le-ltb (length a.out.now / 7) (sets_in a.bytes.now) packed.if-out-bytes.false) refl) in record { answer = ap Ok e.end ∙ o.0; written = e.written ∙ ap (λ (n : ℕ). sent a.order.now a.bytes.now ++ drop n a.out.now) e.end ∙ o.1 }
