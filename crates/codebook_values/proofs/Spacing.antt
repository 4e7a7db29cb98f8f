-- What is promised of LSF values: ten raised sums have room between 50 and 3,950 Hz, so lowering leaves them spaced.
-- Assumes nothing.
use mathlib.Core.Path.{◌≡◌, refl, sym, ap, ◌∙◌}
use mathlib.Core.Bool.{true}
use mathlib.Core.List.{List}
use Prim.Native.Nat.{ℕ, ◌<◌}
use native.Mathlib.Numerals.{add-one}
use native.Mathlib.Omega.{arith}
use lib.ListN.{length, get_or, drop, take}
use lib.Seq.{take_at}
use lib.IntN.{ℤ, pos}
use lib.Signed.{◌≤ℤ◌}
use Rattle.std.specs.Prelude.{Option, None, Some, Ok}
use Rattle.refusal.specs.Refusals.{unless}
use Rattle.refusal.specs.declared.Refusal.{Refusal}
use Rattle.bits.proofs.Tests.{T_true}
use Rattle.sets.specs.Sets.{indices_in, in_range}
use Rattle.sets.specs.declared.ParameterSet.{ParameterSet}
use Rattle.codebook.specs.Rows.{lsf_size}
use Rattle.codebook_values.specs.Values.{added_four, spacing, raised, highest, lowered, rows_values, rows_fit, of_rows, lsf_refusal, lsf_values, lsf_answer, lsf_writes}
use Rattle.codebook_values.specs.Spacing.{Spaced, InBand, LsfSpacing}
use Rattle.codebook_values.specs.Checks.{rows_table}
use Rattle.codebook_values.proofs.Answers.{table_passed}
use Rattle.codebook_values.proofs.Lengths.{lsf_length}
use Rattle.codebook_values.proofs.Lowered.{lowered_length, lowered_le, lowered_spaced, lowered_kept}
use Rattle.codebook_values.proofs.Spaced.{raised_spaced, spaced_kept, spaced_from, spaced_apart, apart_spaced}
use Rattle.codebook_values.proofs.Sums.{sums_fits}

-- ten spaced values none of which is above 3,950 Hz
spaced_band : (values : List ℤ) → length values ≡ 10 → Spaced spacing values → ((i : ℕ) → i < length values → get_or values i (pos 0) ≤ℤ highest) → InBand values
spaced_band values n s h =
    record {
      ten = n;
      apart = λ i k. rw add-one (spaced_apart spacing values i (omega arith) s);
      from_50 = λ i k. spaced_from spacing values i (omega arith) s;
      to_3950 = λ i k. h i (omega arith);
    }

-- and back
band_spaced : (values : List ℤ) → InBand values → Spaced spacing values
band_spaced values b =
    apart_spaced spacing values (λ i h. rw add-one at (b.apart i (omega (arith, b.ten)))) (λ h. b.from_50 0 (omega arith))

-- the values of a set in range and a whole codebook
pub lsf_band : (codebook : List ℤ) (set : ParameterSet) → length codebook ≡ lsf_size → in_range set ≡ true → InBand (lsf_values codebook set)
unfolding lsf_values
lsf_band codebook set whole range =
    let n = lsf_length codebook set whole (T_true (in_range set) range) in
    let room = sym (lowered_length highest _) ∙ n in
    spaced_band _ n (lowered_spaced 50000000 3950000000 _ (omega (arith, room)) (raised_spaced spacing _)) (lowered_le highest _)

-- an answer with values has no refusal
written_passed : (n : Option Refusal) → unless {A = Unit {0}} n tt ≡ Ok tt → n ≡ None
written_passed None e = refl
written_passed (Some f) e = cc

-- a call that is not refused leaves them in front of its output
lsf_written : (set : ParameterSet) (codebook out : List ℤ) → lsf_answer set codebook (length out) ≡ Ok tt → InBand (take 10 (lsf_writes set codebook out))
unfolding lsf_answer lsf_writes
lsf_written set codebook out e =
    let passed = written_passed (lsf_refusal set codebook (length out)) e in
    let p = table_passed set codebook lsf_size (length out) (rows_table (of_rows rows_fit codebook (indices_in set))) passed in
    let band = lsf_band codebook set p.whole p.range in
    rw (passed, take_at (lsf_values codebook set) (drop 10 out) 10 band.ten) band

-- values in bounds are not lowered
band_kept : (values : List ℤ) → InBand values → lowered highest values ≡ values
band_kept values b = lowered_kept spacing highest values (band_spaced values b) (λ i h. b.to_3950 i (omega (arith, b.ten)))

-- nor raised
rows_kept : (a b c d : List ℤ) → InBand (added_four a b c d) → rows_values a b c d ≡ added_four a b c d
rows_kept a b c d h = let sums = added_four a b c d in ap (lowered highest) (spaced_kept spacing sums (band_spaced sums h)) ∙ band_kept sums h

-- all together
pub lsf_spacing : LsfSpacing
lsf_spacing = record { written = lsf_written; kept = rows_kept; raised_kept = λ sums h. band_kept (raised spacing sums) h; bounded = sums_fits }
