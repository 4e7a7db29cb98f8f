-- Document 01, "LSF and magnitude values" and "Refusals by place", and document 02, T-03, in numbers: the rows that a set names, sums that run
-- off the top, and what is refused. Each fact is about what the calls answer or write.
use Rattle.std.specs.Prelude.{ℕ, ◌*◌, ◌≡◌, cond, List, [], ◌∷◌, ◌++◌, map, eqb, replicate, ℤ, pos, Ok, Err}
use Rattle.bits.specs.Bits.{cut}
use Rattle.sets.specs.declared.Indices.{Indices}
use Rattle.sets.specs.declared.ParameterSet.{ParameterSet}
use Rattle.sets.specs.declared.ParameterSet.TheVariants.{Unvoiced, Voiced}
use Rattle.refusal.specs.declared.Refusal.TheVariants.{ShortOutput, OutOfRange, InvalidCodebook, EntryOutOfRange}
use Rattle.codebook.specs.Examples.{counting, zeros_but}
use Rattle.codebook_values.specs.Values.{lsf_answer, lsf_writes, magnitudes_answer, magnitudes_writes}

-- L1 = 1, L2 = 2, L3 = 3, L4 = 4, voiced with F = 5 or unvoiced; and a set with L1 one past its range
abbrev pub indices : ℕ → Indices
indices first = record { l1 = first; l2 = 2; l3 = 3; l4 = 4; g2 = 0; g1 = 0 }

abbrev pub unvoiced : ParameterSet
unvoiced = Unvoiced (indices 1)

abbrev pub voiced : ParameterSet
voiced = Voiced (indices 1) (record { pitch = 0; bandpass = 0; fourier = 5; aperiodic = 0 })

abbrev pub outside : ParameterSet
outside = Unvoiced (indices 128)

-- hertz in millionths
abbrev pub hertz : List ℕ → List ℤ
hertz = map (λ n. pos (1000000 * n))

-- 1,000 Hz, 200 Hz, 30 Hz and 4 Hz in front of row 1 of stage 1, row 2 of stage 2, row 3 of stage 3 and row 4 of stage 4; all else is 0
abbrev pub four_entries : List ℤ
four_entries =
    hertz (cut (λ i. cond (eqb i 10) 1000 (cond (eqb i 1300) 200 (cond (eqb i 1950) 30 (cond (eqb i 2600) 4 0)))) 0 3200)

-- these ten sums in hertz as row 1 of stage 1, and all else 0
abbrev pub one_row : List ℕ → List ℤ
one_row sums = hertz (replicate 10 0 ++ sums ++ replicate 3180 0)

-- sums that run off the top (document 02, T-03)
pub record Lowered : Type 0 where
  -- 3,900, 3,910 and 3,990 Hz are raised to 3,930, 3,980 and 4,030, and then the last four come down
  pub last_four : lsf_writes unvoiced (one_row (300 ∷ 900 ∷ 1500 ∷ 2100 ∷ 2700 ∷ 3300 ∷ 3880 ∷ 3900 ∷ 3910 ∷ 3990 ∷ [])) (counting 0 12)
      ≡ hertz (300 ∷ 900 ∷ 1500 ∷ 2100 ∷ 2700 ∷ 3300 ∷ 3800 ∷ 3850 ∷ 3900 ∷ 3950 ∷ []) ++ counting 10 2
  -- 3,950 Hz may be reached
  pub top_kept : lsf_writes unvoiced (one_row (300 ∷ 900 ∷ 1500 ∷ 2100 ∷ 2700 ∷ 3300 ∷ 3800 ∷ 3850 ∷ 3900 ∷ 3950 ∷ [])) (counting 0 10)
      ≡ hertz (300 ∷ 900 ∷ 1500 ∷ 2100 ∷ 2700 ∷ 3300 ∷ 3800 ∷ 3850 ∷ 3900 ∷ 3950 ∷ [])
  -- a first sum at its limit carries all others with it, before any is lowered
  pub raised_first : lsf_writes unvoiced (one_row (4000 ∷ replicate 9 0)) (counting 0 10)
      ≡ hertz (3500 ∷ 3550 ∷ 3600 ∷ 3650 ∷ 3700 ∷ 3750 ∷ 3800 ∷ 3850 ∷ 3900 ∷ 3950 ∷ [])

-- the values, in front of an output of twelve numbers
pub record Values : Type 0 where
  pub one_row_of_each_stage : lsf_writes unvoiced four_entries (counting 0 12)
      ≡ hertz (1234 ∷ 1284 ∷ 1334 ∷ 1384 ∷ 1434 ∷ 1484 ∷ 1534 ∷ 1584 ∷ 1634 ∷ 1684 ∷ []) ++ counting 10 2
  pub from_50_hertz : lsf_writes unvoiced (replicate 3200 (pos 0)) (counting 0 10)
      ≡ hertz (50 ∷ 100 ∷ 150 ∷ 200 ∷ 250 ∷ 300 ∷ 350 ∷ 400 ∷ 450 ∷ 500 ∷ [])
  pub row_five : magnitudes_writes voiced (counting 0 2560) (counting 0 12) ≡ counting 50 10 ++ counting 10 2
  pub no_row : magnitudes_writes unvoiced (counting 0 2560) (counting 0 12) ≡ replicate 10 (pos 1000000) ++ counting 10 2
  pub kept : lsf_writes outside (replicate 3200 (pos 0)) (counting 0 12) ≡ counting 0 12

-- the refusals: 1 for the room, 5 for the set, 6 for the codebook's length, 7 for an entry of a row in use
pub record Refusals : Type 0 where
  pub room : map (lsf_answer unvoiced (replicate 3200 (pos 0))) (9 ∷ 10 ∷ []) ≡ Err ShortOutput ∷ Ok tt ∷ []
  pub magnitudes_room : map (magnitudes_answer unvoiced (replicate 2560 (pos 0))) (9 ∷ 10 ∷ []) ≡ Err ShortOutput ∷ Ok tt ∷ []
  pub range : lsf_answer outside (replicate 3200 (pos 0)) 10 ≡ Err OutOfRange
  pub length : map (λ n. lsf_answer unvoiced (replicate n (pos 0)) 10) (3199 ∷ 3200 ∷ 3201 ∷ []) ≡ Err InvalidCodebook ∷ Ok tt ∷ Err InvalidCodebook ∷ []
  pub magnitudes_length : map (λ n. magnitudes_answer unvoiced (replicate n (pos 0)) 10) (2559 ∷ 2560 ∷ 2561 ∷ [])
      ≡ Err InvalidCodebook ∷ Ok tt ∷ Err InvalidCodebook ∷ []
  pub entry : map (λ n. lsf_answer unvoiced (zeros_but 3200 2609 (pos n)) 10) (4000000000 ∷ 4000000001 ∷ []) ≡ Ok tt ∷ Err EntryOutOfRange ∷ []
  pub magnitude : map (λ n. magnitudes_answer voiced (zeros_but 2560 59 (pos n)) 10) (4000000 ∷ 4000001 ∷ []) ≡ Ok tt ∷ Err EntryOutOfRange ∷ []
  pub unvoiced_magnitude : magnitudes_answer unvoiced (zeros_but 2560 59 (pos 4000001)) 10 ≡ Ok tt
  pub first : map (λ (set : ParameterSet). lsf_answer set (zeros_but 3199 10 (pos 4000000001)) 10) (outside ∷ unvoiced ∷ [])
      ≡ Err OutOfRange ∷ Err InvalidCodebook ∷ []
  pub room_first : lsf_answer outside [] 9 ≡ Err ShortOutput

-- all together
pub record Examples : Type 0 where
  pub values : Values
  pub lowered : Lowered
  pub refusals : Refusals
