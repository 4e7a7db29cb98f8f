-- How far apart an order keeps the bits of each word and of the pitch code. Helpers of the contracts inside the burst width.
use Rattle.std.specs.Prelude.{ℕ, ◌+◌, ◌-◌, Bool, not, cond, ◌&&◌, List, eqb, ltb, get_or}
use Rattle.bits.specs.Lists.{every}
use Rattle.bursts.specs.declared.width.Part.{Part}
use Rattle.bursts.specs.declared.width.Part.TheVariants.{WordA, WordB, WordC, WordD, PitchCode, Other}

-- the number of a part: 0 to 3 the words A to D, 4 the pitch code, 5 any other
abbrev pub number_of : Part → ℕ
number_of WordA = 0
number_of WordB = 1
number_of WordC = 2
number_of WordD = 3
number_of PitchCode = 4
number_of Other = 5

-- the part of a frame that a logical bit belongs to, as its number
abbrev pub part_of : ℕ → ℕ
part_of j = cond (ltb j 8) 0 (cond (ltb j 14) 1 (cond (ltb j 21) 2 (cond (ltb j 28) 3 (cond (ltb j 35) 4 5))))

-- whether two logical bits are of the same word, or both of the pitch code
abbrev pub same_part : ℕ → ℕ → Bool
same_part i j = ltb (part_of i) 5 && eqb (part_of i) (part_of j)

-- whether the bits at place t and at a distance behind it are not of one part
abbrev pub differ : List ℕ → ℕ → ℕ → Bool
differ ord distance t = not (same_part (get_or ord t 0) (get_or ord (t + distance) 0))

-- whether no two places at a distance hold bits of one part
abbrev pub apart_at : List ℕ → ℕ → Bool
apart_at ord distance = every (54 - distance) (differ ord distance)
