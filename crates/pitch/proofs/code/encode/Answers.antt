-- `pitch::code::encode` meets its contract: the table is the rule at every index. Assumes nothing.
use mathlib.Core.Path.{◌≡◌, ap}
use mathlib.Core.List.{List, [], ◌∷◌}
use Prim.Native.Nat.{ℕ, ◌<◌, suc-le-suc}
use lib.ListN.{get_or}
use borrow.Author.Tests.{lt-ltb, le-ltb}
use Rattle.bits.proofs.Tests.{equal_at}
use Rattle.pitch.specs.Pitch.{voiced_from, code_of, code_answer}
use Rattle.std.specs.Prelude.{Ok}
use Rattle.pitch.proofs.code.encode.Goals as goal

table : List ℕ
table =
    7 ∷ 11 ∷ 13 ∷ 14 ∷ 15 ∷ 19 ∷ 21 ∷ 22 ∷ 23 ∷ 25 ∷ 26 ∷ 27 ∷ 28 ∷ 29 ∷ 30 ∷ 31 ∷ 35 ∷ 37 ∷ 38 ∷ 39
    ∷ 41 ∷ 42 ∷ 43 ∷ 44 ∷ 45 ∷ 46 ∷ 47 ∷ 49 ∷ 50 ∷ 51 ∷ 52 ∷ 53 ∷ 54 ∷ 55 ∷ 56 ∷ 57 ∷ 58 ∷ 59 ∷ 60 ∷ 61
    ∷ 62 ∷ 63 ∷ 67 ∷ 69 ∷ 70 ∷ 71 ∷ 73 ∷ 74 ∷ 75 ∷ 76 ∷ 77 ∷ 78 ∷ 79 ∷ 81 ∷ 82 ∷ 83 ∷ 84 ∷ 85 ∷ 86 ∷ 87
    ∷ 88 ∷ 89 ∷ 90 ∷ 91 ∷ 92 ∷ 93 ∷ 94 ∷ 95 ∷ 97 ∷ 98 ∷ 99 ∷ 100 ∷ 101 ∷ 102 ∷ 103 ∷ 104 ∷ 105 ∷ 106 ∷ 107 ∷ 108
    ∷ 109 ∷ 110 ∷ 111 ∷ 112 ∷ 113 ∷ 114 ∷ 115 ∷ 116 ∷ 117 ∷ 118 ∷ 119 ∷ 120 ∷ 121 ∷ 122 ∷ 123 ∷ 124 ∷ 125 ∷ 126 ∷ 127 ∷ []

table_is : (i : ℕ) → i < 99 → get_or table i 0 ≡ code_of i
unfolding table voiced_from code_of
table_is = equal_at 99 (λ k. get_or table k 0) code_of tt

pub returns-then-index-gt98 : goal.returns-then-index-gt98
unfolding code_answer
returns-then-index-gt98 c = simp (le-ltb _ 99 c.if-index-gt98.true)

pub returns : goal.returns
unfolding table code_answer
returns c =
    let h = suc-le-suc c.if-index-gt98.false in
    simp (lt-ltb _ 99 h, c.from.ensures) (ap Ok (table_is _ h))
