-- Parts of a line, one after the other. Assumes nothing.
use mathlib.Core.Path.{◌∙◌}
use mathlib.Core.List.{List, ◌++◌}
use Prim.Native.Nat.{ℕ, ◌+◌, ◌^◌, ◌≤◌, ◌<◌}
use lib.ListN.{length}
use Rattle.text.specs.Text.{decimal}
use Rattle.text.proofs.Parts.{part_append, part_group, part_within, level_part}
use Rattle.report.specs.declared.line.Line.{Line}
use Rattle.report.specs.Adding.{Adds}

-- one after the other
pub adds_append : {a b c : Line} {p q : ℕ} (xs ys : List ℕ) → Adds a xs p b → Adds b ys q c → Adds a (xs ++ ys) (p + q) c
adds_append {a} {b} {c} {p} {q} xs ys h k =
    let w = part_append a.out.now b.out.now c.out.now a.end b.end c.end p q xs ys (h.put, h.bound) (k.put, k.bound) in
    record { put = w.0; bound = w.1; same = k.same ∙ h.same }

-- three texts, of which the last two were one
pub adds_group : {a b : Line} {p : ℕ} (xs ys zs : List ℕ) → Adds a (xs ++ (ys ++ zs)) p b → Adds a (xs ++ ys ++ zs) p b
adds_group {a} {b} {p} xs ys zs h =
    let w = part_group a.out.now b.out.now a.end b.end p xs ys zs (h.put, h.bound) in
    record { put = w.0; bound = w.1; same = h.same }

-- at most so many are at most more
pub adds_within : {a b : Line} {p : ℕ} (q : ℕ) {xs : List ℕ} → p ≤ q → Adds a xs p b → Adds a xs q b
adds_within {a} {b} {p} q {xs} l h = record { put = h.put; bound = (part_within a.out.now b.out.now a.end b.end p q xs l (h.put, h.bound)).1; same = h.same }

-- a number of 32 bits has at most ten digits
pub level_adds : {a b : Line} (name : List ℕ) (n : ℕ) {most : ℕ} → n < 2 ^ 32 → Adds a (name ++ decimal n) most b → Adds a (name ++ decimal n) (length name + 10) b
level_adds {a} {b} name n l h = record { put = h.put; bound = (level_part a.out.now b.out.now a.end b.end name n l h.put).1; same = h.same }
