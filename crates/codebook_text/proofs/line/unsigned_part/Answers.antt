-- `codebook_text::line::unsigned_part` meets its contract: a minus is the only prefix. Assumes nothing.
use mathlib.Core.Path.{◌≡◌, sym, ap, ◌∙◌}
use mathlib.Core.Bool.{Bool, true, false}
use mathlib.Core.List.{List}
use Prim.Native.Nat.{ℕ, ◌+◌}
use lib.ListN.{length, drop}
use denote.Ref.{Bor}
use Rattle.std.specs.Prelude.{Option, None, Some, unwrap_or, MatchOption}
use Rattle.codebook_text.specs.Text.{is_negative, unsigned}
use Rattle.codebook_text.proofs.Digits.{first_minus, past_minus, no_minus}
use Rattle.codebook_text.proofs.line.unsigned_part.Goals as goal

-- by whether the prefix was found
part : (line : Bor (List ℕ)) (b : Bool) (r : Option (Bor (List ℕ))) → b ≡ is_negative line.now
    → MatchOption r (b ≡ false) (λ x. (b ≡ true) × (x.now ≡ drop 1 line.now) × (length x.now + 1 ≡ length line.now))
    → (unwrap_or r line).now ≡ unsigned line.now
part line b None e h = no_minus line.now (sym e ∙ h)
part line b (Some x) e h = h.1 ∙ past_minus line.now (sym e ∙ h.0)

pub returns : goal.returns
returns c = ap (λ (r : Bor (List ℕ)). r.now) c.unwrap_or.ensures ∙ part c.args.line _ c.strip_prefix.result (first_minus c.args.line.now) c.strip_prefix.ensures.cases
