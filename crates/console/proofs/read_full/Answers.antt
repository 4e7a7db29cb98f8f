-- The filled part grows by what one read consumed.
use Rattle.std.proofs.Common.{rules, sym, subst}
use Rattle.std.specs.Io.KnownBytes.{Consumes}
use Rattle.std.proofs.lemmas.Slice.{overwrites}
use Rattle.console.proofs.Filled.{filled_more, there}
use Rattle.console.proofs.read_full.Goals as goal

pub loop-done-preserved : goal.loop-done-preserved
loop-done-preserved g c =
    let read = c.in_ok-n.ensures in (
      search rules,
      search rules,
      filled_more _ _ _ _ _ _ _ (search (rules, overwrites)) c.loop-done.invariant.2
          (subst (Consumes _ _) (sym (there c.loop-done.done _ c.in_ok-n.n c.loop-done.buf c.read_retrying.new.buf (search rules) read.size.0)) read.bytes),
    )
