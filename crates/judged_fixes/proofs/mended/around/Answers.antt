-- The part is between the two.
use Rattle.std.proofs.Common.{arith}
use Rattle.judged_fixes.proofs.Cuts.{cut_at}
use Rattle.judged_fixes.proofs.mended.around.Goals as goal

pub returns-clause-some : goal.returns-clause-some
returns-clause-some c =
    cut_at c.args.rest.now c.args.at c.args.edit.now c.in_ok-from.from c.in_ok-to.to (omega (arith, c.in_ok-from.ensures)) (omega (arith, c.in_ok-to.ensures))
    (omega (arith, c.if-from-to.false)) (omega (arith, c.if-to-rest.false))
