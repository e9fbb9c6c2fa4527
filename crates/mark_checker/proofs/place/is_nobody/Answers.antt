use Rattle.mark_checker.proofs.Findings.{empty_below}
use Rattle.mark_checker.proofs.place.is_nobody.Goals as goal

pub returns-clause-below : goal.returns-clause-below
returns-clause-below c none =
    empty_below c.args.set c.bits.result c.bits.ensures.value c.bits.ensures.range none
