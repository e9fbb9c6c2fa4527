use Rattle.annotator.proofs.Imports.{◌≡◌, arith}
use Rattle.annotator.proofs.Widening.{nothing_new}
use Rattle.annotator.proofs.masks.grown.Goals as goal

pub returns-else-bits-clause-none : goal.returns-else-bits-clause-none
returns-else-bits-clause-none c =
    nothing_new c.args.set c.args.mask c.union-joined.result c.union-joined.ensures.members (omega (arith, c.bits.ensures.value, c.bits-2.ensures.value))
