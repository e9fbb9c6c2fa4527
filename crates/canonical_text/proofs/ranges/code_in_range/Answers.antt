-- One instruction more.
use Rattle.canonical_text.proofs.Imports.{arith, IsInRange}
use Rattle.canonical_text.proofs.Loops.{all_more, all_done}
use Rattle.canonical_text.proofs.ranges.code_in_range.Goals as goal

pub loop-marked-preserved : goal.loop-marked-preserved
loop-marked-preserved c =
    all_more (λ m. IsInRange m.op) c.args.code.now c.loop-marked.marked-index c.marked-item.result (omega arith) c.marked-item.is c.op_in_range.ensures c.loop-marked.invariant

pub returns : goal.returns
returns c = all_done (λ m. IsInRange m.op) c.args.code.now c.loop-marked.marked-index (omega arith) c.loop-marked.invariant
