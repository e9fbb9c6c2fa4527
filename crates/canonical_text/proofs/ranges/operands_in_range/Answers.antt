-- The step of the loop: one more operand.
use Rattle.canonical_text.proofs.Imports.{arith, IsOperandInRange}
use Rattle.canonical_text.proofs.Loops.{all_more, all_done}
use Rattle.canonical_text.proofs.ranges.operands_in_range.Goals as goal

pub loop-operand-preserved : goal.loop-operand-preserved
loop-operand-preserved c =
    all_more IsOperandInRange c.args.operands.now c.loop-operand.operand-index c.operand-item.result (omega arith) c.operand-item.is c.operand_in_range.ensures c.loop-operand.invariant

pub returns : goal.returns
returns c = all_done IsOperandInRange c.args.operands.now c.loop-operand.operand-index (omega arith) c.loop-operand.invariant
