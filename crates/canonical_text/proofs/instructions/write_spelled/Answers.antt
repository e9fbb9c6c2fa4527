-- Each operand adds one piece.
use Rattle.canonical_text.proofs.Imports.{◌++◌, ◌∙◌, ap, nat_eq, arith, string_bytes, InstructionOperand, operand_text, before_operand}
use Rattle.canonical_text.proofs.Spelled.{one_more_operand}
use Rattle.canonical_text.proofs.instructions.write_spelled.Goals as goal

pub loop-index-preserved : goal.loop-index-preserved
loop-index-preserved c =
    one_more_operand (operand_text c.args.tasks.now) c.args.name.now c.args.operands.now c.loop-index.index c.index-operands-index.result _ _ _ (omega arith)
    c.loop-index.invariant
    (c.in_ok-write_next_operand.ensures
    ∙ ap (λ (o : InstructionOperand). string_bytes c.loop-index.text ++ (before_operand (nat_eq c.loop-index.index 0) ++ operand_text c.args.tasks.now o)) c.index-operands-index.is)
