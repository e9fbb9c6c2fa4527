-- Place by place.
use Rattle.std.proofs.Common.{refl, arith}
use Rattle.task_descriptor.proofs.SameLists.{same_more, same_whole}
use Rattle.task_descriptor.proofs.same.is_same_code.Goals as goal

pub loop-index-preserved : goal.loop-index-preserved
loop-index-preserved c =
    same_more c.args.code.now c.args.other.now c.loop-index.index c.if-code-other.false c.index-code-index.result c.index-other-index.result
    c.loop-index-test.true c.index-code-index.is c.index-other-index.is (c.if-not-is_same_instruction.ensures.0 refl) c.loop-index.invariant

pub returns : goal.returns
returns c = (λ _. same_whole c.args.code.now c.args.other.now c.loop-index.index c.if-code-other.false c.loop-index-test.false c.loop-index.invariant, λ _. refl)
