-- What a text spells is its reading.
use Rattle.std.proofs.Common.{Result, subst}
use Rattle.task_descriptor.specs.Listing.{Listing}
use Rattle.annotated_asm.specs.Steps.{Answers}
use Rattle.annotated_asm.specs.declared.fault.AsmFault.{AsmFault}
use Rattle.annotated_asm.proofs.assembler.assemble.Goals as goal

pub returns-clause-only : goal.returns-clause-only
returns-clause-only c =
    λ p spelled. subst (λ (r : Result Listing AsmFault). Answers (λ q. q) c.assembled.result r) spelled c.assembled.ensures
