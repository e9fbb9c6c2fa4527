-- Parts that were made name known labels alone, and are built as the definition says.
use Rattle.std.proofs.Common.{Result, subst, sym, ◌∙◌}
use Rattle.task_descriptor.specs.Listing.{Listing, build_fault, listing_of}
use Rattle.annotated_asm.specs.ProgramText.{built}
use Rattle.annotated_asm.specs.Steps.{Answers}
use Rattle.annotated_asm.specs.declared.fault.AsmFault.{AsmFault}
use Rattle.annotated_asm.proofs.Knowns.{built_of, built_answers}
use Rattle.annotated_asm.proofs.assembler.program_of.Goals as goal

pub returns : goal.returns
returns c =
    let made = listing_of c.in-Ok.parts in
    let stage = built_of c.args.items.now c.args.layout.now made (sym c.is_beyond.ensures ∙ c.if-is_beyond.false) c.in-Ok.ensures in
    let kept = subst (λ (r : Result Listing AsmFault). Answers (λ p. p) r (built made (build_fault made))) (sym c.built.ensures) (built_answers made (build_fault made)) in
    subst (λ (r : Result Listing AsmFault). Answers (λ p. p) c.built.result r) (sym stage) kept
