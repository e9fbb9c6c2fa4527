-- The items that were read mean what the text's do.
use Rattle.std.proofs.Common.{◌≡◌, List, Result, Ok, ap, sym, ◌∙◌, subst}
use Rattle.task_descriptor.specs.Listing.{Listing}
use Rattle.annotated_asm.specs.Steps.{Answers}
use Rattle.annotated_asm.specs.ProgramText.{program_of}
use Rattle.annotated_asm.specs.Layout.{laid, no_layout}
use Rattle.annotated_asm.specs.declared.fault.AsmFault.{AsmFault}
use Rattle.annotated_asm.specs.declared.item.PlacedStatement.{PlacedStatement}
use Rattle.annotated_asm.proofs.Runs.{parsed}
use Rattle.annotated_asm.proofs.assembler.assembled.Goals as goal

pub returns : goal.returns
returns c =
    let all = c.in_ok-items.ensures.ok in
    let items = c.in_ok-items.items.items in
    let layout = c.in_ok-layout.layout in
    let is_laid : laid no_layout items ≡ Ok layout = ap (λ (xs : List PlacedStatement). laid no_layout xs) (sym c.deref.ensures.value) ∙ c.in_ok-layout.ensures in
    let answered : Answers (λ p. p) c.program_of.result (program_of items layout) =
    subst (λ (xs : List PlacedStatement). Answers (λ p. p) c.program_of.result (program_of xs layout)) c.deref-2.ensures.value c.program_of.ensures in
    subst (λ (r : Result Listing AsmFault). Answers (λ p. p) c.program_of.result r)
    (parsed c.args.text.now items all.0 layout c.if-text-gt-MOST_TEXT.false all.1 all.2 is_laid) answered
