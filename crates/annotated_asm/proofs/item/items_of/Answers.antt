-- The last line ends the items, and so does the first fault of a line.
use Rattle.std.proofs.Common.{◌≡◌, ◌∷◌, [], IfNone, subst}
use Rattle.std.proofs.lemmas.Result.{err_from_is_err_and}
use Rattle.program_tokens.specs.Lines.{lines}
use Rattle.program_statements.specs.declared.statement.Section.TheVariants.{Text}
use Rattle.annotated_asm.specs.Items.{items_from}
use Rattle.annotated_asm.proofs.ItemSteps.{told_end, told_fault_first}
use Rattle.annotated_asm.proofs.item.items_of.Goals as goal

pub returns-in_err-section-clause-err : goal.returns-in_err-section-clause-err
returns-in_err-section-clause-err c =
    let why = err_from_is_err_and c.from_residual.result c.from_residual.ensures.1 in
    rw (why.1, why.2)
    (told_fault_first c.in_err-section.field-0.0 c.lines.items.items c.lines.line c.lines.section c.first_line.result.0.now c.first_line.result.1 (λ rest. lines rest.now)
    (lines c.lines.rest.now) (items_from 1 Text (lines c.args.text.now)) c.first_line.ensures.more c.first_line.ensures.last c.in_err-section.ensures c.lines.invariant.told)

pub returns-in-None-clause-ok : goal.returns-in-None-clause-ok
returns-in-None-clause-ok c =
    let last : lines c.lines.rest.now ≡ c.first_line.result.0.now ∷ [] =
    subst (λ behind. IfNone behind (lines c.lines.rest.now ≡ c.first_line.result.0.now ∷ [])) c.in-None.is c.first_line.ensures.last in
    told_end c.lines.items.items c.add_line.new.items.items c.join_last.new.items.items c.in_ok-section.section c.lines.line c.lines.section c.first_line.result.0.now
    (lines c.lines.rest.now) (items_from 1 Text (lines c.args.text.now)) last c.in_ok-section.ensures c.in_ok-join_last.ensures c.lines.invariant.told
