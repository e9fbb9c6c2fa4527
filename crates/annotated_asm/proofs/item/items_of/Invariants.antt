-- The items so far, in front of those of the rest, mean what all items do; each line before the rest took a byte.
use Rattle.std.proofs.Common.{◌+◌, ◌≤◌, length}
use Rattle.program_tokens.specs.Lines.{lines}
use Rattle.program_statements.specs.declared.statement.Section.TheVariants.{Text}
use Rattle.annotated_asm.specs.Items.{items_from}
use Rattle.annotated_asm.proofs.ItemSteps.{Told}
use Rattle.annotated_asm.proofs.item.items_of.Given as goal

abbrev pub invariant-lines : goal.invariant-lines
invariant-lines l = record {
  told : Told l.items.items (items_from l.line l.section (lines l.rest)) (items_from 1 Text (lines l.text));
  counted : l.line + length l.rest ≤ 4194305;
}

abbrev pub decreases-lines : goal.decreases-lines
decreases-lines l = length l.rest
