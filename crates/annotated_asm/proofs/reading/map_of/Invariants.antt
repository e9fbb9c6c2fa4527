-- The map so far, with the lines that are left, is the map of all lines; each line before the rest took a byte.
use Rattle.std.proofs.Common.{◌≡◌, ◌+◌, ◌≤◌, length}
use Rattle.program_tokens.specs.Lines.{lines}
use Rattle.program_statements.specs.declared.statement.Section.TheVariants.{Text}
use Rattle.annotated_asm.specs.Sources.{no_sources, sources_in, with_lines}
use Rattle.annotated_asm.proofs.reading.map_of.Given as goal

abbrev pub invariant-lines : goal.invariant-lines
invariant-lines l = record {
  whole : with_lines (sources_in l.map) l.line l.section (lines l.rest) ≡ with_lines no_sources 1 Text (lines l.text);
  counted : l.line + length l.rest ≤ 4194305;
}

abbrev pub decreases-lines : goal.decreases-lines
decreases-lines l = length l.rest
