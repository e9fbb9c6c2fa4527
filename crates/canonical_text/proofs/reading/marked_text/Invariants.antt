-- What is written so far, with the lines that are left, is what is written of all lines; each line before the rest
-- took a byte.
use Rattle.canonical_text.proofs.Imports.{◌≡◌, ◌+◌, ◌≤◌, length, lines, Text, nothing_of, with_lines}
use Rattle.canonical_text.proofs.reading.marked_text.Given as goal

abbrev pub invariant-lines : goal.invariant-lines
invariant-lines l = record {
  whole : with_lines (record { text = l.written.items; code = l.code; tasks = l.tasks }) l.number l.section (lines l.rest) ≡ with_lines (nothing_of l.program) 1 Text (lines l.text);
  counted : l.number + length l.rest ≤ 4194305;
}

abbrev pub decreases-lines : goal.decreases-lines
decreases-lines l = length l.rest
