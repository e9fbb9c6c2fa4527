-- What is written, with the lines of the bytes that are left, is the whole.
use Rattle.canonical_text.proofs.Imports.{◌≡◌, ◌≤◌, ◌-◌, ◌++◌, drop, length, data_lines}
use Rattle.canonical_text.proofs.print.write_data.Given as goal

abbrev pub invariant-loop-at : goal.invariant-loop-at
invariant-loop-at l = (l.at ≤ length l.bytes)
    × (l.text.items ++ data_lines (drop l.at l.bytes) ≡ l.initial.text.items ++ data_lines l.bytes)

abbrev pub decreases-loop-at : goal.decreases-loop-at
decreases-loop-at l = length l.bytes - l.at
