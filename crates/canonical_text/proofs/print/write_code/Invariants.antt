-- What is written, with the lines of the instructions that are left, is the whole.
use Rattle.canonical_text.proofs.Imports.{◌≡◌, ◌++◌, drop, string_bytes, code_lines}
use Rattle.canonical_text.proofs.print.write_code.Given as goal

abbrev pub invariant-loop-index : goal.invariant-loop-index
invariant-loop-index l =
    string_bytes l.text ++ code_lines l.tasks l.index (drop l.index l.code) ≡ string_bytes l.initial.text ++ code_lines l.tasks 0 l.code
