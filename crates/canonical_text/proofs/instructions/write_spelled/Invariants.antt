-- The name and the operands so far are written.
use Rattle.canonical_text.proofs.Imports.{◌≡◌, ◌++◌, take, map, string_bytes, spelled, operand_text}
use Rattle.canonical_text.proofs.instructions.write_spelled.Given as goal

abbrev pub invariant-loop-index : goal.invariant-loop-index
invariant-loop-index l =
    string_bytes l.text ≡ string_bytes l.fn.text ++ spelled l.name (map (operand_text l.tasks) (take l.index l.operands))
