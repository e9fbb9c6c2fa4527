-- the plain machine after the steps so far, and who wrote the register last in them
use Rattle.demonstration.proofs.Imports.{IsAfter, input, HasWordFrom}
use Rattle.demonstration.proofs.last_writer.last_writer.Given as goal

abbrev pub invariant-loop-made : goal.invariant-loop-made
invariant-loop-made l = record {
  plain : IsAfter (input l.program) l.made l.plain;
  writer : HasWordFrom l.program l.register l.made l.writer;
}
