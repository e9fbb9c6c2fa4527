-- the reads so far are those of as many steps of the plain machine
use Rattle.demonstration.proofs.Imports.{◌≡◌, take, IsAfter, input, reads_of}
use Rattle.demonstration.proofs.judge.compare.Given as goal

abbrev pub invariant-loop-number : goal.invariant-loop-number
invariant-loop-number l = record {
  plain : IsAfter (input l.program) l.number l.plain;
  right : take l.number l.reads ≡ reads_of l.program l.number;
}
