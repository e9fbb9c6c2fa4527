use Rattle.threaded_runner.proofs.Imports.{TakesTurns, HoldsFor, IsSameWorker}
use Rattle.threaded_runner.proofs.hold.Worker.hold.Given as goal

-- this many turns were taken
abbrev pub invariant-loop : goal.invariant-loop
invariant-loop g l = record {
  turns : TakesTurns l.initial.self.share l.counter l.initial.desk l.desk;
  does : HoldsFor g.J.Deeds.was_asked l.counter l.initial.self l.initial.desk l.self l.desk;
  stays : IsSameWorker l.initial.self l.self;
}
