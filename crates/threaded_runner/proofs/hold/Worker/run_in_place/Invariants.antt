use Rattle.std.specs.Prelude.{◌+◌, ◌≤◌, length}
use Rattle.threaded_runner.proofs.Imports.{TakesTurns, GoesInPlaceFor, IsSameWorker}
use Rattle.threaded_runner.proofs.hold.Worker.run_in_place.Given as goal

-- what was used and what is left is no more than what was asked for
abbrev pub invariant-loop : goal.invariant-loop
invariant-loop g l = record {
  goes : GoesInPlaceFor g.J.Deeds.was_asked l.counter l.initial.self l.steps l.initial.desk l.self l.desk;
  turns : TakesTurns l.initial.self.share 0 l.initial.desk l.desk;
  stays : IsSameWorker l.initial.self l.self;
  room : length l.desk.machine.history + l.left ≤ length l.initial.desk.machine.history + l.next.most;
  ran : l.steps + l.left ≤ l.next.most;
}
