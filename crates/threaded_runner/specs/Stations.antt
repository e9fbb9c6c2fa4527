-- What a worker does in a turn that takes the lock again: what it finds there is not known.
use Rattle.std.specs.Prelude.{◌≡◌, ℕ, ◌≤◌, Result}
use Rattle.machine_model.specs.declared.event.Event.{Event}
use Rattle.machine_model.specs.declared.event.Refused.{Refused}
use Rattle.unit_core.specs.Bursts.{BurstView}
use Rattle.sequencer.specs.Machines.{MachineView}
use Rattle.threaded_runner.specs.declared.next.NextBurst.{NextBurst}
use Rattle.threaded_runner.specs.declared.next.Then.{Then}
use Rattle.threaded_runner.specs.declared.next.Then.TheVariants.{GoOn}
use Rattle.threaded_runner.specs.Desks.{DeskView}
use Rattle.threaded_runner.specs.HoldTurns.{GoesInPlace, Holds, HoldsLong}
use Rattle.threaded_runner.specs.Paces.{after_in_place, pace_of}
use Rattle.threaded_runner.specs.Workers.{FollowsUp, IsHandedIn, WorkerView, with_pace}

-- turns are taken, as many as a hold may have where the worker is to take the lock again at once
abbrev pub TakesHold : (MachineView → Event → Result (Unit {0}) Refused → Type 0) → WorkerView → (old : DeskView) → WorkerView → (new : DeskView) → Then → Type 0
TakesHold was_asked w old w' new then = Holds was_asked w old w' new × (then ≡ GoOn → HoldsLong was_asked w old w' new)

-- this burst is handed in, made as `next` states, and the worker goes on at the pace after the answer
pub record ChecksIn (was_handed_in : MachineView → BurstView → Result ℕ Refused → Type 0) (w : WorkerView) (next : NextBurst) (b : BurstView) (w' : WorkerView) (new : DeskView) : Type 0 where
  pub found : DeskView
  pub answer : Result ℕ Refused
  pub mid : DeskView
  pub answered : was_handed_in found.machine b answer
  pub handed_in : IsHandedIn found b answer mid
  pub follows_up : FollowsUp w next b.steps answer mid w' new

-- the head goes on in place for this many instructions, and the worker then at the pace after them
abbrev pub RunsInPlace : (MachineView → Event → Result (Unit {0}) Refused → Type 0) → WorkerView → NextBurst → (steps : ℕ) → WorkerView → Type 0
RunsInPlace was_asked w next steps w' =
    (steps ≤ next.most)
    × ((found : DeskView) × (new : DeskView) × (mid : WorkerView) × GoesInPlace was_asked w steps found mid new
    × (w' ≡ with_pace mid next.unit (after_in_place next.most steps (pace_of mid.paces next.unit))))
