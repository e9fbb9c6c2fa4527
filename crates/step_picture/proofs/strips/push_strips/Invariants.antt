-- The strips so far, and the one that is not ended: the waits so far.
use Rattle.std.proofs.Common.{◌≡◌, ◌++◌, take}
use Rattle.std.specs.Prelude.{flat_map}
use Rattle.step_picture.specs.Strips.{each_step, option_list, waits_on}
use Rattle.step_picture.proofs.strips.push_strips.Given as goal

abbrev pub invariant-loop-waiting : goal.invariant-loop-waiting
invariant-loop-waiting l =
    flat_map each_step l.strips.items ++ flat_map each_step (option_list l.current)
    ≡ flat_map each_step l.initial.strips.items ++ waits_on (take l.waiting-index l.waits) l.unit
