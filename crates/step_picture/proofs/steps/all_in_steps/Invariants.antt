-- The lives so far.
use Rattle.std.proofs.Common.{◌≡◌, map, take}
use Rattle.step_picture.specs.Steps.{in_steps}
use Rattle.step_picture.proofs.steps.all_in_steps.Given as goal

abbrev pub invariant-loop-life : goal.invariant-loop-life
invariant-loop-life l = l.found.items ≡ map (in_steps l.steps) (take l.life-index l.lives)
