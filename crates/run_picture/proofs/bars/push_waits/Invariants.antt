-- The waits so far.
use Rattle.std.proofs.Common.{◌≡◌, ◌++◌, map, take}
use Rattle.run_picture.specs.declared.shape.Meaning.TheVariants.{OfWait}
use Rattle.run_picture.specs.Meanings.{meanings}
use Rattle.run_picture.proofs.bars.push_waits.Given as goal

abbrev pub invariant-loop-wait : goal.invariant-loop-wait
invariant-loop-wait l = meanings l.shapes.items ≡ meanings l.initial.shapes.items ++ map OfWait (take l.wait-index l.waits)
