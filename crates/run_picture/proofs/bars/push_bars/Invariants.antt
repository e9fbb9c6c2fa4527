-- The lives so far.
use Rattle.std.proofs.Common.{◌≡◌, ◌++◌, map, take}
use Rattle.run_picture.specs.Meanings.{life_told, meanings}
use Rattle.run_picture.proofs.bars.push_bars.Given as goal

abbrev pub invariant-loop-life : goal.invariant-loop-life
invariant-loop-life l =
    meanings l.shapes.items ≡ meanings l.initial.shapes.items ++ map (life_told l.axis.counted l.head l.standing) (take l.life-index l.lives)
