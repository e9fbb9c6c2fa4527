-- the units so far
use Rattle.demonstration.proofs.Imports.{◌≡◌, fold, range_with_len, unit_tried}
use Rattle.demonstration.proofs.rounds.try_units.Given as goal

abbrev pub invariant-loop-position : goal.invariant-loop-position
invariant-loop-position l =
    l.driven ≡ record l.initial.driven { run = fold (unit_tried l.initial.driven.program l.initial.driven.units) l.initial.driven.run (range_with_len 0 l.position) }
