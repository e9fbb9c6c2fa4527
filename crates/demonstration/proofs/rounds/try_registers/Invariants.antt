-- the registers so far
use Rattle.demonstration.proofs.Imports.{◌≡◌, fold, range_with_len, register_tried}
use Rattle.demonstration.proofs.rounds.try_registers.Given as goal

abbrev pub invariant-loop-number : goal.invariant-loop-number
invariant-loop-number l =
    l.driven ≡ record l.initial.driven { run = fold (register_tried l.initial.driven.program l.initial.driven.units l.position) l.initial.driven.run (range_with_len 0 l.number) }
