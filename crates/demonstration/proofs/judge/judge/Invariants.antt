-- the events so far are allowed
use Rattle.demonstration.proofs.Imports.{◌≡◌, take}
use Rattle.demonstration.proofs.judge.judge.Given as goal

abbrev pub invariant-loop-index : goal.invariant-loop-index
invariant-loop-index l = l.driven ≡ record { program = l.program; units = l.units; run = take l.index l.events }
