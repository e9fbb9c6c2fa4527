-- The ring, and the units so far.
use Rattle.std.proofs.Common.{◌≡◌, ◌++◌}
use Rattle.std.specs.Prelude.{flat_map}
use Rattle.std.specs.List.{range_with_len}
use Rattle.sequencer.specs.Machines.{state}
use Rattle.unit_waits.specs.Signals.{ring_signals, unit_signals}
use Rattle.unit_waits.proofs.signals.signals.Given as goal

abbrev pub invariant-loop-unit : goal.invariant-loop-unit
invariant-loop-unit l =
    l.shown.items
    ≡ ring_signals l.units (state l.machine) ++ flat_map (unit_signals l.accepted.program l.units (state l.machine) l.events) (range_with_len 0 l.unit)
