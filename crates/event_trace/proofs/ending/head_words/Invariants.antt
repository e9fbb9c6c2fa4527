-- The registers so far.
use Rattle.std.proofs.Common.{◌≡◌}
use Rattle.std.specs.Prelude.{flat_map}
use Rattle.std.specs.List.{range_with_len}
use Rattle.sequencer.specs.Machines.{state}
use Rattle.event_trace.specs.Ending.{head_value, held}
use Rattle.event_trace.proofs.ending.head_words.Given as goal

abbrev pub invariant-loop-number : goal.invariant-loop-number
invariant-loop-number l =
    l.words.items ≡ flat_map (λ r. held r (head_value (state l.machine) r)) (range_with_len 0 l.number)
