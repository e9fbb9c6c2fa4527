-- The registers so far.
use Rattle.std.proofs.Common.{◌≡◌, [], ◌∷◌, ◌++◌}
use Rattle.std.specs.Prelude.{flat_map, if◌then◌else◌, unwrap_or}
use Rattle.std.specs.List.{range_with_len}
use Rattle.mips_instructions.specs.Words.{has}
use Rattle.unit_core.specs.Units.{active_of}
use Rattle.event_trace.specs.Changes.{takes}
use Rattle.event_trace.specs.declared.change.Change.TheVariants.{Took}
use Rattle.event_trace.proofs.registers.add_takings.Given as goal

abbrev pub invariant-loop-number : goal.invariant-loop-number
invariant-loop-number l =
    l.changes.items ≡ l.initial.changes.items ++ flat_map (λ r. if takes (has l.before) (active_of l.unit) r then Took r (unwrap_or ((active_of l.unit).arrived r) 0) ∷ [] else []) (range_with_len 0 l.number)
