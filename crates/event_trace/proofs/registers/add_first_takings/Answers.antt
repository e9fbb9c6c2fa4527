-- Nothing was there before.
use Rattle.std.proofs.Common.{None, List, ◌++◌, ◌∙◌, ap}
use Rattle.mips_instructions.specs.Words.{has}
use Rattle.unit_core.specs.Units.{active_of}
use Rattle.event_trace.specs.Changes.{has_arrived}
use Rattle.event_trace.specs.declared.change.Change.{Change}
use Rattle.event_trace.proofs.Takings.{same_taken}
use Rattle.event_trace.proofs.registers.add_first_takings.Goals as goal

pub returns : goal.returns
returns c =
    c.in_ok-add_takings.ensures
    ∙ ap (λ (cs : List Change). c.args.changes.now.items ++ cs)
    (same_taken (has c.empty.result) (has_arrived None) (active_of c.args.unit.now) (λ r below. c.empty.ensures.members r))
