-- Two parts, one after the other.
use Rattle.std.proofs.Common.{ℕ, List, [], ◌∷◌, ◌++◌, ◌∙◌, ap, append_assoc}
use Rattle.mips_instructions.specs.Words.{has}
use Rattle.unit_core.specs.Units.{active_of}
use Rattle.event_trace.specs.Changes.{taken}
use Rattle.event_trace.specs.declared.change.Change.{Change}
use Rattle.event_trace.specs.declared.change.Change.TheVariants.{AtUnit}
use Rattle.event_trace.specs.declared.unit_change.UnitChange.TheVariants.{BecameHead}
use Rattle.event_trace.proofs.changes.add_succession.Goals as goal

pub returns : goal.returns
returns c =
    let v = active_of c.args.unit.now in
    let old = c.args.changes.now.items in
    let arrivals = taken (has c.args.before) v in
    c.in_ok-add_takings.ensures
    ∙ ap (λ (cs : List Change). cs ++ arrivals) c.in_ok-add.ensures
    ∙ append_assoc old (AtUnit 1 c.task-task.result BecameHead ∷ []) arrivals
    ∙ ap (λ (task : ℕ). old ++ AtUnit 1 task BecameHead ∷ arrivals) c.task-task.ensures
