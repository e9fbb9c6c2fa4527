-- The units that a squash or a drop leaves are the first ones; where the head retires, the next unit takes what was not
-- there before.
use Rattle.std.proofs.Common.{List, ◌++◌, slice_get, sym, ap, ◌∙◌}
use Rattle.mips_instructions.specs.Words.{has}
use Rattle.machine_model.specs.declared.event.Event.{Event}
use Rattle.machine_model.specs.Answer.{after}
use Rattle.sequencer.specs.Machines.{state}
use Rattle.event_trace.specs.Changes.{became_head, changes_of, has_arrived, retired}
use Rattle.event_trace.specs.declared.change.Change.{Change}
use Rattle.event_trace.specs.declared.unit_change.UnitChange.TheVariants.{Squashed, Dropped}
use Rattle.event_trace.proofs.LostUnits.{lost_after, lost_but}
use Rattle.event_trace.proofs.Takings.{same_head}
use Rattle.event_trace.proofs.foresight.foresee.Goals as goal

pub returns-in_ok-going-in-Squash : goal.returns-in_ok-going-in-Squash
returns-in_ok-going-in-Squash c =
    let p = c.args.program.now in
    let s = state c.args.machine.now in
    c.in_ok-going-in-Squash.ensures ∙ lost_after Squashed c.in-Squash.position s.queue
    ∙ ap (λ (e : Event). changes_of p s e (after p s e)) (sym c.in-Squash.is)

pub returns-in_ok-going-in-Drop : goal.returns-in_ok-going-in-Drop
returns-in_ok-going-in-Drop c =
    let p = c.args.program.now in
    let s = state c.args.machine.now in
    c.in_ok-going-in-Drop.ensures ∙ lost_but Dropped c.in-Drop.position s.queue
    ∙ ap (λ (e : Event). changes_of p s e (after p s e)) (sym c.in-Drop.is)

pub returns-in_ok-going-in-Retire : goal.returns-in_ok-going-in-Retire
returns-in_ok-going-in-Retire c =
    let p = c.args.program.now in
    let s = state c.args.machine.now in
    let s' = after p s c.args.event in
    let head = slice_get s'.queue 0 in
    let before = c.arrived_at-before.result in
    ap (λ (cs : List Change). cs ++ became_head (has before) head) c.in_ok-going-in-Retire.ensures
    ∙ ap (λ (cs : List Change). retired (slice_get s.queue 0) ++ cs) (same_head (has before) (has_arrived (slice_get s.queue 1)) head c.arrived_at-before.ensures)
    ∙ ap (λ (e : Event). changes_of p s e s') (sym c.in-Retire.is)
