-- By whether a unit stands at the position, and before an instruction.
use Rattle.std.proofs.Common.{◌≡◌, slice_get, None, sym, ap, ◌∙◌, arith}
use Rattle.machine_model.specs.declared.event.Spot.{Spot}
use Rattle.machine_model.specs.Answer.{instruction_at}
use Rattle.unit_core.specs.Units.{active_of}
use Rattle.sequencer.specs.Machines.{state}
use Rattle.event_trace.proofs.Executions.{foretold, foretold_nowhere, foretold_stopped}
use Rattle.event_trace.proofs.foresight.foresee_execution.Goals as goal

pub returns-in_default : goal.returns-in_default
returns-in_default c = λ s'.
    let s = state c.args.machine.now in
    let none : slice_get s.queue c.args.position ≡ None = first_of (cc, grind arith) in
    c.new.ensures.items ∙ foretold_nowhere c.args.program.now s s' c.args.position none

pub returns-in_default-instruction_at : goal.returns-in_default-instruction_at
returns-in_default-instruction_at c = λ s'.
    let u = active_of c.in-Some.unit.now in
    let none : instruction_at c.args.program.now u.place ≡ None = first_of (cc, grind arith) in
    c.new-in_default-instruction_at.ensures.items ∙ foretold_stopped c.args.program.now (state c.args.machine.now) s' c.args.position u c.in-Some.ensures none

pub returns : goal.returns
returns c = λ s'.
    let u = active_of c.in-Some.unit.now in
    foretold c.args.program.now (state c.args.machine.now) s' c.args.position u c.in-Some-instruction_at.marked c.execution.result
    c.in-Some.ensures c.execution.ensures
    (sym (c.instruction_at.ensures ∙ ap (λ (place : Spot). instruction_at c.args.program.now place) c.spot.ensures) ∙ c.in-Some-instruction_at.is)
