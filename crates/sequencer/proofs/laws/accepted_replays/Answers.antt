use Rattle.std.proofs.Common.{subst, arith}
use Rattle.task_descriptor.specs.Listing.{IsWellFormed}
use Rattle.machine_model.specs.Machine.{State}
use Rattle.machine_model.specs.Step.{Next}
use Rattle.machine_model.specs.Answer.{refusal}
use Rattle.sequencer.proofs.Runs.{replays_more, replay_executes, replay_assigns, queue_fits, events_fit}
use Rattle.sequencer.proofs.Serials.{serials_distinct}
use Rattle.sequencer.proofs.Verdicts.{none_refused}
use Rattle.sequencer.proofs.laws.accepted_replays.Goals as goal

pub returns-clause-is_after : goal.returns-clause-is_after
returns-clause-is_after c = λ units s s' e next. c.next_is_after.ensures c.args.accepted.now.program units s s' e next

pub returns-clause-allowed : goal.returns-clause-allowed
returns-clause-allowed c = λ units s s' e next.
    let p = c.args.accepted.now.program in
    let formed : IsWellFormed p = subst IsWellFormed c.program.ensures.value c.start.ensures.well_formed in
    let step = subst (λ (x : State). Next p units s e x) (c.next_is_after.ensures p units s s' e next) next in
    none_refused s.outcome (refusal p units s e) next.runs ((c.answer_is_next.ensures p units s 0 e formed).1 (step, omega arith))

pub returns-clause-grows : goal.returns-clause-grows
returns-clause-grows c = λ units s s' e next.
    c.events_grow.ensures c.args.accepted.now.program units s s' e next

pub returns-clause-more : goal.returns-clause-more
returns-clause-more c = λ units first second s s' before more. replays_more c.replays_join.ensures c.args.accepted.now.program units first second s s' before more

pub returns-clause-executed : goal.returns-clause-executed
returns-clause-executed c = λ units events s replay. replay_executes c.args.accepted.now.program units events s replay

pub returns-clause-assigned : goal.returns-clause-assigned
returns-clause-assigned c = λ units events s replay. replay_assigns c.args.accepted.now.program units events s replay

pub returns-clause-fits : goal.returns-clause-fits
returns-clause-fits c = λ units events s replay. queue_fits c.events_count.ensures c.args.accepted.now.program units events s replay

pub returns-clause-distinct : goal.returns-clause-distinct
returns-clause-distinct c = λ units events s replay. serials_distinct c.args.accepted.now.program units events s replay

pub returns-clause-in_range : goal.returns-clause-in_range
returns-clause-in_range c = λ units events s some replay. events_fit c.events_count.ensures c.args.accepted.now.program units events s some replay
