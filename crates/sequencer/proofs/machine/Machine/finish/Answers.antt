use Rattle.std.proofs.Common.{◌+◌, ◌<◌, ◌≤◌, arith, inr}
use Rattle.std.proofs.lemmas.Result.{err_from_is_err_and}
use Rattle.machine_model.specs.Claims.{count_h}
use Rattle.sequencer.specs.Machines.{state}
use Rattle.sequencer.proofs.HeadRuns.{begins_here, stays, goes_on, stops, takes_room}
use Rattle.sequencer.proofs.machine.Machine.finish.Goals as goal

pub loop-self-init : goal.loop-self-init
loop-self-init c = begins_here c.args.self.now c.args.k

pub overflow_sub-counts : goal.overflow_sub-counts
overflow_sub-counts c = omega (arith, c.loop-self.invariant.grown, c.counts-start.ensures.head, c.counts.ensures.head)

pub returns-in_err-apply_head_event-clause-kept : goal.returns-in_err-apply_head_event-clause-kept
returns-in_err-apply_head_event-clause-kept c = (stays c.args.self.now c.loop-self.self c.apply_head_event.new.self c.args.k c.loop-self.invariant c.in_err-apply_head_event.ensures.err).kept

pub returns-in_err-apply_head_event-clause-runs : goal.returns-in_err-apply_head_event-clause-runs
returns-in_err-apply_head_event-clause-runs c = (stays c.args.self.now c.loop-self.self c.apply_head_event.new.self c.args.k c.loop-self.invariant c.in_err-apply_head_event.ensures.err).runs

pub returns-in_err-apply_head_event-clause-beyond : goal.returns-in_err-apply_head_event-clause-beyond
returns-in_err-apply_head_event-clause-beyond c = (stays c.args.self.now c.loop-self.self c.apply_head_event.new.self c.args.k c.loop-self.invariant c.in_err-apply_head_event.ensures.err).beyond

pub returns-in_err-apply_head_event-clause-refused : goal.returns-in_err-apply_head_event-clause-refused
returns-in_err-apply_head_event-clause-refused c =
    let below : count_h (state c.loop-self.self) < count_h (state c.args.self.now) + c.args.k =
    omega (arith, c.loop-self.invariant.grown, c.counts-start.ensures.head, c.counts.ensures.head, c.loop-self-test.true) in
    let why = err_from_is_err_and c.from_residual.result c.from_residual.ensures.1 in
    rw (why.1, why.2)
    (stops c.loop-self.self c.apply_head_event.new.self _ (count_h (state c.args.self.now) + c.args.k) below c.in_err-apply_head_event.ensures.refused c.in_err-apply_head_event.ensures.err)

pub returns-then-not-branch-clause-kept : goal.returns-then-not-branch-clause-kept
returns-then-not-branch-clause-kept c = (stays c.args.self.now c.loop-self.self c.apply_head_event.new.self c.args.k c.loop-self.invariant (c.in_ok-apply_head_event.ensures.ended c.if-not-branch.true).0).kept

pub returns-then-not-branch-clause-runs : goal.returns-then-not-branch-clause-runs
returns-then-not-branch-clause-runs c = (stays c.args.self.now c.loop-self.self c.apply_head_event.new.self c.args.k c.loop-self.invariant (c.in_ok-apply_head_event.ensures.ended c.if-not-branch.true).0).runs

pub returns-then-not-branch-clause-beyond : goal.returns-then-not-branch-clause-beyond
returns-then-not-branch-clause-beyond c = (stays c.args.self.now c.loop-self.self c.apply_head_event.new.self c.args.k c.loop-self.invariant (c.in_ok-apply_head_event.ensures.ended c.if-not-branch.true).0).beyond

pub loop-self-smaller : goal.loop-self-smaller
loop-self-smaller c = takes_room c.loop-self.self c.apply_head_event.new.self (c.in_ok-apply_head_event.ensures.applied c.if-not-branch.false) c.in_ok-apply_head_event.ensures.room

pub loop-self-preserved : goal.loop-self-preserved
loop-self-preserved c =
    let below : count_h (state c.loop-self.self) < count_h (state c.args.self.now) + c.args.k =
    omega (arith, c.loop-self.invariant.grown, c.counts-start.ensures.head, c.counts.ensures.head, c.loop-self-test.true) in
    goes_on c.args.self.now c.loop-self.self c.apply_head_event.new.self c.args.k c.loop-self.invariant below c.in_ok-apply_head_event.ensures.kept (c.in_ok-apply_head_event.ensures.applied c.if-not-branch.false)

pub returns-clause-kept : goal.returns-clause-kept
returns-clause-kept c = c.loop-self.invariant.kept

pub returns-clause-runs : goal.returns-clause-runs
returns-clause-runs c = c.loop-self.invariant.runs

pub returns-clause-beyond : goal.returns-clause-beyond
returns-clause-beyond c = c.loop-self.invariant.beyond

pub returns-clause-done : goal.returns-clause-done
returns-clause-done c =
    let full : count_h (state c.args.self.now) + c.args.k ≤ count_h (state c.loop-self.self) =
    omega (arith, c.loop-self.invariant.grown, c.counts-start.ensures.head, c.counts.ensures.head, c.loop-self-test.false) in
    inr full
