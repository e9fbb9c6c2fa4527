use Rattle.demonstration.proofs.Imports.{refl, sym, subst, ◌∙◌, arith, slice_get, slice_get_read, state, state_after, ReadsRight, WordsRight, IsTrue, DoesNoHarm, IsRefusedAt}
use Rattle.std.proofs.Common.{◌≡◌, ◌<◌, ◌≤◌, ℕ, Some, true, length}
use Rattle.demonstration.proofs.Judging.{none_is, one_more_event, refused_at, replays_all, state_all}
use Rattle.demonstration.proofs.judge.judge.Goals as goal

pub returns-then-not-branch-clause-refused : goal.returns-then-not-branch-clause-refused
returns-then-not-branch-clause-refused c = λ index same.
    let p = c.args.program.now in
    let events = c.args.events.now in
    let i = c.loop-index.index in
    let e = c.index-events-index.result in
    let below : i < length events = omega arith in
    let there : slice_get events i ≡ Some e = slice_get_read events (length events) i e refl below c.index-events-index.is in
    let is : i ≡ index = cc in
    subst (IsRefusedAt p c.args.units events) is
    (refused_at p c.args.units events i c.loop-index.driven c.loop-index.invariant c.answer_is_next.ensures c.next_is_after.ensures e c.start.ensures.well_formed
    there below c.machine.ensures.replays (sym c.in_ok-try_event.ensures.allowed ∙ c.if-not-branch.true))

pub loop-index-preserved : goal.loop-index-preserved
loop-index-preserved c =
    let events = c.args.events.now in
    let i = c.loop-index.index in
    let below : i < length events = omega arith in
    one_more_event c.args.program.now c.args.units events i c.loop-index.driven c.loop-index.invariant c.try_event.new.self c.index-events-index.result
    c.in_ok-try_event.ensures.run (sym c.in_ok-try_event.ensures.allowed ∙ c.if-not-branch.false) below c.index-events-index.is

pub returns-clause-right : goal.returns-clause-right
returns-clause-right c = λ same.
    let p = c.args.program.now in
    let events = c.args.events.now in
    let i = c.loop-index.index in
    let all : length events ≤ i = omega arith in
    let s = state c.machine-2.result.now in
    let reads : ReadsRight p s = none_is (ReadsRight p s) c.in_ok-evidence.field-0 c.in-None.is c.in_ok-evidence.ensures.reads in
    let words : WordsRight p s = none_is (IsTrue true → WordsRight p s) c.in_ok-evidence.field-0 c.in-None.is c.in_ok-evidence.ensures.words refl in
    record {
      after = state_after p events;
      allowed = replays_all p c.args.units events i c.loop-index.driven c.loop-index.invariant all c.machine-2.ensures.replays;
      right = subst (DoesNoHarm p) (state_all p c.args.units events i c.loop-index.driven c.loop-index.invariant s all c.machine-2.ensures.state) (record { reads = reads; words = words });
    }
