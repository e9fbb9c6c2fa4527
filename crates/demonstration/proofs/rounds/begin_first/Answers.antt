-- The first that may begin is among those that are left.
use Rattle.demonstration.proofs.Imports.{sym, ap, ◌∙◌, arith, ◌-◌, ◌+◌, Listing, Event, Assign, DrivenView, first_begins, is_allowed, tried}
use Rattle.std.proofs.Common.{◌≡◌, Bool, true, false, ℕ, suc, List, length}
use Rattle.task_descriptor.specs.declared.descriptor.Descriptor.{Descriptor}
use Rattle.demonstration.proofs.Rounding.{first_later, first_now, first_of_none, not_tried}
use Rattle.demonstration.proofs.rounds.begin_first.Goals as goal

pub returns-then-branch : goal.returns-then-branch
returns-then-branch c =
    let d = c.args.driven.now in
    let task = c.loop-task.task in
    let inv = c.loop-task.invariant in
    let tasks : length c.tasks.result.now ≡ length d.program.tasks =
    ap (λ (xs : List Descriptor). length xs) c.tasks.ensures.value ∙ ap (λ (p : Listing). length p.tasks) (c.program.ensures ∙ c.machine.ensures.program) in
    let may : is_allowed d.program d.units d.run (Assign task) ≡ true =
    ap (λ (x : DrivenView). is_allowed x.program x.units x.run (Assign task)) (sym inv.same) ∙ sym c.in_ok-try_event.ensures.allowed ∙ c.if-branch.true in
    c.in_ok-try_event.ensures.run
    ∙ ap (λ (x : DrivenView). record x { run = tried x.program x.units x.run (Assign task) }) inv.same
    ∙ ap (λ (run : List Event). record d { run = run })
    (sym (first_now d.program d.units d.run task (length d.program.tasks - task) (omega arith) may) ∙ inv.rest)

pub loop-task-preserved : goal.loop-task-preserved
loop-task-preserved c =
    let d = c.args.driven.now in
    let task = c.loop-task.task in
    let inv = c.loop-task.invariant in
    let tasks : length c.tasks.result.now ≡ length d.program.tasks =
    ap (λ (xs : List Descriptor). length xs) c.tasks.ensures.value ∙ ap (λ (p : Listing). length p.tasks) (c.program.ensures ∙ c.machine.ensures.program) in
    let never : is_allowed d.program d.units d.run (Assign task) ≡ false =
    ap (λ (x : DrivenView). is_allowed x.program x.units x.run (Assign task)) (sym inv.same) ∙ sym c.in_ok-try_event.ensures.allowed ∙ c.if-branch.false in
    record {
      same =
          c.in_ok-try_event.ensures.run
          ∙ ap (λ (x : DrivenView). record x { run = tried x.program x.units x.run (Assign task) }) inv.same
          ∙ ap (λ (run : List Event). record d { run = run }) (not_tried d.program d.units d.run (Assign task) never);
      rest = sym (first_later d.program d.units d.run task (length d.program.tasks - task) (length d.program.tasks - (task + 1)) (omega arith) never) ∙ inv.rest;
    }

pub returns : goal.returns
returns c =
    let d = c.args.driven.now in
    let task = c.loop-task.task in
    let inv = c.loop-task.invariant in
    let tasks : length c.tasks.result.now ≡ length d.program.tasks =
    ap (λ (xs : List Descriptor). length xs) c.tasks.ensures.value ∙ ap (λ (p : Listing). length p.tasks) (c.program.ensures ∙ c.machine.ensures.program) in
    inv.same
    ∙ ap (λ (run : List Event). record d { run = run }) (sym (first_of_none d.program d.units d.run task (length d.program.tasks - task) (omega arith)) ∙ inv.rest)
