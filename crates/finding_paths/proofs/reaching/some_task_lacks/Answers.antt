-- One task more that lacks none.
use Rattle.std.proofs.Common.{◌≡◌, ℕ, ◌<◌, List, length, ap, subst, arith, inl, inr}
use Rattle.std.proofs.lemmas.Bool.{cases_lt}
use Rattle.std.proofs.lemmas.Option.{slice_get_within}
use Rattle.task_descriptor.specs.declared.descriptor.Descriptor.{Descriptor}
use Rattle.finding_paths.specs.Steps.{TaskLacks}
use Rattle.finding_paths.proofs.Reached.{both, refused, none_lacks}
use Rattle.finding_paths.proofs.reaching.some_task_lacks.Goals as goal

pub returns-then-is_subset : goal.returns-then-is_subset
returns-then-is_subset c =
    let p = c.args.program.now in
    refused (λ some. let l = some.lacking in
    let less : some.task < length p.tasks = slice_get_within p.tasks some.task l.descriptor l.is_there in
    l.lacks (λ r h. c.requires.common some.task r l.descriptor less l.is_there (c.is_subset.ensures.members.0 c.if-is_subset.true r h)))

pub loop-task-preserved : goal.loop-task-preserved
loop-task-preserved c t less l = elim (cases_lt t c.loop-task.task) [
  | inl earlier ↦ c.loop-task.invariant t earlier l
  | inr last ↦
      let same : t ≡ c.loop-task.task = omega arith in
      both c.task_lacks.result (c.task_lacks.ensures.1 (subst (λ (k : ℕ). TaskLacks c.args.program.now k c.args.index c.args.written) same l)) c.if-task_lacks.false
]

pub returns : goal.returns
returns c =
    let p = c.args.program.now in
    let count : length c.tasks-task-end.result.now ≡ length p.tasks = ap (λ (ts : List Descriptor). length ts) c.tasks-task-end.ensures.value in
    let end : c.loop-task.task ≡ length p.tasks = omega arith in
    refused (none_lacks p c.loop-task.task c.args.index c.args.written end c.loop-task.invariant)
