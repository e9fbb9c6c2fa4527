-- One task more that is not awaited.
use Rattle.std.proofs.Common.{◌≡◌, ℕ, List, length, ap, subst, arith, inl, inr}
use Rattle.std.proofs.lemmas.Bool.{cases_lt}
use Rattle.task_descriptor.specs.declared.descriptor.Descriptor.{Descriptor}
use Rattle.finding_paths.specs.Steps.{TaskIsAwaited}
use Rattle.finding_paths.proofs.Reached.{both, refused, none_awaited}
use Rattle.finding_paths.proofs.reaching.is_awaited.Goals as goal

pub loop-task-preserved : goal.loop-task-preserved
loop-task-preserved c t less l = elim (cases_lt t c.loop-task.task) [
  | inl earlier ↦ c.loop-task.invariant t earlier l
  | inr last ↦
      let same : t ≡ c.loop-task.task = omega arith in
      both c.task_is_awaited-in-loop-task.result (c.task_is_awaited-in-loop-task.ensures.1 (subst (λ (k : ℕ). TaskIsAwaited c.args.program.now k c.args.index) same l)) c.if-task_is_awaited-2.false
]

pub returns : goal.returns
returns c =
    let p = c.args.program.now in
    let count : length c.tasks-task-end.result.now ≡ length p.tasks = ap (λ (ts : List Descriptor). length ts) c.tasks-task-end.ensures.value in
    let end : c.loop-task.task ≡ length p.tasks = omega arith in
    refused (none_awaited p c.loop-task.task c.args.index end c.loop-task.invariant)
