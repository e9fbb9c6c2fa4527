use Rattle.std.proofs.Common.{◌≡◌, ◌<◌, ℕ, Some, slice_get}
use Rattle.task_descriptor.specs.declared.descriptor.Descriptor.{Descriptor}
use Rattle.mask_certificate.specs.Lists.{list_of}
use Rattle.mark_checker.specs.Rules.{places}
use Rattle.mark_checker.specs.Places.{AllRight}
use Rattle.mark_checker.proofs.accept.accepts_surveyed.Given as goal

abbrev pub invariant-loop-task : goal.invariant-loop-task
invariant-loop-task l = (t : ℕ) (d : Descriptor) → t < l.task → slice_get l.survey.tasks t ≡ Some d
    → AllRight l.survey d (list_of l.cert t) (places d.entry (list_of l.cert t))
