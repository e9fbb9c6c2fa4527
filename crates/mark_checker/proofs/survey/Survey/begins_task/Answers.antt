-- A place is at most 4096, and the mark there tells of the program's tasks.
use Rattle.std.proofs.Common.{◌∙◌, ap, arith}
use Rattle.task_descriptor.specs.Listing.{Listing}
use Rattle.task_graph.specs.Soundness.{is_entry}
use Rattle.mark_checker.proofs.survey.Survey.begins_task.Goals as goal

pub bounds-self-inside-get : goal.bounds-self-inside-get
bounds-self-inside-get c =
    let range = c.get.ensures.range in
    omega arith

pub returns : goal.returns
returns c =
    c.self.invariant.1.1 c.get.result c.get.ensures.range
    ∙ ap (is_entry c.self.inside.program.now) c.get.ensures.value
    ∙ ap (λ (p : Listing). is_entry p c.args.index) c.self.view_is
