-- What the instructions of the task's list produce.
use Rattle.std.proofs.Common.{◌≡◌, ◌↔◌, true, List, length, ap, subst}
use Rattle.mips_instructions.specs.Words.{has}
use Rattle.task_descriptor.specs.declared.descriptor.Marked.{Marked}
use Rattle.annotator.specs.Marking.{indices_of, ProducedAt}
use Rattle.annotator.proofs.MarkLemmas.{entries_inside}
use Rattle.finding_paths.proofs.Reached.{produces_exact}
use Rattle.finding_paths.proofs.production.produced.Goals as goal

pub produced_at-requires : goal.produced_at-requires
produced_at-requires c =
    entries_inside c.args.program.now c.args.cert.now c.args.task (length c.code.result.now) c.list.result.now c.requires.least c.requires.there
    c.list.ensures.entries (ap (λ (xs : List Marked). length xs) c.code.ensures.value)

pub returns : goal.returns
returns c d there r =
    produces_exact c.args.program.now c.args.cert.now c.args.task c.produced_at.result d c.list.result.now r c.requires.least there c.list.ensures.entries
    (subst (λ (xs : List Marked). (has c.produced_at.result r ≡ true) ↔ ProducedAt xs (indices_of c.list.result.now) r) c.code.ensures.value (c.produced_at.ensures r))
