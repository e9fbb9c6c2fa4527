-- One part of the text after another, the first after nothing.
use Rattle.canonical_text.proofs.Imports.{◌∙◌, ◌++◌, List, ℕ, ap, canonical_text, section}
use Rattle.std.proofs.Common.{codes}
use Rattle.std.specs.Global.{Vec}
use Rattle.canonical_text.proofs.Parts.{program_written}
use Rattle.canonical_text.proofs.print.print.Goals as goal

pub returns : goal.returns
returns c =
    program_written c.args.program.now c.tasks-tasks.result.now c.code.result.now c.bytes.result.now c.fixed.result.now c.get.result _
    _ _ _ _ _ _ c.tasks-tasks.ensures.value c.code.ensures.value c.bytes.ensures.value c.fixed.ensures.value
    (c.get.ensures.value ∙ c.start.ensures.value) c.task_at.ensures c.in_ok-write_start.ensures c.in_ok-write_tasks.ensures
    c.in_ok-write_code.ensures
    (c.in_ok-write_section.ensures ∙ ap (λ (t : Vec ℕ). t.items ++ section (codes ".data") c.bytes.result.now) c.into_bytes-text.ensures.value)
    c.in_ok-write_section-2.ensures
    ∙ ap (λ (front : List ℕ). front ++ canonical_text c.args.program.now) c.in_ok-text.ensures.bytes
