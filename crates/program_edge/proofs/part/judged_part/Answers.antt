-- By whether the job names its program, and whether a log has it.
use Rattle.std.proofs.Common.{[], Ok}
use Rattle.report_texts.specs.OutputTexts.{Report}
use Rattle.program_edge.specs.declared.part.Part.{Part as Made}
use Rattle.program_edge.proofs.PartLemmas.{logged, reported_explained, reported_itself, silent_part}
use Rattle.program_edge.proofs.part.judged_part.Goals as goal

pub returns-in-Sarif-clause-part : goal.returns-in-Sarif-clause-part
returns-in-Sarif-clause-part g c =
    let made : Made = record { output = c.new.result; errors = c.new-in-Sarif.result; judged = c.judged_by.result } in
    let report : Report = record { bytes = []; status = c.in_ok-status-in-Sarif.status } in
    logged c.args.is_terminal c.args.job.now c.in-Explain.name c.in_ok-from_str-in-Explain.field-0
    c.in-Explain.certificate c.in-Explain.script c.in-Explain.warnings c.in-Explain.format c.in-Explain.colors c.args.name.now c.args.texts.now (Ok made)
    c.in-Explain.is c.in-Sarif.is c.in_ok-from_str-in-Explain.ensures.ok (
      report,
      c.in_ok-status-in-Sarif.ensures.status,
      silent_part c.new.result.items c.new-in-Sarif.result.items c.judged_by.result c.in_ok-status-in-Sarif.status
          c.new.ensures.items c.new-in-Sarif.ensures.items c.judged_by.ensures,
    )

pub returns-in-Explain-clause-part : goal.returns-in-Explain-clause-part
returns-in-Explain-clause-part g c =
    reported_explained c.args.is_terminal c.args.job.now c.in-Explain.name c.in_ok-from_str-in-Explain.field-0
    c.in-Explain.certificate c.in-Explain.script c.in-Explain.warnings c.in-Explain.format c.in-Explain.colors c.args.name.now c.args.texts.now c.reported_part.result
    c.in-Explain.is c.in_ok-from_str-in-Explain.ensures.ok c.reported_part.ensures.part

pub returns : goal.returns
returns g c = record {
  part = reported_itself c.args.is_terminal c.args.job.now c.args.name.now c.args.texts.now
      c.reported_part-in_default.result c.in_default.not-Explain c.reported_part-in_default.ensures.part;
  memory = c.reported_part-in_default.ensures.memory;
}
