-- Someone hears of what is left.
use Rattle.std.proofs.Common.{◌∙◌, ap, sym, Bool, ◌||◌}
use Rattle.shown_names.specs.Shown.{shown}
use Rattle.program_edge.specs.Beside.{Audience, rest_said}
use Rattle.program_edge.proofs.ReportLemmas.{rest_told}
use Rattle.program_edge.proofs.reader.rest_of.Goals as goal

pub returns : goal.returns
returns c = rest_told (c.args.reader.now.is_terminal || c.args.reader.now.wants_rest) c.args.reader.now.wants_rest c.args.job.now
    c.args.texts.now.program.items c.as_slice-program.result.now c.args.reader.now.name c.as_str-2.result.now
    c.bytes-bytes.result.now c.status.result c.args.report.now c.in_ok-left.left c.rest_said.result.items
    (sym c.listens.ensures ∙ c.if-not-listens.false) c.as_slice-program.ensures.value
    (c.as_str-2.ensures.value ∙ c.in_ok-name.ensures ∙ ap shown (c.as_str.ensures.value ∙ ap (λ (a : Audience). a.name) c.reader.view_is))
    c.bytes-bytes.ensures c.status.ensures c.in_ok-left.ensures
    (c.rest_said.ensures ∙ ap (λ (b : Bool). rest_said b c.in_ok-left.left) (ap (λ (a : Audience). a.wants_rest) c.reader.view_is))
