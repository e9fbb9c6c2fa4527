-- A text that is not taken for a certificate is judged.
use Rattle.std.proofs.Common.{◌≡◌, ◌∙◌, false, subst, sym, List, ℕ}
use Rattle.program_edge.specs.Several.{is_certificate}
use Rattle.program_edge.proofs.PartLemmas.{text_judged}
use Rattle.program_edge.proofs.part.part_of_text.Goals as goal

pub returns-clause-part : goal.returns-clause-part
returns-clause-part g c = text_judged c.args.is_terminal c.args.job.now c.args.name.now c.args.text.items
    (is_certificate c.args.job.now c.args.text.items) c.new-2.result c.new-3.result.items c.judged_part.result
    (subst (λ (l : List ℕ). is_certificate c.args.job.now l ≡ false) c.as_slice.ensures.value
    (sym c.is_certificate.ensures ∙ c.if-is_certificate.false))
    (c.new-2.ensures ∙ c.new.ensures.items) c.new-3.ensures.items c.judged_part.ensures.part
