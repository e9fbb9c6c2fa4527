-- One entry more is written.
use Rattle.std.proofs.Common.{List, ℕ, ◌++◌, ap, ◌∙◌}
use Rattle.mask_certificate.specs.declared.fault.MaskSpelling.TheVariants.{Wide}
use Rattle.mask_certificate.specs.CertificateText.{entry_text}
use Rattle.mask_certificate.proofs.WriteLemmas.{task_more}
use Rattle.mask_certificate.proofs.writing.push_task.Goals as goal

pub loop-entry-preserved : goal.loop-entry-preserved
loop-entry-preserved c =
    c.in_ok-push_entry.ensures
    ∙ ap (λ (t : List ℕ). t ++ entry_text Wide c.entry-item.result) c.loop-entry.invariant
    ∙ task_more c.args.text.now.items c.args.name.now c.args.list.now c.loop-entry.entry-index c.entry-item.result c.loop-entry-test.true c.entry-item.is
