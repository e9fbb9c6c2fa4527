-- The entries written so far stand after the `task` line.
use Rattle.std.proofs.Common.{◌≡◌, ◌++◌, take}
use Rattle.mask_certificate.specs.declared.fault.MaskSpelling.TheVariants.{Wide}
use Rattle.mask_certificate.specs.CertificateText.{task_text}
use Rattle.mask_certificate.proofs.writing.push_task.Given as goal

abbrev pub invariant-loop-entry : goal.invariant-loop-entry
invariant-loop-entry l = l.text.items ≡ l.fn.text.items ++ task_text Wide l.name (take l.entry-index l.list)
