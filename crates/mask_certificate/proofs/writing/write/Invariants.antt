-- What is written and the tasks to come are the text.
use Rattle.std.proofs.Common.{◌≡◌, ◌++◌, drop}
use Rattle.mask_certificate.specs.declared.fault.MaskSpelling.TheVariants.{Wide}
use Rattle.mask_certificate.specs.CertificateText.{tasks_text, cert_text}
use Rattle.mask_certificate.specs.CertificateReading.{names_in, names_of}
use Rattle.mask_certificate.proofs.writing.write.Given as goal

abbrev pub invariant-loop-descriptor : goal.invariant-loop-descriptor
invariant-loop-descriptor l = record {
  counted : l.task ≡ l.descriptor-index;
  written : l.text.items ++ tasks_text Wide (names_in (drop l.descriptor-index l.descriptor-items)) (drop l.descriptor-index l.cert) ≡ cert_text l.cert (names_of l.program);
}
