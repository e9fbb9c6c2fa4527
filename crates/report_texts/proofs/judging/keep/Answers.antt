-- The least certificate is one with a list for each task, and what is written of it is read again.
use Rattle.std.proofs.Common.{◌∙◌}
use Rattle.mask_certificate.specs.CertificateReading.{names_of}
use Rattle.report_texts.proofs.Kept.{are_names, are_as_many}
use Rattle.report_texts.proofs.judging.keep.Goals as goal

pub returns : goal.returns
returns c =
    let p = c.args.program.now in
    let cert = c.in_ok-cert.cert in
    record {
      least = c.in_ok-cert.ensures.least;
      read = c.written_is_read.ensures cert (names_of p) c.list.ensures.certificate (are_names p c.in_ok-cert.ensures.well_formed)
          (c.in_ok-cert.ensures.least.sized ∙ are_as_many p);
    }
