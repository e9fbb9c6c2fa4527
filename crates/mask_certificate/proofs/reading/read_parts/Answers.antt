-- A program has few tasks, and they have names.
use Rattle.std.proofs.Common.{◌≡◌, ◌⊎◌, ◌≤◌, List, length, Err, sym, subst}
use Rattle.task_descriptor.specs.WellFormed.{limits}
use Rattle.task_descriptor.specs.declared.descriptor.Descriptor.{Descriptor}
use Rattle.mask_certificate.specs.declared.fault.CertFault.TheVariants.{OutOfMemory}
use Rattle.text_pieces.specs.Pieces.{joined}
use Rattle.mask_certificate.specs.CertificateReading.{cert_parse, names_in}
use Rattle.mask_certificate.proofs.ReadLemmas.{read_exactly}
use Rattle.mask_certificate.proofs.reading.read_parts.Goals as goal

pub certificate_of-requires : goal.certificate_of-requires
certificate_of-requires c = record {
  few = subst (λ (tasks : List Descriptor). length tasks ≤ 1024) (sym c.tasks.ensures.value) (limits c.args.program.now c.tasks.ensures.well_formed).tasks;
  cut = c.requires;
}

pub returns-clause-spelled : goal.returns-clause-spelled
returns-clause-spelled c given cert =
    read_exactly (joined c.args.parts.items) c.args.program.now c.certificate_of.result c.tasks.ensures.well_formed
    (subst (λ (tasks : List Descriptor). (c.certificate_of.result ≡ Err OutOfMemory) ⊎ (c.certificate_of.result ≡ cert_parse (joined c.args.parts.items) (names_in tasks)))
    c.tasks.ensures.value c.certificate_of.ensures) given cert
