-- The names of a program's tasks are names, so what is read of a text for them is what it spells.
use Rattle.std.proofs.Common.{◌≡◌, ◌≢◌, ◌⊎◌, ◌↔◌, ℕ, true, List, Result, Ok, Err, inl, inr, sym, ◌∙◌, ap}
use Rattle.std.proofs.lemmas.List.Elements.{All-map}
use Rattle.task_descriptor.specs.Names.{is_name}
use Rattle.task_descriptor.specs.Listing.{Listing, IsWellFormed}
use Rattle.task_descriptor.specs.declared.descriptor.Descriptor.{Descriptor}
use Rattle.mask_certificate.specs.declared.fault.CertFault.{CertFault}
use Rattle.mask_certificate.specs.declared.fault.CertFault.TheVariants.{OutOfMemory}
use Rattle.mask_certificate.specs.CertificateText.{Spells}
use Rattle.mask_certificate.specs.CertificateReading.{cert_parse, names_of, AreNames}
use Rattle.mask_certificate.proofs.AgainLemmas.{spelled_again}
use Rattle.mask_certificate.proofs.SpelledLemmas.{certificate_spelled}

pub are_names : (p : Listing) → IsWellFormed p → AreNames (names_of p)
are_names p well = All-map (λ (name : List ℕ). is_name name ≡ true) (λ (task : Descriptor). task.name) p.tasks well.in_range.names

pub parse_is_spelled : (text : List ℕ) (names : List (List ℕ)) (cert : List (List (ℕ × ℕ))) → AreNames names
    → (cert_parse text names ≡ Ok cert) ↔ Spells text names cert
parse_is_spelled text names cert are = (
  certificate_spelled text names cert,
  λ spells. ap (λ t. cert_parse t names) spells.text_is ∙ spelled_again spells.spelling cert names spells.certificate are spells.complete spells.within,
)

pub read_exactly : (text : List ℕ) (p : Listing) (read : Result (List (List (ℕ × ℕ))) CertFault) → IsWellFormed p
    → (read ≡ Err OutOfMemory) ⊎ (read ≡ cert_parse text (names_of p)) → read ≢ Err OutOfMemory
    → (cert : List (List (ℕ × ℕ))) → (read ≡ Ok cert) ↔ Spells text (names_of p) cert
read_exactly text p read well (inl lost) given cert = absurd (given lost)
read_exactly text p read well (inr parsed) given cert =
    let law = parse_is_spelled text (names_of p) cert (are_names p well) in (
      λ h. law.0 (sym parsed ∙ h),
      λ spells. parsed ∙ law.1 spells,
    )
