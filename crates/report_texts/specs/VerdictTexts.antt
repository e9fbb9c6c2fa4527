-- The texts of a certificate that is refused, and of a verdict.
use Rattle.std.specs.Prelude.{ℕ, List, [], ◌∷◌, ◌++◌, length, codes, flat_map, slice_get, Option, Some, None}
use Rattle.std.specs.Fmt.{decimal}
use Rattle.task_descriptor.specs.Listing.{Listing}
use Rattle.task_descriptor.specs.declared.descriptor.Descriptor.{Descriptor}
use Rattle.mask_certificate.specs.declared.fault.CertFault.{CertFault}
use Rattle.mask_certificate.specs.FaultText.{cert_fault_text}
use Rattle.mark_checker.specs.Numbers.{number_of}
use Rattle.mark_checker.specs.declared.finding.Finding.{Finding}
use Rattle.report_texts.specs.OutputTexts.{Report}

-- what every job with a certificate writes for a text that is none
abbrev pub certificate_refused : CertFault → Report
certificate_refused fault = record {
  bytes = codes "certificate refused: " ++ (cert_fault_text fault ++ 10 ∷ []);
  status = 1;
}

-- the name of a task, by its number
abbrev pub name_at : Option Descriptor → List ℕ
name_at None = []
name_at (Some task) = task.name

-- the register of a finding, or `-` where its rule has none
abbrev pub register_text : Option ℕ → List ℕ
register_text None = codes "-"
register_text (Some r) = codes "$" ++ decimal r

-- one finding: the task, the index, the rule and the register
abbrev pub finding_text : Listing → Finding → List ℕ
finding_text p finding =
    name_at (slice_get p.tasks finding.task) ++ (codes " " ++ (decimal finding.index ++ (codes " rule "
    ++ (decimal (number_of finding.rule) ++ (codes " " ++ (register_text finding.reg ++ 10 ∷ []))))))

-- what every job with a certificate writes for findings, of which there is at least one
abbrev pub program_found : Listing → List Finding → Report
program_found p findings = record {
  bytes = flat_map (finding_text p) findings ++ (codes "refused " ++ (decimal (length findings) ++ 10 ∷ []));
  status = 1;
}

-- what `check` writes where there are none
abbrev pub program_accepted : Listing → Report
program_accepted p = record {
  bytes = codes "accepted " ++ (decimal (length p.tasks) ++ (codes " tasks " ++ (decimal (length p.code) ++ (codes " instructions" ++ 10 ∷ []))));
  status = 0;
}
