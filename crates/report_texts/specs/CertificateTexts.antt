-- Which text is a program's certificate: that of a file, or with `--least` what `annotate --emit keep` writes
-- of the program.
use Rattle.std.specs.Prelude.{ℕ, List}
use Rattle.jobs.specs.declared.job.CertificateSource.{CertificateSource}
use Rattle.jobs.specs.declared.job.CertificateSource.TheVariants.{File, Least}
use Rattle.jobs.specs.declared.job.Emit.TheVariants.{Keep}
use Rattle.report_texts.specs.OutputTexts.{Report}
use Rattle.report_texts.specs.AnnotateText.{IsAnnotateReport}

-- it holds of the certificate of a program text: of the text of the file, or of a text that `annotate --emit
-- keep` may write
abbrev pub OfCertificate : CertificateSource → (program file : List ℕ) → (Holds : List ℕ → Type 0) → Type 0
OfCertificate File program file Holds = Holds file
OfCertificate Least program file Holds = (kept : Report) × IsAnnotateReport Keep program kept × Holds kept.bytes
