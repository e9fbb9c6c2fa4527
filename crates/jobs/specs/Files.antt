-- Which files a job has: its program, then its certificate if it has one, then its script if it has one.
use Rattle.std.specs.Prelude.{◌≡◌, Bool, true, false, [], is_some}
use Rattle.std.specs.String.{string_bytes}
use Rattle.jobs.specs.declared.job.CertificateSource.{CertificateSource}
use Rattle.jobs.specs.declared.job.CertificateSource.TheVariants.{File, Least}
use Rattle.jobs.specs.declared.job.Job.{Job}
use Rattle.jobs.specs.declared.job.Job.TheVariants.{Explain, Check, Replay, ReplayStrictly, Run, Curve}
use Rattle.jobs.specs.declared.job.Paths.{Paths}

-- the certificate is in a file
abbrev pub is_in_file : CertificateSource → Bool
is_in_file File = true
is_in_file Least = false

-- the job has a file with a certificate beside its program
abbrev pub has_certificate : Job → Bool
has_certificate (Explain name certificate script warnings format colors) = is_some certificate
has_certificate (Check source workers format) = is_in_file source
has_certificate (Replay source units emit until) = is_in_file source
has_certificate (ReplayStrictly source units complete format) = is_in_file source
has_certificate (Run source schedule units workers budget predict emit) = is_in_file source
has_certificate (Curve source units budget predict emit) = is_in_file source
has_certificate _ = false

-- the job has an event script
abbrev pub has_script : Job → Bool
has_script (Explain name certificate script warnings format colors) = is_some script
has_script (Replay source units emit until) = true
has_script (ReplayStrictly source units complete format) = true
has_script _ = false

-- a file that the job does not have has no name
abbrev pub HasFilesOf : Job → Paths → Type 0
HasFilesOf job paths =
    (has_certificate job ≡ false → string_bytes paths.certificate ≡ [])
    × (has_script job ≡ false → string_bytes paths.script ≡ [])
