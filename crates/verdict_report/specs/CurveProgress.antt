-- The lines that `curve` writes during its runs, if they are asked for.
use Rattle.std.specs.Prelude.{◌≡◌, ℕ, zero, suc, Bool, true, false, List, [], ◌∷◌, ◌++◌, codes, Option}
use Rattle.std.specs.Fmt.{decimal}
use Rattle.std.specs.Io.KnownBytes.{Appends, Keeps}
use Rattle.jobs.specs.declared.job.Job.{Job}
use Rattle.jobs.specs.declared.job.Job.TheVariants.{Curve}
use Rattle.jobs.specs.declared.job.Texts.{Texts}
use Rattle.report_texts.specs.CertificateTexts.{OfCertificate}
use Rattle.report_texts.specs.JudgedTexts.{Judgement, refused, accepted, judgement}
use Rattle.result_files.specs.Writing.{Begins}

-- `done` runs of `of` are done of the program of this name
abbrev pub run_line : (name : List ℕ) → (done of : ℕ) → List ℕ
run_line name done of = codes "multiscalar: " ++ (name ++ (codes ": " ++ (decimal done ++ (codes " of " ++ (decimal of ++ (codes " runs" ++ 10 ∷ []))))))

-- the lines for the first `done` runs, one for each when it is done
abbrev pub run_lines : (name : List ℕ) → (of done : ℕ) → List ℕ
run_lines name of zero = []
run_lines name of (suc done) = run_lines name of done ++ run_line name (suc done) of

-- the lines for all runs; where a text is refused, nothing runs
abbrev pub curve_lines : (name : List ℕ) → (units : ℕ) → Judgement → List ℕ
curve_lines name units (refused said) = []
curve_lines name units (accepted p) = run_lines name units units

-- a text was written if it is asked for: whole where `is_told`, else a prefix of it
pub record IsSaidIf (asked is_told : Bool) (text : List ℕ) (old new : Option (List ℕ)) : Type 0 where
  pub whole : is_told ≡ true → (asked ≡ true) × Appends old new text
  pub begun : asked ≡ true → Begins old new text
  pub silent : asked ≡ false → Keeps old new

-- the most that a job writes along the way
abbrev pub progress_lines : Job → (name : List ℕ) → List ℕ
progress_lines (Curve source units budget predict emit) name = run_lines name units units
progress_lines _ name = []

-- the lines about the progress of a job were written, all of them where `is_told`
abbrev pub IsProgress : Job → Texts → (name : List ℕ) → (is_told : Bool) → (old new : Option (List ℕ)) → Type 0
IsProgress (Curve source units budget predict emit) texts name is_told old new =
    OfCertificate source texts.program.items texts.certificate (λ certificate.
    is_told ≡ true → Appends old new (curve_lines name units (judgement texts.program.items certificate)))
IsProgress _ texts name is_told old new = Keeps old new
