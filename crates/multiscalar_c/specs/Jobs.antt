-- What each call takes, and what it hands out.
use Rattle.std.specs.Prelude.{◌≡◌, ℕ, Bool, false, List, [], Option, Some, None, IsSome, IfSome, slice_get, if◌then◌else◌}
use Rattle.std.specs.Str.{IsUtf8}
use Rattle.jobs.specs.declared.job.Schedule.TheVariants.{Steps}
use Rattle.limits.specs.Limits.{IsBudget, IsUnits}
use Rattle.report_texts.specs.OutputTexts.{Report}
use Rattle.report_texts.specs.AnnotateText.{IsAnnotateReport}
use Rattle.report_texts.specs.CertificateTexts.{OfCertificate}
use Rattle.report_texts.specs.CheckText.{check_text}
use Rattle.explain_report.specs.Explained.{IsExplainReport}
use Rattle.verdict_report.specs.CurveText.{IsCurveText}
use Rattle.strict_replay.specs.StrictReplay.{IsStrictReport}
use Rattle.verdict_report.specs.ReplayText.{IsReplayText}
use Rattle.verdict_report.specs.RunText.{IsRunText}
use Rattle.multiscalar_c.specs.Codes.{curve_emits, emits, formats, prediction_of, replay_emits, run_emits, source_of, warnings_of}

-- what `annotate` writes
abbrev pub IsAnnotated : (emit : ℕ) → (program : List ℕ) → Report → Type 0
IsAnnotated emit program report = IfSome (slice_get emits emit) (λ emit. IsAnnotateReport emit program report)

-- what `check` writes
abbrev pub IsChecked : (is_least : Bool) → (program certificate : List ℕ) → Report → Type 0
IsChecked is_least program certificate report =
    OfCertificate (source_of is_least) program certificate (λ certificate. report ≡ check_text program certificate)

-- a certificate's name, if it has one
abbrev pub file_of : (has_certificate : Bool) → (name : List ℕ) → Option (List ℕ)
file_of has_certificate name = if has_certificate then Some name else None

-- what `explain` takes: names are UTF-8
pub record ExplainTakes (format : ℕ) (name : List ℕ) (file : Option (List ℕ)) : Type 0 where
  pub laid_out : IsSome (slice_get formats format)
  pub named : IsUtf8 name
  pub certified : IfSome file (λ name. IsUtf8 name)

-- what `explain` writes, without colours and of no event script
abbrev pub IsExplained : (format : ℕ) → (warnings : Bool) → (name : List ℕ) → (file : Option (List ℕ)) → (program certificate : List ℕ) → Report → Type 0
IsExplained format warnings name file program certificate report =
    IfSome (slice_get formats format) (λ _. IsExplainReport file None (warnings_of warnings) program certificate [] report)

-- what `replay` takes
pub record ReplayTakes (units emit : ℕ) : Type 0 where
  pub machine : IsUnits units
  pub written : IsSome (slice_get replay_emits emit)

-- what `replay` writes of all events, of a program without a name
abbrev pub IsReplayed : (is_least : Bool) → (units emit : ℕ) → (program certificate script : List ℕ) → Report → Type 0
IsReplayed is_least units emit program certificate script report =
    IfSome (slice_get replay_emits emit) (λ emit. OfCertificate (source_of is_least) program certificate (λ certificate.
    IsReplayText emit units None program certificate script report))

-- what `replay --strict` writes
abbrev pub IsReplayedStrictly : (is_least : Bool) → (units : ℕ) → (program certificate script : List ℕ) → Report → Type 0
IsReplayedStrictly is_least units program certificate script report =
    OfCertificate (source_of is_least) program certificate (λ certificate. IsStrictReport false units program certificate script report)

-- what a run takes that may write one of these
pub record RunTakes {Emit : Type 0} (emits : List Emit) (units budget predict : ℕ) (list : List ℕ) (emit : ℕ) : Type 0 where
  pub machine : IsUnits units
  pub length : IsBudget budget
  pub guessed : IsSome (prediction_of predict list)
  pub written : IsSome (slice_get emits emit)

-- what `run --schedule steps` writes, of a program without a name
abbrev pub IsRun : (is_least : Bool) → (units budget predict : ℕ) → (list : List ℕ) → (emit : ℕ) → (program certificate : List ℕ) → Report → Type 0
IsRun is_least units budget predict list emit program certificate report =
    IfSome (prediction_of predict list) (λ predict. IfSome (slice_get run_emits emit) (λ emit.
    OfCertificate (source_of is_least) program certificate (λ certificate. IsRunText Steps units budget predict emit program certificate report)))

-- what `curve` writes
abbrev pub IsCurve : (is_least : Bool) → (units budget predict : ℕ) → (list : List ℕ) → (emit : ℕ) → (program certificate : List ℕ) → Report → Type 0
IsCurve is_least units budget predict list emit program certificate report =
    IfSome (prediction_of predict list) (λ predict. IfSome (slice_get curve_emits emit) (λ emit.
    OfCertificate (source_of is_least) program certificate (λ certificate. IsCurveText units budget predict program certificate report)))
