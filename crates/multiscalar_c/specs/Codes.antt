-- What the numbers stand for that a caller passes.
use Rattle.std.specs.Prelude.{◌==◌, ◌&&◌, nat_le, nat_lt, not, ℕ, Bool, true, false, List, [], ◌∷◌, length, Option, Some, None, if◌then◌else◌}
use Rattle.std.specs.List.{list_any}
use Rattle.jobs.specs.declared.job.CertificateSource.{CertificateSource}
use Rattle.jobs.specs.declared.job.CertificateSource.TheVariants.{File, Least}
use Rattle.jobs.specs.declared.job.Emit.{Emit}
use Rattle.jobs.specs.declared.job.Emit.TheVariants as emit
use Rattle.jobs.specs.declared.job.Format.{Format}
use Rattle.jobs.specs.declared.job.Format.TheVariants as format
use Rattle.jobs.specs.declared.job.Warnings.{Warnings}
use Rattle.jobs.specs.declared.job.Warnings.TheVariants.{Told, Silent}
use Rattle.jobs.specs.declared.job.RunEmit.{RunEmit}
use Rattle.jobs.specs.declared.job.RunEmit.TheVariants as run
use Rattle.jobs.specs.declared.job.ReplayEmit.{ReplayEmit}
use Rattle.jobs.specs.declared.job.ReplayEmit.TheVariants as replay
use Rattle.jobs.specs.declared.job.CurveEmit.{CurveEmit}
use Rattle.jobs.specs.declared.job.CurveEmit.TheVariants as curve
use Rattle.jobs.specs.declared.job.TableFormat.TheVariants as table
use Rattle.jobs.specs.declared.job.Prediction.{Prediction}
use Rattle.jobs.specs.declared.job.Prediction.TheVariants as predict

-- where the certificate comes from
abbrev pub source_of : (is_least : Bool) → CertificateSource
source_of false = File
source_of true = Least

-- what `explain` does about marks that cost speed
abbrev pub warnings_of : (is_told : Bool) → Warnings
warnings_of false = Silent
warnings_of true = Told

-- what `annotate` writes, from 0 on
abbrev pub emits : List Emit
emits = emit.Text ∷ emit.Cert ∷ emit.Keep ∷ emit.Marks ∷ []

-- how `explain` lays out what it says, from 0 on
abbrev pub formats : List Format
formats = format.Text ∷ format.Sarif ∷ format.Json ∷ []

-- what `run` writes, from 0 on
abbrev pub run_emits : List RunEmit
run_emits = run.Report ∷ run.Script ∷ run.Summary table.Text ∷ run.Picture ∷ run.Trace ∷ run.Json ∷ run.ScriptWithValues ∷ run.Waits table.Text ∷ run.Waveform ∷ run.Timeline
    ∷ run.StepPicture (record { first = 1; last = 4294967295 }) ∷ run.Pipeline ∷ run.Summary table.Csv ∷ run.Waits table.Csv ∷ []

-- what `replay` writes, from 0 on
abbrev pub replay_emits : List ReplayEmit
replay_emits = replay.Answers ∷ replay.Summary table.Text ∷ replay.Picture ∷ replay.Trace ∷ replay.Json ∷ replay.Timeline ∷ replay.State ∷ replay.Summary table.Csv ∷ []

-- what `curve` writes, from 0 on
abbrev pub curve_emits : List CurveEmit
curve_emits = curve.Table table.Text ∷ curve.Picture ∷ curve.Table table.Csv ∷ []

-- positions of targets that a prediction may have
abbrev pub is_listed : List ℕ → Bool
is_listed numbers = nat_le 1 (length numbers) && (nat_le (length numbers) 64 && not (list_any (λ n. nat_lt 15 n) numbers))

-- how the next task is guessed: the first target, the last, or those at these positions, over and over
abbrev pub prediction_of : (code : ℕ) → (numbers : List ℕ) → Option Prediction
prediction_of code numbers =
    if code == 0 then Some predict.First
    else (if code == 1 then Some predict.Last
    else (if (code == 2) && is_listed numbers then Some (predict.List numbers) else None))
