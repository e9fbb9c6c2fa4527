-- What `demonstrate` says of a program text, by its status: the annotations are sound; a run shows what a wrong one does; or
-- no such run was found. How the run is told is not said here.
use Rattle.std.specs.Prelude.{◌≡◌, ◌≤◌, ◌⊎◌, ℕ, List, Result, Ok, Err}
use Rattle.task_descriptor.specs.Listing.{Listing}
use Rattle.annotated_asm.specs.declared.fault.AsmFault.{AsmFault}
use Rattle.annotated_asm.specs.ProgramText.{parse}
use Rattle.task_graph.specs.Soundness.{Sound}
use Rattle.machine_model.specs.declared.event.Event.{Event}
use Rattle.report_texts.specs.OutputTexts.{Report, program_refused}
use Rattle.demonstration.specs.Shown.{IsShown}
use Rattle.demonstration.specs.declared.judge.Evidence.{Evidence}
use Rattle.demonstration.specs.Found.{IsNoneFound}

-- none of the runs that were tried shows anything
pub record FindsNothing (units steps : ℕ) (p : Listing) (report : Report) : Type 0 where
  pub none : IsNoneFound p units steps
  pub status : report.status ≡ 3

-- there are events, on at most so many units, that show something
pub record TellsOfRun (most_units : ℕ) (p : Listing) (report : Report) : Type 0 where
  pub units : ℕ
  pub few : units ≤ most_units
  pub events : List Event
  pub it : Evidence
  pub shown : IsShown p units events it
  pub status : report.status ≡ 1

-- what is said of a program
abbrev pub IsDemonstrated : (units steps : ℕ) → Listing → Report → Type 0
IsDemonstrated units steps p report =
    (Sound p × (report.status ≡ 0))
    ⊎ ((Sound p → ⊥) × (TellsOfRun units p report ⊎ FindsNothing units steps p report))

abbrev pub IsDemonstratedOf : (units steps : ℕ) → Result Listing AsmFault → Report → Type 0
IsDemonstratedOf units steps (Ok p) report = IsDemonstrated units steps p report
IsDemonstratedOf units steps (Err fault) report = report ≡ program_refused fault

-- what is said of a program text
abbrev pub IsDemonstrateReport : (units steps : ℕ) → (text : List ℕ) → Report → Type 0
IsDemonstrateReport units steps text report = IsDemonstratedOf units steps (parse text) report
