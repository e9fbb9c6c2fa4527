-- What `run` writes: the result of a run by threads or in steps. Which run by threads it is depends on the threads;
-- each is a list of allowed events. A run in steps is that of the schedule. In another form than the report and the
-- script only the run and the status are known.
use Rattle.std.specs.Prelude.{◌≡◌, ◌↔◌, ◌≤◌, ℕ, List, [], ◌∷◌, ◌++◌, Option, Some, None, Ok, length, codes}
use Rattle.task_descriptor.specs.Listing.{Listing}
use Rattle.machine_model.specs.Machine.{State}
use Rattle.machine_model.specs.Replay.{Replays}
use Rattle.machine_model.specs.declared.event.Event.{Event}
use Rattle.machine_model.specs.declared.event.Standing.TheVariants.{Running}
use Rattle.event_script.specs.EventScript.{script_of}
use Rattle.event_script.specs.ScriptText.{script_text}
use Rattle.threaded_runner.specs.Reports.{AreLate}
use Rattle.threaded_runner.specs.declared.report.How.{How}
use Rattle.threaded_runner.specs.declared.report.How.TheVariants.{Ended, OutOfBudget}
use Rattle.unit_turns.specs.Steps.{beginning, after_steps, Takes}
use Rattle.unit_turns.specs.declared.predictor.Predictor.{Predictor}
use Rattle.unit_turns.specs.declared.predictor.Predictor.TheVariants as predictor
use Rattle.jobs.specs.declared.job.Schedule.{Schedule}
use Rattle.jobs.specs.declared.job.Schedule.TheVariants.{Threads, Steps}
use Rattle.jobs.specs.declared.job.Prediction.{Prediction}
use Rattle.jobs.specs.declared.job.Prediction.TheVariants as prediction
use Rattle.jobs.specs.declared.job.RunEmit.{RunEmit}
use Rattle.jobs.specs.declared.job.RunEmit.TheVariants as emit
use Rattle.report_texts.specs.OutputTexts.{Report, words_text}
use Rattle.report_texts.specs.JudgedTexts.{Judgement, refused, accepted, judgement}
use Rattle.verdict_report.specs.MachineText.{machine_text, standing_status}

-- a run: the events that were applied, what they left, how it ended, and in how many steps, if it went in
-- steps
pub record Run : Type 0 where
  pub history : List Event
  pub state : State
  pub how : How
  pub steps : Option ℕ

-- a run of a program: each event is allowed where it comes; it has ended exactly where the machine does not continue,
-- and was out of budget only with at least `budget` events
pub record IsRunOf (p : Listing) (units budget : ℕ) (run : Run) : Type 0 where
  pub replay : Replays p units run.history run.state
  pub ended : (run.how ≡ Ended) ↔ (run.state.outcome ≡ Running → ⊥)
  pub spent : run.how ≡ OutOfBudget → budget ≤ length run.history

-- the predictor of a run in steps
abbrev pub predictor_of : Prediction → Predictor
predictor_of prediction.First = predictor.First
predictor_of prediction.Last = predictor.Last
predictor_of (prediction.List numbers) = predictor.Script (record { list = numbers; at = 0 })

-- the run went in `count` steps, and its events are theirs
pub record IsInSteps (p : Listing) (units budget : ℕ) (predict : Prediction) (run : Run) : Type 0 where
  pub count : ℕ
  pub steps : run.steps ≡ Some count
  pub takes : Takes p units budget (beginning p (predictor_of predict)) count
  pub events : run.history ≡ (after_steps p units budget count (beginning p (predictor_of predict))).events

-- the run is one of the schedule; by threads only late events come once the budget is spent
abbrev pub IsScheduled : Schedule → Listing → (units budget : ℕ) → Prediction → Run → Type 0
IsScheduled Threads p units budget predict run = (run.steps ≡ None) × AreLate budget run.history
IsScheduled Steps p units budget predict run = IsInSteps p units budget predict run

-- the output words, and how the run ended
abbrev pub ending_text : How → State → List ℕ
ending_text Ended s = machine_text s
ending_text OutOfBudget s = words_text s.output ++ (codes "out of budget" ++ 10 ∷ [])

abbrev pub ending_status : How → State → ℕ
ending_status Ended s = standing_status s.outcome
ending_status OutOfBudget s = 3

-- the report of some run of a program in which nothing is found: how it ended, if the report is asked for; its events, if
-- the script is asked for, which is read as these events
pub record IsRunReport (schedule : Schedule) (units budget : ℕ) (predict : Prediction) (emitted : RunEmit) (p : Listing) (report : Report) : Type 0 where
  pub run : Run
  pub right : IsRunOf p units budget run
  pub scheduled : IsScheduled schedule p units budget predict run
  pub ended : emitted ≡ emit.Report → report.bytes ≡ ending_text run.how run.state
  pub script : emitted ≡ emit.Script → (report.bytes ≡ script_text p run.history) × (script_of p report.bytes ≡ Ok run.history)
  pub answered : report.status ≡ ending_status run.how run.state

abbrev pub IsRunJudged : Schedule → (units budget : ℕ) → Prediction → RunEmit → Judgement → Report → Type 0
IsRunJudged schedule units budget predict emitted (refused said) report = report ≡ said
IsRunJudged schedule units budget predict emitted (accepted p) report = IsRunReport schedule units budget predict emitted p report

-- what `run` may write for a program text and the text of its certificate
abbrev pub IsRunText : Schedule → (units budget : ℕ) → Prediction → RunEmit → (program certificate : List ℕ) → Report → Type 0
IsRunText schedule units budget predict emitted program certificate report =
    IsRunJudged schedule units budget predict emitted (judgement program certificate) report
