-- What `replay` writes: what a machine answers to each event of a script, and how it then stands. In another form only
-- the status is known.
use Rattle.std.specs.Prelude.{◌≡◌, ℕ, List, [], ◌∷◌, ◌++◌, Option, None, Some, Result, Ok, Err, codes, flat_map, take}
use Rattle.std.specs.List.{enumerate_from}
use Rattle.std.specs.Fmt.{decimal}
use Rattle.task_descriptor.specs.Listing.{Listing}
use Rattle.machine_model.specs.Answer.{Played, play}
use Rattle.machine_model.specs.declared.event.Event.{Event}
use Rattle.machine_model.specs.declared.event.Refused.{Refused}
use Rattle.machine_model.specs.RefusedText.{refusal_text}
use Rattle.event_script.specs.declared.fault.ScriptFault.{ScriptFault}
use Rattle.event_script.specs.FaultText.{script_fault_text}
use Rattle.event_script.specs.EventScript.{script_of}
use Rattle.jobs.specs.declared.job.ReplayEmit.{ReplayEmit}
use Rattle.jobs.specs.declared.job.ReplayEmit.TheVariants as emit
use Rattle.report_texts.specs.OutputTexts.{Report}
use Rattle.report_texts.specs.JudgedTexts.{Judgement, refused, accepted, judgement}
use Rattle.verdict_report.specs.MachineText.{machine_text, standing_status}

abbrev pub script_refused : ScriptFault → Report
script_refused fault = record {
  bytes = codes "script refused: " ++ (script_fault_text fault ++ 10 ∷ []);
  status = 1;
}

abbrev pub answer_text : Result (Unit {0}) Refused → List ℕ
answer_text (Ok done) = codes "ok"
answer_text (Err refusal) = codes "refused " ++ refusal_text refusal

-- an answer after the number of its event
abbrev pub answer_line : ℕ × Result (Unit {0}) Refused → List ℕ
answer_line numbered = decimal numbered.0 ++ (codes " " ++ (answer_text numbered.1 ++ 10 ∷ []))

-- the answers, one on a line, numbered from 1
abbrev pub answers_text : List (Result (Unit {0}) Refused) → List ℕ
answers_text answers = flat_map answer_line (enumerate_from 1 answers)

-- the answers to the events of a script, where an event that is refused changes nothing, and then how the machine stands,
-- which the status says, too
abbrev pub answers_report : (units : ℕ) → Listing → List Event → Report
answers_report units p events =
    let played = play p units events in
    record {
      bytes = answers_text played.answers ++ machine_text played.state;
      status = standing_status played.state.outcome;
    }

-- what `replay` may write: this, if the answers are asked for; in another form, with this status
pub record IsEventsReport (emitted : ReplayEmit) (units : ℕ) (p : Listing) (events : List Event) (report : Report) : Type 0 where
  pub answered : report.status ≡ (answers_report units p events).status
  pub written : emitted ≡ emit.Answers → report.bytes ≡ (answers_report units p events).bytes

-- the events that are played: all, or the first `until`
abbrev pub first_events : (until : Option ℕ) → List Event → List Event
first_events None events = events
first_events (Some most) events = take most events

abbrev pub IsScriptReport : ReplayEmit → (units : ℕ) → (until : Option ℕ) → Listing → Result (List Event) ScriptFault → Report → Type 0
IsScriptReport emitted units until p (Ok events) report = IsEventsReport emitted units p (first_events until events) report
IsScriptReport emitted units until p (Err fault) report = report ≡ script_refused fault

abbrev pub IsReplayJudged : ReplayEmit → (units : ℕ) → (until : Option ℕ) → (script : List ℕ) → Judgement → Report → Type 0
IsReplayJudged emitted units until script (refused said) report = report ≡ said
IsReplayJudged emitted units until script (accepted p) report = IsScriptReport emitted units until p (script_of p script) report

-- what `replay` may write for a program text, the text of its certificate and the text of a script
abbrev pub IsReplayText : ReplayEmit → (units : ℕ) → (until : Option ℕ) → (program certificate script : List ℕ) → Report → Type 0
IsReplayText emitted units until program certificate script report = IsReplayJudged emitted units until script (judgement program certificate) report
