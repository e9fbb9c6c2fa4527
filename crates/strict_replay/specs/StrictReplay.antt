-- A strict replay: whether each line of a script is as the machine does it, from the start on; and if not, the first that
-- is not, and which of its expectations is the first that is not met. A complete script also lists all that its events did,
-- and ends its run. What is written of it is not said here.
use Rattle.std.specs.Prelude.{◌≡◌, ℕ, suc, ◌+◌, ◌==◌, ◌&&◌, Bool, true, false, not, List, [], ◌∷◌, length, Option, None, Some, Result, Ok, Err, if◌then◌else◌}
use Rattle.std.specs.List.{find, list_any}
use Rattle.std.specs.Option.{option_eq, option_map, option_map_or, option_or}
use Rattle.task_descriptor.specs.Listing.{Listing}
use Rattle.machine_model.specs.Machine.{State, opening}
use Rattle.machine_model.specs.Answer.{after, answer}
use Rattle.machine_model.specs.declared.event.Event.{Event}
use Rattle.machine_model.specs.RefusedText.{number_and_name}
use Rattle.machine_model.specs.declared.event.Refused.{Refused}
use Rattle.machine_model.specs.declared.event.Refused.TheVariants.{NotYet, Unfinished, Waiting}
use Rattle.machine_model.specs.declared.event.Standing.{Standing}
use Rattle.machine_model.specs.declared.event.Standing.TheVariants.{Running}
use Rattle.sequencer.specs.Machines.{MachineView, SameRing, state as state_of, units_of}
use Rattle.event_script.specs.EventScript.{event_in, lines, names_in}
use Rattle.event_script.specs.declared.fault.EventFault.{EventFault}
use Rattle.event_trace.specs.Changes.{changes_of}
use Rattle.event_trace.specs.declared.change.Change.{Change}
use Rattle.event_trace.specs.declared.change.Change.TheVariants.{Took, Loaded, Stored, Wrote, Sent, PutOut, StoppedAt, Ended, AtUnit}
use Rattle.event_trace.specs.declared.told.Told.{Told}
use Rattle.event_trace.specs.declared.told.Told.TheVariants as told
use Rattle.event_trace.specs.declared.unit_change.UnitChange.TheVariants.{Arrived, Drained}
use Rattle.report_texts.specs.JudgedTexts.{Judgement, refused, accepted, judgement}
use Rattle.report_texts.specs.OutputTexts.{Report}
use Rattle.strict_replay.specs.declared.expectation.ExpectedRefusal.{ExpectedRefusal}
use Rattle.strict_replay.specs.declared.expectation.Expectation.{Expectation}
use Rattle.strict_replay.specs.declared.expectation.Expectation.TheVariants.{Register, Sends, Memory, Output, Stops, Ends}
use Rattle.strict_replay.specs.contracts.expectation.ExpectationPartialEq.TheImpl.{eq-value}
use Rattle.strict_replay.specs.declared.departure.Departure.{Departure}
use Rattle.strict_replay.specs.declared.departure.Departure.TheVariants.{NoEvent, NotAllowed, NotEnded, NotListed, NotRefused, Unread, Missed}
use Rattle.strict_replay.specs.declared.departure.Departed.{Departed}
use Rattle.strict_replay.specs.StrictScript.{content, event_text, expectation_in, expected_parts, expects_refusal, is_silent, refusal_in}

-- what an event with this change has done, as a script can expect it
abbrev pub done_by : Change → Option Expectation
done_by (Wrote r word) = Some (Register r word)
done_by (Took r word) = Some (Register r word)
done_by (AtUnit position task (Arrived r word)) = Some (Register r word)
done_by (AtUnit position task (Drained r word)) = Some (Sends r word)
done_by (Sent r word) = Some (Sends r word)
done_by (Loaded at word) = Some (Memory at word)
done_by (Stored at word size) = Some (Memory at word)
done_by (PutOut word) = Some (Output word)
done_by (StoppedAt at) = Some (Stops at)
done_by (Ended standing) = Some (Ends standing)
done_by other = None

-- one of the changes is what was expected, by the `==` that is derived for expectations
abbrev pub is_met : List Change → Expectation → Bool
is_met changes expected = list_any (λ change. option_eq eq-value.it (done_by change) (Some expected)) changes

-- how the expectation of a number departs, if it does; and the first from a number on that does
abbrev pub unmet : List Change → (number : ℕ) → Option Expectation → Option Departure
unmet changes number None = Some (Unread number)
unmet changes number (Some expected) = if is_met changes expected then None else Some (Missed number expected)

abbrev pub first_unmet : List Change → (number : ℕ) → (parts : List (List ℕ)) → Option Departure
first_unmet changes number [] = None
first_unmet changes number (part ∷ parts) = option_or (unmet changes number (expectation_in part)) (first_unmet changes (number + 1) parts)

-- ---- a complete script, which lists all that its events did

-- what a line of a complete script must list of a change: all but the registers that a unit takes as it gets its task or
-- becomes the head
abbrev pub to_list : Change → Option Expectation
to_list (Took r word) = None
to_list change = done_by change

abbrev pub spells : (part : List ℕ) → Expectation → Bool
spells part done = option_eq eq-value.it (expectation_in part) (Some done)

abbrev pub is_listed : (parts : List (List ℕ)) → Expectation → Bool
is_listed parts done = list_any (λ part. spells part done) parts

abbrev pub lacks : (parts : List (List ℕ)) → Change → Bool
lacks parts change = option_map_or (λ done. not (is_listed parts done)) (to_list change) false

-- how a line with these parts departs at the first of the changes that it lacks, if it does
abbrev pub first_not_listed : (complete : Bool) → List Change → (parts : List (List ℕ)) → Option Departure
first_not_listed complete changes parts = if complete then option_map NotListed (find (lacks parts) changes) else None

-- how a line departs from what its event did, if it does
abbrev pub deed_departs : (complete : Bool) → List Change → (parts : List (List ℕ)) → Option Departure
deed_departs complete changes parts = option_or (first_unmet changes 1 parts) (first_not_listed complete changes parts)

-- how the end of a script departs, at the line of this number, which it does not have: a complete script ends its run
abbrev pub end_departs : (complete : Bool) → Standing → Option Departure
end_departs true Running = Some NotEnded
end_departs complete standing = None

-- ---- a refusal that is expected

-- the register that is waited for
abbrev pub awaited : Refused → Option ℕ
awaited (Waiting r) = Some r
awaited (NotYet r) = Some r
awaited (Unfinished r) = Some r
awaited _ = None

-- an event is refused as expected: for the reason of this number, and waiting for this register where one is named
abbrev pub is_refused_so : Refused → ExpectedRefusal → Bool
is_refused_so why expected = (number_and_name why).0 == expected.number
    && option_map_or (λ r. option_map_or (λ waited. waited == r) (awaited why) false) expected.register true

-- why an event was refused, if it was
abbrev pub refusal_told : Told → Option Refused
refusal_told (told.Taken changes) = None
refusal_told (told.Refused why) = Some why

abbrev pub refusal_in_answer : Result (Unit {0}) Refused → Option Refused
refusal_in_answer (Ok done) = None
refusal_in_answer (Err why) = Some why

-- how a line departs that expects a refusal, if it does: its words spell none, or the event is not refused so
abbrev pub refusal_unmet : Option ExpectedRefusal → Option Refused → Option Departure
refusal_unmet None refusal = Some (Unread 1)
refusal_unmet (Some expected) None = Some (NotRefused expected)
refusal_unmet (Some expected) (Some why) = if is_refused_so why expected then None else Some (NotRefused expected)

-- how a line with this content departs by what a walk tells of its event, if it does
abbrev pub told_departs : (complete : Bool) → (parts : List (List ℕ)) → Told → Option Departure
told_departs complete parts (told.Taken changes) = deed_departs complete changes.items parts
told_departs complete parts (told.Refused why) = Some (NotAllowed why)

abbrev pub content_departs : (complete : Bool) → (content : List ℕ) → Told → Option Departure
content_departs complete content told =
    if expects_refusal content then refusal_unmet (refusal_in content) (refusal_told told)
    else told_departs complete (expected_parts content) told

-- ---- the first line that departs, from a state on, with n events allowed before it

-- what departs first behind a line, by the number of events that were allowed and the state
abbrev pub Further : Type 0
Further = ℕ → State → Option Departed

abbrev pub departed : (line : ℕ) → Departure → Departed
departed line why = record { line = line; why = why }

-- from a line on with this event, by the machine's answer
abbrev pub event_departs : (complete : Bool) → Listing → (number n : ℕ) → State → (parts : List (List ℕ)) → Further → Event → Result (Unit {0}) Refused → Option Departed
event_departs complete p number n s parts further e (Ok done) =
    option_or (option_map (departed number) (deed_departs complete (changes_of p s e (after p s e)) parts)) (further (suc n) (after p s e))
event_departs complete p number n s parts further e (Err why) = Some (departed number (NotAllowed why))

-- from a line on that expects a refusal, by the machine's answer: a refused event changes nothing
abbrev pub refusal_departs : (number n : ℕ) → State → Option ExpectedRefusal → Further → Result (Unit {0}) Refused → Option Departed
refusal_departs number n s expected further answer =
    option_or (option_map (departed number) (refusal_unmet expected (refusal_in_answer answer))) (further n s)

-- from a line on that spells this
abbrev pub spelling_departs : (complete : Bool) → Listing → (units number n : ℕ) → State → (content : List ℕ) → Further → Result Event EventFault → Option Departed
spelling_departs complete p units number n s content further (Ok e) =
    if expects_refusal content then refusal_departs number n s (refusal_in content) further (answer p units s n e)
    else event_departs complete p number n s (expected_parts content) further e (answer p units s n e)
spelling_departs complete p units number n s content further (Err fault) = Some (departed number (NoEvent fault))

-- from a line on with this content
abbrev pub line_departs : (complete : Bool) → (names : List (List ℕ)) → Listing → (units number n : ℕ) → State → (content : List ℕ) → Further → Option Departed
line_departs complete names p units number n s content further =
    if is_silent content then further n s
    else spelling_departs complete p units number n s content further (event_in names (event_text content))

abbrev pub first_departed : (complete : Bool) → (names : List (List ℕ)) → Listing → (units number n : ℕ) → State → (lines : List (List ℕ)) → Option Departed
first_departed complete names p units number n s [] = option_map (departed number) (end_departs complete s.outcome)
first_departed complete names p units number n s (line ∷ more) =
    line_departs complete names p units number n s (content line) (λ k t. first_departed complete names p units (number + 1) k t more)

-- of a script, on a machine of `units` units at the start of a program
abbrev pub strict_verdict : (complete : Bool) → Listing → (units : ℕ) → (script : List ℕ) → Option Departed
strict_verdict complete p units script = first_departed complete (names_in p.tasks) p units 1 0 (opening p) (lines script)

-- what `replay --strict`, perhaps with `--complete`, may write of a program text, the text of its certificate and the text of
-- a script: its status is 0 exactly where no line departs
abbrev pub IsStrictJudged : (complete : Bool) → (units : ℕ) → (script : List ℕ) → Judgement → Report → Type 0
IsStrictJudged complete units script (refused said) report = report ≡ said
IsStrictJudged complete units script (accepted p) report = report.status ≡ option_map_or (λ departed. 1) (strict_verdict complete p units script) 0

abbrev pub IsStrictReport : (complete : Bool) → (units : ℕ) → (program certificate script : List ℕ) → Report → Type 0
IsStrictReport complete units program certificate script report = IsStrictJudged complete units script (judgement program certificate) report

-- ---- for private functions only: a machine passes a line with this content, or the line departs

abbrev pub departs_from : (complete : Bool) → (names : List (List ℕ)) → MachineView → (number : ℕ) → (content : List ℕ) → Further → Option Departed
departs_from complete names m number content further = line_departs complete names m.accepted.program (units_of m) number (length m.history) (state_of m) content further

abbrev pub Passes : (complete : Bool) → (names : List (List ℕ)) → MachineView → (content : List ℕ) → MachineView → Type 0
Passes complete names m content m' =
    SameRing m m' × ((number : ℕ) (further : Further) → departs_from complete names m number content further ≡ further (length m'.history) (state_of m'))

abbrev pub Departs : (complete : Bool) → (names : List (List ℕ)) → MachineView → (content : List ℕ) → Departure → Type 0
Departs complete names m content why = (number : ℕ) (further : Further) → departs_from complete names m number content further ≡ Some (departed number why)
