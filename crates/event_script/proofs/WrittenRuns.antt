-- Run by run: a line that was added as often as a run says is the text of the run's events.
use Rattle.std.proofs.Common.{◌≡◌, ℕ, zero, suc, ◌+◌, ◌<◌, List, [], ◌∷◌, ◌++◌, length, get_or, take, refl, sym, ◌∙◌, ap, subst, append_assoc, append-nil, add-one}
use Rattle.std.specs.Prelude.{flat_map, replicate}
use Rattle.std.specs.List.{All, AllByRecursion, concat}
use Rattle.std.proofs.lemmas.List.{take_more}
use Rattle.std.proofs.lemmas.List.Concat.{concat_is, flat_map-append}
use Rattle.std.proofs.lemmas.List.Elements.{All-append, All-from_recursion}
use Rattle.task_descriptor.specs.Listing.{Listing}
use Rattle.machine_model.specs.declared.event.Event.{Event}
use Rattle.machine_model.specs.declared.event.EventRun.{EventRun}
use Rattle.machine_model.specs.Runs.{events_of}
use Rattle.event_script.specs.ScriptText.{line_text, script_text, NamesRegister}

-- the last of some equal parts stands where the first does
same_parts : (n : ℕ) (part : List ℕ) → flat_map (λ bytes. bytes) (replicate n part) ++ part ≡ part ++ flat_map (λ bytes. bytes) (replicate n part)
same_parts zero part = sym (append-nil part)
same_parts (suc n) part =
    append_assoc part (flat_map (λ bytes. bytes) (replicate n part)) part ∙ ap (λ rest. part ++ rest) (same_parts n part)

pub repeated_more : (before : List ℕ) (n : ℕ) (part : List ℕ) → (before ++ concat (replicate n part)) ++ part ≡ before ++ concat (replicate (n + 1) part)
repeated_more before n part =
    append_assoc before (concat (replicate n part)) part
    ∙ ap (λ (parts : List ℕ). before ++ parts)
    (ap (λ (parts : List ℕ). parts ++ part) (concat_is (replicate n part)) ∙ same_parts n part
    ∙ ap (λ (m : ℕ). flat_map (λ bytes. bytes) (replicate m part)) (sym (add-one n)) ∙ sym (concat_is (replicate (n + 1) part)))

-- the text of equal events
equal_events : (f : Event → List ℕ) (n : ℕ) (event : Event) → flat_map f (replicate n event) ≡ flat_map (λ bytes. bytes) (replicate n (f event))
equal_events f zero event = refl
equal_events f (suc n) event = ap (λ rest. f event ++ rest) (equal_events f n event)

events_more : (runs : List EventRun) (i : ℕ) (run : EventRun) → i < length runs → run ≡ get_or runs i run → events_of (take (i + 1) runs) ≡ events_of (take i runs) ++ replicate run.count run.event
events_more runs i run within is =
    let each : EventRun → List Event = λ r. replicate r.count r.event in
    ap (flat_map each) (take_more runs i run within) ∙ flat_map-append each (take i runs) (get_or runs i run ∷ [])
    ∙ ap (λ (r : EventRun). flat_map each (take i runs) ++ (each r ++ [])) (sym is)
    ∙ ap (λ (last : List Event). flat_map each (take i runs) ++ last) (append-nil (each run))

-- one run more: its line is added as often as it says
pub run_more : (p : Listing) (runs : List EventRun) (i : ℕ) (run : EventRun) (text new line : List ℕ) → i < length runs → run ≡ get_or runs i run
    → text ≡ script_text p (events_of (take i runs)) → line ≡ line_text p run.event → new ≡ text ++ concat (replicate run.count line)
    → new ≡ script_text p (events_of (take (i + 1) runs))
run_more p runs i run text new line within is before spelled added =
    let events = events_of (take i runs) in
    added
    ∙ ap (λ (t : List ℕ). t ++ concat (replicate run.count line)) before
    ∙ ap (λ (l : List ℕ). script_text p events ++ concat (replicate run.count l)) spelled
    ∙ ap (λ (t : List ℕ). script_text p events ++ t) (concat_is (replicate run.count (line_text p run.event)) ∙ sym (equal_events (line_text p) run.count run.event))
    ∙ sym (flat_map-append (line_text p) events (replicate run.count run.event))
    ∙ ap (script_text p) (sym (events_more runs i run within is))

equal_all : (n : ℕ) (event : Event) → NamesRegister event → AllByRecursion NamesRegister (replicate n event)
equal_all zero event names = tt
equal_all (suc n) event names = (names, equal_all n event names)

pub registers_more : (runs : List EventRun) (i : ℕ) (run : EventRun) → i < length runs → run ≡ get_or runs i run → All NamesRegister (events_of (take i runs)) → NamesRegister run.event
    → All NamesRegister (events_of (take (i + 1) runs))
registers_more runs i run within is before names =
    subst (λ (events : List Event). All NamesRegister events) (sym (events_more runs i run within is))
    (All-append NamesRegister (events_of (take i runs)) (replicate run.count run.event) before
    (All-from_recursion NamesRegister (replicate run.count run.event) (equal_all run.count run.event names)))
