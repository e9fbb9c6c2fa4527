-- What a walk tells of an event decides the line; a line that passes leaves the verdict to those after it.
use Rattle.std.proofs.Common.{◌≡◌, ℕ, ◌+◌, arith, Bool, true, false, List, ◌∷◌, [], length, Option, None, Some, Result, Ok, Err, refl, sym, ap, subst, ◌∙◌, if◌then◌else◌}
use Rattle.std.specs.Prelude.{MatchResult}
use Rattle.std.specs.Option.{option_map, option_or}
use Rattle.mark_checker.specs.Places.{Checked}
use Rattle.task_descriptor.specs.Listing.{Listing}
use Rattle.machine_model.specs.Machine.{State}
use Rattle.machine_model.specs.declared.event.Event.{Event}
use Rattle.machine_model.specs.declared.event.Refused.{Refused}
use Rattle.sequencer.specs.Machines.{MachineView, answer_to, state, units_of}
use Rattle.event_script.specs.EventScript.{event_in, lines}
use Rattle.event_script.specs.declared.fault.EventFault.{EventFault}
use Rattle.event_trace.specs.declared.change.Change.{Change}
use Rattle.event_trace.specs.declared.told.Told.{Told}
use Rattle.event_trace.specs.declared.told.Told.TheVariants as told
use Rattle.event_trace.specs.Entries.{Tells, count_behind, state_behind}
use Rattle.event_trace.specs.Following.{GoesOn}
use Rattle.strict_replay.specs.declared.departure.Departure.{Departure}
use Rattle.strict_replay.specs.declared.departure.Departure.TheVariants.{NoEvent, NotAllowed}
use Rattle.strict_replay.specs.declared.expectation.ExpectedRefusal.{ExpectedRefusal}
use Rattle.strict_replay.specs.declared.departure.Departed.{Departed}
use Rattle.strict_replay.specs.StrictScript.{content, event_text, expected_parts, expects_refusal, is_silent, refusal_in}
use Rattle.strict_replay.specs.StrictReplay.{Departs, Further, Passes, content_departs, deed_departs, departed, departs_from, end_departs, event_departs, first_departed, refusal_departs, refusal_in_answer, refusal_told, refusal_unmet, told_departs}

-- ---- an event, by what a walk tells of it

taken_by : (complete : Bool) (p : Listing) (number n : ℕ) (s : State) (parts : List (List ℕ)) (further : Further) (e : Event) (a : Result (Unit {0}) Refused) (t : Told) →
    Tells p s e a t →
    event_departs complete p number n s parts further e a
    ≡ option_or (option_map (departed number) (told_departs complete parts t)) (further (count_behind n a) (state_behind p s e a))
taken_by complete p number n s parts further e (Ok done) (told.Taken changes) tells =
    ap (λ (cs : List Change). option_or (option_map (departed number) (deed_departs complete cs parts)) (further (count_behind n (Ok done)) (state_behind p s e (Ok done)))) (sym tells)
taken_by complete p number n s parts further e (Ok done) (told.Refused refusal) tells = absurd tells
taken_by complete p number n s parts further e (Err why) (told.Taken changes) tells = absurd tells
taken_by complete p number n s parts further e (Err why) (told.Refused refusal) tells = sym (ap (λ (r : Refused). Some (departed number (NotAllowed r))) tells)

told_refusal : (p : Listing) (s : State) (e : Event) (a : Result (Unit {0}) Refused) (t : Told) → Tells p s e a t → refusal_told t ≡ refusal_in_answer a
told_refusal p s e (Ok done) (told.Taken changes) tells = refl
told_refusal p s e (Ok done) (told.Refused refusal) tells = absurd tells
told_refusal p s e (Err why) (told.Taken changes) tells = absurd tells
told_refusal p s e (Err why) (told.Refused refusal) tells = ap (λ (r : Refused). Some r) tells

-- an event whose refusal is as expected leaves the count and the state
refused_stays : (p : Listing) (n : ℕ) (s : State) (e : Event) (expected : Option ExpectedRefusal) (a : Result (Unit {0}) Refused) →
    None ≡ refusal_unmet expected (refusal_in_answer a) → (count_behind n a ≡ n) × (state_behind p s e a ≡ s)
refused_stays p n s e None (Ok done) is = absurd (cc)
refused_stays p n s e (Some expected) (Ok done) is = absurd (cc)
refused_stays p n s e expected (Err why) is = (refl, refl)

-- ---- a line

pub silent_passes : (complete : Bool) (names : List (List ℕ)) (m : MachineView) (text : List ℕ) → is_silent text ≡ true → Passes complete names m text m
silent_passes complete names m text silent = (record { accepted = refl; units = refl }, λ number further. rw silent refl)

pub unspelled_departs : (complete : Bool) (names : List (List ℕ)) (m : MachineView) (text : List ℕ) (fault : EventFault) →
    is_silent text ≡ false → event_in names (event_text text) ≡ Err fault → Departs complete names m text (NoEvent fault)
unspelled_departs complete names m text fault loud spelt = λ number further. rw loud (rw spelt refl)

module _ (complete : Bool) (names : List (List ℕ)) (m : MachineView) (text : List ℕ) (e : Event)
    (loud : is_silent text ≡ false) (spelt : event_in names (event_text text) ≡ Ok e) (m' : MachineView) (t : Told)
    (on : GoesOn m e m') (tells : Tells m.accepted.program (state m) e (answer_to m e) t) where
  goes_on : (further : Further) → further (count_behind (length m.history) (answer_to m e)) (state_behind m.accepted.program (state m) e (answer_to m e)) ≡ further (length m'.history) (state m')
  goes_on further =
      ap (λ (k : ℕ). further k (state_behind m.accepted.program (state m) e (answer_to m e))) (sym on.count)
      ∙ ap (λ (s : State). further (length m'.history) s) (sym on.state)

  spells : (number : ℕ) (further : Further) → expects_refusal text ≡ false →
      departs_from complete names m number text further
      ≡ event_departs complete m.accepted.program number (length m.history) (state m) (expected_parts text) further e (answer_to m e)
  spells number further allowed = rw loud (rw spelt (rw allowed refl))

  refusal_spells : (number : ℕ) (further : Further) → expects_refusal text ≡ true →
      departs_from complete names m number text further
      ≡ refusal_departs number (length m.history) (state m) (refusal_in text) further (answer_to m e)
  refusal_spells number further refuses = rw loud (rw spelt (rw refuses refl))

  taken : (number : ℕ) (further : Further) → expects_refusal text ≡ false →
      departs_from complete names m number text further
      ≡ option_or (option_map (departed number) (told_departs complete (expected_parts text) t)) (further (length m'.history) (state m'))
  taken number further allowed =
      spells number further allowed
      ∙ taken_by complete m.accepted.program number (length m.history) (state m) (expected_parts text) further e (answer_to m e) t tells
      ∙ ap (λ (d : Option Departed). option_or (option_map (departed number) (told_departs complete (expected_parts text) t)) d) (goes_on further)

  refused : (number : ℕ) (further : Further) → expects_refusal text ≡ true →
      departs_from complete names m number text further
      ≡ option_or (option_map (departed number) (refusal_unmet (refusal_in text) (refusal_told t))) (further (length m.history) (state m))
  refused number further refuses =
      refusal_spells number further refuses
      ∙ ap (λ (r : Option Refused). option_or (option_map (departed number) (refusal_unmet (refusal_in text) r)) (further (length m.history) (state m)))
      (sym (told_refusal m.accepted.program (state m) e (answer_to m e) t tells))

  stays : (further : Further) → None ≡ refusal_unmet (refusal_in text) (refusal_told t) → further (length m.history) (state m) ≡ further (length m'.history) (state m')
  stays further is =
      let stay = refused_stays m.accepted.program (length m.history) (state m) e (refusal_in text) (answer_to m e)
      (is ∙ ap (λ (r : Option Refused). refusal_unmet (refusal_in text) r) (told_refusal m.accepted.program (state m) e (answer_to m e) t tells)) in
      ap (λ (k : ℕ). further k (state m)) (sym stay.0)
      ∙ ap (λ (s : State). further (count_behind (length m.history) (answer_to m e)) s) (sym stay.1)
      ∙ goes_on further

  -- by whether the line expects a refusal
  passes_by : (refuses : Bool) → expects_refusal text ≡ refuses →
      None ≡ (if refuses then refusal_unmet (refusal_in text) (refusal_told t) else told_departs complete (expected_parts text) t) →
      (number : ℕ) (further : Further) → departs_from complete names m number text further ≡ further (length m'.history) (state m')
  passes_by true known is number further =
      refused number further known
      ∙ ap (λ (u : Option Departure). option_or (option_map (departed number) u) (further (length m.history) (state m))) (sym is)
      ∙ stays further is
  passes_by false known is number further =
      taken number further known ∙ ap (λ (u : Option Departure). option_or (option_map (departed number) u) (further (length m'.history) (state m'))) (sym is)

  departs_by : (refuses : Bool) (why : Departure) → expects_refusal text ≡ refuses →
      Some why ≡ (if refuses then refusal_unmet (refusal_in text) (refusal_told t) else told_departs complete (expected_parts text) t) →
      (number : ℕ) (further : Further) → departs_from complete names m number text further ≡ Some (departed number why)
  departs_by true why known is number further =
      refused number further known ∙ ap (λ (u : Option Departure). option_or (option_map (departed number) u) (further (length m.history) (state m))) (sym is)
  departs_by false why known is number further =
      taken number further known ∙ ap (λ (u : Option Departure). option_or (option_map (departed number) u) (further (length m'.history) (state m'))) (sym is)

  pub event_passes : None ≡ content_departs complete text t → Passes complete names m text m'
  event_passes is = (on.kept, passes_by (expects_refusal text) refl is)

  pub event_departs_so : (why : Departure) → Some why ≡ content_departs complete text t → Departs complete names m text why
  event_departs_so why is = departs_by (expects_refusal text) why refl is

-- what was made of a line, by its cases
pub taken_ok : {A E : Type 0} (walk_of : A → MachineView) (why_of : E → Departure) (complete : Bool) (names : List (List ℕ)) (m : MachineView) (text : List ℕ) (taken : Result A E) (it : A) →
    taken ≡ Ok it → MatchResult taken (λ a. Passes complete names m text (walk_of a)) (λ e. Departs complete names m text (why_of e)) → Passes complete names m text (walk_of it)
taken_ok {A} {E} walk_of why_of complete names m text taken it is ensured =
    let P : Result A E → Type 0 = λ r. MatchResult r (λ a. Passes complete names m text (walk_of a)) (λ e. Departs complete names m text (why_of e)) in
    subst P is ensured

pub taken_err : {A E : Type 0} (walk_of : A → MachineView) (why_of : E → Departure) (complete : Bool) (names : List (List ℕ)) (m : MachineView) (text : List ℕ) (taken : Result A E) (it : E) →
    taken ≡ Err it → MatchResult taken (λ a. Passes complete names m text (walk_of a)) (λ e. Departs complete names m text (why_of e)) → Departs complete names m text (why_of it)
taken_err {A} {E} walk_of why_of complete names m text taken it is ensured =
    let P : Result A E → Type 0 = λ r. MatchResult r (λ a. Passes complete names m text (walk_of a)) (λ e. Departs complete names m text (why_of e)) in
    subst P is ensured

-- ---- the lines behind it

pub passes_on : (complete : Bool) (m m' : MachineView) (names : List (List ℕ)) (number : ℕ) (all more : List (List ℕ)) (line : List ℕ) (verdict : Option Departed) →
    all ≡ line ∷ more → Passes complete names m (content line) m' →
    first_departed complete names m.accepted.program (units_of m) number (length m.history) (state m) all ≡ verdict →
    first_departed complete names m'.accepted.program (units_of m') (number + 1) (length m'.history) (state m') more ≡ verdict
passes_on complete m m' names number all more line verdict begins passes is =
    let further : Further = λ k t. first_departed complete names m.accepted.program (units_of m) (number + 1) k t more in
    ap (λ (a : Checked). first_departed complete names a.program (units_of m') (number + 1) (length m'.history) (state m') more) passes.0.accepted
    ∙ ap (λ (u : ℕ). first_departed complete names m.accepted.program u (number + 1) (length m'.history) (state m') more) passes.0.units
    ∙ sym (passes.1 number further)
    ∙ ap (λ (ls : List (List ℕ)). first_departed complete names m.accepted.program (units_of m) number (length m.history) (state m) ls) (sym begins)
    ∙ is

pub departs_at : (complete : Bool) (m : MachineView) (names : List (List ℕ)) (number : ℕ) (all more : List (List ℕ)) (line : List ℕ) (verdict : Option Departed) (why : Departure) →
    all ≡ line ∷ more → Departs complete names m (content line) why →
    first_departed complete names m.accepted.program (units_of m) number (length m.history) (state m) all ≡ verdict → Some (departed number why) ≡ verdict
departs_at complete m names number all more line verdict why begins departs is =
    sym (departs number (λ k t. first_departed complete names m.accepted.program (units_of m) (number + 1) k t more))
    ∙ ap (λ (ls : List (List ℕ)). first_departed complete names m.accepted.program (units_of m) number (length m.history) (state m) ls) (sym begins)
    ∙ is

pub ends_at : (complete : Bool) (m : MachineView) (names : List (List ℕ)) (number : ℕ) (text : List ℕ) (verdict : Option Departed) →
    length text ≡ 0 → first_departed complete names m.accepted.program (units_of m) number (length m.history) (state m) (lines text) ≡ verdict →
    option_map (departed number) (end_departs complete (state m).outcome) ≡ verdict
ends_at complete m names number [] verdict ends is = is
ends_at complete m names number (byte ∷ text) verdict ends is = absurd (omega arith)
