-- A machine in the middle of a script: it is what `play` says of the events so far. An event more is one step of the fold.
use Rattle.std.proofs.Common.{◌≡◌, ℕ, suc, ◌+◌, ◌<◌, List, [], ◌∷◌, ◌++◌, inl, inr, length, take, get_or, Option, Some, None, Result, Ok, Err, OnOk, OnErr, refl, sym, ap, ◌∙◌, arith, add-one, length-append, length-take-le}
use Rattle.std.specs.List.{enumerate_from}
use Rattle.std.specs.Prelude.{flat_map}
use Rattle.std.proofs.lemmas.List.{flat_map_more, take_more}
use Rattle.std.proofs.lemmas.List.Sums.{fold_more}
use Rattle.task_descriptor.specs.Listing.{Listing}
use Rattle.mark_checker.specs.Places.{Checked}
use Rattle.machine_model.specs.Machine.{State, opening}
use Rattle.machine_model.specs.Laws.{NextIsAfter}
use Rattle.machine_model.specs.Answer.{Played, answered, play_event, play, ok_unless, first_refusal, after}
use Rattle.machine_model.specs.declared.event.Event.{Event}
use Rattle.machine_model.specs.declared.event.Refused.{Refused}
use Rattle.machine_model.specs.declared.event.Refused.TheVariants as refused
use Rattle.sequencer.specs.Machines.{MachineView, Applies, IsAnswered, SameRing, state, units_of}
use Rattle.verdict_report.specs.Playing.{played_so_far}
use Rattle.verdict_report.specs.ReplayText.{answer_line, answers_text}

-- an answer as `answered` takes it: what it leaves where the event is allowed, and else what was before
pub answered_by : (result : Result (Unit {0}) Refused) (refusal : Option Refused) (taken old new : State) (count more : ℕ) (answers : List (Result (Unit {0}) Refused))
    → result ≡ ok_unless refusal → OnOk result ((new ≡ taken) × (more ≡ suc count)) → OnErr result ((new ≡ old) × (more ≡ count))
    → record { answers = answers ++ result ∷ []; state = new; count = more } ≡ answered refusal taken (record { answers = answers; state = old; count = count })
answered_by (Ok done) None taken old new count more answers is ok err = λ j. record { answers = answers ++ Ok tt ∷ []; state = ok.0 j; count = ok.1 j }
answered_by (Ok done) (Some why) taken old new count more answers is ok err = first_of (cc, grind arith)
answered_by (Err why) None taken old new count more answers is ok err = first_of (cc, grind arith)
answered_by (Err why) (Some other) taken old new count more answers is ok err = λ j. record { answers = answers ++ is j ∷ []; state = err.0 j; count = err.1 j }

-- what `apply` answers to an event that is allowed, and to one that is refused
pub takes : NextIsAfter → (old new : MachineView) (e : Event) (answers : List (Result (Unit {0}) Refused)) → IsAnswered old e (Ok tt) → Applies old e new
    → played_so_far new (answers ++ Ok tt ∷ []) ≡ play_event old.accepted.program (units_of old) (played_so_far old answers) e
takes law old new e answers (inl is) applies =
    answered_by (Ok tt) (first_refusal old.accepted.program (units_of old) (state old) (length old.history) e) (after old.accepted.program (state old) e) (state old) (state new) (length old.history) (length new.history) answers is
    (law old.accepted.program (units_of old) (state old) (state new) e applies.next, ap length applies.history ∙ length-append old.history (e ∷ []) ∙ add-one (length old.history)) tt
takes law old new e answers (inr other) applies = first_of (cc, grind arith)

pub refuses : (old new : MachineView) (e : Event) (why : Refused) (answers : List (Result (Unit {0}) Refused)) → IsAnswered old e (Err why) → (why ≡ refused.OutOfMemory → ⊥) → new ≡ old
    → played_so_far new (answers ++ Err why ∷ []) ≡ play_event old.accepted.program (units_of old) (played_so_far old answers) e
refuses old new e why answers (inl is) memory same =
    answered_by (Err why) (first_refusal old.accepted.program (units_of old) (state old) (length old.history) e) (after old.accepted.program (state old) e) (state old) (state new) (length old.history) (length new.history) answers is
    tt (ap state same, ap (λ (m : MachineView). length m.history) same)
refuses old new e why answers (inr other) memory same = first_of (cc, grind arith)

-- one more event of a list
pub play_more : (p : Listing) (units : ℕ) (events : List Event) (i : ℕ) (d : Event) → i < length events
    → play p units (take (i + 1) events) ≡ play_event p units (play p units (take i events)) (get_or events i d)
play_more p units events i d h =
    fold_more (play_event p units) (record { answers = []; state = opening p; count = 0 }) events i d h

-- one more answer after others, and so one more line of the text
enumerated_more : {X : Type 0} (n k : ℕ) (xs : List X) (x : X) → k ≡ n + length xs → enumerate_from n xs ++ (k, x) ∷ [] ≡ enumerate_from n (xs ++ x ∷ [])
enumerated_more n k [] x h = ap (λ (j : ℕ). (j, x) ∷ []) (omega (arith, h))
enumerated_more n k (y ∷ xs) x h = ap (λ t. (n, y) ∷ t) (enumerated_more (n + 1) k xs x (omega (arith, h)))

pub answers_more : (before : List ℕ) (answers : List (Result (Unit {0}) Refused)) (said : Result (Unit {0}) Refused) (number : ℕ) → number ≡ length answers + 1
    → (before ++ answers_text answers) ++ answer_line (number, said) ≡ before ++ answers_text (answers ++ said ∷ [])
answers_more before answers said number is =
    flat_map_more answer_line before (enumerate_from 1 answers) (number, said)
    ∙ ap (λ lines. before ++ flat_map answer_line lines) (enumerated_more 1 number answers said (omega (arith, is)))

-- the step of an event from a machine with the program and the units of the one at the start
pub steps_on : (start m : MachineView) (answers : List (Result (Unit {0}) Refused)) (played : Played) (e : Event) → SameRing start m → played_so_far m answers ≡ played
    → play_event m.accepted.program (units_of m) (played_so_far m answers) e ≡ play_event start.accepted.program (units_of start) played e
steps_on start m answers played e ring is =
    ap (λ (a : Checked). play_event a.program (units_of m) (played_so_far m answers) e) ring.accepted
    ∙ ap (λ (n : ℕ). play_event start.accepted.program n (played_so_far m answers) e) ring.units
    ∙ ap (λ (x : Played). play_event start.accepted.program (units_of start) x e) is
