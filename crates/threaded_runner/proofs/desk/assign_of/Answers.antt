-- The task that is chosen may be assigned: the run goes on where there are choices, a unit is free, and the task may
-- follow.
use Rattle.threaded_runner.proofs.Imports.{◌≡◌, ℕ, ◌<◌, List, [], length, Bool, true, false, None, refl, sym, ◌∙◌, subst, true≢false, lt-ltb, nat_lt, if◌then◌else◌, Listing, State, unless, refusal, is_running, Event, Assign, Refused, state, units_of, MayFollow, IsOwn}
use Rattle.std.specs.Prelude.{Option}
use Rattle.threaded_runner.proofs.Turning.{runs}
use Rattle.threaded_runner.proofs.desk.assign_of.Goals as goal

passes : (b : Bool) (why : Refused) (behind : Option Refused) → b ≡ true → unless b why behind ≡ behind
passes true why behind e = refl
passes false why behind e = absurd (true≢false (sym e))

allowed : (p : Listing) (units : ℕ) (s : State) (t : ℕ) → length s.queue < units → MayFollow p s t → refusal p units s (Assign t) ≡ None
allowed p units s t free may =
    passes (nat_lt (length s.queue) units) _ _ (lt-ltb (length s.queue) units free)
    ∙ passes (nat_lt t (length p.tasks)) _ _ (lt-ltb t (length p.tasks) may.0)
    ∙ passes _ _ _ may.1

tested : {A : Type 0} (b : Bool) (xs : List A) → ((if b then xs else []) ≡ [] → ⊥) → b ≡ true
tested true xs h = refl
tested false xs h = absurd (h refl)

pub returns-clause-own : goal.returns-clause-own
returns-clause-own c =
    let m = c.args.machine.now in
    let may = c.in-Some.ensures.follows in
    let running = runs (state m).outcome (tested (is_running (state m).outcome) _ c.requires.has_choices) in
    subst (λ (e : Event). IsOwn m c.args.unit e) (sym may.1)
    (record {
      is_allowed = c.law_answers.ensures.unrefused (Assign may.0) running (allowed m.accepted.program (units_of m) (state m) may.0 c.requires.is_free may.2) c.requires.has_room;
      belongs = c.requires.is_next may.0;
    })
