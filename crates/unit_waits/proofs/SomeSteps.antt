-- The waits of some steps among those of all.
use Rattle.std.proofs.Common.{◌≡◌, ℕ, suc, Bool, true, false, if◌then◌else◌, List, [], ◌∷◌, ◌++◌, length, filter, refl, ap, ◌∙◌, drop}
use Rattle.std.proofs.lemmas.Bool.{cond-false, cond-true}
use Rattle.std.proofs.lemmas.List.Elements.{filter-append}
use Rattle.task_descriptor.specs.Listing.{Listing}
use Rattle.machine_model.specs.Machine.{Active, State}
use Rattle.machine_model.specs.declared.event.Event.{Event}
use Rattle.unit_waits.specs.declared.waiting.Waiting.{Waiting}
use Rattle.unit_waits.specs.Waits.{acts, is_between, waiting, waits_at, waits_in, waits_of}

abbrev of_step : (first last : ℕ) → Waiting → Bool
of_step first last w = is_between first last w.step

one_kept : (test : Waiting → Bool) (acts : Bool) (w : Waiting) → test w ≡ true
    → filter test (if acts then [] else w ∷ []) ≡ (if acts then [] else w ∷ [])
one_kept test true w is = refl
one_kept test false w is = cond-true (test w) (w ∷ []) [] is

one_gone : (test : Waiting → Bool) (acts : Bool) (w : Waiting) → test w ≡ false → filter test (if acts then [] else w ∷ []) ≡ []
one_gone test true w is = refl
one_gone test false w is = cond-false (test w) (w ∷ []) [] is

all_kept : (first last : ℕ) (p : Listing) (units step : ℕ) (s : State) (events : List Event) (k : ℕ) (us : List Active)
    → is_between first last step ≡ true
    → filter (of_step first last) (waits_of p units step s events k us) ≡ waits_of p units step s events k us
all_kept first last p units step s events k [] is = refl
all_kept first last p units step s events k (u ∷ us) is =
    let one = one_kept (of_step first last) (acts (length s.queue) k events) (waiting p units step s k u) is in
    let more = all_kept first last p units step s events (suc k) us is in
    filter-append (of_step first last) (waits_at p units step s events k u) (waits_of p units step s events (suc k) us) ∙ (λ j. one j ++ more j)

all_gone : (first last : ℕ) (p : Listing) (units step : ℕ) (s : State) (events : List Event) (k : ℕ) (us : List Active)
    → is_between first last step ≡ false → filter (of_step first last) (waits_of p units step s events k us) ≡ []
all_gone first last p units step s events k [] is = refl
all_gone first last p units step s events k (u ∷ us) is =
    let one = one_gone (of_step first last) (acts (length s.queue) k events) (waiting p units step s k u) is in
    let more = all_gone first last p units step s events (suc k) us is in
    filter-append (of_step first last) (waits_at p units step s events k u) (waits_of p units step s events (suc k) us) ∙ (λ j. one j ++ more j)

-- those of a step whose number is between these
pub kept_in : (first last : ℕ) (p : Listing) (units step : ℕ) (s : State) (events : List Event) → is_between first last step ≡ true
    → filter (λ (w : Waiting). is_between first last w.step) (waits_in p units step s events) ≡ waits_in p units step s events
kept_in first last p units step s events is = all_kept first last p units step s events 1 (drop 1 s.queue) is

-- those of another step
pub gone_in : (first last : ℕ) (p : Listing) (units step : ℕ) (s : State) (events : List Event) → is_between first last step ≡ false
    → filter (λ (w : Waiting). is_between first last w.step) (waits_in p units step s events) ≡ []
gone_in first last p units step s events is = all_gone first last p units step s events 1 (drop 1 s.queue) is
