-- The first of a unit's own events that is allowed, found test by test: of the registers, which stand in order,
-- it is the least.
use Rattle.unit_turns.proofs.Imports.{◌≡◌, ℕ, zero, suc, ◌+◌, ◌<◌, ◌≤◌, inl, inr, Bool, true, false, cond, List, [], ◌∷◌, ◌++◌, Option, Some, None, refl, ap, ◌∙◌, subst, arith, Ok, map, nat_lt, slice_get, is_none, IfSome, find, range_with_len, option_map, option_or, cases_eq, cond-true, cond-false, ne_eqb, ltb-true, Listing, Active, State, unless, for_some, refusal, answer, ok_unless, is_running, most_events, Event, Exec, Transfer, Drain, Squash, Refused, NoSuch, Ended, Full, registers, first_allowed, TakesAllowed, SkipsRefused, GoesByLists, TakesLeast, AllowedIsUnrefused, own_events}
use Rattle.std.proofs.lemmas.List.Folds.{find-append}
use Rattle.machine_model.specs.Unit.{exec_refusal}
use Rattle.processor_steps.specs.LeastRegisters.{IsLeast}

-- what is found in a list of events, one for each register

map_cond : (f : ℕ → Event) (b : Bool) (x : ℕ) (o : Option Event) (o' : Option ℕ) → o ≡ option_map f o' → cond b (Some (f x)) o ≡ option_map f (cond b (Some x) o')
map_cond f true x o o' e = refl
map_cond f false x o o' e = e

find_map : (test : Event → Bool) (f : ℕ → Event) (xs : List ℕ) → find test (map f xs) ≡ option_map f (find (λ x. test (f x)) xs)
find_map test f [] = refl
find_map test f (x ∷ xs) = map_cond f (test (f x)) x (find test (map f xs)) (find (λ y. test (f y)) xs) (find_map test f xs)

-- the least register is the first

module _ (test : ℕ → Bool) where
  nothing : (n from : ℕ) → ((r : ℕ) → r < from + n → test r ≡ false) → find test (range_with_len from n) ≡ None
  nothing zero from none = refl
  nothing (suc n) from none =
      cond-false (test from) (Some from) (find test (range_with_len (from + 1) n)) (none from (omega arith))
      ∙ nothing n (from + 1) (λ r below. none r (omega arith))

  first : (n from r : ℕ) → from ≤ r → r < from + n → test r ≡ true → ((s : ℕ) → s < r → test s ≡ false) → find test (range_with_len from n) ≡ Some r
  first zero from r low high holds less = absurd (omega arith)
  first (suc n) from r low high holds less =
      elim (cases_eq from r) [
        | inl same ↦ cond-true (test from) (Some from) (find test (range_with_len (from + 1) n)) (ap test same ∙ holds) ∙ ap Some same
        | inr other ↦ cond-false (test from) (Some from) (find test (range_with_len (from + 1) n)) (less from (omega arith)) ∙ first n (from + 1) r (omega arith) (omega arith) holds less
      ]

-- what the machine allows, nothing refuses

ok_parts : (running : Bool) (o rest : Option Refused) → ok_unless (unless running Ended (option_or o rest)) ≡ Ok tt → o ≡ None
ok_parts true None rest e = refl
ok_parts true (Some why) rest e = absurd (cc)
ok_parts false o rest e = absurd (cc)

pub allowed_by : AllowedIsUnrefused
allowed_by p units s n e h = ok_parts (is_running s.outcome) (refusal p units s e) (unless (nat_lt n most_events) Full None) h

room_parts : (running room : Bool) (o : Option Refused) → ok_unless (unless running Ended (option_or o (unless room Full None))) ≡ Ok tt → room ≡ true
room_parts true true o e = refl
room_parts true false None e = absurd (cc)
room_parts true false (Some why) e = absurd (cc)
room_parts false room o e = absurd (cc)

pub room_by : (p : Listing) (units : ℕ) (s : State) (n : ℕ) (e : Event) → answer p units s n e ≡ Ok tt → n < most_events
room_by p units s n e h = ltb-true n most_events (room_parts (is_running s.outcome) (nat_lt n most_events) (refusal p units s e) h)

-- whether nothing refuses, as a test

pub is_there : (o : Option Refused) → (o ≡ None → ⊥) → is_none o ≡ false
is_there None h = absurd (h refl)
is_there (Some why) h = refl

pub least_found : (refusals : ℕ → Option Refused) (o : Option ℕ) → IsLeast (λ r. refusals r ≡ None) o → IfSome o (λ r. r < 34) → find (λ r. is_none (refusals r)) registers ≡ o
unfolding registers
least_found refusals None is below = nothing (λ r. is_none (refusals r)) 34 0 (λ r l. is_there (refusals r) (is.none r (omega arith)))
least_found refusals (Some r) is below =
    first (λ s. is_none (refusals s)) 34 0 r (omega arith) (omega arith) (ap is_none is.holds) (λ s l. is_there (refusals s) (is.least s l))

-- the first allowed of one event and others, of two lists, of an event for each register

pub takes_allowed : TakesAllowed
unfolding first_allowed
takes_allowed p units s e es unrefused = cond-true (is_none (refusal p units s e)) (Some e) _ (ap is_none unrefused)

pub skips_refused : SkipsRefused
unfolding first_allowed
skips_refused p units s e es refused = cond-false (is_none (refusal p units s e)) (Some e) _ (is_there _ refused)

pub goes_by_lists : GoesByLists
unfolding first_allowed
goes_by_lists p units s front behind = find-append (λ e. is_none (refusal p units s e)) front behind

pub takes_least : TakesLeast
unfolding first_allowed
takes_least p units s event o is below =
    find_map (λ e. is_none (refusal p units s e)) event registers ∙ ap (option_map event) (least_found (λ r. refusal p units s (event r)) o is below)

-- the four kinds of events, one after another

module _ (p : Listing) (units : ℕ) (s : State) (k : ℕ) where
  abbrev allowed : Event → Bool
  allowed e = is_none (refusal p units s e)

  abbrev taken : Option ℕ
  taken = find (λ r. allowed (Transfer k r)) registers

  abbrev sent : Option ℕ
  sent = find (λ r. allowed (Drain k r)) registers

  abbrev behind_transfers : List Event
  behind_transfers = Squash k ∷ (map (Drain k) registers ++ (Exec k ∷ []))

  parts : first_allowed p units s (own_events k) ≡ option_or (option_map (Transfer k) taken) (find allowed behind_transfers)
  unfolding first_allowed
  parts =
      find-append allowed (map (Transfer k) registers) behind_transfers
      ∙ ap (λ (o : Option Event). option_or o (find allowed behind_transfers)) (find_map allowed (Transfer k) registers)

  drains : find allowed (map (Drain k) registers ++ (Exec k ∷ [])) ≡ option_or (option_map (Drain k) sent) (find allowed (Exec k ∷ []))
  drains =
      find-append allowed (map (Drain k) registers) (Exec k ∷ [])
      ∙ ap (λ (o : Option Event). option_or o (find allowed (Exec k ∷ []))) (find_map allowed (Drain k) registers)

  -- without a register to take
  rest : taken ≡ None → first_allowed p units s (own_events k) ≡ find allowed behind_transfers
  rest none = parts ∙ ap (λ (o : Option ℕ). option_or (option_map (Transfer k) o) (find allowed behind_transfers)) none

  -- and without units to squash
  rest_of_drains : taken ≡ None → (refusal p units s (Squash k) ≡ None → ⊥) → first_allowed p units s (own_events k) ≡ option_or (option_map (Drain k) sent) (find allowed (Exec k ∷ []))
  rest_of_drains none squash = rest none ∙ cond-false (allowed (Squash k)) (Some (Squash k)) _ (is_there _ squash) ∙ drains

  pub finds_transfer : (r : ℕ) → taken ≡ Some r → first_allowed p units s (own_events k) ≡ Some (Transfer k r)
  finds_transfer r e = parts ∙ ap (λ (o : Option ℕ). option_or (option_map (Transfer k) o) (find allowed behind_transfers)) e

  pub finds_squash : taken ≡ None → refusal p units s (Squash k) ≡ None → first_allowed p units s (own_events k) ≡ Some (Squash k)
  finds_squash none e = rest none ∙ cond-true (allowed (Squash k)) (Some (Squash k)) _ (ap is_none e)

  pub finds_drain : (r : ℕ) → taken ≡ None → (refusal p units s (Squash k) ≡ None → ⊥) → sent ≡ Some r → first_allowed p units s (own_events k) ≡ Some (Drain k r)
  finds_drain r none squash e =
      rest_of_drains none squash ∙ ap (λ (o : Option ℕ). option_or (option_map (Drain k) o) (find allowed (Exec k ∷ []))) e

  pub finds_exec : taken ≡ None → (refusal p units s (Squash k) ≡ None → ⊥) → sent ≡ None → refusal p units s (Exec k) ≡ None → first_allowed p units s (own_events k) ≡ Some (Exec k)
  finds_exec none squash unsent e =
      rest_of_drains none squash
      ∙ ap (λ (o : Option ℕ). option_or (option_map (Drain k) o) (find allowed (Exec k ∷ []))) unsent
      ∙ cond-true (allowed (Exec k)) (Some (Exec k)) None (ap is_none e)

  pub finds_nothing : taken ≡ None → (refusal p units s (Squash k) ≡ None → ⊥) → sent ≡ None → (refusal p units s (Exec k) ≡ None → ⊥) → first_allowed p units s (own_events k) ≡ None
  finds_nothing none squash unsent exec =
      rest_of_drains none squash
      ∙ ap (λ (o : Option ℕ). option_or (option_map (Drain k) o) (find allowed (Exec k ∷ []))) unsent
      ∙ cond-false (allowed (Exec k)) (Some (Exec k)) None (is_there _ exec)

-- An Exec that nothing refuses to a unit ahead of the head needs nothing but registers and read-only data.

alone : (p : Listing) (o : Option Active) → for_some o NoSuch (λ u. exec_refusal p false u) ≡ None → (u : Active) × (o ≡ Some u) × (exec_refusal p false u ≡ None)
alone p None e = absurd (cc)
alone p (Some u) e = (u, refl, e)

pub runs_ahead : (p : Listing) (units : ℕ) (s : State) (k : ℕ) → 0 < k → refusal p units s (Exec k) ≡ None → (u : Active) × (slice_get s.queue k ≡ Some u) × (exec_refusal p false u ≡ None)
runs_ahead p units s k ahead e =
    alone p (slice_get s.queue k) (subst (λ (b : Bool). for_some (slice_get s.queue k) NoSuch (λ u. exec_refusal p b u) ≡ None) (ne_eqb k 0 (λ zero. omega arith)) e)
