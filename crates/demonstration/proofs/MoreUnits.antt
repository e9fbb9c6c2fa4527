-- Where a unit is free when a task is to begin, a round is the same on more units.
use Rattle.demonstration.proofs.Imports.{◌≡◌, ℕ, zero, suc, ◌+◌, ◌<◌, ◌≤◌, Bool, true, false, if◌then◌else◌, is_ok, Option, Some, None, List, [], ◌∷◌, ◌++◌, length, slice_get, fold, last_or, range_with_len, option_or, nat_lt, refl, sym, ap, ◌∙◌, arith, cond-false, lt-ltb, le-ltb, Listing, is_running, most_events, ok_unless, unless, follows, Event, Assign, Exec, Transfer, Drain, Squash, Retire, Fault, Drop, Refused, begun, first_begins, guess_tried, has_open_tail, is_allowed, next_place, register_tried, registers, round, state_after, tried, unit_tried, units_tried}
use Rattle.machine_model.specs.declared.event.Refused.TheVariants as refused

-- an event that assigns no task
abbrev IsNoAssign : Event → Type 0
IsNoAssign (Assign t) = ⊥
IsNoAssign _ = Unit {0}

fold_same : (f g : List Event → ℕ → List Event) → ((run : List Event) (k : ℕ) → f run k ≡ g run k) → (run : List Event) (ks : List ℕ) → fold f run ks ≡ fold g run ks
fold_same f g same run [] = refl
fold_same f g same run (k ∷ ks) = ap (λ (next : List Event). fold f next ks) (same run k) ∙ fold_same f g same (g run k) ks

module _ (p : Listing) (units more : ℕ) where
  allowed_same : (run : List Event) (e : Event) → IsNoAssign e → is_allowed p more run e ≡ is_allowed p units run e
  unfolding is_allowed
  allowed_same run (Assign t) never = absurd never
  allowed_same run (Exec k) none_of = refl
  allowed_same run (Transfer zero r) none_of = refl
  allowed_same run (Transfer (suc k) r) none_of = refl
  allowed_same run (Drain k r) none_of = refl
  allowed_same run (Squash k) none_of = refl
  allowed_same run Retire none_of = refl
  allowed_same run Fault none_of = refl
  allowed_same run (Drop k) none_of = refl

  -- one after another, from runs that are the same
  then_same : (run run' : List Event) (e : Event) → IsNoAssign e → run ≡ run' → tried p more run e ≡ tried p units run' e
  unfolding tried
  then_same run run' e none_of same = λ j. if allowed_same (same j) e none_of j then same j ++ e ∷ [] else same j

  register_same : (k : ℕ) (run : List Event) (r : ℕ) → register_tried p more k run r ≡ register_tried p units k run r
  unfolding register_tried
  register_same k run r = then_same _ _ (Drain k r) tt (then_same run run (Transfer k r) tt refl)

  unit_same : (run : List Event) (k : ℕ) → unit_tried p more run k ≡ unit_tried p units run k
  unfolding unit_tried
  unit_same run k = then_same _ _ (Exec k) tt
      (fold_same (register_tried p more k) (register_tried p units k) (register_same k) (tried p more run (Squash k)) registers
      ∙ ap (λ (next : List Event). fold (register_tried p units k) next registers) (then_same run run (Squash k) tt refl))

  pub same_round : (guesses : List ℕ) (run : List Event)
      → begun p more guesses (units_tried p units (tried p units (tried p units run Retire) Fault)) ≡ begun p units guesses (units_tried p units (tried p units (tried p units run Retire) Fault))
      → round p more guesses run ≡ round p units guesses run
  unfolding round
  same_round guesses run same =
      let first : tried p more (tried p more run Retire) Fault ≡ tried p units (tried p units run Retire) Fault =
      then_same _ _ Fault tt (then_same run run Retire tt refl) in
      ap (begun p more guesses)
      (ap (units_tried p more) first
      ∙ fold_same (unit_tried p more) (unit_tried p units) unit_same (tried p units (tried p units run Retire) Fault)
      (range_with_len 0 (length (state_after p (tried p units (tried p units run Retire) Fault)).queue)))
      ∙ same

-- where a unit is free a task may begin or not for the same reasons, and where none is, none may

abbrev may_begin : Listing → (run : List Event) → (task : ℕ) → (free : Bool) → Bool
may_begin p run task free =
    is_ok (ok_unless (unless (is_running (state_after p run).outcome) refused.Ended (option_or
    (unless free refused.NoUnit (
    unless (nat_lt task (length p.tasks)) refused.NoSuch (
    unless (follows p (state_after p run).next task (last_or None (state_after p run).queue)) refused.NotATarget None)))
    (unless (nat_lt (length run) most_events) refused.Full None))))

may_begin_is : (p : Listing) (units : ℕ) (run : List Event) (task : ℕ) → is_allowed p units run (Assign task) ≡ may_begin p run task (nat_lt (length (state_after p run).queue) units)
unfolding is_allowed
may_begin_is p units run task = refl

none_may : (runs : Bool) (rest : Option Refused) → is_ok (ok_unless (unless runs refused.Ended (option_or (Some refused.NoUnit) rest))) ≡ false
none_may true rest = refl
none_may false rest = refl

chosen_same : (c : Bool) (a b run : List Event) → a ≡ run → b ≡ run → (if c then a else b) ≡ run
chosen_same true a b run if_so if_not = if_so
chosen_same false a b run if_so if_not = if_not

module _ (p : Listing) (units : ℕ) (guesses : List ℕ) (run : List Event) (full : units ≤ length (state_after p run).queue) where
  not_begun : (task : ℕ) → is_allowed p units run (Assign task) ≡ false
  not_begun task =
      may_begin_is p units run task
      ∙ ap (may_begin p run task) (le-ltb (length (state_after p run).queue) units full)
      ∙ none_may (is_running (state_after p run).outcome) (unless (nat_lt (length run) most_events) refused.Full None)

  none_first : (task left : ℕ) → first_begins p units run task left ≡ run
  unfolding first_begins
  none_first task zero = refl
  none_first task (suc left) = cond-false _ _ _ (not_begun task) ∙ none_first (task + 1) left

  none_guessed : (guess : Option ℕ) → guess_tried p units run guess ≡ run
  unfolding tried
  none_guessed None = refl
  none_guessed (Some task) = cond-false _ _ _ (not_begun task)

  pub none_begins : begun p units guesses run ≡ run
  unfolding begun
  none_begins = chosen_same (has_open_tail (state_after p run)) _ _ run (none_guessed _) (none_first 0 (length p.tasks))

module _ (p : Listing) (units more : ℕ) (guesses : List ℕ) (run : List Event) (free : length (state_after p run).queue < units) (few : units ≤ more) where
  may_same : (task : ℕ) → is_allowed p more run (Assign task) ≡ is_allowed p units run (Assign task)
  may_same task =
      may_begin_is p more run task
      ∙ ap (may_begin p run task) (lt-ltb (length (state_after p run).queue) more (omega arith) ∙ sym (lt-ltb (length (state_after p run).queue) units free))
      ∙ sym (may_begin_is p units run task)

  assign_same : (task : ℕ) → tried p more run (Assign task) ≡ tried p units run (Assign task)
  unfolding tried
  assign_same task = ap (λ (may : Bool). if may then run ++ Assign task ∷ [] else run) (may_same task)

  first_same : (task left : ℕ) → first_begins p more run task left ≡ first_begins p units run task left
  unfolding first_begins
  first_same task zero = refl
  first_same task (suc left) = λ j. if may_same task j then assign_same task j else first_same (task + 1) left j

  guess_same : (guess : Option ℕ) → guess_tried p more run guess ≡ guess_tried p units run guess
  guess_same None = refl
  guess_same (Some task) = assign_same task

  pub same_begun : begun p more guesses run ≡ begun p units guesses run
  unfolding begun
  same_begun = λ j.
      if has_open_tail (state_after p run)
      then guess_same (slice_get guesses (next_place (state_after p run))) j
      else first_same 0 (length p.tasks) j
