-- What a round tries, one event after another, and how the rounds end.
use Rattle.demonstration.proofs.Imports.{Some, None, slice_get, begun, guess_tried, has_open_tail, next_place, state_after, ◌≡◌, ℕ, zero, suc, ◌+◌, ◌-◌, ◌<◌, ◌≤◌, true, false, List, [], ◌∷◌, length, fold, range_with_len, refl, sym, ap, ◌∙◌, arith, add-one, cond-true, cond-false, lt-ltb, le-ltb, Listing, Event, Assign, Exec, Transfer, Drain, Squash, first_begins, is_allowed, register_tried, registers, round, rounds, tried, unit_tried}

-- the events of each register and of each unit

range_more : (f : List Event → ℕ → List Event) (run : List Event) (from n last : ℕ) → last ≡ from + n → fold f run (range_with_len from (suc n)) ≡ f (fold f run (range_with_len from n)) last
range_more f run from zero last is = ap (f run) (let same : from ≡ last = omega (arith, is) in same)
range_more f run from (suc n) last is = range_more f (f run from) (from + 1) n last (omega (arith, is))

one_more : (f : List Event → ℕ → List Event) (run : List Event) (n : ℕ) → f (fold f run (range_with_len 0 n)) n ≡ fold f run (range_with_len 0 (n + 1))
one_more f run n = sym (range_more f run 0 n n (omega arith)) ∙ ap (λ (m : ℕ). fold f run (range_with_len 0 m)) (sym (add-one n))

module _ (p : Listing) (units : ℕ) (run : List Event) where
  pub one_more_register : (k n : ℕ) → tried p units (tried p units (fold (register_tried p units k) run (range_with_len 0 n)) (Transfer k n)) (Drain k n) ≡ fold (register_tried p units k) run (range_with_len 0 (n + 1))
  unfolding register_tried
  one_more_register k n = one_more (register_tried p units k) run n

  pub all_registers : (k n : ℕ) → n ≡ 34 → fold (register_tried p units k) run (range_with_len 0 n) ≡ fold (register_tried p units k) run registers
  unfolding registers
  all_registers k n all = ap (λ (m : ℕ). fold (register_tried p units k) run (range_with_len 0 m)) all

  pub one_more_unit : (n : ℕ) → tried p units (fold (register_tried p units n) (tried p units (fold (unit_tried p units) run (range_with_len 0 n)) (Squash n)) registers) (Exec n) ≡ fold (unit_tried p units) run (range_with_len 0 (n + 1))
  unfolding unit_tried
  one_more_unit n = one_more (unit_tried p units) run n

  -- the first task that may begin

  pub not_tried : (e : Event) → is_allowed p units run e ≡ false → tried p units run e ≡ run
  unfolding tried
  not_tried e never = cond-false _ _ _ never

  pub first_now : (task left : ℕ) → 0 < left → is_allowed p units run (Assign task) ≡ true → first_begins p units run task left ≡ tried p units run (Assign task)
  unfolding first_begins
  first_now task zero some may = absurd (omega arith)
  first_now task (suc left) some may = cond-true _ _ _ may

  pub first_later : (task left rest : ℕ) → left ≡ suc rest → is_allowed p units run (Assign task) ≡ false → first_begins p units run task left ≡ first_begins p units run (task + 1) rest
  unfolding first_begins
  first_later task left rest is never = ap (first_begins p units run task) is ∙ cond-false _ _ _ never

  pub first_of_none : (task left : ℕ) → left ≡ 0 → first_begins p units run task left ≡ run
  unfolding first_begins
  first_of_none task left none = ap (first_begins p units run task) none

-- the rounds

module _ (p : Listing) (units : ℕ) (guesses : List ℕ) (steps : ℕ) (run : List Event) where
  full_at : (n : ℕ) → steps ≤ length run → rounds p units guesses steps n run ≡ run
  unfolding rounds
  full_at zero full = refl
  full_at (suc n) full = cond-false _ _ _ (le-ltb (length run) steps full)

  still_at : (n : ℕ) → 0 < n → length run < steps → length (round p units guesses run) ≤ length run → rounds p units guesses steps n run ≡ round p units guesses run
  unfolding rounds
  still_at zero some room still = absurd (omega arith)
  still_at (suc n) some room still = cond-true _ _ _ (lt-ltb (length run) steps room) ∙ cond-false _ _ _ (le-ltb (length run) (length (round p units guesses run)) still)

  on_at : (n left : ℕ) → n ≡ suc left → length run < steps → length run < length (round p units guesses run) → rounds p units guesses steps n run ≡ rounds p units guesses steps left (round p units guesses run)
  unfolding rounds
  on_at n left is room more =
      ap (λ (k : ℕ). rounds p units guesses steps k run) is ∙ cond-true _ _ _ (lt-ltb (length run) steps room) ∙ cond-true _ _ _ (lt-ltb (length run) (length (round p units guesses run)) more)

  none_at : (n : ℕ) → n ≡ 0 → rounds p units guesses steps n run ≡ run
  unfolding rounds
  none_at n none = ap (λ (k : ℕ). rounds p units guesses steps k run) none

  -- after `made` of them
  pub ends_full : (made : ℕ) → steps ≤ length run → rounds p units guesses steps (steps - made) run ≡ run
  ends_full made full = full_at (steps - made) full

  pub ends_still : (made : ℕ) → made < steps → length run < steps → length (round p units guesses run) ≤ length run → rounds p units guesses steps (steps - made) run ≡ round p units guesses run
  ends_still made few room still = still_at (steps - made) (omega arith) room still

  pub goes_on : (made : ℕ) → made < steps → length run < steps → length run < length (round p units guesses run) → rounds p units guesses steps (steps - made) run ≡ rounds p units guesses steps (steps - (made + 1)) (round p units guesses run)
  goes_on made few room more = on_at (steps - made) (steps - (made + 1)) (omega arith) room more

  pub ends_last : (made : ℕ) → steps ≤ made → rounds p units guesses steps (steps - made) run ≡ run
  ends_last made all = none_at (steps - made) (omega arith)

-- how a task begins

pub begins_known : (p : Listing) (units : ℕ) (guesses : List ℕ) (run : List Event) → has_open_tail (state_after p run) ≡ false → begun p units guesses run ≡ first_begins p units run 0 (length p.tasks)
unfolding begun
begins_known p units guesses run closed = cond-false _ _ _ closed

pub begins_guessed : (p : Listing) (units : ℕ) (guesses : List ℕ) (run : List Event) (task : ℕ) → has_open_tail (state_after p run) ≡ true → slice_get guesses (next_place (state_after p run)) ≡ Some task → begun p units guesses run ≡ tried p units run (Assign task)
unfolding begun
begins_guessed p units guesses run task is_open guess = cond-true _ _ _ is_open ∙ ap (guess_tried p units run) guess

pub begins_no_guess : (p : Listing) (units : ℕ) (guesses : List ℕ) (run : List Event) → has_open_tail (state_after p run) ≡ true → slice_get guesses (next_place (state_after p run)) ≡ None → begun p units guesses run ≡ run
unfolding begun
begins_no_guess p units guesses run is_open guess = cond-true _ _ _ is_open ∙ ap (guess_tried p units run) guess
