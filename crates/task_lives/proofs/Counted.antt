-- The sums over lives.
use Rattle.std.proofs.Common.{◌≡◌, ℕ, zero, suc, ◌+◌, ◌-◌, ◌<◌, ◌≤◌, Bool, cond, List, [], ◌∷◌, map, length, Some, None, refl, sym, ap, ◌∙◌, subst, arith, eq-eqb}
use Rattle.std.specs.Prelude.{nat_eq}
use Rattle.std.specs.List.{sum_by, count_by}
use Rattle.std.proofs.lemmas.Bool.{le-ltb, lt-ltb, ne_eqb}
use Rattle.std.proofs.lemmas.List.{length-map, append-nil}
use Rattle.std.proofs.lemmas.List.Sums.{count_by-le-length, sum_by-cons}
use Rattle.task_descriptor.specs.Listing.{Listing}
use Rattle.machine_model.specs.Machine.{State, opening}
use Rattle.machine_model.specs.Replay.{ReplaysFrom, Replays}
use Rattle.machine_model.specs.Answer.{most_events}
use Rattle.machine_model.specs.Laws.{EventsCount}
use Rattle.machine_model.specs.HeadEvent.{retired_after}
use Rattle.machine_model.specs.declared.event.Commit.{Commit}
use Rattle.machine_model.specs.declared.event.Event.{Event}
use Rattle.machine_model.specs.declared.event.Event.TheVariants.{Assign, Exec, Transfer, Drain, Squash, Retire, Fault, Drop}
use Rattle.task_lives.specs.declared.life.Ending.{Ending}
use Rattle.task_lives.specs.declared.life.Ending.TheVariants.{Retired, Squashed, Dropped, Unfinished}
use Rattle.task_lives.specs.declared.life.Life.{Life}
use Rattle.task_lives.specs.Lives.{position_after, executed_at, Course, course, life_of, lives_from, lives_of, AllFit}
use Rattle.task_lives.specs.Sums.{is_retired, is_squashed, is_dropped, is_unfinished, ended, number_ended, is_assign, is_exec, is_retire, Work, work_of_life, work_of_commit, work_of_unit, AddUp, AreFew}
use Rattle.task_lives.proofs.Carrying.{course_on, course_ends}
use Rattle.task_lives.proofs.Ledgers.{at_work, retired_work, becomes}
use Rattle.task_lives.proofs.Totals.{kept_by}

-- each Assign begins a life

assigns_from : (u r a n : ℕ) (es : List Event) → length (lives_from u r a n es) ≡ count_by is_assign es
assigns_from u r a n [] = refl
assigns_from u r a n (Assign t ∷ es) =
    let rest = assigns_from u r (suc a) (suc n) es in
    let more = sum_by-cons (λ (e : Event). cond (is_assign e) 1 0) (Assign t) es in
    omega (arith, rest, more)
assigns_from u r a n (Exec k ∷ es) = assigns_from u r a (suc n) es
assigns_from u r a n (Transfer k q ∷ es) = assigns_from u r a (suc n) es
assigns_from u r a n (Drain k q ∷ es) = assigns_from u r a (suc n) es
assigns_from u r a n (Squash k ∷ es) = assigns_from u r (suc k) (suc n) es
assigns_from u r a n (Retire ∷ es) = assigns_from u (suc r) (a - 1) (suc n) es
assigns_from u r a n (Fault ∷ es) = assigns_from u r a (suc n) es
assigns_from u r a n (Drop k ∷ es) = assigns_from u r k (suc n) es

-- each life has one of four endings

one_of_four : (o : Ending) (life : Life) (a b c d : List Life) (n : ℕ) → n ≡ length a + length b + length c + length d
    → suc n ≡ length (cond (is_retired o) (life ∷ a) a) + length (cond (is_squashed o) (life ∷ b) b) + length (cond (is_dropped o) (life ∷ c) c) + length (cond (is_unfinished o) (life ∷ d) d)
one_of_four Retired life a b c d n is = omega arith
one_of_four Squashed life a b c d n is = omega arith
one_of_four Dropped life a b c d n is = omega arith
one_of_four Unfinished life a b c d n is = omega arith

endings_of : (lives : List Life) → length lives ≡ number_ended is_retired lives + number_ended is_squashed lives + number_ended is_dropped lives + number_ended is_unfinished lives
endings_of [] = refl
endings_of (life ∷ lives) =
    one_of_four life.ending life (ended is_retired lives) (ended is_squashed lives) (ended is_dropped lives) (ended is_unfinished lives) (length lives) (endings_of lives)

-- how many tasks retire

more_retired : (r : ℕ) (e : Event) (es : List Event) → r + count_by is_retire (e ∷ es) ≡ retired_after r e + count_by is_retire es
more_retired r Retire es =
    let more = sum_by-cons (λ (e : Event). cond (is_retire e) 1 0) Retire es in
    omega (arith, more)
more_retired r (Assign t) es = refl
more_retired r (Exec k) es = refl
more_retired r (Transfer k q) es = refl
more_retired r (Drain k q) es = refl
more_retired r (Squash k) es = refl
more_retired r Fault es = refl
more_retired r (Drop k) es = refl

retires_from : EventsCount → (p : Listing) (units : ℕ) (es : List Event) (s s' : State) → ReplaysFrom p units s es s' → length s.commits + count_by is_retire es ≡ length s'.commits
retires_from count p units [] s s' h =
    let same : length s'.commits ≡ length s.commits = ap (λ (x : State). length x.commits) h in
    omega arith
retires_from count p units (e ∷ es) s s' h =
    more_retired (length s.commits) e es
    ∙ ap (λ (r : ℕ). r + count_by is_retire es) (sym (count p units s h.0 e h.1).0)
    ∙ retires_from count p units es h.0 s' h.2

-- the events of a machine fit

fit_from : EventsCount → (p : Listing) (units : ℕ) (es : List Event) (s s' : State) → ReplaysFrom p units s es s' → AllFit (length s.queue) es
fit_from count p units [] s s' h = tt
fit_from count p units (e ∷ es) s s' h = (
  (becomes p units s h.0 e h.1).fits,
  subst (λ (a : ℕ). AllFit a es) (count p units s h.0 e h.1).1 (fit_from count p units es h.0 s' h.2),
)

pub histories_fit : EventsCount → (p : Listing) (units : ℕ) (history : List Event) (s : State) → Replays p units history s → AllFit 0 history
histories_fit count p units history s h = fit_from count p units history (opening p) s h

-- how many instructions the units at this many positions execute, the first at position k

abbrev totals : (k n : ℕ) → List Event → ℕ
totals k zero es = 0
totals k (suc n) es = (course k es).executed + totals (suc k) n es

executed_on : (k j : ℕ) (e : Event) (es : List Event) → position_after k e ≡ Some j → executed_at k e ≡ 0 → (course k (e ∷ es)).executed ≡ (course j es).executed
executed_on k j e es is none =
    let on : (course k (e ∷ es)).executed ≡ executed_at k e + (course j es).executed = ap (λ (c : Course). c.executed) (course_on k j e es is) in
    omega arith

executed_last : (k : ℕ) (e : Event) (es : List Event) → position_after k e ≡ None → (course k (e ∷ es)).executed ≡ 0
executed_last k e es is = ap (λ (c : Course). c.executed) (course_ends k e es is)

totals_past : (e : Event) → ((i : ℕ) → position_after i e ≡ Some i) → ((i : ℕ) → executed_at i e ≡ 0) → (k n : ℕ) (es : List Event) → totals k n (e ∷ es) ≡ totals k n es
totals_past e stays none k zero es = refl
totals_past e stays none k (suc n) es =
    let here = executed_on k k e es (stays k) (none k) in
    let rest = totals_past e stays none (suc k) n es in
    λ i. here i + rest i

totals_nearer : (k n : ℕ) (es : List Event) → totals (suc k) n (Retire ∷ es) ≡ totals k n es
totals_nearer k zero es = refl
totals_nearer k (suc n) es =
    let here = executed_on (suc k) k Retire es refl refl in
    let rest = totals_nearer (suc k) n es in
    λ i. here i + rest i

totals_retire : (n : ℕ) (es : List Event) → totals 0 n (Retire ∷ es) ≡ totals 0 (n - 1) es
totals_retire zero es = refl
totals_retire (suc n) es =
    let rest = totals_nearer 0 n es in
    let none : 0 + totals 1 n (Retire ∷ es) ≡ totals 0 n es = omega (arith, rest) in
    none ∙ ap (λ (m : ℕ). totals 0 m es) (let same : n ≡ suc n - 1 = omega arith in same)

totals_before : (k n j : ℕ) (es : List Event) → j < k → totals k n (Exec j ∷ es) ≡ totals k n es
totals_before k zero j es before = refl
totals_before k (suc n) j es before =
    let apart : j ≡ k → ⊥ = λ e. absurd (omega arith) in
    let here : cond (nat_eq j k) 1 0 + (course k es).executed ≡ (course k es).executed =
    ap (λ (b : Bool). cond b 1 0 + (course k es).executed) (ne_eqb j k apart) ∙ (let same : 0 + (course k es).executed ≡ (course k es).executed = omega arith in same) in
    let rest = totals_before (suc k) n j es (omega arith) in
    λ i. here i + rest i

totals_exec : (k i n j : ℕ) (es : List Event) → j ≡ k + i → i < n → totals k n (Exec j ∷ es) ≡ 1 + totals k n es
totals_exec k i zero j es is within = absurd (omega arith)
totals_exec k zero (suc n) j es is within =
    let at : j ≡ k = omega arith in
    let here : ◌≡◌ {A = ℕ} (cond (nat_eq j k) 1 0) 1 = ap (λ (b : Bool). cond b 1 0) (eq-eqb j k at) in
    let rest = totals_before (suc k) n j es (omega arith) in
    omega (arith, here, rest)
totals_exec k (suc i) (suc n) j es is within =
    let apart : j ≡ k → ⊥ = λ e. absurd (omega arith) in
    let here : ◌≡◌ {A = ℕ} (cond (nat_eq j k) 1 0) 0 = ap (λ (b : Bool). cond b 1 0) (ne_eqb j k apart) in
    let rest = totals_exec (suc k) i n j es (omega arith) (omega arith) in
    omega (arith, here, rest)

module _ (e : Event) (limit : ℕ) (stays : (i : ℕ) → i < limit → position_after i e ≡ Some i) (goes : (i : ℕ) → limit ≤ i → position_after i e ≡ None) (none : (i : ℕ) → executed_at i e ≡ 0) where
  totals_gone : (k n : ℕ) (es : List Event) → limit ≤ k → totals k n (e ∷ es) ≡ 0
  totals_gone k zero es behind = refl
  totals_gone k (suc n) es behind =
      let here = executed_last k e es (goes k behind) in
      let rest = totals_gone (suc k) n es (omega arith) in
      omega (arith, here, rest)

  totals_cut : (k m n : ℕ) (es : List Event) → limit ≡ k + m → m ≤ n → totals k n (e ∷ es) ≡ totals k m es
  totals_cut k zero n es is within = totals_gone k n es (omega arith)
  totals_cut k (suc m) zero es is within = absurd (omega arith)
  totals_cut k (suc m) (suc n) es is within =
      let here = executed_on k k e es (stays k (omega arith)) (none k) in
      let rest = totals_cut (suc k) m n es (omega arith) (omega arith) in
      λ i. here i + rest i

totals_squash : (j n : ℕ) (es : List Event) → j < n → totals 0 n (Squash j ∷ es) ≡ totals 0 (suc j) es
totals_squash j n es within =
    totals_cut (Squash j) (suc j)
    (λ i before. ap (λ (b : Bool). cond b None (Some i)) (le-ltb j i (omega arith)))
    (λ i behind. ap (λ (b : Bool). cond b None (Some i)) (lt-ltb j i (omega arith)))
    (λ i. refl) 0 (suc j) n es (omega arith) (omega arith)

totals_drop : (j n : ℕ) (es : List Event) → j ≤ n → totals 0 n (Drop j ∷ es) ≡ totals 0 j es
totals_drop j n es within =
    totals_cut (Drop j) j
    (λ i before. ap (λ (b : Bool). cond b (Some i) None) (lt-ltb i j before))
    (λ i behind. ap (λ (b : Bool). cond b (Some i) None) (le-ltb i j behind))
    (λ i. refl) 0 j n es (omega arith) within

totals_push : (k n : ℕ) (es : List Event) → totals k (suc n) es ≡ totals k n es + (course (k + n) es).executed
totals_push k zero es =
    let here : (course k es).executed ≡ (course (k + 0) es).executed = ap (λ (j : ℕ). (course j es).executed) (let same : k ≡ k + 0 = omega arith in same) in
    omega (arith, here)
totals_push k (suc n) es =
    let rest = totals_push (suc k) n es in
    let here : (course (suc k + n) es).executed ≡ (course (k + suc n) es).executed = ap (λ (j : ℕ). (course j es).executed) (let same : suc k + n ≡ k + suc n = omega arith in same) in
    omega (arith, rest, here)

totals_end : (k n : ℕ) → totals k n [] ≡ 0
totals_end k zero = refl
totals_end k (suc n) = let rest = totals_end (suc k) n in omega (arith, rest)

-- all instructions

abbrev executed_by : List Life → ℕ
executed_by lives = sum_by (λ life. life.executed) lives

joined : (a b x y : ℕ) → a ≡ b → b + x ≡ y → a + x ≡ y
joined a b x y e h = omega arith

executed_from : (u r a n : ℕ) (es : List Event) → AllFit a es → totals 0 a es + executed_by (lives_from u r a n es) ≡ count_by is_exec es
executed_from u r a n [] fit = let none = totals_end 0 a in omega (arith, none)
executed_from u r a n (Assign t ∷ es) fit =
    let life = life_of u r a n t (course a es) in
    let lives = lives_from u r (suc a) (suc n) es in
    let past = totals_past (Assign t) (λ i. refl) (λ i. refl) 0 a es in
    let push = totals_push 0 a es in
    let place : (course (0 + a) es).executed ≡ (course a es).executed = ap (λ (j : ℕ). (course j es).executed) (let same : 0 + a ≡ a = omega arith in same) in
    let more : executed_by (life ∷ lives) ≡ (course a es).executed + executed_by lives = sum_by-cons (λ (l : Life). l.executed) life lives in
    let rest = executed_from u r (suc a) (suc n) es fit.1 in
    omega (arith, past, push, place, more, rest)
executed_from u r a n (Exec k ∷ es) fit =
    let here = totals_exec 0 k a k es (omega arith) fit.0 in
    let rest = executed_from u r a (suc n) es fit.1 in
    let more = sum_by-cons (λ (e : Event). cond (is_exec e) 1 0) (Exec k) es in
    omega (arith, here, rest, more)
executed_from u r a n (Transfer k q ∷ es) fit =
    joined _ _ _ _ (totals_past (Transfer k q) (λ i. refl) (λ i. refl) 0 a es) (executed_from u r a (suc n) es fit.1)
executed_from u r a n (Drain k q ∷ es) fit =
    joined _ _ _ _ (totals_past (Drain k q) (λ i. refl) (λ i. refl) 0 a es) (executed_from u r a (suc n) es fit.1)
executed_from u r a n (Squash k ∷ es) fit =
    joined _ _ _ _ (totals_squash k a es fit.0) (executed_from u r (suc k) (suc n) es fit.1)
executed_from u r a n (Retire ∷ es) fit =
    joined _ _ _ _ (totals_retire a es) (executed_from u (suc r) (a - 1) (suc n) es fit.1)
executed_from u r a n (Fault ∷ es) fit =
    joined _ _ _ _ (totals_past Fault (λ i. refl) (λ i. refl) 0 a es) (executed_from u r a (suc n) es fit.1)
executed_from u r a n (Drop k ∷ es) fit =
    joined _ _ _ _ (totals_drop k a es fit.0) (executed_from u r k (suc n) es fit.1)

-- no more lives than events, and no more instructions
pub lives_are_few : (units : ℕ) (history : List Event) → AllFit 0 history → length history ≤ most_events → AreFew (lives_of units history)
lives_are_few units history fit room =
    let lives : length (lives_of units history) ≡ count_by is_assign history = assigns_from units 0 0 0 history in
    let all : 0 + executed_by (lives_of units history) ≡ count_by is_exec history = executed_from units 0 0 0 history fit in
    let assigns = count_by-le-length is_assign history in
    let execs = count_by-le-length is_exec history in
    ((omega (arith, lives, assigns, room)), (omega (arith, all, execs, room)))

-- what retired, in numbers

sum_of_works : (lives : List Life) → sum_by (λ life. life.executed) lives ≡ sum_by (λ work. work.executed) (map work_of_life lives)
sum_of_works [] = refl
sum_of_works (life ∷ lives) =
    let rest = sum_of_works lives in
    let one = sum_by-cons (λ (l : Life). l.executed) life lives in
    let two = sum_by-cons (λ (w : Work). w.executed) (work_of_life life) (map work_of_life lives) in
    omega (arith, rest, one, two)

sum_of_commits : (commits : List Commit) → sum_by (λ commit. commit.count) commits ≡ sum_by (λ work. work.executed) (map work_of_commit commits)
sum_of_commits [] = refl
sum_of_commits (commit ∷ commits) =
    let rest = sum_of_commits commits in
    let one = sum_by-cons (λ (c : Commit). c.count) commit commits in
    let two = sum_by-cons (λ (w : Work). w.executed) (work_of_commit commit) (map work_of_commit commits) in
    omega (arith, rest, one, two)

-- all of it
pub lives_add_up : EventsCount → (p : Listing) (units : ℕ) (history : List Event) (s : State) → Replays p units history s → AddUp history s (lives_of units history)
lives_add_up count p units history s h =
    let lives = lives_of units history in
    let retired : map work_of_life (ended is_retired lives) ≡ retired_work s =
    kept_by is_retired refl refl count p units history 0 (opening p) s h ∙ append-nil (retired_work s) in
    let unfinished : map work_of_life (ended is_unfinished lives) ≡ at_work s =
    kept_by is_unfinished refl refl count p units history 0 (opening p) s h in
    let number : number_ended is_retired lives ≡ length s.commits =
    sym (length-map (ended is_retired lives) work_of_life) ∙ ap length retired ∙ length-map s.commits work_of_commit in
    let working : number_ended is_unfinished lives ≡ length s.queue =
    sym (length-map (ended is_unfinished lives) work_of_life) ∙ ap length unfinished ∙ length-map s.queue work_of_unit in
    let retires = retires_from count p units history (opening p) s h in
    record {
      assigns = assigns_from units 0 0 0 history;
      endings = endings_of lives;
      retired = retired;
      retires = (let same : 0 + count_by is_retire history ≡ length s.commits = retires in omega (arith, number, same));
      unfinished = unfinished;
      active = working;
      count =
          sum_of_works (ended is_retired lives)
          ∙ ap (λ (ws : List Work). sum_by (λ work. work.executed) ws) retired
          ∙ sym (sum_of_commits s.commits);
      executed =
          (let all : 0 + sum_by (λ life. life.executed) lives ≡ count_by is_exec history = executed_from units 0 0 0 history (histories_fit count p units history s h) in
          omega (arith, all));
    }
