-- Tallies with one life more: each number grows by what the life adds, and there is room for it.
use Rattle.std.proofs.Common.{◌≡◌, ℕ, zero, suc, ◌+◌, ◌<◌, ◌≤◌, Bool, true, false, cond, List, [], ◌∷◌, ◌++◌, map, length, replicate, take, get_or, set, refl, sym, ap, ◌∙◌, subst, arith, length-append, length-take-le, append-nil, eq-eqb}
use Rattle.std.specs.Prelude.{filter, nat_eq}
use Rattle.std.specs.List.{sum_by, range_with_len}
use Rattle.std.proofs.lemmas.Bool.{ne_eqb}
use Rattle.std.proofs.lemmas.List.{take_more}
use Rattle.std.proofs.lemmas.List.Elements.{filter-append}
use Rattle.std.proofs.lemmas.List.Sums.{count_by-le-length, length-filter, sum_by-append, sum_by-cons, sum_by_more_le}
use Rattle.task_lives.specs.declared.life.Ending.{Ending}
use Rattle.task_lives.specs.declared.life.Ending.TheVariants.{Retired, Squashed, Dropped, Unfinished}
use Rattle.task_lives.specs.declared.life.Life.{Life}
use Rattle.task_lives.specs.Sums.{AreFew, is_retired, is_squashed, is_dropped, is_unfinished, ended, number_ended, instructions}
use Rattle.task_lives.specs.declared.tally.Tally.{Tally}
use Rattle.task_lives.specs.Tallies.{is_given_up, tally_of, of_task, tallies_of}
use Rattle.task_lives.specs.Counting.{with_one, with_life, with_task_life, HasRoom, HaveRoom}

abbrev executed_by : List Life → ℕ
executed_by lives = sum_by (λ life. life.executed) lives

-- one tally

one_long : (b : Bool) (life : Life) → length (cond b (life ∷ []) []) ≡ cond b 1 0
one_long true life = refl
one_long false life = refl

one_executed : (b : Bool) (life : Life) → executed_by (cond b (life ∷ []) []) ≡ cond b life.executed 0
one_executed true life =
    let more = sum_by-cons (λ (l : Life). l.executed) life [] in
    omega (arith, more)
one_executed false life = refl

number_more : (test : Ending → Bool) (lives : List Life) (life : Life) → number_ended test (lives ++ life ∷ []) ≡ number_ended test lives + cond (test life.ending) 1 0
number_more test lives life =
    ap length (filter-append (λ (l : Life). test l.ending) lives (life ∷ []))
    ∙ length-append (ended test lives) (ended test (life ∷ []))
    ∙ ap (λ (n : ℕ). length (ended test lives) + n) (one_long (test life.ending) life)

instructions_more : (test : Ending → Bool) (lives : List Life) (life : Life) → instructions test (lives ++ life ∷ []) ≡ instructions test lives + cond (test life.ending) life.executed 0
instructions_more test lives life =
    ap executed_by (filter-append (λ (l : Life). test l.ending) lives (life ∷ []))
    ∙ sum_by-append (λ (l : Life). l.executed) (ended test lives) (ended test (life ∷ []))
    ∙ ap (λ (n : ℕ). executed_by (ended test lives) + n) (one_executed (test life.ending) life)

abbrev by_numbers : Ending → (executed : ℕ) → Tally → Tally
by_numbers o n t = record {
  assigned = t.assigned + 1;
  retired = t.retired + cond (is_retired o) 1 0;
  squashed = t.squashed + cond (is_squashed o) 1 0;
  dropped = t.dropped + cond (is_dropped o) 1 0;
  unfinished = t.unfinished + cond (is_unfinished o) 1 0;
  useful = t.useful + cond (is_retired o) n 0;
  wasted = t.wasted + cond (is_given_up o) n 0;
}

none : (n : ℕ) → n + 0 ≡ n
none n = omega arith

by_ending : (o : Ending) (n : ℕ) (t : Tally) → by_numbers o n t ≡ with_one o n t
by_ending Retired n t =
    λ i. record { assigned = t.assigned + 1; retired = t.retired + 1; squashed = none t.squashed i; dropped = none t.dropped i; unfinished = none t.unfinished i; useful = t.useful + n; wasted = none t.wasted i }
by_ending Squashed n t =
    λ i. record { assigned = t.assigned + 1; retired = none t.retired i; squashed = t.squashed + 1; dropped = none t.dropped i; unfinished = none t.unfinished i; useful = none t.useful i; wasted = t.wasted + n }
by_ending Dropped n t =
    λ i. record { assigned = t.assigned + 1; retired = none t.retired i; squashed = none t.squashed i; dropped = t.dropped + 1; unfinished = none t.unfinished i; useful = none t.useful i; wasted = t.wasted + n }
by_ending Unfinished n t =
    λ i. record { assigned = t.assigned + 1; retired = none t.retired i; squashed = none t.squashed i; dropped = none t.dropped i; unfinished = t.unfinished + 1; useful = none t.useful i; wasted = none t.wasted i }

tally_more : (lives : List Life) (life : Life) → tally_of (lives ++ life ∷ []) ≡ with_life life (tally_of lives)
tally_more lives life =
    let assigned = length-append lives (life ∷ []) in
    let retired = number_more is_retired lives life in
    let squashed = number_more is_squashed lives life in
    let dropped = number_more is_dropped lives life in
    let unfinished = number_more is_unfinished lives life in
    let useful = instructions_more is_retired lives life in
    let wasted = instructions_more is_given_up lives life in
    (λ i. record { assigned = assigned i; retired = retired i; squashed = squashed i; dropped = dropped i; unfinished = unfinished i; useful = useful i; wasted = wasted i })
    ∙ by_ending life.ending life.executed (tally_of lives)

-- the tallies of tasks

one_of : (b : Bool) (lives : List Life) (life : Life) → tally_of (lives ++ cond b (life ∷ []) []) ≡ cond b (with_life life (tally_of lives)) (tally_of lives)
one_of true lives life = tally_more lives life
one_of false lives life = ap tally_of (append-nil lives)

one_task : (task : ℕ) (lives : List Life) (life : Life) → tally_of (of_task task (lives ++ life ∷ [])) ≡ cond (nat_eq life.task task) (with_life life (tally_of (of_task task lives))) (tally_of (of_task task lives))
one_task task lives life =
    ap tally_of (filter-append (λ (l : Life). nat_eq l.task task) lives (life ∷ []))
    ∙ one_of (nat_eq life.task task) (of_task task lives) life

abbrev tallies_from : (first tasks : ℕ) → List Life → List Tally
tallies_from first tasks lives = map (λ task. tally_of (of_task task lives)) (range_with_len first tasks)

all_more : (first tasks : ℕ) (lives : List Life) (life : Life) → with_task_life first life (tallies_from first tasks lives) ≡ tallies_from first tasks (lives ++ life ∷ [])
all_more first zero lives life = refl
all_more first (suc tasks) lives life =
    let here = sym (one_task first lives life) in
    let rest = all_more (first + 1) tasks lives life in
    λ i. here i ∷ rest i

no_lives : (first tasks : ℕ) → replicate tasks (tally_of []) ≡ tallies_from first tasks []
no_lives first zero = refl
no_lives first (suc tasks) =
    let rest = no_lives (first + 1) tasks in
    λ i. tally_of [] ∷ rest i

pub none_counted : (tasks : ℕ) (ts : List Tally) → ts ≡ replicate tasks (tally_of []) → ts ≡ tallies_of tasks []
none_counted tasks ts is = is ∙ no_lives 0 tasks

-- the life at a place, in a list that has it
abbrev pub no_life : Life
no_life = record { task = 0; unit = 0; first = 0; last = 0; executed = 0; ending = Retired }

-- so far in a loop

pub tally_to : (lives : List Life) (i : ℕ) (d : Life) → i < length lives → with_life (get_or lives i d) (tally_of (take i lives)) ≡ tally_of (take (i + 1) lives)
tally_to lives i d within =
    sym (tally_more (take i lives) (get_or lives i d)) ∙ ap tally_of (sym (take_more lives i d within))

pub tallies_to : (tasks : ℕ) (lives : List Life) (i : ℕ) (d : Life) → i < length lives → with_task_life 0 (get_or lives i d) (tallies_of tasks (take i lives)) ≡ tallies_of tasks (take (i + 1) lives)
tallies_to tasks lives i d within =
    all_more 0 tasks (take i lives) (get_or lives i d) ∙ ap (tallies_of tasks) (sym (take_more lives i d within))

-- room

part_few : (b : Bool) (life : Life) (part : List Life) (all : ℕ) → executed_by part ≤ all → executed_by (cond b (life ∷ part) part) ≤ life.executed + all
part_few true life part all few = let more = sum_by-cons (λ (l : Life). l.executed) life part in omega (arith, more, few)
part_few false life part all few = omega (arith, few)

filter_few : (test : Life → Bool) (lives : List Life) → executed_by (filter test lives) ≤ executed_by lives
filter_few test [] = omega arith
filter_few test (life ∷ lives) =
    let more = sum_by-cons (λ (l : Life). l.executed) life lives in
    let part = part_few (test life) life (filter test lives) (executed_by lives) (filter_few test lives) in
    omega (arith, more, part)

filter_short : (test : Life → Bool) (lives : List Life) → length (filter test lives) ≤ length lives
filter_short test lives =
    let same = length-filter test lives in
    let few = count_by-le-length test lives in
    omega (arith, same, few)

room_in : (lives : List Life) (life : Life) → length lives + 1 ≤ 1000000 → executed_by lives + life.executed ≤ 1000000 → HasRoom life (tally_of lives)
room_in lives life short few =
    let retired = filter_short (λ (l : Life). is_retired l.ending) lives in
    let squashed = filter_short (λ (l : Life). is_squashed l.ending) lives in
    let dropped = filter_short (λ (l : Life). is_dropped l.ending) lives in
    let unfinished = filter_short (λ (l : Life). is_unfinished l.ending) lives in
    let useful = filter_few (λ (l : Life). is_retired l.ending) lives in
    let wasted = filter_few (λ (l : Life). is_given_up l.ending) lives in
    record {
      assigned = omega (arith, short);
      retired = omega (arith, short, retired);
      squashed = omega (arith, short, squashed);
      dropped = omega (arith, short, dropped);
      unfinished = omega (arith, short, unfinished);
      useful = omega (arith, few, useful);
      wasted = omega (arith, few, wasted);
    }

rooms_in : (first tasks : ℕ) (lives : List Life) (life : Life) → length lives + 1 ≤ 1000000 → executed_by lives + life.executed ≤ 1000000 → HaveRoom life (tallies_from first tasks lives)
rooms_in first zero lives life short few = tt
rooms_in first (suc tasks) lives life short few =
    let shorter = filter_short (λ (l : Life). nat_eq l.task first) lives in
    let fewer = filter_few (λ (l : Life). nat_eq l.task first) lives in
    (room_in (of_task first lives) life (omega (arith, short, shorter)) (omega (arith, few, fewer)), rooms_in (first + 1) tasks lives life short few)

short_to : (lives : List Life) (i : ℕ) → AreFew lives → i < length lives → length (take i lives) + 1 ≤ 1000000
short_to lives i h within =
    let long = length-take-le i lives (omega (arith, within)) in
    omega (arith, long, within, h.0)

few_to : (lives : List Life) (i : ℕ) (d : Life) → AreFew lives → i < length lives → executed_by (take i lives) + (get_or lives i d).executed ≤ 1000000
few_to lives i d h within =
    let more = sum_by_more_le (λ (l : Life). l.executed) lives i d within in
    omega (arith, more, h.1)

pub room_to : (lives : List Life) (i : ℕ) (d : Life) → AreFew lives → i < length lives → HasRoom (get_or lives i d) (tally_of (take i lives))
room_to lives i d h within = room_in (take i lives) (get_or lives i d) (short_to lives i h within) (few_to lives i d h within)

pub rooms_to : (tasks : ℕ) (lives : List Life) (i : ℕ) (d : Life) → AreFew lives → i < length lives → HaveRoom (get_or lives i d) (tallies_of tasks (take i lives))
rooms_to tasks lives i d h within = rooms_in 0 tasks (take i lives) (get_or lives i d) (short_to lives i h within) (few_to lives i d h within)

-- the tally of a task among those of tasks

abbrev counted_in : Bool → Life → Tally → Tally
counted_in b life t = cond b (with_life life t) t

none_before : (first : ℕ) (life : Life) (ts : List Tally) → life.task < first → ts ≡ with_task_life first life ts
none_before first life [] before = refl
none_before first life (t ∷ ts) before =
    let apart : life.task ≡ first → ⊥ = λ e. absurd (omega (arith, e, before)) in
    let here = ap (λ (b : Bool). counted_in b life t) (sym (ne_eqb life.task first apart)) in
    let rest = none_before (first + 1) life ts (omega (arith, before)) in
    λ i. here i ∷ rest i

pub none_behind : (first : ℕ) (life : Life) (ts : List Tally) → first + length ts ≤ life.task → ts ≡ with_task_life first life ts
none_behind first life [] behind = refl
none_behind first life (t ∷ ts) behind =
    let apart : life.task ≡ first → ⊥ = λ e. absurd (omega (arith, e, behind)) in
    let here = ap (λ (b : Bool). counted_in b life t) (sym (ne_eqb life.task first apart)) in
    let rest = none_behind (first + 1) life ts (omega (arith, behind)) in
    λ i. here i ∷ rest i

pub counted_at : (first i : ℕ) (life : Life) (ts : List Tally) (t : Tally) → life.task ≡ first + i → t ≡ get_or ts i t → set ts i (with_life life t) ≡ with_task_life first life ts
counted_at first i life [] t at is = refl
counted_at first zero life (u ∷ ts) t at is =
    let same : life.task ≡ first = omega (arith, at) in
    let here = ap (with_life life) is ∙ ap (λ (b : Bool). counted_in b life u) (sym (eq-eqb life.task first same)) in
    let rest = none_before (first + 1) life ts (omega (arith, same)) in
    λ i. here i ∷ rest i
counted_at first (suc i) life (u ∷ ts) t at is =
    let apart : life.task ≡ first → ⊥ = λ e. absurd (omega (arith, e, at)) in
    let here = ap (λ (b : Bool). counted_in b life u) (sym (ne_eqb life.task first apart)) in
    let rest = counted_at (first + 1) i life ts t (omega (arith, at)) is in
    λ i. here i ∷ rest i

pub room_at : (i : ℕ) (life : Life) (ts : List Tally) (t : Tally) → i < length ts → t ≡ get_or ts i t → HaveRoom life ts → HasRoom life t
room_at i life [] t within is h = absurd (omega (arith, within))
room_at zero life (u ∷ ts) t within is h = subst (HasRoom life) (sym is) h.0
room_at (suc i) life (u ∷ ts) t within is h = room_at i life ts t (omega (arith, within)) is h.1
