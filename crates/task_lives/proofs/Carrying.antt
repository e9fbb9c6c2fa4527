-- The lives of the tasks at work over one event more: by cases on the event, and by induction on the queue.
use Rattle.std.proofs.Common.{◌≡◌, ◌≢◌, ℕ, zero, suc, ◌+◌, ◌-◌, ◌<◌, ◌≤◌, Bool, true, false, cond, List, [], ◌∷◌, ◌++◌, length, take, drop, replicate, Option, Some, None, refl, sym, ap, ◌∙◌, arith, length-set}
use Rattle.std.specs.Prelude.{slice_set, nat_eq}
use Rattle.std.specs.Option.{option_map_or}
use Rattle.std.proofs.lemmas.List.{set_comm, set_at, set-append_left}
use Rattle.machine_model.specs.declared.event.Event.{Event}
use Rattle.machine_model.specs.declared.event.Event.TheVariants.{Exec, Retire}
use Rattle.task_lives.specs.declared.life.Ending.{Ending}
use Rattle.task_lives.specs.declared.life.Ending.TheVariants.{Retired, Unfinished}
use Rattle.task_lives.specs.declared.life.Life.{Life}
use Rattle.task_lives.specs.declared.following.AtWork.{AtWork}
use Rattle.task_lives.specs.Lives.{position_after, ending_by, executed_at, Course, after_one, course}
use Rattle.task_lives.specs.AtWork.{AreWithin, closed, all_closed, with_more, more_executed}
use Rattle.task_lives.specs.Following.{AreBehind, completed, carried_on}

-- one course

pub course_on : (k j : ℕ) (e : Event) (es : List Event) → position_after k e ≡ Some j → course k (e ∷ es) ≡ after_one (executed_at k e) (course j es)
course_on k j e es is =
    ap (λ (o : Option ℕ). option_map_or (λ i. after_one (executed_at k e) (course i es)) o (record { events = 1; executed = 0; ending = ending_by e })) is

pub course_ends : (k : ℕ) (e : Event) (es : List Event) → position_after k e ≡ None → course k (e ∷ es) ≡ record { events = 1; executed = 0; ending = ending_by e }
course_ends k e es is =
    ap (λ (o : Option ℕ). option_map_or (λ i. after_one (executed_at k e) (course i es)) o (record { events = 1; executed = 0; ending = ending_by e })) is

completed_on : (ev : ℕ) (life : Life) (c : Course) → completed ev life (after_one 0 c) ≡ completed (suc ev) life c
completed_on ev life c =
    let ends : ev + suc c.events - 1 ≡ suc ev + c.events - 1 = omega arith in
    let executes : life.executed + (0 + c.executed) ≡ life.executed + c.executed = omega arith in
    λ i. record life { last = ends i; executed = executes i; ending = c.ending }

completed_end : (ev : ℕ) (life : Life) (ending : Ending) → completed ev life (record { events = 1; executed = 0; ending = ending }) ≡ closed ev ending life
completed_end ev life ending =
    let ends : ev + 1 - 1 ≡ ev = omega arith in
    let executes : life.executed + 0 ≡ life.executed = omega arith in
    λ i. record life { last = ends i; executed = executes i; ending = ending }

-- the unit goes on at another position
life_on : (ev k j : ℕ) (e : Event) (es : List Event) (life : Life) → position_after k e ≡ Some j → executed_at k e ≡ 0 → completed ev life (course k (e ∷ es)) ≡ completed (suc ev) life (course j es)
life_on ev k j e es life is none =
    ap (completed ev life) (course_on k j e es is ∙ ap (λ (n : ℕ). after_one n (course j es)) none) ∙ completed_on ev life (course j es)

life_ends : (ev k : ℕ) (e : Event) (es : List Event) (life : Life) → position_after k e ≡ None → completed ev life (course k (e ∷ es)) ≡ closed ev (ending_by e) life
life_ends ev k e es life is = ap (completed ev life) (course_ends k e es is) ∙ completed_end ev life (ending_by e)

-- lists of lives

pub length-carried_on : (ev k : ℕ) (ws : List AtWork) (es : List Event) (lives : List Life) → length (carried_on ev k ws es lives) ≡ length lives
length-carried_on ev k [] es lives = refl
length-carried_on ev k (w ∷ ws) es lives =
    length-set (carried_on ev (suc k) ws es lives) w.index (completed ev w.life (course k es)) ∙ length-carried_on ev (suc k) ws es lives

-- a life that is written at an index before those of the tasks at work
pub carried_on_set : (ev k : ℕ) (ws : List AtWork) (es : List Event) (lives : List Life) (index : ℕ) (life : Life) → AreBehind index ws → slice_set (carried_on ev k ws es lives) index life ≡ carried_on ev k ws es (slice_set lives index life)
carried_on_set ev k [] es lives index life behind = refl
carried_on_set ev k (w ∷ ws) es lives index life behind =
    let here : index < w.index = behind.0 in
    let apart : w.index ≢ index = λ e. absurd (omega arith) in
    let mine = completed ev w.life (course k es) in
    set_comm (carried_on ev (suc k) ws es lives) w.index index mine life apart
    ∙ ap (λ (ls : List Life). slice_set ls w.index mine) (carried_on_set ev (suc k) ws es lives index life behind.1)

-- an event over which each unit stays and executes nothing
pub carried_past : (e : Event) → ((i : ℕ) → position_after i e ≡ Some i) → ((i : ℕ) → executed_at i e ≡ 0) → (ev k : ℕ) (ws : List AtWork) (es : List Event) (lives : List Life) → carried_on ev k ws (e ∷ es) lives ≡ carried_on (suc ev) k ws es lives
carried_past e stays none ev k [] es lives = refl
carried_past e stays none ev k (w ∷ ws) es lives =
    let rest = carried_past e stays none ev (suc k) ws es lives in
    let here = life_on ev k k e es w.life (stays k) (none k) in
    λ i. slice_set (rest i) w.index (here i)

-- Retire: the units after the head come nearer to it
carried_nearer : (ev k : ℕ) (ws : List AtWork) (es : List Event) (lives : List Life) → carried_on ev (suc k) ws (Retire ∷ es) lives ≡ carried_on (suc ev) k ws es lives
carried_nearer ev k [] es lives = refl
carried_nearer ev k (w ∷ ws) es lives =
    let rest = carried_nearer ev (suc k) ws es lives in
    let here = life_on ev (suc k) k Retire es w.life refl refl in
    λ i. slice_set (rest i) w.index (here i)

pub carried_retire : (ev : ℕ) (w : AtWork) (ws : List AtWork) (es : List Event) (lives : List Life) → AreBehind w.index ws → carried_on ev 0 (w ∷ ws) (Retire ∷ es) lives ≡ carried_on (suc ev) 0 ws es (slice_set lives w.index (closed ev Retired w.life))
carried_retire ev w ws es lives behind =
    let rest = carried_nearer ev 0 ws es lives in
    let here = life_ends ev 0 Retire es w.life refl in
    (λ i. slice_set (rest i) w.index (here i)) ∙ carried_on_set (suc ev) 0 ws es lives w.index (closed ev Retired w.life) behind

-- Squash and Drop: the units from a position on go
module _ (e : Event) (limit : ℕ) (stays : (i : ℕ) → i < limit → position_after i e ≡ Some i) (goes : (i : ℕ) → limit ≤ i → position_after i e ≡ None) (none : (i : ℕ) → executed_at i e ≡ 0) where
  all_go : (ev k : ℕ) → limit ≤ k → (ws : List AtWork) (es : List Event) (lives : List Life) → carried_on ev k ws (e ∷ es) lives ≡ all_closed ev (ending_by e) ws lives
  all_go ev k behind [] es lives = refl
  all_go ev k behind (w ∷ ws) es lives =
      let rest = all_go ev (suc k) (omega arith) ws es lives in
      let here = life_ends ev k e es w.life (goes k behind) in
      λ i. slice_set (rest i) w.index (here i)

  cut_from : (m ev k : ℕ) → limit ≡ k + m → (ws : List AtWork) (es : List Event) (lives : List Life) → carried_on ev k ws (e ∷ es) lives ≡ carried_on (suc ev) k (take m ws) es (all_closed ev (ending_by e) (drop m ws) lives)
  cut_from zero ev k is ws es lives = all_go ev k (omega arith) ws es lives
  cut_from (suc m) ev k is [] es lives = refl
  cut_from (suc m) ev k is (w ∷ ws) es lives =
      let rest = cut_from m ev (suc k) (omega arith) ws es lives in
      let here = life_on ev k k e es w.life (stays k (omega arith)) (none k) in
      λ i. slice_set (rest i) w.index (here i)

  pub carried_cut : (ev : ℕ) (ws : List AtWork) (es : List Event) (lives : List Life) → carried_on ev 0 ws (e ∷ es) lives ≡ carried_on (suc ev) 0 (take limit ws) es (all_closed ev (ending_by e) (drop limit ws) lives)
  carried_cut ev ws es lives = cut_from limit ev 0 (omega arith) ws es lives

-- the history's end
pub carried_end : (ev k : ℕ) (ws : List AtWork) (lives : List Life) → carried_on ev k ws [] lives ≡ all_closed (ev - 1) Unfinished ws lives
carried_end ev k [] lives = refl
carried_end ev k (w ∷ ws) lives =
    let rest = carried_end ev (suc k) ws lives in
    let ends : ev + 0 - 1 ≡ ev - 1 = omega arith in
    let executes : w.life.executed + 0 ≡ w.life.executed = omega arith in
    λ i. slice_set (rest i) w.index (record (w.life) { last = ends i; executed = executes i; ending = Unfinished })

-- Assign: a task at work after the tail, whose life is the last so far
pub carried_push : (ev k : ℕ) (ws : List AtWork) (es : List Event) (lives : List Life) (w : AtWork) (life : Life) → w.index ≡ length lives → AreWithin (length lives) ws → carried_on ev k (ws ++ w ∷ []) es (lives ++ life ∷ []) ≡ carried_on ev k ws es lives ++ completed ev w.life (course (k + length ws) es) ∷ []
carried_push ev k [] es lives w life is before =
    let mine = completed ev w.life (course k es) in
    let here : k ≡ k + 0 = omega arith in
    set_at lives life [] mine w.index (sym is) ∙ ap (λ (j : ℕ). lives ++ completed ev w.life (course j es) ∷ []) here
carried_push ev k (v ∷ ws) es lives w life is before =
    let mine = completed ev v.life (course k es) in
    let last : ℕ → List Life = λ j. completed ev w.life (course j es) ∷ [] in
    let rest = carried_on ev (suc k) ws es lives in
    let long : length rest ≡ length lives = length-carried_on ev (suc k) ws es lives in
    let index : v.index < length lives = before.0 in
    let within : v.index < length rest = omega arith in
    let here : suc k + length ws ≡ k + suc (length ws) = omega arith in
    ap (λ (ls : List Life). slice_set ls v.index mine) (carried_push ev (suc k) ws es lives w life is before.1)
    ∙ set-append_left rest (last (suc k + length ws)) v.index mine within
    ∙ ap (λ (j : ℕ). slice_set rest v.index mine ++ last j) here

-- Exec: this many instructions of the unit at a position

none_twice : (b : Bool) (x : ℕ) → x ≡ cond b 0 0 + x
none_twice true x = omega arith
none_twice false x = omega arith

one_more : (b : Bool) (n x : ℕ) → cond b 1 0 + (cond b n 0 + x) ≡ cond b (suc n) 0 + x
one_more true n x = omega arith
one_more false n x = omega arith

abbrev after_execs : (k j n : ℕ) → Course → Course
after_execs k j n c = record { events = n + c.events; executed = cond (nat_eq j k) n 0 + c.executed; ending = c.ending }

course_execs : (k j n : ℕ) (es : List Event) → course k (replicate n (Exec j) ++ es) ≡ after_execs k j n (course k es)
course_execs k j zero es =
    let c = course k es in
    let same : c.events ≡ 0 + c.events = omega arith in
    let none = none_twice (nat_eq j k) c.executed in
    λ i. record { events = same i; executed = none i; ending = c.ending }
course_execs k j (suc n) es =
    let c = course k es in
    let same : suc (n + c.events) ≡ suc n + c.events = omega arith in
    let more = one_more (nat_eq j k) n c.executed in
    ap (after_one (cond (nat_eq j k) 1 0)) (course_execs k j n es)
    ∙ (λ i. record { events = same i; executed = more i; ending = c.ending })

pub carried_execs : (ev k j n : ℕ) (ws : List AtWork) (es : List Event) (lives : List Life) → carried_on ev k ws (replicate n (Exec j) ++ es) lives ≡ carried_on (ev + n) k (more_executed k j n ws) es lives
carried_execs ev k j n [] es lives = refl
carried_execs ev k j n (w ∷ ws) es lives =
    let c = course k es in
    let m : ℕ = cond (nat_eq j k) n 0 in
    let rest = carried_execs ev (suc k) j n ws es lives in
    let ends : ev + (n + c.events) - 1 ≡ ev + n + c.events - 1 = omega arith in
    let executes : w.life.executed + (m + c.executed) ≡ w.life.executed + m + c.executed = omega arith in
    let here : completed ev w.life (course k (replicate n (Exec j) ++ es)) ≡ completed (ev + n) (with_more m w).life c =
    ap (completed ev w.life) (course_execs k j n es) ∙ (λ i. record (w.life) { last = ends i; executed = executes i; ending = c.ending }) in
    λ i. slice_set (rest i) w.index (here i)

-- from the tail on

pub length-all_closed : (last : ℕ) (ending : Ending) (ws : List AtWork) (lives : List Life) → length (all_closed last ending ws lives) ≡ length lives
length-all_closed last ending [] lives = refl
length-all_closed last ending (w ∷ ws) lives =
    length-set (all_closed last ending ws lives) w.index (closed last ending w.life) ∙ length-all_closed last ending ws lives

pub all_closed_push : (last : ℕ) (ending : Ending) (ws : List AtWork) (w : AtWork) (lives : List Life) → all_closed last ending (ws ++ w ∷ []) lives ≡ all_closed last ending ws (slice_set lives w.index (closed last ending w.life))
all_closed_push last ending [] w lives = refl
all_closed_push last ending (v ∷ ws) w lives =
    ap (λ (ls : List Life). slice_set ls v.index (closed last ending v.life)) (all_closed_push last ending ws w lives)
