-- A state of the lives is another one after an event.
use Rattle.std.proofs.Common.{◌≡◌, ℕ, zero, suc, ◌+◌, ◌-◌, ◌%◌, ◌<◌, ◌≤◌, Bool, cond, List, [], ◌∷◌, ◌++◌, length, take, drop, replicate, Some, None, refl, sym, ap, ◌∙◌, arith, append_assoc, length-append, add-one, length-take-le}
use Rattle.std.specs.Prelude.{slice_set}
use Rattle.std.specs.List.{fold}
use Rattle.std.proofs.lemmas.List.{length-replicate}
use Rattle.std.proofs.lemmas.List.Sums.{fold-append}
use Rattle.std.proofs.lemmas.Bool.{le-ltb, lt-ltb}
use Rattle.machine_model.specs.HeadEvent.{retired_after, active_after}
use Rattle.machine_model.specs.declared.event.Event.{Event}
use Rattle.machine_model.specs.declared.event.Event.TheVariants.{Assign, Exec, Transfer, Drain, Squash, Retire, Fault, Drop}
use Rattle.task_lives.specs.declared.life.Ending.{Ending}
use Rattle.task_lives.specs.declared.life.Ending.TheVariants.{Retired, Squashed, Dropped}
use Rattle.task_lives.specs.declared.life.Life.{Life}
use Rattle.task_lives.specs.declared.following.AtWork.{AtWork}
use Rattle.task_lives.specs.Lives.{Course, course, life_of, begun, lives_from}
use Rattle.task_lives.specs.AtWork.{AreWithin, closed, all_closed, more_executed}
use Rattle.task_lives.specs.Following.{FollowingView, AreBehind, completed, carried_on, all_lives, Follows}
use Rattle.task_lives.proofs.Carrying.{carried_past, carried_retire, carried_cut, carried_push, carried_execs}
use Rattle.task_lives.proofs.InOrder.{length-more_executed}

-- no event, and events one after the other

pub follows_none : (f : FollowingView) → Follows f [] f
follows_none f = record {
  same = λ es. refl;
  counted = (let same : f.events ≡ f.events + 0 = omega arith in same);
  active = refl;
}

pub follows_join : (f g h : FollowingView) (xs ys : List Event) → Follows f xs g → Follows g ys h → Follows f (xs ++ ys) h
follows_join f g h xs ys first second = record {
  same = λ es. ap (all_lives f) (append_assoc xs ys es) ∙ first.same (ys ++ es) ∙ second.same es;
  counted =
      let long = length-append xs ys in
      let one : g.events ≡ f.events + length xs = first.counted in
      let two : h.events ≡ g.events + length ys = second.counted in
      omega arith;
  active =
      second.active
      ∙ ap (λ (n : ℕ). fold active_after n ys) first.active
      ∙ sym (fold-append active_after (length f.queue) xs ys);
}

-- an event that begins no life

module _ (f : FollowingView) where
  abbrev with_event : List Life → List AtWork → (retired : ℕ) → FollowingView
  with_event lives queue retired = record f { lives = lives; queue = queue; retired = retired; events = f.events + 1 }

  follows_event : (e : Event) (lives : List Life) (queue : List AtWork) (retired : ℕ)
      → ((es : List Event) → carried_on f.events 0 f.queue (e ∷ es) f.lives ≡ carried_on (suc f.events) 0 queue es lives)
      → ((es : List Event) → begun f.units f.retired (length f.queue) f.events e es ≡ [])
      → retired ≡ retired_after f.retired e
      → length queue ≡ active_after (length f.queue) e
      → Follows f (e ∷ []) (with_event lives queue retired)
  follows_event e lives queue retired carry none ret act = record {
    same = λ es.
        let one = carry es in
        let two = none es in
        let three = sym ret in
        let four = sym act in
        (λ i. one i ++ (two i ++ lives_from f.units (three i) (four i) (suc f.events) es))
        ∙ ap (λ (n : ℕ). carried_on n 0 queue es lives ++ lives_from f.units retired (length queue) n es) (sym (add-one f.events));
    counted = refl;
    active = act;
  }

  pub follows_transfer : (k r : ℕ) → Follows f (Transfer k r ∷ []) (with_event f.lives f.queue f.retired)
  follows_transfer k r =
      follows_event (Transfer k r) f.lives f.queue f.retired
      (λ es. carried_past (Transfer k r) (λ i. refl) (λ i. refl) f.events 0 f.queue es f.lives) (λ es. refl) refl refl

  pub follows_drain : (k r : ℕ) → Follows f (Drain k r ∷ []) (with_event f.lives f.queue f.retired)
  follows_drain k r =
      follows_event (Drain k r) f.lives f.queue f.retired
      (λ es. carried_past (Drain k r) (λ i. refl) (λ i. refl) f.events 0 f.queue es f.lives) (λ es. refl) refl refl

  pub follows_fault : Follows f (Fault ∷ []) (with_event f.lives f.queue f.retired)
  follows_fault =
      follows_event Fault f.lives f.queue f.retired
      (λ es. carried_past Fault (λ i. refl) (λ i. refl) f.events 0 f.queue es f.lives) (λ es. refl) refl refl

  pub follows_squash : (j : ℕ) → j < length f.queue
      → Follows f (Squash j ∷ []) (with_event (all_closed f.events Squashed (drop (j + 1) f.queue) f.lives) (take (j + 1) f.queue) f.retired)
  follows_squash j within =
      let long : length (take (j + 1) f.queue) ≡ suc j = length-take-le (j + 1) f.queue (omega arith) ∙ add-one j in
      follows_event (Squash j) (all_closed f.events Squashed (drop (j + 1) f.queue) f.lives) (take (j + 1) f.queue) f.retired
      (λ es.
      carried_cut (Squash j) (suc j)
      (λ i before. ap (λ (b : Bool). cond b None (Some i)) (le-ltb j i (omega arith)))
      (λ i behind. ap (λ (b : Bool). cond b None (Some i)) (lt-ltb j i (omega arith)))
      (λ i. refl) f.events f.queue es f.lives
      ∙ ap (λ (m : ℕ). carried_on (suc f.events) 0 (take m f.queue) es (all_closed f.events Squashed (drop m f.queue) f.lives)) (sym (add-one j)))
      (λ es. refl) refl long

  pub follows_drop : (j : ℕ) → j ≤ length f.queue
      → Follows f (Drop j ∷ []) (with_event (all_closed f.events Dropped (drop j f.queue) f.lives) (take j f.queue) f.retired)
  follows_drop j within =
      follows_event (Drop j) (all_closed f.events Dropped (drop j f.queue) f.lives) (take j f.queue) f.retired
      (λ es.
      carried_cut (Drop j) j
      (λ i before. ap (λ (b : Bool). cond b (Some i) None) (lt-ltb i j before))
      (λ i behind. ap (λ (b : Bool). cond b (Some i) None) (le-ltb i j behind))
      (λ i. refl) f.events f.queue es f.lives)
      (λ es. refl) refl (length-take-le j f.queue within)

-- Retire, where there is a head, and where there is none

pub follows_retire : (f : FollowingView) (w : AtWork) (ws : List AtWork) → f.queue ≡ w ∷ ws → AreBehind w.index ws
    → Follows f (Retire ∷ []) (record f { lives = slice_set f.lives w.index (closed f.events Retired w.life); queue = ws; retired = f.retired + 1; events = f.events + 1 })
follows_retire f w ws is behind =
    let long : length ws ≡ length f.queue - 1 = (let same = ap length is in omega arith) in
    follows_event f Retire (slice_set f.lives w.index (closed f.events Retired w.life)) ws (f.retired + 1)
    (λ es.
    ap (λ (q : List AtWork). carried_on f.events 0 q (Retire ∷ es) f.lives) is
    ∙ carried_retire f.events w ws es f.lives behind)
    (λ es. refl) (add-one f.retired) long

pub follows_retire_none : (f : FollowingView) → f.queue ≡ [] → Follows f (Retire ∷ []) (record f { retired = f.retired + 1; events = f.events + 1 })
follows_retire_none f is =
    let long : length f.queue ≡ length f.queue - 1 = (let same : length f.queue ≡ 0 = ap length is in omega arith) in
    follows_event f Retire f.lives f.queue (f.retired + 1)
    (λ es.
    ap (λ (q : List AtWork). carried_on f.events 0 q (Retire ∷ es) f.lives) is
    ∙ ap (λ (q : List AtWork). carried_on (suc f.events) 0 q es f.lives) (sym is))
    (λ es. refl) (add-one f.retired) long

-- Assign

-- the life of a task that was assigned just now
abbrev pub life_at : FollowingView → (task : ℕ) → Ending → Life
life_at f task ending = record {
  task = task;
  unit = (f.retired + length f.queue) % f.units;
  first = f.events;
  last = f.events;
  executed = 0;
  ending = ending;
}

goes_on : (f : FollowingView) (task : ℕ) (ending : Ending) (c : Course) → life_of f.units f.retired (length f.queue) f.events task c ≡ completed (suc f.events) (life_at f task ending) c
goes_on f task ending c =
    let ends : f.events + c.events ≡ suc f.events + c.events - 1 = omega arith in
    let executes : c.executed ≡ 0 + c.executed = omega arith in
    λ i. record (life_at f task ending) { last = ends i; executed = executes i; ending = c.ending }

pub follows_assign : (f : FollowingView) (task : ℕ) (ending : Ending) (w : AtWork) → w.index ≡ length f.lives → w.life ≡ life_at f task ending → AreWithin (length f.lives) f.queue
    → Follows f (Assign task ∷ []) (record f { lives = f.lives ++ life_at f task ending ∷ []; queue = f.queue ++ w ∷ []; events = f.events + 1 })
follows_assign f task ending w index is before =
    let a : ℕ = length f.queue in
    let long : length (f.queue ++ w ∷ []) ≡ suc a = (let same = length-append f.queue (w ∷ []) in omega arith) in
    record {
      same = λ es.
          let past = carried_past (Assign task) (λ i. refl) (λ i. refl) f.events 0 f.queue es f.lives in
          let rest = lives_from f.units f.retired (suc a) (suc f.events) es in
          let mine : life_of f.units f.retired a f.events task (course a es) ≡ completed (suc f.events) w.life (course (0 + a) es) =
          goes_on f task ending (course a es)
          ∙ ap (λ (life : Life). completed (suc f.events) life (course a es)) (sym is)
          ∙ ap (λ (n : ℕ). completed (suc f.events) w.life (course n es)) (let same : a ≡ 0 + a = omega arith in same) in
          let push = carried_push (suc f.events) 0 f.queue es f.lives w (life_at f task ending) index before in
          (λ i. past i ++ (mine i ∷ rest))
          ∙ sym (append_assoc (carried_on (suc f.events) 0 f.queue es f.lives) (completed (suc f.events) w.life (course (0 + a) es) ∷ []) rest)
          ∙ ap (λ (ls : List Life). ls ++ rest) (sym push)
          ∙ ap (λ (n : ℕ). carried_on (suc f.events) 0 (f.queue ++ w ∷ []) es (f.lives ++ life_at f task ending ∷ []) ++ lives_from f.units f.retired n (suc f.events) es) (sym long)
          ∙ ap (λ (n : ℕ). carried_on n 0 (f.queue ++ w ∷ []) es (f.lives ++ life_at f task ending ∷ []) ++ lives_from f.units f.retired (length (f.queue ++ w ∷ [])) n es) (sym (add-one f.events));
      counted = refl;
      active = long;
    }

-- Exec, this many times

lives_past_execs : (u r a n j : ℕ) (count : ℕ) (es : List Event) → lives_from u r a n (replicate count (Exec j) ++ es) ≡ lives_from u r a (n + count) es
lives_past_execs u r a n j zero es = ap (λ (m : ℕ). lives_from u r a m es) (let same : n ≡ n + 0 = omega arith in same)
lives_past_execs u r a n j (suc count) es =
    lives_past_execs u r a (suc n) j count es
    ∙ ap (λ (m : ℕ). lives_from u r a m es) (let same : suc n + count ≡ n + suc count = omega arith in same)

active_past_execs : (a j count : ℕ) → a ≡ fold active_after a (replicate count (Exec j))
active_past_execs a j zero = refl
active_past_execs a j (suc count) = active_past_execs a j count

pub follows_execs : (f : FollowingView) (j count : ℕ) → Follows f (replicate count (Exec j)) (record f { queue = more_executed 0 j count f.queue; events = f.events + count })
follows_execs f j count = record {
  same = λ es.
      let here = carried_execs f.events 0 j count f.queue es f.lives in
      let rest = lives_past_execs f.units f.retired (length f.queue) f.events j count es in
      let long = sym (length-more_executed 0 j count f.queue) in
      (λ i. here i ++ rest i)
      ∙ ap (λ (n : ℕ). carried_on (f.events + count) 0 (more_executed 0 j count f.queue) es f.lives ++ lives_from f.units f.retired n (f.events + count) es) long;
  counted = ap (λ (n : ℕ). f.events + n) (sym (length-replicate count (Exec j)));
  active = length-more_executed 0 j count f.queue ∙ active_past_execs (length f.queue) j count;
}
