-- What is kept of a state of the lives, over each event.
use Rattle.std.proofs.Common.{◌≡◌, ℕ, zero, suc, ◌+◌, ◌≤◌, List, [], ◌∷◌, ◌++◌, length, take, drop, sym, subst, arith, length-append}
use Rattle.task_lives.specs.declared.life.Life.{Life}
use Rattle.task_lives.specs.declared.following.AtWork.{AtWork}
use Rattle.task_lives.specs.AtWork.{more_executed}
use Rattle.task_lives.specs.Following.{FollowingView, IsFollowing, AreInOrder}
use Rattle.task_lives.proofs.InOrder.{in_order_on, in_order_front, in_order_push, in_order_more, length-more_executed}

pub kept_by : (f g : FollowingView) → f ≡ g → IsFollowing f → IsFollowing g
kept_by f g is h = subst IsFollowing is h

pub in_order_behind : (n ev : ℕ) (ws : List AtWork) → AreInOrder n ev ws → AreInOrder n ev (drop 1 ws)
in_order_behind n ev [] h = tt
in_order_behind n ev (w ∷ ws) h = h.3

take_few : (k : ℕ) (ws : List AtWork) → length (take k ws) ≤ length ws
take_few zero ws = omega arith
take_few (suc k) [] = omega arith
take_few (suc k) (w ∷ ws) = let rest = take_few k ws in omega arith

drop_few : (ws : List AtWork) → length (drop 1 ws) + 1 ≤ length ws + 1
drop_few [] = omega arith
drop_few (w ∷ ws) = omega arith

module _ (f : FollowingView) (h : IsFollowing f) where
  on : AreInOrder (length f.lives) (f.events + 1) f.queue
  on = in_order_on (length f.lives) (length f.lives) f.events (f.events + 1) f.queue (omega arith) (omega arith) h.in_order

  -- an event that changes no more than the count
  pub kept_event : IsFollowing (record f { events = f.events + 1 })
  kept_event = record {
    some_unit = h.some_unit;
    in_order = on;
    few = (let few : f.retired + length f.queue ≤ f.events = h.few in omega arith);
  }

  -- the front of the queue stays
  pub kept_front : (k : ℕ) (lives : List Life) → length lives ≡ length f.lives → IsFollowing (record f { lives = lives; queue = take k f.queue; events = f.events + 1 })
  kept_front k lives same = record {
    some_unit = h.some_unit;
    in_order = subst (λ (n : ℕ). AreInOrder n (f.events + 1) (take k f.queue)) (sym same) (in_order_front (length f.lives) (f.events + 1) k f.queue on);
    few = (let few : f.retired + length f.queue ≤ f.events = h.few in let less = take_few k f.queue in omega arith);
  }

  -- the head goes, if there is one
  pub kept_behind : (lives : List Life) → length lives ≡ length f.lives → IsFollowing (record f { lives = lives; queue = drop 1 f.queue; retired = f.retired + 1; events = f.events + 1 })
  kept_behind lives same = record {
    some_unit = h.some_unit;
    in_order = subst (λ (n : ℕ). AreInOrder n (f.events + 1) (drop 1 f.queue)) (sym same) (in_order_behind (length f.lives) (f.events + 1) f.queue on);
    few = (let few : f.retired + length f.queue ≤ f.events = h.few in let less = drop_few f.queue in omega arith);
  }

  -- instructions of a task
  pub kept_execs : (j count : ℕ) → IsFollowing (record f { queue = more_executed 0 j count f.queue; events = f.events + count })
  kept_execs j count = record {
    some_unit = h.some_unit;
    in_order = in_order_more (length f.lives) f.events 0 j count f.queue h.in_order;
    few = (let few : f.retired + length f.queue ≤ f.events = h.few in let same = length-more_executed 0 j count f.queue in omega arith);
  }

  -- a life that nobody is at work on yet
  pub kept_life : (life : Life) → IsFollowing (record f { lives = f.lives ++ life ∷ [] })
  kept_life life =
      let long : length (f.lives ++ life ∷ []) ≡ length f.lives + 1 = length-append f.lives (life ∷ []) in
      record {
        some_unit = h.some_unit;
        in_order = in_order_on (length f.lives) (length (f.lives ++ life ∷ [])) f.events f.events f.queue (omega arith) (omega arith) h.in_order;
        few = h.few;
      }

  -- a task more
  pub kept_assign : (life : Life) (w : AtWork) → w.index ≡ length f.lives → w.life.executed ≡ 0 → IsFollowing (record f { lives = f.lives ++ life ∷ []; queue = f.queue ++ w ∷ []; events = f.events + 1 })
  kept_assign life w index none =
      let long : length (f.lives ++ life ∷ []) ≡ length f.lives + 1 = length-append f.lives (life ∷ []) in
      let one : suc (length f.lives) ≡ length (f.lives ++ life ∷ []) = omega arith in
      let more : length (f.queue ++ w ∷ []) ≡ length f.queue + 1 = length-append f.queue (w ∷ []) in
      let few : f.retired + length f.queue ≤ f.events = h.few in
      let nothing : w.life.executed ≤ f.events + 1 = omega arith in
      record {
        some_unit = h.some_unit;
        in_order = subst (λ (n : ℕ). AreInOrder n (f.events + 1) (f.queue ++ w ∷ [])) one (in_order_push (length f.lives) (f.events + 1) f.queue w index nothing on);
        few = omega arith;
      }
