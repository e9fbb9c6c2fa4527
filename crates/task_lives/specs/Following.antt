-- A history followed event by event: the lives so far, and the tasks at work. For private functions.
use Rattle.std.specs.Prelude.{◌≡◌, ℕ, suc, ◌+◌, ◌-◌, ◌<◌, ◌≤◌, List, [], ◌∷◌, ◌++◌, length, slice_set}
use Rattle.std.specs.List.{fold}
use Rattle.machine_model.specs.HeadEvent.{active_after}
use Rattle.machine_model.specs.declared.event.Event.{Event}
use Rattle.task_lives.specs.declared.life.Life.{Life}
use Rattle.task_lives.specs.declared.following.AtWork.{AtWork}
use Rattle.task_lives.specs.Lives.{Course, course, lives_from}

-- the lives so far; the tasks at work, from the head on; how many units there are; and how many tasks
-- retired in how many events
pub record FollowingView : Type 0 where
  pub lives : List Life
  pub queue : List AtWork
  pub units : ℕ
  pub retired : ℕ
  pub events : ℕ

-- each has a life after that of some index
abbrev pub AreBehind : (index : ℕ) → List AtWork → Type 0
AreBehind index [] = Unit {0}
AreBehind index (w ∷ ws) = (index < w.index) × AreBehind index ws

-- each has one of the given number of lives, before those of the tasks after it, and executed at most as many
-- instructions as there were events
abbrev pub AreInOrder : (lives events : ℕ) → List AtWork → Type 0
AreInOrder lives events [] = Unit {0}
AreInOrder lives events (w ∷ ws) =
    (w.index < lives) × (w.life.executed ≤ events) × AreBehind w.index ws × AreInOrder lives events ws

pub record IsFollowing (f : FollowingView) : Type 0 where
  pub some_unit : 0 < f.units
  pub in_order : AreInOrder (length f.lives) f.events f.queue
  pub few : f.retired + length f.queue ≤ f.events

-- a life so far, which then continues by a course
abbrev pub completed : (events : ℕ) → Life → Course → Life
completed events life c = record life {
  last = events + c.events - 1;
  executed = life.executed + c.executed;
  ending = c.ending;
}

-- the lives, where the tasks at work, of which the first is at position k, fare over the events that come
abbrev pub carried_on : (events k : ℕ) → List AtWork → List Event → List Life → List Life
carried_on events k [] es lives = lives
carried_on events k (w ∷ ws) es lives =
    slice_set (carried_on events (suc k) ws es lives) w.index (completed events w.life (course k es))

-- all lives, those that begin later among them
abbrev pub all_lives : FollowingView → List Event → List Life
all_lives f es =
    carried_on f.events 0 f.queue es f.lives ++ lives_from f.units f.retired (length f.queue) f.events es

-- one state is another one after some events: whatever comes after them, the lives are the same
pub record Follows (old : FollowingView) (events : List Event) (new : FollowingView) : Type 0 where
  pub same : (es : List Event) → all_lives old (events ++ es) ≡ all_lives new es
  pub counted : new.events ≡ old.events + length events
  pub active : length new.queue ≡ fold active_after (length old.queue) events
