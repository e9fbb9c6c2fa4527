-- The tasks at work while a history is followed. For private functions.
use Rattle.std.specs.Prelude.{ℕ, suc, ◌+◌, ◌^◌, ◌<◌, List, [], ◌∷◌, nat_eq, if◌then◌else◌, slice_set}
use Rattle.task_lives.specs.declared.life.Ending.{Ending}
use Rattle.task_lives.specs.declared.life.Life.{Life}
use Rattle.task_lives.specs.declared.following.AtWork.{AtWork}

-- each has one of the given number of lives
abbrev pub AreWithin : (lives : ℕ) → List AtWork → Type 0
AreWithin lives [] = Unit {0}
AreWithin lives (w ∷ ws) = (w.index < lives) × AreWithin lives ws

-- each can execute the given number of further instructions, as far as its type allows
abbrev pub HaveRoom : (count : ℕ) → List AtWork → Type 0
HaveRoom count [] = Unit {0}
HaveRoom count (w ∷ ws) = (w.life.executed + count < 2 ^ 32) × HaveRoom count ws

-- a life that ended in an event
abbrev pub closed : (last : ℕ) → Ending → Life → Life
closed last ending life = record life { last = last; ending = ending }

-- the lives, where those of some tasks ended in an event
abbrev pub all_closed : (last : ℕ) → Ending → List AtWork → List Life → List Life
all_closed last ending [] lives = lives
all_closed last ending (w ∷ ws) lives = slice_set (all_closed last ending ws lives) w.index (closed last ending w.life)

-- a task that executed the given number of further instructions
abbrev pub with_more : (count : ℕ) → AtWork → AtWork
with_more count w = record w { life = record (w.life) { executed = w.life.executed + count } }

-- the tasks at work, of which the first is at position k, where the one at some position executed the given
-- number of further instructions
abbrev pub more_executed : (k position count : ℕ) → List AtWork → List AtWork
more_executed k position count [] = []
more_executed k position count (w ∷ ws) =
    with_more (if nat_eq position k then count else 0) w ∷ more_executed (suc k) position count ws
