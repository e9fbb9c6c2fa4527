-- What shows that the marks of a program do harm: a list of events that its machine allows, and after them
-- something that the sequential program never does. And what else the judge answers.
use Rattle.std.specs.Prelude.{◌≡◌, ℕ, ◌<◌, suc, List, [], ◌∷◌, ◌++◌, ◌-◌, Bool, false, ◌&&◌, nat_eq, nat_lt, if◌then◌else◌, length, take, slice_get, Option, Some, None}
use Rattle.mips_instructions.specs.declared.instruction.Op.{Op}
use Rattle.mips_plain.specs.PlainMachine.{State as PlainState, fetch}
use Rattle.mips_plain.specs.declared.outcome.Outcome.TheVariants as outcome
use Rattle.mips_plain.specs.declared.outcome.Read.{Read}
use Rattle.task_descriptor.specs.Listing.{Listing, input}
use Rattle.task_graph.specs.Edges.{is_indirect}
use Rattle.machine_model.specs.Machine.{Active, State, value}
use Rattle.machine_model.specs.Step.{Next}
use Rattle.machine_model.specs.Answer.{most_events}
use Rattle.machine_model.specs.Replay.{Replays}
use Rattle.machine_model.specs.Claims.{plain_of, reads_of}
use Rattle.machine_model.specs.declared.event.Commit.{Commit}
use Rattle.machine_model.specs.declared.event.Event.{Event}
use Rattle.machine_model.specs.declared.event.Standing.TheVariants as standing
use Rattle.demonstration.specs.declared.judge.Evidence.{Evidence}
use Rattle.demonstration.specs.declared.judge.Harm.{Harm}
use Rattle.demonstration.specs.declared.judge.Harm.TheVariants as harm

-- what the head has read
abbrev pub read_by_head : List Active → List Read
read_by_head [] = []
read_by_head (u ∷ us) = u.log

-- what the retired tasks read, and after it what the head has read
abbrev pub seen : State → List Read
seen s = s.reads ++ read_by_head s.queue

-- the plain machine after as many steps
abbrev pub plain_beside : Listing → State → PlainState
plain_beside p s = plain_of p (length (seen s))

-- the reads are those of the plain machine's first steps
abbrev pub AreRight : Listing → List Read → Type 0
AreRight p reads = reads ≡ reads_of p (length reads)

-- what the plain machine reads at its step of this number, 0 being the first; none where it has ended before
abbrev pub plain_read : Listing → ℕ → Option Read
plain_read p number = slice_get (reads_of p (suc number)) number

-- the first of these reads that is not the plain machine's read of that number
pub record IsFirstStale (p : Listing) (reads : List Read) (number : ℕ) (read : Read) (right : Option Read) : Type 0 where
  pub is_read : slice_get reads number ≡ Some read
  pub is_right : plain_read p number ≡ right
  pub differs : right ≡ Some read → ⊥
  pub before : take number reads ≡ reads_of p number

-- the instruction at an address names the place to which it goes: it is no jump to an address in a register
pub record NamesItsPlace (p : Listing) (pc : ℕ) : Type 0 where
  pub op : Op
  pub is_there : fetch (input p).code pc ≡ Some op
  pub is_direct : is_indirect op ≡ false

-- the run has ended as unlisted, the last read is of an instruction that names the place to which it goes, and the
-- plain machine goes on there
pub record IsCutAt (p : Listing) (s : State) (from at : ℕ) : Type 0 where
  pub ends : s.outcome ≡ standing.Unlisted at
  pub count : ℕ
  pub last : Read
  pub is_last : length (seen s) ≡ suc count
  pub is_read : slice_get (seen s) count ≡ Some last
  pub is_from : last.pc ≡ from
  pub names : NamesItsPlace p from
  pub goes_on : (plain_beside p s).outcome ≡ outcome.Running
  pub is_there : (plain_beside p s).pc ≡ at

-- a register of the head has a word that is not the plain machine's
pub record HoldsWrong (s : State) (plain : PlainState) (r word right : ℕ) : Type 0 where
  pub head : Active
  pub is_head : slice_get s.queue 0 ≡ Some head
  pub has_word : value head r ≡ Some word
  pub is_right : plain.regs r ≡ right
  pub differs : word ≡ right → ⊥

-- all that was read is right, and the run is not cut off
pub record ReadsRight (p : Listing) (s : State) : Type 0 where
  pub right : AreRight p (seen s)
  pub whole : (from at : ℕ) → IsCutAt p s from at → ⊥

-- no register of the head has a wrong word
abbrev pub WordsRight : Listing → State → Type 0
WordsRight p s = (r word right : ℕ) → r < 34 → HoldsWrong s (plain_beside p s) r word right → ⊥

-- a state that shows no departure from the sequential program
pub record DoesNoHarm (p : Listing) (s : State) : Type 0 where
  pub reads : ReadsRight p s
  pub words : WordsRight p s

-- what a state shows that the sequential program never does: a wrong read, or after right reads a wrong end or word
abbrev pub DoesHarm : Listing → State → Harm → Type 0
DoesHarm p s (harm.Stale stale) = IsFirstStale p (seen s) stale.number stale.read stale.right
DoesHarm p s (harm.CutOff cut) = AreRight p (seen s) × IsCutAt p s cut.from cut.at
DoesHarm p s (harm.Held held) =
    AreRight p (seen s) × (held.number ≡ length (seen s)) × HoldsWrong s (plain_beside p s) held.register held.word held.right

abbrev pub head_task : List Active → ℕ
head_task [] = 0
head_task (u ∷ us) = u.task

-- the task that made the read of a number: a retired one, else the head's
abbrev pub reading_task : List Commit → (head number : ℕ) → ℕ
reading_task [] head number = head
reading_task (commit ∷ commits) head number =
    if nat_lt number commit.count then commit.task else reading_task commits head (number - commit.count)

-- the task that a harm is done to
abbrev pub harmed_task : State → Harm → ℕ
harmed_task s (harm.Stale stale) = reading_task s.commits (head_task s.queue) stale.number
harmed_task s (harm.CutOff cut) = head_task s.queue
harmed_task s (harm.Held held) = head_task s.queue

-- a state shows this
abbrev pub Shows : Listing → State → Evidence → Type 0
Shows p s it = DoesHarm p s it.harm × (it.task ≡ harmed_task s it.harm)

-- the events are allowed, each where it comes, and after them there is this harm
pub record IsShown (p : Listing) (units : ℕ) (events : List Event) (it : Evidence) : Type 0 where
  pub after : State
  pub allowed : Replays p units events after
  pub shows : Shows p after it

-- the events are allowed, and what they leave shows no departure
pub record IsRight (p : Listing) (units : ℕ) (events : List Event) : Type 0 where
  pub after : State
  pub allowed : Replays p units events after
  pub right : DoesNoHarm p after

-- the events before this one are allowed, and this one is not, or a million came before it
pub record IsRefusedAt (p : Listing) (units : ℕ) (events : List Event) (index : ℕ) : Type 0 where
  pub before : State
  pub allowed : Replays p units (take index events) before
  pub event : Event
  pub is_event : slice_get events index ≡ Some event
  pub refused : (after : State) → index < most_events → Next p units before event after → ⊥

-- a read is the right one
abbrev pub reads_agree : Option Read → Read → Bool
reads_agree None read = false
reads_agree (Some right) read = nat_eq right.pc read.pc && nat_eq right.a read.a && nat_eq right.b read.b

-- the word, if there is one and it is not the right one
abbrev pub wrong_word : (right : ℕ) → Option ℕ → Option ℕ
wrong_word right None = None
wrong_word right (Some word) = if nat_eq word right then None else Some word
