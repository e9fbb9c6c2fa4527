-- What the machine answers to an event: the first refusal whose condition holds; and replays as a
-- function.
use Rattle.std.specs.Prelude.{ℕ, zero, suc, List, [], ◌∷◌, ◌++◌, Bool, true, false, not, nat_eq, nat_lt, length, take, drop, pred, if◌then◌else◌, slice_get, slice_set, is_some, is_none, Option, Some, None}
use Rattle.std.specs.List.{fold, last_or}
use Rattle.std.specs.Option.{option_or, option_and_then, unwrap_or}
use Rattle.std.specs.Prelude.{Result, Ok, Err}
use Rattle.mips_instructions.specs.Instruction.{reg_a, reg_b}
use Rattle.task_descriptor.specs.Listing.{Listing}
use Rattle.task_descriptor.specs.declared.descriptor.Marked.{Marked}
use Rattle.machine_model.specs.Machine.{Active, State, opening, creates, begins, pass}
use Rattle.machine_model.specs.Refusals.{unless, for_some, for_none}
unfoldable pub use Rattle.machine_model.specs.Refusals.{least}
use Rattle.machine_model.specs.Unit.{put, exec_refusal, drain_refusal, after_drain}
pub use Rattle.machine_model.specs.Unit.{instruction_at, exit_of, operand}
use Rattle.machine_model.specs.Step.{is_listed, follows, started, exec_leaves, next_begins, retire_leaves}
use Rattle.machine_model.specs.declared.event.Event.{Event}
use Rattle.machine_model.specs.declared.event.Event.TheVariants.{Assign, Exec, Transfer, Drain, Squash, Retire, Fault, Drop}
use Rattle.machine_model.specs.declared.event.Refused.{Refused}
use Rattle.machine_model.specs.declared.event.Refused.TheVariants as refused
use Rattle.machine_model.specs.declared.event.Spot.{Spot}
use Rattle.machine_model.specs.declared.event.Spot.TheVariants.{Inside, Stopped}
use Rattle.machine_model.specs.declared.event.Standing.{Standing}
use Rattle.machine_model.specs.declared.event.Standing.TheVariants as standing

abbrev pub is_running : Standing → Bool
is_running standing.Running = true
is_running _ = false

abbrev pub most_events : ℕ
most_events = 1000000

abbrev pub refusal : Listing → (units : ℕ) → State → Event → Option Refused
refusal p units s (Assign t) =
    unless (nat_lt (length s.queue) units) refused.NoUnit (
    unless (nat_lt t (length p.tasks)) refused.NoSuch (
    unless (follows p s.next t (last_or None s.queue)) refused.NotATarget None))
refusal p units s (Exec k) =
    for_some (slice_get s.queue k) refused.NoSuch (λ u. exec_refusal p (nat_eq k 0) u)
refusal p units s (Transfer zero r) = Some refused.NoSuch
refusal p units s (Transfer (suc k) r) =
    for_some (slice_get s.queue (suc k)) refused.NoSuch (λ u.
    unless (is_none (u.arrived r)) refused.AlreadyThere (
    unless (is_some (option_and_then (λ giver. pass p giver r) (slice_get s.queue k))) (refused.NotYet r) None))
refusal p units s (Drain k r) =
    for_some (slice_get s.queue k) refused.NoSuch (λ u. drain_refusal p u r)
refusal p units s (Squash k) =
    for_some (slice_get s.queue (suc k)) refused.NoSuch (λ after.
    for_some (option_and_then (λ u. exit_of u.place) (slice_get s.queue k)) refused.NotStopped (λ exit.
    unless (not (nat_eq (begins p after.task) exit)) refused.NoMismatch None))
refusal p units s Retire =
    for_some (slice_get s.queue 0) refused.NoSuch (λ u.
    for_some (exit_of u.place) refused.NotStopped (λ exit.
    for_none (least (creates p u.task) (λ r. is_none (u.sent r))) refused.Unfinished (
    unless (next_begins p (drop 1 s.queue) exit) refused.Mismatch (
    unless (is_listed p u.task exit) refused.NotListed None))))
refusal p units s Fault =
    for_some (slice_get s.queue 0) refused.NoSuch (λ u.
    for_some (exit_of u.place) refused.NotStopped (λ exit.
    unless (not (is_listed p u.task exit)) refused.IsListed None))
refusal p units s (Drop k) =
    for_some (slice_get s.queue k) refused.NoSuch (λ u.
    unless (nat_lt 0 k) refused.NoSuch None)

-- while the run continues, with n events before it
abbrev pub later_refusal : Listing → (units : ℕ) → State → (n : ℕ) → Event → Option Refused
later_refusal p units s n e = option_or (refusal p units s e) (unless (nat_lt n most_events) refused.Full None)

-- with n events before it
abbrev pub first_refusal : Listing → (units : ℕ) → State → (n : ℕ) → Event → Option Refused
first_refusal p units s n e = unless (is_running s.outcome) refused.Ended (later_refusal p units s n e)

abbrev pub ok_unless : Option Refused → Result (Unit {0}) Refused
ok_unless None = Ok tt
ok_unless (Some refusal) = Err refusal

abbrev pub answer : Listing → (units : ℕ) → State → (n : ℕ) → Event → Result (Unit {0}) Refused
answer p units s n e = ok_unless (first_refusal p units s n e)

-- Replay as a function

abbrev pub index_of_place : Spot → ℕ
index_of_place (Inside index) = index
index_of_place (Stopped at) = 0

abbrev pub exec_after : Listing → State → ℕ → Active → Option Marked → State
exec_after p s k u None = s
exec_after p s k u (Some m) =
    exec_leaves p s k u m (index_of_place u.place) (operand u (reg_a m.op)) (operand u (reg_b m.op))

abbrev pub with_unit : State → Option Active → (Active → State) → State
with_unit s None then_state = s
with_unit s (Some u) then_state = then_state u

-- the queue with a unit changed
abbrev pub with_queue : State → List Active → State
with_queue s queue = record s { queue = queue }

-- what an event leaves, where it is allowed
abbrev pub after : Listing → State → Event → State
after p s (Assign t) = record s { queue = s.queue ++ started p s t ∷ []; assigns = suc s.assigns }
after p s (Exec k) = with_unit s (slice_get s.queue k) (λ u. exec_after p s k u (instruction_at p u.place))
after p s (Transfer k r) = with_unit s (slice_get s.queue k) (λ u.
    with_queue s (slice_set s.queue k (record u {
      arrived = put r (unwrap_or (option_and_then (λ giver. pass p giver r) (slice_get s.queue (pred k))) 0) u.arrived;
    })))
after p s (Drain k r) = with_unit s (slice_get s.queue k) (λ u.
    with_queue s (slice_set s.queue k (after_drain u r (operand u r))))
after p s (Squash k) = with_queue s (take (suc k) s.queue)
after p s Retire = with_unit s (slice_get s.queue 0) (λ u.
    retire_leaves p s u (drop 1 s.queue) (unwrap_or (exit_of u.place) 0))
after p s Fault = with_unit s (slice_get s.queue 0) (λ u.
    record s { outcome = standing.Unlisted (unwrap_or (exit_of u.place) 0) })
after p s (Drop k) = with_queue s (take k s.queue)

abbrev pub next_state : Listing → (units : ℕ) → State → Event → Option State
next_state p units s e = if is_none (first_refusal p units s 0 e) then Some (after p s e) else None

-- the state after a list of events, none where one of them is refused
abbrev pub replay_from : Listing → (units : ℕ) → State → List Event → Option State
replay_from p units s [] = Some s
replay_from p units s (e ∷ es) = option_and_then (λ mid. replay_from p units mid es) (next_state p units s e)

abbrev pub replay : Listing → (units : ℕ) → List Event → Option State
replay p units events = replay_from p units (opening p) events

-- A script: each event is answered, and one that is refused changes nothing

-- the answers so far, the state, and how many events were allowed
pub record Played : Type 0 where
  pub answers : List (Result (Unit {0}) Refused)
  pub state : State
  pub count : ℕ

abbrev pub answered : Option Refused → (taken : State) → Played → Played
answered None taken played = record { answers = played.answers ++ Ok tt ∷ []; state = taken; count = suc played.count }
answered (Some refusal) taken played = record played { answers = played.answers ++ Err refusal ∷ [] }

abbrev pub play_event : Listing → (units : ℕ) → Played → Event → Played
play_event p units played e =
    answered (first_refusal p units played.state played.count e) (after p played.state e) played

abbrev pub play : Listing → (units : ℕ) → List Event → Played
play p units events = fold (play_event p units) (record { answers = []; state = opening p; count = 0 }) events
