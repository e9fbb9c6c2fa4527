-- What is seen of a sound program's machine is what the plain machine reads, and no direct exit is unlisted: by the
-- invariant of the headline where the run goes on, and by the last event where it has ended.
use Rattle.demonstration.proofs.Imports.{inl, inr, refl, sym, ap, ◌∙◌, subst, arith, append-nil, append_assoc, add-zero, length-append, true≢false, eqb-true, slice_get, slice_set, nat_eq, list_any, eq-eqb, or_cases, or_left, or_right, slice_get_within, address, taken, turn, outcome_after, may_run_ahead, fetch, pc_after, Outcome, Running, Halted, Trapped, Read, Listing, input, Marked, Path, stay, onward, is_indirect, Sound, is_target, Active, State, opening, task_at, Next, Faults, is_listed, stands, exec_leaves, ReplaysFrom, Replays, plain_of, reads_of, by_head, count_c, count_h, Event, Assign, Exec, Transfer, Drain, Squash, Retire, Fault, Drop, Standing, InvAt, Good, step_good, opening_good, NamesItsPlace, read_by_head, seen}
use Rattle.std.proofs.Common.{◌≡◌, ℕ, zero, suc, ◌+◌, ◌<◌, ◌≤◌, Bool, true, false, ◌⊎◌, List, [], ◌∷◌, ◌++◌, length, Some}
use Rattle.machine_model.specs.Unit.{IsNext, after_exec}
use Rattle.machine_model.specs.declared.event.Spot.TheVariants.{Stopped}
use Rattle.machine_model.specs.declared.event.Standing.TheVariants as standing
use Rattle.machine_model.proofs.Instructions.{ahead_runs, address_back, fetch_marked, leads_on, Leads}
use Rattle.machine_model.proofs.PlainRuns.{Leaves, Steps, Ends, exits, goes, step_leaves, sound_at, leads_inside}
use Rattle.machine_model.proofs.Invariant.{UnitRight, PlaceRight}
use Rattle.machine_model.proofs.Events.{QueueRight, head_at, head_right, head_leaves, grown}

-- the last of these reads is not of an instruction that names the place to which it goes
abbrev pub EndsIndirect : Listing → List Read → Type 0
EndsIndirect p reads = (count : ℕ) (last : Read) → length reads ≡ suc count → slice_get reads count ≡ Some last → NamesItsPlace p last.pc → ⊥

pub record SeenRight (p : Listing) (s : State) : Type 0 where
  pub reads : seen s ≡ reads_of p (count_h s)
  pub unlisted : (at : ℕ) → s.outcome ≡ standing.Unlisted at → EndsIndirect p (seen s)

running_is_not : (at : ℕ) (s : Standing) → s ≡ standing.Running → s ≡ standing.Unlisted at → ⊥
running_is_not at s runs ends = (let clash = sym runs ∙ ends in cc)

no_unlisted : (o : Outcome) (at : ℕ) → stands o ≡ standing.Unlisted at → ⊥
no_unlisted Running at e = (let f = e in cc)
no_unlisted Halted at e = (let f = e in cc)
no_unlisted (Trapped trap) at e = (let f = e in cc)

last_item : {X : Type 0} (xs : List X) (x y : X) (count : ℕ) → length (xs ++ x ∷ []) ≡ suc count → slice_get (xs ++ x ∷ []) count ≡ Some y → x ≡ y
last_item [] x y zero long there = cc
last_item [] x y (suc count) long there = absurd (omega arith)
last_item (z ∷ zs) x y zero long there = absurd (omega (arith, length-append zs (x ∷ [])))
last_item (z ∷ zs) x y (suc count) long there = last_item zs x y count (omega arith) there

any_then : {X : Type 0} (f g : X → Bool) → ((x : X) → f x ≡ true → g x ≡ true) → (xs : List X) → list_any f xs ≡ true → list_any g xs ≡ true
any_then f g then_ [] e = e
any_then f g then_ (x ∷ xs) e = elim (or_cases (f x) (list_any f xs) e) [
  | inl here ↦ or_left _ _ (then_ x here)
  | inr there ↦ or_right _ _ (any_then f g then_ xs there)
]

-- a task's run to its exit comes by a path from the entry to the step that goes over it
record ExitStep (p : Listing) (t m : ℕ) : Type 0 where
  before : ℕ
  is : m ≡ suc before
  step : Steps p true before
  path : Path p (task_at p t).entry step.index

module _ (p : Listing) (fits : length p.code ≤ 4096) (sound : Sound p) where
  exit_step : (t i : ℕ) {n m : ℕ} → t < length p.tasks → Path p (task_at p t).entry i → (plain_of p n).pc ≡ address i → Ends p n m → ExitStep p t m
  exit_step t i {n} h path pc (exits s) = record {
    before = n;
    is = refl;
    step = s;
    path = subst (Path p (task_at p t).entry) (sym (address_back s.index i (sym s.stands.pc_is ∙ pc))) path;
  }
  exit_step t i {n} h path pc (goes s e) =
      let same : s.index ≡ i = address_back s.index i (sym s.stands.pc_is ∙ pc) in
      let at_step : Path p (task_at p t).entry s.index = subst (Path p (task_at p t).entry) (sym same) path in
      let on : Leads s.at.op s.a s.b s.index = leads_inside p fits sound t s.index s.at s.a s.b h at_step s.stands.is_there s.kind s.goes_on in
      exit_step t on.to h
      (onward at_step (record { at = s.at; is_there = s.stands.is_there; taken = taken s.at.op s.a s.b; leads = on.leads; kind = s.kind }))
      ((step_leaves p n s.index s.at s.a s.b s.stands).pc
      ∙ ap (λ (o : Outcome). pc_after o (turn s.at.op s.a s.b (address s.index)) (address s.index)) s.goes_on
      ∙ on.turns)
      e

  -- a direct exit is listed
  exit_listed : (t n : ℕ) → t < length p.tasks → (s : Steps p true n) → Path p (task_at p t).entry s.index → is_indirect s.at.op ≡ false → is_listed p t (plain_of p (suc n)).pc ≡ true
  exit_listed t n h s path direct =
      let inside : s.index < length p.code = slice_get_within p.code s.index s.at s.stands.is_there in
      let on : Leads s.at.op s.a s.b s.index = leads_on s.at.op s.a s.b s.index (omega arith) direct s.goes_on in
      let listed : is_target (task_at p t) on.to ≡ true =
      (sound_at p fits sound t h).exits_listed s.index on.to path
      (record { at = s.at; is_there = s.stands.is_there; taken = taken s.at.op s.a s.b; leads = on.leads; kind = s.kind }) in
      let there : (plain_of p (suc n)).pc ≡ address on.to =
      (step_leaves p n s.index s.at s.a s.b s.stands).pc
      ∙ ap (λ (o : Outcome). pc_after o (turn s.at.op s.a s.b (address s.index)) (address s.index)) s.goes_on
      ∙ on.turns in
      subst (λ (at : ℕ). is_listed p t at ≡ true) (sym there)
      (any_then (nat_eq on.to) (λ (target : ℕ). nat_eq (address target) (address on.to))
      (λ target same. eq-eqb (address target) (address on.to) (ap address (sym (eqb-true on.to target same)))) (task_at p t).targets listed)

  -- what is seen where the run goes on

  seen_queue : (c : ℕ) (retired : List Read) (us : List Active) (next : ℕ) (memory : ℕ → ℕ) (output : List ℕ) → retired ≡ reads_of p c → QueueRight p c us next memory output → retired ++ read_by_head us ≡ reads_of p (c + by_head us)
  seen_queue c retired [] next memory output are q = append-nil retired ∙ are ∙ ap (reads_of p) (sym (add-zero c))
  seen_queue c retired (u ∷ us) next memory output are q =
      let h = head_right p c u us next memory output q in
      ap (λ (xs : List Read). xs ++ u.log) are ∙ h.log ∙ ap (reads_of p) h.count

  seen_inv : (s : State) → InvAt p (count_c s) s → seen s ≡ reads_of p (count_h s)
  seen_inv s inv = seen_queue (count_c s) s.reads s.queue s.next s.memory s.output inv.reads_are inv.queue

  seen_running : (s : State) → s.outcome ≡ standing.Running → Good p s → SeenRight p s
  seen_running s runs good = record {
    reads = seen_inv s (good.inv runs);
    unlisted = λ at ends. absurd (running_is_not at s.outcome runs ends);
  }

  -- an instruction of the head may end the run, and its read is the plain machine's
  module _ (s : State) (u : Active) (us : List Active) (is_queue : s.queue ≡ u ∷ us) (inv : InvAt p (count_c s) s)
      (i : ℕ) (at : Marked) (a b : ℕ) (is_next : IsNext p u i at a b) where
    abbrev q : QueueRight p (count_c s) (u ∷ us) s.next s.memory s.output
    q = subst (λ (x : List Active). QueueRight p (count_c s) x s.next s.memory s.output) is_queue inv.queue

    abbrev h : UnitRight p false (count_c s) u
    h = head_right p (count_c s) u us s.next s.memory s.output q

    abbrev left : Leaves p h.now i at a b
    left = head_leaves p fits sound (count_c s) u us s.next s.memory s.output q i at a b is_next

    abbrev here : List Read
    here = record { pc = address i; a = a; b = b } ∷ []

    head_reads : s.reads ++ (u.log ++ here) ≡ reads_of p (count_c s + length (u.log ++ here))
    head_reads =
        sym (append_assoc s.reads u.log here)
        ∙ ap (λ (xs : List Read). (xs ++ u.log) ++ here) inv.reads_are
        ∙ ap (λ (xs : List Read). xs ++ here) h.log
        ∙ sym left.reads
        ∙ ap (reads_of p) (grown p fits sound (count_c s) u us s.next s.memory s.output q i at a b is_next)

    head_seen : SeenRight p (exec_leaves p s 0 u at i a b)
    head_seen = subst (λ (x : List Active). SeenRight p (record (exec_leaves p s 0 u at i a b) { queue = slice_set x 0 (after_exec p u at i a b s.memory) })) (sym is_queue) (record {
      reads = head_reads;
      unlisted = λ exit ends. absurd (no_unlisted (outcome_after at.op a) exit ends);
    })

  exec_seen : (s : State) (us : List Active) (k : ℕ) (u : Active) (i : ℕ) (at : Marked) (a b : ℕ) → s.queue ≡ us → InvAt p (count_c s) s → slice_get us k ≡ Some u → IsNext p u i at a b → (k ≡ 0) ⊎ (may_run_ahead at.op a ≡ true) → Good p (exec_leaves p s k u at i a b) → SeenRight p (exec_leaves p s k u at i a b)
  exec_seen s [] zero u i at a b is_queue inv is_u is_next may good = absurd (cc)
  exec_seen s (x ∷ us) zero u i at a b is_queue inv is_u is_next may good =
      let same : x ≡ u = cc in
      head_seen s u us (is_queue ∙ ap (λ (y : Active). y ∷ us) same) inv i at a b is_next
  exec_seen s us (suc k) u i at a b is_queue inv is_u is_next (inl zero_is) good = absurd (omega arith)
  exec_seen s us (suc k) u i at a b is_queue inv is_u is_next (inr ahead) good =
      seen_running (exec_leaves p s (suc k) u at i a b) (ap stands (ahead_runs at.op a ahead)) good

  -- the head has stopped at an exit that is not listed: the step over it was no direct one
  cut_by : (c : ℕ) (retired : List Read) (us : List Active) (next : ℕ) (memory : ℕ → ℕ) (output : List ℕ) (head : Active) (exit : ℕ) → retired ≡ reads_of p c → QueueRight p c us next memory output → slice_get us 0 ≡ Some head → head.place ≡ Stopped exit → is_listed p head.task exit ≡ false → EndsIndirect p (retired ++ read_by_head us)
  cut_by c retired [] next memory output head exit are q there stopped unlisted count last long is names = absurd (cc)
  cut_by c retired (u ∷ us) next memory output head exit are q there stopped unlisted count last long is names =
      let same : u ≡ head = cc in
      let h = head_right p c u us next memory output q in
      let at = head_at p c u us next memory output q in
      let stands_at : u.place ≡ Stopped exit = ap (λ (x : Active). x.place) same ∙ stopped in
      let place : PlaceRight p u.task c h.now (Stopped exit) = subst (PlaceRight p u.task c h.now) stands_at h.place in
      let over = exit_step u.task (task_at p u.task).entry h.is_task stay at place.0 in
      let s = over.step in
      let left = step_leaves p over.before s.index s.at s.a s.b s.stands in
      let all : retired ++ u.log ≡ reads_of p over.before ++ record { pc = address s.index; a = s.a; b = s.b } ∷ [] =
      ap (λ (xs : List Read). xs ++ u.log) are ∙ h.log ∙ ap (reads_of p) over.is ∙ left.reads in
      let read : record { pc = address s.index; a = s.a; b = s.b } ≡ last =
      last_item (reads_of p over.before) (record { pc = address s.index; a = s.a; b = s.b }) last count
      (ap length (sym all) ∙ long) (ap (λ (xs : List Read). slice_get xs count) (sym all) ∙ is) in
      let fetched : fetch (input p).code (address s.index) ≡ Some s.at.op = fetch_marked p s.index s.at s.stands.is_there in
      let found : fetch (input p).code (address s.index) ≡ Some names.op =
      ap (λ (r : Read). fetch (input p).code r.pc) read ∙ names.is_there in
      let op : names.op ≡ s.at.op = (let clash = sym found ∙ fetched in cc) in
      let direct : is_indirect s.at.op ≡ false = ap is_indirect (sym op) ∙ names.is_direct in
      let listed : is_listed p u.task (plain_of p (suc over.before)).pc ≡ true = exit_listed u.task over.before h.is_task s over.path direct in
      let exits_there : (plain_of p (suc over.before)).pc ≡ exit = ap (λ (n : ℕ). (plain_of p n).pc) (sym over.is) ∙ place.1 in
      true≢false (sym listed ∙ ap (is_listed p u.task) exits_there ∙ ap (λ (x : Active). is_listed p x.task exit) same ∙ unlisted)

  fault_seen : (s s' : State) → InvAt p (count_c s) s → Faults p s s' → SeenRight p s'
  fault_seen s s' inv d = subst (SeenRight p) (sym d.is) (record {
    reads = seen_inv s inv;
    unlisted = λ at ends. cut_by (count_c s) s.reads s.queue s.next s.memory s.output d.head d.exit inv.reads_are inv.queue d.is_head d.is_stopped d.is_unlisted;
  })

  step_seen : (units : ℕ) (s s' : State) (e : Event) → Good p s → Next p units s e s' → Good p s' → SeenRight p s'
  step_seen units s s' (Assign t) good next there = seen_running s' (ap (λ (x : State). x.outcome) next.does.is ∙ next.runs) there
  step_seen units s s' (Exec k) good next there =
      let d = next.does in
      subst (SeenRight p) (sym d.is)
      (exec_seen s s.queue k d.unit d.index d.at d.a d.b refl (good.inv next.runs) d.is_unit d.next d.may (subst (Good p) d.is there))
  step_seen units s s' (Transfer k r) good next there = seen_running s' (ap (λ (x : State). x.outcome) next.does.is ∙ next.runs) there
  step_seen units s s' (Drain k r) good next there = seen_running s' (ap (λ (x : State). x.outcome) next.does.is ∙ next.runs) there
  step_seen units s s' (Squash k) good next there = seen_running s' (ap (λ (x : State). x.outcome) next.does.is ∙ next.runs) there
  step_seen units s s' Retire good next there = seen_running s' (ap (λ (x : State). x.outcome) next.does.is ∙ next.runs) there
  step_seen units s s' Fault good next there = fault_seen s s' (good.inv next.runs) next.does
  step_seen units s s' (Drop k) good next there = seen_running s' (ap (λ (x : State). x.outcome) next.does.is ∙ next.runs) there

  replay_seen : (units : ℕ) (events : List Event) (s s' : State) → Good p s → SeenRight p s → ReplaysFrom p units s events s' → SeenRight p s'
  replay_seen units [] s s' good right replay = subst (SeenRight p) (sym replay) right
  replay_seen units (e ∷ events) s s' good right replay =
      let next = step_good p fits sound units s replay.0 e good replay.1 in
      replay_seen units events replay.0 s' next (step_seen units s replay.0 e good replay.1 next) replay.2

  pub every_replay_seen : (units : ℕ) (events : List Event) (s : State) → Replays p units events s → SeenRight p s
  every_replay_seen units events s replay =
      replay_seen units events (opening p) s (opening_good p) (seen_running (opening p) refl (opening_good p)) replay
