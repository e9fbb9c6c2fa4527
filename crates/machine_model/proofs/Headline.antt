-- The headline: each event keeps the invariant, or ends the run with the claims as they should be; so
-- by induction on the list of events, every replay has the claims.
use Rattle.std.proofs.Common.{◌≡◌, ℕ, zero, suc, ◌+◌, ◌<◌, ◌≤◌, ◌⊎◌, inl, inr, true, false, List, [], ◌∷◌, ◌++◌, length, Option, Some, refl, sym, ap, ◌∙◌, subst, arith, take, length-append, unwrap_or}
use Rattle.std.specs.Prelude.{slice_get, slice_set}
use Rattle.std.specs.List.{AllByRecursion, fold}
use Rattle.mips_instructions.specs.Words.{address}
use Rattle.mips_plain.specs.MemoryMap.{byte_of}
use Rattle.mips_plain.specs.Effect.{memory_after, output_after, outcome_after, may_run_ahead}
use Rattle.mips_plain.specs.PlainMachine.{plain, reads}
use Rattle.mips_plain.specs.declared.outcome.Outcome.{Outcome}
use Rattle.mips_plain.specs.declared.outcome.Outcome.TheVariants.{Running, Halted, Trapped}
use Rattle.mips_plain.specs.declared.outcome.Read.{Read}
use Rattle.task_descriptor.specs.Listing.{Listing}
use Rattle.task_descriptor.specs.declared.descriptor.Marked.{Marked}
use Rattle.task_graph.specs.Soundness.{Sound}
use Rattle.machine_model.specs.Machine.{Active, State, opening, value}
use Rattle.machine_model.specs.Unit.{IsNext, put, executed, after_exec}
use Rattle.machine_model.specs.Step.{Next, Assigns, Transfers, Drains, Squashes, Retires, Faults, Drops, is_listed, started, stands, exec_leaves, retire_leaves}
use Rattle.machine_model.specs.Replay.{ReplaysFrom, Replays}
use Rattle.machine_model.specs.Claims.{plain_of, reads_of, by_head, count_c, EndsLike, Claims}
use Rattle.machine_model.specs.declared.event.Commit.{Commit}
use Rattle.machine_model.specs.declared.event.Event.{Event}
use Rattle.machine_model.specs.declared.event.Event.TheVariants.{Assign, Exec, Transfer, Drain, Squash, Retire, Fault, Drop}
use Rattle.machine_model.specs.declared.event.Spot.TheVariants.{Stopped}
use Rattle.machine_model.specs.declared.event.Standing.TheVariants as standing
use Rattle.machine_model.proofs.Instructions.{ahead_memory, ahead_output, ahead_runs, ended_writes}
use Rattle.machine_model.proofs.PlainRuns.{Leaves}
use Rattle.machine_model.proofs.Invariant.{UnitRight, PlaceRight, drained}
use Rattle.machine_model.proofs.UnitExec.{exec_ahead}
use Rattle.machine_model.proofs.Events.{QueueRight, head_right, queue_runs, head_has, behind_changes, unit_changes, cut, moved_on, fits_behind, head_leaves, memory_now, output_now, grown, exec_on, retired}

-- the run goes on, and c instructions have retired
pub record InvAt (p : Listing) (c : ℕ) (s : State) : Type 0 where
  pub reads_are : s.reads ≡ reads_of p c
  pub number : length s.reads ≡ c
  pub exits_are : AllByRecursion (λ (x : Commit). is_listed p x.task x.exit ≡ true) s.commits
  pub regs_are : (r : ℕ) → s.regs r ≡ (plain_of p c).regs r
  pub runs : (plain_of p c).outcome ≡ Running
  pub queue : QueueRight p c s.queue s.next s.memory s.output

pub record Good (p : Listing) (s : State) : Type 0 where
  pub claims : Claims p s
  pub inv : s.outcome ≡ standing.Running → InvAt p (count_c s) s

pub counted_push : (n : ℕ) (xs : List Commit) (x : Commit) → fold (λ (k : ℕ) (y : Commit). k + y.count) n (xs ++ x ∷ []) ≡ fold (λ (k : ℕ) (y : Commit). k + y.count) n xs + x.count
counted_push n [] x = refl
counted_push n (y ∷ ys) x = counted_push (n + y.count) ys x

all_push : {X : Type 0} (P : X → Type 0) (xs : List X) (x : X) → AllByRecursion P xs → P x → AllByRecursion P (xs ++ x ∷ [])
all_push P [] x all h = (h, tt)
all_push P (y ∷ ys) x all h = (all.0, all_push P ys x all.1 h)

module _ (p : Listing) where
  -- while the run goes on, the claims follow from the invariant
  pub settled : (s : State) → s.outcome ≡ standing.Running → InvAt p (count_c s) s → Good p s
  settled s runs inv = record {
    claims = record {
      reads = inv.reads_are;
      number = inv.number;
      exits = inv.exits_are;
      output = inv.queue.output_is;
      memory = inv.queue.memory_is;
      head = head_has p (count_c s) s.queue s.next s.memory s.output inv.queue;
      regs = inv.regs_are;
      ends = subst (EndsLike p s) (sym runs) (queue_runs p (count_c s) s.queue s.next s.memory s.output inv.runs inv.queue);
    };
    inv = λ e. inv;
  }

  -- the queue, memory and output change, and no instruction retires
  on_queue : (s : State) (queue : List Active) (memory : ℕ → ℕ) (output : List ℕ) (assigns : ℕ) → InvAt p (count_c s) s → QueueRight p (count_c s) queue s.next memory output → InvAt p (count_c s) (record s { queue = queue; memory = memory; output = output; assigns = assigns })
  on_queue s queue memory output assigns inv q = record {
    reads_are = inv.reads_are;
    number = inv.number;
    exits_are = inv.exits_are;
    regs_are = inv.regs_are;
    runs = inv.runs;
    queue = q;
  }

  good_queue : (s : State) (queue : List Active) → s.outcome ≡ standing.Running → InvAt p (count_c s) s → QueueRight p (count_c s) queue s.next s.memory s.output → Good p (record s { queue = queue })
  good_queue s queue runs inv q =
      settled (record s { queue = queue }) runs (on_queue s queue s.memory s.output s.assigns inv q)

  drain_good : (s s' : State) (k r : ℕ) → s.outcome ≡ standing.Running → InvAt p (count_c s) s → Drains p s k r s' → Good p s'
  drain_good s s' k r runs inv d =
      let one = d.sends in
      subst (Good p) (sym d.is) (good_queue s (slice_set s.queue k d.after) runs inv
      (unit_changes p (count_c s) s.queue s.next s.memory s.output k d.unit d.after d.is_unit
      (ap (λ (u : Active). u.task) one.is) (ap (λ (u : Active). u.log) one.is) (ap (λ (u : Active). u.arrived) one.is)
      (λ q i h. subst (UnitRight p q i) (sym one.is) (drained p d.unit r one.word one.exit one.has_stopped one.has_word h)) inv.queue))

  squash_good : (s s' : State) (k : ℕ) → s.outcome ≡ standing.Running → InvAt p (count_c s) s → Squashes p s k s' → Good p s'
  squash_good s s' k runs inv d =
      subst (Good p) (sym d.is) (good_queue s (take (suc k) s.queue) runs inv
      (cut p (count_c s) s.queue s.next s.memory s.output k inv.queue))

  drop_good : (s s' : State) (k : ℕ) → s.outcome ≡ standing.Running → InvAt p (count_c s) s → Drops s k s' → Good p s'
  drop_good s s' zero runs inv d = absurd (let b : 0 < 0 = d.is_behind in omega arith)
  drop_good s s' (suc k) runs inv d =
      subst (Good p) (sym d.is) (good_queue s (take (suc k) s.queue) runs inv
      (cut p (count_c s) s.queue s.next s.memory s.output k inv.queue))

  -- the head stopped at exit, so the plain machine stands there
  fault_claims : (s : State) (us : List Active) (head : Active) (exit : ℕ) → QueueRight p (count_c s) us s.next s.memory s.output → slice_get us 0 ≡ Some head → head.place ≡ Stopped exit → (plain_of p (count_c s + by_head us)).pc ≡ exit
  fault_claims s [] head exit q e stopped = absurd (cc)
  fault_claims s (x ∷ us) head exit q e stopped =
      let h = head_right p (count_c s) x us s.next s.memory s.output q in
      let is : x.place ≡ Stopped exit = (let same : x ≡ head = cc in ap (λ (y : Active). y.place) same ∙ stopped) in
      let place : PlaceRight p x.task (count_c s) h.now (Stopped exit) = subst (PlaceRight p x.task (count_c s) h.now) is h.place in
      subst (λ (k : ℕ). (plain_of p k).pc ≡ exit) h.count place.1

  fault_good : (s s' : State) → s.outcome ≡ standing.Running → InvAt p (count_c s) s → Faults p s s' → Good p s'
  fault_good s s' runs inv d =
      let claims : Claims p s = (settled s runs inv).claims in
      subst (Good p) (sym d.is) (record {
        claims = record {
          reads = claims.reads;
          number = claims.number;
          exits = claims.exits;
          output = claims.output;
          memory = claims.memory;
          head = claims.head;
          regs = claims.regs;
          ends = (
            queue_runs p (count_c s) s.queue s.next s.memory s.output inv.runs inv.queue,
            fault_claims s s.queue d.head d.exit inv.queue d.is_head d.is_stopped,
            (d.head, d.is_head, d.is_unlisted),
          );
        };
        inv = λ e. absurd (cc);
      })

  module _ (fits : length p.code ≤ 4096) (sound : Sound p) where
    assign_good : (units : ℕ) (s s' : State) (t : ℕ) → s.outcome ≡ standing.Running → InvAt p (count_c s) s → Assigns p units s t s' → Good p s'
    assign_good units s s' t runs inv d =
        subst (Good p) (sym d.is) (settled (record s { queue = s.queue ++ started p s t ∷ []; assigns = suc s.assigns }) runs
        (on_queue s (s.queue ++ started p s t ∷ []) s.memory s.output (suc s.assigns) inv
        (fits_behind p fits sound (count_c s) s.queue s.next s.memory s.output s.regs t s.assigns d.is_task d.may_follow inv.runs inv.regs_are inv.queue)))

    transfer_good : (s s' : State) (k r : ℕ) → s.outcome ≡ standing.Running → InvAt p (count_c s) s → Transfers p s k r s' → Good p s'
    transfer_good s s' k r runs inv d =
        let here : slice_get s.queue (suc d.ahead) ≡ Some d.unit = ap (slice_get s.queue) (sym d.is_ahead) ∙ d.is_unit in
        let queue : List Active = slice_set s.queue (suc d.ahead) (record (d.unit) { arrived = put r d.word d.unit.arrived }) in
        let is : s' ≡ record s { queue = queue } = d.is ∙ ap (λ (i : ℕ). record s { queue = slice_set s.queue i (record (d.unit) { arrived = put r d.word d.unit.arrived }) }) d.is_ahead in
        subst (Good p) (sym is) (good_queue s queue runs inv
        (moved_on p fits sound (count_c s) s.queue s.next s.memory s.output d.ahead r d.word d.giver d.unit d.is_giver here d.has_word inv.queue))

    -- Exec after the head: memory, output and outcome stay
    ahead_good : (s : State) (k : ℕ) (u : Active) (i : ℕ) (at : Marked) (a b : ℕ) → s.outcome ≡ standing.Running → InvAt p (count_c s) s → slice_get s.queue (suc k) ≡ Some u → IsNext p u i at a b → may_run_ahead at.op a ≡ true → Good p (exec_leaves p s (suc k) u at i a b)
    ahead_good s k u i at a b runs inv is_u is_next ahead =
        settled (exec_leaves p s (suc k) u at i a b) (ap stands (ahead_runs at.op a ahead)) (record {
          reads_are = inv.reads_are;
          number = inv.number;
          exits_are = inv.exits_are;
          regs_are = inv.regs_are;
          runs = inv.runs;
          queue = subst (λ (m : ℕ → ℕ). QueueRight p (count_c s) (slice_set s.queue (suc k) (after_exec p u at i a b s.memory)) s.next m (output_after at.op a s.output)) (sym (ahead_memory at.op a b s.memory ahead))
              (subst (QueueRight p (count_c s) (slice_set s.queue (suc k) (after_exec p u at i a b s.memory)) s.next s.memory) (sym (ahead_output at.op a s.output ahead))
              (behind_changes p (count_c s) s.queue s.next s.memory s.output k u (after_exec p u at i a b s.memory) is_u
              (ap (λ (o : Outcome). (executed o p u at i a b s.memory).task) (ahead_runs at.op a ahead))
              (λ q n h. exec_ahead p fits sound q n u h i at a b is_next s.memory ahead) inv.queue));
        })

    -- Exec of the head
    module _ (s : State) (u : Active) (us : List Active) (is_queue : s.queue ≡ u ∷ us) (runs : s.outcome ≡ standing.Running) (inv : InvAt p (count_c s) s)
        (i : ℕ) (at : Marked) (a b : ℕ) (is_next : IsNext p u i at a b) where
      c : ℕ
      c = count_c s

      abbrev q : QueueRight p (count_c s) (u ∷ us) s.next s.memory s.output
      q = subst (λ (x : List Active). QueueRight p (count_c s) x s.next s.memory s.output) is_queue inv.queue

      abbrev h : UnitRight p false (count_c s) u
      h = head_right p (count_c s) u us s.next s.memory s.output q

      abbrev left : Leaves p h.now i at a b
      left = head_leaves p fits sound (count_c s) u us s.next s.memory s.output q i at a b is_next

      abbrev on : suc h.now ≡ count_c s + length (u.log ++ record { pc = address i; a = a; b = b } ∷ [])
      on = grown p fits sound (count_c s) u us s.next s.memory s.output q i at a b is_next

      -- the state that it leaves, by how the instruction leaves the run
      abbrev leaves_by : Outcome → State
      leaves_by o = record s {
        queue = record (executed o p u at i a b s.memory) { log = u.log ++ record { pc = address i; a = a; b = b } ∷ [] } ∷ us;
        memory = memory_after at.op a b s.memory;
        output = output_after at.op a s.output;
        outcome = stands o;
      }

      -- it ends the run: no register is written, and the plain machine ends too
      ended : (o : Outcome) → executed o p u at i a b s.memory ≡ u → (stands o ≡ standing.Running → ⊥) → (outcome_after at.op a ≡ Running → ⊥) → EndsLike p (leaves_by o) (stands o) → Good p (leaves_by o)
      ended o stays stops never ends = record {
        claims = record {
          reads = inv.reads_are;
          number = inv.number;
          exits = inv.exits_are;
          output = ap (output_after at.op a) (output_now p fits sound (count_c s) u us s.next s.memory s.output q i at a b is_next)
              ∙ sym left.output ∙ ap (λ (k : ℕ). (plain_of p k).output) on;
          memory = ap (memory_after at.op a b) (memory_now p fits sound (count_c s) u us s.next s.memory s.output q i at a b is_next)
              ∙ sym left.memory ∙ ap (λ (k : ℕ). (plain_of p k).memory) on;
          head = λ v e r.
              let same : record (executed o p u at i a b s.memory) { log = u.log ++ record { pc = address i; a = a; b = b } ∷ [] } ≡ v = cc in
              ap (λ (x : Active). value x r) (sym same)
              ∙ ap (λ (x : Active). value x r) stays
              ∙ head_has p (count_c s) (u ∷ us) s.next s.memory s.output q u refl r
              ∙ ap (λ (k : ℕ). Some ((plain_of p k).regs r)) (sym h.count)
              ∙ ap Some (sym (left.regs r ∙ ap (λ (w : Option ℕ). unwrap_or w ((plain_of p h.now).regs r)) (ended_writes at.op a b (address i) (byte_of p.fixed) (plain_of p h.now).memory r never)))
              ∙ ap (λ (k : ℕ). Some ((plain_of p k).regs r)) on;
          regs = inv.regs_are;
          ends = ends;
        };
        inv = λ e. absurd (stops e);
      }

      outcome_then : (o : Outcome) → outcome_after at.op a ≡ o → (plain_of p (count_c s + length (u.log ++ record { pc = address i; a = a; b = b } ∷ []))).outcome ≡ o
      outcome_then o e = ap (λ (k : ℕ). (plain_of p k).outcome) (sym on) ∙ left.outcome ∙ e

      head_by : (o : Outcome) → outcome_after at.op a ≡ o → Good p (leaves_by o)
      head_by Running e = settled (leaves_by Running) refl (record {
        reads_are = inv.reads_are;
        number = inv.number;
        exits_are = inv.exits_are;
        regs_are = inv.regs_are;
        runs = inv.runs;
        queue = exec_on p fits sound (count_c s) u us s.next s.memory s.output q i at a b is_next e;
      })
      head_by Halted e = ended Halted refl (λ r. cc) (λ r. cc) (outcome_then Halted e)
      head_by (Trapped trap) e = ended (Trapped trap) refl (λ r. cc) (λ r. cc) (outcome_then (Trapped trap) e)

      pub head_good : Good p (exec_leaves p s 0 u at i a b)
      head_good = subst (λ (x : List Active). Good p (record (exec_leaves p s 0 u at i a b) { queue = slice_set x 0 (after_exec p u at i a b s.memory) })) (sym is_queue) (head_by (outcome_after at.op a) refl)

    exec_good : (s : State) (us : List Active) (k : ℕ) (u : Active) (i : ℕ) (at : Marked) (a b : ℕ) → s.queue ≡ us → s.outcome ≡ standing.Running → InvAt p (count_c s) s → slice_get us k ≡ Some u → IsNext p u i at a b → (k ≡ 0) ⊎ (may_run_ahead at.op a ≡ true) → Good p (exec_leaves p s k u at i a b)
    exec_good s [] zero u i at a b is_queue runs inv is_u is_next may = absurd (cc)
    exec_good s (x ∷ us) zero u i at a b is_queue runs inv is_u is_next may =
        let same : x ≡ u = cc in
        head_good s u us (is_queue ∙ ap (λ (y : Active). y ∷ us) same) runs inv i at a b is_next
    exec_good s us (suc k) u i at a b is_queue runs inv is_u is_next (inl zero_is) = absurd (omega arith)
    exec_good s us (suc k) u i at a b is_queue runs inv is_u is_next (inr ahead) =
        ahead_good s k u i at a b runs inv (ap (λ (x : List Active). slice_get x (suc k)) is_queue ∙ is_u) is_next ahead

    retire_good : (s s' : State) → s.outcome ≡ standing.Running → InvAt p (count_c s) s → Retires p s s' → Good p s'
    retire_good s s' runs inv d =
        let q = subst (λ (x : List Active). QueueRight p (count_c s) x s.next s.memory s.output) d.is_queue inv.queue in
        let h = head_right p (count_c s) d.head d.rest s.next s.memory s.output q in
        let n : ℕ = count_c s + length d.head.log in
        let r = retired p fits sound (count_c s) d.head d.rest s.next s.memory s.output s.regs d.exit q d.is_stopped d.next_begins d.all_sent inv.regs_are in
        let new : InvAt p n (retire_leaves p s d.head d.rest d.exit) = record {
          reads_are = ap (λ (xs : List Read). xs ++ d.head.log) inv.reads_are ∙ h.log ∙ ap (reads_of p) h.count;
          number = length-append s.reads d.head.log ∙ ap (λ (k : ℕ). k + length d.head.log) inv.number;
          exits_are = all_push (λ (x : Commit). is_listed p x.task x.exit ≡ true) s.commits (record { task = d.head.task; exit = d.exit; count = length d.head.log }) inv.exits_are d.is_listed;
          regs_are = r.1;
          runs = r.2;
          queue = r.0;
        } in
        let counted : n ≡ count_c (retire_leaves p s d.head d.rest d.exit) = sym (counted_push 0 s.commits (record { task = d.head.task; exit = d.exit; count = length d.head.log })) in
        subst (Good p) (sym d.is) (settled (retire_leaves p s d.head d.rest d.exit) runs
        (subst (λ (k : ℕ). InvAt p k (retire_leaves p s d.head d.rest d.exit)) counted new))

    pub step_good : (units : ℕ) (s s' : State) (e : Event) → Good p s → Next p units s e s' → Good p s'
    step_good units s s' (Assign t) good next = assign_good units s s' t next.runs (good.inv next.runs) next.does
    step_good units s s' (Exec k) good next =
        let d = next.does in
        subst (Good p) (sym d.is) (exec_good s s.queue k d.unit d.index d.at d.a d.b refl next.runs (good.inv next.runs) d.is_unit d.next d.may)
    step_good units s s' (Transfer k r) good next = transfer_good s s' k r next.runs (good.inv next.runs) next.does
    step_good units s s' (Drain k r) good next = drain_good s s' k r next.runs (good.inv next.runs) next.does
    step_good units s s' (Squash k) good next = squash_good s s' k next.runs (good.inv next.runs) next.does
    step_good units s s' Retire good next = retire_good s s' next.runs (good.inv next.runs) next.does
    step_good units s s' Fault good next = fault_good s s' next.runs (good.inv next.runs) next.does
    step_good units s s' (Drop k) good next = drop_good s s' k next.runs (good.inv next.runs) next.does

    pub replay_good : (units : ℕ) (events : List Event) (s s' : State) → Good p s → ReplaysFrom p units s events s' → Good p s'
    replay_good units [] s s' good replay = subst (Good p) (sym replay) good
    replay_good units (e ∷ events) s s' good replay = replay_good units events replay.0 s' (step_good units s replay.0 e good replay.1) replay.2

  pub opening_good : Good p (opening p)
  unfolding plain reads
  opening_good = settled (opening p) refl (record {
    reads_are = refl;
    number = refl;
    exits_are = tt;
    regs_are = λ r. refl;
    runs = refl;
    queue = record {
      next_is = refl;
      begins = refl;
      full = tt;
      right = tt;
      memory_is = refl;
      output_is = refl;
    };
  })

  pub every_replay_good : length p.code ≤ 4096 → Sound p → (units : ℕ) (events : List Event) (s : State) → Replays p units events s → Good p s
  every_replay_good fits sound units events s replay = replay_good fits sound units events (opening p) s opening_good replay
