-- What each event leaves of the invariant over the queue: lemmas over the list of units, by cases on
-- it. Only the head's instructions and a Retire move the point up to which the plain run has come.
use Rattle.std.proofs.Common.{◌≡◌, ℕ, zero, suc, ◌+◌, ◌<◌, ◌≤◌, Bool, true, false, cond, List, [], ◌∷◌, ◌++◌, length, Option, Some, None, refl, sym, ap, ◌∙◌, subst, arith, take, length-append, eqb-true, add-zero, true≢false, unwrap_or}
use Rattle.std.proofs.lemmas.Bool.{cond-true}
use Rattle.std.specs.Prelude.{slice_get, slice_set, nat_eq, IsSome, is_some}
use Rattle.std.specs.Option.{option_or}
use Rattle.mips_instructions.specs.Words.{address}
use Rattle.mips_plain.specs.MemoryMap.{byte_of}
use Rattle.mips_plain.specs.Effect.{written, memory_after, output_after, outcome_after}
use Rattle.mips_plain.specs.declared.outcome.Outcome.TheVariants.{Running}
use Rattle.task_descriptor.specs.Listing.{Listing}
use Rattle.task_descriptor.specs.declared.descriptor.Marked.{Marked}
use Rattle.task_graph.specs.Soundness.{Sound}
use Rattle.machine_model.specs.Machine.{Words, Active, task_at, creates, begins, value, pass}
use Rattle.machine_model.specs.Unit.{IsNext, put, moved}
use Rattle.machine_model.specs.Step.{is_reserved, follows, next_begins, filled, handed_over}
use Rattle.machine_model.specs.Claims.{plain_of, by_head}
use Rattle.machine_model.specs.declared.event.Spot.TheVariants.{Inside, Stopped}
use Rattle.std.specs.List.{last_or}
use Rattle.machine_model.proofs.PlainRuns.{Leaves, step_leaves, Ends, end_runs, not_created}
use Rattle.machine_model.proofs.Invariant.{UnitRight, RightFrom, Quiet, PlaceRight, value_right, update, front, transferred, assigned, filled_right, pass_right}
use Rattle.machine_model.proofs.UnitExec.{stands_there, moved_right}

-- every register has arrived at the head
abbrev pub HeadFull : List Active → Type 0
HeadFull [] = Unit {0}
HeadFull (u ∷ us) = (r : ℕ) → IsSome (u.arrived r)

-- the queue, the next address, memory and output, where c instructions have retired
pub record QueueRight (p : Listing) (c : ℕ) (us : List Active) (next : ℕ) (memory : ℕ → ℕ) (output : List ℕ) : Type 0 where
  pub next_is : next ≡ (plain_of p c).pc
  pub begins : next_begins p us next ≡ true
  pub full : HeadFull us
  pub right : RightFrom p false c us
  pub memory_is : memory ≡ (plain_of p (c + by_head us)).memory
  pub output_is : output ≡ (plain_of p (c + by_head us)).output

some_value : (b : Bool) (l a : Option ℕ) → is_some a ≡ true → (w : ℕ) × (cond b (Some 0) (option_or l a) ≡ Some w)
some_value true l a e = (0, refl)
some_value false (Some w) a e = (w, refl)
some_value false None (Some w) e = (w, refl)
some_value false None None e = absurd (cc)

arrived_found : (b : Bool) (x w : ℕ) → cond b None (Some x) ≡ Some w → (b ≡ false) × (x ≡ w)
arrived_found true x w e = absurd (cc)
arrived_found false x w e = (refl, cc)

filled_some : (o : Option ℕ) (x : ℕ) → is_some (option_or o (Some x)) ≡ true
filled_some (Some v) x = refl
filled_some None x = refl

module _ (p : Listing) where
  -- the head

  pub head_at : (c : ℕ) (u : Active) (us : List Active) (next : ℕ) (memory : ℕ → ℕ) (output : List ℕ) → QueueRight p c (u ∷ us) next memory output → (plain_of p c).pc ≡ begins p u.task
  head_at c u us next memory output q = sym (eqb-true (begins p u.task) next q.begins ∙ q.next_is)

  pub head_right : (c : ℕ) (u : Active) (us : List Active) (next : ℕ) (memory : ℕ → ℕ) (output : List ℕ) → QueueRight p c (u ∷ us) next memory output → UnitRight p false c u
  head_right c u us next memory output q = (q.right (head_at c u us next memory output q)).0

  pub queue_runs : (c : ℕ) (us : List Active) (next : ℕ) (memory : ℕ → ℕ) (output : List ℕ) → (plain_of p c).outcome ≡ Running → QueueRight p c us next memory output → (plain_of p (c + by_head us)).outcome ≡ Running
  queue_runs c [] next memory output runs q = subst (λ (k : ℕ). (plain_of p k).outcome ≡ Running) (sym (add-zero c)) runs
  queue_runs c (u ∷ us) next memory output runs q =
      let h = head_right c u us next memory output q in
      subst (λ (k : ℕ). (plain_of p k).outcome ≡ Running) h.count h.runs

  pub head_has : (c : ℕ) (us : List Active) (next : ℕ) (memory : ℕ → ℕ) (output : List ℕ) → QueueRight p c us next memory output → (u : Active) → slice_get us 0 ≡ Some u → (r : ℕ) → value u r ≡ Some ((plain_of p (c + by_head us)).regs r)
  head_has c [] next memory output q u e r = absurd (cc)
  head_has c (x ∷ us) next memory output q u e r =
      let h = head_right c x us next memory output q in
      let same : x ≡ u = cc in
      let some = some_value (nat_eq 0 r) (x.local r) (x.arrived r) (q.full r) in
      let is : value x r ≡ Some ((plain_of p (c + length x.log)).regs r) =
      some.1 ∙ ap Some (sym (value_right p h r some.0 some.1) ∙ ap (λ (k : ℕ). (plain_of p k).regs r) h.count) in
      subst (λ (y : Active). value y r ≡ Some ((plain_of p (c + length x.log)).regs r)) same is

  -- a unit after the head changes
  pub behind_changes : (c : ℕ) (us : List Active) (next : ℕ) (memory : ℕ → ℕ) (output : List ℕ) (k : ℕ) (u v : Active) → slice_get us (suc k) ≡ Some u → v.task ≡ u.task → ((q : Bool) (i : ℕ) → UnitRight p q i u → UnitRight p q i v) → QueueRight p c us next memory output → QueueRight p c (slice_set us (suc k) v) next memory output
  behind_changes c [] next memory output k u v e same keeps q = absurd (cc)
  behind_changes c (x ∷ us) next memory output k u v e same keeps q = record {
    next_is = q.next_is;
    begins = q.begins;
    full = q.full;
    right = update p false c (x ∷ us) (suc k) u v e same keeps q.right;
    memory_is = q.memory_is;
    output_is = q.output_is;
  }

  -- a unit changes, but not its log or what arrived
  pub unit_changes : (c : ℕ) (us : List Active) (next : ℕ) (memory : ℕ → ℕ) (output : List ℕ) (k : ℕ) (u v : Active) → slice_get us k ≡ Some u → v.task ≡ u.task → v.log ≡ u.log → v.arrived ≡ u.arrived → ((q : Bool) (i : ℕ) → UnitRight p q i u → UnitRight p q i v) → QueueRight p c us next memory output → QueueRight p c (slice_set us k v) next memory output
  unit_changes c us next memory output (suc k) u v e same log arrived keeps q = behind_changes c us next memory output k u v e same keeps q
  unit_changes c [] next memory output zero u v e same log arrived keeps q = absurd (cc)
  unit_changes c (x ∷ us) next memory output zero u v e same log arrived keeps q =
      let is_u : x ≡ u = cc in
      let same_log : length x.log ≡ length v.log = ap (λ (y : Active). length y.log) is_u ∙ ap length (sym log) in
      let same_arrived : x.arrived ≡ v.arrived = ap (λ (y : Active). y.arrived) is_u ∙ sym arrived in
      let same_task : x.task ≡ v.task = ap (λ (y : Active). y.task) is_u ∙ sym same in
      record {
        next_is = q.next_is;
        begins = ap (λ (t : ℕ). nat_eq (begins p t) next) (sym same_task) ∙ q.begins;
        full = λ r. ap (λ (f : Words). is_some (f r)) (sym same_arrived) ∙ q.full r;
        right = update p false c (x ∷ us) zero u v e same keeps q.right;
        memory_is = q.memory_is ∙ ap (λ (k : ℕ). (plain_of p (c + k)).memory) same_log;
        output_is = q.output_is ∙ ap (λ (k : ℕ). (plain_of p (c + k)).output) same_log;
      }

  -- Squash and Drop
  pub cut : (c : ℕ) (us : List Active) (next : ℕ) (memory : ℕ → ℕ) (output : List ℕ) (k : ℕ) → QueueRight p c us next memory output → QueueRight p c (take (suc k) us) next memory output
  cut c [] next memory output k q = q
  cut c (x ∷ us) next memory output k q = record {
    next_is = q.next_is;
    begins = q.begins;
    full = q.full;
    right = front p false c (x ∷ us) (suc k) q.right;
    memory_is = q.memory_is;
    output_is = q.output_is;
  }

  module _ (fits : length p.code ≤ 4096) (sound : Sound p) where
    -- Transfer
    pub moved_on : (c : ℕ) (us : List Active) (next : ℕ) (memory : ℕ → ℕ) (output : List ℕ) (k r word : ℕ) (giver unit : Active) → slice_get us k ≡ Some giver → slice_get us (suc k) ≡ Some unit → pass p giver r ≡ Some word → QueueRight p c us next memory output → QueueRight p c (slice_set us (suc k) (record unit { arrived = put r word unit.arrived })) next memory output
    moved_on c [] next memory output k r word giver unit g u e q = absurd (cc)
    moved_on c (x ∷ us) next memory output k r word giver unit g u e q = record {
      next_is = q.next_is;
      begins = q.begins;
      full = q.full;
      right = transferred p fits sound false c (x ∷ us) k r word giver unit g u e q.right;
      memory_is = q.memory_is;
      output_is = q.output_is;
    }

    -- Assign
    pub fits_behind : (c : ℕ) (us : List Active) (next : ℕ) (memory : ℕ → ℕ) (output : List ℕ) (regs : ℕ → ℕ) (t serial : ℕ) → t < length p.tasks → follows p next t (last_or None us) ≡ true → (plain_of p c).outcome ≡ Running → ((r : ℕ) → regs r ≡ (plain_of p c).regs r) → QueueRight p c us next memory output →
        QueueRight p c (us ++ record { task = t; serial = serial; arrived = λ r. cond (is_reserved p us r) None (Some (regs r)); local = λ r. None; sent = λ r. None; place = Inside (task_at p t).entry; log = [] } ∷ []) next memory output
    fits_behind c [] next memory output regs t serial is_task may runs are q = record {
      next_is = q.next_is;
      begins = may;
      full = λ r. refl;
      right = assigned p fits sound [] false c t serial (λ r. Some (regs r)) is_task runs
          (λ r w e. (refl, sym (are r) ∙ (arrived_found false (regs r) w e).1)) q.right;
      memory_is = q.memory_is;
      output_is = q.output_is;
    }
    fits_behind c (x ∷ us) next memory output regs t serial is_task may runs are q = record {
      next_is = q.next_is;
      begins = q.begins;
      full = q.full;
      right = assigned p fits sound (x ∷ us) false c t serial (λ r. cond (is_reserved p (x ∷ us) r) None (Some (regs r))) is_task runs
          (λ r w e. let found = arrived_found (is_reserved p (x ∷ us) r) (regs r) w e in (found.0, sym (are r) ∙ found.1)) q.right;
      memory_is = q.memory_is;
      output_is = q.output_is;
    }

    -- Exec of the head, which goes on
    module _ (c : ℕ) (u : Active) (us : List Active) (next : ℕ) (memory : ℕ → ℕ) (output : List ℕ) (q : QueueRight p c (u ∷ us) next memory output)
        (i : ℕ) (at : Marked) (a b : ℕ) (is_next : IsNext p u i at a b) where
      abbrev pub h : UnitRight p false c u
      h = head_right c u us next memory output q

      pub head_leaves : Leaves p h.now i at a b
      head_leaves = step_leaves p h.now i at a b (stands_there p fits sound false c u h i at a b is_next)

      pub memory_now : memory ≡ (plain_of p h.now).memory
      memory_now = q.memory_is ∙ ap (λ (k : ℕ). (plain_of p k).memory) (sym h.count)

      pub output_now : output ≡ (plain_of p h.now).output
      output_now = q.output_is ∙ ap (λ (k : ℕ). (plain_of p k).output) (sym h.count)

      -- how far the plain run has come then
      pub grown : suc h.now ≡ c + length (u.log ++ record { pc = address i; a = a; b = b } ∷ [])
      grown = let n = h.count in omega (arith, length-append u.log (record { pc = address i; a = a; b = b } ∷ []))

      pub exec_on : outcome_after at.op a ≡ Running → QueueRight p c (record (moved p u at i a b memory) { log = u.log ++ record { pc = address i; a = a; b = b } ∷ [] } ∷ us) next (memory_after at.op a b memory) (output_after at.op a output)
      exec_on runs = record {
        next_is = q.next_is;
        begins = q.begins;
        full = q.full;
        right = λ start. (
          moved_right p fits sound false c u h i at a b is_next runs memory
              (λ r. ap (λ (m : ℕ → ℕ). written at.op a b (address i) (byte_of p.fixed) m r) memory_now)
              (λ e. absurd (true≢false (sym e))),
          (q.right start).1,
        );
        memory_is = ap (memory_after at.op a b) memory_now ∙ sym head_leaves.memory ∙ ap (λ (k : ℕ). (plain_of p k).memory) grown;
        output_is = ap (output_after at.op a) output_now ∙ sym head_leaves.output ∙ ap (λ (k : ℕ). (plain_of p k).output) grown;
      }

    -- Retire

    handed_found : (b : Bool) (s : Option ℕ) (x y z : ℕ) → (b ≡ true → is_some s ≡ true) → (b ≡ true → (v : ℕ) → s ≡ Some v → y ≡ v) → (b ≡ false → y ≡ z) → x ≡ z → unwrap_or (cond b s None) x ≡ y
    handed_found true (Some v) x y z all sent kept e = sym (sent refl v refl)
    handed_found true None x y z all sent kept e = absurd (let none = all refl in cc)
    handed_found false s x y z all sent kept e = e ∙ sym (kept refl)

    -- the head's registers are handed over as the plain machine has them at the task's end
    pub handed_right : (c m : ℕ) (u : Active) (regs : ℕ → ℕ) → (plain_of p c).pc ≡ begins p u.task → UnitRight p false c u → Ends p c m → ((r : ℕ) → creates p u.task r ≡ true → IsSome (u.sent r)) → ((r : ℕ) → regs r ≡ (plain_of p c).regs r) → (r : ℕ) → handed_over p u regs r ≡ (plain_of p m).regs r
    handed_right c m u regs at h ends all are r =
        handed_found (creates p u.task r) (u.sent r) (regs r) ((plain_of p m).regs r) ((plain_of p c).regs r)
        (all r)
        (λ created v e. pass_right p fits sound u r v at h ends (cond-true (creates p u.task r) (u.sent r) (u.arrived r) created ∙ e))
        (λ never. not_created p fits sound u.task r h.is_task at never ends)
        (are r)

    filled_begins : (us : List Active) (regs : ℕ → ℕ) (at : ℕ) → next_begins p us at ≡ true → next_begins p (filled regs us) at ≡ true
    filled_begins [] regs at e = refl
    filled_begins (u ∷ us) regs at e = e

    filled_full : (us : List Active) (regs : ℕ → ℕ) → HeadFull (filled regs us)
    filled_full [] regs = tt
    filled_full (u ∷ us) regs = λ r. filled_some (u.arrived r) (regs r)

    -- what the new head executed ahead left memory and output as they were
    filled_quiet : (us : List Active) (regs : ℕ → ℕ) (n : ℕ) → next_begins p us (plain_of p n).pc ≡ true → RightFrom p true n us → Quiet p true n (n + by_head (filled regs us))
    filled_quiet [] regs n e h = (
      ap (λ (k : ℕ). (plain_of p k).memory) (add-zero n),
      ap (λ (k : ℕ). (plain_of p k).output) (add-zero n),
    )
    filled_quiet (u ∷ us) regs n e h =
        let right : UnitRight p true n u = (h (sym (eqb-true (begins p u.task) (plain_of p n).pc e))).0 in (
          ap (λ (k : ℕ). (plain_of p k).memory) (sym right.count) ∙ right.quiet.0,
          ap (λ (k : ℕ). (plain_of p k).output) (sym right.count) ∙ right.quiet.1,
        )

    pub retired : (c : ℕ) (u : Active) (us : List Active) (next : ℕ) (memory : ℕ → ℕ) (output : List ℕ) (regs : ℕ → ℕ) (exit : ℕ) → (q : QueueRight p c (u ∷ us) next memory output) → u.place ≡ Stopped exit → next_begins p us exit ≡ true → ((r : ℕ) → creates p u.task r ≡ true → IsSome (u.sent r)) → ((r : ℕ) → regs r ≡ (plain_of p c).regs r) →
        QueueRight p (c + length u.log) (filled (handed_over p u regs) us) exit memory output × ((r : ℕ) → handed_over p u regs r ≡ (plain_of p (c + length u.log)).regs r) × ((plain_of p (c + length u.log)).outcome ≡ Running)
    retired c u us next memory output regs exit q stopped begins all are =
        let h = head_right c u us next memory output q in
        let at = head_at c u us next memory output q in
        let n : ℕ = c + length u.log in
        let place : PlaceRight p u.task c n (Stopped exit) =
        subst (λ (k : ℕ). PlaceRight p u.task c k (Stopped exit)) h.count (subst (PlaceRight p u.task c h.now) stopped h.place) in
        let rest : RightFrom p true n us = (q.right at).1 n place.0 in
        let here : next_begins p us (plain_of p n).pc ≡ true = subst (λ (k : ℕ). next_begins p us k ≡ true) (sym place.1) begins in
        let quiet = filled_quiet us (handed_over p u regs) n here rest in
        let handed = handed_right c n u regs at h place.0 all are in (
          record {
            next_is = sym place.1;
            begins = filled_begins us (handed_over p u regs) exit begins;
            full = filled_full us (handed_over p u regs);
            right = filled_right p us (handed_over p u regs) n handed rest;
            memory_is = q.memory_is ∙ sym quiet.0;
            output_is = q.output_is ∙ sym quiet.1;
          },
          handed,
          end_runs place.0,
        )
