-- What a change of the queue alone, a new unit and the words handed over are in the model.
use Rattle.std.proofs.Common.{◌≡◌, ℕ, suc, ◌+◌, ◌<◌, ◌≤◌, ◌≢◌, inl, inr, Bool, true, false, cond, List, ◌∷◌, [], ◌++◌, length, take, drop, Option, Some, None, refl, sym, ap, ◌∙◌, arith, add-one, unwrap_or, get_or-set_same, get_or-set_other}
use Rattle.std.specs.Prelude.{slice_get, slice_set, slice_index, if◌then◌else◌}
use Rattle.std.specs.Option.{option_and_then}
use Rattle.std.proofs.lemmas.Bool.{cases_eq, cases_lt}
use Rattle.std.proofs.lemmas.List.{take-map, map-append}
use Rattle.std.proofs.Math.Path.{fun_ext}
use Rattle.mips_instructions.specs.Words.{has}
use Rattle.mips_plain.specs.declared.outcome.Read.{Read}
use Rattle.task_descriptor.specs.Listing.{Listing}
use Rattle.machine_model.specs.Machine.{Active, State, Words, task_at}
use Rattle.machine_model.specs.Step.{is_reserved, started, filled, handed_over, retire_leaves}
use Rattle.machine_model.specs.Unit.{exit_of}
use Rattle.machine_model.specs.Answer.{with_queue, with_unit, after}
use Rattle.machine_model.specs.declared.event.Commit.{Commit}
use Rattle.machine_model.specs.declared.event.Event.TheVariants.{Assign, Retire}
use Rattle.register_ring.specs.Held.{no_pairs}
use Rattle.register_ring.specs.Ports.{Ports, arrived_of, sent_of, arrived_fresh}
use Rattle.unit_core.specs.Units.{UnitView, active_of, begun}
use Rattle.processor_steps.specs.Processors.{QueueView, ProcessorView, state_of, actives}

-- the front of the queue

pub front : (v v0 : ProcessorView) (q : QueueView) (k : ℕ) → v ≡ v0 → q ≡ record { units = take k v.queue.units; capacity = v.queue.capacity } → with_queue (state_of v) (actives q) ≡ with_queue (state_of v0) (take k (actives v0.queue))
front v v0 q k same is =
    ap (λ (x : QueueView). with_queue (state_of v) (actives x)) is
    ∙ ap (λ (us : List Active). with_queue (state_of v) us) (sym (take-map active_of k v.queue.units))
    ∙ ap (λ (x : ProcessorView). with_queue (state_of x) (take k (actives x.queue))) same

pub front_more : (v v0 : ProcessorView) (q : QueueView) (k : ℕ) → v ≡ v0 → q ≡ record { units = take (k + 1) v.queue.units; capacity = v.queue.capacity } → with_queue (state_of v) (actives q) ≡ with_queue (state_of v0) (take (suc k) (actives v0.queue))
front_more v v0 q k same is =
    front v v0 q (k + 1) same is ∙ ap (λ (n : ℕ). with_queue (state_of v0) (take n (actives v0.queue))) (add-one k)

-- a unit that begins: a register is reserved where an active task may produce it

abbrev unit_with : Listing → (t serial : ℕ) → (arrived sent : Words) → Active
unit_with p t serial arrived sent = record (begun p t serial (record {
  arrived = record { set = 0; words = [] };
  sent = record { set = 0; words = [] };
})) { arrived = arrived; sent = sent }

pub begun_started : (p : Listing) (s : State) (words : List ℕ) (accum t : ℕ) (port : Ports) → ((r : ℕ) → has accum r ≡ is_reserved p s.queue r) → s.regs ≡ (λ r. slice_index words r) → arrived_of port ≡ arrived_fresh words accum → sent_of port ≡ no_pairs → begun p t s.assigns port ≡ started p s t
begun_started p s words accum t port reserved regs arrived sent =
    let same : arrived_fresh words accum ≡ (λ r. if is_reserved p s.queue r then None else Some (s.regs r)) =
    fun_ext (λ r. ap (λ (b : Bool). cond b None (Some (slice_index words r))) (reserved r)
    ∙ ap (λ (f : ℕ → ℕ). cond (is_reserved p s.queue r) None (Some (f r))) (sym regs)) in
    ap (λ (x : Words). unit_with p t s.assigns x (sent_of port)) (arrived ∙ same)
    ∙ ap (λ (x : Words). unit_with p t s.assigns (λ r. if is_reserved p s.queue r then None else Some (s.regs r)) x) sent

-- the words that a unit sent, handed over one register after another

module _ (create : ℕ → Bool) (sent : ℕ → Option ℕ) (first : List ℕ) where
  abbrev pub handed : ℕ → ℕ
  handed r = unwrap_or (if create r then sent r else None) (slice_index first r)

  not_created : (r : ℕ) → create r ≡ false → slice_index first r ≡ handed r
  not_created r e = sym (ap (λ (b : Bool). unwrap_or (cond b (sent r) None) (slice_index first r)) e)

  pub handed_more : (now : List ℕ) (from place : ℕ) → from ≤ place → place < length now → create place ≡ true → ((s : ℕ) → from ≤ s → s < place → create s ≡ false) → ((r : ℕ) → r < from → slice_index now r ≡ handed r) → ((r : ℕ) → from ≤ r → slice_index now r ≡ slice_index first r) → (r : ℕ) → r < place + 1 → slice_index (slice_set now place (unwrap_or (sent place) (slice_index now place))) r ≡ handed r
  handed_more now from place low within created least done rest r below =
      elim (cases_eq r place) [
        | inl same ↦
            ap (λ (x : ℕ). slice_index (slice_set now place (unwrap_or (sent place) (slice_index now place))) x) same
            ∙ get_or-set_same now place (unwrap_or (sent place) (slice_index now place)) 0 within
            ∙ ap (λ (x : ℕ). unwrap_or (sent place) x) (rest place low)
            ∙ sym (ap (λ (b : Bool). unwrap_or (cond b (sent place) None) (slice_index first place)) created)
            ∙ ap handed (sym same)
        | inr other ↦
            get_or-set_other now place r (unwrap_or (sent place) (slice_index now place)) 0 other
            ∙ (elim (cases_lt r from) [
              | inl before ↦ done r before
              | inr behind ↦ rest r behind ∙ not_created r (least r behind (omega arith))
            ])
      ]

  pub rest_more : (now : List ℕ) (from place : ℕ) (word : ℕ) → from ≤ place → ((r : ℕ) → from ≤ r → slice_index now r ≡ slice_index first r) → (r : ℕ) → place + 1 ≤ r → slice_index (slice_set now place word) r ≡ slice_index first r
  rest_more now from place word low rest r behind =
      get_or-set_other now place r word 0 (let other : r ≢ place = omega arith in other) ∙ rest r (omega arith)

  pub handed_all : (now : List ℕ) (from : ℕ) → ((s : ℕ) → from ≤ s → create s ≡ false) → ((r : ℕ) → r < from → slice_index now r ≡ handed r) → ((r : ℕ) → from ≤ r → slice_index now r ≡ slice_index first r) → (r : ℕ) → slice_index now r ≡ handed r
  handed_all now from none done rest r = elim (cases_lt r from) [
    | inl before ↦ done r before
    | inr behind ↦ rest r behind ∙ not_created r (none r behind)
  ]

pub assigned : (p : Listing) (v : ProcessorView) (q : QueueView) (t accum n : ℕ) (port : Ports) (u : UnitView) → q ≡ record { units = v.queue.units ++ u ∷ []; capacity = v.queue.capacity } → active_of u ≡ begun p t v.assigns port → ((r : ℕ) → has accum r ≡ is_reserved p (actives v.queue) r) → arrived_of port ≡ arrived_fresh v.registers accum → sent_of port ≡ no_pairs → n ≡ v.assigns + 1 → state_of (record v { queue = q; assigns = n }) ≡ after p (state_of v) (Assign t)
assigned p v q t accum n port u pushed is reserved arrived sent more =
    let queue =
    ap (λ (x : QueueView). actives x) pushed ∙ map-append active_of v.queue.units (u ∷ [])
    ∙ ap (λ (x : Active). actives v.queue ++ x ∷ []) (is ∙ begun_started p (state_of v) v.registers accum t port reserved refl arrived sent) in
    let assigns = more ∙ add-one v.assigns in
    λ j. record (state_of v) { queue = queue j; assigns = assigns j }

-- the head retired: what it sent is in the registers, its log after the reads, and its commit after the
-- commits
pub retired : (p : Listing) (v v0 : ProcessorView) (u : Active) (q : QueueView) (regs : List ℕ) (exit create : ℕ) (reads : List Read) (commits : List Commit) → v ≡ v0 → slice_get (actives v.queue) 0 ≡ Some u → option_and_then (λ x. exit_of x.place) (slice_get (actives v0.queue) 0) ≡ Some exit → create ≡ (task_at p u.task).create → ((r : ℕ) → slice_index regs r ≡ unwrap_or (if has create r then u.sent r else None) (slice_index v.registers r)) → actives q ≡ filled (λ r. slice_index regs r) (drop 1 (actives v.queue)) → reads ≡ v.reads ++ u.log → commits ≡ v.commits ++ record { task = u.task; exit = exit; count = length u.log } ∷ [] → state_of (record v { queue = q; registers = regs; next = exit; reads = reads; commits = commits }) ≡ after p (state_of v0) Retire
retired p v v0 u q regs exit create reads commits same at exits creates handed queue joined listed =
    let s : State = state_of v in
    let exit_in : Option Active → ℕ = λ o. unwrap_or (option_and_then (λ (x : Active). exit_of x.place) o) 0 in
    let leaves : Active → State = λ x. retire_leaves p s x (drop 1 s.queue) (unwrap_or (exit_of x.place) 0) in
    let is_exit : exit ≡ unwrap_or (exit_of u.place) 0 =
    sym (ap exit_in (sym at) ∙ ap (λ (w : ProcessorView). exit_in (slice_get (actives w.queue) 0)) same ∙ ap (λ (o : Option ℕ). unwrap_or o 0) exits) in
    let given : (λ (r : ℕ). slice_index regs r) ≡ handed_over p u s.regs =
    fun_ext (λ r. handed r ∙ ap (λ (m : ℕ). unwrap_or (cond (has m r) (u.sent r) None) (slice_index v.registers r)) creates) in
    let filled_by : actives q ≡ filled (handed_over p u s.regs) (drop 1 s.queue) =
    queue ∙ ap (λ (g : ℕ → ℕ). filled g (drop 1 s.queue)) given in
    let all_listed : commits ≡ v.commits ++ record { task = u.task; exit = unwrap_or (exit_of u.place) 0; count = length u.log } ∷ [] =
    listed ∙ ap (λ (e : ℕ). v.commits ++ record { task = u.task; exit = e; count = length u.log } ∷ []) is_exit in
    let is : state_of (record v { queue = q; registers = regs; next = exit; reads = reads; commits = commits }) ≡ leaves u =
    λ j. record s { queue = filled_by j; regs = given j; next = is_exit j; reads = joined j; commits = all_listed j } in
    is ∙ ap (λ (o : Option Active). with_unit s o leaves) (sym at) ∙ ap (λ (w : ProcessorView). after p (state_of w) Retire) same
