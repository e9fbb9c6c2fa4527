-- What an Exec changes is what is told of it.
use Rattle.std.proofs.Common.{◌≡◌, ℕ, zero, suc, ◌+◌, ◌-◌, ◌<◌, ◌≤◌, ◌%◌, ◌/◌, ◌^◌, inl, inr, List, [], ◌∷◌, ◌++◌, length, map, Bool, true, false, cond, not, ◌&&◌, Option, Some, None, refl, sym, ap, ◌∙◌, arith, add-one, length-append, slice_get, slice_set, nat_eq, nat_lt, nat_le, unwrap_or, is_some, ltb-true, leb-true, ne_eqb, true≢false}
use Rattle.std.proofs.Math.Path.{fun_ext}
use Rattle.std.proofs.lemmas.Bool.{and_parts, cases_Bool}
use Rattle.std.proofs.lemmas.List.{map-set}
use Rattle.std.specs.Option.{option_or}
use Rattle.mips_instructions.specs.Words.{address}
use Rattle.mips_instructions.specs.Instruction.{dests, reg_a, reg_b}
use Rattle.mips_instructions.specs.InstructionTable.{load_size, store_size}
use Rattle.mips_instructions.specs.declared.instruction.LoadKind.{LoadKind}
use Rattle.mips_instructions.specs.declared.instruction.StoreKind.{StoreKind}
use Rattle.mips_instructions.specs.declared.instruction.StoreKind.TheVariants.{Sw, Sh, Sb}
use Rattle.mips_instructions.specs.declared.instruction.Op.{Op}
use Rattle.mips_instructions.specs.declared.instruction.Op.TheVariants.{Load, Store, Out, Halt}
use Rattle.mips_instructions.proofs.RowLemmas.{zero_not_dest}
use Rattle.mips_plain.specs.Access.{load_at}
use Rattle.mips_plain.specs.Effect.{loaded, memory_after, outcome_after, outcome_of_load, outcome_of_store, output_after, stored, written}
use Rattle.mips_plain.specs.MemoryMap.{Region, Fixed, Ordinary, Nowhere, byte_of, effective, put, region}
use Rattle.mips_plain.specs.declared.outcome.Outcome.{Outcome}
use Rattle.mips_plain.specs.declared.outcome.Outcome.TheVariants.{Running, Halted, Trapped}
use Rattle.mips_plain.specs.declared.outcome.Read.{Read}
use Rattle.task_descriptor.specs.Listing.{Listing}
use Rattle.task_descriptor.specs.declared.descriptor.Marked.{Marked}
use Rattle.task_graph.specs.Edges.{sends}
use Rattle.machine_model.specs.Machine.{Active, State, value}
use Rattle.machine_model.specs.Unit.{IsNext, executed as executed_by, with_log, with_written}
use Rattle.machine_model.specs.Step.{exec_leaves, stands}
use Rattle.machine_model.specs.Answer.{index_of_place, instruction_at, operand}
use Rattle.machine_model.specs.declared.event.Event.TheVariants.{Exec}
use Rattle.machine_model.specs.declared.event.Spot.{Spot}
use Rattle.machine_model.specs.declared.event.Standing.{Standing}
use Rattle.machine_model.specs.declared.event.Standing.TheVariants as standing
use Rattle.machine_model.proofs.Instructions.{dest_written, written_dest}
use Rattle.event_trace.specs.declared.change.Change.{Change}
use Rattle.event_trace.specs.declared.change.Change.TheVariants.{AtUnit, Wrote, Sent}
use Rattle.event_trace.specs.declared.unit_change.UnitChange.TheVariants.{Executed}
use Rattle.event_trace.specs.Changes.{changes_of, effects, executed, execution, for_registers, load_of, newly_sent, outside, stands_at, unless_ended}
use Rattle.event_trace.specs.Seen.{Seen, SeenUnit, changed_at, executing, registers, seen, seen_unit, with_changes, with_changes_at}
use Rattle.event_trace.proofs.SeenUnits.{changed_again, changed_there, moved_to, now_there, sent, wrote}

-- ---- memory and output

-- the low bytes of a word, as many as are stored
low_byte : (kind : StoreKind) (word j : ℕ) → j < store_size kind → word % 256 ^ store_size kind / 256 ^ j % 256 ≡ word / 256 ^ j % 256
low_byte Sw word zero within = omega arith
low_byte Sw word (suc zero) within = omega arith
low_byte Sw word (suc (suc zero)) within = omega arith
low_byte Sw word (suc (suc (suc zero))) within = omega arith
low_byte Sw word (suc (suc (suc (suc j)))) within = absurd (omega arith)
low_byte Sh word zero within = omega arith
low_byte Sh word (suc zero) within = omega arith
low_byte Sh word (suc (suc j)) within = absurd (omega arith)
low_byte Sb word zero within = omega arith
low_byte Sb word (suc j) within = absurd (omega arith)

either_way : (t : Bool) (x y z : ℕ) → (t ≡ true → x ≡ y) → cond t x z ≡ cond t y z
either_way true x y z same = same refl
either_way false x y z same = refl

put_low : (size word low offset : ℕ) (memory : ℕ → ℕ) → ((j : ℕ) → j < size → low / 256 ^ j % 256 ≡ word / 256 ^ j % 256)
    → (at : ℕ) → put size low offset memory at ≡ put size word offset memory at
put_low size word low offset memory same at =
    either_way (nat_le offset at && nat_lt at (offset + size)) (low / 256 ^ (at - offset) % 256) (word / 256 ^ (at - offset) % 256) (memory at)
    (λ inside.
    let parts = and_parts (nat_le offset at) (nat_lt at (offset + size)) inside in
    let from : offset ≤ at = leb-true offset at parts.0 in
    let below : at < offset + size = ltb-true at (offset + size) parts.1 in
    same (at - offset) (omega (arith, from, below)))

stored_low : (kind : StoreKind) (word : ℕ) (place : Region) (memory : ℕ → ℕ) → stored (store_size kind) (word % 256 ^ store_size kind) place memory ≡ stored (store_size kind) word place memory
stored_low kind word (Fixed offset) memory = refl
stored_low kind word (Ordinary offset) memory =
    fun_ext (λ (at : ℕ). put_low (store_size kind) word (word % 256 ^ store_size kind) offset memory (low_byte kind word) at)
stored_low kind word (Nowhere trap) memory = refl

nothing_loaded : (k at : ℕ) (o : Option ℕ) (x : Seen) (cs : List Change) → with_changes_at k (load_of at o ++ cs) x ≡ with_changes_at k cs x
nothing_loaded k at None x cs = refl
nothing_loaded k at (Some word) x cs = refl

-- what an instruction does outside the registers
outside_told : (op : Op) (a b k : ℕ) (fixed memory : ℕ → ℕ) (x : Seen) (cs : List Change)
    → with_changes_at k (outside op a b fixed memory ++ cs) x ≡ with_changes_at k cs (record x { memory = memory_after op a b x.memory; output = output_after op a x.output })
outside_told (Load kind rt base n) a b k fixed memory x cs =
    nothing_loaded k (effective a n) (load_at (Load kind rt base n) (effective a n) fixed memory) x cs
outside_told (Store kind rt base n) a b k fixed memory x cs =
    ap (λ (m : ℕ → ℕ). with_changes_at k cs (record x { memory = m })) (stored_low kind b (region (store_size kind) (effective a n)) x.memory)
outside_told (Out rs) a b k fixed memory x cs = refl
outside_told op a b k fixed memory x cs = refl

-- ---- an instruction that ends the run

ended_store : (size word : ℕ) (place : Region) (memory : ℕ → ℕ) → (outcome_of_store place ≡ Running → ⊥) → stored size word place memory ≡ memory
ended_store size word (Fixed offset) memory never = refl
ended_store size word (Ordinary offset) memory never = absurd (never refl)
ended_store size word (Nowhere trap) memory never = refl

ended_memory : (op : Op) (a b : ℕ) (memory : ℕ → ℕ) → (outcome_after op a ≡ Running → ⊥) → memory_after op a b memory ≡ memory
ended_memory (Store kind rt base n) a b memory never = ended_store (store_size kind) b (region (store_size kind) (effective a n)) memory never
ended_memory _ a b memory never = refl

ended_output : (op : Op) (a : ℕ) (output : List ℕ) → (outcome_after op a ≡ Running → ⊥) → output_after op a output ≡ output
ended_output (Out rs) a output never = absurd (never refl)
ended_output _ a output never = refl

-- ---- the registers of an instruction after which the run goes on

load_written : (kind : LoadKind) (place : Region) (fixed memory : ℕ → ℕ) (dest : Bool) → outcome_of_load place ≡ Running → dest ≡ true → is_some (cond dest (loaded kind place fixed memory) None) ≡ true
load_written kind place fixed memory false runs is = absurd (true≢false (sym is))
load_written kind (Fixed offset) fixed memory true runs is = refl
load_written kind (Ordinary offset) fixed memory true runs is = refl
load_written kind (Nowhere trap) fixed memory true runs is = absurd (cc)

each_written : (op : Op) (a b pc : ℕ) (fixed memory : ℕ → ℕ) (r : ℕ) → outcome_after op a ≡ Running → dests op r ≡ true → is_some (written op a b pc fixed memory r) ≡ true
each_written (Load kind rt base n) a b pc fixed memory r runs is =
    load_written kind (region (load_size kind) (effective a n)) fixed memory (dests (Load kind rt base n) r) runs is
each_written (Store kind rt base n) a b pc fixed memory r runs is = absurd (true≢false (sym is))
each_written (Out rs) a b pc fixed memory r runs is = absurd (true≢false (sym is))
each_written Halt a b pc fixed memory r runs is = absurd (true≢false (sym is))
each_written op a b pc fixed memory r runs is = dest_written op a b pc fixed memory r refl is

own_by : (dest zeroth : Bool) (word own arrived : Option ℕ) → (dest ≡ true → is_some word ≡ true) → (dest ≡ true → zeroth ≡ false) → (dest ≡ false → word ≡ None)
    → cond dest (Some (unwrap_or (cond zeroth (Some 0) (option_or (option_or word own) arrived)) 0)) own ≡ option_or word own
own_by true true word own arrived some above none = absurd (true≢false (above refl))
own_by true false (Some word) own arrived some above none = refl
own_by true false None own arrived some above none = absurd (true≢false (sym (some refl)))
own_by false zeroth word own arrived some above none = sym (ap (λ (o : Option ℕ). option_or o own) (none refl))

sent_by : (before now : Option ℕ) → cond (is_some (option_or before now) && not (is_some before)) (Some (unwrap_or (option_or before now) 0)) before ≡ option_or before now
sent_by (Some word) now = refl
sent_by None (Some word) = refl
sent_by None None = refl

module _ (p : Listing) (s : State) (k : ℕ) (u : Active) (m : Marked) (index a b : ℕ)
    (runs : s.outcome ≡ standing.Running) (is_unit : slice_get s.queue k ≡ Some u) (next : IsNext p u index m a b) where
  abbrev log : List Read
  log = u.log ++ record { pc = address index; a = a; b = b } ∷ []

  -- the unit and the state after the instruction, by its outcome
  abbrev unit_by : Outcome → Active
  unit_by o = with_log (executed_by o p u m index a b s.memory) log

  abbrev state_by : Outcome → State
  state_by o = record s {
    queue = slice_set s.queue k (unit_by o);
    memory = memory_after m.op a b s.memory;
    output = output_after m.op a s.output;
    outcome = stands o;
  }

  abbrev queue_with : SeenUnit → List SeenUnit
  queue_with w = slice_set (map seen_unit s.queue) k w

  -- the unit with one instruction more, and what is seen with it
  abbrev first : SeenUnit
  first = executing (seen_unit u)

  abbrev begun : Seen
  begun = record (seen s) { queue = queue_with first }

  longer : length log ≡ suc (length u.log)
  longer = length-append u.log (record { pc = address index; a = a; b = b } ∷ []) ∙ add-one (length u.log)

  -- a halt or a trap
  stopped : (o : Outcome) → outcome_after m.op a ≡ o → (o ≡ Running → ⊥) → unit_by o ≡ with_log u log
      → seen (state_by o) ≡ record begun { outcome = stands o }
  stopped o is never same =
      let queue : map seen_unit (slice_set s.queue k (unit_by o)) ≡ queue_with first =
      map-set seen_unit s.queue k (unit_by o)
      ∙ ap (λ (v : Active). queue_with (seen_unit v)) same
      ∙ ap (λ (n : ℕ). queue_with (record (seen_unit u) { executed = n })) longer in
      let ends : outcome_after m.op a ≡ Running → ⊥ = λ e. never (sym is ∙ e) in
      let memory : memory_after m.op a b s.memory ≡ s.memory = ended_memory m.op a b s.memory ends in
      let output : output_after m.op a s.output ≡ s.output = ended_output m.op a s.output ends in
      λ j. record {
        queue = queue j;
        memory = memory j;
        output = output j;
        outcome = stands o;
        next = s.next;
        commits = s.commits;
      }

  -- the unit where the run goes on
  abbrev v : Active
  v = unit_by Running

  own_same : outcome_after m.op a ≡ Running → (r : ℕ) → cond (dests m.op r) (Some (operand v r)) (u.local r) ≡ v.local r
  own_same on r =
      let fixed = byte_of p.fixed in
      own_by (dests m.op r) (nat_eq 0 r) (written m.op a b (address index) fixed s.memory r) (u.local r) (u.arrived r)
      (λ is. each_written m.op a b (address index) fixed s.memory r on is)
      (λ is. ne_eqb 0 r (λ e. true≢false (sym is ∙ ap (dests m.op) (sym e) ∙ zero_not_dest m.op)))
      (λ is. written_dest m.op a b (address index) fixed s.memory r is)

  sent_same : (r : ℕ) → cond (newly_sent u v r) (Some (unwrap_or (v.sent r) 0)) (u.sent r) ≡ v.sent r
  sent_same r = sent_by (u.sent r) (cond (sends m r) (value (with_written u (written m.op a b (address index) (byte_of p.fixed) s.memory)) r) None)

  there : (change : SeenUnit → SeenUnit) (w : SeenUnit) → changed_at (queue_with w) k change ≡ queue_with (change w)
  there change w = changed_again (map seen_unit s.queue) k change w

  gone_on : outcome_after m.op a ≡ Running → with_changes_at k (effects p (state_by Running) u v m) begun ≡ seen (state_by Running)
  gone_on on =
      let memory = memory_after m.op a b s.memory in
      let x : Seen = record (seen s) { memory = memory; output = output_after m.op a s.output } in
      let place : List Change = stands_at v.place ∷ [] in
      let sendings : List Change = for_registers (newly_sent u v) (λ r. Sent r (unwrap_or (v.sent r) 0)) ++ place in
      let writes : List Change = for_registers (dests m.op) (λ r. Wrote r (operand v r)) ++ sendings in
      let second : SeenUnit = record first { own = map v.local registers } in
      let third : SeenUnit = record second { sent = map v.sent registers } in
      let fourth : SeenUnit = record third { place = v.place } in
      let queue : queue_with fourth ≡ map seen_unit (slice_set s.queue k v) =
      ap (λ (n : ℕ). queue_with (record (seen_unit v) { executed = n })) (sym longer) ∙ sym (map-set seen_unit s.queue k v) in
      (λ j. with_changes_at k (outside m.op (unwrap_or (next.has_a j) 0) (unwrap_or (next.has_b j) 0) (byte_of p.fixed) memory ++ writes) begun)
      ∙ outside_told m.op a b k (byte_of p.fixed) memory begun writes
      ∙ wrote k queue_with there x first (dests m.op) (operand v) u.local v.local sendings (own_same on)
      ∙ sent k queue_with there x second (newly_sent u v) (λ r. unwrap_or (v.sent r) 0) u.sent v.sent place sent_same
      ∙ moved_to k queue_with there x third v.place
      ∙ (λ j. record x { queue = queue j; outcome = runs j })

  by_outcome : (o : Outcome) → outcome_after m.op a ≡ o → seen (state_by o) ≡ with_changes_at k (unless_ended (stands o) (effects p (state_by o) u (unit_by o) m)) begun
  by_outcome Running is = sym (gone_on is)
  by_outcome Halted is = stopped Halted is (λ e. cc) refl
  by_outcome (Trapped trap) is = stopped (Trapped trap) is (λ e. cc) refl

  pub exec_told : seen (exec_leaves p s k u m index a b) ≡ with_changes (seen s) (changes_of p s (Exec k) (exec_leaves p s k u m index a b))
  exec_told =
      let o = outcome_after m.op a in
      let t : State = exec_leaves p s k u m index a b in
      let inside : instruction_at p u.place ≡ Some m = ap (λ (spot : Spot). instruction_at p spot) next.is_inside ∙ next.is_there in
      let now : slice_get t.queue k ≡ Some (unit_by o) = now_there s.queue k u (unit_by o) is_unit in
      let rest : List Change = unless_ended t.outcome (effects p t u (unit_by o) m) in
      let told : changes_of p s (Exec k) t ≡ AtUnit k u.task (Executed (index_of_place u.place)) ∷ rest =
      (λ j. executed p t k (is_unit j) (now j)) ∙ ap (λ (at : Option Marked). execution p t k u (unit_by o) at) inside in
      by_outcome o refl
      ∙ ap (λ (us : List SeenUnit). with_changes_at k rest (record (seen s) { queue = us })) (sym (changed_there s.queue k u executing is_unit))
      ∙ ap (λ (cs : List Change). with_changes (seen s) cs) (sym told)
