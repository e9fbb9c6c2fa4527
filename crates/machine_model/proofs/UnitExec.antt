-- A right unit is right after one more instruction, wherever it stands: its operands are the plain
-- machine's, so the instruction writes what the plain machine's next step writes.
use Rattle.std.proofs.Common.{◌≡◌, ℕ, suc, ◌+◌, ◌≤◌, Bool, true, false, cond, ◌⊎◌, inl, inr, List, [], ◌∷◌, ◌++◌, length, Option, Some, None, refl, sym, ap, ◌∙◌, subst, arith, unwrap_or, append_assoc, length-append, eqb-true}
use Rattle.std.specs.Prelude.{nat_eq}
use Rattle.std.specs.Option.{option_or}
use Rattle.mips_instructions.specs.Words.{address}
use Rattle.mips_plain.specs.MemoryMap.{byte_of}
use Rattle.mips_instructions.specs.Instruction.{reg_a, reg_b, taken, turn}
use Rattle.mips_plain.specs.Effect.{written, outcome_after, may_run_ahead}
use Rattle.mips_plain.specs.PlainMachine.{pc_after}
use Rattle.mips_plain.specs.declared.outcome.Outcome.{Outcome}
use Rattle.mips_plain.specs.declared.outcome.Outcome.TheVariants.{Running}
use Rattle.mips_plain.specs.declared.outcome.Read.{Read}
use Rattle.task_descriptor.specs.Listing.{Listing, input}
use Rattle.task_descriptor.specs.declared.descriptor.Marked.{Marked}
use Rattle.task_graph.specs.Edges.{Edge, onward, MayWrite, edge, leaves, sends}
use Rattle.task_graph.specs.Soundness.{Sound}
use Rattle.machine_model.specs.Machine.{Active, value}
use Rattle.machine_model.specs.Unit.{IsNext, with_written, place_after, moved, executed, after_exec}
use Rattle.machine_model.specs.Claims.{plain_of, reads_of}
use Rattle.machine_model.specs.declared.event.Spot.{Spot}
use Rattle.machine_model.specs.declared.event.Spot.TheVariants.{Inside}
use Rattle.machine_model.proofs.Instructions.{ahead_memory, ahead_output, ahead_runs, ahead_written, written_dest, Leads}
use Rattle.machine_model.proofs.PlainRuns.{At, Leaves, step_leaves, Steps, follow_on, end_now, not_dest, may_write_first, sound_at, leads_inside, plain_zero}
use Rattle.machine_model.proofs.Invariant.{PlaceRight, Last, Quiet, UnitRight, value_found, value_right}

pub sent_found : (b : Bool) (s v : Option ℕ) (w : ℕ) → option_or s (cond b v None) ≡ Some w → (s ≡ Some w) ⊎ ((b ≡ true) × (v ≡ Some w))
sent_found b (Some x) v w e = inl e
sent_found true None v w e = inr (refl, e)
sent_found false None v w e = absurd (cc)

either_found : (o l : Option ℕ) (x w : ℕ) → ((v : ℕ) → l ≡ Some v → x ≡ v) → option_or o l ≡ Some w → unwrap_or o x ≡ w
either_found (Some v) l x w local e = cc
either_found None l x w local e = local w e

either_kept : (o l : Option ℕ) (x y : ℕ) → (l ≡ None → x ≡ y) → option_or o l ≡ None → unwrap_or o x ≡ y
either_kept (Some v) l x y kept e = absurd (cc)
either_kept None l x y kept e = kept e

module _ (p : Listing) (fits : length p.code ≤ 4096) (sound : Sound p) where
  module _ (behind : Bool) (n : ℕ) (u : Active) (h : UnitRight p behind n u) (i : ℕ) (at : Marked) (a b : ℕ) (is_next : IsNext p u i at a b) where
    stood : PlaceRight p u.task n h.now (Inside i)
    stood = subst (PlaceRight p u.task n h.now) is_next.is_inside h.place

    -- the plain machine stands there too, with the same operands
    pub stands_there : At p h.now i at a b
    stands_there = record {
      runs = h.runs;
      pc_is = stood.2;
      is_there = is_next.is_there;
      has_a = value_right p h (reg_a at.op) a is_next.has_a;
      has_b = value_right p h (reg_b at.op) b is_next.has_b;
    }

    left : Leaves p h.now i at a b
    left = step_leaves p h.now i at a b stands_there

    not_again : (r w : ℕ) → u.sent r ≡ Some w → MayWrite p i r → ⊥
    not_again r w e = let last : Last p (Inside i) r = subst (λ (s : Spot). Last p s r) is_next.is_inside (h.last r w e) in last

    stays : (r : ℕ) → (MayWrite p i r → ⊥) → (plain_of p (suc h.now)).regs r ≡ (plain_of p h.now).regs r
    stays r never =
        left.regs r
        ∙ ap (λ (w : Option ℕ). unwrap_or w ((plain_of p h.now).regs r)) (written_dest at.op a b (address i) (byte_of p.fixed) (plain_of p h.now).memory r (not_dest p i r at is_next.is_there never))

    quiet_on : (q : Bool) → (q ≡ true → may_run_ahead at.op a ≡ true) → Quiet p q n h.now → Quiet p q n (suc h.now)
    quiet_on false ahead quiet = tt
    quiet_on true ahead quiet = (
      left.memory ∙ ahead_memory at.op a b (plain_of p h.now).memory (ahead refl) ∙ quiet.0,
      left.output ∙ ahead_output at.op a (plain_of p h.now).output (ahead refl) ∙ quiet.1,
    )

    module _ (runs : outcome_after at.op a ≡ Running) (memory : ℕ → ℕ)
        (same : (r : ℕ) → written at.op a b (address i) (byte_of p.fixed) memory r ≡ written at.op a b (address i) (byte_of p.fixed) (plain_of p h.now).memory r)
        (ahead : behind ≡ true → may_run_ahead at.op a ≡ true) where
      step : (leaving : Bool) → leaves at.stop (taken at.op a b) ≡ leaving → Steps p leaving h.now
      step leaving kind = record { index = i; at = at; a = a; b = b; stands = stands_there; goes_on = runs; kind = kind }

      turned : (plain_of p (suc h.now)).pc ≡ turn at.op a b (address i)
      turned = left.pc ∙ ap (λ (o : Outcome). pc_after o (turn at.op a b (address i)) (address i)) runs

      place_on : (leaving : Bool) (o : Option ℕ) → leaves at.stop (taken at.op a b) ≡ leaving → edge at.op i (taken at.op a b) ≡ o → PlaceRight p u.task n (suc h.now) (place_after leaving o (turn at.op a b (address i)))
      place_on true o kind e = (end_now stood.1 (step true kind), turned)
      place_on false (Some to) kind e =
          let on : Leads at.op a b i = leads_inside p fits sound u.task i at a b h.is_task stood.0 is_next.is_there kind runs in
          let same_end : on.to ≡ to = (let f = on.leads in cc) in (
            onward stood.0 (record { at = at; is_there = is_next.is_there; taken = taken at.op a b; leads = e; kind = kind }),
            follow_on stood.1 (step false kind),
            turned ∙ on.turns ∙ ap address same_end,
          )
      place_on false None kind e =
          let on : Leads at.op a b i = leads_inside p fits sound u.task i at a b h.is_task stood.0 is_next.is_there kind runs in
          absurd (let f = on.leads in cc)

      last_on : (leaving : Bool) (o : Option ℕ) (r : ℕ) → leaves at.stop (taken at.op a b) ≡ leaving → edge at.op i (taken at.op a b) ≡ o → ((j : ℕ) → Edge p false i j → MayWrite p j r → ⊥) → Last p (place_after leaving o (turn at.op a b (address i))) r
      last_on true o r kind e never = tt
      last_on false (Some to) r kind e never = never to (record { at = at; is_there = is_next.is_there; taken = taken at.op a b; leads = e; kind = kind })
      last_on false None r kind e never = tt

      written_now : (r : ℕ) → (plain_of p (suc h.now)).regs r ≡ unwrap_or (written at.op a b (address i) (byte_of p.fixed) memory r) ((plain_of p h.now).regs r)
      written_now r = left.regs r ∙ ap (λ (w : Option ℕ). unwrap_or w ((plain_of p h.now).regs r)) (sym (same r))

      local_on : (r w : ℕ) → option_or (written at.op a b (address i) (byte_of p.fixed) memory r) (u.local r) ≡ Some w → (plain_of p (suc h.now)).regs r ≡ w
      local_on r w e = written_now r ∙ either_found (written at.op a b (address i) (byte_of p.fixed) memory r) (u.local r) ((plain_of p h.now).regs r) w (h.local r) e

      kept_on : (r : ℕ) → option_or (written at.op a b (address i) (byte_of p.fixed) memory r) (u.local r) ≡ None → (plain_of p (suc h.now)).regs r ≡ (plain_of p n).regs r
      kept_on r e = written_now r ∙ either_kept (written at.op a b (address i) (byte_of p.fixed) memory r) (u.local r) ((plain_of p h.now).regs r) ((plain_of p n).regs r) (h.kept r) e

      value_on : (r w : ℕ) → value (with_written u (written at.op a b (address i) (byte_of p.fixed) memory)) r ≡ Some w → (plain_of p (suc h.now)).regs r ≡ w
      value_on r w e =
          value_found (nat_eq 0 r) (option_or (written at.op a b (address i) (byte_of p.fixed) memory r) (u.local r)) (u.arrived r) ((plain_of p (suc h.now)).regs r) ((plain_of p n).regs r) w
          (λ z. ap (plain_of p (suc h.now)).regs (sym (eqb-true 0 r z)) ∙ plain_zero (input p) (suc h.now))
          (local_on r) (kept_on r) (h.arrived r) e

      pub moved_right : UnitRight p behind n (record (moved p u at i a b memory) { log = u.log ++ record { pc = address i; a = a; b = b } ∷ [] })
      moved_right = record {
        now = suc h.now;
        count = (let c : h.now ≡ n + length u.log = h.count in omega (arith, length-append u.log (record { pc = address i; a = a; b = b } ∷ [])));
        is_task = h.is_task;
        place = place_on (leaves at.stop (taken at.op a b)) (edge at.op i (taken at.op a b)) refl refl;
        runs = left.outcome ∙ runs;
        log = sym (append_assoc (reads_of p n) u.log _) ∙ ap (λ (xs : List Read). xs ++ record { pc = address i; a = a; b = b } ∷ []) h.log ∙ sym left.reads;
        local = local_on;
        kept = kept_on;
        arrived = h.arrived;
        sent = λ r w e. elim (sent_found (sends at r) (u.sent r) (value (with_written u (written at.op a b (address i) (byte_of p.fixed) memory)) r) w e) [
          | inl g ↦ stays r (not_again r w g) ∙ h.sent r w g
          | inr g ↦ value_on r w g.1
        ];
        last = λ r w e. last_on (leaves at.stop (taken at.op a b)) (edge at.op i (taken at.op a b)) r refl refl
            (elim (sent_found (sends at r) (u.sent r) (value (with_written u (written at.op a b (address i) (byte_of p.fixed) memory)) r) w e) [
              | inl g ↦ λ j over writes. not_again r w g (may_write_first over writes)
              | inr g ↦ (sound_at p fits sound u.task h.is_task).sends_last i at stood.0 is_next.is_there r g.0
            ]);
        quiet = quiet_on behind ahead h.quiet;
      }

      pub exec_right : UnitRight p behind n (after_exec p u at i a b memory)
      exec_right = subst (λ (o : Outcome). UnitRight p behind n (record (executed o p u at i a b memory) { log = u.log ++ record { pc = address i; a = a; b = b } ∷ [] })) (sym runs) moved_right

    -- an instruction that may run ahead needs no memory but read-only data
    pub exec_ahead : (memory : ℕ → ℕ) → may_run_ahead at.op a ≡ true → UnitRight p behind n (after_exec p u at i a b memory)
    exec_ahead memory ahead =
        exec_right (ahead_runs at.op a ahead) memory
        (λ r. ahead_written at.op a b (address i) (byte_of p.fixed) memory (plain_of p h.now).memory r ahead)
        (λ q. ahead)
