-- A register that was sent is in no mask from its unit's place on, so no later instruction writes it.
use Rattle.std.proofs.Common.{◌≡◌, ℕ, inl, inr, Bool, false, cond, Option, Some, refl, sym, ap, ◌∙◌, true≢false}
use Rattle.std.specs.Prelude.{slice_get, nat_eq}
use Rattle.std.specs.Option.{option_or}
use Rattle.std.proofs.lemmas.Bool.{false_from_ne_true}
use Rattle.mips_instructions.specs.Words.{address}
use Rattle.mips_plain.specs.MemoryMap.{byte_of}
use Rattle.mips_instructions.specs.Instruction.{dests, taken}
use Rattle.mips_plain.specs.Effect.{written, outcome_after}
use Rattle.mips_plain.specs.declared.outcome.Outcome.{Outcome}
use Rattle.mips_plain.specs.declared.outcome.Outcome.TheVariants.{Running, Halted, Trapped}
use Rattle.task_descriptor.specs.Listing.{Listing}
use Rattle.task_descriptor.specs.declared.descriptor.Marked.{Marked}
use Rattle.task_graph.specs.Edges.{Edge, edge, leaves, sends}
use Rattle.machine_model.specs.Machine.{Active, value}
use Rattle.machine_model.specs.Unit.{with_written, executed, after_exec}
use Rattle.machine_model.specs.Burst.{MasksFit, SentIsLast}
use Rattle.machine_model.specs.declared.event.Spot.TheVariants.{Inside}
use Rattle.machine_model.proofs.Instructions.{written_dest}
use Rattle.machine_model.proofs.Places.{goes_to}
use Rattle.machine_model.proofs.UnitExec.{sent_found}

module _ (p : Listing) (mask : ℕ → ℕ → Bool) (u : Active) (i : ℕ) (m : Marked) (a b : ℕ) (memory : ℕ → ℕ)
    (fits : MasksFit p mask i m) (inside : u.place ≡ Inside i) (there : slice_get p.code i ≡ Some m) (last : SentIsLast mask u) where
  -- the masks only shrink along an inner edge
  later : (j r : ℕ) → Edge p false i j → mask i r ≡ false → mask j r ≡ false
  later j r over never = false_from_ne_true (mask j r) (λ e. true≢false (sym (fits.holds_later j r over e) ∙ never))

  last_by : (o : Outcome) (j r w : ℕ) → (executed o p u m i a b memory).place ≡ Inside j → (executed o p u m i a b memory).sent r ≡ Some w → mask j r ≡ false
  last_by Running j r w at e =
      let over : Edge p false i j = goes_to p i m there a b (leaves m.stop (taken m.op a b)) (edge m.op i (taken m.op a b)) j refl refl at in
      elim (sent_found (sends m r) (u.sent r) (value (with_written u (written m.op a b (address i) (byte_of p.fixed) memory)) r) w e) [
        | inl g ↦ later j r over (last i r w inside g)
        | inr g ↦ fits.sends_last j r over g.0
      ]
  last_by Halted j r w at e = last j r w at e
  last_by (Trapped trap) j r w at e = last j r w at e

  kept_by : (o : Outcome) (r w : ℕ) → u.sent r ≡ Some w → value (executed o p u m i a b memory) r ≡ value u r
  kept_by Running r w e =
      let never : dests m.op r ≡ false = false_from_ne_true (dests m.op r) (λ d. true≢false (sym (fits.holds_written r d) ∙ last i r w inside e)) in
      ap (λ (x : Option ℕ). cond (nat_eq 0 r) (Some 0) (option_or (option_or x (u.local r)) (u.arrived r))) (written_dest m.op a b (address i) (byte_of p.fixed) memory r never)
  kept_by Halted r w e = refl
  kept_by (Trapped trap) r w e = refl

  pub sent_stays : SentIsLast mask (after_exec p u m i a b memory) × ((r word : ℕ) → u.sent r ≡ Some word → value (after_exec p u m i a b memory) r ≡ value u r)
  sent_stays = (last_by (outcome_after m.op a), kept_by (outcome_after m.op a))
