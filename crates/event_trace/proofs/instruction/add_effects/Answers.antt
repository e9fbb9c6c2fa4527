-- Four parts, one after the other; sets that have the same registers give the same changes.
use Rattle.std.proofs.Common.{◌≡◌, ℕ, List, [], ◌∷◌, ◌++◌, Bool, ◌∙◌, ap}
use Rattle.std.specs.Prelude.{◌&&◌, not, unwrap_or}
use Rattle.mips_instructions.specs.Words.{has}
use Rattle.mips_plain.specs.MemoryMap.{byte_of}
use Rattle.mips_instructions.specs.Instruction.{dests}
use Rattle.machine_model.specs.declared.event.Spot.{Spot}
use Rattle.machine_model.specs.Answer.{operand}
use Rattle.unit_core.specs.Units.{active_of}
use Rattle.sequencer.specs.Machines.{state}
use Rattle.event_trace.specs.declared.change.Change.{Change}
use Rattle.event_trace.specs.declared.change.Change.TheVariants.{Wrote, Sent}
use Rattle.event_trace.specs.Changes.{for_registers, outside, stands_at}
use Rattle.event_trace.specs.Foresight.{sent_beyond}
use Rattle.event_trace.proofs.Parts.{four_parts, same_registers}
use Rattle.event_trace.proofs.instruction.add_effects.Goals as goal

pub returns : goal.returns
returns c =
    let v = active_of c.args.unit.now in
    let x = c.args.execution.now in
    let s = state c.args.machine.now in
    let fixed = byte_of c.args.machine.now.accepted.program.fixed in
    let old = c.args.changes.now.items in
    let one = c.add_outside.new.changes.items in
    let two = c.add_writes.new.changes.items in
    let three = c.add_sendings.new.changes.items in
    let told = c.in_ok-add_outside.ensures
    ∙ ap (λ (f : ℕ → ℕ). old ++ outside x.op x.a x.b f (byte_of c.memory.result.now.bytes)) c.memory.ensures.fixed
    ∙ ap (λ (f : ℕ → ℕ). old ++ outside x.op x.a x.b fixed f) c.memory.ensures.bytes in
    let writes : ℕ → Change = λ r. Wrote r (operand v r) in
    let sendings : ℕ → Change = λ r. Sent r (unwrap_or (v.sent r) 0) in
    let sent : (r : ℕ) → has c.minus.result r ≡ sent_beyond x.sent v r = λ r. c.minus.ensures.members r
    ∙ ap (λ (is : Bool). is && not (has x.sent r)) (c.sent_set.ensures r) in
    four_parts old one two three c.add_spot.new.changes.items
    (outside x.op x.a x.b fixed s.memory) (for_registers (dests x.op) writes) (for_registers (sent_beyond x.sent v) sendings) (stands_at v.place ∷ [])
    told
    (c.in_ok-add_writes.ensures ∙ ap (λ (cs : List Change). one ++ cs) (same_registers (has c.dests.result) (dests x.op) writes c.dests.ensures))
    (c.in_ok-add_sendings.ensures ∙ ap (λ (cs : List Change). two ++ cs) (same_registers (has c.minus.result) (sent_beyond x.sent v) sendings sent))
    (c.in_ok-add_spot.ensures ∙ ap (λ (place : Spot). three ++ stands_at place ∷ []) c.spot.ensures)
