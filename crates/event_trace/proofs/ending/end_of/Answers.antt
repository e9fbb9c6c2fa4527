-- The memory of the machine is what its bytes hold.
use Rattle.std.proofs.Common.{ℕ, List, ◌∙◌, ap}
use Rattle.mips_plain.specs.MemoryMap.{byte_of}
use Rattle.event_trace.specs.Ending.{changed_words}
use Rattle.event_trace.proofs.ending.end_of.Goals as goal

pub returns : goal.returns
returns c = record {
  standing = c.outcome-standing.ensures.value;
  registers = c.in_ok-registers.ensures;
  memory =
      c.in_ok-memory.ensures
      ∙ ap (λ (m : ℕ → ℕ). changed_words (byte_of c.args.start.now) m) (ap (λ (bs : List ℕ). byte_of bs) c.bytes.ensures.bytes ∙ c.memory.ensures.bytes);
}
