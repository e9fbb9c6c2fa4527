-- The words so far.
use Rattle.std.proofs.Common.{◌≡◌, ◌*◌}
use Rattle.std.specs.Prelude.{flat_map}
use Rattle.std.specs.List.{range_with_len}
use Rattle.mips_plain.specs.MemoryMap.{byte_of, number_at}
use Rattle.event_trace.specs.Ending.{changed}
use Rattle.event_trace.proofs.ending.changed_words.Given as goal

abbrev pub invariant-loop-number : goal.invariant-loop-number
invariant-loop-number l =
    l.words.items
    ≡ flat_map (λ n. changed n (number_at 4 (byte_of l.start) (n * 4)) (number_at 4 (byte_of l.bytes) (n * 4))) (range_with_len 0 l.number)
