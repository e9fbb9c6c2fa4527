-- As many places, and as many widths, as there were turns.
use Rattle.std.proofs.Common.{◌≡◌, ◌++◌, replicate}
use Rattle.annotated_asm.proofs.reading.add_code.Given as goal

abbrev pub invariant-loop : goal.invariant-loop
invariant-loop l = record {
  code : l.code.items ≡ l.fn.code.items ++ replicate l.counter l.at;
  widths : l.widths.items ≡ l.fn.widths.items ++ replicate l.counter l.width;
}
