-- The labels added so far, with those in front of the rest, are all labels of the line; each took two tokens.
use Rattle.std.proofs.Common.{◌≡◌, ◌+◌, ◌*◌, ◌++◌, length}
use Rattle.annotated_asm.specs.Items.{labels_of, after_labels}
use Rattle.annotated_asm.specs.Sources.{label_sources}
use Rattle.annotated_asm.proofs.reading.add_labels.Given as goal

abbrev pub invariant-loop-name : goal.invariant-loop-name
invariant-loop-name l = record {
  added : l.labels.items ++ label_sources l.line l.spans l.number l.rest ≡ l.fn.labels.items ++ label_sources l.line l.spans 0 l.tokens;
  behind : after_labels l.rest ≡ after_labels l.tokens;
  counted : l.number + 2 * length (labels_of l.rest) ≡ 2 * length (labels_of l.tokens);
  within : l.number + length l.rest ≡ length l.tokens;
}

abbrev pub decreases-loop-name : goal.decreases-loop-name
decreases-loop-name l = length l.rest
