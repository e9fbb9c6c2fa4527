-- The labels added so far, with those in front of the rest, are all labels of the line.
use Rattle.std.proofs.Common.{◌≡◌, ◌++◌, length, map}
use Rattle.annotated_asm.specs.Items.{labels_of, after_labels, label_item}
use Rattle.annotated_asm.proofs.item.add_labels.Given as goal

abbrev pub invariant-loop-rest : goal.invariant-loop-rest
invariant-loop-rest l = record {
  added : l.items.items ++ map (label_item l.line l.section) (labels_of l.rest) ≡ l.fn.items.items ++ map (label_item l.line l.section) (labels_of l.tokens);
  behind : after_labels l.rest ≡ after_labels l.tokens;
}

abbrev pub decreases-loop-rest : goal.decreases-loop-rest
decreases-loop-rest l = length l.rest
