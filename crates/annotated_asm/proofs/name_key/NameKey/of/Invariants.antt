-- The names so far, with those of the items that are left, are those of all.
use Rattle.std.proofs.Common.{◌≡◌, drop}
use Rattle.std.specs.Hash.DefaultHasher as sip
use Rattle.annotated_asm.specs.NameKeys.{after_names}
use Rattle.annotated_asm.proofs.name_key.NameKey.of.Given as goal

abbrev pub invariant-loop-item : goal.invariant-loop-item
invariant-loop-item l = after_names l.names (drop l.item-index l.items) ≡ after_names sip.initial l.items
