-- At first nothing is marked and all tasks are left; one task more marks its entry; at the end none is left.
use Rattle.std.proofs.Common.{◌||◌, Bool, List, false, get_or, length, ap, arith, ◌∙◌}
use Rattle.std.proofs.lemmas.List.{get_or-replicate, length-replicate}
use Rattle.mark_checker.proofs.Entries.{begins_from}
use Rattle.mark_checker.proofs.survey.mark_entries.Goals as goal

pub loop-descriptor-init : goal.loop-descriptor-init
loop-descriptor-init c = record {
  sized = ap (λ (bs : List Bool). length bs) c.requires ∙ length-replicate 4097 false;
  so_far = λ j inside.
      ap (λ (bs : List Bool). get_or bs j false || begins_from c.args.program.now.tasks 0 j) c.requires
      ∙ ap (λ (b : Bool). b || begins_from c.args.program.now.tasks 0 j) (get_or-replicate 4097 j false false (omega arith));
}
