-- One more is told in words alone.
use Rattle.std.proofs.Common.{get_or}
use Rattle.judged_fixes.proofs.Telling.{as_they_are, one_in_words}
use Rattle.judged_fixes.proofs.judged.tell_all_in_words.Goals as goal
use Rattle.judged_fixes.proofs.judged.tell_all_in_words.Goals.{in-Some, in_default}

pub loop-place-init : goal.loop-place-init
loop-place-init c = as_they_are c.args.errors.now.items

pub loop-place-preserved : goal.loop-place-preserved
loop-place-preserved c =
    let errors = c.loop-place.errors.items in
    let at = get_or c.args.places.now c.loop-place.place-index 0 in
    elim c.match-get_mut.branch [
      | in-Some w ↦ rw (w.errors-is, w.tell_in_words.ensures.told) (one_in_words errors c.args.errors.now.items at w.in-Some.said.now c.loop-place.invariant w.in-Some.ensures.value)
      | in_default w ↦ rw w.errors-is c.loop-place.invariant
    ]
