-- The place has a mask, and the masks fit.
use Rattle.std.proofs.lemmas.Option.{slice_get-get_or}
use Rattle.machine_model.specs.Machine.{task_at, no_task}
use Rattle.sequencer.specs.OfAccepted.{masks_of}
use Rattle.sequencer.proofs.accepted_laws.accepted_sent_stays.Goals as goal

pub returns : goal.returns
returns c = λ u index m a b memory valid inside there last.
    let p = c.args.accepted.now.program in
    let mask = (c.places_masked.ensures u valid index inside).1 in
    let fits = c.masks_fit.ensures u.task index mask.0 (task_at p u.task) m (slice_get-get_or p.tasks u.task no_task valid.is_task) there mask.1 in
    c.sent_registers_stay.ensures p (masks_of c.args.accepted.now u.task) u index m a b memory fits inside there last
