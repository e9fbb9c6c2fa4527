use Rattle.mask_certificate.specs.Lists.{list_of}
use Rattle.task_graph.proofs.WellFormed.{entry_inside}
use Rattle.mark_checker.proofs.Acceptance.{place_says}
use Rattle.mark_checker.proofs.laws.accepted_place.Goals as goal

pub returns : goal.returns
returns c p cert well acc t i mask d m task there has_mask =
    place_says p d (list_of cert t) i mask m (acc.right t d task) there has_mask (entry_inside p t d well task)
