use Rattle.mask_certificate.specs.Lists.{list_of}
use Rattle.task_graph.proofs.WellFormed.{entry_inside}
use Rattle.mark_checker.proofs.Acceptance.{entry_says}
use Rattle.mark_checker.proofs.laws.accepted_entry.Goals as goal

pub returns : goal.returns
returns c p cert well acc t d task = entry_says p d (list_of cert t) (acc.right t d task) (entry_inside p t d well task)
