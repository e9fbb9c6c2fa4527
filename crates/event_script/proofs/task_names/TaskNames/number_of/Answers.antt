-- A name is found among the texts where it stands among their bytes.
use Rattle.std.proofs.Common.{◌∙◌}
use Rattle.std.specs.List.{position}
use Rattle.std.specs.Str.{bytes_eq}
use Rattle.event_script.proofs.NamesApart.{position_seen}
use Rattle.event_script.proofs.task_names.TaskNames.number_of.Goals as goal

pub returns-clause-number : goal.returns-clause-number
returns-clause-number c =
    c.get_index_of.ensures.index ∙ position_seen c.as_str.result.now c.self.inside.names.keys
    ∙ (λ i. position (λ other. bytes_eq other (c.as_str.ensures.text i)) (c.self.view_is i))
