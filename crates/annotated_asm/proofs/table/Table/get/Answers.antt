use Rattle.std.proofs.Common.{◌∙◌}
use Rattle.annotated_asm.specs.Tables.{lookup}
use Rattle.annotated_asm.proofs.TableRows.{lookup_seen}
use Rattle.annotated_asm.proofs.table.Table.get.Goals as goal

pub returns : goal.returns
returns c =
    c.copied.ensures ∙ (c.get.ensures.value ∙ (lookup_seen c.as_str.result.now c.self.inside.rows.entries
    ∙ (λ i. lookup (c.self.view_is i) (c.as_str.ensures.text i))))
