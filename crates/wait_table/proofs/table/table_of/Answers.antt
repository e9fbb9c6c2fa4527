-- The counts are those of the waits.
use Rattle.std.proofs.Common.{List, ◌∙◌, ap}
use Rattle.unit_waits.specs.declared.count.Count.{Count}
use Rattle.wait_table.specs.Kinds.{waits_of}
use Rattle.wait_table.specs.Order.{most_first}
use Rattle.wait_table.specs.declared.kinds.Kind.TheVariants.{Unsent, Sent, Head, Any}
use Rattle.wait_table.proofs.table.table_of.Goals as goal

pub returns : goal.returns
returns c =
    let exact = c.in_ok-counts.ensures.exact in
    record {
      counts = c.in_ok-ordered.ensures ∙ ap (λ (cs : List Count). most_first cs) (c.deref-5.ensures.value ∙ exact);
      unsent = c.waits_of-unsent.ensures ∙ ap (λ (cs : List Count). waits_of Unsent cs) (c.deref.ensures.value ∙ exact);
      sent = c.waits_of-sent.ensures ∙ ap (λ (cs : List Count). waits_of Sent cs) (c.deref-2.ensures.value ∙ exact);
      head = c.waits_of-head.ensures ∙ ap (λ (cs : List Count). waits_of Head cs) (c.deref-3.ensures.value ∙ exact);
      all = c.waits_of-all.ensures ∙ ap (λ (cs : List Count). waits_of Any cs) (c.deref-4.ensures.value ∙ exact);
    }
