-- The table of waits.
use Rattle.std.specs.Prelude.{◌≡◌, ℕ, List}
use Rattle.task_descriptor.specs.Listing.{Listing}
use Rattle.machine_model.specs.declared.event.Event.{Event}
use Rattle.unit_waits.specs.Waits.{waits}
use Rattle.unit_waits.specs.Counts.{counts_of}
use Rattle.wait_table.specs.Kinds.{waits_of}
use Rattle.wait_table.specs.Order.{most_first}
use Rattle.wait_table.specs.declared.kinds.Kind.TheVariants.{Unsent, Sent, Head, Any}
use Rattle.wait_table.specs.declared.table.WaitTable.{WaitTable}

-- of a history of `units` units
pub record IsTableOf (p : Listing) (units : ℕ) (history : List Event) (t : WaitTable) : Type 0 where
  pub counts : t.counts.items ≡ most_first (counts_of (waits p units history))
  pub unsent : t.unsent ≡ waits_of Unsent (counts_of (waits p units history))
  pub sent : t.sent ≡ waits_of Sent (counts_of (waits p units history))
  pub head : t.head ≡ waits_of Head (counts_of (waits p units history))
  pub all : t.all ≡ waits_of Any (counts_of (waits p units history))
