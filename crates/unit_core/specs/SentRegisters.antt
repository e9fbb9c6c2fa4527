-- What stays true of a unit's sent registers. A certificate's mask at an index of a task holds the
-- registers that may still be written from there.
use Rattle.std.specs.Prelude.{◌≡◌, ℕ, Bool, Some}
use Rattle.mask_certificate.specs.Lists.{list_of, mask_at}
use Rattle.mark_checker.specs.Rules.{in_mask}
use Rattle.mark_checker.specs.Places.{Checked}
use Rattle.machine_model.specs.Machine.{Active, value}
use Rattle.machine_model.specs.Burst.{SentIsLast}

-- whether the mask of task t at index i has a register; none where there is no mask
abbrev pub mask_has : Checked → (t i r : ℕ) → Bool
mask_has c t i r = in_mask (mask_at (list_of c.cert t) i) r

-- no register that the unit sent is in the mask of its place
abbrev pub KeepsSent : Checked → Active → Type 0
KeepsSent c u = SentIsLast (mask_has c u.task) u

-- that holds of u' too, and each register that u had sent still has its value
pub record SentStays (c : Checked) (u u' : Active) : Type 0 where
  pub keeps : KeepsSent c u'
  pub same : (r word : ℕ) → u.sent r ≡ Some word → value u' r ≡ value u r
