-- Where a task may be meant to end: a stop there leaves it at most 16 targets, and ends no other task that reaches the
-- instruction before a task that is no target of it.
use Rattle.std.specs.Prelude.{ℕ, Bool, not, ◌&&◌, ◌==◌, length, is_some}
use Rattle.std.specs.List.{list_any, range_with_len}
use Rattle.mask_certificate.specs.Lists.{mask_at}
use Rattle.mark_subjects.specs.Subjects.{Judged, entries_of}
use Rattle.mark_subjects.specs.Targets.{lacks_some, may_stop}

abbrev pub ends_astray : Judged → (index task : ℕ) → Bool
ends_astray s i task = lacks_some s task i && is_some (mask_at (entries_of s task) i)

abbrev pub stops_another : Judged → (task index : ℕ) → Bool
stops_another s task i =
    list_any (λ other. not (other == task) && ends_astray s i other) (range_with_len 0 (length s.program.tasks))

abbrev pub stop_fits : Judged → (task index : ℕ) → Bool
stop_fits s task i = may_stop s task i && not (stops_another s task i)
