-- Which registers a fix writes in a create mask or a release.
use Rattle.std.specs.Prelude.{ℕ, Bool, true, false, not, ◌&&◌, ◌||◌, ◌==◌, List, slice_get, Option, Some, None}
use Rattle.std.specs.List.{list_any}
use Rattle.mips_instructions.specs.Words.{has}
use Rattle.task_descriptor.specs.declared.descriptor.Descriptor.{Descriptor}
use Rattle.mask_certificate.specs.Lists.{mask_at}
use Rattle.mark_checker.specs.Rules.{in_mask}
use Rattle.mark_subjects.specs.Subjects.{Judged, which, entries_of, releases, inner_end}

-- of a create mask that lacks registers: its own, and these
abbrev pub widened : Option Descriptor → (missing : List ℕ) → List ℕ
widened None missing = missing
widened (Some d) missing = which (λ r. has d.create r || list_any (λ q. q == r) missing)

-- of one with registers that are never produced: its own without these
abbrev pub created_in : Option Descriptor → (register : ℕ) → Bool
created_in None r = false
created_in (Some d) r = has d.create r

abbrev pub produced : Judged → (task : ℕ) → (gone : List ℕ) → List ℕ
produced s task gone = which (λ r. created_in (slice_get s.program.tasks task) r && not (list_any (λ q. q == r) gone))

-- of a release of registers that were sent before it: its own without these
abbrev pub still_released : Judged → (index : ℕ) → (gone : List ℕ) → List ℕ
still_released s i gone = which (λ r. releases s i r && not (list_any (λ q. q == r) gone))

-- of a release that is too early for some registers: those that the task does not write after it
abbrev pub written_from : Judged → (task : ℕ) → Option ℕ → (register : ℕ) → Bool
written_from s task None r = false
written_from s task (Some j) r = in_mask (mask_at (entries_of s task) j) r

abbrev pub written_after : Judged → (task index register : ℕ) → Bool
written_after s task i r = written_from s task (inner_end s i false) r || written_from s task (inner_end s i true) r

abbrev pub kept : Judged → (task index : ℕ) → List ℕ
kept s task i = which (λ r. releases s i r && not (written_after s task i r))
