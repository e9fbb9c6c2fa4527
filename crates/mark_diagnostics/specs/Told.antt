-- The findings that are reported: of those of a create mask one, which stands for all of them; of the others each.
use Rattle.std.specs.Prelude.{ℕ, Bool, true, false, not, ◌&&◌, ◌==◌, if◌then◌else◌, List, [], ◌∷◌, ◌++◌, filter, flat_map, length, Option, Some, None}
use Rattle.std.specs.Option.{option_to_list}
use Rattle.std.specs.List.{find, range_with_len}
use Rattle.task_descriptor.specs.Listing.{Listing, registers}
use Rattle.mark_checker.specs.declared.finding.Rule.{Rule}
use Rattle.mark_checker.specs.declared.finding.Rule.TheVariants.{ExceedsCreate, SentNotCreated}
use Rattle.mark_checker.specs.declared.finding.Finding.{Finding}
use Rattle.mark_checker.specs.Numbers.{number_of}
use Rattle.mark_checker.specs.Rules.{rules}
use Rattle.mark_subjects.specs.Subjects.{Judged}

-- a finding of the create mask: it lacks a register that the task may write (rule 5), or one that it sends (rule 8)
abbrev pub is_of_mask : Rule → Bool
is_of_mask ExceedsCreate = true
is_of_mask SentNotCreated = true
is_of_mask _ = false

-- the findings to report, of a task with these findings
abbrev pub told : List Finding → List Finding
told fs = option_to_list (find (λ f. is_of_mask f.rule) fs) ++ filter (λ f. not (is_of_mask f.rule)) fs

-- the findings to report, of a program, one task after another; and how many are shown at most
abbrev pub told_of : Listing → (cert : List (List (ℕ × ℕ))) → (task : ℕ) → List Finding
told_of p cert task = told (rules p cert task)

abbrev pub all_told : Listing → (cert : List (List (ℕ × ℕ))) → List Finding
all_told p cert = flat_map (told_of p cert) (range_with_len 0 (length p.tasks))

abbrev pub most_shown : ℕ
most_shown = 1000

-- for each missing register, rising, the first finding that says so
abbrev pub is_register : Option ℕ → ℕ → Bool
is_register None r = false
is_register (Some q) r = q == r

abbrev pub leader : List Finding → ℕ → Option Finding
leader fs r = find (λ f. is_of_mask f.rule && is_register f.reg r) fs

unfoldable pub leaders : List Finding → List Finding
leaders fs = flat_map (λ r. option_to_list (leader fs r)) registers

-- the findings that are reported together with this one
abbrev pub about : Judged → Finding → List Finding
about s f = if is_of_mask f.rule then leaders (rules s.program s.least f.task) else f ∷ []

-- the number of a finding's register; 0 where its rule has none
abbrev pub register_in : Option ℕ → ℕ
register_in None = 0
register_in (Some r) = r

-- two findings of one task are of the same instruction, rule and register
abbrev pub is_same : Finding → Finding → Bool
is_same f g = f.index == g.index && (number_of f.rule == number_of g.rule && register_in f.reg == register_in g.reg)

unfoldable pub begins_with : List Finding → Finding → Bool
begins_with [] f = false
begins_with (first ∷ rest) f = is_same first f

-- the finding is told before all others of its task
unfoldable pub is_first : Judged → Finding → Bool
is_first s f = begins_with (told_of s.program s.least f.task) f
