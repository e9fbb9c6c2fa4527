-- Helper vocabulary of the checker's own functions: what its flags and sets stand for, and how far it has
-- come in a list. No contract of a public function cites a word of this file.
use Rattle.std.specs.Prelude.{◌≡◌, ℕ, nat_eq, nat_lt, if◌then◌else◌, Bool, true, false, List, ◌++◌, Option, Some, None}
use Rattle.mips_instructions.specs.Words.{has}
use Rattle.mark_checker.specs.declared.place.Faults.{Faults}
use Rattle.mark_checker.specs.declared.finding.Rule.TheVariants.{EntryWithoutMask, NextWithoutMask, LacksDestination, LacksNext, ExceedsCreate, ForwardedInNext, ReleasedInNext, SentNotCreated, ExitNotListed, FallsOff, IndirectGoesOn, TargetNotEntry}
use Rattle.mark_checker.specs.declared.finding.Finding.{Finding}
use Rattle.mark_checker.specs.Rules.{Conditions, once, each, masked, places}

-- the test of an index, if there is one
abbrev pub holds_at : Option ℕ → (ℕ → Bool) → Bool
holds_at None test = false
holds_at (Some j) test = test j

-- the conditions that the code's flags and sets stand for
abbrev pub told : Faults → Conditions
told f = record {
  entry_without_mask = f.entry.without_mask;
  next_without_mask = f.inside.next_without_mask;
  lacks_destination = has f.inside.lacks_destination;
  lacks_next = has f.inside.lacks_next;
  exceeds_create = has f.entry.exceeds_create;
  forwarded_in_next = has f.inside.forwarded_in_next;
  released_in_next = has f.inside.released_in_next;
  sent_not_created = has f.inside.sent_not_created;
  exit_not_listed = f.inside.exit_not_listed;
  falls_off = f.inside.falls_off;
  indirect_goes_on = f.inside.indirect_goes_on;
  target_not_entry = f.entry.target_not_entry;
}

-- two conditions agree on each register
pub record Same (c d : Conditions) : Type 0 where
  pub entry_without_mask : c.entry_without_mask ≡ d.entry_without_mask
  pub next_without_mask : c.next_without_mask ≡ d.next_without_mask
  pub lacks_destination : (r : ℕ) → c.lacks_destination r ≡ d.lacks_destination r
  pub lacks_next : (r : ℕ) → c.lacks_next r ≡ d.lacks_next r
  pub exceeds_create : (r : ℕ) → c.exceeds_create r ≡ d.exceeds_create r
  pub forwarded_in_next : (r : ℕ) → c.forwarded_in_next r ≡ d.forwarded_in_next r
  pub released_in_next : (r : ℕ) → c.released_in_next r ≡ d.released_in_next r
  pub sent_not_created : (r : ℕ) → c.sent_not_created r ≡ d.sent_not_created r
  pub exit_not_listed : c.exit_not_listed ≡ d.exit_not_listed
  pub falls_off : c.falls_off ≡ d.falls_off
  pub indirect_goes_on : c.indirect_goes_on ≡ d.indirect_goes_on
  pub target_not_entry : c.target_not_entry ≡ d.target_not_entry

-- whether the task's entry is done after the next index of its list: None where it is passed over
abbrev pub begun_after : (begun : Bool) (index entry : ℕ) → Option Bool
begun_after true index entry = Some true
begun_after false index entry =
    if nat_lt index entry then Some false else if nat_eq index entry then Some true else None

-- the places that are left, once the entry is done and before
abbrev pub left_places : (begun : Bool) (entry : ℕ) → List (ℕ × ℕ) → List (ℕ × Option ℕ)
left_places true entry es = masked es
left_places false entry es = places entry es

-- the findings of one place in two halves
abbrev pub first_rules : (t i : ℕ) → Conditions → List Finding
first_rules t i c =
    once t i EntryWithoutMask c.entry_without_mask
    ++ (once t i NextWithoutMask c.next_without_mask
    ++ (each t i LacksDestination c.lacks_destination
    ++ (each t i LacksNext c.lacks_next
    ++ (each t i ExceedsCreate c.exceeds_create
    ++ each t i ForwardedInNext c.forwarded_in_next))))

abbrev pub last_rules : (t i : ℕ) → Conditions → List Finding
last_rules t i c =
    each t i ReleasedInNext c.released_in_next
    ++ (each t i SentNotCreated c.sent_not_created
    ++ (once t i ExitNotListed c.exit_not_listed
    ++ (once t i FallsOff c.falls_off
    ++ (once t i IndirectGoesOn c.indirect_goes_on
    ++ once t i TargetNotEntry c.target_not_entry))))
