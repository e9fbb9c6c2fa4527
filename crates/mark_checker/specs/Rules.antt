-- The twelve rules by which the annotations of a program are checked against a certificate.
--
-- A certificate gives, for places of each task, a mask: the registers that the task may still write
-- from there on. The rules ask that masks hold what is written and only shrink along inner edges, that
-- what is sent (forwarded or released) is in no later mask, and that exits are listed. The marks are
-- those of Sohi, Breach, Vijaykumar, "Multiscalar Processors", ISCA 1995, section 2.2; masks as
-- a certificate, and the twelve rules, are this project's own.
use Rattle.std.specs.Prelude.{ℕ, Bool, true, false, not, ◌&&◌, if◌then◌else◌, nat_eq, nat_lt, nat_le, is_some, is_none, List, [], ◌∷◌, ◌++◌, length, map, filter, slice_get, Option, Some, None}
use Rattle.std.specs.List.{list_any, flat_map, range_with_len}
use Rattle.mips_instructions.specs.Words.{has}
use Rattle.mips_instructions.specs.Instruction.{dests, released}
use Rattle.task_descriptor.specs.Listing.{Listing}
use Rattle.task_descriptor.specs.declared.descriptor.Marked.{Marked}
use Rattle.task_descriptor.specs.declared.descriptor.Descriptor.{Descriptor}
use Rattle.task_descriptor.specs.declared.descriptor.Stop.{Stop}
use Rattle.task_descriptor.specs.declared.descriptor.Stop.TheVariants as stop
use Rattle.task_graph.specs.Edges.{ends_of, sends, is_indirect}
use Rattle.task_graph.specs.Soundness.{is_target, is_entry}
use Rattle.mask_certificate.specs.Lists.{mask_at, list_of}
use Rattle.mark_checker.specs.declared.finding.Rule.{Rule}
use Rattle.mark_checker.specs.declared.finding.Rule.TheVariants.{EntryWithoutMask, NextWithoutMask, LacksDestination, LacksNext, ExceedsCreate, ForwardedInNext, ReleasedInNext, SentNotCreated, ExitNotListed, FallsOff, IndirectGoesOn, TargetNotEntry}
use Rattle.mark_checker.specs.declared.finding.Finding.{Finding}

-- the mask has the register
abbrev pub in_mask : Option ℕ → ℕ → Bool
in_mask None r = false
in_mask (Some mask) r = has mask r

-- r is in the mask of an inner successor of the instruction m at i, `es` being the task's list
abbrev pub next_has : Listing → List (ℕ × ℕ) → Marked → (i r : ℕ) → Bool
next_has p es m i r = list_any (λ j. nat_lt j (length p.code) && in_mask (mask_at es j) r) (ends_of false m i)

abbrev pub stops_always : Stop → Bool
stops_always stop.Always = true
stops_always _ = false

-- Whether each rule finds something at one place; for rules 3 to 8, at which registers.
pub record Conditions : Type 0 where
  pub entry_without_mask : Bool
  pub next_without_mask : Bool
  pub lacks_destination : ℕ → Bool
  pub lacks_next : ℕ → Bool
  pub exceeds_create : ℕ → Bool
  pub forwarded_in_next : ℕ → Bool
  pub released_in_next : ℕ → Bool
  pub sent_not_created : ℕ → Bool
  pub exit_not_listed : Bool
  pub falls_off : Bool
  pub indirect_goes_on : Bool
  pub target_not_entry : Bool

-- The rules at the instruction m at i of the task d, with this mask or none.
abbrev pub conditions : Listing → Descriptor → (es : List (ℕ × ℕ)) → (i : ℕ) → Marked → (mask : Option ℕ) → Conditions
conditions p d es i m mask =
    let begins = nat_eq i d.entry in
    let masked = is_some mask in
    record {
      entry_without_mask = begins && is_none mask;
      next_without_mask = masked && list_any (λ j. nat_lt j (length p.code) && is_none (mask_at es j)) (ends_of false m i);
      lacks_destination = λ r. masked && (dests m.op r && not (in_mask mask r));
      lacks_next = λ r. masked && (next_has p es m i r && not (in_mask mask r));
      exceeds_create = λ r. begins && (in_mask mask r && not (has d.create r));
      forwarded_in_next = λ r. masked && ((m.forward && dests m.op r) && next_has p es m i r);
      released_in_next = λ r. masked && (released m.op r && next_has p es m i r);
      sent_not_created = λ r. masked && (sends m r && not (has d.create r));
      exit_not_listed = masked && list_any (λ j. not (is_target d j)) (ends_of true m i);
      falls_off = masked && list_any (λ j. nat_le (length p.code) j) (ends_of false m i);
      indirect_goes_on = masked && (is_indirect m.op && not (stops_always m.stop));
      target_not_entry = begins && list_any (λ j. not (is_entry p j)) d.targets;
    }

-- one finding without a register, if the condition holds
abbrev pub once : (t i : ℕ) → Rule → Bool → List Finding
once t i rule holds = if holds then record { task = t; index = i; rule = rule; reg = None } ∷ [] else []

-- one finding for each register, 0 to 33, for which the condition holds
unfoldable pub each : (t i : ℕ) → Rule → (ℕ → Bool) → List Finding
each t i rule holds =
    map (λ r. record { task = t; index = i; rule = rule; reg = Some r }) (filter holds (range_with_len 0 34))

-- the findings of one place, by rule and register
abbrev pub found : (t i : ℕ) → Conditions → List Finding
found t i c =
    once t i EntryWithoutMask c.entry_without_mask
    ++ (once t i NextWithoutMask c.next_without_mask
    ++ (each t i LacksDestination c.lacks_destination
    ++ (each t i LacksNext c.lacks_next
    ++ (each t i ExceedsCreate c.exceeds_create
    ++ (each t i ForwardedInNext c.forwarded_in_next
    ++ (each t i ReleasedInNext c.released_in_next
    ++ (each t i SentNotCreated c.sent_not_created
    ++ (once t i ExitNotListed c.exit_not_listed
    ++ (once t i FallsOff c.falls_off
    ++ (once t i IndirectGoesOn c.indirect_goes_on
    ++ once t i TargetNotEntry c.target_not_entry))))))))))

-- a place of a task: an index with its mask, if it has one
abbrev pub masked : List (ℕ × ℕ) → List (ℕ × Option ℕ)
masked es = map (λ e. (e.0, Some e.1)) es

-- The places of a task that are looked at: the entries of its list and, if the task's entry has no mask,
-- that entry, before the first one beyond it. They rise, since a certificate's lists rise.
abbrev pub places : (entry : ℕ) → List (ℕ × ℕ) → List (ℕ × Option ℕ)
places entry [] = (entry, None) ∷ []
places entry (e ∷ es) =
    if nat_lt e.0 entry then (e.0, Some e.1) ∷ places entry es
    else if nat_eq e.0 entry then masked (e ∷ es)
    else (entry, None) ∷ masked (e ∷ es)

-- the findings of one place; none where there is no instruction
abbrev pub found_at : Option Marked → Listing → Descriptor → List (ℕ × ℕ) → (t : ℕ) → ℕ × Option ℕ → List Finding
found_at None p d es t place = []
found_at (Some m) p d es t place = found t place.0 (conditions p d es place.0 m place.1)

abbrev pub rules_at : Listing → Descriptor → List (ℕ × ℕ) → (t : ℕ) → ℕ × Option ℕ → List Finding
rules_at p d es t place = found_at (slice_get p.code place.0) p d es t place

-- the findings of one task, by index, rule and register
abbrev pub task_rules : Option Descriptor → Listing → List (ℕ × ℕ) → (t : ℕ) → List Finding
task_rules None p es t = []
task_rules (Some d) p es t = flat_map (rules_at p d es t) (places d.entry es)

abbrev pub rules : Listing → List (List (ℕ × ℕ)) → (t : ℕ) → List Finding
rules p cert t = task_rules (slice_get p.tasks t) p (list_of cert t) t

-- the findings of all tasks, one task after another
abbrev pub all_rules : Listing → List (List (ℕ × ℕ)) → List Finding
all_rules p cert = flat_map (rules p cert) (range_with_len 0 (length p.tasks))
