-- What it means for a place to be right, and what holds of an accepted program and its certificate.
use Rattle.std.specs.Prelude.{◌≡◌, ℕ, ◌<◌, length, true, false, List, [], ◌∷◌, slice_get, Option, Some}
use Rattle.mips_instructions.specs.Words.{has}
use Rattle.task_descriptor.specs.Listing.{Listing}
use Rattle.task_descriptor.specs.declared.descriptor.Marked.{Marked}
use Rattle.task_descriptor.specs.declared.descriptor.Descriptor.{Descriptor}
use Rattle.mask_certificate.specs.Lists.{mask_at, list_of}
use Rattle.mark_checker.specs.Rules.{Conditions, conditions, places, all_rules}
use Rattle.mips_instructions.specs.Instruction.{dests}
use Rattle.task_graph.specs.Edges.{Edge, Path, sends}
use Rattle.task_graph.specs.Soundness.{Sound}

-- no condition holds, of any register
pub record IsClean (c : Conditions) : Type 0 where
  pub entry_without_mask : c.entry_without_mask ≡ false
  pub next_without_mask : c.next_without_mask ≡ false
  pub lacks_destination : (r : ℕ) → c.lacks_destination r ≡ false
  pub lacks_next : (r : ℕ) → c.lacks_next r ≡ false
  pub exceeds_create : (r : ℕ) → c.exceeds_create r ≡ false
  pub forwarded_in_next : (r : ℕ) → c.forwarded_in_next r ≡ false
  pub released_in_next : (r : ℕ) → c.released_in_next r ≡ false
  pub sent_not_created : (r : ℕ) → c.sent_not_created r ≡ false
  pub exit_not_listed : c.exit_not_listed ≡ false
  pub falls_off : c.falls_off ≡ false
  pub indirect_goes_on : c.indirect_goes_on ≡ false
  pub target_not_entry : c.target_not_entry ≡ false

-- a place of a task at which no rule finds anything
abbrev pub IsRight : Listing → Descriptor → List (ℕ × ℕ) → ℕ × Option ℕ → Type 0
IsRight p d es place = (m : Marked) → slice_get p.code place.0 ≡ Some m → IsClean (conditions p d es place.0 m place.1)

abbrev pub AllRight : Listing → Descriptor → List (ℕ × ℕ) → List (ℕ × Option ℕ) → Type 0
AllRight p d es [] = Unit {0}
AllRight p d es (place ∷ rest) = IsRight p d es place × AllRight p d es rest

-- What holds of an accepted program and its certificate: no rule finds anything, each place of each task
-- is right, and so the program's annotations are sound.
pub record IsAccepted (p : Listing) (cert : List (List (ℕ × ℕ))) : Type 0 where
  pub nothing_found : all_rules p cert ≡ []
  pub right : (t : ℕ) (d : Descriptor) → slice_get p.tasks t ≡ Some d
      → AllRight p d (list_of cert t) (places d.entry (list_of cert t))
  pub sound : Sound p

-- a program with its certificate
pub record Checked : Type 0 where
  pub program : Listing
  pub cert : List (List (ℕ × ℕ))

-- What holds at one place of an accepted program, the instruction m at i with its mask.
pub record PlaceSays (p : Listing) (d : Descriptor) (es : List (ℕ × ℕ)) (i : ℕ) (m : Marked) (mask : ℕ) : Type 0 where
  -- the mask has each destination of the instruction
  pub destinations : (r : ℕ) → dests m.op r ≡ true → has mask r ≡ true
  -- an inner edge leads to an instruction that has a mask, and the mask here has each register of it
  pub next_inside : (j : ℕ) → Edge p false i j → j < length p.code
  pub next_masked : (j : ℕ) → Edge p false i j → (k : ℕ) × (mask_at es j ≡ Some k)
  pub next_within : (j k r : ℕ) → Edge p false i j → mask_at es j ≡ Some k → has k r ≡ true → has mask r ≡ true
  -- what the instruction sends is in no inner successor's mask
  pub sent : (j k r : ℕ) → Edge p false i j → mask_at es j ≡ Some k → sends m r ≡ true → has k r ≡ false
  -- the mask lies in the create mask where the place is reached from the entry
  pub created : Path p d.entry i → (r : ℕ) → has mask r ≡ true → has d.create r ≡ true
