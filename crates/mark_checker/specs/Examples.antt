-- Worked examples of the rules, computed by the check.
use Rattle.std.specs.Prelude.{◌≡◌, ℕ, [], ◌∷◌, pos, Some, None}
use Rattle.std.proofs.Common.{refl}
use Rattle.mips_instructions.specs.declared.instruction.ThreeKind.TheVariants.{Addu}
use Rattle.mips_instructions.specs.declared.instruction.ImmKind.TheVariants.{Addiu, Slti}
use Rattle.mips_instructions.specs.declared.instruction.BranchTwoKind.TheVariants.{Bne}
use Rattle.mips_instructions.specs.declared.instruction.Op.TheVariants.{Three, Imm, BranchTwo, JumpReg, Release, Out, Halt}
use Rattle.task_descriptor.specs.Listing.{Listing}
use Rattle.task_graph.specs.Examples.{count, bare, forwards, stops, forwards_stops}
use Rattle.mark_checker.specs.declared.finding.Rule.{Rule}
use Rattle.mark_checker.specs.declared.finding.Rule.TheVariants.{EntryWithoutMask, NextWithoutMask, LacksDestination, LacksNext, ExceedsCreate, ForwardedInNext, ReleasedInNext, SentNotCreated, ExitNotListed, FallsOff, IndirectGoesOn, TargetNotEntry}
use Rattle.mark_checker.specs.declared.finding.Finding.{Finding}
use Rattle.mark_checker.specs.Rules.{each, all_rules, rules}

-- a finding, with and without a register
abbrev pub at : (task index : ℕ) → Rule → (reg : ℕ) → Finding
at task index rule reg = record { task = task; index = index; rule = rule; reg = Some reg }

abbrev pub whole : (task index : ℕ) → Rule → Finding
whole task index rule = record { task = task; index = index; rule = rule; reg = None }

-- the certificate of `count`: nothing is found
pub count_accepted :
    all_rules count ((((0, 0x700) ∷ (1, 0x600) ∷ (2, 0x400) ∷ (3, 0) ∷ []) ∷ ((4, 0) ∷ (5, 0) ∷ []) ∷ [])) ≡ []
unfolding each
count_accepted = refl

-- with index 1 as 0x400 its mask lacks register 9, which the instruction there writes
pub missing_destination :
    all_rules count ((((0, 0x700) ∷ (1, 0x400) ∷ (2, 0x400) ∷ (3, 0) ∷ []) ∷ ((4, 0) ∷ (5, 0) ∷ []) ∷ []))
    ≡ at 0 1 LacksDestination 9 ∷ []
unfolding each
missing_destination = refl

-- with index 1 as 0x700 register 8, which was forwarded, is in the next mask: a true program is refused
-- for a larger mask
pub mask_too_large :
    all_rules count ((((0, 0x700) ∷ (1, 0x700) ∷ (2, 0x400) ∷ (3, 0) ∷ []) ∷ ((4, 0) ∷ (5, 0) ∷ []) ∷ []))
    ≡ at 0 0 ForwardedInNext 8 ∷ []
unfolding each
mask_too_large = refl

-- a list that is missing counts as empty: the entry of the second task has no mask
pub missing_list : all_rules count (((0, 0x700) ∷ (1, 0x600) ∷ (2, 0x400) ∷ (3, 0) ∷ []) ∷ []) ≡ whole 1 4 EntryWithoutMask ∷ []
unfolding each
missing_list = refl

-- register 8 is written again after index 1, so what index 0 forwards is not its last value
abbrev pub written_again : Listing
written_again = record {
  code = forwards (Imm Addiu 8 8 (pos 1)) ∷ forwards (Three Addu 9 9 8) ∷ bare (Imm Addiu 8 8 (pos 0)) ∷ bare (Imm Slti 10 8 (pos 4))
      ∷ stops (BranchTwo Bne 10 0 0) ∷ bare (Out 9) ∷ bare Halt ∷ [];
  bytes = [];
  fixed = [];
  tasks = (record { name = 65 ∷ []; entry = 0; create = 0x700; targets = 0 ∷ 5 ∷ [] })
      ∷ (record { name = 66 ∷ []; entry = 5; create = 0; targets = [] }) ∷ [];
  start = 0;
}

pub forwarded_again :
    all_rules written_again (((0, 0x700) ∷ (1, 0x700) ∷ (2, 0x500) ∷ (3, 0x400) ∷ (4, 0) ∷ []) ∷ ((5, 0) ∷ (6, 0) ∷ []) ∷ [])
    ≡ at 0 0 ForwardedInNext 8 ∷ []
unfolding each
forwarded_again = refl

-- a mask outside of the create mask, a register forwarded that is not created, an exit that is not
-- listed, a target that begins no task, and a successor without a mask
abbrev pub five_findings : Listing
five_findings = record {
  code = forwards_stops (Imm Addiu 8 0 (pos 1)) ∷ stops (Imm Addiu 9 0 (pos 2)) ∷ bare (Out 9) ∷ bare Halt ∷ [];
  bytes = [];
  fixed = [];
  tasks = (record { name = 65 ∷ []; entry = 0; create = 0; targets = 1 ∷ [] })
      ∷ (record { name = 66 ∷ []; entry = 1; create = 0x200; targets = 3 ∷ [] })
      ∷ (record { name = 67 ∷ []; entry = 2; create = 0; targets = [] }) ∷ [];
  start = 0;
}

pub five_found :
    all_rules five_findings (((0, 0x100) ∷ []) ∷ ((1, 0x200) ∷ []) ∷ ((2, 0) ∷ []) ∷ [])
    ≡ at 0 0 ExceedsCreate 8 ∷ at 0 0 SentNotCreated 8 ∷ whole 1 1 ExitNotListed ∷ whole 1 1 TargetNotEntry ∷ whole 2 2 NextWithoutMask ∷ []
unfolding each
five_found = refl

-- register 8 is released and written after that; the mask there lacks it, too; the task runs past the last
-- instruction
abbrev pub released_too_early : Listing
released_too_early = record {
  code = bare (Release 0x100) ∷ bare (Imm Addiu 8 8 (pos 1)) ∷ [];
  bytes = [];
  fixed = [];
  tasks = (record { name = 65 ∷ []; entry = 0; create = 0x100; targets = [] }) ∷ [];
  start = 0;
}

pub released_found :
    all_rules released_too_early (((0, 0) ∷ (1, 0x100) ∷ []) ∷ [])
    ≡ at 0 0 LacksNext 8 ∷ at 0 0 ReleasedInNext 8 ∷ whole 0 1 FallsOff ∷ []
unfolding each
released_found = refl

-- a jump to the address in register 31 that does not end its task
abbrev pub goes_on : Listing
goes_on = record {
  code = bare (JumpReg 31) ∷ [];
  bytes = [];
  fixed = [];
  tasks = (record { name = 65 ∷ []; entry = 0; create = 0; targets = [] }) ∷ [];
  start = 0;
}

pub indirect_found : all_rules goes_on (((0, 0) ∷ []) ∷ []) ≡ whole 0 0 IndirectGoesOn ∷ []
unfolding each
indirect_found = refl

-- an entry of the list at an index that is no instruction meets no rule, and the task's entry without a
-- mask is found before the entries beyond it
pub beside_the_code : rules count (((1, 0x600) ∷ (2, 0x400) ∷ (3, 0) ∷ (4095, 0x100) ∷ []) ∷ []) 0 ≡ whole 0 0 EntryWithoutMask ∷ []
unfolding each
beside_the_code = refl
