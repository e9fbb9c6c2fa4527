-- Worked examples, computed by the check: a loop that lacks its stop, and a create mask that lacks three registers.
use Rattle.std.specs.Prelude.{◌≡◌, ℕ, pos, List, [], ◌∷◌, Some, None, true, false}
use Rattle.std.proofs.Common.{refl}
use Rattle.mips_instructions.specs.declared.instruction.ThreeKind.TheVariants.{Addu}
use Rattle.mips_instructions.specs.declared.instruction.ImmKind.TheVariants.{Addiu, Slti}
use Rattle.mips_instructions.specs.declared.instruction.BranchTwoKind.TheVariants.{Bne}
use Rattle.mips_instructions.specs.declared.instruction.Op.TheVariants.{Three, Imm, BranchTwo, Out, Halt}
use Rattle.task_descriptor.specs.Listing.{Listing}
use Rattle.task_graph.specs.Examples.{bare, forwards}
use Rattle.annotated_asm.specs.Sources.{no_sources}
use Rattle.mark_checker.specs.declared.finding.Finding.{Finding}
use Rattle.mark_checker.specs.declared.finding.Rule.TheVariants.{ExceedsCreate, SentNotCreated}
use Rattle.mark_subjects.specs.Subjects.{Judged}
use Rattle.mark_diagnostics.specs.Told.{told, leaders, begins_with}
use Rattle.mark_subjects.specs.Steps.{entered}
use Rattle.mark_subjects.specs.Targets.{is_target}
use Rattle.mark_subjects.specs.Parts.{steps_of}
use Rattle.exit_diagnostics.specs.Remarks.{first_end}

-- `count` without its stop, and with an empty create mask
abbrev pub unstopped : Listing
unstopped = record {
  code = forwards (Imm Addiu 8 8 (pos 1)) ∷ forwards (Three Addu 9 9 8) ∷ bare (Imm Slti 10 8 (pos 4))
      ∷ bare (BranchTwo Bne 10 0 0) ∷ bare (Out 9) ∷ bare Halt ∷ [];
  bytes = [];
  fixed = [];
  tasks = (record { name = 65 ∷ []; entry = 0; create = 0; targets = 0 ∷ [] })
      ∷ (record { name = 66 ∷ []; entry = 4; create = 0; targets = [] }) ∷ [];
  start = 0;
}

abbrev pub judged : Judged
judged = record { program = unstopped; sources = no_sources; least = [] }

abbrev pub finding : (index register : ℕ) → Finding
finding i r = record { task = 0; index = i; rule = ExceedsCreate; reg = Some r }

-- The loop forwards $8 and comes back to where it begins: the step that does so is reported first.

pub comes_back : entered judged (0 ∷ 1 ∷ 2 ∷ 3 ∷ 0 ∷ []) ≡ Some (3, 0)
comes_back = refl

-- with masks
abbrev pub masked : Judged → Judged
masked s = record s { least = ((0, 256) ∷ (1, 256) ∷ (2, 256) ∷ (3, 256) ∷ (4, 0) ∷ []) ∷ [] }

-- the findings of two registers, one of which is also sent, are reported once
abbrev pub sent : Finding
sent = record { task = 0; index = 0; rule = SentNotCreated; reg = Some 9 }

pub one_for_both : told (sent ∷ finding 0 8 ∷ finding 0 9 ∷ []) ≡ sent ∷ []
one_for_both = refl

pub two_registers : leaders (sent ∷ finding 0 8 ∷ finding 0 9 ∷ []) ≡ finding 0 8 ∷ sent ∷ []
unfolding leaders
two_registers = refl

-- the step back leads into a target
pub back_is_target : is_target judged 0 0 ≡ true
back_is_target = refl

-- the loop goes on into its target, where it may end
pub may_end_there : first_end (masked judged) 0 ≡ Some 3
may_end_there = refl

-- Task B reaches the branch, too: a stop there fits only if A, to which it leads, is also a target of B.

abbrev pub joined : (targets : List ℕ) → Judged
joined targets = record (masked judged) {
  program = record unstopped {
    tasks = (record { name = 65 ∷ []; entry = 0; create = 0; targets = 0 ∷ [] })
        ∷ (record { name = 66 ∷ []; entry = 2; create = 0; targets = targets }) ∷ [];
  };
  least = ((0, 256) ∷ (1, 256) ∷ (2, 256) ∷ (3, 256) ∷ (4, 0) ∷ []) ∷ ((2, 0) ∷ (3, 0) ∷ (4, 0) ∷ []) ∷ [];
}

pub not_for_both : first_end (joined []) 0 ≡ None
not_for_both = refl

pub for_both : first_end (joined (0 ∷ [])) 0 ≡ Some 3
for_both = refl

-- Of two findings of a task the second is not the first that is told.

pub second_is_later : begins_with (finding 0 8 ∷ finding 0 9 ∷ []) (finding 0 9) ≡ false
unfolding begins_with
second_is_later = refl

pub first_is_first : begins_with (finding 0 8 ∷ finding 0 9 ∷ []) (finding 0 8) ≡ true
unfolding begins_with
first_is_first = refl

-- `la` in line 7 is two instructions, and one step of a path.

abbrev pub loads : Judged
loads = record judged {
  sources = record no_sources {
    code = (record { line = 7; column = 1 }) ∷ (record { line = 7; column = 1 }) ∷ (record { line = 8; column = 1 }) ∷ [];
    widths = 6 ∷ 6 ∷ 4 ∷ [];
  };
}

pub one_step : steps_of loads (0 ∷ 1 ∷ 2 ∷ []) ≡ (record { line = 7; column = 1; width = 6 }) ∷ (record { line = 8; column = 1; width = 4 }) ∷ []
one_step = refl
