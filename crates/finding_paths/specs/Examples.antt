-- Worked examples, computed by the check and shown by hand.
use Rattle.std.specs.Prelude.{◌≡◌, pos, true, false, [], ◌∷◌}
use Rattle.std.proofs.Common.{refl}
use Rattle.mips_instructions.specs.declared.instruction.ImmKind.TheVariants.{Addiu}
use Rattle.mips_instructions.specs.declared.instruction.Op.TheVariants.{Imm}
use Rattle.task_graph.specs.Examples.{count, forwards}
use Rattle.finding_paths.specs.declared.mark.CostlyMark.TheVariants.{NotForwarded, Unreached}
use Rattle.finding_paths.specs.Costly.{UnsentPath, stay, onward, has_target}
use Rattle.finding_paths.specs.Candidates.{of_place, Picked, none, taken, left}

-- one thing may be reported of a place
pub one_of_place : of_place 3 ≡ Unreached 3 ∷ []
one_of_place = refl

-- of two marks, the one for which the fact holds is picked
pub one_picked : Picked (λ mark. mark ≡ Unreached 1) (NotForwarded 0 ∷ Unreached 1 ∷ []) (Unreached 1 ∷ [])
one_picked = left (λ e. cc) (taken refl none)

-- the first instruction of `count` forwards $8, so after it $9 may be unsent
pub nine_unsent : UnsentPath count 9 0 1
nine_unsent = onward stay (record { at = forwards (Imm Addiu 8 8 (pos 1)); is_there = refl; taken = false; leads = refl; kind = refl }) refl

-- no task follows one without targets
pub none_follows : has_target [] ≡ false
none_follows = refl

pub one_follows : has_target (3 ∷ []) ≡ true
one_follows = refl
