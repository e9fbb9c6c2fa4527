-- Marks that one warning covers: those of one create mask, and those of one release, which stand one after another.
use Rattle.std.specs.Prelude.{ℕ, Bool, false, ◌==◌, List, [], ◌∷◌, ◌++◌, Option, Some, None, if◌then◌else◌}
use Rattle.finding_paths.specs.declared.mark.CostlyMark.{CostlyMark}
use Rattle.finding_paths.specs.declared.mark.CostlyMark.TheVariants.{NeverProduced, SentBefore}
use Rattle.exit_diagnostics.specs.declared.remark.Remark.{Remark}
use Rattle.exit_diagnostics.specs.declared.remark.Remark.TheVariants.{Costly}

abbrev pub are_together : CostlyMark → CostlyMark → Bool
are_together (NeverProduced task r) (NeverProduced other q) = task == other
are_together (SentBefore index r) (SentBefore other q) = index == other
are_together a b = false

-- the registers of a mark and of those right after it that stand together with it
abbrev pub register_of : CostlyMark → List ℕ
register_of (NeverProduced task r) = r ∷ []
register_of (SentBefore index r) = r ∷ []
register_of _ = []

abbrev pub registers_behind : CostlyMark → List CostlyMark → List ℕ
registers_behind mark [] = []
registers_behind mark (next ∷ marks) = if are_together mark next then register_of next ++ registers_behind mark marks else []

-- a mark that does not stand together with the one before it, with its registers
abbrev pub told_after : (before : Option CostlyMark) → CostlyMark → List CostlyMark → List Remark
told_after None mark behind = Costly mark (register_of mark ++ registers_behind mark behind) ∷ []
told_after (Some before) mark behind =
    if are_together before mark then [] else Costly mark (register_of mark ++ registers_behind mark behind) ∷ []

abbrev pub told_from : (before : Option CostlyMark) → List CostlyMark → List Remark
told_from before [] = []
told_from before (mark ∷ marks) = told_after before mark marks ++ told_from (Some mark) marks

-- of those that stand together the first, with the registers of all
abbrev pub told_marks : List CostlyMark → List Remark
told_marks marks = told_from None marks
