-- A text whose marks are right.
use Rattle.std.specs.Prelude.{◌≡◌, ◌↔◌, ℕ, List, Ok, Err}
use Rattle.task_descriptor.specs.Listing.{Listing}
use Rattle.annotated_asm.specs.declared.fault.AsmFault.{AsmFault}
use Rattle.annotated_asm.specs.ProgramText.{parse}
use Rattle.task_graph.specs.Soundness.{Sound}
use Rattle.judged_fixes.specs.declared.judge.Marks.{Marks}
use Rattle.judged_fixes.specs.declared.judge.Marks.TheVariants.{Right, Wrong, Unread}

-- it spells a program, whose marks are sound
pub record IsRight (text : List ℕ) : Type 0 where
  pub program : Listing
  pub spelled : parse text ≡ Ok program
  pub sound : Sound program

-- it spells none
pub record IsUnread (text : List ℕ) : Type 0 where
  pub fault : AsmFault
  pub refused : parse text ≡ Err fault

-- what is said of a program's marks
abbrev pub IsSaidOf : Listing → Marks → Type 0
IsSaidOf p Right = Sound p
IsSaidOf p Wrong = Sound p → ⊥
IsSaidOf p Unread = ⊥
