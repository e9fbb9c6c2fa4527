-- Worked examples, computed by the checker: a program that is well formed, and the first refusal of others.
use Rattle.std.specs.Prelude.{◌≡◌, pos, true, false, [], ◌∷◌, Some, None, codes}
use Rattle.std.proofs.Common.{refl}
use Rattle.mips_instructions.specs.declared.instruction.Op.TheVariants.{Imm, BranchTwo, Halt}
use Rattle.mips_instructions.specs.declared.instruction.ImmKind.TheVariants.{Addiu}
use Rattle.mips_instructions.specs.declared.instruction.BranchTwoKind.TheVariants.{Bne}
use Rattle.task_descriptor.specs.declared.descriptor.Stop.TheVariants as stop
use Rattle.task_descriptor.specs.declared.descriptor.Marked.{Marked}
use Rattle.task_descriptor.specs.declared.descriptor.Descriptor.{Descriptor}
use Rattle.task_descriptor.specs.declared.program.BuildFault.TheVariants.{NoTask, BadEntry, DuplicateEntry, BadMask, BadMark, BadStart}
use Rattle.task_descriptor.specs.Listing.{Listing, build_fault}

-- task A adds 1 to register 8 until it is 0, and forwards it; task B halts
abbrev add : Marked
add = record { op = Imm Addiu 8 8 (pos 1); forward = true; stop = stop.None }

abbrev back : Marked
back = record { op = BranchTwo Bne 8 0 0; forward = false; stop = stop.Always }

abbrev end : Marked
end = record { op = Halt; forward = false; stop = stop.None }

-- 256 is the set of register 8
abbrev loop : Descriptor
loop = record { name = codes "A"; entry = 0; create = 256; targets = 0 ∷ 2 ∷ [] }

abbrev last : Descriptor
last = record { name = codes "B"; entry = 2; create = 0; targets = [] }

abbrev pub program : Listing
program = record { code = add ∷ back ∷ end ∷ []; bytes = []; fixed = []; tasks = loop ∷ last ∷ []; start = 0 }

pub well_formed : build_fault program ≡ None
well_formed = refl

pub without_tasks : build_fault (record program { tasks = [] }) ≡ Some NoTask
without_tasks = refl

-- an entry past the code comes before a bad start
pub entry_behind : build_fault (record program { tasks = record last { entry = 3 } ∷ [] }) ≡ Some BadEntry
entry_behind = refl

pub one_name_twice : build_fault (record program { tasks = loop ∷ record last { name = codes "A" } ∷ [] }) ≡ Some DuplicateEntry
one_name_twice = refl

-- register 0 in a create mask
pub creates_zero : build_fault (record program { tasks = record loop { create = 257 } ∷ last ∷ [] }) ≡ Some BadMask
creates_zero = refl

-- the branch writes no register that it could forward; a stop if taken fits it, and not the addition
pub forwards_nothing : build_fault (record program { code = add ∷ record back { forward = true } ∷ end ∷ [] }) ≡ Some (BadMark 1)
forwards_nothing = refl

pub stops_if_taken : build_fault (record program { code = add ∷ record back { stop = stop.Taken } ∷ end ∷ [] }) ≡ None
stops_if_taken = refl

pub addition_is_taken : build_fault (record program { code = record add { stop = stop.Taken } ∷ back ∷ end ∷ [] }) ≡ Some (BadMark 0)
addition_is_taken = refl

pub starts_inside : build_fault (record program { start = 1 }) ≡ Some BadStart
starts_inside = refl
