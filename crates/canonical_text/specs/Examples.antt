-- A worked example, computed by the checker: the canonical text of a small program with data.
use Rattle.std.specs.Prelude.{◌≡◌, pos, true, false, [], ◌∷◌, ◌++◌, codes}
use Rattle.std.specs.Fmt.{digits}
use Rattle.std.proofs.Common.{refl}
use Rattle.mips_instructions.specs.declared.instruction.ThreeKind.TheVariants.{Addu}
use Rattle.mips_instructions.specs.declared.instruction.ImmKind.TheVariants.{Addiu, Slti}
use Rattle.mips_instructions.specs.declared.instruction.LoadKind.TheVariants.{Lw}
use Rattle.mips_instructions.specs.declared.instruction.BranchTwoKind.TheVariants.{Bne}
use Rattle.mips_instructions.specs.declared.instruction.Op.TheVariants.{Three, Imm, Load, BranchTwo, Out, Release, Halt}
use Rattle.task_descriptor.specs.declared.descriptor.Stop.TheVariants as stop
use Rattle.task_descriptor.specs.Listing.{Listing}
use Rattle.canonical_text.specs.CanonicalText.{line, members, hexadecimal, canonical_text}

abbrev pub count : Listing
count = record {
  code =
      record { op = Imm Addiu 8 8 (pos 1); forward = true; stop = stop.None }
      ∷ record { op = Three Addu 9 9 8; forward = true; stop = stop.None }
      ∷ record { op = Imm Slti 10 8 (pos 4); forward = false; stop = stop.None }
      ∷ record { op = BranchTwo Bne 10 0 0; forward = false; stop = stop.Always }
      ∷ record { op = Out 9; forward = false; stop = stop.None }
      ∷ record { op = Halt; forward = false; stop = stop.None } ∷ [];
  bytes = [];
  fixed = [];
  tasks =
      record { name = codes "A"; entry = 0; create = 0x700; targets = 0 ∷ 4 ∷ [] }
      ∷ record { name = codes "B"; entry = 4; create = 0; targets = [] } ∷ [];
  start = 0;
}

pub count_text : canonical_text count
    ≡ line (codes ".start A") ++ line (codes ".task A create=$8,$9,$10 targets=A,B")
    ++ line (codes ".task B create=- targets=-") ++ line (codes "A:") ++ line (codes "addiu $8,$8,1 !f")
    ++ line (codes "addu $9,$9,$8 !f") ++ line (codes "slti $10,$8,4") ++ line (codes "bne $10,$0,A !s")
    ++ line (codes "B:") ++ line (codes "out $9") ++ line (codes "halt")
unfolding members hexadecimal digits
count_text = refl

-- a place where no task begins, a negative offset, HI in a release, and bytes of both regions
abbrev pub regions : Listing
regions = record {
  code =
      record { op = Load Lw 8 9 (pos 0); forward = false; stop = stop.None }
      ∷ record { op = BranchTwo Bne 8 0 2; forward = false; stop = stop.NotTaken }
      ∷ record { op = Release 0x100000100; forward = false; stop = stop.Always } ∷ [];
  bytes = 128 ∷ 255 ∷ 0 ∷ 1 ∷ 7 ∷ [];
  fixed = 9 ∷ [];
  tasks = record { name = codes "A"; entry = 0; create = 0; targets = 2 ∷ [] } ∷ [];
  start = 0;
}

pub regions_text : canonical_text regions
    ≡ line (codes ".start A") ++ line (codes ".task A create=- targets=@2") ++ line (codes "A:")
    ++ line (codes "lw $8,0($9)") ++ line (codes "bne $8,$0,@2 !sn") ++ line (codes "release $8,$32 !s")
    ++ line (codes ".data") ++ line (codes ".word 0x0100ff80") ++ line (codes ".byte 0x07")
    ++ line (codes ".rodata") ++ line (codes ".byte 0x09")
unfolding members hexadecimal digits
regions_text = refl
