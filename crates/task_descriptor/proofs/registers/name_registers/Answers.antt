-- The three parts of it.
use Rattle.std.proofs.Common.{◌≡◌, true, subst}
use Rattle.std.specs.List.{All}
use Rattle.mips_instructions.specs.Words.{has}
use Rattle.task_descriptor.specs.Names.{is_name}
use Rattle.task_descriptor.specs.Listing.{OfRegisters, NamesRegisters}
use Rattle.task_descriptor.specs.declared.descriptor.Descriptor.{Descriptor}
use Rattle.task_descriptor.proofs.registers.name_registers.Goals as goal

pub returns : goal.returns
returns c = record {
  code = subst (All NamesRegisters) c.deref.ensures.value c.all_name_registers.ensures;
  tasks = subst (All (λ (t : Descriptor). OfRegisters (has t.create))) c.deref-2.ensures.value c.all_create_registers.ensures;
  names = subst (All (λ (t : Descriptor). is_name t.name ≡ true)) c.deref-3.ensures.value c.all_have_names.ensures;
}
