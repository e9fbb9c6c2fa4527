-- By cases on both instructions: their fields are equal, and kinds are equal if their tags are.
use Rattle.std.proofs.Common.{◌≡◌, true, refl, sym, ◌∙◌, subst, rules, arith, eqb-true, int_eq}
use Rattle.std.specs.Prelude.{ℤ}
use Rattle.std.proofs.lemmas.Bool.{and_parts}
use Rattle.std.proofs.lemmas.Bool.Decides.{Decides-int_eq}
use denote.Enum.Bare.{same_true}
use Rattle.mips_instructions.specs.declared.instruction.Op.{Op}
use Rattle.mips_instructions.specs.declared.instruction.Op.TheVariants.{Halt}
use Rattle.mips_instructions.specs.contracts.instruction.OpPartialEq.TheImpl as op
use Rattle.task_descriptor.proofs.same.is_same_op.Goals as goal

same_int : (a b : ℤ) → int_eq a b ≡ true → a ≡ b
same_int a b e = (Decides-int_eq a b).0 e

ruleset fields = (arith, and_parts, same_true, eqb-true, same_int)

same_op : (x y : Op) → op.eq-value.it x y ≡ true → x ≡ y
same_op Halt y e =
    elim y as (λ z. op.eq-value.it Halt z ≡ true → Halt ≡ z) [ Halt ↦ λ h. refl | _ ↦ λ h. grind fields ] e
same_op x y e =
    elim y as (λ z. op.eq-value.it x z ≡ true → x ≡ z) [ Halt ↦ λ h. grind fields | _ ↦ λ h. grind fields ] e

op_itself : (x : Op) → op.eq-value.it x x ≡ true
op_itself Halt = search rules
op_itself _ = search rules

pub returns : goal.returns
returns c = (
  λ yes. same_op c.args.op.now c.args.other.now (sym c.eq.ensures ∙ yes),
  λ same.
      c.eq.ensures
      ∙ subst (λ (z : Op). op.eq-value.it c.args.op.now z ≡ true) same (op_itself c.args.op.now),
)
