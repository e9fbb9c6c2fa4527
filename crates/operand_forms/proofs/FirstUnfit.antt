-- The first token that does not fit is to blame: with it, whatever comes after, no operands are whole.
use Rattle.std.proofs.Common.{◌≡◌, ℕ, suc, ◌+◌, ◌<◌, List, [], ◌∷◌, ◌++◌, length, take, Bool, true, false, Option, Some, None, refl, sym, ap, ap₂, ◌∙◌, subst, one-add, add-one, arith}
use Rattle.std.specs.Prelude.{◌||◌}
use Rattle.std.proofs.lemmas.Bool.{or_right}
use Rattle.program_tokens.specs.Grammar.{directive_of as directive_named}
use Rattle.program_tokens.specs.declared.token.Token.{Token}
use Rattle.mips_instructions.specs.declared.instruction.Mnemonic.{Mnemonic}
use Rattle.mips_instructions.specs.declared.instruction.Mnemonic.TheVariants as mnemonic
use Rattle.program_statements.specs.Statements.{instruction_of, directive_of}
use Rattle.program_statements.specs.declared.fault.StatementFault.{StatementFault}
use Rattle.program_statements.specs.declared.fault.StatementFault.TheVariants as fault
use Rattle.program_statements.specs.declared.statement.Section.TheVariants as section
use Rattle.operand_forms.specs.declared.form.OperandPart.{OperandPart}
use Rattle.operand_forms.specs.declared.form.OperandPart.TheVariants.{Register, Comma}
use Rattle.operand_forms.specs.declared.form.Inside.{Inside}
use Rattle.operand_forms.specs.declared.form.Inside.TheVariants.{Before}
use Rattle.operand_forms.specs.declared.shape.OperandShape.{OperandShape}
use Rattle.operand_forms.specs.Forms.{form_of as parts_of, is_general, leads, next_part, fitting}
use Rattle.operand_forms.specs.OperandForms.{is_whole, fits, fits_shape, has_beyond, judged, instruction_shape, directive_shape, shape_fault, fault_of, so_far, NamesFirst}
use Rattle.operand_forms.proofs.OperandKinds.{walked}
use Rattle.operand_forms.proofs.Mended.{counted, mended, shape_clear}
use Rattle.operand_forms.proofs.AllMnemonics.{agrees}
use Rattle.operand_forms.proofs.Directives.{agrees as directive_agrees}

unfit : (inside : Inside) (ps : List OperandPart) (ts more : List Token) → fitting inside ps ts < length ts
    → is_whole inside ps (take (suc (fitting inside ps ts)) ts ++ more) ≡ false
unfit inside ps [] more few = absurd (omega arith)
unfit inside ps (t ∷ ts) more few =
    (elim (next_part inside ps t) as (λ o. counted o ts < suc (length ts) → walked o (take (counted o ts) ts ++ more) ≡ false) [
      | None ↦ λ few. refl
      | Some next ↦ λ few.
          subst (λ k. is_whole next.0 next.1 (take k ts ++ more) ≡ false) (sym (one-add (fitting next.0 next.1 ts))) (unfit next.0 next.1 ts more (omega arith))
    ]) few

-- nor is it one register alone, where `jalr` has two
abbrev second : List OperandPart
second = Comma ∷ Register ∷ []

unfit_alone : (ts more : List Token) → fitting Before (Register ∷ second) ts < length ts
    → is_whole Before (Register ∷ []) (take (suc (fitting Before (Register ∷ second) ts)) ts ++ more) ≡ false
unfit_alone [] more few = absurd (omega arith)
unfit_alone (t ∷ ts) more few =
    (elim (is_general t) as (λ b. counted (leads b Before second) ts < suc (length ts) → walked (leads b Before []) (take (counted (leads b Before second) ts) ts ++ more) ≡ false)
    [ true ↦ λ few. more_alone ts few | false ↦ λ few. refl ]) few
  where
    more_alone : (ts : List Token) → 1 + fitting Before second ts < suc (length ts) → is_whole Before [] (take (1 + fitting Before second ts) ts ++ more) ≡ false
    more_alone [] few = absurd (omega arith)
    more_alone (u ∷ us) few = subst (λ k. is_whole Before [] (take k (u ∷ us) ++ more) ≡ false) (sym (one-add (fitting Before second (u ∷ us)))) refl

-- By the reader.

never_refused : (beyond : Bool) → ¬ (judged true beyond ≡ Some fault.Operand)
never_refused true e = absurd cc
never_refused false e = absurd cc

by_reading : (reading : List Token → Option StatementFault) (s : OperandShape) (whole : List Token → Bool)
    → ((ts : List Token) → reading ts ≡ judged (whole ts) (has_beyond s ts)) → (ts : List Token)
    → ((more : List Token) × (whole (take (so_far s ts) ts ++ more) ≡ true))
    → (so_far s ts < length ts → (more : List Token) → whole (take (suc (so_far s ts)) ts ++ more) ≡ false)
    → NamesFirst reading s ts
by_reading reading s whole reads ts some none =
    let tokens = take (so_far s ts) ts ++ some.0 in
    record {
      mendable = (some.0, λ e. never_refused (has_beyond s tokens) (sym (reads tokens ∙ ap (λ whole. judged whole (has_beyond s tokens)) some.1) ∙ e));
      refused = λ few more.
          let with_it = take (so_far s ts + 1) ts ++ more in
          reads with_it
          ∙ ap (λ whole. judged whole (has_beyond s with_it)) (subst (λ k. whole (take k ts ++ more) ≡ false) (sym (add-one (so_far s ts))) (none few more));
    }

shape_mended : (s : OperandShape) (ts : List Token) → (more : List Token) × (fits_shape s (take (so_far s ts) ts ++ more) ≡ true)
shape_mended s ts = mended Before (parts_of s) ts (shape_clear s)

fits_mended : (m : Mnemonic) (ts : List Token) → (more : List Token) × (fits m (take (so_far (instruction_shape m) ts) ts ++ more) ≡ true)
fits_mended mnemonic.JumpLinkReg ts =
    let some = shape_mended (instruction_shape mnemonic.JumpLinkReg) ts in
    let tokens = take (so_far (instruction_shape mnemonic.JumpLinkReg) ts) ts ++ some.0 in
    (some.0, or_right (is_whole Before (Register ∷ []) tokens) (fits_shape (instruction_shape mnemonic.JumpLinkReg) tokens) some.1)
fits_mended m ts = shape_mended (instruction_shape m) ts

fits_never : (m : Mnemonic) (ts : List Token) → so_far (instruction_shape m) ts < length ts → (more : List Token)
    → fits m (take (suc (so_far (instruction_shape m) ts)) ts ++ more) ≡ false
fits_never mnemonic.JumpLinkReg ts few more = ap₂ ◌||◌ (unfit_alone ts more few) (unfit Before (Register ∷ second) ts more few)
fits_never m ts few more = unfit Before (parts_of (instruction_shape m)) ts more few

pub instruction_named : (m : Mnemonic) (ts : List Token) → NamesFirst (λ ts. fault_of (instruction_of m ts)) (instruction_shape m) ts
instruction_named m ts = by_reading (λ ts. fault_of (instruction_of m ts)) (instruction_shape m) (fits m) (agrees m) ts (fits_mended m ts) (fits_never m ts)

pub directive_told : (letters : List ℕ) (s : OperandShape) (ts : List Token) → directive_shape letters ≡ Some s
    → NamesFirst (λ ts. fault_of (directive_of section.Data (directive_named letters) ts)) s ts
directive_told letters s ts e =
    by_reading (λ ts. fault_of (directive_of section.Data (directive_named letters) ts)) s (fits_shape s)
    (λ ts. directive_agrees letters ts ∙ ap (λ s. shape_fault s ts) e) ts (shape_mended s ts) (λ few more. unfit Before (parts_of s) ts more few)
