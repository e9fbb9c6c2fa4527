-- All operands are read as the form's walk goes over their tokens.
use Rattle.std.proofs.Common.{◌≡◌, ℕ, zero, suc, ◌≤◌, length, List, [], ◌∷◌, Bool, true, false, Result, Ok, Err, refl, sym, ap, ◌∙◌, subst, arith}
use Rattle.std.specs.Prelude.{◌&&◌, ◌||◌}
use Rattle.std.specs.List.{list_any}
use Rattle.std.proofs.lemmas.Bool.{and_right}
use Rattle.program_tokens.specs.declared.token.Token.{Token}
use Rattle.program_tokens.specs.declared.token.Token.TheVariants as token
use Rattle.program_statements.specs.Steps.{◌>>=◌}
use Rattle.program_statements.specs.Operands.{operand_at, after_two, after_one, operands_of}
use Rattle.program_statements.specs.declared.fault.StatementFault.{StatementFault}
use Rattle.program_statements.specs.declared.fault.StatementFault.TheVariants as fault
use Rattle.program_statements.specs.declared.operand.Operand.{Operand}
use Rattle.program_statements.specs.declared.operand.Operands.{Operands}
use Rattle.program_statements.specs.declared.operand.Operands.TheVariants as operands
use Rattle.operand_forms.specs.declared.form.Inside.TheVariants.{Before}
use Rattle.operand_forms.specs.declared.shape.Range.{Range}
use Rattle.operand_forms.specs.OperandForms.{is_whole}
use Rattle.operand_forms.proofs.OperandKinds.{Kind, General, later_parts, all_parts, is_kind, beyond_operand, whole_later, beyond_tokens, Agrees, operand_agrees}

-- of one number, and each of its kind
abbrev pub as_many : List Kind → List Operand → Bool
as_many [] [] = true
as_many (k ∷ ks) (o ∷ os) = as_many ks os
as_many _ _ = false

abbrev pub of_kinds : List Kind → List Operand → Bool
of_kinds (k ∷ ks) (o ∷ os) = is_kind k o && of_kinds ks os
of_kinds _ _ = true

abbrev pub are_kinds : List Kind → List Operand → Bool
are_kinds ks os = as_many ks os && of_kinds ks os

one_more : (first many others : Bool) → (first && (many && others)) ≡ (many && (first && others))
one_more true many others = refl
one_more false true others = refl
one_more false false others = refl

abbrev pub beyond_operands : Range → List Operand → Bool
beyond_operands numbers os = list_any (beyond_operand numbers) os

-- what operands that were read say of their tokens, which fit the parts or do not
abbrev pub AllAgree : Range → List Kind → (whole : Bool) → List Token → Result (List Operand) StatementFault → Type 0
AllAgree numbers ks whole ts (Ok os) = (whole ≡ are_kinds ks os) × (beyond_tokens numbers ts ≡ beyond_operands numbers os)
AllAgree numbers ks whole ts (Err f) = (whole ≡ false) × (f ≡ fault.Operand)

-- at most n more operands, after a comma each
abbrev with_others : Operand → Result (List Operand) StatementFault → Result (List Operand) StatementFault
with_others first others = others >>= λ os. Ok (first ∷ os)

abbrev others_of : ℕ → List Token → Result (List Operand) StatementFault
others_of zero [] = Ok []
others_of zero (t ∷ ts) = Err fault.Operand
others_of (suc n) [] = Ok []
others_of (suc n) (token.Comma ∷ ts) = operand_at ts >>= λ x. with_others x.0 (others_of n x.1)
others_of (suc n) (t ∷ ts) = Err fault.Operand

module _ (numbers : Range) where
  -- one operand and others, of which each is known
  more : (k : Kind) (ks : List Kind) (whole : Bool) (ts : List Token) (x : Operand × List Token) (others : Result (List Operand) StatementFault)
      → Agrees numbers k ks whole ts (Ok x) → AllAgree numbers ks (whole_later ks x.1) x.1 others
      → AllAgree numbers (k ∷ ks) whole ts (with_others x.0 others)
  more k ks whole ts x (Ok os) a b = (
    a.0 ∙ (ap (λ later. is_kind k x.0 && later) b.0 ∙ one_more (is_kind k x.0) (as_many ks os) (of_kinds ks os)),
    a.1 ∙ ap (λ later. beyond_operand numbers x.0 || later) b.1,
  )
  more k ks whole ts x (Err f) a b = (a.0 ∙ and_right (is_kind k x.0) (whole_later ks x.1) b.0, b.1)

  -- where no operand is wanted
  unwanted : (ts : List Token) (x : Operand × List Token) (others : Result (List Operand) StatementFault)
      → Agrees numbers General [] (is_whole Before (later_parts (General ∷ [])) (token.Comma ∷ ts)) ts (Ok x) → AllAgree numbers [] (whole_later [] x.1) x.1 others
      → AllAgree numbers [] false ts (with_others x.0 others)
  unwanted ts x (Ok os) a b = (refl, a.1 ∙ ap (λ later. beyond_operand numbers x.0 || later) b.1)
  unwanted ts x (Err f) a b = (refl, b.1)

  others_agree : (n : ℕ) (ks : List Kind) (ts : List Token) → length ks ≤ n → AllAgree numbers ks (whole_later ks ts) ts (others_of n ts)
  others_agree zero [] [] few = (refl, refl)
  others_agree zero [] (t ∷ ts) few = (refl, refl)
  others_agree zero (k ∷ ks) ts few = absurd (omega arith)
  others_agree (suc n) [] [] few = (refl, refl)
  others_agree (suc n) (k ∷ ks) [] few = (refl, refl)
  others_agree (suc n) [] (token.Comma ∷ ts) few =
      (elim (operand_at ts) as (λ r. Agrees numbers General [] (is_whole Before (later_parts (General ∷ [])) (token.Comma ∷ ts)) ts r → AllAgree numbers [] false ts (r >>= λ x. with_others x.0 (others_of n x.1))) [
        | Ok x ↦ λ a. unwanted ts x (others_of n x.1) a (others_agree n [] x.1 (omega arith))
        | Err f ↦ λ a. (refl, a.1)
      ]) (operand_agrees numbers General [] ts)
  others_agree (suc n) (k ∷ ks) (token.Comma ∷ ts) few =
      (elim (operand_at ts) as (λ r. Agrees numbers k ks (whole_later (k ∷ ks) (token.Comma ∷ ts)) ts r → AllAgree numbers (k ∷ ks) (whole_later (k ∷ ks) (token.Comma ∷ ts)) ts (r >>= λ x. with_others x.0 (others_of n x.1))) [
        | Ok x ↦ λ a. more k ks (whole_later (k ∷ ks) (token.Comma ∷ ts)) ts x (others_of n x.1) a (others_agree n ks x.1 (omega arith))
        | Err f ↦ λ a. a
      ]) (operand_agrees numbers k ks ts)
  others_agree (suc n) [] (t ∷ ts) few = (refl, refl)
  others_agree (suc n) (k ∷ ks) (t ∷ ts) few = (refl, refl)

-- The reader's own operands, as a list.

abbrev pub listed : Operands → List Operand
listed operands.Zero = []
listed (operands.One a) = a ∷ []
listed (operands.Two a b) = a ∷ b ∷ []
listed (operands.Three a b c) = a ∷ b ∷ c ∷ []

abbrev pub as_list : Result Operands StatementFault → Result (List Operand) StatementFault
as_list r = r >>= λ o. Ok (listed o)

third_same : (a b : Operand) (x : Operand × List Token) (after : List Token)
    → as_list (elim after [ [] ↦ Ok (operands.Three a b x.0) | t ∷ ts ↦ Err fault.Operand ]) ≡ with_others a (with_others b (with_others x.0 (others_of 0 after)))
third_same a b x [] = refl
third_same a b x (t ∷ ts) = refl

two_same : (a b : Operand) (ts : List Token) → as_list (after_two a b ts) ≡ with_others a (with_others b (others_of 1 ts))
unfolding after_two
two_same a b [] = refl
two_same a b (token.Comma ∷ ts) =
    elim (operand_at ts) as (λ r. as_list (r >>= λ third. elim third.1 [ [] ↦ Ok (operands.Three a b third.0) | t ∷ ts ↦ Err fault.Operand ]) ≡ with_others a (with_others b (r >>= λ x. with_others x.0 (others_of 0 x.1))))
    [ Ok x ↦ third_same a b x x.1 | Err f ↦ refl ]
two_same a b (t ∷ ts) = refl

one_same : (a : Operand) (ts : List Token) → as_list (after_one a ts) ≡ with_others a (others_of 2 ts)
unfolding after_one
one_same a [] = refl
one_same a (token.Comma ∷ ts) =
    elim (operand_at ts) as (λ r. as_list (r >>= λ second. after_two a second.0 second.1) ≡ with_others a (r >>= λ x. with_others x.0 (others_of 1 x.1)))
    [ Ok x ↦ two_same a x.0 x.1 | Err f ↦ refl ]
one_same a (t ∷ ts) = refl

some_same : (t : Token) (ts : List Token) → as_list (operands_of (t ∷ ts)) ≡ others_of 3 (token.Comma ∷ t ∷ ts)
unfolding operands_of
some_same t ts =
    elim (operand_at (t ∷ ts)) as (λ r. as_list (r >>= λ first. after_one first.0 first.1) ≡ (r >>= λ x. with_others x.0 (others_of 2 x.1)))
    [ Ok x ↦ one_same x.0 x.1 | Err f ↦ refl ]

-- at most three operands are read as the walk goes over their tokens
pub operands_agree : (numbers : Range) (ks : List Kind) (ts : List Token) → length ks ≤ 3
    → AllAgree numbers ks (is_whole Before (all_parts ks) ts) ts (as_list (operands_of ts))
unfolding operands_of
operands_agree numbers [] [] few = (refl, refl)
operands_agree numbers (k ∷ ks) [] few = none_yet k
  where
    none_yet : (k : Kind) → AllAgree numbers (k ∷ ks) (is_whole Before (all_parts (k ∷ ks)) []) [] (Ok [])
    none_yet General = (refl, refl)
    none_yet _ = (refl, refl)
operands_agree numbers [] (t ∷ ts) few =
    subst (λ r. AllAgree numbers [] false (t ∷ ts) r) (sym (some_same t ts)) (others_agree numbers 3 [] (token.Comma ∷ t ∷ ts) few)
operands_agree numbers (k ∷ ks) (t ∷ ts) few =
    subst (λ r. AllAgree numbers (k ∷ ks) (is_whole Before (all_parts (k ∷ ks)) (t ∷ ts)) (t ∷ ts) r) (sym (some_same t ts)) (others_agree numbers 3 (k ∷ ks) (token.Comma ∷ t ∷ ts) few)
