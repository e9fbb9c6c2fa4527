-- What fits so far can be gone on with to the end.
use Rattle.std.proofs.Common.{◌≡◌, ℕ, ◌+◌, List, [], ◌∷◌, ◌++◌, take, Bool, true, false, cond, codes, Option, Some, None, refl, sym, ap, ◌∙◌, subst, one-add}
use Rattle.std.specs.Prelude.{pos, ◌&&◌}
use Rattle.std.proofs.lemmas.Bool.{and_parts, and_from}
use Rattle.program_tokens.specs.declared.token.Number.TheVariants.{Small}
use Rattle.program_tokens.specs.declared.token.Token.{Token}
use Rattle.program_tokens.specs.declared.token.Token.TheVariants as token
use Rattle.mips_instructions.specs.declared.instruction.Form.{Form}
use Rattle.mips_instructions.specs.declared.instruction.Form.TheVariants as form
use Rattle.operand_forms.specs.declared.form.OperandPart.{OperandPart}
use Rattle.operand_forms.specs.declared.form.OperandPart.TheVariants.{Register, Number, Place, Label, Comma, Open, Close, Equals, Create, Targets, Numbers, RegisterList, RegisterSet, Places}
use Rattle.operand_forms.specs.declared.form.Inside.{Inside}
use Rattle.operand_forms.specs.declared.form.Inside.TheVariants.{Before, Member, AfterComma}
use Rattle.operand_forms.specs.declared.shape.OperandShape.{OperandShape}
use Rattle.operand_forms.specs.declared.shape.OperandShape.TheVariants as shape
use Rattle.operand_forms.specs.Forms.{instruction_form, form_of as parts_of, is_part, is_list, is_comma, may_be_none, leads, at_part, next_part, fitting}
use Rattle.operand_forms.specs.OperandForms.{is_whole}
use Rattle.operand_forms.proofs.OperandKinds.{walked}

-- a token that is a part, or a member of it
abbrev one : OperandPart → Token
one Register = token.Register 0
one Number = token.Number (Small (pos 0))
one Place = token.Name (codes "a")
one Label = token.Name (codes "a")
one Comma = token.Comma
one Open = token.Open
one Close = token.Close
one Equals = token.Equals
one Create = token.Name (codes "create")
one Targets = token.Name (codes "targets")
one Numbers = token.Number (Small (pos 0))
one RegisterList = token.Register 0
one RegisterSet = token.Register 0
one Places = token.Name (codes "a")

abbrev all_of : List OperandPart → List Token
all_of [] = []
all_of (p ∷ ps) = one p ∷ all_of ps

abbrev rest_of : Inside → List OperandPart → List Token
rest_of Before parts = all_of parts
rest_of Member [] = []
rest_of Member (p ∷ ps) = all_of ps
rest_of AfterComma parts = all_of parts

-- no list stands before a comma, and a list is where members are
abbrev has_end : List OperandPart → Bool
has_end (Comma ∷ ps) = false
has_end ps = true

abbrev are_clear : List OperandPart → Bool
are_clear [] = true
are_clear (p ∷ ps) = cond (is_list p) (has_end ps) true && are_clear ps

abbrev is_clear : Inside → List OperandPart → Bool
is_clear Before parts = are_clear parts
is_clear Member [] = false
is_clear Member (p ∷ ps) = is_list p && are_clear (p ∷ ps)
is_clear AfterComma [] = false
is_clear AfterComma (p ∷ ps) = is_list p && are_clear (p ∷ ps)

-- after a member
member_whole : (p : OperandPart) (ps : List OperandPart) → has_end ps ≡ true → is_whole Before ps (all_of ps) ≡ true → is_whole Member (p ∷ ps) (all_of ps) ≡ true
member_whole p [] e h = refl
member_whole p (Comma ∷ ps) e h = absurd cc
member_whole p (q ∷ ps) e h = h

list_end : (p : OperandPart) (ps : List OperandPart) → is_list p ≡ true → are_clear (p ∷ ps) ≡ true → has_end ps ≡ true
list_end p ps list clear = sym (ap (λ (b : Bool). cond b (has_end ps) true) list) ∙ (and_parts (cond (is_list p) (has_end ps) true) (are_clear ps) clear).0

later_clear : (p : OperandPart) (ps : List OperandPart) → are_clear (p ∷ ps) ≡ true → are_clear ps ≡ true
later_clear p ps clear = (and_parts (cond (is_list p) (has_end ps) true) (are_clear ps) clear).1

first_whole : (p : OperandPart) (ps : List OperandPart) → are_clear (p ∷ ps) ≡ true → is_whole Before ps (all_of ps) ≡ true → is_whole Before (p ∷ ps) (one p ∷ all_of ps) ≡ true
first_whole Numbers ps clear h = member_whole Numbers ps (list_end Numbers ps refl clear) h
first_whole RegisterList ps clear h = member_whole RegisterList ps (list_end RegisterList ps refl clear) h
first_whole RegisterSet ps clear h = member_whole RegisterSet ps (list_end RegisterSet ps refl clear) h
first_whole Places ps clear h = member_whole Places ps (list_end Places ps refl clear) h
first_whole p ps clear h = h

parts_whole : (ps : List OperandPart) → are_clear ps ≡ true → is_whole Before ps (all_of ps) ≡ true
parts_whole [] clear = refl
parts_whole (p ∷ ps) clear = first_whole p ps clear (parts_whole ps (later_clear p ps clear))

is_one : (p : OperandPart) → is_part p (one p) ≡ true
is_one Register = refl
is_one _ = refl

rest_whole : (inside : Inside) (ps : List OperandPart) → is_clear inside ps ≡ true → is_whole inside ps (rest_of inside ps) ≡ true
rest_whole Before ps clear = parts_whole ps clear
rest_whole Member [] clear = absurd cc
rest_whole Member (p ∷ ps) clear =
    let both = and_parts (is_list p) (are_clear (p ∷ ps)) clear in
    member_whole p ps (list_end p ps both.0 both.1) (parts_whole ps (later_clear p ps both.1))
rest_whole AfterComma [] clear = absurd cc
rest_whole AfterComma (p ∷ ps) clear =
    let both = and_parts (is_list p) (are_clear (p ∷ ps)) clear in
    ap (λ (b : Bool). walked (leads b Member (p ∷ ps)) (all_of ps)) (is_one p) ∙ member_whole p ps (list_end p ps both.0 both.1) (parts_whole ps (later_clear p ps both.1))

-- So it stays after each token that fits.

abbrev StaysClear : Option (Inside × List OperandPart) → Type 0
StaysClear None = Unit {0}
StaysClear (Some next) = is_clear next.0 next.1 ≡ true

leads_clear : (fits : Bool) (inside : Inside) (ps : List OperandPart) → is_clear inside ps ≡ true → StaysClear (leads fits inside ps)
leads_clear true inside ps clear = clear
leads_clear false inside ps clear = tt

listed_clear : (list fits : Bool) (p : OperandPart) (ps : List OperandPart) → is_list p ≡ list → are_clear (p ∷ ps) ≡ true
    → StaysClear (cond list (leads fits Member (p ∷ ps)) (leads fits Before ps))
listed_clear true fits p ps e clear = leads_clear fits Member (p ∷ ps) (and_from (is_list p) (are_clear (p ∷ ps)) e clear)
listed_clear false fits p ps e clear = leads_clear fits Before ps (later_clear p ps clear)

part_clear : (ps : List OperandPart) (t : Token) → are_clear ps ≡ true → StaysClear (at_part ps t)
part_clear [] t clear = tt
part_clear (p ∷ ps) t clear =
    elim (may_be_none p t) as (λ b. StaysClear (cond b (Some (Before, ps)) (cond (is_list p) (leads (is_part p t) Member (p ∷ ps)) (leads (is_part p t) Before ps))))
    [ true ↦ later_clear p ps clear | false ↦ listed_clear (is_list p) (is_part p t) p ps refl clear ]

next_clear : (inside : Inside) (ps : List OperandPart) (t : Token) → is_clear inside ps ≡ true → StaysClear (next_part inside ps t)
next_clear Before ps t clear = part_clear ps t clear
next_clear Member [] t clear = absurd cc
next_clear Member (p ∷ ps) t clear =
    elim (is_comma t) as (λ b. StaysClear (cond b (Some (AfterComma, p ∷ ps)) (at_part ps t)))
    [ true ↦ clear | false ↦ part_clear ps t (later_clear p ps (and_parts (is_list p) (are_clear (p ∷ ps)) clear).1) ]
next_clear AfterComma [] t clear = absurd cc
next_clear AfterComma (p ∷ ps) t clear = leads_clear (is_part p t) Member (p ∷ ps) clear

abbrev pub counted : Option (Inside × List OperandPart) → List Token → ℕ
counted next ts = elim next [ None ↦ 0 | Some next ↦ 1 + fitting next.0 next.1 ts ]

pub mended : (inside : Inside) (ps : List OperandPart) (ts : List Token) → is_clear inside ps ≡ true
    → (more : List Token) × (is_whole inside ps (take (fitting inside ps ts) ts ++ more) ≡ true)
mended inside ps [] clear = (rest_of inside ps, rest_whole inside ps clear)
mended inside ps (t ∷ ts) clear =
    (elim (next_part inside ps t) as (λ o. next_part inside ps t ≡ o → StaysClear o → (more : List Token) × (is_whole inside ps (take (counted o ts) (t ∷ ts) ++ more) ≡ true)) [
      | None ↦ λ e stays. (rest_of inside ps, rest_whole inside ps clear)
      | Some next ↦ λ e stays.
          let later = mended next.0 next.1 ts stays in (
            later.0,
            subst (λ k. is_whole inside ps (take k (t ∷ ts) ++ later.0) ≡ true) (sym (one-add (fitting next.0 next.1 ts)))
                (ap (λ o. walked o (take (fitting next.0 next.1 ts) ts ++ later.0)) e ∙ later.1),
          )
    ]) refl (next_clear inside ps t clear)

form_clear : (f : Form) → are_clear (instruction_form f) ≡ true
form_clear form.Three = refl
form_clear _ = refl

pub shape_clear : (s : OperandShape) → are_clear (parts_of s) ≡ true
shape_clear (shape.Instruction f) = form_clear f
shape_clear _ = refl
