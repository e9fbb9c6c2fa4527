-- The operands of a form, as kinds; one operand is read as the form's walk goes over its tokens.
use Rattle.std.proofs.Common.{◌≡◌, ℕ, List, [], ◌∷◌, Bool, true, false, Option, Some, None, Result, Ok, Err, refl}
use Rattle.std.specs.Prelude.{◌&&◌, ◌||◌, nat_lt, if◌then◌else◌}
use Rattle.std.specs.List.{list_any}
use Rattle.program_tokens.specs.declared.token.Number.{Number}
use Rattle.program_tokens.specs.declared.token.Token.{Token}
use Rattle.program_tokens.specs.declared.token.Token.TheVariants as token
use Rattle.program_statements.specs.Steps.{◌>>=◌}
use Rattle.program_statements.specs.Operands.{base_at, number_or_offset, operand_at}
use Rattle.program_statements.specs.declared.fault.StatementFault.{StatementFault}
use Rattle.program_statements.specs.declared.fault.StatementFault.TheVariants as fault
use Rattle.program_statements.specs.declared.operand.Operand.{Operand}
use Rattle.program_statements.specs.declared.operand.Operand.TheVariants as operand
use Rattle.operand_forms.specs.declared.form.OperandPart.{OperandPart}
use Rattle.operand_forms.specs.declared.form.OperandPart.TheVariants.{Register, Number as NumberPart, Place, Label, Comma, Open, Close}
use Rattle.operand_forms.specs.declared.form.Inside.{Inside}
use Rattle.operand_forms.specs.declared.form.Inside.TheVariants.{Before}
use Rattle.operand_forms.specs.Forms.{leads}
use Rattle.operand_forms.specs.declared.shape.Range.{Range}
use Rattle.operand_forms.specs.Meant.{is_beyond}
use Rattle.operand_forms.specs.OperandForms.{is_whole}

pub data Kind : Type 0 where
  General : Kind
  Numeral : Kind
  Offset : Kind
  Destination : Kind
  Name : Kind

-- the parts of an operand, before those of the others
abbrev pub before : Kind → List OperandPart → List OperandPart
before General rest = Register ∷ rest
before Numeral rest = NumberPart ∷ rest
before Offset rest = NumberPart ∷ Open ∷ Register ∷ Close ∷ rest
before Destination rest = Place ∷ rest
before Name rest = Label ∷ rest

abbrev pub later_parts : List Kind → List OperandPart
later_parts [] = []
later_parts (k ∷ ks) = Comma ∷ before k (later_parts ks)

abbrev pub all_parts : List Kind → List OperandPart
all_parts [] = []
all_parts (k ∷ ks) = before k (later_parts ks)

abbrev pub is_kind : Kind → Operand → Bool
is_kind General (operand.Register r) = true
is_kind Numeral (operand.Number n) = true
is_kind Offset (operand.Offset n base) = true
is_kind Destination (operand.Label name) = true
is_kind Destination (operand.Index n) = true
is_kind Name (operand.Label name) = true
is_kind _ _ = false

abbrev pub beyond_operand : Range → Operand → Bool
beyond_operand numbers (operand.Number n) = is_beyond numbers (token.Number n)
beyond_operand numbers (operand.Offset n base) = is_beyond numbers (token.Number n)
beyond_operand numbers (operand.Index n) = is_beyond numbers (token.Index n)
beyond_operand numbers _ = false

abbrev pub whole_later : List Kind → List Token → Bool
whole_later ks ts = is_whole Before (later_parts ks) ts

abbrev pub beyond_tokens : Range → List Token → Bool
beyond_tokens numbers ts = list_any (is_beyond numbers) ts

-- the walk after one token
abbrev pub walked : Option (Inside × List OperandPart) → List Token → Bool
walked next ts = elim next [ None ↦ false | Some next ↦ is_whole next.0 next.1 ts ]

-- what an operand that was read says of its tokens, which fit the parts or do not
abbrev pub Agrees : Range → Kind → List Kind → (whole : Bool) → List Token → Result (Operand × List Token) StatementFault → Type 0
Agrees numbers k ks whole ts (Ok x) =
    (whole ≡ (is_kind k x.0 && whole_later ks x.1)) × (beyond_tokens numbers ts ≡ (beyond_operand numbers x.0 || beyond_tokens numbers x.1))
Agrees numbers k ks whole ts (Err f) = (whole ≡ false) × (f ≡ fault.Operand)

abbrev register_read : (passes : Bool) (r : ℕ) → List Token → Result (Operand × List Token) StatementFault
register_read passes r ts = (if passes then Ok r else Err fault.Operand) >>= λ r. Ok (operand.Register r, ts)

register_agrees : (numbers : Range) (k : Kind) (ks : List Kind) (r : ℕ) (ts : List Token)
    → Agrees numbers k ks (is_whole Before (before k (later_parts ks)) (token.Register r ∷ ts)) (token.Register r ∷ ts) (register_read (nat_lt r 32) r ts)
register_agrees numbers General ks r ts =
    elim (nat_lt r 32) as (λ b. Agrees numbers General ks (walked (leads b Before (later_parts ks)) ts) (token.Register r ∷ ts) (register_read b r ts))
    [ true ↦ (refl, refl) | false ↦ (refl, refl) ]
register_agrees numbers k ks r ts =
    elim (nat_lt r 32) as (λ b. Agrees numbers k ks false (token.Register r ∷ ts) (register_read b r ts))
    [ true ↦ (refl, refl) | false ↦ (refl, refl) ]

-- no form goes on with `(` but after a number
no_open : (ks : List Kind) (ts : List Token) → whole_later ks (token.Open ∷ ts) ≡ false
no_open [] ts = refl
no_open (k ∷ ks) ts = refl

abbrev number_read : Number → List Token → Option (ℕ × List Token) → Result (Operand × List Token) StatementFault
number_read n ts base = Ok (number_or_offset n ts base)

abbrev based : ℕ → List Token → List Token
based r rest = token.Open ∷ token.Register r ∷ token.Close ∷ rest

number_agrees : (numbers : Range) (k : Kind) (ks : List Kind) (n : Number) (ts : List Token)
    → Agrees numbers k ks (is_whole Before (before k (later_parts ks)) (token.Number n ∷ ts)) (token.Number n ∷ ts) (number_read n ts (base_at ts))
unfolding base_at
number_agrees numbers Numeral ks n (token.Open ∷ token.Register r ∷ token.Close ∷ rest) =
    elim (nat_lt r 32) as (λ b. Agrees numbers Numeral ks (whole_later ks (based r rest)) (token.Number n ∷ based r rest) (number_read n (based r rest) (if b then Some (r, rest) else None)))
    [ true ↦ (no_open ks (token.Register r ∷ token.Close ∷ rest), refl) | false ↦ (refl, refl) ]
number_agrees numbers Offset ks n (token.Open ∷ token.Register r ∷ token.Close ∷ rest) =
    elim (nat_lt r 32) as (λ b. Agrees numbers Offset ks (walked (leads b Before (Close ∷ later_parts ks)) (token.Close ∷ rest)) (token.Number n ∷ based r rest) (number_read n (based r rest) (if b then Some (r, rest) else None)))
    [ true ↦ (refl, refl) | false ↦ (refl, refl) ]
number_agrees numbers k ks n (token.Open ∷ token.Register r ∷ token.Close ∷ rest) =
    elim (nat_lt r 32) as (λ b. Agrees numbers k ks false (token.Number n ∷ based r rest) (number_read n (based r rest) (if b then Some (r, rest) else None)))
    [ true ↦ (refl, refl) | false ↦ (refl, refl) ]
number_agrees numbers Offset ks n (token.Open ∷ token.Register r ∷ rest) =
    elim (nat_lt r 32) as (λ b. Agrees numbers Offset ks (walked (leads b Before (Close ∷ later_parts ks)) rest) (token.Number n ∷ token.Open ∷ token.Register r ∷ rest) (number_read n (token.Open ∷ token.Register r ∷ rest) None))
    [ true ↦ (refl, refl) | false ↦ (refl, refl) ]
number_agrees numbers k ks n ts = (refl, refl)

-- an operand is read as the walk goes over it
pub operand_agrees : (numbers : Range) (k : Kind) (ks : List Kind) (ts : List Token)
    → Agrees numbers k ks (is_whole Before (before k (later_parts ks)) ts) ts (operand_at ts)
unfolding operand_at
operand_agrees numbers k ks (token.Register r ∷ ts) = register_agrees numbers k ks r ts
operand_agrees numbers k ks (token.Number n ∷ ts) = number_agrees numbers k ks n ts
operand_agrees numbers General ks ts = (refl, refl)
operand_agrees numbers Destination ks ts = (refl, refl)
operand_agrees numbers k ks ts = (refl, refl)
