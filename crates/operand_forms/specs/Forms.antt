-- Which tokens follow one another in the operands of a statement (read from left to right, so
-- that the first token can be named that does not fit).
use Rattle.std.specs.Prelude.{ℕ, ◌+◌, List, [], ◌∷◌, Bool, true, false, drop, nat_lt, codes, Option, Some, None, if◌then◌else◌}
use Rattle.std.specs.Str.{bytes_eq}
use Rattle.program_tokens.specs.declared.token.Token.{Token}
use Rattle.program_tokens.specs.declared.token.Token.TheVariants as token
use Rattle.mips_instructions.specs.declared.instruction.Form.{Form}
use Rattle.mips_instructions.specs.declared.instruction.Form.TheVariants as form
use Rattle.operand_forms.specs.declared.shape.OperandShape.{OperandShape}
use Rattle.operand_forms.specs.declared.shape.OperandShape.TheVariants as shape
use Rattle.operand_forms.specs.declared.form.OperandPart.{OperandPart}
use Rattle.operand_forms.specs.declared.form.OperandPart.TheVariants.{Register, Number, Place, Label, Comma, Open, Close, Equals, Create, Targets, Numbers, RegisterList, RegisterSet, Places}
use Rattle.operand_forms.specs.declared.form.Inside.{Inside}
use Rattle.operand_forms.specs.declared.form.Inside.TheVariants.{Before, Member, AfterComma}

-- the operands of each form of an instruction, part by part
abbrev pub instruction_form : Form → List OperandPart
instruction_form form.Three = Register ∷ Comma ∷ Register ∷ Comma ∷ Register ∷ []
instruction_form form.ShiftBy = Register ∷ Comma ∷ Register ∷ Comma ∷ Number ∷ []
instruction_form form.ShiftVar = Register ∷ Comma ∷ Register ∷ Comma ∷ Register ∷ []
instruction_form form.Signed = Register ∷ Comma ∷ Register ∷ Comma ∷ Number ∷ []
instruction_form form.Unsigned = Register ∷ Comma ∷ Register ∷ Comma ∷ Number ∷ []
instruction_form form.Upper = Register ∷ Comma ∷ Number ∷ []
instruction_form form.Sources = Register ∷ Comma ∷ Register ∷ []
instruction_form form.Dest = Register ∷ []
instruction_form form.Source = Register ∷ []
instruction_form form.Memory = Register ∷ Comma ∷ Number ∷ Open ∷ Register ∷ Close ∷ []
instruction_form form.BranchTwo = Register ∷ Comma ∷ Register ∷ Comma ∷ Place ∷ []
instruction_form form.BranchOne = Register ∷ Comma ∷ Place ∷ []
instruction_form form.Jump = Place ∷ []
instruction_form form.DestSource = Register ∷ Comma ∷ Register ∷ []
instruction_form form.Registers = RegisterList ∷ []
instruction_form form.Nothing = []
instruction_form form.LoadImmediate = Register ∷ Comma ∷ Number ∷ []
instruction_form form.LoadAddress = Register ∷ Comma ∷ Label ∷ []

-- the operands of each shape, part by part
abbrev pub form_of : OperandShape → List OperandPart
form_of (shape.Instruction f) = instruction_form f
form_of shape.Nothing = []
form_of shape.Start = Label ∷ []
form_of shape.Task = Label ∷ Create ∷ Equals ∷ RegisterSet ∷ Targets ∷ Equals ∷ Places ∷ []
form_of shape.Words = Numbers ∷ []
form_of shape.Bytes = Numbers ∷ []
form_of shape.Space = Number ∷ []

-- Tokens.

-- HI and LO are no general registers
abbrev pub is_general : Token → Bool
is_general (token.Register r) = nat_lt r 32
is_general _ = false

abbrev pub is_register : Token → Bool
is_register (token.Register r) = true
is_register _ = false

abbrev pub is_number : Token → Bool
is_number (token.Number n) = true
is_number _ = false

abbrev pub is_name : Token → Bool
is_name (token.Name name) = true
is_name _ = false

abbrev pub is_place : Token → Bool
is_place (token.Name name) = true
is_place (token.Index n) = true
is_place _ = false

abbrev pub is_word : (word : List ℕ) → Token → Bool
is_word word (token.Name name) = bytes_eq name word
is_word word _ = false

abbrev pub is_comma : Token → Bool
is_comma token.Comma = true
is_comma _ = false

abbrev pub is_equals : Token → Bool
is_equals token.Equals = true
is_equals _ = false

abbrev pub is_open : Token → Bool
is_open token.Open = true
is_open _ = false

abbrev pub is_close : Token → Bool
is_close token.Close = true
is_close _ = false

abbrev pub is_minus : Token → Bool
is_minus token.Minus = true
is_minus _ = false

-- a token is a part, or a member of it
abbrev pub is_part : OperandPart → Token → Bool
is_part Register t = is_general t
is_part Number t = is_number t
is_part Place t = is_place t
is_part Label t = is_name t
is_part Comma t = is_comma t
is_part Open t = is_open t
is_part Close t = is_close t
is_part Equals t = is_equals t
is_part Create t = is_word (codes "create") t
is_part Targets t = is_word (codes "targets") t
is_part Numbers t = is_number t
is_part RegisterList t = is_register t
is_part RegisterSet t = is_register t
is_part Places t = is_place t

abbrev pub is_list : OperandPart → Bool
is_list Numbers = true
is_list RegisterList = true
is_list RegisterSet = true
is_list Places = true
is_list _ = false

abbrev pub may_be_none : OperandPart → Token → Bool
may_be_none RegisterSet t = is_minus t
may_be_none Places t = is_minus t
may_be_none _ t = false

-- Where a token leads, if it fits: how far the first part has come, and the parts.

abbrev pub leads : Bool → Inside → List OperandPart → Option (Inside × List OperandPart)
leads fits inside parts = if fits then Some (inside, parts) else None

-- at the beginning of a part
abbrev pub at_part : List OperandPart → Token → Option (Inside × List OperandPart)
at_part [] t = None
at_part (part ∷ parts) t =
    if may_be_none part t then Some (Before, parts)
    else if is_list part then leads (is_part part t) Member (part ∷ parts)
    else leads (is_part part t) Before parts

-- after a comma of a list
abbrev pub at_member : List OperandPart → Token → Option (Inside × List OperandPart)
at_member [] t = None
at_member (part ∷ parts) t = leads (is_part part t) Member (part ∷ parts)

abbrev pub next_part : Inside → List OperandPart → Token → Option (Inside × List OperandPart)
next_part Before parts t = at_part parts t
next_part Member parts t = if is_comma t then Some (AfterComma, parts) else at_part (drop 1 parts) t
next_part AfterComma parts t = at_member parts t

-- how many of these tokens fit, from the first on
abbrev pub fitting : Inside → List OperandPart → List Token → ℕ
fitting inside parts [] = 0
fitting inside parts (t ∷ ts) = elim (next_part inside parts t) [ None ↦ 0 | Some next ↦ 1 + fitting next.0 next.1 ts ]
