-- An instruction's text is read back as the tokens of its name and operands.
use Rattle.canonical_text.proofs.Imports.{◌≡◌, ℕ, ◌<◌, ◌≤◌, List, [], ◌∷◌, ◌++◌, Bool, true, false, Option, Some, None, map, arith, refl, sym, ◌==◌, ℤ, pos, find, filter, IfSome, codes, nat_lt, cond_both, ltb-true, AllPass-from_list_all, recursion_from_All, has, name_of, operands, InstructionOperand, Register, Amount, Signed, Unsigned, Offset, Place, Registers, Op, is_name, registers, Descriptor, Stop, kind_of, token_of, Token, Small, commas, spelled, based, register_text, members, place_named, place_text, operand_text, op_text, forward_text, stop_text, IsHalf, IsOperandInRange, IsInRange, append-nil, subst}
use Rattle.std.specs.List.{AllByRecursion as All}
use Rattle.task_descriptor.specs.declared.descriptor.Stop.TheVariants as stop
use Rattle.program_tokens.specs.declared.token.Token.TheVariants as token
use Rattle.program_tokens.specs.declared.token.Mark.TheVariants as mark
use Rattle.canonical_text.proofs.Spelling.{Reads, nothing, blank, joined, mark_stops, token as one_token}
use Rattle.canonical_text.proofs.PiecesReadBack.{name_reads, register_reads, decimal_reads, signed_reads, index_reads, comma, opened, closed}

-- Pieces with commas between them.

pub data ReadEach : List (List ℕ) → List (List Token) → Type 0 where
  done : ReadEach [] []
  more : {text : List ℕ} {texts : List (List ℕ)} {tokens : List Token} {others : List (List Token)} → Reads text tokens → ReadEach texts others → ReadEach (text ∷ texts) (tokens ∷ others)

abbrev pub comma_tokens : List (List Token) → List Token
comma_tokens [] = []
comma_tokens (first ∷ []) = first
comma_tokens (first ∷ second ∷ others) = first ++ (token.Comma ∷ comma_tokens (second ∷ others))

pub commas_read : {texts : List (List ℕ)} {tokens : List (List Token)} → ReadEach texts tokens → Reads (commas texts) (comma_tokens tokens)
commas_read done = nothing
commas_read (more r done) = r
commas_read (more r (more q others)) = joined 44 refl r (comma (commas_read (more q others)))

spelled_reads : (name : List ℕ) {texts : List (List ℕ)} {tokens : List (List Token)} → is_name name ≡ true → ReadEach texts tokens
    → Reads (spelled name texts) (token.Name name ∷ comma_tokens tokens)
spelled_reads name named done = name_reads name named
spelled_reads name named (more r others) = joined 32 refl (name_reads name named) (blank (commas_read (more r others)))

-- Places.

abbrev pub place_token_named : Option Descriptor → ℕ → Token
place_token_named (Some task) place = token.Name task.name
place_token_named None place = token.Index (Small (pos place))

abbrev pub place_token : List Descriptor → ℕ → Token
place_token tasks place = place_token_named (find (λ t. t.entry == place) tasks) place

pub found_passes : {X : Type 0} (P : X → Type 0) (test : X → Bool) (xs : List X) → All P xs → IfSome (find test xs) P
found_passes P test [] h = tt
found_passes P test (x ∷ xs) h =
    cond_both (test x) (Some x) (find test xs) (λ found. IfSome found P) (λ _. h.0) (λ _. found_passes P test xs h.1)

place_named_reads : (found : Option Descriptor) (place : ℕ) → IfSome found (λ t. is_name t.name ≡ true) → place ≤ 4096
    → Reads (place_named found place) (place_token_named found place ∷ [])
place_named_reads (Some task) place named within = name_reads task.name named
place_named_reads None place named within = index_reads place (omega arith)

pub place_reads : (tasks : List Descriptor) (place : ℕ) → All (λ t. is_name t.name ≡ true) tasks → place ≤ 4096
    → Reads (place_text tasks place) (place_token tasks place ∷ [])
place_reads tasks place named within =
    place_named_reads (find (λ t. t.entry == place) tasks) place (found_passes (λ t. is_name t.name ≡ true) (λ t. t.entry == place) tasks named) within

-- Registers and offsets.

general_reads : (r : ℕ) → r < 32 → Reads (register_text r) (token.Register r ∷ [])
general_reads r below = register_reads r (omega arith)

based_reads : (n : ℤ) (base : ℕ) → IsHalf n → base < 32
    → Reads (based n base) (token.Number (Small n) ∷ token.Open ∷ token.Register base ∷ token.Close ∷ [])
based_reads n base half below = joined 40 refl (signed_reads n half) (opened (joined 41 refl (general_reads base below) (closed nothing)))

abbrev pub register_tokens : List ℕ → List (List Token)
register_tokens rs = map (λ r. token.Register r ∷ []) rs

pub registers_read : (rs : List ℕ) → All (λ r. r < 34) rs → ReadEach (map register_text rs) (register_tokens rs)
registers_read [] h = done
registers_read (r ∷ rs) h = more (register_reads r h.0) (registers_read rs h.1)

-- The registers of a set are registers.

filter_keeps : {X : Type 0} (P : X → Type 0) (test : X → Bool) (xs : List X) → All P xs → All P (filter test xs)
filter_keeps P test [] h = tt
filter_keeps P test (x ∷ xs) h =
    cond_both (test x) (x ∷ filter test xs) (filter test xs) (λ (kept : List _). All P kept) (λ _. (h.0, filter_keeps P test xs h.1)) (λ _. filter_keeps P test xs h.1)

pub members_below : (set : ℕ) → All (λ r. r < 34) (members set)
unfolding members
members_below set = filter_keeps (λ r. r < 34) (has set) registers (recursion_from_All (λ r. r < 34) registers (λ k d below. ltb-true _ 34 (AllPass-from_list_all (λ r. nat_lt r 34) registers refl k d below)))

-- Instructions.

abbrev pub reg : ℕ → List Token
reg r = token.Register r ∷ []

abbrev pub num : ℤ → List Token
num n = token.Number (Small n) ∷ []

abbrev pub base_tokens : ℤ → ℕ → List Token
base_tokens n base = token.Number (Small n) ∷ token.Open ∷ token.Register base ∷ token.Close ∷ []

abbrev pub operand_tokens : List Descriptor → InstructionOperand → List Token
operand_tokens tasks (Register r) = reg r
operand_tokens tasks (Amount n) = num (pos n)
operand_tokens tasks (Signed n) = num n
operand_tokens tasks (Unsigned n) = num (pos n)
operand_tokens tasks (Offset n base) = base_tokens n base
operand_tokens tasks (Place place) = place_token tasks place ∷ []
operand_tokens tasks (Registers set) = comma_tokens (register_tokens (members set))

operand_reads : (tasks : List Descriptor) (operand : InstructionOperand) → All (λ t. is_name t.name ≡ true) tasks → IsOperandInRange operand
    → Reads (operand_text tasks operand) (operand_tokens tasks operand)
operand_reads tasks (Register r) t h = general_reads r h
operand_reads tasks (Amount n) t h = decimal_reads n (omega arith)
operand_reads tasks (Signed n) t h = signed_reads n h
operand_reads tasks (Unsigned n) t h = decimal_reads n (omega arith)
operand_reads tasks (Offset n base) t h = based_reads n base h.0 h.1
operand_reads tasks (Place place) t h = place_reads tasks place t h
operand_reads tasks (Registers set) t h = commas_read (registers_read (members set) (members_below set))

operands_read : (tasks : List Descriptor) (os : List InstructionOperand) → All (λ t. is_name t.name ≡ true) tasks → All IsOperandInRange os
    → ReadEach (map (operand_text tasks) os) (map (operand_tokens tasks) os)
operands_read tasks [] t h = done
operands_read tasks (o ∷ os) t h = more (operand_reads tasks o t h.0) (operands_read tasks os t h.1)

-- the tokens after the name
abbrev pub behind_name : List Descriptor → Op → List Token
behind_name tasks o = comma_tokens (map (operand_tokens tasks) (operands o))

abbrev pub op_tokens : List Descriptor → Op → List Token
op_tokens tasks o = token.Name (name_of o) ∷ behind_name tasks o

pub op_reads : (tasks : List Descriptor) (o : Op) → All (λ t. is_name t.name ≡ true) tasks → is_name (name_of o) ≡ true → IsInRange o
    → Reads (op_text tasks o) (op_tokens tasks o)
op_reads tasks o t named h =
    spelled_reads (name_of o) named (operands_read tasks (operands o) t (recursion_from_All IsOperandInRange (operands o) h))

-- Marks.

forward_mark : Reads (codes "!f") (token.Mark mark.Forward ∷ [])
unfolding kind_of token_of
forward_mark = one_token 33 33 (codes "f") (token.Mark mark.Forward) mark_stops (λ rest _. refl) refl refl refl refl refl refl

always_mark : Reads (codes "!s") (token.Mark mark.Always ∷ [])
unfolding kind_of token_of
always_mark = one_token 33 33 (codes "s") (token.Mark mark.Always) mark_stops (λ rest _. refl) refl refl refl refl refl refl

taken_mark : Reads (codes "!st") (token.Mark mark.Taken ∷ [])
unfolding kind_of token_of
taken_mark = one_token 33 33 (codes "st") (token.Mark mark.Taken) mark_stops (λ rest _. refl) refl refl refl refl refl refl

not_taken_mark : Reads (codes "!sn") (token.Mark mark.NotTaken ∷ [])
unfolding kind_of token_of
not_taken_mark = one_token 33 33 (codes "sn") (token.Mark mark.NotTaken) mark_stops (λ rest _. refl) refl refl refl refl refl refl

abbrev pub mark_tokens : Bool → Stop → List Token
mark_tokens false stop.None = []
mark_tokens false stop.Always = token.Mark mark.Always ∷ []
mark_tokens false stop.Taken = token.Mark mark.Taken ∷ []
mark_tokens false stop.NotTaken = token.Mark mark.NotTaken ∷ []
mark_tokens true stop.None = token.Mark mark.Forward ∷ []
mark_tokens true stop.Always = token.Mark mark.Forward ∷ token.Mark mark.Always ∷ []
mark_tokens true stop.Taken = token.Mark mark.Forward ∷ token.Mark mark.Taken ∷ []
mark_tokens true stop.NotTaken = token.Mark mark.Forward ∷ token.Mark mark.NotTaken ∷ []

pub marks_read : {text : List ℕ} {tokens : List Token} (forward : Bool) (s : Stop) → Reads text tokens
    → Reads (text ++ (forward_text forward ++ stop_text s)) (tokens ++ mark_tokens forward s)
marks_read {text} {tokens} false stop.None r =
    subst (λ (ts : List Token). Reads (text ++ []) ts) (sym (append-nil tokens)) (subst (λ (t : List ℕ). Reads t tokens) (sym (append-nil text)) r)
marks_read false stop.Always r = joined 32 refl r (blank always_mark)
marks_read false stop.Taken r = joined 32 refl r (blank taken_mark)
marks_read false stop.NotTaken r = joined 32 refl r (blank not_taken_mark)
marks_read true stop.None r = joined 32 refl r (blank forward_mark)
marks_read true stop.Always r = joined 32 refl r (blank (joined 32 refl forward_mark (blank always_mark)))
marks_read true stop.Taken r = joined 32 refl r (blank (joined 32 refl forward_mark (blank taken_mark)))
marks_read true stop.NotTaken r = joined 32 refl r (blank (joined 32 refl forward_mark (blank not_taken_mark)))
