-- The operands of `.task` are read as the walk goes over them, stage by stage.
use Rattle.std.proofs.Common.{◌≡◌, ℕ, List, [], ◌∷◌, Bool, true, false, not, codes, Some, Result, Ok, Err, refl, sym, ap, ap₂, ◌∙◌}
use Rattle.std.specs.Prelude.{pos, ◌||◌, if◌then◌else◌}
use Rattle.std.specs.Str.{bytes_eq}
use Rattle.program_tokens.specs.declared.token.Number.{Number}
use Rattle.program_tokens.specs.declared.token.Token.{Token}
use Rattle.program_tokens.specs.declared.token.Token.TheVariants as token
use Rattle.program_statements.specs.Steps.{◌>>=◌}
use Rattle.program_statements.specs.Ranges.{natural}
use Rattle.program_statements.specs.Rows.{as_target}
use Rattle.program_statements.specs.Statements.{name_at, after_word, create_at, registers_of, registers_at, targets_at, places_of, targets_of, task_of}
use Rattle.program_statements.specs.declared.fault.StatementFault.{StatementFault}
use Rattle.program_statements.specs.declared.fault.StatementFault.TheVariants as fault
use Rattle.program_statements.specs.declared.operand.Operand.{Operand}
use Rattle.program_statements.specs.declared.operand.Operand.TheVariants as operand
use Rattle.program_statements.specs.declared.statement.Target.{Target}
use Rattle.program_statements.specs.declared.statement.Target.TheVariants as target
use Rattle.program_statements.specs.declared.statement.Statement.{Statement}
use Rattle.program_statements.specs.declared.statement.Statement.TheVariants as statement
use Rattle.operand_forms.specs.declared.form.OperandPart.{OperandPart}
use Rattle.operand_forms.specs.declared.form.OperandPart.TheVariants.{Label, Create, Equals, RegisterSet, Targets, Places}
use Rattle.operand_forms.specs.declared.form.Inside.TheVariants.{Before, AfterComma}
use Rattle.operand_forms.specs.declared.shape.OperandShape.TheVariants as shape
use Rattle.operand_forms.specs.Shapes.{range}
use Rattle.operand_forms.specs.Forms.{leads}
use Rattle.operand_forms.specs.Meant.{is_within}
use Rattle.operand_forms.specs.OperandForms.{is_whole, has_beyond, judged, shape_fault, fault_of}
use Rattle.operand_forms.proofs.OperandKinds.{walked}
use Rattle.operand_forms.proofs.RangeTests.{carried, natural_fault, both_fault}
use Rattle.operand_forms.proofs.ReleaseList.{as_set}

abbrev places : List OperandPart
places = Places ∷ []

abbrev from_targets : List OperandPart
from_targets = Targets ∷ Equals ∷ places

abbrev registers : List OperandPart
registers = RegisterSet ∷ from_targets

abbrev from_create : List OperandPart
from_create = Create ∷ Equals ∷ registers

abbrev beyond : List Token → Bool
beyond ts = has_beyond shape.Task ts

-- what a stage that was read says of its tokens, which fit the parts or do not, and of those after it
abbrev Stage : {X : Type 0} → (X → List Token) → (whole : Bool) → (later : List OperandPart) → List Token → Result X StatementFault → Type 0
Stage after whole later ts (Ok x) = (whole ≡ is_whole Before later (after x)) × (beyond ts ≡ beyond (after x))
Stage after whole later ts (Err f) = (whole ≡ false) × (f ≡ fault.Operand)

then_so : {X : Type 0} (after : X → List Token) (whole : Bool) (later : List OperandPart) (ts : List Token) (read : Result X StatementFault) (next : X → Result Statement StatementFault)
    → Stage after whole later ts read → ((x : X) → fault_of (next x) ≡ judged (is_whole Before later (after x)) (beyond (after x)))
    → fault_of (read >>= next) ≡ judged whole (beyond ts)
then_so after whole later ts (Ok x) next a says = says x ∙ sym (ap₂ judged a.0 a.1)
then_so after whole later ts (Err f) next a says = ap Some a.1 ∙ sym (ap (λ whole. judged whole (beyond ts)) a.0)

name_stage : (ts : List Token) → Stage (λ x. x.1) (is_whole Before (Label ∷ from_create) ts) from_create ts (name_at ts)
name_stage (token.Name name ∷ ts) = (refl, refl)
name_stage ts = (refl, refl)

abbrev if_word : (is_word : Bool) → List Token → Result (List Token) StatementFault
if_word is_word ts = if is_word then Ok ts else Err fault.Operand

create_stage : (ts : List Token) → Stage (λ ts. ts) (is_whole Before from_create ts) registers ts (after_word (codes "create") ts)
create_stage (token.Name name ∷ token.Equals ∷ ts) =
    elim (bytes_eq name (codes "create")) as (λ b. Stage (λ ts. ts) (walked (leads b Before (Equals ∷ registers)) (token.Equals ∷ ts)) registers (token.Name name ∷ token.Equals ∷ ts) (if_word b ts))
    [ true ↦ (refl, refl) | false ↦ (refl, refl) ]
create_stage (token.Name name ∷ ts) =
    elim (bytes_eq name (codes "create")) as (λ b. Stage {X = List Token} (λ ts. ts) (walked (leads b Before (Equals ∷ registers)) ts) registers (token.Name name ∷ ts) (Err fault.Operand))
    [ true ↦ (refl, refl) | false ↦ (refl, refl) ]
create_stage ts = (refl, refl)

targets_stage : (ts : List Token) → Stage (λ ts. ts) (is_whole Before from_targets ts) places ts (after_word (codes "targets") ts)
targets_stage (token.Name name ∷ token.Equals ∷ ts) =
    elim (bytes_eq name (codes "targets")) as (λ b. Stage (λ ts. ts) (walked (leads b Before (Equals ∷ places)) (token.Equals ∷ ts)) places (token.Name name ∷ token.Equals ∷ ts) (if_word b ts))
    [ true ↦ (refl, refl) | false ↦ (refl, refl) ]
targets_stage (token.Name name ∷ ts) =
    elim (bytes_eq name (codes "targets")) as (λ b. Stage {X = List Token} (λ ts. ts) (walked (leads b Before (Equals ∷ places)) ts) places (token.Name name ∷ ts) (Err fault.Operand))
    [ true ↦ (refl, refl) | false ↦ (refl, refl) ]
targets_stage ts = (refl, refl)

-- The registers.

abbrev Listed : Type 0
Listed = List ℕ × List Token

members_agree : (ts : List Token) → Stage {X = Listed} (λ x. x.1) (is_whole AfterComma registers ts) from_targets ts (registers_of ts)
unfolding registers_of
members_agree (token.Register r ∷ token.Comma ∷ ts) =
    (elim (registers_of ts) as (λ read. Stage {X = Listed} (λ x. x.1) (is_whole AfterComma registers ts) from_targets ts read
    → Stage {X = Listed} (λ x. x.1) (is_whole AfterComma registers ts) from_targets (token.Register r ∷ token.Comma ∷ ts) (read >>= λ others. Ok (r ∷ others.0, others.1)))
    [ Ok x ↦ λ a. a | Err f ↦ λ a. a ]) (members_agree ts)
members_agree (token.Register r ∷ ts) = (refl, refl)
members_agree ts = (refl, refl)

set_agrees : (whole : Bool) (ts : List Token) (read : Result Listed StatementFault) → Stage {X = Listed} (λ x. x.1) whole from_targets ts read
    → Stage {X = ℕ × List Token} (λ x. x.1) whole from_targets ts (as_set read)
set_agrees whole ts (Ok x) a = a
set_agrees whole ts (Err f) a = a

registers_stage : (ts : List Token) → Stage {X = ℕ × List Token} (λ x. x.1) (is_whole Before registers ts) from_targets ts (create_at ts)
unfolding registers_at
registers_stage (token.Minus ∷ ts) = (refl, refl)
registers_stage [] = set_agrees false [] (registers_of []) (members_agree [])
registers_stage (t ∷ ts) = set_agrees (is_whole AfterComma registers (t ∷ ts)) (t ∷ ts) (registers_of (t ∷ ts)) (members_agree (t ∷ ts))

-- The targets.

abbrev PlacesAgree : (list beyond : Bool) → Result (List Operand) StatementFault → Type 0
PlacesAgree list beyond (Ok os) = (list ≡ true) × (fault_of (targets_of os) ≡ judged true beyond)
PlacesAgree list beyond (Err f) = (list ≡ false) × (f ≡ fault.Operand)

with_index : (n : Number) (os : List Operand) (beyond : Bool) → fault_of (targets_of os) ≡ judged true beyond
    → fault_of (targets_of (operand.Index n ∷ os)) ≡ judged true (not (is_within (range (pos 0) (pos 4096)) n) || beyond)
unfolding targets_of
with_index n os beyond h =
    both_fault (as_target (operand.Index n)) (targets_of os) (λ first others. first ∷ others) (is_within (range (pos 0) (pos 4096)) n) beyond
    (carried (natural 4096 n) (λ index. target.Index index) ∙ natural_fault 4096 n) h

places_agree : (ts : List Token) → PlacesAgree (is_whole AfterComma places ts) (beyond ts) (places_of ts)
unfolding places_of targets_of
places_agree (token.Name name ∷ []) = (refl, refl)
places_agree (token.Index n ∷ []) = (refl, with_index n [] false refl)
places_agree (token.Name name ∷ token.Comma ∷ ts) =
    (elim (places_of ts) as (λ read. PlacesAgree (is_whole AfterComma places ts) (beyond ts) read
    → PlacesAgree (is_whole AfterComma places ts) (beyond ts) (read >>= λ others. Ok (operand.Label name ∷ others)))
    [ Ok os ↦ λ a. (a.0, carried (targets_of os) (λ others. target.Label name ∷ others) ∙ a.1) | Err f ↦ λ a. a ]) (places_agree ts)
places_agree (token.Index n ∷ token.Comma ∷ ts) =
    (elim (places_of ts) as (λ read. PlacesAgree (is_whole AfterComma places ts) (beyond ts) read
    → PlacesAgree (is_whole AfterComma places ts) (beyond (token.Index n ∷ ts)) (read >>= λ others. Ok (operand.Index n ∷ others)))
    [ Ok os ↦ λ a. (a.0, with_index n os (beyond ts) a.1) | Err f ↦ λ a. a ]) (places_agree ts)
places_agree ts = (refl, refl)

judged_so : (list beyond : Bool) (read : Result (List Operand) StatementFault) (task : List Target → Statement) → PlacesAgree list beyond read
    → fault_of (read >>= λ listed. targets_of listed >>= λ targets. Ok (task targets)) ≡ judged list beyond
judged_so list beyond (Ok os) task a = carried (targets_of os) task ∙ (a.1 ∙ sym (ap (λ list. judged list beyond) a.0))
judged_so list beyond (Err f) task a = ap Some a.1 ∙ sym (ap (λ list. judged list beyond) a.0)

places_end : (task : List Target → Statement) (ts : List Token)
    → fault_of (targets_at ts >>= λ listed. targets_of listed >>= λ targets. Ok (task targets)) ≡ judged (is_whole Before places ts) (beyond ts)
unfolding targets_of
places_end task (token.Minus ∷ []) = refl
places_end task [] = judged_so false false (places_of []) task (places_agree [])
places_end task (t ∷ ts) = judged_so (is_whole AfterComma places (t ∷ ts)) (beyond (t ∷ ts)) (places_of (t ∷ ts)) task (places_agree (t ∷ ts))

-- All stages.

abbrev task_named : List ℕ → ℕ → List Target → Statement
task_named name create targets = statement.Task (record { name = name; create = create; targets = targets })

pub task_agrees : (ts : List Token) → fault_of (task_of ts) ≡ shape_fault (Some shape.Task) ts
unfolding task_of
task_agrees ts =
    then_so {X = List ℕ × List Token} (λ x. x.1) (is_whole Before (Label ∷ from_create) ts) from_create ts (name_at ts) _ (name_stage ts) λ name.
    then_so (λ ts. ts) (is_whole Before from_create name.1) registers name.1 (after_word (codes "create") name.1) _ (create_stage name.1) λ behind.
    then_so {X = ℕ × List Token} (λ x. x.1) (is_whole Before registers behind) from_targets behind (create_at behind) _ (registers_stage behind) λ create.
    then_so (λ ts. ts) (is_whole Before from_targets create.1) places create.1 (after_word (codes "targets") create.1) _ (targets_stage create.1) λ last.
    places_end (task_named name.0 create.0) last
