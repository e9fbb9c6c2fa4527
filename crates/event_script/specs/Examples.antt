-- Worked examples, computed by the checker.
use Rattle.std.specs.Prelude.{◌≡◌, ℕ, List, [], ◌∷◌, ◌++◌, Ok, Err, codes}
use Rattle.std.specs.Fmt.{digits}
use Rattle.std.proofs.Common.{refl}
use Rattle.task_descriptor.specs.Listing.{Listing}
use Rattle.task_descriptor.specs.declared.descriptor.Descriptor.{Descriptor}
use Rattle.machine_model.specs.declared.event.Event.TheVariants.{Assign, Exec, Transfer, Drain, Squash, Retire, Fault, Drop}
use Rattle.event_script.specs.declared.fault.ScriptFault.TheVariants.{Line, TaskName}
use Rattle.event_script.specs.EventScript.{script_parse}
use Rattle.event_script.specs.ScriptText.{script_text}

-- the names of the tasks 0 and 1
abbrev two_names : List (List ℕ)
two_names = codes "A" ∷ codes "B" ∷ []

-- a text of one line, which ends with LF
abbrev line : List ℕ → List ℕ
line bytes = bytes ++ 10 ∷ []

pub each_event :
    script_parse (line (codes "assign B") ++ (line (codes "exec 0") ++ (line (codes "transfer 1 $33") ++ (line (codes "drain 12 $8") ++ (line (codes "squash 999")
    ++ (line (codes "retire") ++ (line (codes "fault") ++ codes "drop 3"))))))) two_names
    ≡ Ok (Assign 1 ∷ Exec 0 ∷ Transfer 1 33 ∷ Drain 12 8 ∷ Squash 999 ∷ Retire ∷ Fault ∷ Drop 3 ∷ [])
each_event = refl

pub empty_text : script_parse [] two_names ≡ Ok []
empty_text = refl

pub empty_line : script_parse (line []) two_names ≡ Err (Line 1)
empty_line = refl

pub no_position : script_parse (line (codes "exec")) two_names ≡ Err (Line 1)
no_position = refl

pub largest_position : script_parse (line (codes "exec 999")) two_names ≡ Ok (Exec 999 ∷ [])
largest_position = refl

pub large_position : script_parse (line (codes "exec 1000")) two_names ≡ Err (Line 1)
large_position = refl

pub leading_zero : script_parse (line (codes "exec 01")) two_names ≡ Err (Line 1)
leading_zero = refl

pub no_register : script_parse (line (codes "drain 0 $34")) two_names ≡ Err (Line 1)
no_register = refl

pub register_with_leading_zero : script_parse (line (codes "transfer 1 $08")) two_names ≡ Err (Line 1)
register_with_leading_zero = refl

pub register_by_name : script_parse (line (codes "transfer 1 $t0")) two_names ≡ Err (Line 1)
register_by_name = refl

pub carriage_return : script_parse (line (codes "retire" ++ 13 ∷ [])) two_names ≡ Err (Line 1)
carriage_return = refl

pub no_task : script_parse (line (codes "assign C")) two_names ≡ Err (TaskName 1)
no_task = refl

pub no_name : script_parse (line (codes "assign 1x")) two_names ≡ Err (Line 1)
no_name = refl

pub two_spaces : script_parse (line (codes "exec  0")) two_names ≡ Err (Line 1)
two_spaces = refl

pub space_at_end : script_parse (line (codes "retire ")) two_names ≡ Err (Line 1)
space_at_end = refl

-- an empty line in the middle
pub empty_line_between : script_parse (line (codes "retire") ++ (line [] ++ line (codes "fault"))) two_names ≡ Err (Line 2)
empty_line_between = refl

-- the first line with a fault of either kind
pub first_fault : script_parse (line (codes "retire") ++ (line (codes "assign C") ++ codes "exec")) two_names ≡ Err (TaskName 2)
first_fault = refl

-- ---- writing

abbrev named : List ℕ → Descriptor
named name = record { name = name; entry = 0; create = 0; targets = [] }

-- a program with these tasks
abbrev two_tasks : Listing
two_tasks = record { code = []; bytes = []; fixed = []; tasks = named (codes "A") ∷ named (codes "B") ∷ []; start = 0 }

pub each_written :
    script_text two_tasks (Assign 1 ∷ Exec 0 ∷ Transfer 1 33 ∷ Drain 12 8 ∷ Squash 999 ∷ Retire ∷ Fault ∷ Drop 3 ∷ [])
    ≡ line (codes "assign B") ++ (line (codes "exec 0") ++ (line (codes "transfer 1 $33") ++ (line (codes "drain 12 $8") ++ (line (codes "squash 999")
    ++ (line (codes "retire") ++ (line (codes "fault") ++ line (codes "drop 3")))))))
unfolding digits
each_written = refl
