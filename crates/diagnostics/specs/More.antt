-- How many things are not shown.
use Rattle.std.specs.Prelude.{ℕ, zero, suc, nat_eq, List, [], ◌∷◌, ◌++◌, codes, None, if◌then◌else◌}
use Rattle.std.specs.Fmt.{decimal}
use Rattle.diagnostics.specs.declared.code.Code.TheVariants.{More}
use Rattle.diagnostics.specs.declared.diagnostic.Severity.TheVariants.{Note}
use Rattle.diagnostics.specs.declared.diagnostic.Source.{Source}
use Rattle.diagnostics.specs.declared.diagnostic.Diagnostic.{Diagnostic}

abbrev pub more_message : (more : ℕ) → (one many : List ℕ) → List ℕ
more_message more one many = if nat_eq more 1 then codes "1 more " ++ one else decimal more ++ (codes " more " ++ many)

-- nothing where there are no more
abbrev pub more_note : Source → (more : ℕ) → (one many : List ℕ) → List Diagnostic
more_note source zero one many = []
more_note source (suc n) one many = record {
  severity = Note;
  code = More;
  source = source;
  span = None;
  message = more_message (suc n) one many;
  notes = [];
  help = None;
} ∷ []
