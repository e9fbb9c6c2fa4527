-- Nothing is said of a script exactly where it can be read: its first bad line is told of first. What is said of a
-- certificate that was read is said of the one that its text spells.
use Rattle.std.proofs.Common.{◌≡◌, ℕ, List, [], ◌∷◌, take, None, Result, Ok, Err, refl, sym, ◌∙◌, ap, subst, ◌⊎◌, ⊎_elim}
use Rattle.std.specs.Prelude.{IsSomeAnd, slice_get}
use Rattle.std.specs.Result.{result_err}
use Rattle.task_descriptor.specs.Listing.{Listing}
use Rattle.mask_certificate.specs.declared.fault.CertFault.{CertFault}
use Rattle.mask_certificate.specs.declared.fault.CertFault.TheVariants.{OutOfMemory}
use Rattle.mask_certificate.specs.CertificateReading.{cert_parse, names_of}
use Rattle.event_script.specs.declared.bad_line.BadLine.{BadLine}
use Rattle.event_script.specs.declared.fault.ScriptFault.{ScriptFault}
use Rattle.event_script.specs.EventScript.{bad_lines, first_bad, script_of}
use Rattle.diagnostics.specs.declared.diagnostic.Diagnostic.{Diagnostic}
use Rattle.diagnostics.specs.declared.diagnostic.Source.TheVariants.{Script}
use Rattle.input_diagnostics.specs.Advice.{IsErrorIn}
use Rattle.input_diagnostics.specs.CertificateErrors.{AreErrorsBy, AreCertificateErrors}
use Rattle.input_diagnostics.specs.ScriptErrors.{AreScriptErrors, BeginsWithFirst, IsRead}

none_bad : (bs : List BadLine) → first_bad bs ≡ None → bs ≡ []
none_bad [] e = refl
none_bad (b ∷ bs) e = absurd cc

is_read : {X : Type 0} (r : Result X ScriptFault) → result_err r ≡ None → IsRead r
is_read (Ok x) e = tt
is_read (Err f) e = absurd cc

no_fault : {X : Type 0} (r : Result X ScriptFault) → IsRead r → result_err r ≡ None
no_fault (Ok x) h = refl
no_fault (Err f) h = absurd h

none_said : (bs : List BadLine) (said : List Diagnostic) → BeginsWithFirst bs said → said ≡ [] → bs ≡ []
none_said [] said h e = refl
none_said (b ∷ bs) said h e = absurd (subst (λ (ds : List Diagnostic). IsSomeAnd (slice_get ds 0) (IsErrorIn Script b.line)) e h)

said_none : (bs : List BadLine) (said : List Diagnostic) → BeginsWithFirst bs said → bs ≡ [] → said ≡ []
said_none [] said h e = h
said_none (b ∷ bs) said h e = absurd cc

-- the first of all is the first of those that are shown
first_of_all : (bs : List BadLine) (said : List Diagnostic) → BeginsWithFirst (take 1000 bs) said → BeginsWithFirst bs said
first_of_all [] said h = h
first_of_all (b ∷ bs) said h = h

pub script_told : (p : Listing) (text : List ℕ) (shown : List BadLine) (said : List Diagnostic) → shown ≡ take 1000 (bad_lines p text)
    → BeginsWithFirst shown said → first_bad (bad_lines p text) ≡ result_err (script_of p text) → AreScriptErrors p text said
script_told p text shown said few h law =
    let first : BeginsWithFirst (bad_lines p text) said = first_of_all (bad_lines p text) said (subst (λ (bs : List BadLine). BeginsWithFirst bs said) few h) in
    record {
      first = first;
      silent = (
        λ e. is_read (script_of p text) (sym law ∙ ap first_bad (none_said (bad_lines p text) said first e)),
        λ h. said_none (bad_lines p text) said first (none_bad (bad_lines p text) (law ∙ no_fault (script_of p text) h)),
      );
    }

pub read_told : (p : Listing) (text : List ℕ) (read : Result (List (List (ℕ × ℕ))) CertFault) (said : List Diagnostic)
    → (read ≡ Err OutOfMemory) ⊎ (read ≡ cert_parse text (names_of p)) → (read ≡ Err OutOfMemory → ⊥) → AreErrorsBy p read said → AreCertificateErrors p text said
read_told p text read said parsed other h =
    ⊎_elim (λ none. absurd (other none)) (λ same. subst (λ (r : Result (List (List (ℕ × ℕ))) CertFault). AreErrorsBy p r said) same h) parsed
