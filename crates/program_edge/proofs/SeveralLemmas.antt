-- One program more: its part stands after the others, and the tally counts it.
use Rattle.std.proofs.Common.{◌≡◌, ◌∙◌, ◌+◌, ◌<◌, ◌≤◌, ap, subst, sym, refl, inr, ℕ, Bool, List, [], ◌∷◌, ◌++◌, length, get_or, take, drop, map, suc, zero-add, append-nil, take-append-drop, add-zero, add-one, arith, Option, Result, Ok, Err}
use Rattle.std.proofs.KnownBytes.{Appends-nil, Appends-trans}
use Rattle.std.proofs.Math.Seq.{drop-cons}
use Rattle.std.proofs.lemmas.List.{flat_map_more, map-append, take_all, take_more}
use Rattle.std.proofs.lemmas.List.Sums.{sum_by-append}
use Rattle.std.specs.Io.KnownBytes.{Appends}
use Rattle.std.specs.Prelude.{flat_map, if◌then◌else◌}
use Rattle.std.specs.List.{count_by}
use Rattle.std.specs.String.{string_bytes}
use Rattle.std.specs.declared.alloc.Global.{Global}
use Rattle.std.specs.declared.string.String.{String}
use Rattle.jobs.specs.declared.job.Job.{Job}
use Rattle.program_edge.specs.declared.summary.ProgramVerdict.{ProgramVerdict}
use Rattle.program_edge.specs.declared.summary.ProgramVerdict.TheVariants.{Right, Wrong, Unjudged}
use Rattle.program_edge.specs.declared.summary.ProgramTally.{ProgramTally}
use Rattle.program_edge.specs.declared.told.Answered.{Answered}
use Rattle.program_edge.specs.FileTexts.{Known}
use Rattle.result_files.specs.Files.{Same}
use Rattle.verdict_report.specs.declared.fault.ServeFault.{ServeFault}
use Rattle.verdict_report.specs.declared.fault.ServeFault.TheVariants as serve
use Rattle.program_edge.specs.declared.fault.Fault.TheVariants.{Serve}
use Rattle.program_edge.specs.Telling.{IsTold}
use Rattle.program_edge.specs.Several.{ArePartsOf, EndsAt, IsEach, IsOutOfMemory, IsPartOf, Part, Sums, errors_of, outputs_of, tally_of_parts}
use Rattle.program_edge.specs.Streams.{IsCut, IsWritten, World}
use Rattle.program_edge.specs.Summaries.{all_of, counted, is_right, is_unjudged, is_wrong, tally_of}

pub parts_more : (t : Bool) (known : List ℕ → Known) (job : Job) (names : List (String Global)) (parts : List Part) (name : String Global) (part : Part)
    → ArePartsOf t known job names parts → IsPartOf t known job (string_bytes name) part
    → ArePartsOf t known job (names ++ name ∷ []) (parts ++ part ∷ [])
parts_more t known job [] [] name part h one = (one, tt)
parts_more t known job [] (other ∷ parts) name part h one = absurd h
parts_more t known job (first ∷ names) [] name part h one = absurd h
parts_more t known job (first ∷ names) (other ∷ parts) name part h one =
    (h.0, parts_more t known job names parts name part h.1 one)

abbrev three : ℕ → ℕ → ℕ → ProgramTally
three right wrong unjudged = record { right = right; wrong = wrong; unjudged = unjudged }

same_tally : (a b c a' b' c' : ℕ) → a ≡ a' → b ≡ b' → c ≡ c' → three a b c ≡ three a' b' c'
same_tally a b c a' b' c' p q r = ap (λ x. three x b c) p ∙ ap (λ y. three a' y c) q ∙ ap (λ z. three a' b' z) r

count_more : (p : ProgramVerdict → Bool) (js : List ProgramVerdict) (j : ProgramVerdict) → count_by p (js ++ j ∷ []) ≡ count_by p js + (if p j then 1 else 0)
count_more p js j = sum_by-append (λ x. if p x then 1 else 0) js (j ∷ []) ∙ ap (λ n. count_by p js + n) (zero-add (if p j then 1 else 0))

tally_more : (js : List ProgramVerdict) (j : ProgramVerdict) → tally_of (js ++ j ∷ []) ≡ counted (tally_of js) j
tally_more js Right = same_tally _ _ _ _ _ _ (count_more is_right js Right)
    (count_more is_wrong js Right ∙ add-zero (count_by is_wrong js)) (count_more is_unjudged js Right ∙ add-zero (count_by is_unjudged js))
tally_more js Wrong = same_tally _ _ _ _ _ _ (count_more is_right js Wrong ∙ add-zero (count_by is_right js))
    (count_more is_wrong js Wrong) (count_more is_unjudged js Wrong ∙ add-zero (count_by is_unjudged js))
tally_more js Unjudged = same_tally _ _ _ _ _ _ (count_more is_right js Unjudged ∙ add-zero (count_by is_right js))
    (count_more is_wrong js Unjudged ∙ add-zero (count_by is_wrong js)) (count_more is_unjudged js Unjudged)

pub parts_tally_more : (parts : List Part) (part : Part) → tally_of_parts (parts ++ part ∷ []) ≡ counted (tally_of_parts parts) part.judged
parts_tally_more parts part =
    ap tally_of (map-append (λ (p : Part). p.judged) parts (part ∷ [])) ∙ tally_more (map (λ (p : Part). p.judged) parts) part.judged

pub all_more : (tally : ProgramTally) (j : ProgramVerdict) → all_of (counted tally j) ≡ all_of tally + 1
all_more tally Right = omega arith
all_more tally Wrong = omega arith
all_more tally Unjudged = omega arith

-- what one part more adds to a stream
pub added_more : (f : Part → List ℕ) (a b c : Option (List ℕ)) (parts : List Part) (part : Part)
    → Appends a b (flat_map f parts) → Appends b c (f part) → Appends a c (flat_map f (parts ++ part ∷ []))
added_more f a b c parts part p q =
    subst (Appends a c) (flat_map_more f [] parts part) (Appends-trans a b c (flat_map f parts) (f part) p q)

order_of : (names : List (String Global)) (i : ℕ) (name : String Global) → i < length names → name ≡ get_or names i name
    → names ≡ take i names ++ name ∷ drop (i + 1) names
order_of names i name h is = sym (take-append-drop i names)
    ∙ ap (λ (l : List (String Global)). take i names ++ l) (drop-cons names i name h
    ∙ ap (λ (n : String Global). n ∷ drop (suc i) names) (sym is) ∙ ap (λ (k : ℕ). name ∷ drop k names) (sym (add-one i)))

-- it ended at the program of this index
pub ends_at : (t : Bool) (known : List ℕ → Known) (job : Job) (names : List (String Global)) (i : ℕ) (name : String Global) (parts : List Part) (ending : Answered) (old between new : World)
    → i < length names → name ≡ get_or names i name → ArePartsOf t known job (take i names) parts
    → IsWritten (outputs_of parts) (errors_of parts) old between → EndsAt t known job (string_bytes name) ending between new
    → IsEach t known job names ending old new
ends_at t known job names i name parts ending old between new h is each written ends = record {
  done = take i names;
  left = name ∷ drop (i + 1) names;
  order = order_of names i name h is;
  parts = parts;
  each = each;
  between = between;
  written = written;
  ends = ends;
}

-- no program is left
pub sums_up : (t : Bool) (known : List ℕ → Known) (job : Job) (names : List (String Global)) (i : ℕ) (parts : List Part) (tally : ProgramTally) (ending : Answered) (old between new : World)
    → length names ≤ i → ArePartsOf t known job (take i names) parts → tally ≡ tally_of_parts parts
    → IsWritten (outputs_of parts) (errors_of parts) old between → Sums job tally ending between new
    → IsEach t known job names ending old new
sums_up t known job names i parts tally ending old between new h each is written sums = record {
  done = names;
  left = [];
  order = sym (append-nil names);
  parts = parts;
  each = subst (λ l. ArePartsOf t known job l parts) (take_all i names h) each;
  between = between;
  written = written;
  ends = subst (λ x. Sums job x ending between new) is sums;
}

-- memory ran out before the first
pub ends_before : (t : Bool) (known : List ℕ → Known) (job : Job) (name : String Global) (names : List (String Global)) (ending : Answered) (old new : World)
    → EndsAt t known job (string_bytes name) ending old new → IsEach t known job (name ∷ names) ending old new
ends_before t known job name names ending old new ends = record {
  done = [];
  left = name ∷ names;
  order = refl;
  parts = [];
  each = tt;
  between = old;
  written = record { written = Appends-nil old.output; said = Appends-nil old.errors; files = λ _. refl };
  ends = ends;
}

-- one program more had its turn
pub turn : (t : Bool) (known : List ℕ → Known) (job : Job) (names : List (String Global)) (i : ℕ) (name : String Global) (bytes : List ℕ)
    (tally after : ProgramTally) (judged : ProgramVerdict) (a b c e f g : Option (List ℕ)) (parts : List Part) (part : Part)
    → i < length names → name ≡ get_or names i name → bytes ≡ string_bytes name
    → ArePartsOf t known job (take i names) parts → tally ≡ tally_of_parts parts → all_of tally ≡ i
    → Appends a b (outputs_of parts) → Appends e f (errors_of parts)
    → IsPartOf t known job bytes part → part.judged ≡ judged → Appends b c part.output → Appends f g part.errors
    → after ≡ counted tally judged
    → (more : List Part) × ArePartsOf t known job (take (i + 1) names) more × (after ≡ tally_of_parts more) × (all_of after ≡ i + 1)
    × Appends a c (outputs_of more) × Appends e g (errors_of more)
turn t known job names i name bytes tally after judged a b c e f g parts part lt is named each tallied all out err one by out' err' counts = (
  parts ++ part ∷ [],
  subst (λ (l : List (String Global)). ArePartsOf t known job l (parts ++ part ∷ []))
      (sym (take_more names i name lt ∙ ap (λ (n : String Global). take i names ++ n ∷ []) (sym is)))
      (parts_more t known job (take i names) parts name part each (subst (λ (l : List ℕ). IsPartOf t known job l part) named one)),
  counts ∙ ap (λ (x : ProgramTally). counted x judged) tallied ∙ ap (λ (j : ProgramVerdict). counted (tally_of_parts parts) j) (sym by) ∙ sym (parts_tally_more parts part),
  ap all_of counts ∙ all_more tally judged ∙ ap (λ (n : ℕ). n + 1) all,
  added_more (λ p. p.output) a b c parts part out out',
  added_more (λ p. p.errors) e f g parts part err err',
)

abbrev fault_in : {A : Type 0} → Result A ServeFault → ServeFault
fault_in (Ok x) = serve.OutOfMemory
fault_in (Err fault) = fault

pub same_fault : {A : Type 0} (lack : ServeFault) → ◌≡◌ {A = Result A ServeFault} (Err lack) (Err serve.OutOfMemory) → lack ≡ serve.OutOfMemory
same_fault {A} lack is = ap (fault_in {A = A}) is

pub told_memory : {A : Type 0} (lack : ServeFault) (ending : Answered) (old new : World) → ◌≡◌ {A = Result A ServeFault} (Err lack) (Err serve.OutOfMemory)
    → IsTold (Serve lack) ending.status ending.is_told old.output new.output old.errors new.errors → Same old.files new.files
    → IsOutOfMemory ending old new
told_memory {A} lack ending old new is told same =
    (subst (λ f. IsTold (Serve f) ending.status ending.is_told old.output new.output old.errors new.errors) (same_fault {A = A} lack is) told, same)

-- a stream did not take the part of a program
pub cut_at : (t : Bool) (known : List ℕ → Known) (job : Job) (name : List ℕ) (part : Part) (said told : List ℕ) (ending : Answered) (old new : World)
    → IsPartOf t known job name part → said ≡ part.output → told ≡ part.errors → IsCut said told ending old new
    → EndsAt t known job name ending old new
cut_at t known job name part said told ending old new of p q cut = inr (
  part,
  of,
  subst (λ (l : List ℕ). IsCut l part.errors ending old new) p (subst (λ (l : List ℕ). IsCut said l ending old new) q cut),
)

pub written_as : (a b said told : List ℕ) (old new : World) → said ≡ a → told ≡ b → IsWritten said told old new → IsWritten a b old new
written_as a b said told old new p q h =
    subst (λ (l : List ℕ). IsWritten l b old new) p (subst (λ (l : List ℕ). IsWritten said l old new) q h)
