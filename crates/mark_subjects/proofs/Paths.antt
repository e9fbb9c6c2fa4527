-- The paths that more notes show.
use Rattle.std.proofs.Common.{◌≡◌, List, [], ◌∷◌, ◌++◌, ap, ◌∙◌}
use Rattle.std.proofs.lemmas.List.{append-nil}
use Rattle.std.proofs.lemmas.Grind.{flat_map-append}
use Rattle.diagnostics.specs.declared.diagnostic.Span.{Span}
use Rattle.diagnostics.specs.declared.diagnostic.Note.{Note}
use Rattle.mark_subjects.specs.Parts.{shown_path, paths}

pub paths_joined : (xs ys : List Note) → paths (xs ++ ys) ≡ paths xs ++ paths ys
paths_joined xs ys = flat_map-append (λ (n : Note). shown_path n.path) xs ys

pub paths_added : (notes : List Note) (n : Note) → paths (notes ++ n ∷ []) ≡ paths notes ++ shown_path n.path
paths_added notes n = paths_joined notes (n ∷ []) ∙ ap (λ (ps : List (List Span)). paths notes ++ ps) (append-nil (shown_path n.path))

-- no note yet, and one alone
pub none_yet : (notes : List Note) → notes ≡ [] → paths notes ≡ []
none_yet notes none = ap (λ (ns : List Note). paths ns) none

pub alone : (notes : List Note) (n : Note) → notes ≡ [] → paths (notes ++ n ∷ []) ≡ shown_path n.path
alone notes n none = paths_added notes n ∙ ap (λ (ps : List (List Span)). ps ++ shown_path n.path) (none_yet notes none)

-- notes that show no path
pub none_added : (notes : List Note) (n : Note) → n.path ≡ [] → paths (notes ++ n ∷ []) ≡ paths notes
none_added notes n none = paths_added notes n ∙ ap (λ (steps : List Span). paths notes ++ shown_path steps) none ∙ append-nil (paths notes)

pub none_alone : (notes : List Note) (n : Note) → notes ≡ [] → n.path ≡ [] → paths (notes ++ n ∷ []) ≡ []
none_alone notes n none empty = none_added notes n empty ∙ none_yet notes none

pub none_before : (xs ys : List Note) → paths xs ≡ [] → paths (xs ++ ys) ≡ paths ys
none_before xs ys none = paths_joined xs ys ∙ ap (λ (ps : List (List Span)). ps ++ paths ys) none
