-- The note of one finding more shows its path.
use Rattle.std.proofs.Common.{◌≡◌, ℕ, ◌+◌, ◌<◌, List, ◌++◌, take, length, get_or, ap, sym, ◌∙◌, arith}
use Rattle.std.specs.List.{flat_map}
use Rattle.std.proofs.lemmas.Grind.{common_steps, flat_map-append}
use Rattle.diagnostics.specs.declared.diagnostic.Span.{Span}
use Rattle.diagnostics.specs.declared.diagnostic.Note.{Note}
use Rattle.finding_paths.specs.declared.shown.ShownFinding.{ShownFinding}
use Rattle.mark_subjects.specs.Parts.{shown_path, paths}
use Rattle.mark_subjects.proofs.Paths.{paths_added}
use Rattle.mark_diagnostics.specs.Errors.{path_shown}
use Rattle.mark_diagnostics.proofs.mask.register_notes.Goals as goal

flat_more : (f : ShownFinding → List (List Span)) (xs : List ShownFinding) (i : ℕ) (x : ShownFinding) → i < length xs → x ≡ get_or xs i x
    → flat_map f (take (i + 1) xs) ≡ flat_map f (take i xs) ++ f x
flat_more f xs i x below is = grind (arith, common_steps, flat_map-append)

pub loop-one-preserved : goal.loop-one-preserved
loop-one-preserved c =
    let f = path_shown c.args.subject.now in
    let xs = c.args.shown.now in
    let i = c.loop-one.one-index in
    let x = c.one-item.result in
    let note = c.in_ok-note.note in
    ap (λ (notes : List Note). paths notes) c.in_ok-push.ensures.items
    ∙ paths_added c.loop-one.notes.items note
    ∙ ap (λ (ps : List (List Span)). ps ++ shown_path note.path) c.loop-one.invariant
    ∙ ap (λ (ps : List (List Span)). flat_map f (take i xs) ++ ps) c.in_ok-note.ensures
    ∙ sym (flat_more f xs i x c.loop-one-test.true c.one-item.is)
