-- A run that goes on before each of its steps and not after the last has one number of steps; and rows of equal units
-- are then equal, the first first.
use Rattle.std.proofs.Common.{◌≡◌, ◌∙◌, refl, sym, ap, ap₂, subst, ℕ, suc, ◌<◌, List, [], ◌∷◌, length, map, get_or, drop, arith, true≢false}
use Rattle.std.specs.List.{All}
use Rattle.std.proofs.lemmas.List.Elements.{All-head, All-tail}
use Rattle.task_descriptor.specs.Listing.{Listing}
use Rattle.unit_turns.specs.declared.predictor.Predictor.{Predictor}
use Rattle.unit_turns.specs.Steps.{Course, beginning, after_steps, Takes}
use Rattle.speed_curve.specs.declared.row.Row.{Row}
use Rattle.speed_curve.specs.Curve.{IsRowOf, row_after}
use Rattle.speed_curve.specs.Laws.{AreDetermined}

not_before : (p : Listing) (units budget : ℕ) (c : Course) (n m : ℕ) → Takes p units budget c n → Takes p units budget c m → n < m → ⊥
not_before p units budget c n m ends goes less = true≢false (sym (goes.went_on n less) ∙ ends.is_over)

pub takes_once : (p : Listing) (units budget : ℕ) (c : Course) (n m : ℕ) → Takes p units budget c n → Takes p units budget c m → n ≡ m
takes_once p units budget c n m one other =
    let least : n < m → ⊥ = not_before p units budget c n m one other in
    let most : m < n → ⊥ = not_before p units budget c m n other one in
    omega (arith, least, most)

module _ (p : Listing) (budget : ℕ) (predictor : Predictor) where
  one_row : (units : ℕ) (row other : Row) → IsRowOf p budget predictor units row → IsRowOf p budget predictor units other → row ≡ other
  one_row units row other h k =
      let steps = takes_once p units budget (beginning p predictor) row.steps other.steps h.takes k.takes in
      h.is ∙ ap (λ (n : ℕ). row_after units n (after_steps p units budget n (beginning p predictor))) steps ∙ sym k.is

  abbrev Runs : List Row → Type 0
  Runs rows = All (λ row. IsRowOf p budget predictor row.units row) rows

  same_rows : (rows others : List Row) → map (λ row. row.units) rows ≡ map (λ row. row.units) others → Runs rows → Runs others → rows ≡ others
  same_rows [] [] units h k = refl
  same_rows [] (other ∷ others) units h k = let none : 0 ≡ suc (length (map (λ row. row.units) others)) = ap length units in absurd (omega (arith, none))
  same_rows (row ∷ rows) [] units h k = let none : suc (length (map (λ row. row.units) rows)) ≡ 0 = ap length units in absurd (omega (arith, none))
  same_rows (row ∷ rows) (other ∷ others) units h k =
      let here : row.units ≡ other.units = ap (λ (ks : List ℕ). get_or ks 0 0) units in
      let behind : map (λ row. row.units) rows ≡ map (λ row. row.units) others = ap (λ (ks : List ℕ). drop 1 ks) units in
      let first = subst (λ (n : ℕ). IsRowOf p budget predictor n row) here (All-head (λ row. IsRowOf p budget predictor row.units row) row rows h) in
      let second = All-head (λ row. IsRowOf p budget predictor row.units row) other others k in
      ap₂ (λ (x : Row) (xs : List Row). x ∷ xs) (one_row other.units row other first second)
      (same_rows rows others behind (All-tail (λ row. IsRowOf p budget predictor row.units row) row rows h) (All-tail (λ row. IsRowOf p budget predictor row.units row) other others k))

pub determined : AreDetermined
determined p budget predictor most rows others h k =
    same_rows p budget predictor rows others (h.units ∙ sym k.units) h.runs k.runs
