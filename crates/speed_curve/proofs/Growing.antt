-- Rows of runs, and after them the row of the run on one unit more.
use Rattle.std.proofs.Common.{◌≡◌, ◌∙◌, refl, sym, ap, ap₂, subst, ℕ, zero, suc, ◌+◌, List, [], ◌∷◌, ◌++◌, arith}
use Rattle.std.specs.List.{range_with_len}
use Rattle.std.proofs.lemmas.List.{map_push}
use Rattle.std.proofs.lemmas.List.Elements.{All-nil, All-push}
use Rattle.task_descriptor.specs.Listing.{Listing}
use Rattle.unit_turns.specs.declared.predictor.Predictor.{Predictor}
use Rattle.speed_curve.specs.declared.row.Row.{Row}
use Rattle.speed_curve.specs.Curve.{AreRows, IsRowOf}

counted_behind : (a n b : ℕ) → a + n ≡ b → range_with_len a (suc n) ≡ range_with_len a n ++ b ∷ []
counted_behind a zero b is = let same : a ≡ b = omega (arith, is) in ap (λ (k : ℕ). k ∷ []) same
counted_behind a (suc n) b is = ap (λ (ks : List ℕ). a ∷ ks) (counted_behind (a + 1) n b (omega (arith, is)))

pub one_more : (n b : ℕ) → n + 1 ≡ b → range_with_len 1 b ≡ range_with_len 1 n ++ b ∷ []
one_more n b is =
    let next : b ≡ suc n = omega (arith, is) in
    let last : 1 + n ≡ b = omega (arith, is) in
    ap (range_with_len 1) next ∙ counted_behind 1 n b last

module _ (p : Listing) (budget : ℕ) (predictor : Predictor) where
  pub no_rows : AreRows p budget predictor 0 []
  no_rows = record { units = refl; runs = All-nil (λ row. IsRowOf p budget predictor row.units row) }

  pub rows_more : (n b : ℕ) (rows : List Row) (row : Row) → n + 1 ≡ b → AreRows p budget predictor n rows → IsRowOf p budget predictor b row
      → AreRows p budget predictor b (rows ++ row ∷ [])
  rows_more n b rows row is before this =
      let here : row.units ≡ b = ap (λ (r : Row). r.units) this.is in
      record {
        units = map_push (λ r. r.units) rows row ∙ ap₂ (λ (ks : List ℕ) (k : ℕ). ks ++ k ∷ []) before.units here ∙ sym (one_more n b is);
        runs = All-push (λ r. IsRowOf p budget predictor r.units r) rows row before.runs (subst (λ (k : ℕ). IsRowOf p budget predictor k row) (sym here) this);
      }
