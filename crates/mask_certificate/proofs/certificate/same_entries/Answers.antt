-- Slices are compared entry by entry.
use Rattle.std.proofs.Common.{◌≡◌, ℕ, ◌&&◌, eqb, ap, Decides}
use Rattle.std.proofs.lemmas.Bool.{and_parts, and_from, eqb-true, eq-eqb}
use Rattle.std.proofs.lemmas.Slice.Eq.{slice_eq-Decides}
use Rattle.mask_certificate.proofs.certificate.same_entries.Goals as goal

same_entry : (x y : ℕ × ℕ) → Decides (eqb x.0 y.0 && eqb x.1 y.1) (x ≡ y)
same_entry x y = (
  λ h.
      let parts = and_parts (eqb x.0 y.0) (eqb x.1 y.1) h in
      let index : x.0 ≡ y.0 = eqb-true x.0 y.0 parts.0 in
      let mask : x.1 ≡ y.1 = eqb-true x.1 y.1 parts.1 in
      λ k. (index k, mask k),
  λ same. and_from (eqb x.0 y.0) (eqb x.1 y.1) (eq-eqb x.0 y.0 (ap (λ (e : ℕ × ℕ). e.0) same)) (eq-eqb x.1 y.1 (ap (λ (e : ℕ × ℕ). e.1) same)),
)

pub returns : goal.returns
returns c = slice_eq-Decides {E = λ (x y : ℕ × ℕ). eqb x.0 y.0 && eqb x.1 y.1} same_entry c.args.list.now c.args.other.now c.eq.result c.eq.ensures
