-- The last item had bytes of the same section, and now has those of both.
use Rattle.std.proofs.Common.{◌≡◌, ◌++◌, ◌-◌, ◌<◌, ◌∷◌, [], List, ℕ, ap, sym, ◌∙◌, refl, length, arith}
use Rattle.std.specs.Prelude.{slice_set, vec_len}
use Rattle.annotated_asm.specs.declared.item.PlacedStatement.{PlacedStatement}
use Rattle.annotated_asm.specs.Items.{blob}
use Rattle.annotated_asm.proofs.Runs.{alike_same, alike_then, blob_joined, same_section, set_last}
use Rattle.annotated_asm.proofs.item.add_bytes.Goals as goal

pub returns-then-eq : goal.returns-then-eq
returns-then-eq c =
    let items = c.args.items.now.items in
    let n = vec_len c.args.items.now - 1 in
    let last = c.in-Some.last.now in
    let here = c.args.section in
    let front = c.in-Bytes.front in
    let more = c.args.more in
    let behind = blob c.args.line here more in
    let same : last.section ≡ here = same_section last.section here (sym c.if-eq.ensures) in
    let is_last : last ≡ blob last.line here front = (λ i. record { line = last.line; section = same i; statement = c.in-Bytes.is i }) in
    let bytes : c.append.new.self ≡ front ++ more = c.in_ok-append.ensures.ok ∙ ap (λ (bytes : List ℕ). front ++ bytes) c.as_slice.ensures in
    let joined : PlacedStatement = blob last.line here (front ++ more) in
    let some : 0 < length items = omega (arith, c.args.items.now.ok.0, c.in-Some.ensures.variant.0 refl) in
    let found = set_last items n last joined some (ap (λ (k : ℕ). k - 1) c.args.items.now.ok.0) c.in-Some.ensures.value in
    let new_is = ap (λ (item : PlacedStatement). slice_set items n item) (λ i. blob last.line (same i) (bytes i)) ∙ found.1.1 in
    let old_is : (found.0 ++ blob last.line here front ∷ []) ++ behind ∷ [] ≡ items ++ behind ∷ [] =
    ap (λ (items : List PlacedStatement). items ++ behind ∷ []) (sym (found.1.0 ∙ ap (λ (item : PlacedStatement). found.0 ++ item ∷ []) is_last)) in
    alike_then _ _ _ (alike_same _ _ new_is) (alike_then _ _ _ (blob_joined found.0 last.line c.args.line here front more) (alike_same _ _ old_is))
