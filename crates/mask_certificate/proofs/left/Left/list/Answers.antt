-- The lines of the part come first, and those of the parts after it follow.
use Rattle.std.proofs.Common.{◌≡◌, ℕ, ◌<◌, false, eqb, List, [], ◌∷◌, ◌++◌, length, drop, sym, ◌∙◌, ap, arith}
use Rattle.std.specs.Vec.Iter.{into_iter_items}
use Rattle.mask_certificate.specs.CertificateReading.{lines_in, entries_in}
use Rattle.mask_certificate.specs.Left.{Left, left_of}
use Rattle.mask_certificate.proofs.LeftLemmas.{cut_end, list_entries, list_left, list_stays}
use Rattle.mask_certificate.proofs.left.Left.list.Goals as goal

pub returns-clause-entries : goal.returns-clause-entries
returns-clause-entries c =
    let rest = c.self.inside.rest.now in
    let behind = into_iter_items c.self.inside.behind in
    let list = c.in_ok-list.list.items in
    let after = c.in_ok-list.after.now in
    let cut = cut_end c.self.inside.text.now rest behind c.self.invariant.end c.self.invariant.cut in
    let cut_after = cut_end c.self.inside.text.now after behind c.in_ok-list.ensures.end c.self.invariant.cut in
    ap (λ (t : List ℕ). list ++ entries_in (lines_in c.args.spelling t)) c.from-left.ensures
    ∙ list_entries c.args.spelling rest after behind list cut cut_after c.in_ok-list.ensures.entries c.in_ok-list.ensures.rest
    ∙ ap (λ (left : Left). entries_in (lines_in c.args.spelling (left_of left))) c.self.view_is

pub returns-clause-rest : goal.returns-clause-rest
returns-clause-rest c =
    let rest = c.self.inside.rest.now in
    let behind = into_iter_items c.self.inside.behind in
    let list = c.in_ok-list.list.items in
    let after = c.in_ok-list.after.now in
    let cut = cut_end c.self.inside.text.now rest behind c.self.invariant.end c.self.invariant.cut in
    let cut_after = cut_end c.self.inside.text.now after behind c.in_ok-list.ensures.end c.self.invariant.cut in
    ap (λ (t : List ℕ). lines_in c.args.spelling t) c.from-left.ensures
    ∙ list_left c.args.spelling rest after behind list cut cut_after c.in_ok-list.ensures.entries c.in_ok-list.ensures.rest
    ∙ ap (λ (left : Left). drop (length list) (lines_in c.args.spelling (left_of left))) c.self.view_is

pub returns-clause-stays : goal.returns-clause-stays
returns-clause-stays c = λ no.
    let rest = c.self.inside.rest.now in
    let behind = into_iter_items c.self.inside.behind in
    let list = c.in_ok-list.list.items in
    let after = c.in_ok-list.after.now in
    let cut = cut_end c.self.inside.text.now rest behind c.self.invariant.end c.self.invariant.cut in
    let cut_after = cut_end c.self.inside.text.now after behind c.in_ok-list.ensures.end c.self.invariant.cut in
    ap (λ (t : List ℕ). entries_in (lines_in c.args.spelling t)) c.from-left.ensures
    ∙ list_stays c.args.spelling rest after behind list cut cut_after c.in_ok-list.ensures.entries c.in_ok-list.ensures.rest
    (some_of after (sym c.is_empty.ensures ∙ no))
  where
    some_of : (bytes : List ℕ) → eqb (length bytes) 0 ≡ false → 0 < length bytes
    some_of [] e = absurd cc
    some_of (x ∷ bytes) e = omega arith
