-- The closure gives an entry's index, and the list rises.
use Rattle.std.proofs.Common.{ℕ, sym, ◌∙◌, ap, rules, Some, Ok, Err}
use Rattle.std.proofs.lemmas.List.{get_or_default}
use Rattle.std.proofs.lemmas.List.Sorted.{answers_always}
use Rattle.mask_certificate.specs.Lists.{mask_at}
use Rattle.mask_certificate.proofs.Rising.{searched}
use Rattle.mask_certificate.proofs.certificate.Cert.mask.Goals as goal

pub returns-in-Ok : goal.returns-in-Ok
returns-in-Ok c =
    let facts = c.in-Ok.ensures in
    let by_key = facts.position (λ pair. pair.0) (answers_always _ _ _ (λ f a r g called. search rules)) in
    let list = c.list-list.result.now in
    ap (λ (e : ℕ × ℕ). Some e.1) (get_or_default list c.in-Ok.place _ (0, 0) facts.bound)
    ∙ sym (searched list c.list-list.ensures.rises c.args.index (Ok c.in-Ok.place) facts.bound by_key)
    ∙ ap (λ entries. mask_at entries c.args.index) c.list-list.ensures.entries

pub returns-in-Err : goal.returns-in-Err
returns-in-Err c =
    let facts = c.in-Err.ensures in
    let by_key = facts.position (λ pair. pair.0) (answers_always _ _ _ (λ f a r g called. search rules)) in
    let list = c.list-list.result.now in
    sym (searched list c.list-list.ensures.rises c.args.index (Err c.in-Err.field-0) facts.bound by_key)
    ∙ ap (λ entries. mask_at entries c.args.index) c.list-list.ensures.entries
