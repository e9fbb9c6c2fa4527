-- The position at the index is that of the index's entry, if there is one.
use Rattle.std.proofs.Common.{ℕ, ◌<◌, List, Some, sym, ◌∙◌, ap, arith, length}
use Rattle.mask_certificate.specs.Lists.{mask_at}
use Rattle.mask_certificate.proofs.Rising.{mask_beyond, mask_there, mask_absent}
use Rattle.mask_certificate.proofs.masks.Masks.at.Goals as goal

pub returns-in_err-position : goal.returns-in_err-position
returns-in_err-position c =
    let past = c.in_err-position.ensures.lookup.3 in
    let told = c.self.told.1 in
    c.from_residual.ensures
    ∙ sym (mask_beyond c.self.inside.entries.now c.self.invariant.0 c.args.index (omega arith))
    ∙ ap (λ (es : List (ℕ × ℕ)). mask_at es c.args.index) c.self.view_is

pub returns-in_err-entry : goal.returns-in_err-entry
returns-in_err-entry c =
    let entries = c.self.inside.entries.now in
    let position = c.in_ok-position.field-0.now in
    let past = c.in_err-entry.ensures.lookup.3 in
    c.from_residual-in_err-entry.ensures
    ∙ sym (mask_absent entries c.self.inside.positions c.self.invariant.1 c.args.index position (c.in_ok-position.ensures.lookup.3.1 0)
    (λ (less : position < length entries) same. omega arith))
    ∙ ap (λ (es : List (ℕ × ℕ)). mask_at es c.args.index) c.self.view_is

pub returns-then-entry-index : goal.returns-then-entry-index
returns-then-entry-index c =
    let entries = c.self.inside.entries.now in
    let position = c.in_ok-position.field-0.now in
    let look = c.in_ok-entry.ensures.lookup.3 in
    let is = look.1 (0, 0) in
    ap (λ (e : ℕ × ℕ). Some e.1) is
    ∙ sym (mask_there entries c.self.invariant.0 c.args.index position look.0 (ap (λ (e : ℕ × ℕ). e.0) (sym is) ∙ c.if-entry-index.true))
    ∙ ap (λ (es : List (ℕ × ℕ)). mask_at es c.args.index) c.self.view_is

pub returns-else-entry-index : goal.returns-else-entry-index
returns-else-entry-index c =
    let entries = c.self.inside.entries.now in
    let position = c.in_ok-position.field-0.now in
    let is = c.in_ok-entry.ensures.lookup.3.1 (0, 0) in
    sym (mask_absent entries c.self.inside.positions c.self.invariant.1 c.args.index position (c.in_ok-position.ensures.lookup.3.1 0)
    (λ (less : position < length entries) same. c.if-entry-index.false (ap (λ (e : ℕ × ℕ). e.0) is ∙ same)))
    ∙ ap (λ (es : List (ℕ × ℕ)). mask_at es c.args.index) c.self.view_is
