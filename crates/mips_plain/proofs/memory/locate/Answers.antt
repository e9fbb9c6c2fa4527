use Rattle.std.proofs.Common.{ap, sym, inl, inr, ◌∙◌, arith}
use Rattle.std.proofs.lemmas.Bool.{false≢true}
use Rattle.mips_plain.specs.Access.{spot_of}
use Rattle.mips_plain.proofs.RegionLemmas.{region_unaligned, region_outside, region_fixed, region_data}
use Rattle.mips_plain.proofs.memory.locate.Goals as goal
use Rattle.mips_plain.proofs.memory.locate.Goals.{then-at-lt-FIXED_START-via-then-at-lt-FIXED_START, then-at-lt-FIXED_START-via-else-at-lt-FIXED_START+then-at-size}

pub returns-then-not-is_multiple_of-clause-spot : goal.returns-then-not-is_multiple_of-clause-spot
returns-then-not-is_multiple_of-clause-spot c =
    ap spot_of
    (sym (region_unaligned c.args.size c.args.at (λ e. false≢true (sym c.if-not-is_multiple_of.true ∙ c.is_multiple_of.ensures.1 e))))

pub returns-then-at-lt-FIXED_START-clause-spot : goal.returns-then-at-lt-FIXED_START-clause-spot
returns-then-at-lt-FIXED_START-clause-spot c =
    let even = c.is_multiple_of.ensures.0 c.if-not-is_multiple_of.false in
    ap spot_of
    (sym
    (region_outside c.args.size c.args.at even
    (elim c.then-at-lt-FIXED_START.branch [
      | then-at-lt-FIXED_START-via-then-at-lt-FIXED_START w ↦ inl (omega arith)
      | then-at-lt-FIXED_START-via-else-at-lt-FIXED_START+then-at-size w ↦ inr (omega arith)
    ])))

pub returns-then-at-lt-DATA_START-clause-spot : goal.returns-then-at-lt-DATA_START-clause-spot
returns-then-at-lt-DATA_START-clause-spot c =
    let even = c.is_multiple_of.ensures.0 c.if-not-is_multiple_of.false in
    ap spot_of (sym (region_fixed c.args.size c.args.at c.requires even (omega arith) (omega arith)))

pub returns-else-at-lt-DATA_START-clause-spot : goal.returns-else-at-lt-DATA_START-clause-spot
returns-else-at-lt-DATA_START-clause-spot c =
    let even = c.is_multiple_of.ensures.0 c.if-not-is_multiple_of.false in
    ap spot_of (sym (region_data c.args.size c.args.at c.requires even (omega arith) (omega arith)))
