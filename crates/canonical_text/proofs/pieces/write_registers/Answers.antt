-- A register that is a member is one piece more.
use Rattle.canonical_text.proofs.Imports.{◌≡◌, ◌++◌, List, ℕ, arith, sym, ◌∙◌, ap, string_bytes, commas, no_pieces}
use Rattle.std.proofs.Common.{not}
use Rattle.canonical_text.proofs.Members.{member_written, member_not_first, members_without, texts_below, all_members}
use Rattle.canonical_text.proofs.pieces.write_registers.Goals as goal
use Rattle.canonical_text.proofs.pieces.write_registers.Goals.{then-has_number+in_ok-write_next_register, else-has_number}

pub loop-number-preserved : goal.loop-number-preserved
loop-number-preserved c =
    elim c.if-has_number.branch [
      | then-has_number+in_ok-write_next_register w ↦
          let is_member = sym c.has_number.ensures ∙ w.if-has_number.true in (
            ap string_bytes w.text-is ∙ member_written _ _ _ c.args.set c.loop-number.number c.loop-number.is_first is_member
                c.loop-number.invariant.1 c.loop-number.invariant.0 w.in_ok-write_next_register.ensures,
            w.is_first-is ∙ member_not_first c.args.set c.loop-number.number is_member,
          )
      | else-has_number w ↦
          let none = members_without c.args.set c.loop-number.number (sym c.has_number.ensures ∙ w.if-has_number.false) in (
            ap string_bytes w.text-is ∙ c.loop-number.invariant.0 ∙ ap (λ (t : List (List ℕ)). string_bytes c.args.text.now ++ commas t) (sym none),
            w.is_first-is ∙ c.loop-number.invariant.1 ∙ ap no_pieces (sym none),
          )
    ]

pub returns-clause-written : goal.returns-clause-written
returns-clause-written c =
    let ended : c.loop-number.number ≡ 34 = omega arith in
    c.loop-number.invariant.0
    ∙ ap (λ (n : ℕ). string_bytes c.args.text.now ++ commas (texts_below c.args.set n)) ended
    ∙ ap (λ (t : List (List ℕ)). string_bytes c.args.text.now ++ commas t) (all_members c.args.set)

pub returns-clause-some : goal.returns-clause-some
returns-clause-some c =
    let ended : c.loop-number.number ≡ 34 = omega arith in
    ap not (c.loop-number.invariant.1 ∙ ap (λ (n : ℕ). no_pieces (texts_below c.args.set n)) ended ∙ ap no_pieces (all_members c.args.set))
