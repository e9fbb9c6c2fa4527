-- What is shifted out lies below; the lowest bit of the rest is the next member.
use Rattle.std.specs.Prelude.{◌^◌, ◌/◌}
use Rattle.std.proofs.Common.{◌∙◌, ap, sym}
use Rattle.register_ring.proofs.MemberLemmas.{none_from, Answers, answers_of}
use Rattle.register_ring.proofs.members.next_member.Goals as goal

pub returns-then-bits-eq0-clause-none : goal.returns-then-bits-eq0-clause-none
returns-then-bits-eq0-clause-none c s h =
    none_from c.args.set c.args.from s (ap (λ (n : _). n / 2 ^ c.args.from) (sym c.bits.ensures.value) ∙ c.if-bits-eq0.true) h

answers : (c : goal.After-new) → Answers c.args.set c.args.from c.new.result
answers c =
    answers_of c.new.result c.args.set c.args.from c.bits.result c.bits.ensures.value c.bits.ensures.range c.if-bits-eq0.false
    c.new.ensures.some c.new.ensures.value

pub returns-clause-member : goal.returns-clause-member
returns-clause-member c = (answers c).member

pub returns-clause-least : goal.returns-clause-least
returns-clause-least c = (answers c).least

pub returns-clause-none : goal.returns-clause-none
returns-clause-none c = (answers c).none

pub returns-clause-range : goal.returns-clause-range
returns-clause-range c = (answers c).range
