-- Either there is a member, and the list is written, or there is none, and a `-` is.
use Rattle.canonical_text.proofs.Imports.{◌≡◌, Bool, true, false, refl, map, members, register_text}
use Rattle.std.proofs.Common.{not}
use Rattle.canonical_text.proofs.Commas.{listed_some, listed_none}
use Rattle.canonical_text.proofs.print.write_create.Goals as goal

not_some : (some none : Bool) → some ≡ not none → some ≡ false → none ≡ true
not_some some true is h = refl
not_some some false is h = absurd (cc)

not_none : (some none : Bool) → some ≡ not none → some ≡ true → none ≡ false
not_none some false is h = refl
not_none some true is h = absurd (cc)

pub returns-in_ok-push_str : goal.returns-in_ok-push_str
returns-in_ok-push_str c =
    listed_none _ _ _ (map register_text (members c.args.create))
    (not_some _ _ c.in_ok-write_registers.ensures.some c.if-not-branch.true)
    c.in_ok-write_registers.ensures.written c.in_ok-push_str.ensures.bytes

pub returns-else-not-branch : goal.returns-else-not-branch
returns-else-not-branch c =
    listed_some _ _ (map register_text (members c.args.create))
    (not_none _ _ c.in_ok-write_registers.ensures.some c.if-not-branch.false)
    c.in_ok-write_registers.ensures.written
