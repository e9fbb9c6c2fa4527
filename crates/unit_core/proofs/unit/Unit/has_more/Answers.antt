-- Each test that failed says that the units differ in a field; where none did, they have all but
-- what arrived and the log in common.
use Rattle.std.specs.Prelude.{ℕ, IsTrue, false, length}
use Rattle.std.proofs.Common.{rules, ◌≡◌, sym, ap, ◌∙◌, subst}
use Rattle.std.proofs.lemmas.Bool.{false≢true}
use Rattle.machine_model.specs.Machine.{Active}
use Rattle.unit_core.specs.Units.{UnitView, active_of, unlogged}
use Rattle.register_ring.specs.Ports.{arrived_of}
use Rattle.unit_core.specs.Bursts.{HasMore}
use Rattle.unit_core.proofs.unit.Unit.has_more.Goals as goal

pub returns-then-not-is_within : goal.returns-then-not-is_within
returns-then-not-is_within c =
    let u : UnitView = record { task = c.self.inside.task; serial = c.self.inside.serial; place = c.self.inside.spot; port = c.self.inside.port; local = c.self.inside.local; log = c.self.inside.log.reads } in
    let b : UnitView = unlogged c.args.before.now in
    let n : ℕ = c.args.before.now.reads in
    let differs : HasMore (active_of b) n (active_of u) → IsTrue false =
    λ h. absurd (false≢true (sym c.if-not-is_within.true ∙ c.is_within.ensures.1 (h.more, sym (ap (λ (a : Active). a.sent) h.is)))) in (
      λ never. absurd (false≢true never),
      subst (λ (v : UnitView). HasMore (active_of b) n (active_of v) → IsTrue false) c.self.view_is differs,
    )

pub returns : goal.returns
returns c =
    let u : UnitView = record { task = c.self.inside.task; serial = c.self.inside.serial; place = c.self.inside.spot; port = c.self.inside.port; local = c.self.inside.local; log = c.self.inside.log.reads } in
    let b : UnitView = unlogged c.args.before.now in
    let n : ℕ = c.args.before.now.reads in
    let within = c.is_within.ensures.0 c.if-not-is_within.false in
    let place : u.place ≡ b.place = search rules in
    let long : length u.log ≡ n = search rules in
    let same : IsTrue c.is_same.result → HasMore (active_of b) n (active_of u) =
    λ yes. record {
      more = within.0;
      is = λ j. record {
        task = c.if-self-before-2.false j;
        serial = c.if-self-before.false j;
        arrived = arrived_of u.port;
        local = c.is_same.ensures.0 yes j;
        sent = sym within.1 j;
        place = place j;
        log = u.log;
      };
      log = long;
    } in
    let back : HasMore (active_of b) n (active_of u) → IsTrue c.is_same.result =
    λ h. c.is_same.ensures.1 (ap (λ (a : Active). a.local) h.is) in
    subst (λ (v : UnitView). (IsTrue c.is_same.result → HasMore (active_of b) n (active_of v)) × (HasMore (active_of b) n (active_of v) → IsTrue c.is_same.result)) c.self.view_is
    (same, back)
