use Rattle.threaded_runner.proofs.Imports.{◌≡◌, ◌+◌, ◌%◌, ◌<◌, ◌∷◌, [], length, refl, sym, ap, ◌∙◌, subst, vec_len, slice_index, unit_for, DeskView}
use Rattle.threaded_runner.proofs.Late.{next_late}
use Rattle.threaded_runner.proofs.Locked.{one_own, more, as_many}
use Rattle.threaded_runner.proofs.desk.Desk.apply.Goals as goal

pub invariant_of-self-2 : goal.invariant_of-self-2
invariant_of-self-2 g c =
    let i = c.self.inside in
    let e = c.args.event in
    let belongs : unit_for i.machine e ≡ c.args.unit = ap (λ (d : DeskView). unit_for d.machine e) c.self.view_is ∙ c.requires.belongs in (
      more i.machine c.apply.new.machine i.counts.items c.add.new.counts.items (e ∷ []) c.args.unit 1 (vec_len i.counts) i.is_stopped i.asleep c.self.invariant.0
          (one_own i.machine (length i.counts.items) c.args.unit e c.law_replay.ensures.retired c.law_replay.ensures.active belongs)
          refl c.in_ok-apply.ensures.ok.history c.in_ok-apply.ensures.kept.units i.counts.ok.0 c.add.ensures,
      record {
        accepted = c.in_ok-apply.ensures.kept.accepted ∙ c.self.invariant.1.accepted;
        units = c.in_ok-apply.ensures.kept.units ∙ c.self.invariant.1.units;
        workers = as_many i.counts.items c.add.new.counts.items (c.args.unit % vec_len i.counts) (slice_index i.counts.items (c.args.unit % vec_len i.counts) + 1) c.add.ensures ∙ c.self.invariant.1.workers;
        late =
            next_late g.J.Naming.budget i.machine.history c.apply.new.machine.history e c.in_ok-apply.ensures.ok.history c.self.invariant.1.late
            (λ is. subst (λ (d : DeskView). length d.machine.history < g.J.Naming.budget) (sym c.self.view_is) (c.requires.room is));
      },
    )
