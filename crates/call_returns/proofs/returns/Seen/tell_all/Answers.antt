-- One jump more is told of.
use Rattle.std.proofs.Common.{sym, subst}
use Rattle.std.specs.List.{All}
use Rattle.std.proofs.lemmas.List.Elements.{All-push}
use Rattle.call_returns.specs.Returns.{IsTold}
use Rattle.call_returns.proofs.returns.Seen.tell_all.Goals as goal

pub loop-site-preserved : goal.loop-site-preserved
loop-site-preserved c =
    let told = IsTold c.args.self.now.program.now in
    subst (All told) (sym c.in_ok-push.ensures.items) (All-push told c.loop-site.told.items c.in_ok-jump.jump c.loop-site.invariant c.in_ok-jump.ensures)
