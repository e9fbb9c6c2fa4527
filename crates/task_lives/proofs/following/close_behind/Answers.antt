-- From the tail on.
use Rattle.std.proofs.Common.{◌≡◌, ◌∷◌, [], ◌++◌, ◌∙◌, List, length, length-append, subst, sym, ap, arith}
use Rattle.task_lives.specs.declared.life.Life.{Life}
use Rattle.task_lives.specs.declared.following.AtWork.{AtWork}
use Rattle.task_lives.proofs.Closing.{IsClosing, within_split, one_closed, none_closed, front_left, rest_closed}
use Rattle.task_lives.proofs.following.close_behind.Goals as goal

pub loop-tail-init : goal.loop-tail-init
loop-tail-init c = none_closed c.args.last c.args.ending c.args.kept c.args.queue.now.items c.args.lives.now.items c.requires

pub close-requires : goal.close-requires
close-requires c =
    let now = c.pop_behind.new.queue.items in
    let lives = c.loop-tail.lives.items in
    let h = subst (λ (ws : List AtWork). IsClosing c.args.last c.args.ending c.args.kept c.args.queue.now.items ws c.args.lives.now.items lives) c.in-Some.ensures.some.0 c.loop-tail.invariant in
    (within_split (length lives) now c.in-Some.tail h.indices).1

pub loop-tail-preserved : goal.loop-tail-preserved
loop-tail-preserved c =
    let now = c.pop_behind.new.queue.items in
    let lives = c.loop-tail.lives.items in
    let h = subst (λ (ws : List AtWork). IsClosing c.args.last c.args.ending c.args.kept c.args.queue.now.items ws c.args.lives.now.items lives) c.in-Some.ensures.some.0 c.loop-tail.invariant in
    subst (λ (ls : List Life). IsClosing c.args.last c.args.ending c.args.kept c.args.queue.now.items now c.args.lives.now.items ls) (sym c.close.ensures)
    (one_closed c.args.last c.args.ending c.args.kept c.args.queue.now.items now c.in-Some.tail c.args.lives.now.items lives c.in-Some.ensures.some.1 h)

pub loop-tail-smaller : goal.loop-tail-smaller
loop-tail-smaller c =
    let long : length c.loop-tail.queue.items ≡ length (c.pop_behind.new.queue.items ++ c.in-Some.tail ∷ []) = ap length c.in-Some.ensures.some.0 in
    omega (arith, long, length-append c.pop_behind.new.queue.items (c.in-Some.tail ∷ []))

pub returns-clause-queue : goal.returns-clause-queue
returns-clause-queue c =
    let gone = c.in_default.ensures.none in
    gone.0 ∙ front_left c.args.last c.args.ending c.args.kept c.args.queue.now.items c.loop-tail.queue.items c.args.lives.now.items c.loop-tail.lives.items gone.1 c.loop-tail.invariant

pub returns-clause-lives : goal.returns-clause-lives
returns-clause-lives c =
    rest_closed c.args.last c.args.ending c.args.kept c.args.queue.now.items c.loop-tail.queue.items c.args.lives.now.items c.loop-tail.lives.items c.in_default.ensures.none.1 c.loop-tail.invariant
