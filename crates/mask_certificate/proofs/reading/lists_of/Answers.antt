-- One list more stands before what is left.
use Rattle.std.proofs.Common.{◌≡◌, ℕ, ◌+◌, List, ◌∷◌, ◌&&◌, drop, ap, sym, ◌∙◌, subst, arith}
use Rattle.std.proofs.lemmas.List.{at_drop_more, map_push}
use Rattle.mask_certificate.specs.Lists.{entries_of}
use Rattle.mask_certificate.specs.CertificateReading.{lines_in, lists_at, names_in}
use Rattle.mask_certificate.specs.Left.{left_of}
use Rattle.mask_certificate.proofs.ListsLoop.{HasRead, more_read}
use Rattle.mask_certificate.proofs.reading.lists_of.Goals as goal

pub loop-task-preserved : goal.loop-task-preserved
loop-task-preserved c =
    let tasks = c.args.tasks.now in
    let i = c.loop-task.task-index in
    let task = c.task-item.result in
    let list = c.in_ok-list.list in
    let keeps = c.line_behind.new.list in
    let front = c.loop-task.lists.items in
    let lines = lines_in c.args.spelling (left_of c.loop-task.rest) in
    let body = lines_in c.args.spelling (left_of c.in_ok-left.left) in
    let after = lines_in c.args.spelling (left_of c.in_ok-list.after) in
    let next = c.in_ok-line.line in
    let whole = lists_at 2 (names_in tasks) (lines_in c.args.spelling (left_of c.args.body)) in
    let names : names_in (drop i tasks) ≡ task.name ∷ names_in (drop (i + 1) tasks) =
    at_drop_more names_in tasks i task c.loop-task-test.true ∙ ap (λ t. names_in (t ∷ drop (i + 1) tasks)) (sym c.task-item.is) in
    let so_far : HasRead c.loop-task.line (task.name ∷ names_in (drop (i + 1) tasks)) lines whole (entries_of front) c.loop-task.right =
    subst (λ (ns : List (List ℕ)). HasRead c.loop-task.line ns lines whole (entries_of front) c.loop-task.right) names c.loop-task.invariant.read in
    record {
      read =
          subst (λ (kept : List (List (ℕ × ℕ))). HasRead next (names_in (drop (i + 1) tasks)) after whole kept (c.loop-task.right && c.in_ok-list.is_right))
          (sym (ap entries_of c.in_ok-push.ensures.items ∙ map_push _ front keeps))
          (more_read c.loop-task.line task.name (names_in (drop (i + 1) tasks)) lines whole (entries_of front) c.loop-task.right so_far
          body after list.items keeps.items c.in_ok-list.is_right next (c.in_ok-left.ensures c.args.spelling)
          c.in_ok-list.ensures.entries c.in_ok-list.ensures.rest c.in_ok-line.ensures.next c.in_ok-list.ensures.told c.in_ok-line.ensures.kept);
      counted = omega (arith, c.in_ok-push.ensures.len);
      few = omega (arith, c.in_ok-line.ensures.few, c.loop-task.invariant.few);
    }
