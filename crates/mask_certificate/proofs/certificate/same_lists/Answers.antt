-- Lists that differ at one place differ.
use Rattle.std.proofs.Common.{◌≡◌, ◌<◌, true, [], ◌∙◌, sym, ap, arith, length, get_or}
use Rattle.std.proofs.lemmas.List.{get_or-map}
use Rattle.mask_certificate.proofs.certificate.same_lists.Goals as goal

pub returns-then-not-same_entries : goal.returns-then-not-same_entries
returns-then-not-same_entries c = (
  λ h. absurd (cc),
  λ same.
      let lists = c.args.lists.now in
      let others = c.args.others.now in
      let i = c.loop-task.task in
      let list = c.index-lists-task.result in
      let other = c.index-others-task.result in
      let within : i < length others = omega arith in
      let here : list.items ≡ other.items =
      ap (λ v. v.items) c.index-lists-task.is ∙ sym (get_or-map (λ v. v.items) lists i list [] c.loop-task-test.true)
      ∙ ap (λ ls. get_or ls i []) same
      ∙ get_or-map (λ v. v.items) others i other [] within ∙ sym (ap (λ v. v.items) c.index-others-task.is) in
      let yes : c.same_entries.result ≡ true = c.same_entries.ensures.1 (c.deref.ensures.value ∙ here ∙ sym c.deref-in-loop-task.ensures.value) in
      let no = c.if-not-same_entries.true in
      absurd (cc),
)
