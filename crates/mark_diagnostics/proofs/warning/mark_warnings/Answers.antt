-- The diagnostics are those for the first remarks, in the text's own lines.
use Rattle.std.proofs.Common.{◌≡◌, ◌-◌, List, [], ◌++◌, map, take, length, ap, arith, sym, ◌∙◌, subst}
use Rattle.std.specs.Prelude.{codes}
use Rattle.std.specs.List.{AllZip}
use Rattle.finding_paths.specs.declared.mark.CostlyMark.{CostlyMark}
use Rattle.diagnostics.specs.declared.diagnostic.Diagnostic.{Diagnostic}
use Rattle.exit_diagnostics.specs.declared.remark.Remark.{Remark}
use Rattle.exit_diagnostics.specs.declared.remark.Remark.TheVariants.{Stop}
use Rattle.exit_diagnostics.specs.declared.remark.StopRemark.{StopRemark}
use Rattle.exit_diagnostics.specs.Remarks.{stop_remarks}
use Rattle.diagnostics.specs.More.{more_note}
use Rattle.diagnostics.specs.declared.diagnostic.Source.TheVariants.{Program}
use Rattle.mark_subjects.specs.Subjects.{Judged}
use Rattle.mark_diagnostics.specs.Told.{most_shown}
use Rattle.mark_diagnostics.specs.Together.{told_marks}
use Rattle.mark_diagnostics.specs.Warnings.{remarks, Warns}
use Rattle.mark_diagnostics.proofs.StopsAlike.{stops_alike}
use Rattle.mark_diagnostics.proofs.Warned.{nothing_warned}
use Rattle.mark_diagnostics.proofs.warning.mark_warnings.Goals as goal

pub returns-then-is_silent : goal.returns-then-is_silent
returns-then-is_silent c =
    let p = c.args.program.now in
    let fits = c.map_fits.ensures c.args.text.now p c.requires.spelled in
    let s : Judged = record { program = p; sources = fits.0; least = c.args.least.now } in
    let bare = c.without_text-bare.result in
    let none = c.is_silent.ensures c.if-is_silent.true in
    let stops : stop_remarks s ≡ [] =
    stops_alike s bare (sym c.without_text-bare.ensures.program) (sym c.without_text-bare.ensures.least)
    ∙ sym c.in_ok-stops.ensures ∙ sym c.deref-2.ensures.value ∙ none.1 in
    nothing_warned c.args.text.now s c.in_ok-list.list.items c.new.result.items (record { spelled = c.requires.spelled; places = fits.1 })
    (sym c.deref.ensures.value ∙ none.0) stops c.in_ok-list.ensures c.new.ensures.items

pub returns : goal.returns
returns c =
    let s = c.in_ok-subject.subject in
    let stops =
    c.in_ok-stops.ensures
    ∙ stops_alike c.without_text-bare.result s (c.without_text-bare.ensures.program ∙ sym c.in_ok-subject.ensures.program)
    (c.without_text-bare.ensures.least ∙ sym c.in_ok-subject.ensures.least) in
    let list = c.in_ok-list.list.items in
    let all : c.in_ok-remarks.remarks.items ≡ remarks s list =
    c.in_ok-remarks.ensures
    ∙ ap (λ (rs : List StopRemark). map (λ (r : StopRemark). Stop r) rs ++ told_marks c.deref-4.result.now) (c.deref-3.ensures.value ∙ stops)
    ∙ ap (λ (ms : List CostlyMark). map (λ (r : StopRemark). Stop r) (stop_remarks s) ++ told_marks ms) c.deref-4.ensures.value in
    let first : c.first_of-shown.result.now ≡ take most_shown (remarks s list) =
    c.first_of-shown.ensures ∙ ap (take most_shown) (c.deref-5.ensures.value ∙ all) in
    let count : c.len-count.result ≡ length (remarks s list) = omega (arith, c.len-count.ensures, c.in_ok-remarks.remarks.ok.0, ap length all) in
    let more = c.saturating_sub-more.ensures ∙ ap (λ n. n - most_shown) count in
    record {
      judged = s;
      of_text = c.in_ok-subject.ensures.judged;
      of_program = c.in_ok-subject.ensures.program;
      of_least = c.in_ok-subject.ensures.least;
      list = list;
      costly = c.in_ok-list.ensures;
      first = c.in_ok-warned.warned.items;
      warned = subst (λ (rs : List Remark). AllZip (Warns s) rs c.in_ok-warned.warned.items) first c.in_ok-warned.ensures;
      jumps = c.in_ok-jumps.jumps.items;
      jumping = c.in_ok-jumps.ensures;
      is = c.in_ok-add_more.ensures
          ∙ ap (λ (ds : List Diagnostic). ds ++ more_note Program c.saturating_sub-more.result (codes "warning") (codes "warnings")) c.in_ok-said.ensures
          ∙ ap (λ n. (c.in_ok-warned.warned.items ++ c.in_ok-jumps.jumps.items) ++ more_note Program n (codes "warning") (codes "warnings")) more;
    }
