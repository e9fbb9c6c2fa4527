-- The findings so far are written.
use Rattle.std.proofs.Common.{◌≡◌, ◌++◌, take}
use Rattle.std.specs.List.{flat_map}
use Rattle.std.specs.String.{string_bytes}
use Rattle.report_texts.specs.VerdictTexts.{finding_text}
use Rattle.report_texts.proofs.verdict_text.write_findings.Given as goal

abbrev pub invariant-loop-finding : goal.invariant-loop-finding
invariant-loop-finding l =
    string_bytes l.text ≡ string_bytes l.initial.text ++ flat_map (finding_text l.program) (take l.finding-index l.findings)
