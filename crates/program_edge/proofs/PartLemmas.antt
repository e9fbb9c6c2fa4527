-- The part of a program is what its report, or its file, gives.
use Rattle.std.proofs.Common.{◌≡◌, ◌∙◌, ap, refl, subst, sym, ℕ, Bool, false, List, [], Option, None, Result, Ok, Err, IfOk}
use Rattle.std.specs.String.{string_bytes}
use Rattle.std.specs.declared.alloc.Global.{Global}
use Rattle.std.specs.declared.string.String.{String}
use Rattle.jobs.specs.declared.job.Colors.{Colors}
use Rattle.jobs.specs.declared.job.Format.{Format}
use Rattle.jobs.specs.declared.job.Format.TheVariants.{Json, Sarif, Text}
use Rattle.jobs.specs.declared.job.Job.{Job}
use Rattle.jobs.specs.declared.job.Job.TheVariants.{Annotate, Check, Curve, Demonstrate, Explain, Print, Replay, ReplayStrictly, Run, Seq}
use Rattle.jobs.specs.declared.job.Texts.{Texts}
use Rattle.jobs.specs.declared.job.Warnings.{Warnings}
use Rattle.explain_report.specs.Explained.{IsExplainReport}
use Rattle.report_texts.specs.OutputTexts.{Report}
use Rattle.verdict_report.specs.JobTexts.{IsReportOf}
use Rattle.verdict_report.specs.declared.fault.ServeFault.{ServeFault}
use Rattle.program_edge.specs.declared.part.Part.{Part as Made}
use Rattle.program_edge.specs.declared.summary.ProgramVerdict.{ProgramVerdict}
use Rattle.program_edge.specs.Several.{IsJobFor, IsJudged, IsPartOfText, IsPartWith, Part, seen}
use Rattle.program_edge.specs.Summaries.{judged_by}

-- the part by the job for the program's own name is that by the job that was asked for
same_said : (t : Bool) (first own : String Global) (certificate script : Option (String Global)) (warnings : Warnings) (format : Format) (colors : Colors) (report : Report) (part : Part)
    → IsPartWith t (Explain own None None warnings format colors) report part → IsPartWith t (Explain first certificate script warnings format colors) report part
same_said t first own certificate script warnings Text colors report part h = record { output = h.output; silent = h.silent; judged = h.judged }
same_said t first own certificate script warnings Sarif colors report part h = record { output = h.output; silent = h.silent; judged = h.judged }
same_said t first own certificate script warnings Json colors report part h = record { output = h.output; silent = h.silent; judged = h.judged }

reported : (t : Bool) (asked own : Job) (name : List ℕ) (texts : Texts) (r : Result Made ServeFault) → IsJobFor asked name own
    → ((report : Report) (part : Part) → IsPartWith t own report part → IsPartWith t asked report part)
    → IfOk r (λ made. (report : Report) × IsReportOf own texts report × IsPartWith t own report (seen made))
    → IfOk r (λ made. texts.certificate ≡ [] → texts.script.items ≡ [] → IsJudged t asked name texts.program.items (seen made))
reported t asked own name texts (Ok made) for_it same h = λ certificate script. record {
  job = own;
  own = for_it;
  texts = texts;
  alone = (refl, certificate, script);
  report = h.0;
  right = h.1;
  said = same h.0 (seen made) h.2;
}
reported t asked own name texts (Err fault) for_it same h = tt

pub reported_explained : (t : Bool) (asked : Job) (first own : String Global) (certificate script : Option (String Global)) (warnings : Warnings) (format : Format) (colors : Colors) (name : List ℕ) (texts : Texts) (r : Result Made ServeFault)
    → asked ≡ Explain first certificate script warnings format colors → string_bytes own ≡ name
    → IfOk r (λ made. (report : Report) × IsReportOf (Explain own None None warnings format colors) texts report × IsPartWith t (Explain own None None warnings format colors) report (seen made))
    → IfOk r (λ made. texts.certificate ≡ [] → texts.script.items ≡ [] → IsJudged t asked name texts.program.items (seen made))
reported_explained t asked first own certificate script warnings format colors name texts r is named h =
    subst (λ (job : Job). IfOk r (λ made. texts.certificate ≡ [] → texts.script.items ≡ [] → IsJudged t job name texts.program.items (seen made))) (sym is)
    (reported t (Explain first certificate script warnings format colors) (Explain own None None warnings format colors) name texts r (own, refl, named)
    (λ report part. same_said t first own certificate script warnings format colors report part) h)

job_itself : (asked : Job) (name : List ℕ) → ((first : String Global) (certificate script : Option (String Global)) (warnings : Warnings) (format : Format) (colors : Colors) → asked ≡ Explain first certificate script warnings format colors → ⊥)
    → IsJobFor asked name asked
job_itself (Explain first certificate script warnings format colors) name other = absurd (other first certificate script warnings format colors refl)
job_itself (Seq budget) name other = refl
job_itself (Print listing) name other = refl
job_itself (Annotate emit) name other = refl
job_itself (Check source workers format) name other = refl
job_itself (Replay source units emit until) name other = refl
job_itself (ReplayStrictly source units complete format) name other = refl
job_itself (Run source schedule units workers budget predict emit) name other = refl
job_itself (Curve source units budget predict emit) name other = refl
job_itself (Demonstrate units steps emit) name other = refl

pub reported_itself : (t : Bool) (asked : Job) (name : List ℕ) (texts : Texts) (r : Result Made ServeFault)
    → ((first : String Global) (certificate script : Option (String Global)) (warnings : Warnings) (format : Format) (colors : Colors) → asked ≡ Explain first certificate script warnings format colors → ⊥)
    → IfOk r (λ made. (report : Report) × IsReportOf asked texts report × IsPartWith t asked report (seen made))
    → IfOk r (λ made. texts.certificate ≡ [] → texts.script.items ≡ [] → IsJudged t asked name texts.program.items (seen made))
reported_itself t asked name texts r other h = reported t asked asked name texts r (job_itself asked name other) (λ report part same. same) h

-- neither stream gets anything of a program that a log has
abbrev part_with : (output errors : List ℕ) → ProgramVerdict → Part
part_with output errors judged = record { output = output; errors = errors; judged = judged }

pub silent_part : (output errors : List ℕ) (judged : ProgramVerdict) (status : ℕ) → output ≡ [] → errors ≡ [] → judged ≡ judged_by status
    → part_with output errors judged ≡ part_with [] [] (judged_by status)
silent_part output errors judged status p q r = ap (λ (l : List ℕ). part_with l errors judged) p
    ∙ ap (λ (l : List ℕ). part_with [] l judged) q ∙ ap (λ (j : ProgramVerdict). part_with [] [] j) r

-- a program that a log has
pub logged : (t : Bool) (asked : Job) (first own : String Global) (certificate script : Option (String Global)) (warnings : Warnings) (format : Format) (colors : Colors) (name : List ℕ) (texts : Texts) (r : Result Made ServeFault)
    → asked ≡ Explain first certificate script warnings format colors → format ≡ Sarif → string_bytes own ≡ name
    → IfOk r (λ made. (report : Report) × IsExplainReport None None warnings texts.program.items texts.certificate texts.script.items report
    × ◌≡◌ {A = Part} (seen made) (record { output = []; errors = []; judged = judged_by report.status }))
    → IfOk r (λ made. texts.certificate ≡ [] → texts.script.items ≡ [] → IsJudged t asked name texts.program.items (seen made))
logged t asked first own certificate script warnings format colors name texts (Ok made) is log named h = λ none empty. record {
  job = Explain own None None warnings Sarif colors;
  own = subst (λ (job : Job). IsJobFor job name (Explain own None None warnings Sarif colors)) (sym is)
      (own, ap (λ (f : Format). Explain own None None warnings f colors) (sym log), named);
  texts = texts;
  alone = (refl, none, empty);
  report = h.0;
  right = h.1;
  said = subst (λ (job : Job). IsPartWith t job h.0 (seen made)) (sym (is ∙ ap (λ (f : Format). Explain first certificate script warnings f colors) log)) (record {
    output = ap (λ (p : Part). p.output) h.2;
    silent = λ _. ap (λ (p : Part). p.errors) h.2;
    judged = ap (λ (p : Part). p.judged) h.2;
  });
}
logged t asked first own certificate script warnings format colors name texts (Err fault) is log named h = tt

-- a text that is not taken for a certificate is judged
pub text_judged : (t : Bool) (asked : Job) (name text : List ℕ) (b : Bool) (certificate script : List ℕ) (r : Result Made ServeFault)
    → b ≡ false → certificate ≡ [] → script ≡ []
    → IfOk r (λ made. certificate ≡ [] → script ≡ [] → IsJudged t asked name text (seen made))
    → IfOk r (λ made. IsPartOfText b t asked name text (seen made))
text_judged t asked name text b certificate script (Ok made) is none empty h =
    subst (λ (x : Bool). IsPartOfText x t asked name text (seen made)) (sym is) (h none empty)
text_judged t asked name text b certificate script (Err fault) is none empty h = tt
