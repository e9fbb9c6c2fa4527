-- What becomes of a job.
use Rattle.std.proofs.Common.{◌≡◌, ◌∙◌, ap, ap₂, subst, sym, inl, inr, refl, ℕ, Bool, false, true, List, [], ◌⊎◌, ◌||◌, append-nil}
use Rattle.std.specs.Prelude.{None, Option}
use Rattle.std.specs.declared.alloc.Global.{Global}
use Rattle.std.specs.declared.string.String.{String}
use Rattle.std.proofs.KnownBytes.{Keeps-refl}
use Rattle.std.proofs.lemmas.Bool.{false≢true}
use Rattle.jobs.specs.declared.job.Colors.{Colors}
use Rattle.jobs.specs.declared.job.Format.{Format}
use Rattle.jobs.specs.declared.job.Job.{Job}
use Rattle.jobs.specs.declared.job.Job.TheVariants.{Seq, Print, Annotate, Explain, Check, Replay, ReplayStrictly, Run, Curve, Demonstrate}
use Rattle.jobs.specs.declared.job.Texts.{Texts}
use Rattle.jobs.specs.declared.job.Warnings.{Warnings}
use Rattle.report_texts.specs.OutputTexts.{Report}
use Rattle.explain_report.specs.LeftOvers.{IsLeftOver}
use Rattle.explain_report.specs.declared.proposal.LeftOver.{LeftOver}
use Rattle.verdict_report.specs.Delivering.{is_cut}
use Rattle.verdict_report.specs.JobTexts.{IsDone, IsReportOf}
use Rattle.verdict_report.specs.declared.fault.ServeFault.{ServeFault}
use Rattle.verdict_report.specs.declared.fault.ServeFault.TheVariants as serve
use Rattle.result_files.specs.Files.{Same}
use Rattle.shown_names.specs.Shown.{shown as shown_name}
use Rattle.program_edge.specs.declared.fault.Fault.TheVariants.{Serve}
use Rattle.program_edge.specs.declared.told.Answered.{Answered}
use Rattle.program_edge.specs.Answering.{IsDelivered, IsFixed, IsGiven, IsNotDone, IsRepairDelivered, IsServed}
use Rattle.program_edge.specs.Beside.{Audience, IsRest, is_played, rest_said}
use Rattle.program_edge.specs.Hints.{IsHint, IsSaid}
use Rattle.program_edge.specs.Streams.{IsToldAlone, World}
use Rattle.program_edge.specs.Telling.{IsTold}

-- a text that was cut is explained alone
pub cut_alone : (whole progress watched : Bool) (audience : Audience) (path : String Global) (job : Job) (texts : Texts) (ending : Answered) (old new : World)
    → whole ≡ false → IsServed progress watched audience None job texts ending old new
    → IsFixed whole progress watched audience path job texts ending old new
cut_alone false progress watched audience path job texts ending old new is h = h
cut_alone true progress watched audience path job texts ending old new is h = absurd (cc)

-- a program was explained, and its text with fixes delivered
pub explained_fixed : (whole progress watched : Bool) (audience : Audience) (path : String Global) (job : Job) (name : String Global) (certificate script : Option (String Global)) (warnings : Warnings) (format : Format) (colors : Colors) (texts : Texts) (ending : Answered) (old new : World)
    → whole ≡ true → job ≡ Explain name certificate script warnings format colors
    → IsRepairDelivered watched path certificate script warnings texts ending old new ⊎ IsToldAlone (Serve serve.OutOfMemory) ending old new
    → IsFixed whole progress watched audience path job texts ending old new
explained_fixed whole progress watched audience path job name certificate script warnings format colors texts ending old new is explains h =
    subst (λ (b : Bool). IsFixed b progress watched audience path job texts ending old new) (sym is)
    (subst (λ (j : Job). IsFixed true progress watched audience path j texts ending old new) (sym explains) h)

-- another job is done as ever
pub other_alone : (whole progress watched : Bool) (audience : Audience) (path : String Global) (job : Job) (texts : Texts) (ending : Answered) (old new : World)
    → ((name : String Global) (certificate script : Option (String Global)) (warnings : Warnings) (format : Format) (colors : Colors) → job ≡ Explain name certificate script warnings format colors → ⊥)
    → IsServed progress watched audience None job texts ending old new
    → IsFixed whole progress watched audience path job texts ending old new
other_alone false progress watched audience path job texts ending old new other h = h
other_alone true progress watched audience path (Explain name certificate script warnings format colors) texts ending old new other h =
    absurd (other name certificate script warnings format colors refl)
other_alone true progress watched audience path (Seq budget) texts ending old new other h = h
other_alone true progress watched audience path (Print listing) texts ending old new other h = h
other_alone true progress watched audience path (Annotate emit) texts ending old new other h = h
other_alone true progress watched audience path (Check source workers format) texts ending old new other h = h
other_alone true progress watched audience path (Replay source units emit until) texts ending old new other h = h
other_alone true progress watched audience path (ReplayStrictly source units complete format) texts ending old new other h = h
other_alone true progress watched audience path (Run source schedule units workers budget predict emit) texts ending old new other h = h
other_alone true progress watched audience path (Curve source units budget predict emit) texts ending old new other h = h
other_alone true progress watched audience path (Demonstrate units steps emit) texts ending old new other h = h

-- what a replay tells of events leaves nothing to mend
played_leaves : (job : Job) (program name : List ℕ) (written : Report) → is_played job ≡ true → IsLeftOver job program name written None
played_leaves (Replay source units emit until) program name written h = refl
played_leaves (Annotate emit) program name written h = absurd (cc)
played_leaves (Explain own certificate script warnings format colors) program name written h = absurd (cc)
played_leaves (Seq budget) program name written h = absurd (cc)
played_leaves (Print listing) program name written h = absurd (cc)
played_leaves (Check source workers format) program name written h = absurd (cc)
played_leaves (ReplayStrictly source units complete format) program name written h = absurd (cc)
played_leaves (Run source schedule units workers budget predict emit) program name written h = absurd (cc)
played_leaves (Curve source units budget predict emit) program name written h = absurd (cc)
played_leaves (Demonstrate units steps emit) program name written h = absurd (cc)

played_rest : (heard asked : Bool) (job : Job) (program name : List ℕ) (written : Report) → is_played job ≡ true → IsRest heard asked job program name written []
played_rest false asked job program name written h = refl
played_rest true asked job program name written h = (None, played_leaves job program (shown_name name) written h, refl)

-- a report was written while it was made, and beside it its hint alone
pub streamed : (watched : Bool) (audience : Audience) (job : Job) (texts : Texts) (hint : List ℕ) (ending : Answered) (old new : World)
    → is_played job ≡ true → (done : IsDone job texts ending.status old.output new.output)
    → IsHint audience.is_terminal job ending.status hint → IsSaid hint ending.is_told old.errors new.errors
    → Same old.files new.files → IsDelivered watched audience None job texts ending old new
streamed watched audience job texts hint ending old new played done silent said same = record {
  report = done.report;
  right = done.right;
  given = record {
    beside = hint;
    told = record {
      hint = hint;
      silent = subst (λ (s : ℕ). IsHint audience.is_terminal job s hint) done.answered silent;
      rest = [];
      left = played_rest (audience.is_terminal || audience.wants_rest) audience.wants_rest job texts.program.items audience.name done.report played;
      all = sym (append-nil hint);
    };
    taker = None;
    taken = refl;
    delivery = inl (record { answered = done.answered; filed = same; written = done.written; told = said });
  };
}

-- a job that was not done for want of memory
pub not_done : (job : Job) (texts : Texts) (fault : ServeFault) (ending : Answered) (old new : World)
    → fault ≡ serve.OutOfMemory → IsTold (Serve fault) ending.status ending.is_told old.output new.output old.errors new.errors
    → Same old.files new.files → IsNotDone job texts ending old new
not_done job texts fault ending old new is told same = record {
  fault = fault;
  output = old.output;
  nothing = λ _. Keeps-refl old.output;
  begun = λ cut. absurd (false≢true (sym (ap is_cut is) ∙ cut));
  told = told;
  files = same;
}

-- a report of the job was given, or there was no memory for what is told beside it
pub given_or_not : (watched : Bool) (audience : Audience) (place : Option (String Global)) (job : Job) (texts : Texts) (report : Report) (line : List ℕ) (ending : Answered) (old new : World)
    → line ≡ [] → IsReportOf job texts report
    → IsGiven watched audience line place job texts.program.items report ending old new ⊎ IsToldAlone (Serve serve.OutOfMemory) ending old new
    → IsDelivered watched audience place job texts ending old new ⊎ IsNotDone job texts ending old new
given_or_not watched audience place job texts report line ending old new none right (inl given) = inl (record {
  report = report;
  right = right;
  given = subst (λ (l : List ℕ). IsGiven watched audience l place job texts.program.items report ending old new) none given;
})
given_or_not watched audience place job texts report line ending old new none right (inr alone) =
    inr (not_done job texts serve.OutOfMemory ending old new refl alone.0 alone.1)

abbrev report_of : List ℕ → ℕ → Report
report_of bytes status = record { bytes = bytes; status = status }

-- someone hears of what is left
pub rest_told : (heard asked : Bool) (job : Job) (program program' own name bytes : List ℕ) (status : ℕ) (written : Report) (left : Option LeftOver) (said : List ℕ)
    → heard ≡ true → program' ≡ program → name ≡ shown_name own → bytes ≡ written.bytes → status ≡ written.status
    → IsLeftOver job program' name (report_of bytes status) left → said ≡ rest_said asked left
    → IsRest heard asked job program own written said
rest_told heard asked job program program' own name bytes status written left said is text named same ended over told =
    subst (λ (b : Bool). IsRest b asked job program own written said) (sym is) (
      left,
      subst (λ (l : List ℕ). IsLeftOver job l (shown_name own) written left) text
          (subst (λ (l : List ℕ). IsLeftOver job program' l written left) named
          (subst (λ (r : Report). IsLeftOver job program' name r left) (ap₂ report_of same ended) over)),
      told,
    )
