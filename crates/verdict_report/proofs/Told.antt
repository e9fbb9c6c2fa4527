-- Where what a replay leads to is right: by the certificate, and by the events.
use Rattle.std.proofs.Common.{◌≡◌, ◌∙◌, ◌⊎◌, inl, inr, ℕ, true, false, List, [], Option, Result, Ok, Err, IfOk, append-nil, refl, sym, ap, subst}
use Rattle.std.specs.Prelude.{IfErr}
use Rattle.std.specs.Io.KnownBytes.{Keeps}
use Rattle.std.specs.declared.alloc.AllocError.{AllocError}
use Rattle.std.proofs.lemmas.Bool.{false≢true}
use Rattle.task_descriptor.specs.Listing.{Listing}
use Rattle.machine_model.specs.Answer.{play}
use Rattle.machine_model.specs.declared.event.Event.{Event}
use Rattle.event_script.specs.declared.fault.ScriptFault.{ScriptFault}
use Rattle.jobs.specs.declared.job.CertificateSource.{CertificateSource}
use Rattle.jobs.specs.declared.job.CertificateSource.TheVariants.{File, Least}
use Rattle.jobs.specs.declared.job.ReplayEmit.{ReplayEmit}
use Rattle.jobs.specs.declared.job.ReplayEmit.TheVariants as emit
use Rattle.report_texts.specs.OutputTexts.{Report}
use Rattle.report_texts.specs.CertificateTexts.{OfCertificate}
use Rattle.report_texts.specs.JudgedTexts.{Judgement, judgement}
use Rattle.verdict_report.specs.declared.replay_form.ToldForm.{ToldForm}
use Rattle.verdict_report.specs.declared.replay_form.ToldForm.TheVariants as told
use Rattle.verdict_report.specs.declared.replaying.Prepared.{Prepared}
use Rattle.verdict_report.specs.declared.replaying.Prepared.TheVariants.{Whole, Told}
use Rattle.result_files.specs.Writing.{Grows}
use Rattle.verdict_report.specs.declared.fault.ServeFault.{ServeFault}
use Rattle.verdict_report.specs.declared.fault.ServeFault.TheVariants as serve
use Rattle.verdict_report.specs.Delivering.{IsAdded, IsBegun, is_cut}
use Rattle.verdict_report.specs.MachineText.{standing_status}
use Rattle.verdict_report.specs.Playing.{told_emit}
use Rattle.verdict_report.specs.Prepared.{LeadsTo, told_status}
use Rattle.verdict_report.specs.ReplayText.{IsScriptReport, first_events}

-- what holds of a judgement holds of that of the program by its certificate
pub carried : (source : CertificateSource) (program file : List ℕ) (j : Judgement) (Holds : Judgement → Type 0)
    → OfCertificate source program file (λ certificate. j ≡ judgement program certificate) → Holds j
    → OfCertificate source program file (λ certificate. Holds (judgement program certificate))
carried File program file j Holds is h = subst Holds is h
carried Least program file j Holds (kept, of, is) h = (kept, of, subst Holds is h)

lifted : (P Q : Report → Type 0) (units : ℕ) → ((report : Report) → P report → Q report)
    → (prepared : Prepared) → LeadsTo P units prepared → LeadsTo Q units prepared
lifted P Q units on (Whole report) h = on report h
lifted P Q units on (Told form accepted events) h = λ report is. on report (h report is)

pub all_told : (r : Result Prepared AllocError) (P Q : Report → Type 0) (units : ℕ) → ((report : Report) → P report → Q report)
    → IfOk r (LeadsTo P units) → IfOk r (LeadsTo Q units)
all_told (Ok prepared) P Q units on h = lifted P Q units on prepared h
all_told (Err lack) P Q units on h = tt

-- What was written of events is a report, or a beginning of one.

abbrev IsAny : (Right : Report → Type 0) → (units : ℕ) → Listing → List Event → Type 0
IsAny Right units p events = (report : Report) → report.status ≡ told_status units p events → Right report

pub told_done : (r : Result ℕ ServeFault) (Right : Report → Type 0) (units : ℕ) (p : Listing) (events : List Event) (old new : Option (List ℕ)) → IsAny Right units p events
    → IfOk r (λ status. status ≡ told_status units p events) → Grows old new → IfOk r (λ status. IsAdded Right status old new)
told_done (Ok status) Right units p events old new any is grew =
    record { report = record { bytes = grew.0; status = status }; right = any (record { bytes = grew.0; status = status }) is; answered = refl; written = grew.1 }
told_done (Err fault) Right units p events old new any is grew = tt

is_one : (fault : ServeFault) → (fault ≡ serve.Write) ⊎ (fault ≡ serve.PartWritten) → is_cut fault ≡ false → ⊥
is_one fault (inl e) whole = false≢true (sym whole ∙ ap is_cut e)
is_one fault (inr e) whole = false≢true (sym whole ∙ ap is_cut e)

pub told_nothing : (r : Result ℕ ServeFault) (old new : Option (List ℕ)) → IfErr r (λ fault. (fault ≡ serve.Write) ⊎ (fault ≡ serve.PartWritten))
    → IfErr r (λ fault. is_cut fault ≡ false → Keeps old new)
told_nothing (Ok status) old new cut = tt
told_nothing (Err fault) old new cut = λ whole. absurd (is_one fault cut whole)

pub told_begun : (r : Result ℕ ServeFault) (Right : Report → Type 0) (units : ℕ) (p : Listing) (events : List Event) (old new : Option (List ℕ)) → IsAny Right units p events
    → Grows old new → IfErr r (λ fault. is_cut fault ≡ true → IsBegun Right old new)
told_begun (Ok status) Right units p events old new any grew = tt
told_begun (Err fault) Right units p events old new any grew = λ cut.
    record {
      report = record { bytes = grew.0; status = told_status units p events };
      right = any (record { bytes = grew.0; status = told_status units p events }) refl;
      begun = record { written = grew.0; left = []; parts = sym (append-nil grew.0); added = grew.1 };
    }
