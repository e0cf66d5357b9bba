-- What is to come of a file that is told follows from what each status tells.
use Rattle.std.proofs.Common.{◌≡◌, ◌⊎◌, inl, inr, ℕ, List, length, Option, Some, refl, sym, ap, subst, ◌∙◌, arith}
use Rattle.hb_edge.specs.Shelf.{Files}
use Rattle.hb_files.specs.Files.{Has}
use Rattle.hb_recording.specs.Recording.{Recorded, IsBadRecord}
use Rattle.hb_recording.proofs.Once.{place_once, recorded_not_bad}
use Rattle.hb_words.specs.Limits.{IsWithin}
use Rattle.hb_words.specs.Words.{job}
use Rattle.hb_words.specs.declared.job.Job.{Job}
use Rattle.hb_words.specs.declared.job.Job.TheVariants as means
use Rattle.hb_words.specs.declared.job.Observe.{Observe}
use Rattle.hb_words.proofs.Bounds.{job_within}
use Rattle.hubblet.specs.declared.status.Status.{Status}
use Rattle.hubblet.specs.declared.status.Status.TheVariants.{Done, BadWords, ReadFault, WriteFault, BadRecord, NoMemory, TooLarge}
use Rattle.hubblet.specs.Observe.{HasOutput, Observed, Completes}

-- the job that words mean, and its limits
pub within : (words : List (List ℕ)) (j : Job) → job words ≡ Some j → (o : Observe) × (j ≡ means.Observe o) × IsWithin o
within words (means.Observe o) is = (o, refl, job_within words o is)

-- ---- what is to come

-- two files of one name that is told
same_file : (files : Files) (name file bytes : List ℕ) → Has files name file → Has files name bytes → bytes ≡ file
same_file files name file bytes is has = let same : Some bytes ≡ Some file = sym has ∙ is in cc

-- the file has an output, so it is no larger than it may be, and a recording
output_file : (told : Option Files) (files : Files) (job : Observe) (file output : List ℕ) → told ≡ Some files → Has files job.file file
    → (has : HasOutput told job output) → has.file ≡ file
output_file told files job file output is has output_has = same_file files job.file file output_has.file has (output_has.whole.1 files is)

completes_output : (told : Option Files) (files : Files) (job : Observe) (file output : List ℕ) (write_failed : Type 0) (status : Status) → told ≡ Some files
    → Has files job.file file → HasOutput told job output → ((write_failed → ⊥) → (status ≡ Done) ⊎ (status ≡ NoMemory))
    → Completes job.file file write_failed status
completes_output told files job file output write_failed status is has output_has done =
    let same = output_file told files job file output is has output_has in
    let recorded : Recorded file output_has.responses = subst (λ (f : List ℕ). Recorded f output_has.responses) same output_has.recording.recorded in record {
      too_large = λ large. absurd (omega (arith, output_has.whole.0, ap length same, large));
      bad_record = λ _ at bad. absurd (recorded_not_bad file output_has.responses at recorded bad);
      done = λ _ _ _ sound. done sound;
    }

pub completes : (job : Observe) (told : Option Files) (files : Files) (file : List ℕ) (read_failed write_failed : Type 0) (before after : Option (List ℕ))
    (status : Status) → told ≡ Some files → Has files job.file file → (read_failed → ⊥)
    → Observed job told read_failed write_failed before after status → Completes job.file file write_failed status
completes job told files file read_failed write_failed before after Done is has sound observed =
    completes_output told files job file observed.0 write_failed Done is has observed.1 (λ _. inl refl)
completes job told files file read_failed write_failed before after WriteFault is has sound observed =
    completes_output told files job file observed.1 write_failed WriteFault is has observed.2 (λ wrote. absurd (wrote observed.0))
completes job told files file read_failed write_failed before after (ReadFault name) is has sound observed = absurd (sound observed.2)
completes job told files file read_failed write_failed before after (TooLarge name) is has sound observed =
    let told_large = observed.2 files is in
    let same : told_large.0 ≡ file = same_file files job.file file told_large.0 has (subst (λ (n : List ℕ). Has files n told_large.0) observed.0 told_large.1) in record {
      too_large = λ _. inl (ap TooLarge observed.0);
      bad_record = λ short _ _. absurd (omega (arith, short, ap length same, told_large.2));
      done = λ short _ _ _. absurd (omega (arith, short, ap length same, told_large.2));
    }
completes job told files file read_failed write_failed before after (BadRecord name at) is has sound observed =
    let told_bad = observed.2 files is in
    let same : told_bad.0 ≡ file = same_file files job.file file told_bad.0 has (subst (λ (n : List ℕ). Has files n told_bad.0) observed.0 told_bad.1) in
    let bad : IsBadRecord file at = subst (λ (f : List ℕ). IsBadRecord f at) same told_bad.3 in record {
      too_large = λ large. absurd (omega (arith, told_bad.2, ap length same, large));
      bad_record = λ _ there there_bad. inl (ap (λ (n : List ℕ). BadRecord n at) observed.0 ∙ ap (BadRecord job.file) (place_once file at there bad there_bad));
      done = λ _ responses recorded _. absurd (recorded_not_bad file responses at recorded bad);
    }
completes job told files file read_failed write_failed before after NoMemory is has sound observed = record {
  too_large = λ _. inr refl;
  bad_record = λ _ _ _. inr refl;
  done = λ _ _ _ _. inr refl;
}
completes job told files file read_failed write_failed before after BadWords is has sound observed = absurd observed
