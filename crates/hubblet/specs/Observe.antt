-- The theorem: what `observe` did, by the status that it answers.
use Rattle.std.specs.Prelude.{◌≡◌, ◌⊎◌, ℕ, ◌<◌, ◌≤◌, List, ◌++◌, length, take, Option, Some}
use Rattle.std.specs.Option.{ForSome}
use Rattle.hb_edge.specs.Shelf.{Files}
use Rattle.hb_files.specs.Files.{IsWhole, largest_file}
use Rattle.hb_files.specs.Faults.{IsFaultOf}
use Rattle.hb_files.specs.declared.fault.FileFault.{FileFault}
use Rattle.hb_files.specs.declared.fault.FileFault.TheVariants as fault
use Rattle.hb_flow.specs.declared.response.GetFlowsResponse.{GetFlowsResponse}
use Rattle.hb_observer.specs.Kept.{log_of}
use Rattle.hb_recording.specs.Recording.{Recorded, IsRecordingOf, IsBadRecord, events}
use Rattle.hb_session.specs.Openings.{Opening, opened}
use Rattle.hb_session.specs.Whole.{IsReply}
use Rattle.hb_words.specs.declared.job.Observe.{Observe}
use Rattle.hubblet.specs.declared.status.Status.{Status}
use Rattle.hubblet.specs.declared.status.Status.TheVariants.{Done, BadWords, ReadFault, WriteFault, BadRecord, NoMemory, TooLarge}

-- how the session of a job opens, over a ring that was given the events of these responses
abbrev pub opening : Observe → List GetFlowsResponse → Opening
opening job responses =
    opened job.request job.node (length (log_of job.slot (events responses))) job.capacity

-- the output of a job for a recording of these responses: the whole reply from that ring
abbrev pub IsOutput : Observe → List GetFlowsResponse → List ℕ → Type 0
IsOutput job responses output =
    IsReply (opening job responses) job.capacity (log_of job.slot (events responses)) output

-- The job's file, as it was read whole, is a recording, and this is the output for it.
pub record HasOutput (told : Option Files) (job : Observe) (output : List ℕ) : Type 0 where
  pub file : List ℕ
  pub whole : IsWhole told job.file file
  pub responses : List GetFlowsResponse
  pub recording : IsRecordingOf file responses
  pub output_is : IsOutput job responses output

-- nothing was written, and there was this fault of the job's file
abbrev pub IsRefused : Observe → Option Files → Type 0 → Option (List ℕ) → Option (List ℕ)
    → List ℕ → FileFault → Type 0
IsRefused job told read_failed before after file why =
    (file ≡ job.file) × (after ≡ before) × IsFaultOf IsBadRecord told file read_failed why

-- What the status says of a job, given the files that the shelf tells of, whether a read and a
-- write failed in this call, and what the sink held before it and holds after it. Of a shelf or a
-- sink that does not tell, nothing is said that it would have to tell.
abbrev pub Observed : Observe → Option Files → Type 0 → Type 0 → Option (List ℕ)
    → Option (List ℕ) → Status → Type 0
-- the output was written
Observed job told read_failed write_failed before after Done =
    (output : List ℕ) × HasOutput told job output
    × ForSome before (λ held. after ≡ Some (held ++ output))
-- a front of it was
Observed job told read_failed write_failed before after WriteFault =
    write_failed × (output : List ℕ) × HasOutput told job output
    × ForSome before (λ held. (count : ℕ) × (after ≡ Some (held ++ take count output)))
-- nothing was
Observed job told read_failed write_failed before after (ReadFault file) =
    IsRefused job told read_failed before after file fault.ReadFailed
Observed job told read_failed write_failed before after (TooLarge file) =
    IsRefused job told read_failed before after file fault.TooLarge
Observed job told read_failed write_failed before after (BadRecord file at) =
    IsRefused job told read_failed before after file (fault.BadRecord at)
Observed job told read_failed write_failed before after NoMemory = after ≡ before
-- this does not come
Observed job told read_failed write_failed before after BadWords = ⊥

-- What is to come of a file that the shelf tells of, where no read failed. Want of memory alone
-- is free.
pub record Completes (name file : List ℕ) (write_failed : Type 0) (status : Status) : Type 0 where
  -- a file that is too large
  pub too_large : largest_file < length file → (status ≡ TooLarge name) ⊎ (status ≡ NoMemory)
  -- one whose first frame that is not sound is bad
  pub bad_record : length file ≤ largest_file → (at : ℕ) → IsBadRecord file at
      → (status ≡ BadRecord name at) ⊎ (status ≡ NoMemory)
  -- a recording, where no write failed
  pub done : length file ≤ largest_file → (responses : List GetFlowsResponse)
      → Recorded file responses
      → (write_failed → ⊥) → (status ≡ Done) ⊎ (status ≡ NoMemory)
