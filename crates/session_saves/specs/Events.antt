-- The save events of a log: what each answers, and the open save after it. An event is done, or it
-- fails.
use Rattle.std.specs.Prelude.{◌≡◌, ◌≢◌, ℕ, List, [], ◌++◌, length, take, drop, Bool, true, false, Option, Some, None, IsSomeAnd}
use Rattle.host_io.specs.declared.name.Name.TheVariants.{PeersTemp}
use Rattle.log_lines.specs.declared.command.Command.{Command}
use Rattle.log_lines.specs.declared.command.Command.TheVariants as command
use Rattle.log_lines.specs.declared.reply.Reply.{Reply}
use Rattle.log_lines.specs.declared.reply.Reply.TheVariants as reply
use Rattle.save_store.specs.Job.{Job, whole}

-- a save that ended, with its file
pub data Ended : Type 0 where
  Saved : (file : List ℕ) → Ended
  NotSaved : (file : List ℕ) → Ended

-- the reply to a save event, the open save after it, and the save that ended in it
pub record Event : Type 0 where
  pub reply : Reply
  pub job : Option Job
  pub ended : Option Ended

-- The event with this reply, this open save after it, and this save that ended.
abbrev pub event : Reply → Option Job → Option Ended → Event
event answer job ended = record { reply = answer; job = job; ended = ended }

-- a save of the file of which nothing is written
abbrev pub begun : List ℕ → Job
begun file = record { temp = PeersTemp; written = []; left = file }

-- the save after n more bytes
abbrev pub after_step : Job → ℕ → Job
after_step job n = record {
  temp = job.temp;
  written = job.written ++ take n job.left;
  left = drop n job.left;
}

-- `save`: a whole save of the file
abbrev pub save : List ℕ → Option Job → Bool → Event
save file None true = event reply.Saved None (Some (Saved file))
save file None false = event reply.NotSaved None (Some (NotSaved file))
save file (Some job) done = event reply.Busy (Some job) None

-- `save-begin`: a save of the file in pieces
abbrev pub save_begin : List ℕ → Option Job → Bool → Event
save_begin file None true = event (reply.Begun (length file)) (Some (begun file)) None
save_begin file None false = event reply.NotSaved None (Some (NotSaved file))
save_begin file (Some job) done = event reply.Busy (Some job) None

-- `save-step N`: the next n bytes of the open save
abbrev pub save_step : ℕ → Option Job → Bool → Event
save_step n None done = event reply.NoSave None None
save_step n (Some job) true =
    event (reply.Stepped (length (drop n job.left))) (Some (after_step job n)) None
save_step n (Some job) false = event reply.NotSaved None (Some (NotSaved (whole job)))

-- `save-end`: the rest of the open save
abbrev pub save_end : Option Job → Bool → Event
save_end None done = event reply.NoSave None None
save_end (Some job) true = event reply.Saved None (Some (Saved (whole job)))
save_end (Some job) false = event reply.NotSaved None (Some (NotSaved (whole job)))

-- The event of a save command, by whether it is done, with the file of the tables; other commands
-- have none. `busy` and `no save` are the same either way.
abbrev pub event_of : List ℕ → Option Job → Command → Option (Bool → Event)
event_of file old command.Save = Some (save file old)
event_of file old command.SaveBegin = Some (save_begin file old)
event_of file old (command.SaveStep n) = Some (save_step n old)
event_of file old command.SaveEnd = Some (save_end old)
event_of file old other = None

-- the event was done, or it failed: the reply, the open save and the save that ended are its own
abbrev pub IsOfEvent : (Bool → Event) → Reply → Option Job → Option Ended → Type 0
IsOfEvent outcome answer job ended =
    (done : Bool) × (answer ≡ (outcome done).reply) × (job ≡ (outcome done).job)
    × (ended ≡ (outcome done).ended)

-- what a save command does to the open save, with the file of the tables
abbrev pub SaveCommand : List ℕ → Option Job → Command → Reply → Option Job → Option Ended → Type 0
SaveCommand file old asked answer new ended =
    IsSomeAnd (event_of file old asked) (λ outcome. IsOfEvent outcome answer new ended)

-- a save command that is answered neither `busy` nor `no save`
abbrev pub IsEvent : Option Job → Command → Type 0
IsEvent old command.Save = old ≡ None
IsEvent old command.SaveBegin = old ≡ None
IsEvent old (command.SaveStep n) = old ≢ None
IsEvent old command.SaveEnd = old ≢ None
IsEvent old other = ⊥
