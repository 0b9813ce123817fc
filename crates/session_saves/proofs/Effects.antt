-- What each save event has done.
use Rattle.std.proofs.Common.{◌≡◌, ℕ, List, [], ◌++◌, length, take, inl, refl, sym, ◌∙◌, subst}
use Rattle.std.specs.Prelude.{Option, Some, None, IfSome, ◌≢◌, true, false}
use Rattle.std.specs.Option.{option_map}
use Rattle.host_io.specs.Calls.{IsSaveOf, OnlyCalls}
use Rattle.host_io.specs.Disk.{Disk, MayHave}
use Rattle.host_io.specs.Faults.{Rose}
use Rattle.host_io.specs.Past.{Past, Always}
use Rattle.host_io.specs.declared.call.Action.{Action}
use Rattle.host_io.specs.declared.name.Name.{Name}
use Rattle.host_io.specs.declared.name.Name.TheVariants.{Peers, PeersTemp}
use Rattle.host_io.proofs.Moments.{begun as nothing_since, joined}
use Rattle.log_lines.specs.declared.command.Command.{Command}
use Rattle.log_lines.specs.declared.command.Command.TheVariants as command
use Rattle.log_lines.specs.declared.reply.Reply.TheVariants.{Begun, NotSaved, Saved, Stepped}
use Rattle.save_store.specs.Job.{Job, ReadsAs, whole}
use Rattle.save_store.specs.Saves.{IsStored, KeepsOthers, PublishesOrNot}
use Rattle.session_saves.specs.Events.{after_step, begun, event_of, save, save_begin, save_end, save_step}
use Rattle.session_saves.specs.Events.Ended.{Saved as was_saved, NotSaved as was_not}
use Rattle.session_saves.specs.Files.{published}
use Rattle.session_saves.specs.Folders.{AtMost, Effect}

IsPeers : Name → Type 0
IsPeers Peers = Unit {0}
IsPeers n = ⊥

pub peers_apart : Peers ≢ PeersTemp
unfolding IsPeers
peers_apart e = subst IsPeers e tt

-- the calls of a save, where the temporary name is known
pub asks_of : (t : Name) (a b : Option (List Action)) → t ≡ PeersTemp → OnlyCalls (IsSaveOf t Peers) a b
    → OnlyCalls (IsSaveOf PeersTemp Peers) a b
asks_of t a b is = subst (λ temp. OnlyCalls (IsSaveOf temp Peers) a b) is

-- if it cannot be that a save is open, none is
pub is_none : (job : Option Job) → ¬ (job ≢ None) → job ≡ None
is_none None apart = refl
is_none (Some j) apart = absurd (apart (λ e. cc e))

no_file : (start d : Disk) → KeepsOthers PeersTemp start d → AtMost None start d
no_file start d kept = record {
  at = λ found may. inl (subst (λ entry. MayHave entry found) (kept Peers peers_apart) may);
  others = λ n t m found may. subst (λ entry. MayHave entry found) (kept n t) may;
}

-- the temporary file alone was written
pub kept_moments : (old new : Option Past) → Always old new (KeepsOthers PeersTemp) → Always old new (AtMost None)
kept_moments old new always =
    joined (KeepsOthers PeersTemp) (KeepsOthers PeersTemp) (AtMost None) old new new always
    (nothing_since (KeepsOthers PeersTemp) new (λ d n a. refl)) no_file
    (λ start d e kept same. no_file start e (λ n a. same n a ∙ kept n a))

-- nothing was called
pub still_moments : (old : Option Past) → Always old old (AtMost None)
still_moments old = nothing_since (AtMost None) old (λ d. record { at = λ found may. inl may; others = λ n t m found may. may })

pub save_begun : (file : List ℕ) (n : ℕ) (b : Job) (old new : Option Past) (f g : ℕ) → b ≡ begun file → n ≡ length file
    → Always old new (KeepsOthers PeersTemp) → ReadsAs PeersTemp [] new
    → Effect (save_begin file None) None (Begun n) (Some b) old new f g
save_begun file n b old new f g is size always reads =
    subst (λ m. Effect (save_begin file None) None (Begun m) (Some b) old new f g) (sym size) (
    subst (λ j. Effect (save_begin file None) None (Begun (length file)) (Some j) old new f g) (sym is) (record {
      ended = None;
      step = (true, refl, refl, refl);
      has = tt;
      moments = kept_moments old new always;
      is_open = (refl, reads);
    }))

pub begin_failed : (file : List ℕ) (old new : Option Past) (f g : ℕ) → Always old new (KeepsOthers PeersTemp) → Rose f g
    → Effect (save_begin file None) None NotSaved None old new f g
begin_failed file old new f g always rose = record {
  ended = Some (was_not file);
  step = (false, refl, refl, refl);
  has = rose;
  moments = kept_moments old new always;
  is_open = tt;
}

pub save_stepped : (n left : ℕ) (job : Option Job) (j b : Job) (old new : Option Past) (f g : ℕ)
    → job ≡ Some j → j.temp ≡ PeersTemp → b ≡ after_step j n → left ≡ length b.left
    → Always old new (KeepsOthers j.temp) → ReadsAs j.temp (j.written ++ take n j.left) new
    → Effect (save_step n job) None (Stepped left) (Some b) old new f g
save_stepped n left job j b old new f g some temp is size always reads =
    subst (λ o. Effect (save_step n o) None (Stepped left) (Some b) old new f g) (sym some) (
    subst (λ m. Effect (save_step n (Some j)) None (Stepped m) (Some b) old new f g) (sym size) (
    subst (λ c. Effect (save_step n (Some j)) None (Stepped (length c.left)) (Some c) old new f g) (sym is) (record {
      ended = None;
      step = (true, refl, refl, refl);
      has = tt;
      moments = kept_moments old new (subst (λ t. Always old new (KeepsOthers t)) temp always);
      is_open = (temp, subst (λ t. ReadsAs t (j.written ++ take n j.left) new) temp reads);
    })))

pub step_failed : (n : ℕ) (job : Option Job) (j : Job) (old new : Option Past) (f g : ℕ) → job ≡ Some j
    → j.temp ≡ PeersTemp → Always old new (KeepsOthers j.temp) → Rose f g
    → Effect (save_step n job) None NotSaved None old new f g
step_failed n job j old new f g some temp always rose =
    subst (λ o. Effect (save_step n o) None NotSaved None old new f g) (sym some) (record {
      ended = Some (was_not (whole j));
      step = (false, refl, refl, refl);
      has = rose;
      moments = kept_moments old new (subst (λ t. Always old new (KeepsOthers t)) temp always);
      is_open = tt;
    })

pub whole_saved : (file : List ℕ) (old new : Option Past) (f g : ℕ) → Always old new (PublishesOrNot PeersTemp Peers file)
    → IfSome new (λ p. IsStored Peers file p.now) → Effect (save file None) (Some file) Saved None old new f g
whole_saved file old new f g always stored = record {
  ended = Some (was_saved file);
  step = (true, refl, refl, refl);
  has = stored;
  moments = always;
  is_open = tt;
}

pub whole_failed : (file : List ℕ) (old new : Option Past) (f g : ℕ) → Always old new (PublishesOrNot PeersTemp Peers file)
    → Rose f g → Effect (save file None) (Some file) NotSaved None old new f g
whole_failed file old new f g always rose = record {
  ended = Some (was_not file);
  step = (false, refl, refl, refl);
  has = rose;
  moments = always;
  is_open = tt;
}

pub job_saved : (job : Option Job) (j : Job) (old new : Option Past) (f g : ℕ) → job ≡ Some j
    → j.temp ≡ PeersTemp → Always old new (PublishesOrNot j.temp Peers (whole j))
    → IfSome new (λ p. IsStored Peers (whole j) p.now) → Effect (save_end job) (option_map whole job) Saved None old new f g
job_saved job j old new f g some temp always stored =
    subst (λ o. Effect (save_end o) (option_map whole o) Saved None old new f g) (sym some) (record {
      ended = Some (was_saved (whole j));
      step = (true, refl, refl, refl);
      has = stored;
      moments = subst (λ t. Always old new (PublishesOrNot t Peers (whole j))) temp always;
      is_open = tt;
    })

pub job_failed : (job : Option Job) (j : Job) (old new : Option Past) (f g : ℕ) → job ≡ Some j
    → j.temp ≡ PeersTemp → Always old new (PublishesOrNot j.temp Peers (whole j)) → Rose f g
    → Effect (save_end job) (option_map whole job) NotSaved None old new f g
job_failed job j old new f g some temp always rose =
    subst (λ o. Effect (save_end o) (option_map whole o) NotSaved None old new f g) (sym some) (record {
      ended = Some (was_not (whole j));
      step = (false, refl, refl, refl);
      has = rose;
      moments = subst (λ t. Always old new (PublishesOrNot t Peers (whole j))) temp always;
      is_open = tt;
    })

-- a command that is none of the four is no event, and publishes no file
pub no_event : (file : List ℕ) (job : Option Job) (asked : Command) → asked ≢ command.Save → asked ≢ command.SaveBegin
    → ((n : ℕ) → asked ≢ command.SaveStep n) → asked ≢ command.SaveEnd
    → (event_of file job asked ≡ None) × (published file job asked ≡ None)
no_event file job command.Save whole_save begins steps ends = absurd (whole_save refl)
no_event file job command.SaveBegin whole_save begins steps ends = absurd (begins refl)
no_event file job (command.SaveStep n) whole_save begins steps ends = absurd (steps n refl)
no_event file job command.SaveEnd whole_save begins steps ends = absurd (ends refl)
no_event file job other whole_save begins steps ends = (refl, refl)
