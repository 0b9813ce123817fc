-- What a line of a log has done.
use Rattle.std.proofs.Common.{◌≡◌, ℕ, List, [], ◌++◌, inl, inr, refl, sym, ap, subst, append-nil}
use Rattle.std.specs.Prelude.{Option, None, Result, Ok, Err, OnOk}
use Rattle.host_io.specs.Lines.{IsPassedOver}
use Rattle.host_io.specs.Past.{Always, Past}
use Rattle.log_lines.specs.Replies.{reply_text}
use Rattle.log_lines.specs.Spelling.{SpellsCommand}
use Rattle.log_lines.specs.declared.command.Command.{Command}
use Rattle.log_lines.specs.declared.command.Command.TheVariants as c
use Rattle.log_lines.proofs.OneMeaning.{fields_of_line}
use Rattle.log_lines.proofs.Percents.{percent}
use Rattle.manager.specs.Step.{HasPercent}
use Rattle.grammar.specs.declared.fault.LineFault.{LineFault}
use Rattle.log_lines.specs.declared.reply.Reply.{Reply}
use Rattle.session_saves.specs.Events.{IsEvent}
use Rattle.session.specs.Folders.{IsEventLine, MayPublish, Turn}
use Rattle.session_saves.specs.Files.{published}
use Rattle.session_saves.specs.Folders.{AtMost}
use Rattle.session.specs.Inside.{Carried}
use Rattle.session.specs.State.{SessionState, file_now}
use Rattle.session_saves.proofs.Effects.{still_moments}
use Rattle.session.proofs.Effects.{may_publish}

-- a line that is passed over
pub passed : (old : SessionState) (line items : List ℕ) (past : Option Past) (f : ℕ) → IsPassedOver line
    → (text : List ℕ) × Turn old line text old past past f f × (items ≡ items ++ text)
passed old line items past f is =
    ([], record { ended = None; step = inl (is, refl, refl, refl); has = tt; moments = still_moments past }, sym (append-nil items))

-- a command that was carried out, where the states are known by their parts
pub turned : (parts old new : SessionState) (line : List ℕ) (asked : Command) (answer : Reply) (before after : Option Past) (f g : ℕ)
    → parts ≡ old → SpellsCommand line asked → Carried parts asked answer new after f g
    → Always before after (AtMost (published (file_now parts) parts.job asked))
    → Turn old line (reply_text answer) new before after f g
turned parts old new line asked answer before after f g same spelled done always =
    subst (λ s. Turn s line (reply_text answer) new before after f g) same
    (record { ended = done.ended; step = inr (asked, answer, spelled, done.step, refl); has = done.has; moments = always })

-- what a crash may leave after it, where the state before it is known by its parts
pub moments : (parts old : SessionState) (line : List ℕ) (asked : Command) (before after : Option Past) → parts ≡ old → SpellsCommand line asked
    → Always before after (AtMost (published (file_now parts) parts.job asked))
    → (file : Option (List ℕ)) × MayPublish old line file × Always before after (AtMost file)
moments parts old line asked before after same spelled always =
    subst (λ s. (file : Option (List ℕ)) × MayPublish s line file × Always before after (AtMost file)) same
    (published (file_now parts) parts.job asked, may_publish parts line asked _ spelled refl, always)

-- a line that is no event leaves the folder as it was
pub still : {X : Type 0} (parts old : SessionState) (line : List ℕ) (asked : Command) (before after : X) → parts ≡ old → SpellsCommand line asked
    → (¬ IsEvent parts.job asked → after ≡ before) → ¬ IsEventLine old line → after ≡ before
still parts old line asked before after same spelled by =
    subst (λ s. ¬ IsEventLine s line → after ≡ before) same (λ no. by (λ event. no (asked, spelled, event)))

fault_in : {T : Type 0} → LineFault → Result T LineFault → LineFault
fault_in fault (Ok x) = fault
fault_in fault (Err e) = e

-- a fault of one result is that of another
pub same_fault : {A B : Type 0} (e f : LineFault) → ◌≡◌ {A = Result A LineFault} (Err e) (Err f)
    → ◌≡◌ {A = Result B LineFault} (Err e) (Err f)
unfolding fault_in
same_fault {A = A} {B = B} e f is = ap fault_of (ap (fault_in e) is)
  where
    fault_of : LineFault → Result B LineFault
    fault_of x = Err x

pub no_fault : {A : Type 0} (x : A) (f : LineFault) → ◌≡◌ {A = Result A LineFault} (Ok x) (Err f) → ⊥
no_fault x f e = cc e

-- what is known of each line, of one
pub for_line : {T E A B : Type 0} (result : Result T E) → (A → B) → OnOk result A → OnOk result B
for_line (Ok x) of told = of told
for_line (Err e) of told = tt

-- a line that parses as a command has a percentage of at most 100
pub has_percent : (line : List ℕ) (command : Command) → SpellsCommand line command → HasPercent command
has_percent line (c.Sample max pct classes words) h = percent h.1 max pct classes words (fields_of_line line (c.Sample max pct classes words) h)
has_percent line other h = tt
