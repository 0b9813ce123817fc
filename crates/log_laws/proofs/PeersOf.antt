-- A command keeps the peers of numbers, and only messages give new numbers.
use Rattle.std.proofs.Common.{ℕ, ◌≤◌, List, [], ◌∷◌, Option, Some, None, refl, ap, ◌∙◌, inl, inr, ◌⊎◌, arith}
use Rattle.net_addr.specs.Address.{Address}
use Rattle.net_addr.specs.declared.peer.Entry.{Entry}
use Rattle.peer_rec.specs.declared.rec.Rec.{Rec}
use Rattle.log_lines.specs.declared.command.Command.{Command}
use Rattle.log_lines.specs.declared.command.Command.TheVariants as command
use Rattle.log_lines.specs.declared.reply.Reply.{Reply}
use Rattle.manager.specs.Machine.{Machine}
use Rattle.taking.specs.Messages.{clamp_time, message_penalty, take_entries, take_entry}
use Rattle.manager.specs.Step.{Step}
use Rattle.table_machine.specs.State.{State}
use Rattle.table_machine.specs.Clashes.{resolve}
use Rattle.table_machine.specs.Tried.{good}
use Rattle.table_machine.proofs.Folds.{KeepsNumbers, resolve-keeps_numbers}
use Rattle.table_machine.proofs.Kept.{KeepsPeers, add-keeps_peers, good-keeps_peers}
use Rattle.table_machine.proofs.Rest.{add-rest}
use Rattle.table_machine.proofs.Unchanged.{good-next}
use Rattle.log_laws.proofs.StepKinds.{Kind, kind_of}
use Rattle.log_laws.proofs.StepKinds.Kind.{Decides, Keeps, Succeeds, Takes, Takes2}
use Rattle.log_laws.specs.LostLines.{IsMessage}

pub same : (st : State) → KeepsPeers st st
same st q c low = (q, c, refl, refl)

chain : (old mid new : State) → KeepsPeers old mid → old.next_number ≤ mid.next_number → KeepsPeers mid new → KeepsPeers old new
chain old mid new first grows second q c low =
    let h = second q c (omega (arith, low, grows)) in
    let number = h.2 in
    let g = first h.0 h.1 (omega (arith, number, low)) in
    (g.0, g.1, g.2 ∙ h.2, g.3 ∙ h.3)

entry_keeps : (st : State) (now : ℕ) (entry : Option Entry) (source : Address) (word : ℕ)
    → KeepsPeers st (take_entry st now entry source word).state × (st.next_number ≤ (take_entry st now entry source word).state.next_number)
entry_keeps st now None source word = (same st, omega arith)
entry_keeps st now (Some entry) source word =
    let e = clamp_time entry now in
    (add-keeps_peers st now e source message_penalty word, (add-rest st now e source message_penalty word).least)

entries_keep : (st : State) (now : ℕ) (entries : List (Option Entry)) (source : Address) (words : List ℕ) → KeepsPeers st (take_entries st now entries source words).state
entries_keep st now [] source words = same st
entries_keep st now (entry ∷ entries) source [] = same st
entries_keep st now (entry ∷ entries) source (word ∷ words) =
    let one = entry_keeps st now entry source word in
    let next = (take_entry st now entry source word).state in
    chain st next (take_entries next now entries source words).state one.0 one.1 (entries_keep next now entries source words)

pub command_keeps : (old : Machine) (asked : Command) (answer : Reply) (new : Machine) → Step old asked answer new
    → KeepsPeers old.tables new.tables × ((new.tables.next_number ≤ old.tables.next_number) ⊎ IsMessage asked)
command_keeps old asked answer new step = by (kind_of old asked answer new step)
  where
    Result : Command → State → Type 0
    Result c st = KeepsPeers old.tables st × ((st.next_number ≤ old.tables.next_number) ⊎ IsMessage c)

    numbers : (c : Command) (st : State) → KeepsNumbers old.tables st → Result c st
    numbers c st k = let next = k.0 in (k.1, inl (omega (arith, next)))

    by : {c : Command} {m : Machine} → Kind old c m → Result c m.tables
    by (Keeps c m is keeps) =
        numbers c m.tables (keeps.next, λ q has low. let h = keeps.only q has in (h.0, h.1, ap (λ (r : Rec). r.number) h.2, ap (λ (r : Rec). r.peer) h.2))
    by (Takes source payload words entries is enough) = (entries_keep old.tables old.clock entries source words, inr tt)
    by (Takes2 source payload words entries is enough) = (entries_keep old.tables old.clock entries source words, inr tt)
    by (Succeeds peer testing) =
        numbers (command.Good peer testing) (good old.tables old.clock peer testing).state (good-next old.tables old.clock peer testing, good-keeps_peers old.tables old.clock peer testing)
    by Decides = numbers command.Resolve (resolve old.tables old.clock).state (resolve-keeps_numbers old.tables old.clock)
