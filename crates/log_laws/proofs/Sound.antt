-- Each step keeps a state sound.
use Rattle.std.proofs.Common.{◌≡◌, ℕ, ◌+◌, ◌-◌, ◌<◌, ◌≤◌, ◌^◌, ◌||◌, nat_lt, nat_le, true, false, List, [], ◌∷◌, length, Contains, Option, Some, None, refl, subst, arith, if◌then◌else◌}
use Rattle.net_addr.specs.Address.{Address, IsAddress}
use Rattle.net_addr.specs.declared.peer.Entry.{Entry}
use Rattle.addr_codecs.specs.Entries.{IsEntry}
use Rattle.log_lines.specs.declared.command.Command.{Command}
use Rattle.log_lines.specs.declared.reply.Reply.{Reply}
use Rattle.table_machine.specs.State.{State}
use Rattle.table_machine.specs.Sound.{IsSound}
use Rattle.table_machine.proofs.Added.{sound_add}
use Rattle.table_machine.proofs.Folds.{resolve-sound, resolve-next}
use Rattle.table_machine.proofs.Lists.{Contains-head, Contains-tail}
use Rattle.table_machine.proofs.Reached.{good-sound}
use Rattle.table_machine.proofs.Rest.{add-rest}
use Rattle.table_machine.proofs.Unchanged.{good-next}
use Rattle.manager.specs.Machine.{Machine, with_tables}
use Rattle.taking.specs.Messages.{clamp_time, message_penalty, take_entries, take_entry}
use Rattle.manager.specs.Step.{take_message}
use Rattle.manager.specs.Step.{Step}
use Rattle.log_laws.proofs.Fits.{IsFit}
use Rattle.log_laws.proofs.StepKinds.{Kind, kind_of}
use Rattle.log_laws.proofs.StepKinds.Kind.{Decides, Keeps, Succeeds, Takes, Takes2}

clamped-fits : (e : Entry) (now : ℕ) → now < 2 ^ 32 → IsEntry e → IsEntry (clamp_time e now)
clamped-fits e now low fits =
    elim (nat_le e.time 100000000 || nat_lt (now + 600) e.time) as (λ b. IsEntry (if b then record e { time = now - 432000 } else e)) [
      | true ↦ record { addr = fits.addr; port = fits.port; time = omega arith; services = fits.services }
      | false ↦ fits
    ]

-- sound, and at most so many more numbers
abbrev IsUp : State → ℕ → State → Type 0
IsUp old n new = IsSound new × (new.next_number ≤ old.next_number + n)

pub entry-sound : (st : State) (now : ℕ) (entry : Option Entry) (source : Address) (word : ℕ) → IsSound st → st.next_number < 2 ^ 63 → now < 2 ^ 32 → IsAddress source
    → ((e : Entry) → entry ≡ Some e → IsEntry e) → IsUp st 1 (take_entry st now entry source word).state
entry-sound st now None source word sound room low from fits = (sound, omega arith)
entry-sound st now (Some entry) source word sound room low from fits =
    let e = clamp_time entry now in
    let f = clamped-fits entry now low (fits entry refl) in
    (sound_add st now e source message_penalty word sound room f.addr f.port from f.time f.services, (add-rest st now e source message_penalty word).most)

entries-sound : (st : State) (now : ℕ) (entries : List (Option Entry)) (source : Address) (words : List ℕ) → IsSound st → st.next_number + length entries < 2 ^ 63 → now < 2 ^ 32 → IsAddress source
    → ((e : Entry) → Contains entries (Some e) → IsEntry e) → IsUp st (length entries) (take_entries st now entries source words).state
entries-sound st now [] source words sound room low from fits = (sound, omega arith)
entries-sound st now (entry ∷ entries) source [] sound room low from fits = (sound, omega arith)
entries-sound st now (entry ∷ entries) source (word ∷ words) sound room low from fits =
    let one = entry-sound st now entry source word sound (omega arith) low from (λ e is. fits e (subst (λ o. Contains (entry ∷ entries) o) is (Contains-head entry entries))) in
    let grows = one.1 in
    let rest = entries-sound (take_entry st now entry source word).state now entries source words one.0 (omega (arith, grows)) low from (λ e c. fits e (Contains-tail entry entries (Some e) c)) in
    let more = rest.1 in
    (rest.0, omega (arith, grows, more))

pub step-sound : (old : Machine) (command : Command) (answer : Reply) (new : Machine) → IsSound old.tables → old.clock < 2 ^ 32 → old.tables.next_number < 2 ^ 62
    → IsFit command → Step old command answer new → IsUp old.tables 1000 new.tables × (new.clock < 2 ^ 32)
step-sound old cmd answer new sound low room fit step = by (kind_of old cmd answer new step) fit
  where
    Result : Machine → Type 0
    Result m = IsUp old.tables 1000 m.tables × (m.clock < 2 ^ 32)

    taken : (entries : List (Option Entry)) (source : Address) (words : List ℕ) → IsAddress source → (length entries ≤ 1000) × ((e : Entry) → Contains entries (Some e) → IsEntry e)
        → Result (with_tables old (take_message old entries source words).state)
    taken entries source words from fits =
        let few = fits.0 in
        let h = entries-sound old.tables old.clock entries source words sound (omega (arith, few, room)) low from fits.1 in
        let most = h.1 in
        ((h.0, omega (arith, most, few)), low)

    by : {c : Command} {m : Machine} → Kind old c m → IsFit c → Result m
    by (Keeps c m is keeps) fit = let s = is fit sound low in let next = keeps.next in ((s.0, omega (arith, next)), s.1)
    by (Takes source payload words entries is enough) fit = taken entries source words fit.0 (fit.1 entries is)
    by (Takes2 source payload words entries is enough) fit = taken entries source words fit.0 (fit.1 entries is)
    by (Succeeds peer testing) fit =
        let next = good-next old.tables old.clock peer testing in
        ((good-sound old.tables old.clock peer testing sound low, omega (arith, next)), low)
    by Decides fit = let next = resolve-next old.tables old.clock in ((resolve-sound old.tables old.clock sound low, omega (arith, next)), low)
