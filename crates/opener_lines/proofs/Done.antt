-- What a request has done, and what it leaves.
use Rattle.std.proofs.Common.{◌≡◌, ◌⊎◌, ℕ, ◌<◌, List, [], ◌∷◌, ◌++◌, length, take, Bool, true, false, not, codes, cond, Option, Some, None, find, Result, Ok, Err, OnOk, OnErr, inl, inr, refl, sym, ap, subst, append-nil}
use Rattle.std.specs.List.{list_all}
use Rattle.std.specs.Prelude.{bytes_eq}
use Rattle.std.proofs.lemmas.Bool.{and_parts}
use Rattle.host_io.specs.Lines.{IsPassedOver}
use Rattle.net_addr.specs.declared.peer.Peer.{Peer}
use Rattle.table_machine.specs.Clashes.{clash_pick}
use Rattle.log_lines.specs.Spelling as log
use Rattle.log_lines.proofs.Percents.{percent}
use Rattle.log_lines.specs.declared.command.Command.{Command}
use Rattle.log_lines.specs.declared.command.Command.TheVariants as c
use Rattle.log_lines.specs.declared.reply.Reply.{Reply}
use Rattle.manager.specs.Machine.{Machine}
use Rattle.manager.specs.Step as manager
use Rattle.peer_open.specs.Groups as groups
use Rattle.peer_open.specs.Groups.{is_open, without_peer}
use Rattle.opener_lines.specs.Grammar.{LineAsks, AsksBy, verb_at, verbs, opener_word}
use Rattle.opener_lines.specs.Inside.{CanBeDone, Leaves}
use Rattle.opener_lines.specs.Lines.{OpenerLeavesPart, LineStep}
use Rattle.opener_lines.specs.State.{Answer, Closed, FeelerStep, Full, OutboundStep, OpenerState, RequestStep, Told, after_clash, answer_to_feeler, answer_to_outbound, peers_after, state}
use Rattle.opener_lines.specs.Texts.{answer_text}
use Rattle.peer_open.specs.declared.opener.TheConstants.{MAX_OUTBOUND}
use Rattle.peer_open.specs.declared.rules.OpenRules.{OpenRules}
use Rattle.opener_lines.specs.Tries.{HasOutcome, try_by, ToKeep, ToTest}
use Rattle.opener_lines.specs.declared.tries.Outcome.{Outcome}
use Rattle.opener_lines.specs.declared.command.OpenerCommand.{OpenerCommand}
use Rattle.opener_lines.specs.declared.command.OpenerCommand.TheVariants as request
use Rattle.opener_lines.specs.declared.command.OpenerWord.{OpenerWord}
use Rattle.opener_lines.specs.declared.command.OpenerWord.TheVariants.{Outbound, Feeler, Close, Log}
use Rattle.opener_lines.proofs.Outcomes.{some_outcome}

-- ---- of a result

pub on_ok : {A E : Type 0} (P Q : Type 0) (r : Result A E) → (P → Q) → OnOk r P → OnOk r Q
on_ok P Q (Ok x) f h = f h
on_ok P Q (Err e) f h = tt

pub on_err : {A E : Type 0} (P Q : Type 0) (r : Result A E) → (P → Q) → OnErr r P → OnErr r Q
on_err P Q (Ok x) f h = tt
on_err P Q (Err e) f h = f h

-- ---- of a request

-- the answer, the step and the text of a request
abbrev pub HasDone : OpenerState → OpenerCommand → OpenerState → List ℕ → List ℕ → Type 0
HasDone old asked new before after = (answer : Answer) × RequestStep old asked answer new × (after ≡ before ++ answer_text answer)

pub closed : (rules : OpenRules) (machine : Machine) (old new : List groups.Outbound) (peer : Peer) (before after : List ℕ) → new ≡ without_peer peer old
    → after ≡ before ++ answer_text (Closed (is_open peer old)) → HasDone (state rules machine old) (request.Close peer) (state rules machine new) before after
closed rules machine old new peer before after without text = (Closed (is_open peer old), (refl, ap (state rules machine) without), text)

pub closed_leaves : (rules : OpenRules) (machine : Machine) (old new : List groups.Outbound) (peer : Peer) → new ≡ without_peer peer old
    → Leaves (state rules machine old) (request.Close peer) (state rules machine new)
closed_leaves rules machine old new peer without = inr (inl (Closed (is_open peer old), (refl, ap (state rules machine) without)))

pub told : (rules : OpenRules) (old new : Machine) (peers : List groups.Outbound) (command : Command) (before after : List ℕ)
    → (reply : Reply) × manager.Step old command reply new × (after ≡ before ++ answer_text (Told reply))
    → HasDone (state rules old peers) (request.Machine command) (state rules new peers) before after
told rules old new peers command before after step = (Told step.0, (step.0, new, step.1, refl, refl), step.2)

pub told_leaves : (rules : OpenRules) (old new : Machine) (peers : List groups.Outbound) (command : Command)
    → manager.LeavesPart old command new ⊎ ((reply : Reply) × manager.Step old command reply new)
    → Leaves (state rules old peers) (request.Machine command) (state rules new peers)
told_leaves rules old new peers command (inl part) = inr (inr (new, part, refl))
told_leaves rules old new peers command (inr step) = inr (inl (Told step.0, (step.0, new, step.1, refl, refl)))

pub feeler_leaves : (rules : OpenRules) (old new : Machine) (peers : List groups.Outbound) (seed word : ℕ) → new ≡ after_clash old word
    → Leaves (state rules old peers) (request.Feeler seed word) (state rules new peers)
feeler_leaves rules old new peers seed word is =
    let found = some_outcome (try_by rules (after_clash old word) peers (ToTest (clash_pick old.tables word).answer) seed) in
    inr (inl (answer_to_feeler found.0, (found.0, found.1, refl, ap (λ m. state rules m peers) is)))

-- ---- of a line

-- the word does not begin as those that save do
keeps : List ℕ → Bool
keeps word = not (bytes_eq (take 4 word) (codes "save"))

-- a command with such a word can be carried out
can_do : (command : Command) (texts : List (List ℕ)) → keeps (log.word_of (log.verb_of command)) ≡ true → log.SpellsBy (log.verb_of command) texts command
    → manager.SavesNothing command × manager.HasPercent command
unfolding keeps
can_do (c.Sample max pct classes words) texts kept h = (tt, percent texts max pct classes words h.1)
can_do other texts kept h = (first_of (search, cc kept), tt)

some_in : {A : Type 0} (x y : A) → Some x ≡ Some y → x ≡ y
some_in x y e = cc e

-- what is found in a list passes a test that all pass
found_passes : {A : Type 0} (p q : A → Bool) (xs : List A) (x : A) → list_all q xs ≡ true → find p xs ≡ Some x → q x ≡ true
found_passes p q [] x all e = absurd cc
found_passes {A = A} p q (y ∷ ys) x all e = by (p y) (and_parts (q y) (list_all q ys) all).0 (found_passes p q ys x (and_parts (q y) (list_all q ys) all).1) e
  where
    by : (b : Bool) → q y ≡ true → (find p ys ≡ Some x → q x ≡ true) → cond b (Some y) (find p ys) ≡ Some x → q x ≡ true
    by true here later found = subst (λ z. q z ≡ true) (some_in y x found) here
    by false here later found = later found

-- what a line asks for can be done
pub can_be_done : (line : List ℕ) (asked : OpenerCommand) → LineAsks line asked → CanBeDone asked
unfolding keeps
can_be_done line asked (word, texts, is, asks) = by (verb_at word) refl asks
  where
    by : (o : Option OpenerWord) → verb_at word ≡ o → AsksBy o texts asked → CanBeDone asked
    by None found h = absurd h
    by (Some Outbound) found (seed, h, said) = subst CanBeDone (sym said) tt
    by (Some Feeler) found (seed, number, h, said) = subst CanBeDone (sym said) tt
    by (Some Close) found (peer, h, said) = subst CanBeDone (sym said) tt
    by (Some (Log verb)) found (command, h, said) =
        let kept = found_passes (λ w. bytes_eq (opener_word w) word) (λ w. keeps (opener_word w)) verbs (Log verb) refl found in
        let meant = subst (λ w. log.SpellsBy w texts command) (sym h.0) h in
        subst CanBeDone (sym said) (can_do command texts (subst (λ w. keeps (log.word_of w) ≡ true) (sym h.0) kept) meant)

-- a line that is passed over
pub passed : (old : OpenerState) (line items : List ℕ) → IsPassedOver line → (text : List ℕ) × LineStep old line text old × (items ≡ items ++ text)
passed old line items is = ([], inl (is, refl, refl), sym (append-nil items))

-- a request that was carried out
pub carried : (old new : OpenerState) (line before after : List ℕ) (asked : OpenerCommand) → LineAsks line asked → HasDone old asked new before after
    → (text : List ℕ) × LineStep old line text new × (after ≡ before ++ text)
carried old new line before after asked asks done = (answer_text done.0, inr (asked, done.0, asks, done.1, refl), done.2)

-- memory ran out after it
pub left : (old new : OpenerState) (line : List ℕ) (asked : OpenerCommand) → LineAsks line asked → Leaves old asked new → OpenerLeavesPart old line new
left old new line asked asks (inl same) = inl same
left old new line asked asks (inr (inl done)) = inr (inl (answer_text done.0, inr (asked, done.0, asks, done.1, refl)))
left old new line (request.Machine command) asks (inr (inr part)) = inr (inr (command, part.0, asks, part.1, part.2))
left old new line (request.Outbound seed) asks (inr (inr part)) = absurd part
left old new line (request.Feeler seed word) asks (inr (inr part)) = absurd part
left old new line (request.Close peer) asks (inr (inr part)) = absurd part

-- ---- of the tries

pub outbound_done : (rules : OpenRules) (m : Machine) (old new : List groups.Outbound) (seed : ℕ) (found : Outcome) (before after : List ℕ) → length old < MAX_OUTBOUND
    → HasOutcome (try_by rules m old ToKeep seed) found → new ≡ peers_after rules m.tables.places found old
    → after ≡ before ++ answer_text (answer_to_outbound rules m.tables.places found)
    → (answer : Answer) × OutboundStep (state rules m old) seed answer (state rules m new) × (after ≡ before ++ answer_text answer)
outbound_done rules m old new seed found before after few h is text =
    (answer_to_outbound rules m.tables.places found, inr (few, (found, h, refl, ap (state rules m) is)), text)

pub full_done : (rules : OpenRules) (m : Machine) (old : List groups.Outbound) (seed : ℕ) (before after : List ℕ) → length old ≡ MAX_OUTBOUND → after ≡ before ++ answer_text Full
    → (answer : Answer) × OutboundStep (state rules m old) seed answer (state rules m old) × (after ≡ before ++ answer_text answer)
full_done rules m old seed before after full text = (Full, inl (full, refl, refl), text)

pub feeler_done : (rules : OpenRules) (old new : Machine) (peers : List groups.Outbound) (seed word : ℕ) (occupant : Option (Peer × ℕ)) (found : Outcome) (before after : List ℕ)
    → occupant ≡ (clash_pick old.tables word).answer → new ≡ after_clash old word → HasOutcome (try_by rules new peers (ToTest occupant) seed) found
    → after ≡ before ++ answer_text (answer_to_feeler found)
    → (answer : Answer) × FeelerStep (state rules old peers) seed word answer (state rules new peers) × (after ≡ before ++ answer_text answer)
feeler_done rules old new peers seed word occupant found before after first is h text =
    let picked = subst (λ o. HasOutcome (try_by rules new peers (ToTest o) seed) found) first h in
    let done = subst (λ m. HasOutcome (try_by rules m peers (ToTest (clash_pick old.tables word).answer) seed) found) is picked in
    (answer_to_feeler found, (found, done, refl, ap (λ m. state rules m peers) is), text)

-- what holds in any case holds after an error
pub err_so : {A E : Type 0} (Q : Type 0) (r : Result A E) → Q → OnErr r Q
err_so Q (Ok x) h = tt
err_so Q (Err e) h = h
