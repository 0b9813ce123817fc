-- The peers that are taken keep the rules.
use Rattle.std.proofs.Common.{◌≡◌, ℕ, Bool, true, false, if◌then◌else◌, List, inl, inr, refl, sym, ap, subst, ◌∙◌, Contains}
use Rattle.net_addr.specs.declared.peer.Peer.{Peer}
use Rattle.peer_rec.specs.declared.answers.Picked.{Picked}
use Rattle.peer_rec.specs.declared.answers.Picked.TheVariants as picked
use Rattle.table_machine.specs.Clashes.{clash_pick}
use Rattle.manager.specs.Machine.{Machine}
use Rattle.peer_open.specs.Groups.{Outbound, AreApart, groups}
use Rattle.peer_open.specs.declared.outbound.Verdict.{Verdict}
use Rattle.peer_open.specs.declared.rules.OpenRules.{OpenRules}
use Rattle.peer_open.specs.declared.outbound.Verdict.TheVariants as verdict
use Rattle.peer_open.proofs.Apart.{apart-with_peer, apart-without_peer}
use Rattle.peer_open.proofs.Judged.{taken_apart, taken_late, feeler_late}
use Rattle.opener_lines.specs.Fair.{IsFair}
use Rattle.opener_lines.specs.Lines.{LineStep}
use Rattle.opener_lines.specs.State.{Answer, OpenerState, RequestStep, after_clash, answer_to_feeler, answer_to_outbound, peers_after}
use Rattle.opener_lines.specs.Tries.{HasOutcome, counted, is_passed, pick_by, try_by, try_of_peer, try_of_pick, try_of_verdict, verdict_by, Aim, ToKeep, ToTest, Try, Take, NoneLeft, Next}
use Rattle.opener_lines.specs.declared.command.OpenerCommand.{OpenerCommand}
use Rattle.opener_lines.specs.declared.command.OpenerCommand.TheVariants as request
use Rattle.opener_lines.specs.declared.tries.Outcome.{Outcome}
use Rattle.opener_lines.specs.declared.tries.Outcome.TheVariants as outcome

-- ---- what a try took

taken_peer : Peer → Try → Peer
taken_peer p (Take q) = q
taken_peer p NoneLeft = p
taken_peer p Next = p

-- a verdict that takes a peer
takes : (v : Verdict) (p q : Peer) → try_of_verdict v p ≡ Take q → (v ≡ verdict.Take) × (p ≡ q)
unfolding taken_peer
takes verdict.Take p q e = (refl, ap (taken_peer p) e)
takes verdict.SameGroup p q e = absurd cc
takes verdict.Recent p q e = absurd cc

-- a try that takes its peer
not_passed : (b : Bool) (v : Verdict) (p q : Peer) → (if b then Next else try_of_verdict v p) ≡ Take q → (b ≡ false) × (v ≡ verdict.Take) × (p ≡ q)
not_passed true v p q e = absurd cc
not_passed false v p q e = let t = takes v p q e in (refl, t.0, t.1)

-- the pick of a try that took a peer, and the verdict on it
pub record IsTaken (rules : OpenRules) (m : Machine) (open_peers : List Outbound) (goal : Aim) (seed : ℕ) (peer : Peer) (i : ℕ) : Type 0 where
  pub last_try : ℕ
  pub picked : pick_by m goal seed i ≡ picked.One peer last_try
  pub fit : is_passed rules goal m.tables peer i ≡ false
  pub verdict : verdict_by rules goal m.tables.places open_peers peer last_try m.clock i ≡ verdict.Take

pub taken : (rules : OpenRules) (m : Machine) (open_peers : List Outbound) (goal : Aim) (seed : ℕ) (peer : Peer) (i : ℕ) → try_by rules m open_peers goal seed i ≡ Take peer
    → IsTaken rules m open_peers goal seed peer i
taken rules m open_peers goal seed peer i e = by (pick_by m goal seed i) refl e
  where
    by : (p : Picked) → pick_by m goal seed i ≡ p → try_of_pick (try_of_peer rules m open_peers goal i) p ≡ Take peer → IsTaken rules m open_peers goal seed peer i
    by (picked.One q last_try) is e =
        let found = not_passed (is_passed rules goal m.tables q i) (verdict_by rules goal m.tables.places open_peers q last_try m.clock i) q peer e in
        record {
          last_try = last_try;
          picked = is ∙ ap (λ p. picked.One p last_try) found.2;
          fit = subst (λ p. is_passed rules goal m.tables p i ≡ false) found.2 found.0;
          verdict = subst (λ p. verdict_by rules goal m.tables.places open_peers p last_try m.clock i ≡ verdict.Take) found.2 found.1;
        }
    by picked.Nothing is e = absurd cc
    by picked.Exhausted is e = absurd cc

-- ---- groups

outbound_apart : (rules : OpenRules) (m : Machine) (open_peers : List Outbound) (seed : ℕ) (found : Outcome) → HasOutcome (try_by rules m open_peers ToKeep seed) found
    → AreApart open_peers → AreApart (peers_after rules m.tables.places found open_peers)
outbound_apart rules m open_peers seed (outcome.Taken peer i) h apart =
    let t = taken rules m open_peers ToKeep seed peer i h.comes in
    apart-with_peer peer (counted rules m.tables.places peer) open_peers apart
    (taken_apart open_peers (counted rules m.tables.places peer) t.last_try m.clock i t.verdict)
outbound_apart rules m open_peers seed outcome.Nothing h apart = apart
outbound_apart rules m open_peers seed outcome.GaveUp h apart = apart

step_apart : (old new : OpenerState) (asked : OpenerCommand) (answer : Answer) → RequestStep old asked answer new → AreApart old.open_peers → AreApart new.open_peers
step_apart old new (request.Outbound seed) answer (inl full) apart = subst (λ st. AreApart st.open_peers) (sym full.2) apart
step_apart old new (request.Outbound seed) answer (inr step) apart =
    subst (λ st. AreApart st.open_peers) (sym step.1.3) (outbound_apart old.rules old.machine old.open_peers seed step.1.0 step.1.1 apart)
step_apart old new (request.Feeler seed word) answer step apart = subst (λ st. AreApart st.open_peers) (sym step.3) apart
step_apart old new (request.Close peer) answer step apart =
    subst (λ st. AreApart st.open_peers) (sym step.1) (apart-without_peer peer old.open_peers apart)
step_apart old new (request.Machine command) answer step apart = subst (λ st. AreApart st.open_peers) (sym step.4) apart

pub line_apart : (old new : OpenerState) (line text : List ℕ) → LineStep old line text new → AreApart old.open_peers → AreApart new.open_peers
line_apart old new line text (inl passed) apart = subst (λ st. AreApart st.open_peers) (sym passed.2) apart
line_apart old new line text (inr step) apart = step_apart old new step.0 step.1 step.3 apart

-- ---- tries

fair_outbound : (old : OpenerState) (seed : ℕ) (found : Outcome) → HasOutcome (try_by old.rules old.machine old.open_peers ToKeep seed) found
    → IsFair old (request.Outbound seed) (answer_to_outbound old.rules old.machine.tables.places found)
fair_outbound old seed (outcome.Taken peer i) h =
    let t = taken old.rules old.machine old.open_peers ToKeep seed peer i h.comes in (
      (h.least, h.most),
      record {
        last_try = t.last_try;
        picked = t.picked;
        late = taken_late old.open_peers (counted old.rules old.machine.tables.places peer) t.last_try old.machine.clock i t.verdict;
      },
      t.fit,
    )
fair_outbound old seed outcome.Nothing h = tt
fair_outbound old seed outcome.GaveUp h = tt

fair_feeler : (old : OpenerState) (seed word : ℕ) (found : Outcome)
    → HasOutcome (try_by old.rules (after_clash old.machine word) old.open_peers (ToTest (clash_pick old.machine.tables word).answer) seed) found
    → IsFair old (request.Feeler seed word) (answer_to_feeler found)
fair_feeler old seed word (outcome.Taken peer i) h =
    let t = taken old.rules (after_clash old.machine word) old.open_peers (ToTest (clash_pick old.machine.tables word).answer) seed peer i h.comes in
    ((h.least, h.most), record { last_try = t.last_try; picked = t.picked; late = feeler_late t.last_try old.machine.clock i t.verdict }, t.fit)
fair_feeler old seed word outcome.Nothing h = tt
fair_feeler old seed word outcome.GaveUp h = tt

-- other requests take no peer
fair_close : (old : OpenerState) (peer : Peer) (answer : Answer) → IsFair old (request.Close peer) answer
fair_close old peer answer = tt

pub step_fair : (old new : OpenerState) (asked : OpenerCommand) (answer : Answer) → RequestStep old asked answer new → IsFair old asked answer
step_fair old new (request.Outbound seed) answer (inl full) = subst (IsFair old (request.Outbound seed)) (sym full.1) tt
step_fair old new (request.Outbound seed) answer (inr step) =
    subst (IsFair old (request.Outbound seed)) (sym step.1.2) (fair_outbound old seed step.1.0 step.1.1)
step_fair old new (request.Feeler seed word) answer step = subst (IsFair old (request.Feeler seed word)) (sym step.2) (fair_feeler old seed word step.0 step.1)
step_fair old new (request.Close peer) answer step = fair_close old peer answer
step_fair old new (request.Machine command) answer step = tt

-- the group of the peer that the tries took is that of no open peer
pub no_group : (rules : OpenRules) (m : Machine) (open_peers : List Outbound) (seed : ℕ) (peer : Peer) (i : ℕ) (its_group : List ℕ)
    → HasOutcome (try_by rules m open_peers ToKeep seed) (outcome.Taken peer i) → its_group ≡ counted rules m.tables.places peer
    → ¬ Contains (groups open_peers) its_group
no_group rules m open_peers seed peer i its_group first same =
    let t = taken rules m open_peers ToKeep seed peer i first.comes in
    subst (λ g. ¬ Contains (groups open_peers) g) (sym same) (taken_apart open_peers (counted rules m.tables.places peer) t.last_try m.clock i t.verdict)
