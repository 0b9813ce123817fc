-- What an opener has done, from what its run over the log says.
use Rattle.std.proofs.Common.{◌≡◌, ℕ, List, [], ◌∷◌, Option, refl, sym, ap, subst, ◌∙◌, inl, inr, arith, ◌<◌, ◌≤◌, length, filter, not, Bool}
use Rattle.std.proofs.lemmas.List.{length-append}
use Rattle.std.proofs.lemmas.List.Filters.{length-filter_both}
use Rattle.net_addr.specs.Same.{same_peer}
use Rattle.host_io.specs.Outside.{Outside}
use Rattle.log_run.specs.Run.{Ran, Run}
use Rattle.log_run.specs.declared.run.LogEnd.{LogEnd}
use Rattle.manager.specs.Machine.{Machine}
use Rattle.opener_lines.specs.Fair.{IsFair}
use Rattle.opener_lines.specs.Grammar.{HasRequestFault}
use Rattle.opener_lines.specs.Lines.{LineStep}
use Rattle.opener_lines.specs.State as opener
use Rattle.opener_lines.specs.State.{Answer, RequestStep, peers_after}
use Rattle.opener_lines.specs.Tries.{counted}
use Rattle.opener_lines.specs.declared.tries.Outcome.{Outcome}
use Rattle.opener_lines.specs.declared.tries.Outcome.TheVariants.{GaveUp, Taken}
use Rattle.opener_lines.specs.declared.tries.Outcome.TheVariants as outcome
use Rattle.opener_lines.specs.declared.command.OpenerCommand.{OpenerCommand}
use Rattle.opener_lines.specs.declared.command.OpenerCommand.TheVariants as request
use Rattle.peer_open.specs.Groups.{AreApart, Outbound, outbound}
use Rattle.peer_open.specs.declared.opener.TheConstants.{MAX_OUTBOUND}
use Rattle.peer_open.specs.declared.rules.OpenRules.{OpenRules}
use Rattle.arguments.specs.declared.file_kind.FileKind.{FileKind}
use Rattle.placing.specs.Places.{Places}
use Rattle.table_machine.specs.State as tables
use Rattle.addrman_run.specs.Opening.{Opened}
use Rattle.addrman_run.specs.Log.{streams_of}
use Rattle.addrman_run.specs.Opener.{OpenerRan, opener_start}
use Rattle.addrman_run.proofs.Seen.{Seen, ran_of}

-- ---- the rules

apart_after : ((old new : opener.OpenerState) (line text : List ℕ) → LineStep old line text new → AreApart old.open_peers → AreApart new.open_peers)
    → (s : opener.OpenerState) (lines : List (List ℕ)) (text : List ℕ) (t : opener.OpenerState) → Run LineStep s lines text t → AreApart s.open_peers → AreApart t.open_peers
apart_after law s [] text t run apart = subst (λ (x : opener.OpenerState). AreApart x.open_peers) (sym run.1) apart
apart_after law s (line ∷ lines) text t run apart =
    apart_after law run.2 lines run.1 t run.5 (law s run.2 line run.0 run.4 apart)

-- the peers that are left are no more
few_left : {X : Type 0} (p : X → Bool) (xs : List X) (n : ℕ) → length xs ≤ n → length (filter p xs) ≤ n
few_left p xs n few = omega (arith, few, length-filter_both p (λ x. not (p x)) (λ x. refl) xs)

few_tried : (rules : OpenRules) (places : Places) (found : Outcome) (open_peers : List Outbound) → length open_peers < MAX_OUTBOUND
    → length (peers_after rules places found open_peers) ≤ MAX_OUTBOUND
few_tried rules places (Taken peer i) open_peers few = omega (arith, few, length-append open_peers (outbound peer (counted rules places peer) ∷ []))
few_tried rules places outcome.Nothing open_peers few = omega (arith, few)
few_tried rules places GaveUp open_peers few = omega (arith, few)

abbrev AreFew : opener.OpenerState → Type 0
AreFew s = length s.open_peers ≤ MAX_OUTBOUND

step_few : (old new : opener.OpenerState) (asked : OpenerCommand) (answer : Answer) → RequestStep old asked answer new → AreFew old → AreFew new
step_few old new (request.Outbound seed) answer (inl full) few = subst AreFew (sym full.2) few
step_few old new (request.Outbound seed) answer (inr tried) few =
    subst AreFew (sym tried.1.3) (few_tried old.rules old.machine.tables.places tried.1.0 old.open_peers tried.0)
step_few old new (request.Feeler seed word) answer step few = subst AreFew (sym step.3) few
step_few old new (request.Close peer) answer step few =
    subst AreFew (sym step.1) (few_left (λ o. not (same_peer o.peer peer)) old.open_peers MAX_OUTBOUND few)
step_few old new (request.Machine asked) answer step few = subst AreFew (sym step.4) few

line_few : (old new : opener.OpenerState) (line text : List ℕ) → LineStep old line text new → AreFew old → AreFew new
line_few old new line text (inl passed) few = subst AreFew (sym passed.2) few
line_few old new line text (inr done) few = step_few old new done.0 done.1 done.3 few

few_after : (s : opener.OpenerState) (lines : List (List ℕ)) (text : List ℕ) (t : opener.OpenerState) → Run LineStep s lines text t → AreFew s → AreFew t
few_after s [] text t run few = subst AreFew (sym run.1) few
few_after s (line ∷ lines) text t run few = few_after run.2 lines run.1 t run.5 (line_few s run.2 line run.0 run.4 few)

none_open : AreApart []
none_open i j d le lt = absurd (omega (arith, lt))

-- what an opener has done, from its run beside a world
pub ran_by : {W : Type 0} (rules : OpenRules) (key : Option (List ℕ)) (kind : FileKind) (st : tables.State) (start : opener.OpenerState) (w : W) (old new : Outside) (how : LogEnd)
    → Opened key kind old.past st → start ≡ opener_start rules st
    → ((old new : opener.OpenerState) (line text : List ℕ) → LineStep old line text new → AreApart old.open_peers → AreApart new.open_peers)
    → ((old new : opener.OpenerState) (asked : OpenerCommand) (answer : Answer) → RequestStep old asked answer new → IsFair old asked answer)
    → Ran (Seen {S = opener.OpenerState × W} (λ p. p.0) LineStep HasRequestFault) HasRequestFault (start, w) (streams_of old) (streams_of new) how
    → OpenerRan rules key kind old new how
ran_by {W = W} rules key kind st start w old new how opened begins apart fair r = record {
  tables = st;
  opened = opened;
  ran = subst (λ s. Ran LineStep HasRequestFault s (streams_of old) (streams_of new) how) begins
      (ran_of {S = opener.OpenerState × W} (λ p. p.0) LineStep HasRequestFault (start, w) (streams_of old) (streams_of new) how r);
  kept = record {
    apart = λ lines text now run. apart_after apart (opener_start rules st) lines text now run none_open;
    few = λ lines text now run. few_after (opener_start rules st) lines text now run (omega arith);
    fair = λ lines text now run asked answer next step. fair now next asked answer step;
  };
}

-- the opener at the start
pub starts : (rules : OpenRules) (st : tables.State) (made : opener.OpenerState) (machine : Machine) → made ≡ opener.state rules machine []
    → machine ≡ record { tables = st; clock = 0 } → made ≡ opener_start rules st
starts rules st made machine is_made is_machine = is_made ∙ ap (λ m. opener.state rules m []) is_machine
