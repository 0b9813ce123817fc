-- What a command has done that answers each line of a log, from what its run says.
use Rattle.std.proofs.Common.{◌≡◌, ◌⊎◌, ℕ, List, [], ◌∷◌, ◌++◌, refl, ap, ◌∙◌, subst, inl, inr}
use Rattle.std.specs.Prelude.{Option, Some}
use Rattle.std.specs.List.{flat_map}
use Rattle.asmap_vm.specs.Asmap.{Asmap}
use Rattle.grammar.specs.declared.fault.LineFault.{LineFault}
use Rattle.host_io.specs.Lines.{IsPassedOver}
use Rattle.host_io.specs.Outside.{Outside}
use Rattle.host_io.specs.Past.{Past}
use Rattle.log_run.specs.Run.{Ran, Run, Streams}
use Rattle.log_run.specs.declared.run.LogEnd.{LogEnd}
use Rattle.names.specs.Text.{IsTextOf}
use Rattle.addrman_run.specs.Address.{address_text}
use Rattle.addrman_run.specs.AddressLines.{Described, HasAddressFault}
use Rattle.addrman_run.specs.Asmaps.{IsMapIn, IsNoMap}
use Rattle.addrman_run.specs.EachLine.{Answered, EachStep, Mean}
use Rattle.addrman_run.specs.Log.{LogOutcome}
use Rattle.addrman_run.specs.LookupLines.{HasPeerFault, IsPeerLine, LookedUp, peer_answer}
use Rattle.addrman_run.specs.Replay.{IsUntouched}
use Rattle.addrman_run.specs.declared.status.Status.{Status}
use Rattle.addrman_run.specs.declared.status.Status.TheVariants.{AsmapRefused, DiskFault, Memory}
use Rattle.addrman_run.proofs.Seen.{Seen, ran_of}

module _ {T X : Type 0} (Means : List ℕ → X → Type 0) (answer : T → X → List ℕ) where
  -- what a run's lines mean, and the answers to them
  record Given (begins : T) (lines : List (List ℕ)) (text : List ℕ) : Type 0 where
    meanings : List X
    each : Mean Means lines meanings
    whole : text ≡ flat_map (answer begins) meanings

  one_more : (begins : T) (line : List ℕ) (lines : List (List ℕ)) (first rest text : List ℕ) → text ≡ first ++ rest
      → (IsPassedOver line × (first ≡ [])) ⊎ ((x : X) × Means line x × (first ≡ answer begins x))
      → Given begins lines rest → Given begins (line ∷ lines) text
  one_more begins line lines first rest text is (inl passed) g = record {
    meanings = g.meanings;
    each = inl (passed.0, g.each);
    whole = is ∙ ap (λ t. t ++ rest) passed.1 ∙ g.whole;
  }
  one_more begins line lines first rest text is (inr found) g = record {
    meanings = found.0 ∷ g.meanings;
    each = inr (found.0, g.meanings, refl, found.1, g.each);
    whole = is ∙ ap (λ t. t ++ rest) found.2 ∙ ap (λ t. answer begins found.0 ++ t) g.whole;
  }

  given : (begins : T) (lines : List (List ℕ)) (text : List ℕ) (end : T) → Run (EachStep Means answer) begins lines text end → Given begins lines text
  given begins [] text end run = record { meanings = []; each = refl; whole = run.0 }
  given begins (line ∷ lines) text end run =
      let rest = given begins lines run.1 end (subst (λ m. Run (EachStep Means answer) m lines run.1 end) run.4.0 run.5) in
      one_more begins line lines run.0 run.1 text run.3 run.4.1 rest

  module _ (has_fault : List ℕ → LineFault → Type 0) where
    answered : (begins : T) (old new : Streams) (how : LogEnd) → Ran (EachStep Means answer) has_fault begins old new how → Answered Means answer has_fault begins old new how
    answered begins old new how r =
        let run = given begins r.carried r.replies r.now r.runs in
        record { ran = r; meanings = run.meanings; each = run.each; whole = run.whole }

    -- the same of a run beside a world, of which a part is seen
    pub answered_by : {S W : Type 0} (seen : S → T) (s : S) (w : W) (old new : Streams) (how : LogEnd)
        → Ran (Seen {S = S × W} (λ p. seen p.0) (EachStep Means answer) has_fault) has_fault (s, w) old new how → Answered Means answer has_fault (seen s) old new how
    answered_by {S = S} {W = W} seen s w old new how r =
        answered (seen s) old new how (ran_of {S = S × W} (λ p. seen p.0) (EachStep Means answer) has_fault (s, w) old new how r)

-- each peer is looked up
pub looked_up_by : {S W : Type 0} (past : Option Past) (seen : S → Asmap) (s : S) (w : W) (old new : Streams) (how : LogEnd) → IsMapIn past (Some (seen s))
    → Ran (Seen {S = S × W} (λ p. seen p.0) (EachStep IsPeerLine peer_answer) HasPeerFault) HasPeerFault (s, w) old new how → LookedUp past old new how
looked_up_by past seen s w old new how is r = record { map = seen s; has_map = is; answered = answered_by IsPeerLine peer_answer HasPeerFault seen s w old new how r }

-- each address is described
pub described_by : {S W : Type 0} (past : Option Past) (seen : S → Option Asmap) (s : S) (w : W) (old new : Streams) (how : LogEnd) → IsMapIn past (seen s)
    → Ran (Seen {S = S × W} (λ p. seen p.0) (EachStep IsTextOf address_text) HasAddressFault) HasAddressFault (s, w) old new how → Described past old new how
described_by past seen s w old new how is r = record { map = seen s; has_map = is; answered = answered_by IsTextOf address_text HasAddressFault seen s w old new how r }

-- the folder's asmap is not read
pub unread : (ran : LogEnd → Type 0) (old new : Outside) (status : Status) → IsNoMap old.past status → IsUntouched old new
    → LogOutcome ran (λ answer. IsNoMap old.past answer × IsUntouched old new) status
unread ran old new (AsmapRefused fault) is same = (is, same)
unread ran old new DiskFault is same = (is, same)
unread ran old new Memory is same = inl (is, same)
unread ran old new other is same = absurd is
