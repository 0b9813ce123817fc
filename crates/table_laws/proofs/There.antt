-- What is there under its number is there with its peer, after each step of the tables.
use Rattle.std.proofs.Common.{◌≡◌, ℕ, ◌<◌, Bool, Contains, refl, sym, ap, ◌∙◌, inl, inr, ⊎_elim, arith}
use Rattle.std.proofs.lemmas.List.Elements.{All-contains}
use Rattle.net_addr.specs.Address.{Address}
use Rattle.net_addr.specs.declared.peer.Entry.{Entry}
use Rattle.net_addr.specs.declared.peer.Peer.{Peer}
use Rattle.peer_rec.specs.declared.rec.Rec.{Rec}
use Rattle.table_machine.specs.Entries.{add}
use Rattle.table_machine.specs.Sound.{IsSound}
use Rattle.table_machine.specs.State.{State}
use Rattle.table_machine.specs.Tried.{good}
use Rattle.table_machine.proofs.Kept.{KeepsPeers, add-keeps_peers, good-keeps_peers}
use Rattle.table_machine.proofs.Records.{same_record}
use Rattle.table_laws.specs.Losses.{HasRecord, KeepsByEntry, KeepsBySuccess}
use Rattle.table_laws.proofs.LossesOf.{K, entry_keeps, success_keeps}

pub itself : (st : State) (r : Rec) → Contains st.records r → HasRecord st r
itself st r has = (r, has, refl, refl)

pub there-trans : (st : State) (q r : Rec) → q.number ≡ r.number → q.peer ≡ r.peer → HasRecord st q → HasRecord st r
there-trans st q r number peer t = (t.0, t.1, t.2 ∙ number, t.3 ∙ peer)

pub with_peer : (old new : State) → IsSound old → KeepsPeers old new → (r : Rec) → Contains old.records r → K r.number new.records → HasRecord new r
with_peer old new sound keeps r has k =
    let low = All-contains (λ q. q.number < old.next_number) old.records r sound.below_next has in
    let same = k.2 in
    let p = keeps k.0 k.1 (omega (arith, same, low)) in
    let one : p.0 ≡ r = same_record old.records p.0 r sound.rising p.1 has (p.2 ∙ k.2) in
    (k.0, k.1, k.2, sym p.3 ∙ ap (λ (x : Rec). x.peer) one)

pub entry_there : (st : State) → IsSound st → (now : ℕ) (entry : Entry) (source : Address) (penalty word : ℕ) → KeepsByEntry st now entry source penalty word
entry_there st sound now entry source penalty word r has =
    ⊎_elim (λ k. inl (with_peer st (add st now entry source penalty word).state sound (add-keeps_peers st now entry source penalty word) r has k)) inr
    (entry_keeps st sound now entry source penalty word r has)

pub success_there : (st : State) → IsSound st → (now : ℕ) (peer : Peer) (testing : Bool) → KeepsBySuccess st now peer testing
success_there st sound now peer testing r has =
    ⊎_elim (λ k. inl (with_peer st (good st now peer testing).state sound (good-keeps_peers st now peer testing) r has k)) inr
    (success_keeps st sound now peer testing r has)
