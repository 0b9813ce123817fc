-- What holds of each bucket that a record lists, by the record's number, peer and source, still
-- holds after a step.
use Rattle.std.proofs.Common.{◌≡◌, ℕ, Bool, true, List, [], ◌∷◌, Contains, sym, subst, ⊎_elim}
use Rattle.net_addr.specs.Address.{Address}
use Rattle.net_addr.specs.declared.peer.Entry.{Entry}
use Rattle.net_addr.specs.declared.peer.Peer.{Peer}
use Rattle.placing.specs.Places.{Places, new_bucket}
use Rattle.peer_rec.specs.Buckets.{with_bucket, without_bucket}
use Rattle.peer_rec.specs.Rec.{buckets_of}
use Rattle.peer_rec.specs.declared.rec.Rec.{Rec}
use Rattle.peer_rec.specs.declared.place.Place.TheVariants.{New}
use Rattle.table_machine.specs.State.{State}
use Rattle.table_machine.specs.Entries.{add}
use Rattle.table_machine.specs.Tried.{good}
use Rattle.table_machine.proofs.Buckets.{placed, with_bucket-cases, without_bucket-cases}
use Rattle.table_machine.proofs.EachRec.{add-each, good-each}
use Rattle.table_machine.proofs.Lists.{Contains-cases, none_in_nil}

-- each bucket of a record
abbrev pub EachBucket : (ℕ → Peer → Address → ℕ → Type 0) → Rec → Type 0
EachBucket C r = (b : ℕ) → Contains (buckets_of r) b → C r.number r.peer r.source b

abbrev pub EachRecord : (ℕ → Peer → Address → ℕ → Type 0) → List Rec → Type 0
EachRecord C records = (r : Rec) → Contains records r → EachBucket C r

module _ (C : ℕ → Peer → Address → ℕ → Type 0) where
  pub one-more : (r : Rec) (bucket : ℕ) → EachBucket C r → C r.number r.peer r.source bucket → EachBucket C (placed r (New (with_bucket bucket (buckets_of r))))
  one-more r bucket each one b c =
      ⊎_elim (λ is. subst (C r.number r.peer r.source) (sym is) one) (λ old. each b old) (with_bucket-cases bucket (buckets_of r) b c)

  pub one-less : (r : Rec) (bucket : ℕ) → EachBucket C r → EachBucket C (placed r (New (without_bucket bucket (buckets_of r))))
  one-less r bucket each b c = each b (without_bucket-cases bucket (buckets_of r) b c).0

  pub only-one : (r : Rec) (bucket : ℕ) → C r.number r.peer r.source bucket → EachBucket C (placed r (New (bucket ∷ [])))
  only-one r bucket one b c =
      ⊎_elim (λ (is : bucket ≡ b). subst (C r.number r.peer r.source) is one) (λ none. absurd (none_in_nil b none)) (Contains-cases bucket [] b c)

  -- an entry, whose bucket holds if it is accepted
  pub added : (st : State) (now : ℕ) (entry : Entry) (source : Address) (penalty word : ℕ) → EachRecord C st.records
      → ((add st now entry source penalty word).answer ≡ true → (number : ℕ) (own : Address) → C number entry.peer own (new_bucket st.places entry.peer source))
      → EachRecord C (add st now entry source penalty word).state.records
  added st now entry source penalty word all cause =
      add-each (EachBucket C) one-less st now entry source penalty word all (λ b c. absurd (none_in_nil b c)) (λ r each. each)
      (λ yes r same each. one-more r (new_bucket st.places r.peer source) each (
      subst (λ (p : Peer). C r.number p r.source (new_bucket st.places p source)) same (cause yes r.number r.source)))

-- where the bucket of its own source holds of a record
module _ (C : ℕ → Peer → Address → ℕ → Type 0) (places : Places) (own : (number : ℕ) (peer : Peer) (source : Address) → C number peer source (new_bucket places peer source)) where
  -- a success
  pub reached : (st : State) (now : ℕ) (peer : Peer) (testing : Bool) → st.places ≡ places → EachRecord C st.records → EachRecord C (good st now peer testing).state.records
  reached st now peer testing at all =
      good-each (EachBucket C) (one-less C) st now peer testing all (λ r each. each) (λ r each b c. absurd (none_in_nil b c)) (λ r each b c. absurd (none_in_nil b c))
      (λ r each. only-one C r (new_bucket st.places r.peer r.source) (
      subst (λ (p : Places). C r.number r.peer r.source (new_bucket p r.peer r.source)) (sym at) (own r.number r.peer r.source)))
