-- How many buckets the sources of some groups reach.
use Rattle.std.proofs.Common.{◌≡◌, ℕ, ◌*◌, List, [], ◌∷◌, length, flat_map, Contains, refl, sym, ◌∙◌, subst, ⊎_elim, arith, length-append}
use Rattle.std.proofs.lemmas.Nat.{mod_below}
use Rattle.std.proofs.lemmas.List.Elements.{Contains-append_left, Contains-append_right}
use Rattle.std.proofs.lemmas.List.{append-nil}
use Rattle.std.proofs.lemmas.List.FromFn.{length-map-range_with_len}
use Rattle.net_addr.specs.Address.{Address}
use Rattle.net_addr.specs.declared.peer.Peer.{Peer}
use Rattle.placing.specs.Places.{Places, group, group_bucket, group_buckets, group_choice, new_bucket, source_bucket, source_buckets, source_choice, tried_bucket}
use Rattle.placing.proofs.Buckets.{Contains-map}
use Rattle.peer_rec.specs.declared.rec.Rec.{Rec}
use Rattle.table_machine.specs.State.{State}
use Rattle.table_machine.proofs.Lists.{Contains-cases, none_in_nil}
use Rattle.log_laws.specs.Buckets.{IsBounded, IsBy, reach}

pub new_reach : (places : Places) (peer : Peer) (source : Address) → Contains (source_buckets places (group places source)) (new_bucket places peer source)
unfolding new_bucket
new_reach places peer source =
    Contains-map (source_bucket places (group places source)) 64 (source_choice places (group places peer.addr) (group places source)) _
    (mod_below _ 64 (omega arith)) refl

pub tried_reach : (places : Places) (peer : Peer) → Contains (group_buckets places (group places peer.addr)) (tried_bucket places peer)
unfolding tried_bucket
tried_reach places peer =
    Contains-map (group_bucket places (group places peer.addr)) 8 (group_choice places peer) _
    (mod_below _ 8 (omega arith)) refl

pub Contains-flat_map : {X : Type 0} (f : X → List ℕ) (xs : List X) (x : X) (b : ℕ) → Contains xs x → Contains (f x) b → Contains (flat_map f xs) b
Contains-flat_map f [] x b c h = absurd (none_in_nil x c)
Contains-flat_map {X} f (y ∷ xs) x b c h =
    let later = Contains-flat_map f xs x b in
    ⊎_elim (λ (is : y ≡ x). Contains-append_left (f y) (flat_map f xs) b (subst (λ (z : X). Contains (f z) b) (sym is) h))
    (λ rest. Contains-append_right (f y) (flat_map f xs) b (later rest h)) (Contains-cases y xs x c)

-- all buckets that sources of these groups cause are among 64 numbers a group
pub by_reach : (Accepted : Peer → Address → Type 0) (places : Places) (groups : List (List ℕ)) (r : Rec) (bucket : ℕ)
    → IsBy Accepted places groups r bucket → Contains (reach places groups) bucket
by_reach Accepted places groups r bucket by =
    Contains-flat_map (source_buckets places) groups (group places by.0) bucket by.1
    (subst (Contains (source_buckets places (group places by.0))) (sym by.3) (new_reach places r.peer by.0))

pub long-reach : (places : Places) (groups : List (List ℕ)) → length (reach places groups) ≡ 64 * length groups
long-reach places [] = refl
long-reach places (g ∷ groups) =
    let first = length-map-range_with_len (source_bucket places g) 0 64 in
    let rest = long-reach places groups in
    length-append (source_buckets places g) (reach places groups) ∙ omega (arith, first, rest)

-- whatever was accepted
pub bounded : (Accepted : Peer → Address → Type 0) (st : State) → IsBounded Accepted st
bounded Accepted st = record {
  new_source = λ r has bucket listed source by.
      let whole = append-nil (source_buckets st.places (group st.places source)) in
      subst (λ (bs : List ℕ). Contains bs bucket) whole (by_reach Accepted st.places (group st.places source ∷ []) r bucket by);
  new_groups = λ groups r has bucket listed by. by_reach Accepted st.places groups r bucket by;
  new_count = long-reach st.places;
  tried_group = λ r has tried. tried_reach st.places r.peer;
  tried_count = λ g. length-map-range_with_len (group_bucket st.places g) 0 8;
}
