-- No two records of a listing have one peer, and each row's peer has a record.
use Rattle.std.proofs.Common.{◌≡◌, ◌++◌, ◌∷◌, ◌+◌, ◌&&◌, ◌||◌, Bool, Contains, List, None, Option, Some, [], cond, false, if◌then◌else◌, inl, inr, refl, subst, sym, true, ℕ, arith, suc}
use Rattle.std.specs.Prelude.{fold, ⊤}
use Rattle.std.specs.List.{list_any}
use Rattle.std.proofs.lemmas.Bool.{and_parts, both_ways}
use Rattle.std.proofs.lemmas.List.{append_assoc, append-nil, map-append}
use Rattle.std.proofs.lemmas.List.Elements.{Contains-append_left, Contains-push}
use Rattle.net_addr.specs.Ranges.{is_valid}
use Rattle.net_addr.specs.Same.{same_peer, same_peer-Decides}
use Rattle.net_addr.specs.declared.peer.Peer.{Peer}
use Rattle.peer_rec.specs.declared.file_rec.FileRec.{FileRec}
use Rattle.raw_read.specs.declared.raw.Raw.{Raw}
use Rattle.raw_read.specs.declared.raw.RawRow.{RawRow}
use Rattle.raw_read.specs.declared.raw.RawTable.TheVariants.{New, Tried}
use Rattle.raw_file.specs.Listing.{again_at, first_again, first_fault, first_twice, new_recs, or_else, peers_of, recs_of, tried_of, with_rec}
use Rattle.table_machine.specs.Restoring.{duplicate_from, is_repeated}
use Rattle.table_machine.proofs.Lists.{Contains-cases}

-- the peer of each record is none of these, and none of those before it
pub AreApart : List Peer → List FileRec → Type 0
AreApart peers [] = ⊤
AreApart peers (r ∷ rs) = (list_any (same_peer r.peer) peers ≡ false) × AreApart (peers ++ r.peer ∷ []) rs

apart-nil : (peers : List Peer) → AreApart peers []
unfolding AreApart
apart-nil peers = tt

-- one more at the end
apart-push : (peers : List Peer) (rs : List FileRec) (r : FileRec) → AreApart peers rs → list_any (same_peer r.peer) (peers ++ peers_of rs) ≡ false → AreApart peers (rs ++ r ∷ [])
unfolding AreApart
apart-push peers [] r apart fresh = (subst (λ ps. list_any (same_peer r.peer) ps ≡ false) (append-nil peers) fresh, tt)
apart-push peers (q ∷ rs) r apart fresh =
    (apart.0, apart-push (peers ++ q.peer ∷ []) rs r apart.1 (subst (λ ps. list_any (same_peer r.peer) ps ≡ false) (sym (append_assoc peers (q.peer ∷ []) (peers_of rs))) fresh))

-- the records of two lists, one after the other
apart-append : (peers : List Peer) (rs ts : List FileRec) → AreApart peers rs → AreApart (peers ++ peers_of rs) ts → AreApart peers (rs ++ ts)
unfolding AreApart
apart-append peers [] ts one two = subst (λ ps. AreApart ps ts) (append-nil peers) two
apart-append peers (r ∷ rs) ts one two =
    (one.0, apart-append (peers ++ r.peer ∷ []) rs ts one.1 (subst (λ ps. AreApart ps ts) (sym (append_assoc peers (r.peer ∷ []) (peers_of rs))) two))

-- THE FIRST RECORDS

apart-firsts : (done rs : List FileRec) → AreApart [] done → AreApart [] (fold with_rec done rs)
apart-firsts done [] apart = apart
apart-firsts done (r ∷ rs) apart = apart-firsts (with_rec done r) rs (by (list_any (same_peer r.peer) (peers_of done)) refl)
  where
    by : (b : Bool) → list_any (same_peer r.peer) (peers_of done) ≡ b → AreApart [] (cond b done (done ++ r ∷ []))
    by true is = apart
    by false is = apart-push [] done r apart is

-- some record has the peer
abbrev pub HasPeer : Peer → List FileRec → Type 0
HasPeer peer rs = (q : FileRec) × Contains rs q × (q.peer ≡ peer)

has-more : (peer : Peer) (done : List FileRec) (r : FileRec) → HasPeer peer done → HasPeer peer (with_rec done r)
has-more peer done r has = by (list_any (same_peer r.peer) (peers_of done))
  where
    by : (b : Bool) → HasPeer peer (cond b done (done ++ r ∷ []))
    by true = has
    by false = (has.0, Contains-append_left done (r ∷ []) has.0 has.1, has.2)

of_peers : (peer : Peer) (rs : List FileRec) → list_any (same_peer peer) (peers_of rs) ≡ true → HasPeer peer rs
of_peers peer [] any = absurd (cc)
of_peers peer (r ∷ rs) any = by (same_peer peer r.peer) refl (of_peers peer rs) any
  where
    by : (b : Bool) → same_peer peer r.peer ≡ b → (list_any (same_peer peer) (peers_of rs) ≡ true → HasPeer peer rs) → (b || list_any (same_peer peer) (peers_of rs)) ≡ true → HasPeer peer (r ∷ rs)
    by true is more all = (r, (0, omega arith, refl), sym ((same_peer-Decides peer r.peer).0 is))
    by false is more all = let rest = more all in let within = rest.1.1 in (rest.0, (suc rest.1.0, omega (arith, within), rest.1.2), rest.2)

has-own : (done : List FileRec) (r : FileRec) → HasPeer r.peer (with_rec done r)
has-own done r = by (list_any (same_peer r.peer) (peers_of done)) refl
  where
    by : (b : Bool) → list_any (same_peer r.peer) (peers_of done) ≡ b → HasPeer r.peer (cond b done (done ++ r ∷ []))
    by true is = of_peers r.peer done is
    by false is = (r, Contains-push done r, refl)

has-from : (peer : Peer) (done rs : List FileRec) → HasPeer peer done → HasPeer peer (fold with_rec done rs)
has-from peer done [] has = has
has-from peer done (r ∷ rs) has = has-from peer (with_rec done r) rs (has-more peer done r has)

pub has-first : (done rs : List FileRec) (r : FileRec) → Contains rs r → HasPeer r.peer (fold with_rec done rs)
has-first done [] r c = let within = c.1 in absurd (omega (arith, within))
has-first done (x ∷ rs) r c = elim (Contains-cases x rs r c) [
  | inl same ↦ has-from r.peer (with_rec done x) rs (subst (λ (q : FileRec). HasPeer q.peer (with_rec done x)) same (has-own done x))
  | inr rest ↦ has-first (with_rec done x) rs r rest
]

-- THE TRIED TABLE

apart-rows : (peers : List Peer) (rows : List RawRow) → first_twice peers rows ≡ None → AreApart peers (tried_of rows)
unfolding AreApart
apart-rows peers [] none = tt
apart-rows peers (row ∷ rows) none = by (list_any (same_peer row.rec.peer) peers) refl (apart-rows (peers ++ row.rec.peer ∷ []) rows) none
  where
    by : (b : Bool) → list_any (same_peer row.rec.peer) peers ≡ b → (first_twice (peers ++ row.rec.peer ∷ []) rows ≡ None → AreApart (peers ++ row.rec.peer ∷ []) (tried_of rows)) → (if b then Some row else first_twice (peers ++ row.rec.peer ∷ []) rows) ≡ None
        → (list_any (same_peer row.rec.peer) peers ≡ false) × AreApart (peers ++ row.rec.peer ∷ []) (tried_of rows)
    by true is more some = absurd (cc)
    by false is more rest = (is, more rest)

none_twice : (raw : Raw) → first_fault raw ≡ None → first_twice (peers_of (new_recs raw)) raw.tried ≡ None
none_twice raw none = by (first_again [] raw.new) (first_twice (peers_of (new_recs raw)) raw.tried) none
  where
    by : (a b : Option RawRow) → or_else (again_at New a) (again_at Tried b) ≡ None → b ≡ None
    by None None is = refl
    by None (Some row) is = absurd (cc)
    by (Some row) b is = absurd (cc)

-- BOTH

same-any : (peer : Peer) (earlier : List FileRec) → list_any (λ q. is_valid q.peer.addr && same_peer q.peer peer) earlier ≡ true → list_any (same_peer peer) (peers_of earlier) ≡ true
same-any peer [] any = any
same-any peer (r ∷ rs) any = by (same_peer peer r.peer) refl (is_valid r.peer.addr && same_peer r.peer peer) refl (same-any peer rs) any
  where
    by : (a : Bool) → same_peer peer r.peer ≡ a → (b : Bool) → (is_valid r.peer.addr && same_peer r.peer peer) ≡ b
        → (list_any (λ q. is_valid q.peer.addr && same_peer q.peer peer) rs ≡ true → list_any (same_peer peer) (peers_of rs) ≡ true)
        → (b || list_any (λ q. is_valid q.peer.addr && same_peer q.peer peer) rs) ≡ true
        → (a || list_any (same_peer peer) (peers_of rs)) ≡ true
    by true is b all more rest = refl
    by false is false all more rest = more rest
    by false is true all more rest = absurd (both_ways (same_peer peer r.peer) is ((same_peer-Decides peer r.peer).1 (sym ((same_peer-Decides r.peer peer).0 (and_parts (is_valid r.peer.addr) (same_peer r.peer peer) all).1))))

none_from : (earlier rs : List FileRec) (index : ℕ) → AreApart (peers_of earlier) rs → duplicate_from earlier index rs ≡ None
unfolding AreApart
none_from earlier [] index apart = refl
none_from earlier (r ∷ rs) index apart =
    by (is_repeated earlier r) refl
    (none_from (earlier ++ r ∷ []) rs (index + 1) (subst (λ ps. AreApart ps rs) (sym (map-append (λ (q : FileRec). q.peer) earlier (r ∷ []))) apart.1))
  where
    by : (b : Bool) → is_repeated earlier r ≡ b → duplicate_from (earlier ++ r ∷ []) (index + 1) rs ≡ None → (if b then Some index else duplicate_from (earlier ++ r ∷ []) (index + 1) rs) ≡ None
    by true is more = absurd (both_ways (list_any (same_peer r.peer) (peers_of earlier)) apart.0 (same-any r.peer earlier (and_parts (is_valid r.peer.addr) _ is).1))
    by false is more = more

-- no valid record has the peer of an earlier one
pub no_duplicate : (raw : Raw) → first_fault raw ≡ None → duplicate_from [] 0 (new_recs raw ++ tried_of raw.tried) ≡ None
no_duplicate raw none =
    none_from [] (new_recs raw ++ tried_of raw.tried) 0
    (apart-append [] (new_recs raw) (tried_of raw.tried) (apart-firsts [] (recs_of raw.new) (apart-nil [])) (apart-rows (peers_of (new_recs raw)) raw.tried (none_twice raw none)))
