-- The groups of the peers of some sets, and which part of the lists of tries opens all connections to them.
use Rattle.std.proofs.Common.{◌≡◌, ℕ, ◌+◌, ◌*◌, ◌^◌, ◌≤◌, min, Bool, true, false, ◌||◌, ◌==◌, ◌⊎◌, All, List, [], ◌∷◌, ◌++◌, Contains, filter, fold, map, refl, sym, ap, subst, ◌∙◌, inl, inr, arith, if◌then◌else◌}
use Rattle.std.specs.Prelude.{bytes_eq, ⊤}
use Rattle.std.specs.List.{list_any}
use Rattle.std.proofs.lemmas.List.Elements.{All-cons, All-nil, Contains-append_left, Contains-push}
use Rattle.std.proofs.lemmas.Slice.Eq.{bytes_eq-Decides}
use Rattle.arrayvec.specs.ArrayVec.{ArrayVec}
use Rattle.indexmap.specs.IndexMap.{insert_entry}
use Rattle.net_addr.specs.NetSet.{all}
use Rattle.net_addr.specs.declared.peer.Peer.{Peer}
use Rattle.peer_rec.specs.declared.rec.Rec.{Rec}
use Rattle.placing.specs.Places.{Places, group}
use Rattle.risk_parts.specs.Parts.{HasNoTries, millionths, share_for, wanted_in}
use Rattle.risk_parts.specs.Sets.{is_among}
use Rattle.risk_parts.specs.declared.addr_set.AddrSet.{AddrSet}
use Rattle.risk_parts.proofs.BoundsOf.{rounded}
use Rattle.risk_parts.proofs.Untried.{same_bound}
use Rattle.risk_tries.specs.TenBound.{group_share, ten_bound, whole_of}
use Rattle.risk_tries.specs.Tries.{AreGroupsOf}
use Rattle.table_groups.specs.Tally.{by_bytes, groups_of, noted, once, with_group}
use Rattle.table_groups.proofs.Values.{groups-are}
use Rattle.table_groups.specs.View.{view_of}
use Rattle.table_machine.specs.Sound.{IsSound}
use Rattle.table_machine.specs.State.{State}
use Rattle.table_machine.proofs.Lists.{Contains-cases, Contains-filter, Contains-head, Contains-map, Contains-tail, none_in_nil}
use Rattle.table_risk.specs.Inside.{Sides, both_shares, classes_share, is_none, noted_among, part_by, side_by, side_share, whole_in}
use Rattle.table_risk.specs.Rows.{search}
use Rattle.table_risk.specs.Tens.{groups_among, ten_part}
use Rattle.table_risk.specs.declared.by.By.TheVariants as by
use Rattle.table_risk.proofs.BoundsOf as bounds
use Rattle.table_risk.proofs.RowsOf as rows

-- ---- the groups

abbrev last : ⊤ → ⊤ → ⊤
last before now = now

module _ (places : Places) (sets : List AddrSet) where
  abbrev visit : Rec → List ℕ × ⊤
  visit r = (group places r.peer.addr, tt)

  abbrev own : List Rec → List Rec
  own recs = filter (λ r. is_among places sets r.peer) recs

  folded : (recs : List Rec) (es : List (List ℕ × ⊤)) → fold (noted_among places sets) es recs ≡ fold (noted tt last) es (map visit (own recs))
  folded [] es = refl
  folded (r ∷ recs) es = by (is_among places sets r.peer) (folded recs (noted tt last es (visit r))) (folded recs es)
    where
      by : (b : Bool) → fold (noted_among places sets) (noted tt last es (visit r)) recs ≡ fold (noted tt last) (noted tt last es (visit r)) (map visit (own recs))
          → fold (noted_among places sets) es recs ≡ fold (noted tt last) es (map visit (own recs))
          → fold (noted_among places sets) (if b then insert_entry bytes_eq es (group places r.peer.addr) tt else es) recs
          ≡ fold (noted tt last) es (map visit (if b then r ∷ own recs else own recs))
      by true more same = more
      by false more same = same

  visit_groups : (recs : List Rec) → map (λ (v : List ℕ × ⊤). v.0) (map visit recs) ≡ map (λ r. group places r.peer.addr) recs
  visit_groups [] = refl
  visit_groups (r ∷ recs) = ap (λ (gs : List (List ℕ)). group places r.peer.addr ∷ gs) (visit_groups recs)

  each_group : (recs : List Rec) → groups_of (fold (noted_among places sets) [] recs) ≡ once (map (λ r. group places r.peer.addr) (own recs))
  each_group recs =
      ap (λ (es : List (List ℕ × ⊤)). groups_of es) (folded recs []) ∙ groups-are tt last (map visit (own recs)) ∙ ap once (visit_groups (own recs))

pub groups_are : (st : State) (sets : List AddrSet) (places : Places) (recs : List Rec) (es : List (List ℕ × ⊤)) → places ≡ st.places → recs ≡ st.records
    → es ≡ fold (noted_among places sets) [] recs → groups_of es ≡ groups_among st sets
groups_are st sets places recs es here are is =
    ap (λ (t : List (List ℕ × ⊤)). groups_of t) (is ∙ (λ i. fold (noted_among (here i) sets) [] (are i))) ∙ each_group st.places sets st.records

-- the groups of the keys of a map
keys_are : (es : List (ArrayVec ℕ × ⊤)) → map (λ (g : ArrayVec ℕ). g.items) (map (λ (e : ArrayVec ℕ × ⊤). e.0) es) ≡ groups_of (by_bytes es)
keys_are [] = refl
keys_are (e ∷ es) = ap (λ (gs : List (List ℕ)). e.0.items ∷ gs) (keys_are es)

-- ---- the shares

share_few : (side : Sides) (g : List ℕ) → side_share side g ≤ 2 ^ 64
share_few side g = by (is_none side) (classes_share side.classes g)
  where
    by : (b : Bool) (n : ℕ) → (if b then 0 else min n (2 ^ 64)) ≤ 2 ^ 64
    by true n = omega arith
    by false n = omega arith

pub shares_few : (new tried : Sides) (groups : List (ArrayVec ℕ)) (shares : List ℕ) → shares ≡ map (λ g. both_shares new tried g.items) groups → All (λ s. s ≤ 2 ^ 65) shares
shares_few new tried groups shares is = subst (All (λ s. s ≤ 2 ^ 65)) (sym is) (each groups)
  where
    each : (groups : List (ArrayVec ℕ)) → All (λ s. s ≤ 2 ^ 65) (map (λ g. both_shares new tried g.items) groups)
    each [] = All-nil (λ s. s ≤ 2 ^ 65)
    each (g ∷ groups) =
        All-cons (λ s. s ≤ 2 ^ 65) (both_shares new tried g.items) (map (λ g. both_shares new tried g.items) groups)
        (omega (arith, share_few new g.items, share_few tried g.items)) (each groups)

map_map : (h : List ℕ → ℕ) (groups : List (ArrayVec ℕ)) → map (λ g. h g.items) groups ≡ map h (map (λ g. g.items) groups)
map_map h [] = refl
map_map h (g ∷ groups) = ap (λ (ns : List ℕ). h g.items ∷ ns) (map_map h groups)

-- the part by the shares of the groups of a map
pub part_is : (new tried : Sides) (groups : List (ArrayVec ℕ)) (shares : List ℕ) (whole bound part : ℕ) → shares ≡ map (λ g. both_shares new tried g.items) groups
    → whole ≡ whole_in new tried → bound ≡ ten_bound shares whole (2 ^ 62) → part ≡ millionths bound (2 ^ 62)
    → part ≡ part_by new tried (map (λ g. g.items) groups)
part_is new tried groups shares whole bound part are all is made =
    made ∙ ap (λ n. millionths n (2 ^ 62)) is ∙ (λ i. millionths (ten_bound ((are ∙ map_map (both_shares new tried) groups) i) (all i) (2 ^ 62)) (2 ^ 62))

module _ (st : State) (now : ℕ) (sets : List AddrSet) (sound : IsSound st) where
  shares_are : (g : List ℕ) → both_shares (side_by (view_of st) (search true by.Peer now)) (side_by (view_of st) (search false by.Peer now)) g ≡ group_share st now g
  shares_are g =
      let own : Peer → Bool = λ peer. bytes_eq g (group st.places peer.addr) in
      let same = λ (in_new : Bool). rows.share_same (view_of st) (search in_new by.Peer now) g ∙ sym (bounds.share_same st by.Peer now g own sound (λ r has. refl) in_new) in
      λ i. same true i + same false i

  -- the part by the sides of both tables
  pub part_same : (new tried : Sides) (es : List (ArrayVec ℕ × ⊤)) (part : ℕ) → new ≡ side_by (view_of st) (search true by.Peer now) → tried ≡ side_by (view_of st) (search false by.Peer now)
      → groups_of (by_bytes es) ≡ groups_among st sets → part ≡ part_by new tried (map (λ (g : ArrayVec ℕ). g.items) (map (λ (e : ArrayVec ℕ × ⊤). e.0) es))
      → part ≡ ten_part st now sets
  part_same new tried es part one two are made =
      made ∙ (λ i. part_by (one i) (two i) ((keys_are es ∙ are) i))
      ∙ (λ i. millionths (ten_bound (map (λ g. shares_are g i) (groups_among st sets)) (whole_of st) (2 ^ 62)) (2 ^ 62))

-- ---- the law

any_has : (g : List ℕ) (gs : List (List ℕ)) → list_any (bytes_eq g) gs ≡ true → Contains gs g
any_has g [] is = absurd (cc)
any_has g (h ∷ gs) is = by (bytes_eq g h) refl is (any_has g gs)
  where
    by : (b : Bool) → bytes_eq g h ≡ b → (b || list_any (bytes_eq g) gs) ≡ true → (list_any (bytes_eq g) gs ≡ true → Contains gs g) → Contains (h ∷ gs) g
    by true same is later = subst (λ (k : List ℕ). Contains (k ∷ gs) g) ((bytes_eq-Decides g h).0 same) (Contains-head g gs)
    by false other is later = Contains-tail h gs g (later is)

one_has : (x g : List ℕ) (seen : List (List ℕ)) → Contains seen g → Contains (with_group seen x) g
one_has x g seen there = by (list_any (bytes_eq x) seen)
  where
    by : (b : Bool) → Contains (if b then seen else seen ++ x ∷ []) g
    by true = there
    by false = Contains-append_left seen (x ∷ []) g there

own_has : (g : List ℕ) (seen : List (List ℕ)) → Contains (with_group seen g) g
own_has g seen = by (list_any (bytes_eq g) seen) refl
  where
    by : (b : Bool) → list_any (bytes_eq g) seen ≡ b → Contains (if b then seen else seen ++ g ∷ []) g
    by true is = any_has g seen is
    by false is = Contains-push seen g

fold_has : (g : List ℕ) (xs seen : List (List ℕ)) → Contains seen g ⊎ Contains xs g → Contains (fold with_group seen xs) g
fold_has g [] seen (inl there) = there
fold_has g [] seen (inr none) = absurd (none_in_nil g none)
fold_has g (x ∷ xs) seen (inl there) = fold_has g xs (with_group seen x) (inl (one_has x g seen there))
fold_has g (x ∷ xs) seen (inr some) = fold_has g xs (with_group seen x) (by (Contains-cases x xs g some))
  where
    by : (x ≡ g) ⊎ Contains xs g → Contains (with_group seen x) g ⊎ Contains xs g
    by (inl same) = inl (subst (λ (k : List ℕ). Contains (with_group seen k) g) (sym same) (own_has g seen))
    by (inr more) = inr more

pub are_groups : (st : State) (sets : List AddrSet) → AreGroupsOf st (is_among st.places sets) (groups_among st sets)
are_groups st sets r has own =
    fold_has (group st.places r.peer.addr) (map (λ q. group st.places q.peer.addr) (filter (λ q. is_among st.places sets q.peer) st.records)) []
    (inr (Contains-map (λ q. group st.places q.peer.addr) (filter (λ q. is_among st.places sets q.peer) st.records) r
    (Contains-filter (λ q. is_among st.places sets q.peer) st.records r has own)))

pub in_millionths : (a w bound : ℕ) → a ≤ w → a * 2 ^ 62 ≤ w * bound → a * 10 ^ 6 ≤ w * millionths bound (2 ^ 62)
in_millionths a w bound low few = rounded a w bound (2 ^ 62) (omega arith) low few

module _ (st : State) (none : HasNoTries st) (now later : ℕ) (one : 600 ≤ now) (two : 600 ≤ later) where
  same_share : (in_new : Bool) (theirs : Peer → Bool) → share_for st in_new later theirs ≡ share_for st in_new now theirs
  same_share in_new theirs = λ i. if wanted_in st in_new == 0 then 0 else min (same_bound st none now later one two in_new theirs i) (2 ^ 64)

  same_group : (g : List ℕ) → group_share st later g ≡ group_share st now g
  same_group g =
      let own : Peer → Bool = λ peer. bytes_eq g (group st.places peer.addr) in
      λ i. same_share true own i + same_share false own i

  pub same_part : (sets : List AddrSet) → ten_part st later sets ≡ ten_part st now sets
  same_part sets = λ i. millionths (ten_bound (map (λ g. same_group g i) (groups_among st sets)) (whole_of st) (2 ^ 62)) (2 ^ 62)
