-- A picture is the text of one tree.
use Rattle.std.proofs.Common.{◌≡◌, ◌++◌, ℕ, ◌+◌, ◌-◌, ◌/◌, ◌%◌, ◌==◌, Bool, true, false, cond, List, [], ◌∷◌, length, map, refl}
use Rattle.std.specs.Prelude.{All, IfSome, codes, Option, Some, None, find, nat_lt}
use Rattle.std.specs.List.{position_or_len, range_with_len}
use Rattle.std.proofs.lemmas.List.Elements.{All-contains, All-from_recursion}
use Rattle.std.specs.List.{AllByRecursion}
use Rattle.peer_rec.specs.Rec.{IsRec}
use Rattle.peer_rec.specs.declared.rec.Rec.{Rec}
use Rattle.picture_text.specs.Markup.{IsPlain, IsTree}
use Rattle.table_machine.proofs.Lists.{find-Some}
use Rattle.table_machine.specs.State.{State, is_new_at, is_tried_at, new_rec_at, tried_rec_at}
use Rattle.table_picture.specs.By.{age_class, age_name, name_by, newest_in, rec_in, view_by}
use Rattle.table_picture.specs.Facts.{facts_of}
use Rattle.table_picture.specs.Picture.{listed_of, mark_name, marks_of, names_in, picture_by, picture_from, picture_of, picture_of_sets, picture_with, rec_name, spread_marks}
use Rattle.table_picture.specs.Slots.{rec_set, slot_marks}
use Rattle.picture_text.specs.Picture.{picture_by_text, spread_picture}
use Rattle.picture_text.specs.Spread.{spread_of}
use Rattle.picture_laws.proofs.Coloured.{picture-by-tree, sets-tree, spread-tree}
use Rattle.picture_laws.proofs.Facts.{plain-facts}
use Rattle.picture_laws.proofs.SetTexts.{plain-sets}
use Rattle.table_picture.specs.Sets.{HasAddress}
use Rattle.risk_parts.specs.Sets.{set_text}
use Rattle.risk_parts.specs.declared.addr_set.AddrSet.{AddrSet}
use Rattle.picture_laws.proofs.Markups.{picture-tree}
use Rattle.table_groups.proofs.PlainNames.{name-plain}
use Rattle.table_groups.specs.Sources.{sources_of}
use Rattle.table_groups.specs.View.{View, occupant_at, view_of}
use Rattle.net_addr.specs.Address.{IsAddress}
use Rattle.net_addr.specs.Text.{net_name}
use Rattle.net_addr.specs.declared.net.Net.{Net}
use Rattle.net_addr.specs.declared.net.Net.TheVariants.{Unroutable, Ipv4, Ipv6, Onion, I2p, Cjdns, Internal}
use Rattle.peer_rec.specs.Rec.{network}
use Rattle.picture_text.specs.declared.by.By.{By}
use Rattle.picture_text.specs.declared.by.By.TheVariants.{Network, Source, Group, Age}
use Rattle.placing.specs.Places.{Places}
use Rattle.picture_laws.specs.Slots.{HasAddresses, HasPeers, HasSources}

module _ (st : State) (each : All IsRec st.records) where
  known : (test : Rec → Bool) → IfSome (find test st.records) HasAddresses
  known test = by (find test st.records) refl
    where
      by : (o : Option Rec) → find test st.records ≡ o → IfSome o HasAddresses
      by None e = tt
      by (Some r) e = let is : IsRec r = All-contains IsRec st.records r each (find-Some test st.records r e).0 in (is.source, is.addr)

  -- the sources and peers of the records in a state's slots are addresses
  pub has-addresses : HasPeers (view_of st)
  has-addresses true bucket slot = known (is_new_at st.places bucket slot)
  has-addresses false bucket slot = known (is_tried_at st.places bucket slot)

  source-of : (o : Option Rec) → IfSome o HasAddresses → IfSome o (λ r. IsAddress r.source)
  source-of None is = tt
  source-of (Some r) is = is.0

  pub has-sources : HasSources (view_of st)
  has-sources true bucket slot = source-of (new_rec_at st bucket slot) (has-addresses true bucket slot)
  has-sources false bucket slot = source-of (tried_rec_at st bucket slot) (has-addresses false bucket slot)

-- the names of the slots are plain if those of their records are
module _ (view : View) (what : By) (newest : ℕ) (IsNamed : Rec → Type 0) (each : (in_new : Bool) (bucket slot : ℕ) → IfSome (occupant_at view in_new bucket slot) IsNamed)
    (named : (r : Rec) → IsNamed r → IsPlain (name_by what newest view.places r)) where
  found-plain : (o : Option Rec) → IfSome o IsNamed → IsPlain (rec_name what newest view.places o)
  found-plain None is = refl
  found-plain (Some r) is = named r is

  slot-plain : (slot : ℕ) → IsPlain (rec_name what newest view.places (rec_in view slot))
  slot-plain slot = by (nat_lt slot 65536) (nat_lt slot 81920)
    where
      by : (a b : Bool) → IsPlain (rec_name what newest view.places (cond a (view.new (slot / 64) (slot % 64)) (cond b (view.tried ((slot - 65536) / 64) ((slot - 65536) % 64)) None)))
      by true b = found-plain (view.new (slot / 64) (slot % 64)) (each true (slot / 64) (slot % 64))
      by false true = found-plain (view.tried ((slot - 65536) / 64) ((slot - 65536) % 64)) (each false ((slot - 65536) / 64) ((slot - 65536) % 64))
      by false false = refl

  each-name : (marks is : List ℕ) → AllByRecursion IsPlain (map (mark_name what newest view marks) is)
  each-name marks [] = tt
  each-name marks (i ∷ is) = (slot-plain (position_or_len (λ m. m == i + 1) marks), each-name marks is)

  pub all-plain : (marks : List ℕ) (count : ℕ) → All IsPlain (names_in what newest view marks count)
  all-plain marks count = All-from_recursion IsPlain (names_in what newest view marks count) (each-name marks (range_with_len 0 count))

module _ (view : View) (each : HasSources view) where
  pub tree-of-view : IsTree (codes "svg") (picture_of view)
  unfolding picture_of
  tree-of-view =
      let marks : List ℕ = marks_of view in
      picture-tree (sources_of view) marks (names_in Source 0 view marks (length (listed_of view)))
      (all-plain view Source 0 (λ r. IsAddress r.source) each (λ r is. name-plain view.places r.source is) marks (length (listed_of view)))

-- the picture of a state is one too
pub tree-of : (st : State) → All IsRec st.records → IsTree (codes "svg") (picture_of (view_of st))
tree-of st each = tree-of-view (view_of st) (has-sources st each)

-- WITH OTHER COLOURS

net-plain : (n : Net) → IsPlain (net_name n)
net-plain Unroutable = refl
net-plain Ipv4 = refl
net-plain Ipv6 = refl
net-plain Onion = refl
net-plain I2p = refl
net-plain Cjdns = refl
net-plain Internal = refl

age-plain : (class : ℕ) → IsPlain (age_name class)
age-plain class = by (class == 0) (class == 1) (class == 2) (class == 3)
  where
    by : (a b c d : Bool) → IsPlain (cond a (codes "under a day") (cond b (codes "1 to 3 days") (cond c (codes "3 to 7 days") (cond d (codes "1 to 4 weeks") (codes "4 weeks or more")))))
    by true b c d = refl
    by false true c d = refl
    by false false true d = refl
    by false false false true = refl
    by false false false false = refl

named-plain : (what : By) (newest : ℕ) (places : Places) (r : Rec) → HasAddresses r → IsPlain (name_by what newest places r)
named-plain Network newest places r is = net-plain (network r)
named-plain Source newest places r is = name-plain places r.source is.0
named-plain Group newest places r is = name-plain places r.peer.addr is.1
named-plain Age newest places r is = age-plain (age_class newest r.time)

picture-tree-from : (what : By) (facts : List ℕ) (view : View) (names : List (List ℕ)) → IsPlain facts → All IsPlain names → IsTree (codes "svg") (picture_from what facts view names)
picture-tree-from what facts view names plain each = by (spread_of what (sources_of view) == 0)
  where
    by : (b : Bool) → IsTree (codes "svg")
        (cond b (picture_by_text what facts (sources_of view) (marks_of view) names) (spread_picture what facts (sources_of view) (marks_of view) names (spread_marks what view)))
    by true = picture-by-tree what facts (sources_of view) (marks_of view) names plain each
    by false = spread-tree what facts (sources_of view) (marks_of view) names (spread_marks what view) plain each

pub tree-by-view : (what : By) (chain : List ℕ) (view : View) → IsPlain chain → HasPeers view → IsTree (codes "svg") (picture_by what chain view)
unfolding picture_with
tree-by-view what chain view plain each =
    let newest : ℕ = newest_in view.records in
    let other : View = view_by what newest view in
    picture-tree-from what (facts_of chain view) other (names_in what newest view (marks_of other) (length (listed_of other))) (plain-facts chain view.records view.places plain)
    (all-plain view what newest HasAddresses each (λ r is. named-plain what newest view.places r is) (marks_of other) (length (listed_of other)))

pub tree-by : (what : By) (chain : List ℕ) (st : State) → IsPlain chain → All IsRec st.records → IsTree (codes "svg") (picture_by what chain (view_of st))
tree-by what chain st plain each = tree-by-view what chain (view_of st) plain (has-addresses st each)

-- of sets of addresses
pub tree-of-sets : (sets : List AddrSet) (chain : List ℕ) (view : View) → IsPlain chain → All HasAddress sets → IsTree (codes "svg") (picture_of_sets sets chain view)
unfolding picture_of_sets
tree-of-sets sets chain view plain each =
    sets-tree (facts_of chain view) (slot_marks (rec_set view.places sets) view) (map set_text sets) (plain-facts chain view.records view.places plain) (plain-sets sets each)
