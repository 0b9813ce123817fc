-- The tokens, the texts and the depth of the groups.
use Rattle.std.proofs.Common.{◌≡◌, ℕ, ◌+◌, ◌<◌, ◌≤◌, ◌&&◌, not, nat_le, ◌==◌, ◌||◌, Bool, true, false, cond, filter, List, [], ◌∷◌, ◌++◌, length, get_or, take, map, codes, refl, ap, sym, ◌∙◌, arith, append_assoc}
use Rattle.std.specs.Prelude.{Option, Some, None}
use Rattle.std.specs.List.{flat_map, list_all}
use Rattle.std.specs.Str.{IsAscii}
use Rattle.std.proofs.Math.Nat.{max-le}
use Rattle.std.proofs.lemmas.Bool.{and_parts, leb-true}
use Rattle.std.proofs.lemmas.List.{append-nil, length-map, take_more}
use Rattle.std.proofs.lemmas.List.Concat.{flat_map-append}
use Rattle.std.proofs.lemmas.Str.Ascii.{IsAscii-cons, IsAscii-nil}
use Rattle.json.specs.Json.{Json, string}
use Rattle.json.specs.Token.{Token}
use Rattle.json.specs.Tree.{depth, items_depth, json_tokens}
use Rattle.net_addr.specs.Address.{Address}
use Rattle.peer_rec.specs.declared.rec.Rec.{Rec}
use Rattle.table_groups.specs.Groups.{rows_of}
use Rattle.table_groups.specs.Names.{name_of}
use Rattle.table_groups.specs.Plain.{IsPlain, is_plain}
use Rattle.placing.specs.Places.{Places, asn}
use Rattle.table_groups.specs.declared.ranked_groups.Numbers.{Numbers}
use Rattle.table_groups.specs.declared.ranked_groups.Row.{Row}
use Rattle.node_json.specs.Groups.{group_members, groups_array, groups_json, groups_members, health_members, is_clearnet, items_by, number_members, row_items, totals_by}
use Rattle.node_json.specs.Inside.{items_tokens_of, tokens_of}
use Rattle.node_json.specs.Value.{array_of, items_of, json_number, unless_zero}
use Rattle.node_json.proofs.Items.{array_value, items-append}
use Rattle.node_json.proofs.Tokens.{AreShallow, shallow-append, shallow_object, shallow_unless}
use Rattle.table_groups.specs.View.{View}

-- ---- texts

below : (b : ℕ) → is_plain b ≡ true → b < 128
below b h =
    let both = and_parts (nat_le 32 b && nat_le b 126) (not (b == 60 || b == 62 || b == 38 || b == 34)) h in
    let high = leb-true b 126 (and_parts (nat_le 32 b) (nat_le b 126) both.0).1 in
    omega (arith, high)

pub plain_ascii : (text : List ℕ) → IsPlain text → IsAscii text
plain_ascii [] h = IsAscii-nil
plain_ascii (b ∷ text) h =
    let both = and_parts (is_plain b) (list_all is_plain text) h in
    IsAscii-cons b text (below b both.0) (plain_ascii text both.1)

-- ---- tokens

-- the items of some rows, a row at a time
pub rows_tokens_are : (f : Row → List Json) (rows : List Row) → flat_map (λ row. items_tokens_of (f row)) rows ≡ items_tokens_of (flat_map f rows)
rows_tokens_are f [] = refl
rows_tokens_are f (row ∷ rows) = ap (λ ts. items_tokens_of (f row) ++ ts) (rows_tokens_are f rows) ∙ sym (items-append (f row) (flat_map f rows))

-- the tokens of one row more
pub row_step : (f : Row → List Token) (rows : List Row) (i : ℕ) (d : Row) (first now next : List Token) → i < length rows → now ≡ first ++ flat_map f (take i rows)
    → next ≡ now ++ f (get_or rows i d) → next ≡ first ++ flat_map f (take (i + 1) rows)
row_step f rows i d first now next within so_far more =
    let row = get_or rows i d in
    let before = flat_map f (take i rows) in
    let all : flat_map f (take (i + 1) rows) ≡ before ++ f row =
    ap (flat_map f) (take_more rows i d within) ∙ flat_map-append f (take i rows) (row ∷ []) ∙ ap (λ ts. before ++ ts) (append-nil (f row)) in
    more ∙ ap (λ ts. ts ++ f row) so_far ∙ append_assoc first before (f row) ∙ ap (λ ts. first ++ ts) (sym all)

-- an array under a name, written piece by piece
pub array_written : (name : List ℕ) (js : List Json) (old key begun inside new : List Token) → key ≡ old ++ Token.key name ∷ [] → begun ≡ key ++ Token.begin_array ∷ []
    → inside ≡ begun ++ items_tokens_of js → new ≡ inside ++ Token.end_array ∷ [] → new ≡ old ++ tokens_of ((name, array_of js) ∷ [])
array_written name js old key begun inside new k b i n =
    array_value js key begun inside new b i n ∙ ap (λ ts. ts ++ json_tokens (array_of js)) k
    ∙ append_assoc old (Token.key name ∷ []) (json_tokens (array_of js)) ∙ ap (λ ts. old ++ Token.key name ∷ ts) (sym (append-nil (json_tokens (array_of js))))

-- ---- the depth

shallow_group : (places : Places) (n : Numbers) (a : Address) → AreShallow 0 (group_members places n a)
unfolding group_members number_members
shallow_group places n a =
    let d : depth (string []) ≤ 0 = omega arith in
    let name = (codes "group", string (name_of places a)) ∷ [] in
    let number = unless_zero (codes "mapped_as") (asn places.map a) in
    let rest = (codes "new_slots", json_number n.slots) ∷ (codes "new_buckets", json_number n.buckets) ∷ (codes "new_records", json_number n.records) ∷ (codes "tried_records", json_number n.tried) ∷ [] in
    shallow-append 0 (name ++ number) rest (shallow-append 0 name number (d, tt) (shallow_unless _ _)) (d, (d, (d, (d, tt))))

items_depth-append : (k : ℕ) (xs ys : List Json) → items_depth (items_of xs) ≤ k → items_depth (items_of ys) ≤ k → items_depth (items_of (xs ++ ys)) ≤ k
items_depth-append k [] ys p q = q
items_depth-append k (x ∷ xs) ys p q = max-le (omega (arith, p)) (items_depth-append k xs ys (omega (arith, p)) q)

shallow_items : (places : Places) (n : Numbers) (o : Option Address) → items_depth (items_of (items_by places n o)) ≤ 1
shallow_items places n None = omega arith
shallow_items places n (Some a) = max-le (shallow_object 0 (group_members places n a) (shallow_group places n a)) (omega arith)

shallow_rows : (places : Places) (rows : List Row) → items_depth (items_of (flat_map (row_items places) rows)) ≤ 1
shallow_rows places [] = omega arith
shallow_rows places (row ∷ rows) =
    items_depth-append 1 (row_items places row) (flat_map (row_items places) rows)
    (shallow_items places row.numbers row.first) (shallow_rows places rows)

pub groups_depth : (view : View) → depth (groups_json view) ≤ 128
unfolding groups_json groups_members groups_array health_members totals_by
groups_depth view = omega (arith, shallow_rows view.places (rows_of view))

-- ---- lengths

few_kept : (p : Rec → Bool) (recs : List Rec) → length (filter p recs) ≤ length recs
few_kept p [] = omega arith
few_kept p (r ∷ recs) = by (p r) (few_kept p recs)
  where
    by : (b : Bool) → length (filter p recs) ≤ length recs → length (cond b (r ∷ filter p recs) (filter p recs)) ≤ length (r ∷ recs)
    by true few = omega arith
    by false few = omega arith

pub few_numbers : (places : Places) (recs : List Rec) → length (map (λ r. asn places.map r.peer.addr) (filter is_clearnet recs)) ≤ length recs
few_numbers places recs = omega (arith, few_kept is_clearnet recs, length-map (filter is_clearnet recs) (λ (r : Rec). asn places.map r.peer.addr))
