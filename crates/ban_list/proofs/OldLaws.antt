-- What an old file has, as two readers see it: its elements by serde_json, and its tree by json.
use Rattle.std.proofs.Common.{◌≡◌, ℕ, suc, List, [], ◌∷◌, length, map, Bool, true, false, cond, Option, Some, None, refl, sym, ap, ◌∙◌, subst, arith}
use Rattle.std.specs.Prelude.{All, Err, IfOk, Ok, Result, codes, option_and_then, option_map}
use Rattle.std.proofs.lemmas.List.Elements.{All-cons, All-head, All-nil, All-tail}
use Rattle.std.specs.Str.{bytes_eq}
use Rattle.std.proofs.lemmas.Slice.Eq.{bytes_eq-Decides}
use Rattle.json.specs.Json as json
use Rattle.json.specs.Json.{Json, document, if_last, value}
use Rattle.json.specs.Find as find
use Rattle.json.specs.Lex.{tokens}
use Rattle.json.specs.Token.{Token}
use Rattle.json.specs.Tree.{HasNumbers, ItemsHaveNumbers}
use Rattle.json.specs.Value.{value_view}
use Rattle.json.specs.declared.value.Value.{Value}
use Rattle.json.proofs.Found.{one_reading}
use Rattle.json.proofs.Numbered.{HasNumbers-get}
use Rattle.serde_json.specs.Data.{Data, Items, Members, array, item, no_items, no_members, object, put}
use Rattle.serde_json.specs.Find.{as_array, get, get_member}
use Rattle.serde_json.specs.Read.{of_items, of_json, of_members, read}
use Rattle.serde_json.specs.View as shown
use Rattle.serde_json.proofs.Views.{get_member-put, get_member-put_other}
use Rattle.ban_list.specs.BanFile.{IsElement}
use Rattle.ban_list.specs.NewFile.{AreOldElements, IsOldElement, IsOldFile, Member, items_of, members_of}
use Rattle.ban_list.specs.OldFile.{AreSubnets, IsSubnetOf, array_list, elements_with, item_list, list_in}
use Rattle.ban_list.specs.declared.ban.Ban.{Ban}
use Rattle.ban_list.specs.declared.ban.BanRule.TheVariants.{Names}
use Rattle.ban_list.specs.declared.subnet.Subnet.{Subnet}

abbrev or_else : {A : Type 0} → A → Option A → A
or_else d None = d
or_else d (Some a) = a

pub Some_inj : {A : Type 0} (a b : A) → Some a ≡ Some b → a ≡ b
Some_inj a b e = ap (or_else a) e

pub then_some : {A B : Type 0} (f : A → Option B) (o : Option A) (b : B) → option_and_then f o ≡ Some b → (a : A) × (o ≡ Some a) × (f a ≡ Some b)
then_some f None b e = absurd (cc)
then_some f (Some a) b e = (a, refl, e)

pub map_some : {A B : Type 0} (f : A → B) (o : Option A) (b : B) → option_map f o ≡ Some b → (a : A) × (o ≡ Some a) × (f a ≡ b)
map_some f None b e = absurd (cc)
map_some f (Some a) b e = (a, refl, Some_inj (f a) b e)

last_by : (i j : Json) (ts : List Token) → if_last i ts ≡ Some j → ◌≡◌ {A = Option (Json × List Token)} (Some (i, ts)) (Some (j, []))
last_by i j [] e = ap (λ x. let p : Json × List Token = (x, []) in Some p) (Some_inj i j e)
last_by i j (t ∷ ts) e = absurd (cc)

pub last : (o : Option (Json × List Token)) (j : Json) → option_and_then (λ p. if_last p.0 p.1) o ≡ Some j → o ≡ Some (j, [])
last None j e = absurd (cc)
last (Some (i, ts)) j e = last_by i j ts e

-- both readers take the same value from a text
pub tree_reads : (text : List ℕ) (d : Data) (j : Json) → read text ≡ Some d → document text ≡ Some j → of_json j ≡ Some d
tree_reads text d j is tree =
    let (i, whole, own) = then_some of_json (option_and_then (λ p. if_last p.0 p.1) (value 127 (tokens text))) d is in
    let same = Some_inj (i, []) (j, []) (one_reading 127 128 (tokens text) (i, []) (j, []) (last _ i whole) (last _ j tree)) in
    ap of_json (sym (ap (λ p. p.0) same)) ∙ own

abbrev pub read_or : Option Json → Option Data → Option Data
read_or None old = old
read_or (Some j) old = of_json j

put_found : (b : Bool) (name k : List ℕ) (j : Json) (d : Data) (old : Members) → bytes_eq k name ≡ b → of_json j ≡ Some d →
    get_member name (put k d old) ≡ read_or (cond b (Some j) None) (get_member name old)
put_found true name k j d old is own =
    let same = (bytes_eq-Decides k name).0 is in
    ap (λ n. get_member n (put k d old)) (sym same) ∙ get_member-put k d old ∙ sym own
put_found false name k j d old is own = get_member-put_other name k d old (λ same. apart (sym is ∙ (bytes_eq-Decides k name).1 (sym same)))
  where
    apart : false ≡ true → ⊥
    apart e = cc

later : (o : Option Json) (own : Option Json) (old now : Option Data) → now ≡ read_or own old → read_or o now ≡ read_or (find.later_or o own) old
later None own old now same = same
later (Some j) own old now same = refl

-- a member of an object is what its last value reads as
pub get_read : (name : List ℕ) (ms : json.Members) (old new : Members) → of_members ms old ≡ Some new → get_member name new ≡ read_or (find.get_member name ms) (get_member name old)
get_read name json.no_members old new is = ap (get_member name) (sym (Some_inj old new is))
get_read name (json.member k j ms) old new is =
    let (d, own, more) = then_some (λ d. of_members ms (put k d old)) (of_json j) new is in
    get_read name ms (put k d old) new more
    ∙ later (find.get_member name ms) (cond (bytes_eq k name) (Some j) None) (get_member name old) (get_member name (put k d old)) (put_found (bytes_eq k name) name k j d old refl own)

listed_items : (js : json.Items) → items_of (item_list js) ≡ js
listed_items json.no_items = refl
listed_items (json.item j js) = ap (json.item j) (listed_items js)

array_of : (j : Json) (js : List Json) → array_list j ≡ Some js → j ≡ json.array (items_of js)
array_of json.null js e = absurd (cc)
array_of (json.boolean b) js e = absurd (cc)
array_of (json.number s) js e = absurd (cc)
array_of (json.string s) js e = absurd (cc)
array_of (json.array items) js e = ap json.array (sym (listed_items items) ∙ ap items_of (Some_inj (item_list items) js e))
array_of (json.object ms) js e = absurd (cc)

-- the array under the name of the list
pub list_found : (j : Json) (js : List Json) → list_in j ≡ Some js → find.get (codes "banned_nets") j ≡ Some (json.array (items_of js))
list_found j js e =
    let (a, found, own) = then_some array_list (find.get (codes "banned_nets") j) js e in
    found ∙ ap Some (array_of a js own)

-- its elements, as both readers see them
pub items_read : (ms : json.Members) (js : List Json) (d : Data) (ds : List Data) → of_json (json.object ms) ≡ Some d → find.get (codes "banned_nets") (json.object ms) ≡ Some (json.array (items_of js)) →
    option_and_then as_array (get (codes "banned_nets") d) ≡ Some (shown.items_of ds) → of_items (items_of js) ≡ Some (shown.items_of ds)
items_read ms js d ds is found listed =
    let (new, made, own) = map_some object (of_members ms no_members) d is in
    let here : get (codes "banned_nets") d ≡ option_map array (of_items (items_of js)) =
    ap (get (codes "banned_nets")) (sym own) ∙ get_read (codes "banned_nets") ms no_members new made ∙ ap (λ o. read_or o None) found in
    through (of_items (items_of js)) (shown.items_of ds) (ap (option_and_then as_array) (sym here) ∙ listed)
  where
    through : (o : Option Items) (items : Items) → option_and_then as_array (option_map array o) ≡ Some items → o ≡ Some items
    through None items e = absurd (cc)
    through (Some own) items e = e

abbrev first_of : Items → Data → Data
first_of no_items d = d
first_of (item d ds) e = d

abbrev rest_of : Items → Items
rest_of no_items = no_items
rest_of (item d ds) = ds

abbrev is_item : Items → Bool
is_item no_items = false
is_item (item d ds) = true

one_data : (j : Json) (d e : Data) → of_json j ≡ Some d → of_json j ≡ Some e → d ≡ e
one_data j d e p q = Some_inj d e (sym p ∙ q)

old_element : (j : Json) (d : Data) (own : Option Subnet) → of_json j ≡ Some d → IsSubnetOf d own → IsOldElement j own
old_element j d None is none = λ e read ban element. none ban (subst (λ x. IsElement Names x ban) (one_data j e d read is) element)
old_element j d (Some subnet) is (ban, element, same) = (d, is, ban, element, same)

-- which elements of the tree are bans, and that none is left out
pub old_elements : (js : List Json) (ds : List Data) (subnets : List (Option Subnet)) → of_items (items_of js) ≡ Some (shown.items_of ds) → AreSubnets ds subnets →
    (length js ≡ length subnets) × AreOldElements (elements_with js subnets)
unfolding AreSubnets AreOldElements then_some map_some
old_elements [] [] [] is are = (refl, tt)
old_elements [] [] (s ∷ subnets) is are = absurd (cc)
old_elements [] (d ∷ ds) subnets is are = absurd (apart (ap is_item (Some_inj _ _ is)))
  where
    apart : false ≡ true → ⊥
    apart e = cc
old_elements (j ∷ js) [] subnets is are =
    let (d, own, more) = then_some (λ d. option_map (item d) (of_items (items_of js))) (of_json j) no_items is in
    let (rest, made, same) = map_some (item d) (of_items (items_of js)) no_items more in
    absurd (apart (ap is_item same))
  where
    apart : true ≡ false → ⊥
    apart e = cc
old_elements (j ∷ js) (e ∷ ds) [] is are = absurd are
old_elements (j ∷ js) (e ∷ ds) (s ∷ subnets) is are =
    let (d, own, more) = then_some (λ d. option_map (item d) (of_items (items_of js))) (of_json j) (shown.items_of (e ∷ ds)) is in
    let (rest, made, same) = map_some (item d) (of_items (items_of js)) (shown.items_of (e ∷ ds)) more in
    let first : d ≡ e = ap (λ x. first_of x d) same in
    let (long, after) = old_elements js ds subnets (made ∙ ap (λ x. Some (rest_of x)) same) are.1 in
    (ap suc long, (old_element j e s (own ∙ ap Some first) are.0, after))

pub elements_first : (js : List Json) (subnets : List (Option Subnet)) → length js ≡ length subnets → map (λ e. e.0) (elements_with js subnets) ≡ js
elements_first [] subnets long = refl
elements_first (j ∷ js) [] long = absurd (omega (arith, long))
elements_first (j ∷ js) (s ∷ subnets) long = ap (λ xs. j ∷ xs) (elements_first js subnets (omega (arith, long)))

pub ok_both : {V E : Type 0} (P Q R : V → Type 0) → ((v : V) → P v → Q v → R v) → (r : Result V E) → IfOk r P → IfOk r Q → IfOk r R
ok_both P Q R f (Ok v) p q = f v p q
ok_both P Q R f (Err e) p q = tt

items_all : (js : json.Items) → ItemsHaveNumbers js → All HasNumbers (item_list js)
items_all json.no_items have = All-nil HasNumbers
items_all (json.item j js) have = All-cons HasNumbers j (item_list js) have.0 (items_all js have.1)

viewed_all : {A : Type 0} (vs : List (Value A)) → All HasNumbers (map value_view vs) → All (λ v. HasNumbers (value_view v)) vs
viewed_all {A} [] have = All-nil (λ (v : Value A). HasNumbers (value_view v))
viewed_all {A} (v ∷ vs) have =
    All-cons (λ (w : Value A). HasNumbers (value_view w)) v vs (All-head HasNumbers (value_view v) (map value_view vs) have) (viewed_all vs (All-tail HasNumbers (value_view v) (map value_view vs) have))

-- the elements of a tree whose numbers can be written
pub items_numbers : {A : Type 0} (j : Json) (vs : List (Value A)) → HasNumbers j → list_in j ≡ Some (map value_view vs) → All (λ v. HasNumbers (value_view v)) vs
items_numbers j vs have found =
    let js = map value_view vs in
    let own = HasNumbers-get (codes "banned_nets") j (json.array (items_of js)) have (sym (list_found j js found)) in
    viewed_all vs (subst (All HasNumbers) (listed js) (items_all (items_of js) own))
  where
    listed : (js : List Json) → item_list (items_of js) ≡ js
    listed [] = refl
    listed (j ∷ js) = ap (λ xs. j ∷ xs) (listed js)

-- sorted bans over an old file
pub named_over : (bytes : List ℕ) (d : Data) (ds : List Data) (subnets : List (Option Subnet)) (j : Json) (members : List Member) (js : List Json) →
    read bytes ≡ Some d → option_and_then as_array (get (codes "banned_nets") d) ≡ Some (shown.items_of ds) → AreSubnets ds subnets → document bytes ≡ Some j → j ≡ json.object (members_of members) →
    list_in j ≡ Some js → (length js ≡ length subnets) × IsOldFile bytes members (elements_with js subnets)
named_over bytes d ds subnets j members js is listed are tree whole found =
    let own = subst (λ i. of_json i ≡ Some d) whole (tree_reads bytes d j is tree) in
    let array = subst (λ i. find.get (codes "banned_nets") i ≡ Some (json.array (items_of js))) whole (list_found j js found) in
    let (long, all) = old_elements js ds subnets (items_read (members_of members) js d ds own array listed) are in (
      long,
      record {
        text = tree ∙ ap Some whole;
        value = d;
        is_read = is;
        list = array ∙ ap (λ xs. Some (json.array (items_of xs))) (sym (elements_first js subnets long));
        are = all;
      },
    )
