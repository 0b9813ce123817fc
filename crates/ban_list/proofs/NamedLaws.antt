-- The file that is written by the rule of Bitcoin Core, and the tokens of its parts.
use Rattle.std.proofs.Common.{◌≡◌, ℕ, zero, suc, ◌+◌, ◌-◌, ◌<◌, List, [], ◌∷◌, ◌++◌, length, map, take, drop, get_or, nat_lt, codes, All, Bool, true, false, cond, Option, Some, None, Vec, Global, refl, sym, ap, ◌∙◌, subst, arith}
use Rattle.std.specs.Prelude.{filter, flat_map, not, Result, Ok, Err, OnOk}
use Rattle.std.specs.Map.{lookup}
use Rattle.std.proofs.lemmas.Grind.{common_steps, flat_map-append}
use Rattle.std.proofs.lemmas.List.{append-nil, append_assoc, drop_more, length-append, take_more, length-take-le}
use Rattle.std.proofs.lemmas.List.Elements.{All-cons, All-head, All-nil, All-tail}
use Rattle.json.specs.Json.{Json, Members, array, boolean, member, no_members, null, number, object, string}
use Rattle.json.specs.Token.{Token}
use Rattle.json.specs.Tree.{HasNumbers, MembersHaveNumbers, json_tokens, items_tokens, members_tokens}
use Rattle.json.specs.Value.{items_view, members_view, value_view}
use Rattle.serde_json.specs.Data.{Data}
use Rattle.json.specs.Written.{Written}
use Rattle.json.specs.declared.value.Value.{Value}
use Rattle.std.specs.Borrow.{Bor}
use Rattle.ban_list.specs.Bans.{same_subnet}
use Rattle.ban_list.specs.NewFile.{Element, Member, ban_tree, besides, besides_at, is_ban_name, is_list_name, items_of, list_tree, members_in, members_list, members_of, other_of, own_members, with_list}
use Rattle.ban_list.specs.OldFile.{AreSubnets, IsAppended, IsStoredAt, IsSubnetOf, ban_tokens, bans_it, beside_tokens, besides_tokens, elements_with, has_name, item_list, item_tokens, list_of, member_tokens, member_view, other_tokens, places_at, places_from, places_of, tokens_of}
use Rattle.ban_list.specs.declared.ban.Ban.{Ban}
use Rattle.ban_list.specs.declared.named_text.Part.{Part}
use Rattle.ban_list.specs.declared.named_text.Part.TheVariants as part
use Rattle.ban_list.specs.declared.subnet.Subnet.{Subnet}
use Rattle.ban_list.proofs.BanLaws.{same_subnet-Decides}
use Rattle.ban_list.proofs.FileLaws.{next_elements}

-- what was written for one element more
pub next_appended : {X : Type 0} (f : X → List Token) (xs : List X) (i : ℕ) (x : X) (a b c : Written) → i < length xs → x ≡ get_or xs i x →
    IsAppended a b (flat_map f (take i xs)) → IsAppended b c (f x) → IsAppended a c (flat_map f (take (i + 1) xs))
next_appended f xs i x a b c lt is before now =
    let more : flat_map f (take (i + 1) xs) ≡ flat_map f (take i xs) ++ f x =
    ap (flat_map f) (take_more xs i x lt ∙ ap (λ y. take i xs ++ y ∷ []) (sym is)) ∙ flat_map-append f (take i xs) (x ∷ []) ∙ ap (λ ts. flat_map f (take i xs) ++ ts) (append-nil (f x)) in
    (now.0 ∙ ap (λ ts. ts ++ f x) before.0 ∙ append_assoc a.tokens (flat_map f (take i xs)) (f x) ∙ ap (λ ts. a.tokens ++ ts) (sym more), now.1 ∙ before.1)

beside_by : (b : Bool) (m : Member) (ms : List Member) → tokens_of (cond (not b) (m ∷ ms) ms) ≡ cond b [] (member_tokens m) ++ tokens_of ms
beside_by true m ms = refl
beside_by false m ms = refl

-- the members of other names, one after another
pub besides_same : {A : Type 0} (part : Part) (ms : List (Bor (List ℕ) × Value A)) → flat_map (besides_tokens part) ms ≡ tokens_of (besides (has_name part) (map member_view ms))
besides_same part [] = refl
besides_same part (m ∷ ms) =
    ap (λ ts. besides_tokens part m ++ ts) (besides_same part ms) ∙ sym (beside_by (has_name part m.0.now) (member_view m) (besides (has_name part) (map member_view ms)))

pub members_end : (ms : List Member) → members_tokens (members_of ms) ≡ tokens_of ms ++ Token.end_object ∷ []
members_end [] = refl
members_end (m ∷ ms) = ap (λ ts. member_tokens m ++ ts) (members_end ms) ∙ sym (append_assoc (member_tokens m) (tokens_of ms) (Token.end_object ∷ []))

pub items_end : (js : List Json) → items_tokens (items_of js) ≡ flat_map json_tokens js ++ Token.end_array ∷ []
items_end [] = refl
items_end (j ∷ js) = ap (λ ts. json_tokens j ++ ts) (items_end js) ∙ sym (append_assoc (json_tokens j) (flat_map json_tokens js) (Token.end_array ∷ []))

-- ---- the positions of the elements of a subnet

stored_by : (b : Bool) (v : Vec ℕ Global) (found first : Option (Vec ℕ Global)) (place : ℕ) → (b ≡ true → first ≡ found) → v.items ≡ list_of first ++ place ∷ [] →
    list_of (cond b (Some v) (cond b None found)) ≡ list_of found ++ cond b (place ∷ []) []
stored_by true v found first place same made = made ∙ ap (λ o. list_of o ++ place ∷ []) (same refl)
stored_by false v found first place same made = sym (append-nil (list_of found))

pub stored_at : (subnet : Subnet) (place : ℕ) (before between after : List (Subnet × Vec ℕ Global)) (v : Vec ℕ Global) →
    ((other : Subnet) → lookup (same_subnet other) between ≡ cond (same_subnet subnet other) None (lookup (same_subnet other) before)) →
    ((other : Subnet) → lookup (same_subnet other) after ≡ cond (same_subnet subnet other) (Some v) (lookup (same_subnet other) between)) →
    v.items ≡ list_of (lookup (same_subnet subnet) before) ++ place ∷ [] → IsStoredAt (Some subnet) place before after
stored_at subnet place before between after v removed inserted made = λ other.
    ap list_of (inserted other ∙ ap (cond (same_subnet subnet other) (Some v)) (removed other))
    ∙ stored_by (same_subnet subnet other) v (lookup (same_subnet other) before) (lookup (same_subnet subnet) before) place
    (λ is. ap (λ s. lookup (same_subnet s) before) ((same_subnet-Decides subnet other).0 is)) made

places_push : (subnet : Subnet) (k : ℕ) (xs : List (Option Subnet)) (x : Option Subnet) →
    places_from subnet k (xs ++ x ∷ []) ≡ places_from subnet k xs ++ cond (bans_it subnet x) ((k + length xs) ∷ []) []
unfolding places_from
places_push subnet k [] x = let same : k ≡ k + 0 = omega arith in append-nil _ ∙ ap (λ n. cond (bans_it subnet x) (n ∷ []) []) same
places_push subnet k (y ∷ xs) x =
    let first = cond (bans_it subnet y) (k ∷ []) [] in
    let same : k + 1 + length xs ≡ k + suc (length xs) = omega arith in
    ap (λ ps. first ++ ps) (places_push subnet (k + 1) xs x ∙ ap (λ n. places_from subnet (k + 1) xs ++ cond (bans_it subnet x) (n ∷ []) []) same)
    ∙ sym (append_assoc first (places_from subnet (k + 1) xs) _)

pub places_more : (xs : List (Option Subnet)) (i : ℕ) (x : Option Subnet) (old new : List (Subnet × Vec ℕ Global)) → i < length xs → x ≡ get_or xs i x →
    ((subnet : Subnet) → places_at old subnet ≡ places_of subnet (take i xs)) → IsStoredAt x i old new → (subnet : Subnet) → places_at new subnet ≡ places_of subnet (take (i + 1) xs)
places_more xs i x old new lt is before now subnet =
    let long : 0 + length (take i xs) ≡ i = omega (arith, length-take-le i xs (omega arith)) in
    now subnet ∙ ap (λ ps. ps ++ cond (bans_it subnet x) (i ∷ []) []) (before subnet)
    ∙ ap (λ n. places_of subnet (take i xs) ++ cond (bans_it subnet x) (n ∷ []) []) (sym long)
    ∙ sym (places_push subnet 0 (take i xs) x) ∙ ap (places_of subnet) (sym (take_more xs i x lt ∙ ap (λ y. take i xs ++ y ∷ []) (sym is)))

-- ---- parts one after another

pub then_appended : (a b c : Written) (xs ys : List Token) → IsAppended a b xs → IsAppended b c ys → IsAppended a c (xs ++ ys)
then_appended a b c xs ys first more = (more.0 ∙ ap (λ ts. ts ++ ys) first.0 ∙ append_assoc a.tokens xs ys, more.1 ∙ first.1)

pub on_appended : {V E : Type 0} (r : Result V E) (a b c : Written) (xs ys : List Token) → IsAppended a b xs → OnOk r (IsAppended b c ys) → OnOk r (IsAppended a c (xs ++ ys))
on_appended (Ok v) a b c xs ys first more = then_appended a b c xs ys first more
on_appended (Err e) a b c xs ys first more = tt

-- ---- what is in memory

pub members_listed : {A : Type 0} (ms : List (Bor (List ℕ) × Value A)) → map member_view ms ≡ members_list (members_view ms)
members_listed [] = refl
members_listed (m ∷ ms) = ap (λ rest. member_view m ∷ rest) (members_listed ms)

pub members_same : {A : Type 0} (ms : List (Bor (List ℕ) × Value A)) → members_view ms ≡ members_of (map member_view ms)
members_same [] = refl
members_same (m ∷ ms) = ap (member m.0.now (value_view m.1)) (members_same ms)

pub items_listed : {A : Type 0} (vs : List (Value A)) → map value_view vs ≡ item_list (items_view vs)
items_listed [] = refl
items_listed (v ∷ vs) = ap (λ rest. value_view v ∷ rest) (items_listed vs)

-- ---- which elements are bans

pub subnets_none : (subnets : List (Option Subnet)) → subnets ≡ [] → AreSubnets [] subnets
unfolding AreSubnets
subnets_none subnets none = none

subnets_push : (ds : List Data) (subnets : List (Option Subnet)) (d : Data) (subnet : Option Subnet) → AreSubnets ds subnets → IsSubnetOf d subnet → AreSubnets (ds ++ d ∷ []) (subnets ++ subnet ∷ [])
unfolding AreSubnets
subnets_push [] subnets d subnet are is = subst (λ xs. AreSubnets (d ∷ []) (xs ++ subnet ∷ [])) (sym are) (is, refl)
subnets_push (e ∷ ds) [] d subnet are is = absurd are
subnets_push (e ∷ ds) (x ∷ subnets) d subnet are is = (are.0, subnets_push ds subnets d subnet are.1 is)

pub subnets_more : {X : Type 0} (f : X → Data) (xs : List X) (i : ℕ) (x : X) (subnets : List (Option Subnet)) (subnet : Option Subnet) → i < length xs → x ≡ get_or xs i x →
    AreSubnets (map f (take i xs)) subnets → IsSubnetOf (f x) subnet → AreSubnets (map f (take (i + 1) xs)) (subnets ++ subnet ∷ [])
subnets_more f xs i x subnets subnet lt is are one =
    subst (λ ds. AreSubnets ds (subnets ++ subnet ∷ [])) (sym (next_elements f xs i x lt is)) (subnets_push (map f (take i xs)) subnets (f x) subnet are one)

-- ---- numbers that can be written

numbers_list : (ms : Members) → MembersHaveNumbers ms → All (λ m. HasNumbers m.1) (members_list ms)
numbers_list no_members have = All-nil (λ (m : Member). HasNumbers m.1)
numbers_list (member name j ms) have = All-cons (λ (m : Member). HasNumbers m.1) (name, j) (members_list ms) have.0 (numbers_list ms have.1)

numbers_in : (j : Json) → HasNumbers j → All (λ m. HasNumbers m.1) (members_in j)
numbers_in null have = All-nil (λ (m : Member). HasNumbers m.1)
numbers_in (boolean b) have = All-nil (λ (m : Member). HasNumbers m.1)
numbers_in (number n) have = All-nil (λ (m : Member). HasNumbers m.1)
numbers_in (string s) have = All-nil (λ (m : Member). HasNumbers m.1)
numbers_in (array js) have = All-nil (λ (m : Member). HasNumbers m.1)
numbers_in (object ms) have = numbers_list ms have

all_viewed : {A : Type 0} (ms : List (Bor (List ℕ) × Value A)) → All (λ m. HasNumbers m.1) (map member_view ms) → All (λ m. HasNumbers (value_view m.1)) ms
all_viewed {A} [] have = All-nil (λ (m : Bor (List ℕ) × Value A). HasNumbers (value_view m.1))
all_viewed {A} (m ∷ ms) have =
    All-cons (λ (n : Bor (List ℕ) × Value A). HasNumbers (value_view n.1)) m ms (All-head (λ (n : Member). HasNumbers n.1) (member_view m) (map member_view ms) have)
    (all_viewed ms (All-tail (λ (n : Member). HasNumbers n.1) (member_view m) (map member_view ms) have))

-- the members of an object whose numbers can be written
pub members_numbers : {A : Type 0} (j : Json) (ms : List (Bor (List ℕ) × Value A)) → HasNumbers j → map member_view ms ≡ members_in j → All (λ m. HasNumbers (value_view m.1)) ms
members_numbers j ms have same = all_viewed ms (subst (All (λ (m : Member). HasNumbers m.1)) (sym same) (numbers_in j have))

-- ---- an element of the old list

get_viewed : {A : Type 0} (vs : List (Value A)) (i : ℕ) (v : Value A) → i < length vs → v ≡ get_or vs i v → get_or (map value_view vs) i null ≡ value_view v
get_viewed [] i v lt is = absurd (omega arith)
get_viewed (w ∷ vs) zero v lt is = ap value_view (sym is)
get_viewed (w ∷ vs) (suc i) v lt is = get_viewed vs i v (omega arith) is

pub viewed_length : {A : Type 0} (vs : List (Value A)) → length (map value_view vs) ≡ length vs
viewed_length [] = refl
viewed_length (v ∷ vs) = ap suc (viewed_length vs)

in_range : (i n m : ℕ) → i < n → m ≡ n → nat_lt i m ≡ true
in_range i n m lt same = grind arith

pub item_same : {A : Type 0} (vs : List (Value A)) (i : ℕ) (v : Value A) (ms : List (Bor (List ℕ) × Value A)) → i < length vs → v ≡ get_or vs i v →
    map member_view ms ≡ members_in (value_view v) → flat_map (besides_tokens part.Ban) ms ≡ item_tokens (map value_view vs) i
item_same vs i v ms lt is found =
    let tokens = λ (xs : List Member). tokens_of (besides is_ban_name xs) in
    besides_same part.Ban ms ∙ ap tokens (found ∙ ap members_in (sym (get_viewed vs i v lt is)))
    ∙ sym (ap (λ b. cond b (tokens (members_in (get_or (map value_view vs) i null))) []) (in_range i (length vs) (length (map value_view vs)) lt (viewed_length vs)))

-- ---- the members before the list

pub with_list_more : {A : Type 0} (list : Json) (xs : List (Bor (List ℕ) × Value A)) (i : ℕ) (x : Bor (List ℕ) × Value A) (a b : Written) → i < length xs → x ≡ get_or xs i x →
    is_list_name x.0.now ≡ false → IsAppended a b (member_tokens (member_view x)) →
    b.tokens ++ tokens_of (with_list list (map member_view (drop (i + 1) xs))) ≡ a.tokens ++ tokens_of (with_list list (map member_view (drop i xs)))
with_list_more list xs i x a b lt is other now =
    let rest = map member_view (drop (i + 1) xs) in
    let here : drop i xs ≡ x ∷ drop (i + 1) xs = drop_more xs i x lt ∙ ap (λ y. y ∷ drop (i + 1) xs) (sym is) in
    let first = λ (b : Bool). tokens_of (cond b ((codes "banned_nets", list) ∷ besides is_list_name rest) (member_view x ∷ with_list list rest)) in
    ap (λ ts. ts ++ tokens_of (with_list list rest)) now.0 ∙ append_assoc a.tokens (member_tokens (member_view x)) (tokens_of (with_list list rest))
    ∙ ap (λ ts. a.tokens ++ ts) (sym (ap (λ ys. tokens_of (with_list list (map member_view ys))) here ∙ ap first other))

-- the first member that is a list begins the rest
pub with_list_here : {A : Type 0} (list : Json) (xs : List (Bor (List ℕ) × Value A)) (i : ℕ) (x : Bor (List ℕ) × Value A) → i < length xs → x ≡ get_or xs i x → is_list_name x.0.now ≡ true →
    (codes "banned_nets", list) ∷ besides is_list_name (map member_view (drop i xs)) ≡ with_list list (map member_view (drop i xs))
with_list_here list xs i x lt is own =
    let rest = map member_view (drop (i + 1) xs) in
    let here : drop i xs ≡ x ∷ drop (i + 1) xs = drop_more xs i x lt ∙ ap (λ y. y ∷ drop (i + 1) xs) (sym is) in
    let both = λ (b : Bool). (codes "banned_nets", list) ∷ cond (not b) (member_view x ∷ besides is_list_name rest) (besides is_list_name rest) in
    let one = λ (b : Bool). cond b ((codes "banned_nets", list) ∷ besides is_list_name rest) (member_view x ∷ with_list list rest) in
    ap (λ ys. (codes "banned_nets", list) ∷ besides is_list_name (map member_view ys)) here ∙ ap both own
    ∙ sym (ap (λ ys. with_list list (map member_view ys)) here ∙ ap one own)

-- ---- the elements with their subnets

with_at : {A : Type 0} (vs : List (Value A)) (subnets : List (Option Subnet)) (i : ℕ) (v : Value A) (subnet : Option Subnet) → i < length vs → length vs ≡ length subnets →
    v ≡ get_or vs i v → subnet ≡ get_or subnets i subnet → (value_view v, subnet) ≡ get_or (elements_with (map value_view vs) subnets) i (value_view v, subnet)
with_at [] subnets i v subnet lt long is own = absurd (omega arith)
with_at (w ∷ vs) [] i v subnet lt long is own = absurd (omega (arith, long))
with_at (w ∷ vs) (s ∷ subnets) zero v subnet lt long is own = λ j. (value_view (is j), own j)
with_at (w ∷ vs) (s ∷ subnets) (suc i) v subnet lt long is own = with_at vs subnets i v subnet (omega arith) (omega (arith, long)) is own

pub with_length : {A : Type 0} (vs : List (Value A)) (subnets : List (Option Subnet)) → length vs ≡ length subnets → length (elements_with (map value_view vs) subnets) ≡ length vs
with_length [] subnets long = refl
with_length (v ∷ vs) [] long = absurd (omega (arith, long))
with_length (v ∷ vs) (s ∷ subnets) long = ap suc (with_length vs subnets (omega (arith, long)))

pub others_more : {A : Type 0} (vs : List (Value A)) (subnets : List (Option Subnet)) (i : ℕ) (v : Value A) (subnet : Option Subnet) (a b c : Written) → i < length vs → length vs ≡ length subnets →
    v ≡ get_or vs i v → subnet ≡ get_or subnets i subnet → IsAppended a b (flat_map other_tokens (take i (elements_with (map value_view vs) subnets))) → IsAppended b c (other_tokens (value_view v, subnet)) →
    IsAppended a c (flat_map other_tokens (take (i + 1) (elements_with (map value_view vs) subnets)))
others_more vs subnets i v subnet a b c lt long is own before now =
    next_appended other_tokens (elements_with (map value_view vs) subnets) i (value_view v, subnet) a b c (omega (arith, lt, with_length vs subnets long)) (with_at vs subnets i v subnet lt long is own) before now

-- ---- what is written, as the value of the file

get_middle : (pre js : List Json) (j : Json) → get_or (pre ++ j ∷ js) (length pre) null ≡ j
get_middle [] js j = refl
get_middle (i ∷ pre) js j = get_middle pre js j

longer : (pre js : List Json) (j : Json) → length pre < length (pre ++ j ∷ js)
longer [] js j = omega arith
longer (i ∷ pre) js j = let rest = longer pre js j in omega (arith, rest)

head_by : (b : Bool) (f : ℕ → List Token) (n : ℕ) (ms : List Member) → f n ≡ tokens_of ms → flat_map f (cond b (n ∷ []) []) ≡ tokens_of (cond b ms [])
head_by true f n ms same = append-nil (f n) ∙ same
head_by false f n ms same = refl

head_tokens : (subnet : Subnet) (pre js : List Json) (j : Json) (own : Option Subnet) →
    flat_map (item_tokens (pre ++ j ∷ js)) (cond (bans_it subnet own) (length pre ∷ []) []) ≡ tokens_of (besides_at subnet j own)
head_tokens subnet pre js j None = refl
head_tokens subnet pre js j (Some own) =
    let all = pre ++ j ∷ js in
    let tokens = λ (i : Json). tokens_of (besides is_ban_name (members_in i)) in
    head_by (same_subnet own subnet) (item_tokens all) (length pre) (besides is_ban_name (members_in j))
    (ap (λ b. cond b (tokens (get_or all (length pre) null)) []) (in_range (length pre) (length all) (length all) (longer pre js j) refl) ∙ ap tokens (get_middle pre js j))

found_tokens : (subnet : Subnet) (pre js : List Json) (n : ℕ) (subnets : List (Option Subnet)) → n ≡ length pre → length js ≡ length subnets →
    flat_map (item_tokens (pre ++ js)) (places_from subnet n subnets) ≡ tokens_of (flat_map (λ e. besides_at subnet e.0 e.1) (elements_with js subnets))
unfolding places_from
found_tokens subnet pre [] n [] is long = refl
found_tokens subnet pre [] n (s ∷ subnets) is long = absurd (omega (arith, long))
found_tokens subnet pre (j ∷ js) n [] is long = absurd (omega (arith, long))
found_tokens subnet pre (j ∷ js) n (s ∷ subnets) is long =
    let f = item_tokens (pre ++ j ∷ js) in
    let after : n + 1 ≡ length (pre ++ j ∷ []) = omega (arith, is, length-append pre (j ∷ [])) in
    let rest = ap (λ xs. flat_map (item_tokens xs) (places_from subnet (n + 1) subnets)) (sym (append_assoc pre (j ∷ []) js)) ∙ found_tokens subnet (pre ++ j ∷ []) js (n + 1) subnets after (omega (arith, long)) in
    flat_map-append f (cond (bans_it subnet s) (n ∷ []) []) (places_from subnet (n + 1) subnets)
    ∙ (λ k. (ap (λ m. flat_map f (cond (bans_it subnet s) (m ∷ []) [])) is ∙ head_tokens subnet pre js j s) k ++ rest k)
    ∙ sym (flat_map-append member_tokens (besides_at subnet j s) (flat_map (λ e. besides_at subnet e.0 e.1) (elements_with js subnets)))

module _ (js : List Json) (subnets : List (Option Subnet)) (stored : List (Subnet × Vec ℕ Global)) (long : length js ≡ length subnets)
    (are : (subnet : Subnet) → places_at stored subnet ≡ places_of subnet subnets) where
  abbrev elements : List Element
  elements = elements_with js subnets

  ban_same : (ban : Ban) → ban_tokens js stored ban ≡ json_tokens (ban_tree elements ban)
  ban_same ban =
      let own = own_members ban in
      let more = flat_map (λ e. besides_at ban.subnet e.0 e.1) elements in
      let found = ap (flat_map (item_tokens js)) (are ban.subnet) ∙ found_tokens ban.subnet [] js 0 subnets refl long in
      ap (λ ts. Token.begin_object ∷ (tokens_of own ++ (ts ++ Token.end_object ∷ []))) found
      ∙ ap (λ ts. Token.begin_object ∷ ts) (sym (append_assoc (tokens_of own) (tokens_of more) (Token.end_object ∷ [])) ∙ ap (λ ts. ts ++ Token.end_object ∷ []) (sym (flat_map-append member_tokens own more)) ∙ sym (members_end (own ++ more)))

  bans_same : (bans : List Ban) → flat_map (ban_tokens js stored) bans ≡ flat_map json_tokens (map (ban_tree elements) bans)
  bans_same [] = refl
  bans_same (ban ∷ bans) = λ k. ban_same ban k ++ bans_same bans k

  others_same : (es : List Element) → flat_map other_tokens es ≡ flat_map json_tokens (flat_map (λ e. other_of e.0 e.1) es)
  others_same [] = refl
  others_same (e ∷ es) = ap (λ ts. other_tokens e ++ ts) (others_same es) ∙ sym (flat_map-append json_tokens (other_of e.0 e.1) (flat_map (λ d. other_of d.0 d.1) es))

  -- the new list
  pub list_same : (bans : List Ban) →
      (Token.begin_array ∷ []) ++ (flat_map (ban_tokens js stored) bans ++ (flat_map other_tokens elements ++ Token.end_array ∷ [])) ≡ json_tokens (list_tree elements bans)
  list_same bans =
      let own = map (ban_tree elements) bans in
      let others = flat_map (λ e. other_of e.0 e.1) elements in
      ap (λ ts. Token.begin_array ∷ ts)
      ((λ k. bans_same bans k ++ (others_same elements k ++ Token.end_array ∷ []))
      ∙ sym (append_assoc (flat_map json_tokens own) (flat_map json_tokens others) (Token.end_array ∷ []))
      ∙ ap (λ ts. ts ++ Token.end_array ∷ []) (sym (flat_map-append json_tokens own others)) ∙ sym (items_end (own ++ others)))

pub four_appended : (a b c d e : Written) (ws xs ys zs : List Token) → IsAppended a b ws → IsAppended b c xs → IsAppended c d ys → IsAppended d e zs → IsAppended a e (ws ++ (xs ++ (ys ++ zs)))
four_appended a b c d e ws xs ys zs p q r s = then_appended a b e ws (xs ++ (ys ++ zs)) p (then_appended b c e xs (ys ++ zs) q (then_appended c d e ys zs r s))

-- the object of the file, whose list is written between the members before it and those after it
pub file_same : {A : Type 0} (list : Json) (members rest : List (Bor (List ℕ) × Value A)) (a b c d e f g : Written) → IsAppended a b (Token.begin_object ∷ []) →
    c.tokens ++ tokens_of ((codes "banned_nets", list) ∷ besides is_list_name (map member_view rest)) ≡ b.tokens ++ tokens_of (with_list list (map member_view members)) → c.before ≡ b.before →
    IsAppended c d (Token.key (codes "banned_nets") ∷ []) → IsAppended d e (json_tokens list) → IsAppended e f (flat_map (besides_tokens part.File) rest) → IsAppended f g (Token.end_object ∷ []) →
    IsAppended a g (json_tokens (object (members_of (with_list list (map member_view members)))))
file_same list members rest a b c d e f g begun before kept named listed after ended =
    let end = Token.end_object ∷ [] in
    let all = tokens_of (with_list list (map member_view members)) in
    let besides_rest = tokens_of (besides is_list_name (map member_view rest)) in
    let name = Token.key (codes "banned_nets") ∷ [] in
    let after_same = subst (IsAppended e f) (besides_same part.File rest) after in
    let middle = then_appended c d f name (json_tokens list ++ besides_rest) named (then_appended d e f (json_tokens list) besides_rest listed after_same) in
    let whole = middle.0 ∙ before in (
      ended.0 ∙ ap (λ ts. ts ++ end) (whole ∙ ap (λ ts. ts ++ all) begun.0 ∙ append_assoc a.tokens (Token.begin_object ∷ []) all) ∙ append_assoc a.tokens (Token.begin_object ∷ all) end
          ∙ ap (λ ts. a.tokens ++ Token.begin_object ∷ ts) (sym (members_end (with_list list (map member_view members)))),
      ended.1 ∙ middle.1 ∙ kept ∙ begun.1,
    )

pub places_none : (stored : List (Subnet × Vec ℕ Global)) → stored ≡ [] → (subnet : Subnet) → places_at stored subnet ≡ places_of subnet []
unfolding places_from
places_none stored none subnet = ap (λ xs. places_at xs subnet) none

pub rest_whole : {X : Type 0} (xs : List X) (n : ℕ) → take (length xs - n) (drop n xs) ≡ drop n xs
rest_whole xs n = grind (arith, common_steps)
