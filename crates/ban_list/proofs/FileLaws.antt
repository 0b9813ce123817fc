-- A file is that of one list at most, or has one fault.
use Rattle.std.proofs.Common.{◌≡◌, ℕ, zero, suc, ◌+◌, ◌<◌, ◌≤◌, List, [], ◌∷◌, ◌++◌, length, map, take, drop, drop-cons, get_or, refl, sym, ap, ◌∙◌, subst, arith, inl, inr}
use Rattle.std.specs.Prelude.{option_and_then, codes}
use Rattle.std.specs.List.{fold}
use Rattle.std.proofs.lemmas.Grind.{take_at_read}
use Rattle.serde_json.specs.Data.{Data, Items, no_items, item}
use Rattle.serde_json.specs.Find.{get, as_array}
use Rattle.serde_json.specs.View.{items_of}
use Rattle.ban_list.specs.Bans.{put}
use Rattle.ban_list.specs.BanFile.{IsElement, AreElements, merged, IsJson, HasElements, IsListFile, HasNoForm, HasTooMany, HasListFault}
use Rattle.ban_list.specs.SubnetText.{IsSubnetTextBy}
use Rattle.ban_list.specs.declared.ban.Ban.{Ban}
use Rattle.ban_list.specs.declared.bans.TheConstants.{MAX_BANS}
use Rattle.ban_list.specs.declared.fault.BanFault.{BanFault}
use Rattle.ban_list.specs.declared.fault.BanFault.TheVariants.{Json, Form, TooMany, TooLarge, Memory}
use Rattle.ban_list.specs.declared.ban.BanRule.{BanRule}
use Rattle.ban_list.proofs.Forms.{same_some}
use Rattle.ban_list.proofs.Named.{one_subnet_by}

pub same_ban : (a b : Ban) → a.subnet ≡ b.subnet → a.created ≡ b.created → a.until ≡ b.until → a ≡ b
same_ban a b e f g = λ i. record { subnet = e i; created = f i; until = g i }

-- an element is that of one ban at most
pub one_element : (rule : BanRule) (d : Data) (a b : Ban) → IsElement rule d a → IsElement rule d b → a ≡ b
one_element rule d a b h k =
    let text = same_some h.address k.address (sym h.address_text ∙ k.address_text) in
    same_ban a b (one_subnet_by rule k.address a.subnet b.subnet (subst (λ t. IsSubnetTextBy rule t a.subnet) text h.subnet) k.subnet)
    (same_some a.created b.created (sym h.created ∙ k.created)) (same_some a.until b.until (sym h.until ∙ k.until))

-- one element more, which is passed over or counts
pub elements_pass : (rule : BanRule) (ds : List Data) (bans : List Ban) (d : Data) → AreElements rule ds bans → ((ban : Ban) → IsElement rule d ban → ⊥) → AreElements rule (ds ++ d ∷ []) bans
unfolding AreElements
elements_pass rule [] [] d h none = (none, refl)
elements_pass rule [] (ban ∷ bans) d h none = cc
elements_pass rule (e ∷ ds) [] d h none = (h.0, elements_pass rule ds [] d h.1 none)
elements_pass rule (e ∷ ds) (ban ∷ bans) d (inl h) none = inl (h.0, elements_pass rule ds (ban ∷ bans) d h.1 none)
elements_pass rule (e ∷ ds) (ban ∷ bans) d (inr h) none = inr (h.0, elements_pass rule ds bans d h.1 none)

pub elements_count : (rule : BanRule) (ds : List Data) (bans : List Ban) (d : Data) (new : Ban) → AreElements rule ds bans → IsElement rule d new → AreElements rule (ds ++ d ∷ []) (bans ++ new ∷ [])
unfolding AreElements
elements_count rule [] [] d new h is = inr (is, refl)
elements_count rule [] (ban ∷ bans) d new h is = cc
elements_count rule (e ∷ ds) [] d new h is = inl (h.0, elements_count rule ds [] d new h.1 is)
elements_count rule (e ∷ ds) (ban ∷ bans) d new (inl h) is = inl (h.0, elements_count rule ds (ban ∷ bans) d new h.1 is)
elements_count rule (e ∷ ds) (ban ∷ bans) d new (inr h) is = inr (h.0, elements_count rule ds bans d new h.1 is)

-- no more elements count than there are
pub fewer : (rule : BanRule) (ds : List Data) (bans : List Ban) → AreElements rule ds bans → length bans ≤ length ds
unfolding AreElements
fewer rule [] bans h = omega (arith, ap length h)
fewer rule (d ∷ ds) [] h = omega arith
fewer rule (d ∷ ds) (ban ∷ bans) (inl pass) = omega (arith, fewer rule ds (ban ∷ bans) pass.1)
fewer rule (d ∷ ds) (ban ∷ bans) (inr is) = omega (arith, fewer rule ds bans is.1)

taken : {V : Type 0} (f : V → Data) (i : ℕ) (es : List V) → length (map f (take i es)) ≤ length es
taken f zero es = omega arith
taken f (suc i) [] = omega arith
taken f (suc i) (e ∷ es) = omega (arith, taken f i es)

pub fewer_taken : {V : Type 0} (rule : BanRule) (f : V → Data) (i : ℕ) (es : List V) (bans : List Ban) → AreElements rule (map f (take i es)) bans → length bans ≤ length es
fewer_taken rule f i es bans h = omega (arith, fewer rule (map f (take i es)) bans h, taken f i es)

-- the bans of the elements are known from these
pub elements_one : (rule : BanRule) (ds : List Data) (a b : List Ban) → AreElements rule ds a → AreElements rule ds b → a ≡ b
unfolding AreElements
elements_one rule [] a b h k = h ∙ sym k
elements_one rule (d ∷ ds) [] [] h k = refl
elements_one rule (d ∷ ds) [] (b ∷ bs) h (inl k) = elements_one rule ds [] (b ∷ bs) h.1 k.1
elements_one rule (d ∷ ds) [] (b ∷ bs) h (inr k) = absurd (h.0 b k.0)
elements_one rule (d ∷ ds) (a ∷ xs) [] (inl h) k = elements_one rule ds (a ∷ xs) [] h.1 k.1
elements_one rule (d ∷ ds) (a ∷ xs) [] (inr h) k = absurd (k.0 a h.0)
elements_one rule (d ∷ ds) (a ∷ xs) (b ∷ bs) (inl h) (inl k) = elements_one rule ds (a ∷ xs) (b ∷ bs) h.1 k.1
elements_one rule (d ∷ ds) (a ∷ xs) (b ∷ bs) (inl h) (inr k) = absurd (h.0 b k.0)
elements_one rule (d ∷ ds) (a ∷ xs) (b ∷ bs) (inr h) (inl k) = absurd (k.0 a h.0)
elements_one rule (d ∷ ds) (a ∷ xs) (b ∷ bs) (inr h) (inr k) = λ i. one_element rule d a b h.0 k.0 i ∷ elements_one rule ds xs bs h.1 k.1 i

abbrev pub list_of : Items → List Data
list_of no_items = []
list_of (item d ds) = d ∷ list_of ds

list_of_items : (ds : List Data) → list_of (items_of ds) ≡ ds
list_of_items [] = refl
list_of_items (d ∷ ds) = ap (λ xs. d ∷ xs) (list_of_items ds)

pub one_items : (a b : List Data) → items_of a ≡ items_of b → a ≡ b
one_items a b e = sym (list_of_items a) ∙ ap list_of e ∙ list_of_items b

-- the elements of a text
pub one_value : (bytes : List ℕ) (d e : Data) → IsJson bytes d → IsJson bytes e → d ≡ e
one_value bytes d e h k = same_some d e (sym h.1 ∙ k.1)

pub one_elements : (d e : Data) (ds es : List Data) → d ≡ e → HasElements d ds → HasElements e es → ds ≡ es
one_elements d e ds es same h k =
    one_items ds es (same_some (items_of ds) (items_of es) (sym h ∙ ap (λ x. option_and_then as_array (get (codes "banned_nets") x)) same ∙ k))

pub one_counted : (rule : BanRule) (bytes : List ℕ) (d e : Data) (ds es : List Data) (a b : List Ban) → IsJson bytes d → IsJson bytes e → HasElements d ds → HasElements e es → AreElements rule ds a → AreElements rule es b → a ≡ b
one_counted rule bytes d e ds es a b h k hs ks ha kb =
    let same = one_elements d e ds es (one_value bytes d e h k) hs ks in
    elements_one rule es a b (subst (λ xs. AreElements rule xs a) same ha) kb

pub one_file : (rule : BanRule) (bytes : List ℕ) (a b : List Ban) → IsListFile rule bytes a → IsListFile rule bytes b → a ≡ b
one_file rule bytes a b h k =
    h.made ∙ ap merged (one_counted rule bytes h.value k.value h.elements k.elements h.counted k.counted h.json k.json h.form k.form h.are_counted k.are_counted) ∙ sym k.made

no_form_and_elements : (bytes : List ℕ) (d : Data) (ds : List Data) → HasNoForm bytes → IsJson bytes d → HasElements d ds → ⊥
no_form_and_elements bytes d ds h k hs =
    let same = one_value bytes h.value d h.json k in
    let e = sym h.none ∙ ap (λ x. option_and_then as_array (get (codes "banned_nets") x)) same ∙ hs in
    cc

-- a file of a list has no fault
pub no_fault : (rule : BanRule) (bytes : List ℕ) (bans : List Ban) (f : BanFault) → IsListFile rule bytes bans → HasListFault rule bytes f → ⊥
no_fault rule bytes bans Json h k = k h.value h.json
no_fault rule bytes bans Form h k = no_form_and_elements bytes h.value h.elements k h.json h.form
no_fault rule bytes bans TooMany h k =
    let same = one_counted rule bytes h.value k.value h.elements k.elements h.counted k.counted h.json k.json h.form k.form h.are_counted k.are_counted in
    omega (arith, h.few, k.many, ap length same)
no_fault rule bytes bans (TooLarge size) h k = k
no_fault rule bytes bans Memory h k = k

-- a file has one fault at most
pub one_fault : (rule : BanRule) (bytes : List ℕ) (f g : BanFault) → HasListFault rule bytes f → HasListFault rule bytes g → f ≡ g
one_fault rule bytes Json Json h k = refl
one_fault rule bytes Json Form h k = absurd (h k.value k.json)
one_fault rule bytes Json TooMany h k = absurd (h k.value k.json)
one_fault rule bytes Form Json h k = absurd (k h.value h.json)
one_fault rule bytes Form Form h k = refl
one_fault rule bytes Form TooMany h k = absurd (no_form_and_elements bytes k.value k.elements h k.json k.form)
one_fault rule bytes TooMany Json h k = absurd (k h.value h.json)
one_fault rule bytes TooMany Form h k = absurd (no_form_and_elements bytes h.value h.elements k h.json h.form)
one_fault rule bytes TooMany TooMany h k = refl
one_fault rule bytes (TooLarge size) g h k = absurd h
one_fault rule bytes Memory g h k = absurd h
one_fault rule bytes Json (TooLarge size) h k = absurd k
one_fault rule bytes Form (TooLarge size) h k = absurd k
one_fault rule bytes TooMany (TooLarge size) h k = absurd k
one_fault rule bytes Json Memory h k = absurd k
one_fault rule bytes Form Memory h k = absurd k
one_fault rule bytes TooMany Memory h k = absurd k

-- what was read, by its parts
pub file_of : (rule : BanRule) (bytes : List ℕ) (value : Data) (elements : List Data) (counted bans : List Ban) → IsJson bytes value → HasElements value elements → AreElements rule elements counted → length counted ≤ MAX_BANS → bans ≡ merged counted → IsListFile rule bytes bans
file_of rule bytes value elements counted bans json form are few made = record {
  value = value;
  json = json;
  elements = elements;
  form = form;
  counted = counted;
  are_counted = are;
  few = few;
  made = made;
}

pub many_of : (rule : BanRule) (bytes : List ℕ) (value : Data) (elements : List Data) (counted : List Ban) → IsJson bytes value → HasElements value elements → AreElements rule elements counted → MAX_BANS < length counted → HasTooMany rule bytes
many_of rule bytes value elements counted json form are many = record {
  value = value;
  json = json;
  elements = elements;
  form = form;
  counted = counted;
  are_counted = are;
  many = many;
}

-- no elements have no bans
pub elements_none : (rule : BanRule) (bans : List Ban) → bans ≡ [] → AreElements rule [] bans
unfolding AreElements
elements_none rule bans e = e

pub map-append : {X Y : Type 0} (f : X → Y) (xs ys : List X) → map f (xs ++ ys) ≡ map f xs ++ map f ys
map-append f [] ys = refl
map-append f (x ∷ xs) ys = ap (λ zs. f x ∷ zs) (map-append f xs ys)

pub next_elements : {X : Type 0} (f : X → Data) (xs : List X) (i : ℕ) (x : X) → i < length xs → x ≡ get_or xs i x → map f (take (i + 1) xs) ≡ map f (take i xs) ++ f x ∷ []
next_elements f xs i x lt is =
    ap (map f) ((take_at_read xs i x lt).1 ∙ ap (λ y. take i xs ++ y ∷ []) (sym is)) ∙ map-append f (take i xs) (x ∷ [])

pub read_pass : {X : Type 0} (rule : BanRule) (f : X → Data) (xs : List X) (i : ℕ) (x : X) (bans : List Ban) → i < length xs → x ≡ get_or xs i x → AreElements rule (map f (take i xs)) bans → ((ban : Ban) → IsElement rule (f x) ban → ⊥) → AreElements rule (map f (take (i + 1) xs)) bans
read_pass rule f xs i x bans lt is h none = subst (λ ds. AreElements rule ds bans) (sym (next_elements f xs i x lt is)) (elements_pass rule (map f (take i xs)) bans (f x) h none)

pub read_count : {X : Type 0} (rule : BanRule) (f : X → Data) (xs : List X) (i : ℕ) (x : X) (bans : List Ban) (new : Ban) → i < length xs → x ≡ get_or xs i x → AreElements rule (map f (take i xs)) bans → IsElement rule (f x) new → AreElements rule (map f (take (i + 1) xs)) (bans ++ new ∷ [])
read_count rule f xs i x bans new lt is h k = subst (λ ds. AreElements rule ds (bans ++ new ∷ [])) (sym (next_elements f xs i x lt is)) (elements_count rule (map f (take i xs)) bans (f x) new h k)

-- one ban more of those that are left
pub merged_step : (done : List Ban) (bans : List Ban) (i : ℕ) (ban : Ban) → i < length bans → ban ≡ get_or bans i ban → fold (λ list b. put b list) (put ban done) (drop (i + 1) bans) ≡ fold (λ list b. put b list) done (drop i bans)
merged_step done bans i ban lt is =
    let next : i + 1 ≡ suc i = omega arith in
    ap (λ n. fold (λ list b. put b list) (put ban done) (drop n bans)) next
    ∙ sym (ap (fold (λ list b. put b list) done) (drop-cons bans i ban lt ∙ ap (λ b. b ∷ drop (suc i) bans) (sym is)))
