-- What holds of each part of an old file holds of the parts of the new one.
use Rattle.std.proofs.Common.{◌≡◌, ℕ, suc, List, [], ◌∷◌, ◌++◌, map, flat_map, All, Bool, true, false, cond, codes, Option, Some, None, bytes_eq, refl, sym, ap, subst}
use Rattle.std.specs.Prelude.{⊤, not}
use Rattle.std.proofs.lemmas.List.Elements.{All-head, All-tail}
use Rattle.json.specs.Find.{get_member, later_or}
use Rattle.json.specs.Json.{Json, Members, array, boolean, null, number, object, string}
use Rattle.ban_list.specs.Bans.{same_subnet}
use Rattle.ban_list.specs.NewFile.{Element, IsOld, Member, ban_tree, besides, besides_at, is_ban_name, is_list_name, items_of, list_tree, members_in, members_list, members_of, named_tree, other_of, own_members, with_list}
use Rattle.ban_list.specs.declared.ban.Ban.{Ban}
use Rattle.ban_list.specs.declared.subnet.Subnet.{Subnet}

module _ (Name : List ℕ → Type 0) (Holds : ℕ → Json → Type 0) where
  -- it holds of the members, whose values are so deep
  abbrev pub Each : ℕ → List Member → Type 0
  Each n [] = ⊤
  Each n (m ∷ ms) = (Name m.0 × Holds n m.1) × Each n ms

  abbrev pub Are : ℕ → List Json → Type 0
  Are n [] = ⊤
  Are n (j ∷ js) = Holds n j × Are n js

  abbrev pub Elements : ℕ → List Element → Type 0
  Elements n [] = ⊤
  Elements n (e ∷ es) = Holds n e.0 × Elements n es

  -- it holds of a whole if it does of the parts, and of these if it does of a whole
  pub record IsClosed : Type 0 where
    pub makes_object : (n : ℕ) (ms : List Member) → Each n ms → Holds (suc n) (object (members_of ms))
    pub makes_array : (n : ℕ) (js : List Json) → Are n js → Holds (suc n) (array (items_of js))
    pub has_members : (n : ℕ) (ms : Members) → Holds (suc n) (object ms) → Each n (members_list ms)
    pub has_items : (n : ℕ) (js : List Json) → Holds (suc n) (array (items_of js)) → Are n js
    pub list_name : Name (codes "banned_nets")

  each_append : (n : ℕ) (xs ys : List Member) → Each n xs → Each n ys → Each n (xs ++ ys)
  each_append n [] ys h k = k
  each_append n (x ∷ xs) ys h k = (h.0, each_append n xs ys h.1 k)

  are_append : (n : ℕ) (xs ys : List Json) → Are n xs → Are n ys → Are n (xs ++ ys)
  are_append n [] ys h k = k
  are_append n (x ∷ xs) ys h k = (h.0, are_append n xs ys h.1 k)

  each_by : (n : ℕ) (b : Bool) (xs ys : List Member) → Each n xs → Each n ys → Each n (cond b xs ys)
  each_by n true xs ys h k = h
  each_by n false xs ys h k = k

  each_besides : (n : ℕ) (has : List ℕ → Bool) (ms : List Member) → Each n ms → Each n (besides has ms)
  each_besides n has [] h = tt
  each_besides n has (m ∷ ms) h =
      let rest = each_besides n has ms h.1 in
      each_by n (not (has m.0)) (m ∷ besides has ms) (besides has ms) (h.0, rest) rest

  each_with : (n : ℕ) (list : Json) (ms : List Member) → Name (codes "banned_nets") → Holds n list → Each n ms → Each n (with_list list ms)
  each_with n list [] name h k = ((name, h), tt)
  each_with n list (m ∷ ms) name h k =
      each_by n (is_list_name m.0) ((codes "banned_nets", list) ∷ besides is_list_name ms) (m ∷ with_list list ms)
      ((name, h), each_besides n is_list_name ms k.1) (k.0, each_with n list ms name h k.1)

  module _ (closed : IsClosed) where
    each_in : (n : ℕ) (j : Json) → Holds (suc n) j → Each n (members_in j)
    each_in n null h = tt
    each_in n (boolean b) h = tt
    each_in n (number s) h = tt
    each_in n (string s) h = tt
    each_in n (array js) h = tt
    each_in n (object ms) h = closed.has_members n ms h

    each_at : (n : ℕ) (subnet : Subnet) (j : Json) (own : Option Subnet) → Holds (suc n) j → Each n (besides_at subnet j own)
    each_at n subnet j None h = tt
    each_at n subnet j (Some own) h =
        each_by n (same_subnet own subnet) (besides is_ban_name (members_in j)) [] (each_besides n is_ban_name (members_in j) (each_in n j h)) tt

    each_found : (n : ℕ) (subnet : Subnet) (es : List Element) → Elements (suc n) es → Each n (flat_map (λ e. besides_at subnet e.0 e.1) es)
    each_found n subnet [] h = tt
    each_found n subnet (e ∷ es) h =
        each_append n (besides_at subnet e.0 e.1) (flat_map (λ d. besides_at subnet d.0 d.1) es) (each_at n subnet e.0 e.1 h.0) (each_found n subnet es h.1)

    others_by : (n : ℕ) (j : Json) (own : Option Subnet) → Holds n j → Are n (other_of j own)
    others_by n j None h = (h, tt)
    others_by n j (Some own) h = tt

    others : (n : ℕ) (es : List Element) → Elements n es → Are n (flat_map (λ e. other_of e.0 e.1) es)
    others n [] h = tt
    others n (e ∷ es) h = are_append n (other_of e.0 e.1) (flat_map (λ d. other_of d.0 d.1) es) (others_by n e.0 e.1 h.0) (others n es h.1)

    abbrev pub HasOwn : ℕ → Ban → Type 0
    HasOwn n ban = Each n (own_members ban)

    ban_holds : (n : ℕ) (es : List Element) (ban : Ban) → Elements (suc n) es → HasOwn n ban → Holds (suc n) (ban_tree es ban)
    ban_holds n es ban h own =
        let more = flat_map (λ e. besides_at ban.subnet e.0 e.1) es in
        closed.makes_object n (own_members ban ++ more) (each_append n (own_members ban) more own (each_found n ban.subnet es h))

    bans_hold : (n : ℕ) (es : List Element) (bans : List Ban) → Elements (suc n) es → All (HasOwn n) bans → Are (suc n) (map (ban_tree es) bans)
    bans_hold n es [] h own = tt
    bans_hold n es (ban ∷ bans) h own =
        (ban_holds n es ban h (All-head (HasOwn n) ban bans own), bans_hold n es bans h (All-tail (HasOwn n) ban bans own))

    list_holds : (n : ℕ) (es : List Element) (bans : List Ban) → Elements (suc n) es → All (HasOwn n) bans → Holds (suc (suc n)) (list_tree es bans)
    list_holds n es bans h own =
        let made = map (ban_tree es) bans in
        let kept = flat_map (λ e. other_of e.0 e.1) es in
        closed.makes_array (suc n) (made ++ kept) (are_append (suc n) made kept (bans_hold n es bans h own) (others (suc n) es h))

    tree_holds : (n : ℕ) (ms : List Member) (es : List Element) (bans : List Ban) → Each (suc (suc n)) ms → Elements (suc n) es → All (HasOwn n) bans → Holds (suc (suc (suc n))) (named_tree ms es bans)
    tree_holds n ms es bans h k own =
        let list = list_tree es bans in
        closed.makes_object (suc (suc n)) (with_list list ms) (each_with (suc (suc n)) list ms closed.list_name (list_holds n es bans k own) h)

    abbrev IfHolds : ℕ → Option Json → Type 0
    IfHolds n None = ⊤
    IfHolds n (Some j) = Holds n j

    found_by : (n : ℕ) (later : Option Json) (b : Bool) (j : Json) → IfHolds n later → Holds n j → IfHolds n (later_or later (cond b (Some j) None))
    found_by n (Some k) b j p q = p
    found_by n None true j p q = q
    found_by n None false j p q = tt

    found : (n : ℕ) (name : List ℕ) (ms : List Member) → Each n ms → IfHolds n (get_member name (members_of ms))
    found n name [] h = tt
    found n name (m ∷ ms) h = found_by n (get_member name (members_of ms)) (bytes_eq m.0 name) m.1 (found n name ms h.1) h.0.1

    elements : (n : ℕ) (es : List Element) → Are n (map (λ e. e.0) es) → Elements n es
    elements n [] h = tt
    elements n (e ∷ es) h = (h.0, elements n es h.1)

    listed : (ms : List Member) → members_list (members_of ms) ≡ ms
    listed [] = refl
    listed (m ∷ ms) = ap (λ xs. m ∷ xs) (listed ms)

    members_hold : (n : ℕ) (ms : List Member) → Holds (suc n) (object (members_of ms)) → Each n ms
    members_hold n ms h = subst (Each n) (listed ms) (closed.has_members n (members_of ms) h)

    -- it holds of the elements of the old list
    pub elements_hold : (n : ℕ) (ms : List Member) (es : List Element) → Holds (suc (suc (suc n))) (object (members_of ms)) → get_member (codes "banned_nets") (members_of ms) ≡ Some (array (items_of (map (λ e. e.0) es))) → Elements (suc n) es
    elements_hold n ms es h list =
        elements (suc n) es (closed.has_items (suc n) (map (λ e. e.0) es) (subst (IfHolds (suc (suc n))) list (found (suc (suc n)) (codes "banned_nets") ms (members_hold (suc (suc n)) ms h))))

    abbrev pub OldHolds : ℕ → Option (List ℕ) → List Member → Type 0
    OldHolds n None ms = ⊤
    OldHolds n (Some bytes) ms = Holds n (object (members_of ms))

    -- it holds of the parts of an old file, if there is one
    pub old_holds : (n : ℕ) (old : Option (List ℕ)) (ms : List Member) (es : List Element) → IsOld old ms es → OldHolds (suc (suc (suc n))) old ms → Each (suc (suc n)) ms × Elements (suc n) es
    old_holds n None ms es is h = (subst (Each (suc (suc n))) (sym is.0) tt, subst (Elements (suc n)) (sym is.1) tt)
    old_holds n (Some bytes) ms es is h = (members_hold (suc (suc n)) ms h, elements_hold n ms es h is.list)

    -- it holds of the value of the new file
    pub new_holds : (n : ℕ) (old : Option (List ℕ)) (ms : List Member) (es : List Element) (bans : List Ban) → IsOld old ms es → OldHolds (suc (suc (suc n))) old ms → All (HasOwn n) bans → Holds (suc (suc (suc n))) (named_tree ms es bans)
    new_holds n old ms es bans is h own = let (members, listed) = old_holds n old ms es is h in tree_holds n ms es bans members listed own

    -- and of its list
    pub new_list : (n : ℕ) (old : Option (List ℕ)) (ms : List Member) (es : List Element) (bans : List Ban) → IsOld old ms es → OldHolds (suc (suc (suc n))) old ms → All (HasOwn n) bans → Are (suc n) (map (ban_tree es) bans ++ flat_map (λ e. other_of e.0 e.1) es)
    new_list n old ms es bans is h own =
        let (members, listed) = old_holds n old ms es is h in
        are_append (suc n) (map (ban_tree es) bans) (flat_map (λ e. other_of e.0 e.1) es) (bans_hold n es bans listed own) (others (suc n) es listed)
