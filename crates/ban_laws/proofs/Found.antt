-- What is found under the names that are written anew.
use Rattle.std.proofs.Common.{◌≡◌, ℕ, List, [], ◌∷◌, ◌++◌, flat_map, Bool, true, false, cond, codes, Option, Some, None, bytes_eq, refl, sym, ap, ◌∙◌}
use Rattle.std.specs.Prelude.{⊤, not}
use Rattle.std.proofs.lemmas.Slice.Eq.{bytes_eq-Decides}
use Rattle.json.specs.Find.{get_member, later_or}
use Rattle.json.specs.Json.{Json}
use Rattle.ban_list.specs.Bans.{same_subnet}
use Rattle.ban_list.specs.NewFile.{Element, Member, besides, besides_at, is_ban_name, is_list_name, members_in, members_of, with_list}
use Rattle.ban_list.specs.declared.subnet.Subnet.{Subnet}

-- no member has one of these names
abbrev Others : (List ℕ → Bool) → List Member → Type 0
Others has [] = ⊤
Others has (m ∷ ms) = (has m.0 ≡ false) × Others has ms

others_by : (has : List ℕ → Bool) (b : Bool) (m : Member) (ms : List Member) → has m.0 ≡ b → Others has ms → Others has (cond (not b) (m ∷ ms) ms)
others_by has true m ms is h = h
others_by has false m ms is h = (is, h)

others_besides : (has : List ℕ → Bool) (ms : List Member) → Others has (besides has ms)
others_besides has [] = tt
others_besides has (m ∷ ms) = others_by has (has m.0) m (besides has ms) refl (others_besides has ms)

others_append : (has : List ℕ → Bool) (xs ys : List Member) → Others has xs → Others has ys → Others has (xs ++ ys)
others_append has [] ys h k = k
others_append has (x ∷ xs) ys h k = (h.0, others_append has xs ys h.1 k)

others_if : (b : Bool) (ms : List Member) → Others is_ban_name ms → Others is_ban_name (cond b ms [])
others_if true ms h = h
others_if false ms h = tt

others_at : (subnet : Subnet) (j : Json) (own : Option Subnet) → Others is_ban_name (besides_at subnet j own)
others_at subnet j None = tt
others_at subnet j (Some own) = others_if (same_subnet own subnet) (besides is_ban_name (members_in j)) (others_besides is_ban_name (members_in j))

-- nor has one that is kept of the old elements of a subnet
pub others_found : (subnet : Subnet) (es : List Element) → Others is_ban_name (flat_map (λ e. besides_at subnet e.0 e.1) es)
others_found subnet [] = tt
others_found subnet (e ∷ es) =
    others_append is_ban_name (besides_at subnet e.0 e.1) (flat_map (λ d. besides_at subnet d.0 d.1) es) (others_at subnet e.0 e.1) (others_found subnet es)

differ : (has : List ℕ → Bool) (name other : List ℕ) (b : Bool) → bytes_eq other name ≡ b → has name ≡ true → has other ≡ false → b ≡ false
differ has name other true is own none = let e = ap has ((bytes_eq-Decides other name).0 is) in sym own ∙ sym e ∙ none
differ has name other false is own none = refl

-- so nothing is found there
pub none_found : (has : List ℕ → Bool) (name : List ℕ) (ms : List Member) → has name ≡ true → Others has ms → get_member name (members_of ms) ≡ None
none_found has name [] own h = refl
none_found has name (m ∷ ms) own h =
    λ i. later_or (none_found has name ms own h.1 i) (cond (differ has name m.0 (bytes_eq m.0 name) refl own h.0 i) (Some m.1) None)

-- what is found in the first members, if the others have no such name
pub first_found : (name : List ℕ) (xs ys : List Member) → get_member name (members_of ys) ≡ None → get_member name (members_of (xs ++ ys)) ≡ get_member name (members_of xs)
first_found name [] ys none = none
first_found name (x ∷ xs) ys none = ap (λ o. later_or o (cond (bytes_eq x.0 name) (Some x.1) None)) (first_found name xs ys none)

list_by : (list : Json) (b : Bool) (m : Member) (ms : List Member) → get_member (codes "banned_nets") (members_of (with_list list ms)) ≡ Some list →
    get_member (codes "banned_nets") (members_of (cond b ((codes "banned_nets", list) ∷ besides is_list_name ms) (m ∷ with_list list ms))) ≡ Some list
list_by list true m ms rest = ap (λ o. later_or o (Some list)) (none_found is_list_name (codes "banned_nets") (besides is_list_name ms) refl (others_besides is_list_name ms))
list_by list false m ms rest = ap (λ o. later_or o (cond (bytes_eq m.0 (codes "banned_nets")) (Some m.1) None)) rest

-- the new list is found under its name
pub list_found : (list : Json) (ms : List Member) → get_member (codes "banned_nets") (members_of (with_list list ms)) ≡ Some list
list_found list [] = refl
list_found list (m ∷ ms) = list_by list (is_list_name m.0) m ms (list_found list ms)
