-- The tokens and the depth of a list of bans.
use Rattle.std.proofs.Common.{◌≡◌, ℕ, ◌+◌, ◌<◌, ◌≤◌, List, [], ◌∷◌, ◌++◌, length, take, get_or, map, refl, ap, sym, ◌∙◌, arith, append_assoc}
use Rattle.std.proofs.Math.Nat.{max-le}
use Rattle.std.proofs.lemmas.List.{map-append, take_more}
use Rattle.std.proofs.lemmas.List.Elements.{filter-append}
use Rattle.json.specs.Token.{Token}
use Rattle.json.specs.Json.{Json}
use Rattle.json.specs.Tree.{json_tokens, items_tokens, depth, items_depth}
use Rattle.ban_list.specs.Bans.{current_by, lasts}
use Rattle.ban_list.specs.declared.ban.Ban.{Ban}
use Rattle.ban_list.specs.declared.ban.BanRule.{BanRule}
use Rattle.node_json.specs.Bans.{ban_json, bans_json}
use Rattle.node_json.specs.Inside.{items_tokens_of}
use Rattle.node_json.specs.Value.{array_of, items_of}

pub items-append : (xs ys : List Json) → items_tokens_of (xs ++ ys) ≡ items_tokens_of xs ++ items_tokens_of ys
items-append [] ys = refl
items-append (x ∷ xs) ys = ap (λ ts. json_tokens x ++ ts) (items-append xs ys) ∙ sym (append_assoc (json_tokens x) (items_tokens_of xs) (items_tokens_of ys))

items_end : (js : List Json) → items_tokens (items_of js) ≡ items_tokens_of js ++ Token.end_array ∷ []
items_end [] = refl
items_end (j ∷ js) = ap (λ ts. json_tokens j ++ ts) (items_end js) ∙ sym (append_assoc (json_tokens j) (items_tokens_of js) (Token.end_array ∷ []))

-- an array, written piece by piece
pub array_value : (js : List Json) (old begun inside new : List Token) → begun ≡ old ++ Token.begin_array ∷ [] → inside ≡ begun ++ items_tokens_of js → new ≡ inside ++ Token.end_array ∷ [] → new ≡ old ++ json_tokens (array_of js)
array_value js old begun inside new b i n =
    n ∙ ap (λ ts. ts ++ Token.end_array ∷ []) (i ∙ ap (λ ts. ts ++ items_tokens_of js) b)
    ∙ ap (λ ts. ts ++ Token.end_array ∷ []) (append_assoc old (Token.begin_array ∷ []) (items_tokens_of js))
    ∙ append_assoc old (Token.begin_array ∷ items_tokens_of js) (Token.end_array ∷ [])
    ∙ ap (λ ts. old ++ Token.begin_array ∷ ts) (sym (items_end js))

current-append : (rule : BanRule) (now : ℕ) (xs ys : List Ban) → current_by rule now (xs ++ ys) ≡ current_by rule now xs ++ current_by rule now ys
current-append rule now xs ys = filter-append (λ (ban : Ban). lasts rule now ban) xs ys

-- the bans of one position more
pub one_ban_more : (rule : BanRule) (now : ℕ) (bans : List Ban) (i : ℕ) (ban : Ban) (first at next : List Token) → i < length bans → ban ≡ get_or bans i ban
    → at ≡ first ++ items_tokens_of (map (ban_json now) (current_by rule now (take i bans)))
    → next ≡ at ++ items_tokens_of (map (ban_json now) (current_by rule now (ban ∷ [])))
    → next ≡ first ++ items_tokens_of (map (ban_json now) (current_by rule now (take (i + 1) bans)))
one_ban_more rule now bans i ban first at next lt is e f =
    let before = current_by rule now (take i bans) in
    let here = current_by rule now (ban ∷ []) in
    let taken : take (i + 1) bans ≡ take i bans ++ ban ∷ [] = take_more bans i ban lt ∙ ap (λ b. take i bans ++ b ∷ []) (sym is) in
    let all : items_tokens_of (map (ban_json now) (current_by rule now (take (i + 1) bans))) ≡ items_tokens_of (map (ban_json now) before) ++ items_tokens_of (map (ban_json now) here) =
    ap (λ bs. items_tokens_of (map (ban_json now) bs)) (ap (current_by rule now) taken ∙ current-append rule now (take i bans) (ban ∷ []))
    ∙ ap items_tokens_of (map-append (ban_json now) before here) ∙ items-append (map (ban_json now) before) (map (ban_json now) here) in
    f ∙ ap (λ ts. ts ++ items_tokens_of (map (ban_json now) here)) e ∙ append_assoc first (items_tokens_of (map (ban_json now) before)) (items_tokens_of (map (ban_json now) here)) ∙ ap (λ ts. first ++ ts) (sym all)

shallow_items : (now : ℕ) (bans : List Ban) → items_depth (items_of (map (ban_json now) bans)) ≤ 1
shallow_items now [] = omega arith
shallow_items now (b ∷ bans) = max-le (omega arith) (shallow_items now bans)

pub bans_depth : (rule : BanRule) (now : ℕ) (bans : List Ban) → depth (bans_json rule now bans) ≤ 128
unfolding bans_json
bans_depth rule now bans = omega (arith, shallow_items now (current_by rule now bans))
