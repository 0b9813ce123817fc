-- What is written reads as the value that it was written for.
use Rattle.std.proofs.Common.{◌≡◌, ℕ, suc, ◌≤◌, List, [], ◌∷◌, All, Option, Some, None, option_and_then, refl, ap, ◌∙◌, subst, arith}
use Rattle.std.specs.Prelude.{⊤}
use Rattle.std.proofs.lemmas.List.Elements.{All-weaker}
use Rattle.std.proofs.lemmas.List.Sorted.{All-permutation}
use Rattle.json.specs.Json.{Json, Members, document, if_last, max_depth, member, no_members, object, value}
use Rattle.json.specs.Lex.{tokens}
use Rattle.json.specs.Token.{Token}
use Rattle.json.specs.Tree.{HasNumbers, ItemsHaveNumbers, MembersHaveNumbers, depth, items_depth, members_depth}
use Rattle.json.proofs.Nesting.{value-depth}
use Rattle.json.proofs.Numbered.{document-HasNumbers}
use Rattle.json.proofs.Printed.Decimals.{IsNumber-decimal}
use Rattle.json.proofs.Printed.Trees.{document-print}
use Rattle.ban_list.specs.NewFile.{Element, IsNamedFile, IsOld, Member, items_of, members_list, members_of, named_tree}
use Rattle.ban_list.specs.declared.ban.Ban.{Ban}
use Rattle.ban_laws.specs.Known.{HasTimes}
use Rattle.ban_laws.proofs.Parts.{Are, Each, HasOwn, IsClosed, OldHolds, new_holds}

-- a value whose numbers are numbers, and that nests at most so deep
abbrev Fits : ℕ → Json → Type 0
Fits n j = HasNumbers j × (depth j ≤ n)

abbrev Any : List ℕ → Type 0
Any name = ⊤

members_fit : (n : ℕ) (ms : List Member) → Each Any Fits n ms → MembersHaveNumbers (members_of ms) × (members_depth (members_of ms) ≤ n)
members_fit n [] h = (tt, omega arith)
members_fit n (m ∷ ms) h = let rest = members_fit n ms h.1 in ((h.0.1.0, rest.0), omega (arith, h.0.1.1, rest.1))

items_fit : (n : ℕ) (js : List Json) → Are Any Fits n js → ItemsHaveNumbers (items_of js) × (items_depth (items_of js) ≤ n)
items_fit n [] h = (tt, omega arith)
items_fit n (j ∷ js) h = let rest = items_fit n js h.1 in ((h.0.0, rest.0), omega (arith, h.0.1, rest.1))

members_each : (n : ℕ) (ms : Members) → MembersHaveNumbers ms → members_depth ms ≤ n → Each Any Fits n (members_list ms)
members_each n no_members h k = tt
members_each n (member name j ms) h k = ((tt, (h.0, omega arith)), members_each n ms h.1 (omega arith))

items_each : (n : ℕ) (js : List Json) → ItemsHaveNumbers (items_of js) → items_depth (items_of js) ≤ n → Are Any Fits n js
items_each n [] h k = tt
items_each n (j ∷ js) h k = ((h.0, omega arith), items_each n js h.1 (omega arith))

closed : IsClosed Any Fits
closed = record {
  makes_object = λ n ms h. let fit = members_fit n ms h in (fit.0, omega (arith, fit.1));
  makes_array = λ n js h. let fit = items_fit n js h in (fit.0, omega (arith, fit.1));
  has_members = λ n ms h. members_each n ms h.0 (omega (arith, h.1));
  has_items = λ n js h. items_each n js h.0 (omega (arith, h.1));
  list_name = tt;
}

own_fits : (n : ℕ) (ban : Ban) → HasTimes ban → HasOwn Any Fits closed n ban
own_fits n ban times =
    let zero_fits : 0 ≤ n = omega arith in
    ((tt, (tt, zero_fits)), ((tt, (IsNumber-decimal ban.created (omega (arith, times.0)), zero_fits)), ((tt, (IsNumber-decimal ban.until (omega (arith, times.1)), zero_fits)), ((tt, (IsNumber-decimal 1 (omega arith), zero_fits)), tt))))

abbrev IfShallow : ℕ → Option Json → Type 0
IfShallow n None = ⊤
IfShallow n (Some j) = depth j ≤ n

last_shallow : (n : ℕ) (o : Option (Json × List Token)) → ((j : Json) (r : List Token) → o ≡ Some (j, r) → depth j ≤ n) → IfShallow n (option_and_then (λ p. if_last p.0 p.1) o)
last_shallow n None h = tt
last_shallow n (Some (j, [])) h = h j [] refl
last_shallow n (Some (j, t ∷ ts)) h = tt

document_depth : (text : List ℕ) (j : Json) → document text ≡ Some j → depth j ≤ max_depth
document_depth text j e = subst (IfShallow max_depth) e (last_shallow max_depth (value max_depth (tokens text)) (λ i r is. value-depth max_depth (tokens text) r i is))

abbrev pub IsShallow : ℕ → Option (List ℕ) → Type 0
IsShallow n None = ⊤
IsShallow n (Some bytes) = (j : Json) → document bytes ≡ Some j → depth j ≤ n

old_fits : (n : ℕ) (old : Option (List ℕ)) (ms : List Member) (es : List Element) → IsShallow n old → IsOld old ms es → OldHolds Any Fits closed n old ms
old_fits n None ms es shallow is = tt
old_fits n (Some bytes) ms es shallow is = (document-HasNumbers bytes (object (members_of ms)) is.text, shallow (object (members_of ms)) is.text)

-- the new value fits where the old one did
pub new_fits : (n : ℕ) (old : Option (List ℕ)) (bans : List Ban) (text : List ℕ) → IsShallow (suc (suc (suc n))) old → All HasTimes bans → (file : IsNamedFile old bans text) →
    HasNumbers (named_tree file.members file.elements file.sorted) × (depth (named_tree file.members file.elements file.sorted) ≤ suc (suc (suc n)))
new_fits n old bans text shallow times file =
    let own = All-weaker HasTimes (HasOwn Any Fits closed n) (own_fits n) file.sorted (All-permutation HasTimes bans file.sorted file.same times) in
    new_holds Any Fits closed n old file.members file.elements file.sorted file.is_old (old_fits (suc (suc (suc n))) old file.members file.elements shallow file.is_old) own

documents_shallow : (old : Option (List ℕ)) → IsShallow 128 old
documents_shallow None = tt
documents_shallow (Some bytes) = document_depth bytes

pub has_value : (old : Option (List ℕ)) (bans : List Ban) (text : List ℕ) → All HasTimes bans → (file : IsNamedFile old bans text) → document text ≡ Some (named_tree file.members file.elements file.sorted)
has_value old bans text times file =
    let fits = new_fits 125 old bans text (documents_shallow old) times file in
    ap document file.exact ∙ document-print (named_tree file.members file.elements file.sorted) fits.0 fits.1
