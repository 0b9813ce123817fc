-- What is written is read as the list of the same bans.
use Rattle.std.proofs.Common.{◌≡◌, ℕ, ◌≤◌, List, [], ◌∷◌, ◌++◌, map, flat_map, All, Option, Some, None, option_and_then, option_map, codes, decimal, min, refl, sym, ap, ◌∙◌, subst, arith, inr, true, append-nil}
use Rattle.std.specs.Prelude.{slice_index_or}
use Rattle.std.proofs.lemmas.List.Elements.{All-head, All-tail, All-weaker}
use Rattle.std.proofs.lemmas.List.Sorted.{All-permutation, length_permutation}
use Rattle.json.specs.Find as find
use Rattle.json.specs.Json as json
use Rattle.json.specs.Json.{Json, document, if_last, value}
use Rattle.json.specs.Lex.{tokens}
use Rattle.json.specs.Print.{print}
use Rattle.json.specs.Tree.{HasNumbers, depth, json_tokens}
use Rattle.json.proofs.Found.{one_reading}
use Rattle.json.proofs.Nesting.{value-depth}
use Rattle.json.proofs.Printed.Tokens.{tokens-print}
use Rattle.json.proofs.Printed.Trees.{ArePrintable-json_tokens, value-json_tokens}
use Rattle.serde_json.specs.Data.{Data, array, no_members, object, unsigned}
use Rattle.serde_json.specs.Find.{as_array, as_number, as_str, as_u64, get}
use Rattle.serde_json.specs.Read.{of_json, of_members, read}
use Rattle.ban_list.specs.BanFile.{AreElements, HasElements, IsElement, IsListFile, clamped, max_time, number_at, time_at}
use Rattle.ban_list.specs.Bans.{AreBans}
use Rattle.ban_list.specs.NewFile.{AreOldElements, Element, IsNamedFile, IsOld, Member, ban_tree, besides_at, is_ban_name, list_tree, members_of, named_tree, other_of, own_members, with_list}
use Rattle.ban_list.specs.SubnetText.{IsNamedText, subnet_name}
use Rattle.ban_list.specs.declared.ban.Ban.{Ban}
use Rattle.ban_list.specs.declared.ban.BanRule.TheVariants.{Names}
use Rattle.ban_list.proofs.FileLaws.{file_of}
use Rattle.ban_list.proofs.OldLaws.{Some_inj, get_read, last, map_some, read_or, then_some, tree_reads}
use Rattle.ban_list.proofs.WriteLaws.{merged_onto}
use Rattle.ban_laws.specs.Known.{HasName, HasTimes}
use Rattle.ban_laws.proofs.Data.{Any, IsData, closed, data_of, items_known, known, number_is, own_is}
use Rattle.ban_laws.proofs.Distinct.{distinct-permutation}
use Rattle.ban_laws.proofs.Found.{first_found, list_found, none_found, others_found}
use Rattle.ban_laws.proofs.Names.{name_back}
use Rattle.ban_laws.proofs.Parts.{Are, Elements, HasOwn, OldHolds, new_holds, new_list, old_holds}
use Rattle.ban_laws.proofs.Values.{IsShallow, new_fits}

-- the name of the ban's subnet parses as the subnet, and its times are of 32 bits
record IsRead (ban : Ban) : Type 0 where
  subnet : IsNamedText (subnet_name ban.subnet) ban.subnet
  times : HasTimes ban

are_read : (bans : List Ban) → AreBans bans → All HasTimes bans → All (λ ban. HasName ban.subnet) bans → All IsRead bans
are_read bans are times names k d lt = record {
  subnet = name_back (slice_index_or bans k d).subnet (are.proper k d lt) (names k d lt);
  times = times k d lt;
}

-- what is found in the data of an object
data_found : (name : List ℕ) (ms : List Member) (n : ℕ) → IsData n (json.object (members_of ms)) →
    get name (data_of (json.object (members_of ms))) ≡ read_or (find.get_member name (members_of ms)) None
data_found name ms n is =
    let tree = json.object (members_of ms) in
    let (new, made, whole) = map_some object (of_members (members_of ms) no_members) (data_of tree) (known n tree is) in
    ap (get name) (sym whole) ∙ get_read name (members_of ms) no_members new made

-- ---- the element of a ban

module _ (es : List Element) (ban : Ban) (n : ℕ) (is : IsData n (ban_tree es ban)) (has : IsRead ban) where
  abbrev more : List Member
  more = flat_map (λ e. besides_at ban.subnet e.0 e.1) es

  own_found : (name : List ℕ) (j : Json) → is_ban_name name ≡ true → find.get_member name (members_of (own_members ban)) ≡ Some j → get name (data_of (ban_tree es ban)) ≡ of_json j
  own_found name j own found =
      data_found name (own_members ban ++ more) n is
      ∙ ap (λ o. read_or o None) (first_found name (own_members ban) more (none_found is_ban_name name more own (others_found ban.subnet es)) ∙ found)

  number_found : (name : List ℕ) (k : ℕ) → k ≤ max_time → is_ban_name name ≡ true → find.get_member name (members_of (own_members ban)) ≡ Some (json.number (decimal k)) →
      number_at name (data_of (ban_tree es ban)) ≡ Some (unsigned k)
  number_found name k small own found = ap (option_and_then as_number) (own_found name (json.number (decimal k)) own found ∙ number_is k small)

  time_found : (name : List ℕ) (k : ℕ) → k ≤ max_time → is_ban_name name ≡ true → find.get_member name (members_of (own_members ban)) ≡ Some (json.number (decimal k)) →
      time_at name (data_of (ban_tree es ban)) ≡ Some k
  time_found name k small own found =
      let same : min k max_time ≡ k = omega (arith, small) in
      ap (option_and_then clamped) (number_found name k small own found) ∙ ap Some same

  element_is : IsElement Names (data_of (ban_tree es ban)) ban
  element_is = record {
    version = ap (option_and_then as_u64) (number_found (codes "version") 1 (omega arith) refl refl);
    address = subnet_name ban.subnet;
    address_text = ap (option_and_then as_str) (own_found (codes "address") (json.string (subnet_name ban.subnet)) refl refl);
    subnet = has.subnet;
    created = time_found (codes "ban_created") ban.created has.times.0 refl refl;
    until = time_found (codes "banned_until") ban.until has.times.1 refl refl;
  }

-- ---- the list

passed : (n : ℕ) (es : List Element) → AreOldElements es → Elements Any IsData n es → AreElements Names (map data_of (flat_map (λ e. other_of e.0 e.1) es)) []
unfolding AreElements AreOldElements
passed n [] are h = refl
passed n ((j, None) ∷ es) are h = (λ ban is. are.0 (data_of j) (known n j h.0) ban is, passed n es are.1 h.1)
passed n ((j, Some own) ∷ es) are h = passed n es are.1 h.1

counted : (n : ℕ) (es : List Element) (js : List Json) (bans : List Ban) → Are Any IsData n (map (ban_tree es) bans ++ js) → All IsRead bans → AreElements Names (map data_of js) [] →
    AreElements Names (map data_of (map (ban_tree es) bans ++ js)) bans
unfolding AreElements
counted n es js [] are names rest = rest
counted n es js (ban ∷ bans) are names rest =
    inr (element_is es ban n are.0 (All-head IsRead ban bans names), counted n es js bans are.1 (All-tail IsRead ban bans names) rest)

old_elements : (old : Option (List ℕ)) (ms : List Member) (es : List Element) → IsOld old ms es → AreOldElements es
unfolding AreOldElements
old_elements None ms es is = subst AreOldElements (sym is.1) tt
old_elements (Some bytes) ms es is = is.are

-- ---- the text

module _ (bytes : List ℕ) (d : Data) (is : read bytes ≡ Some d) where
  -- what is read nests no deeper than the reader allows
  read_shallow : (j : Json) → document bytes ≡ Some j → depth j ≤ 127
  read_shallow j tree =
      let (i, whole, own) = then_some of_json (option_and_then (λ p. if_last p.0 p.1) (value 127 (tokens bytes))) d is in
      let same = Some_inj (i, []) (j, []) (one_reading 127 128 (tokens bytes) (i, []) (j, []) (last _ i whole) (last _ j tree)) in
      subst (λ (x : Json). depth x ≤ 127) (ap (λ p. p.0) same) (value-depth 127 (tokens bytes) [] i (last _ i whole))

old_shallow : (old : Option (List ℕ)) (ms : List Member) (es : List Element) → IsOld old ms es → IsShallow 127 old
old_shallow None ms es is = tt
old_shallow (Some bytes) ms es is = read_shallow bytes is.value is.is_read

old_data : (old : Option (List ℕ)) (ms : List Member) (es : List Element) → IsOld old ms es → OldHolds Any IsData closed 127 old ms
old_data None ms es is = tt
old_data (Some bytes) ms es is = (is.value, tree_reads bytes is.value (json.object (members_of ms)) is.is_read is.text)

printed : (tree : Json) → HasNumbers tree → depth tree ≤ 127 → read (print (json_tokens tree)) ≡ of_json tree
printed tree numbers shallow =
    ap (λ ts. option_and_then of_json (option_and_then (λ p. if_last p.0 p.1) (value 127 ts))) (tokens-print (json_tokens tree) (ArePrintable-json_tokens tree numbers) ∙ sym (append-nil (json_tokens tree)))
    ∙ ap (λ o. option_and_then of_json (option_and_then (λ p. if_last p.0 p.1) o)) (value-json_tokens tree 127 [] shallow)

pub reads_back : (old : Option (List ℕ)) (bans : List Ban) (text : List ℕ) → AreBans bans → All HasTimes bans → All (λ ban. HasName ban.subnet) bans → (file : IsNamedFile old bans text) → IsListFile Names text file.sorted
reads_back old bans text are times names file =
    let ms = file.members in
    let es = file.elements in
    let sorted = file.sorted in
    let others = flat_map (λ e. other_of e.0 e.1) es in
    let js = map (ban_tree es) sorted ++ others in
    let tree = named_tree ms es sorted in
    let named = All-permutation IsRead bans sorted file.same (are_read bans are times names) in
    let own = All-weaker IsRead (HasOwn Any IsData closed 124) (λ ban has. own_is 124 ban has.times) sorted named in
    let kept = old_data old ms es file.is_old in
    let fits = new_fits 124 old bans text (old_shallow old ms es file.is_old) times file in
    let whole : IsData 127 tree = new_holds Any IsData closed 124 old ms es sorted file.is_old kept own in
    let listed : Are Any IsData 125 js = new_list Any IsData closed 124 old ms es sorted file.is_old kept own in
    let elements = (old_holds Any IsData closed 124 old ms es file.is_old kept).1 in
    let is_read : read text ≡ Some (data_of tree) = ap read file.exact ∙ printed tree fits.0 fits.1 ∙ known 127 tree whole in
    let form : HasElements (data_of tree) (map data_of js) =
    ap (option_and_then as_array) (data_found (codes "banned_nets") (with_list (list_tree es sorted) ms) 127 whole ∙ ap (λ o. read_or o None) (list_found (list_tree es sorted) ms)
    ∙ ap (option_map array) (items_known 125 js listed)) in
    let rest = passed 125 es (old_elements old ms es file.is_old) elements in
    let long = length_permutation bans sorted file.same in
    let distinct = distinct-permutation bans sorted file.same are.distinct in
    file_of Names text (data_of tree) (map data_of js) sorted sorted (file.utf8, is_read) form (counted 125 es others sorted listed named rest) (omega (arith, long, are.few)) (sym (merged_onto [] sorted distinct))
