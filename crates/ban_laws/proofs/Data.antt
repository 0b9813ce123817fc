-- What is written reads as data: no number in it is too large for a float.
use Rattle.std.proofs.Common.{◌≡◌, ℕ, suc, ◌≤◌, List, [], ◌∷◌, map, Option, Some, None, option_and_then, option_map, decimal, refl, sym, ap, ◌∙◌, arith}
use Rattle.std.specs.Prelude.{⊤}
use Rattle.json.specs.Json as json
use Rattle.json.specs.Json.{Json}
use Rattle.serde_json.specs.Data.{Data, Items, Members, array, item, no_items, no_members, null, number, object, put, string, unsigned}
use Rattle.serde_json.specs.Read.{of_items, of_json, of_members}
use Rattle.serde_json.specs.View as shown
use Rattle.serde_json.proofs.Numbers.{number_of-decimal}
use Rattle.ban_list.specs.NewFile.{Member, items_of, members_list, members_of}
use Rattle.ban_list.specs.SubnetText.{subnet_name}
use Rattle.ban_list.specs.declared.ban.Ban.{Ban}
use Rattle.ban_list.proofs.OldLaws.{map_some, then_some}
use Rattle.ban_laws.specs.Known.{HasTimes}
use Rattle.ban_laws.proofs.Parts.{Are, Each, HasOwn, IsClosed}

-- the value is data, at whatever depth
abbrev pub IsData : ℕ → Json → Type 0
IsData n j = (d : Data) × (of_json j ≡ Some d)

abbrev pub Any : List ℕ → Type 0
Any name = ⊤

members_are : (n : ℕ) (ms : List Member) (old : Members) → Each Any IsData n ms → (new : Members) × (of_members (members_of ms) old ≡ Some new)
members_are n [] old h = (old, refl)
members_are n (m ∷ ms) old h =
    let (d, is) = h.0.1 in
    let (new, made) = members_are n ms (put m.0 d old) h.1 in
    (new, ap (option_and_then (λ x. of_members (members_of ms) (put m.0 x old))) is ∙ made)

items_are : (n : ℕ) (js : List Json) → Are Any IsData n js → (ds : Items) × (of_items (items_of js) ≡ Some ds)
items_are n [] h = (no_items, refl)
items_are n (j ∷ js) h =
    let (d, is) = h.0 in
    let (ds, made) = items_are n js h.1 in
    (item d ds, ap (option_and_then (λ x. option_map (item x) (of_items (items_of js)))) is ∙ ap (option_map (item d)) made)

members_each : (n : ℕ) (ms : json.Members) (old new : Members) → of_members ms old ≡ Some new → Each Any IsData n (members_list ms)
members_each n json.no_members old new is = tt
members_each n (json.member k j ms) old new is =
    let (d, own, more) = then_some (λ x. of_members ms (put k x old)) (of_json j) new is in
    ((tt, (d, own)), members_each n ms (put k d old) new more)

items_each : (n : ℕ) (js : List Json) (ds : Items) → of_items (items_of js) ≡ Some ds → Are Any IsData n js
items_each n [] ds is = tt
items_each n (j ∷ js) ds is =
    let (d, own, more) = then_some (λ x. option_map (item x) (of_items (items_of js))) (of_json j) ds is in
    let (rest, made, whole) = map_some (item d) (of_items (items_of js)) ds more in
    ((d, own), items_each n js rest made)

object_is : (n : ℕ) (ms : List Member) → Each Any IsData n ms → IsData (suc n) (json.object (members_of ms))
object_is n ms h = let (new, made) = members_are n ms no_members h in (object new, ap (option_map object) made)

array_is : (n : ℕ) (js : List Json) → Are Any IsData n js → IsData (suc n) (json.array (items_of js))
array_is n js h = let (ds, made) = items_are n js h in (array ds, ap (option_map array) made)

object_has : (n : ℕ) (ms : json.Members) → IsData (suc n) (json.object ms) → Each Any IsData n (members_list ms)
object_has n ms h = let (new, made, whole) = map_some object (of_members ms no_members) h.0 h.1 in members_each n ms no_members new made

array_has : (n : ℕ) (js : List Json) → IsData (suc n) (json.array (items_of js)) → Are Any IsData n js
array_has n js h = let (ds, made, whole) = map_some array (of_items (items_of js)) h.0 h.1 in items_each n js ds made

pub closed : IsClosed Any IsData
closed = record { makes_object = object_is; makes_array = array_is; has_members = object_has; has_items = array_has; list_name = tt }

-- the digits of a number of 32 bits
pub number_is : (n : ℕ) → n ≤ 4294967295 → of_json (json.number (decimal n)) ≡ Some (number (unsigned n))
number_is n small = ap (option_map number) (number_of-decimal n (omega (arith, small)))

pub own_is : (n : ℕ) (ban : Ban) → HasTimes ban → HasOwn Any IsData closed n ban
own_is n ban times = (
  (tt, (string (subnet_name ban.subnet), refl)),
  (
    (tt, (number (unsigned ban.created), number_is ban.created times.0)),
    ((tt, (number (unsigned ban.until), number_is ban.until times.1)), ((tt, (number (unsigned 1), number_is 1 (omega arith))), tt)),
  ),
)

abbrev or_null : Option Data → Data
or_null None = null
or_null (Some d) = d

-- the data of a value that is some
abbrev pub data_of : Json → Data
data_of j = or_null (of_json j)

pub known : (n : ℕ) (j : Json) → IsData n j → of_json j ≡ Some (data_of j)
known n j h = h.1 ∙ ap Some (sym (ap or_null h.1))

pub items_known : (n : ℕ) (js : List Json) → Are Any IsData n js → of_items (items_of js) ≡ Some (shown.items_of (map data_of js))
items_known n [] h = refl
items_known n (j ∷ js) h =
    ap (option_and_then (λ x. option_map (item x) (of_items (items_of js)))) (known n j h.0) ∙ ap (option_map (item (data_of j))) (items_known n js h.1)
