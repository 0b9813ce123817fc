-- The tokens and the depth of both tables.
use Rattle.std.proofs.Common.{◌≡◌, ℕ, ◌≤◌, List, [], ◌∷◌, ◌++◌, Option, Some, None, ap, sym, ◌∙◌, arith, append_assoc, codes}
use Rattle.std.specs.List.{range_with_len}
use Rattle.json.specs.Token.{Token}
use Rattle.json.specs.Json.{string}
use Rattle.json.specs.Tree.{depth}
use Rattle.slot_grid.specs.declared.sizes.TheConstants.{SLOTS}
use Rattle.names.specs.Name.{name_text}
use Rattle.placing.specs.Places.{Places, asn}
use Rattle.peer_rec.specs.declared.rec.Rec.{Rec}
use Rattle.table_machine.specs.State.{State}
use Rattle.node_json.specs.Inside.{peer_tokens, source_tokens, tokens_of}
use Rattle.node_json.specs.Raw.{both_members, bucket_members, buckets_of, class_name, name_of, raw_json, rec_at, record_members, slot_member, table_members}
use Rattle.node_json.specs.Value.{Member, json_number, object_of, unless_zero}
use Rattle.node_json.specs.declared.table.Table.{Table}
use Rattle.node_json.specs.declared.table.Table.TheVariants.{New, Tried}
use Rattle.node_json.proofs.Tokens.{AreShallow, shallow-append, shallow-flat_map, shallow_object, shallow_unless, tokens_of-append}

joined : (x p q r s d e : List Token) → (x ++ p ++ q ++ r ++ s) ++ (d ++ e) ≡ x ++ (p ++ q ++ r ++ s) ++ d ++ e
joined x p q r s d e = simp append_assoc

-- the two parts of a record's members are all of them
pub record_tokens : (places : Places) (r : Rec) → peer_tokens places r ++ source_tokens places r ≡ tokens_of (record_members places r)
unfolding record_members peer_tokens source_tokens
record_tokens places r =
    let a = (codes "address", string (name_text r.peer.addr)) ∷ [] in
    let b = unless_zero (codes "mapped_as") (asn places.map r.peer.addr) in
    let port : Member = (codes "port", json_number r.peer.port) in
    let services : Member = (codes "services", json_number r.services) in
    let time : Member = (codes "time", json_number r.time) in
    let network : Member = (codes "network", string (class_name r.peer.addr)) in
    let c = port ∷ services ∷ time ∷ network ∷ [] in
    let d = (codes "source", string (name_text r.source)) ∷ (codes "source_network", string (class_name r.source)) ∷ [] in
    let e = unless_zero (codes "source_mapped_as") (asn places.map r.source) in
    sym (tokens_of-append (a ++ b ++ c ++ d) e
    ∙ ap (λ ts. ts ++ tokens_of e) (tokens_of-append (a ++ b ++ c) d ∙ ap (λ ts. ts ++ tokens_of d) (tokens_of-append (a ++ b) c ∙ ap (λ ts. ts ++ tokens_of c) (tokens_of-append a b)))
    ∙ sym (joined (tokens_of a ++ tokens_of b) (tokens_of (port ∷ [])) (tokens_of (services ∷ [])) (tokens_of (time ∷ [])) (tokens_of (network ∷ [])) (tokens_of d) (tokens_of e)))

shallow_record : (places : Places) (r : Rec) → AreShallow 0 (record_members places r)
unfolding record_members
shallow_record places r =
    let d : depth (string []) ≤ 0 = omega arith in
    let a = (codes "address", string (name_text r.peer.addr)) ∷ [] in
    let b = unless_zero (codes "mapped_as") (asn places.map r.peer.addr) in
    let c = (codes "port", json_number r.peer.port) ∷ (codes "services", json_number r.services) ∷ (codes "time", json_number r.time) ∷ (codes "network", string (class_name r.peer.addr)) ∷ [] in
    let s = (codes "source", string (name_text r.source)) ∷ (codes "source_network", string (class_name r.source)) ∷ [] in
    let e = unless_zero (codes "source_mapped_as") (asn places.map r.source) in
    shallow-append 0 (a ++ b ++ c ++ s) e
    (shallow-append 0 (a ++ b ++ c) s (shallow-append 0 (a ++ b) c (shallow-append 0 a b (d, tt) (shallow_unless _ _)) (d, (d, (d, (d, tt))))) (d, (d, tt)))
    (shallow_unless _ _)

shallow_slot : (places : Places) (bucket slot : ℕ) (o : Option Rec) → AreShallow 1 (slot_member places bucket slot o)
shallow_slot places bucket slot None = tt
shallow_slot places bucket slot (Some r) = (shallow_object 0 (record_members places r) (shallow_record places r), tt)

shallow_table : (table : Table) (st : State) → AreShallow 1 (table_members table st)
shallow_table table st =
    shallow-flat_map 1 (bucket_members table st) (range_with_len 0 (buckets_of table)) λ bucket.
    shallow-flat_map 1 (λ slot. slot_member st.places bucket slot (rec_at table st bucket slot)) (range_with_len 0 SLOTS) λ slot.
    shallow_slot st.places bucket slot (rec_at table st bucket slot)

pub raw_depth : (st : State) → depth (raw_json st) ≤ 128
unfolding raw_json both_members
raw_depth st =
    let both = shallow_object 2 ((name_of New, object_of (table_members New st)) ∷ (name_of Tried, object_of (table_members Tried st)) ∷ [])
    (shallow_object 1 (table_members New st) (shallow_table New st), (shallow_object 1 (table_members Tried st) (shallow_table Tried st), tt)) in
    omega (arith, both)
