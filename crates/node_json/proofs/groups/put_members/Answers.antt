use Rattle.std.proofs.Common.{◌≡◌, ℕ, ◌≤◌, [], ◌∷◌, ◌++◌, ◌∙◌, ap, arith, rules, codes, count_by, filter, length, map, not}
use Rattle.std.specs.List.{flat_map}
use Rattle.std.proofs.lemmas.List.{length-map}
use Rattle.peer_rec.specs.Rec.{is_tried}
use Rattle.placing.specs.Places.{asn}
use Rattle.table_groups.specs.Groups.{groups_in, row_of, rows_of}
use Rattle.node_json.specs.Groups.{clearnet_numbers, groups_array, groups_members, health_members, is_clearnet, row_items, totals_by, totals_members}
use Rattle.node_json.specs.Inside.{tokens_of}
use Rattle.node_json.specs.Value.{Member, array_of, object_of}
use Rattle.node_json.proofs.Counts.{counts_all}
use Rattle.node_json.proofs.Listed.{few_numbers}
use Rattle.node_json.proofs.Tokens.{member_more, no_member}
use Rattle.node_json.proofs.groups.put_members.Goals as goal
use Rattle.table_groups.specs.View.{View}

-- there are at most as many records as slots
few : (view : View) (new tried n : ℕ) → new ≡ count_by (λ r. not (is_tried r)) view.records → tried ≡ count_by is_tried view.records → new ≤ 65536 → tried ≤ 16384 → n ≡ length view.records
    → n ≤ 81920
few view new tried n p q r s is = omega (arith, counts_all is_tried view.records, p, q, r, s, is)

pub rows_of-requires-clause-few : goal.rows_of-requires-clause-few
rows_of-requires-clause-few g c =
    few (g.T.TableView.view c.args.tables.now) c.sizes-counts.result.0 c.sizes-counts.result.1 _ c.sizes-counts.ensures.new c.sizes-counts.ensures.tried c.sizes-counts.ensures.few_new c.sizes-counts.ensures.few_tried
    (ap length c.requires)

pub put_asmap-requires : goal.put_asmap-requires
put_asmap-requires g c =
    omega (
      arith,
      ap length (c.as_slice-2.ensures.value ∙ c.in_ok-numbers.ensures),
      few_numbers c.places.result.now c.args.recs.now,
      few (g.T.TableView.view c.args.tables.now) c.sizes-counts.result.0 c.sizes-counts.result.1 _ c.sizes-counts.ensures.new c.sizes-counts.ensures.tried c.sizes-counts.ensures.few_new c.sizes-counts.ensures.few_tried
          (ap length c.requires),
    )

pub returns : goal.returns
unfolding groups_members groups_array clearnet_numbers rows_of
returns g c =
    let view = (g.T.TableView.view c.args.tables.now) in
    let old = c.args.json.now in
    let recs = c.requires in
    let rows : c.in_ok-rows.rows.items ≡ rows_of view = c.in_ok-rows.ensures in
    let groups : Member = (codes "groups", groups_array view) in
    let totals : Member = (codes "totals", object_of (totals_members view)) in
    let health : Member = (codes "asmap", object_of (health_members (clearnet_numbers view))) in
    let listed : c.len.result ≡ length c.in_ok-rows.rows.items = search rules in
    let length_is = listed ∙ ap length rows ∙ length-map (groups_in view) (row_of view) in
    let one = member_more [] groups old _ _ (no_member old)
    (c.in_ok-put_array.ensures ∙ (λ i. old ++ tokens_of ((codes "groups", array_of (flat_map (row_items (c.places-2.ensures i)) ((c.as_slice.ensures.value ∙ rows) i))) ∷ []))) in
    let two = member_more (groups ∷ []) totals old _ _ one
    (c.in_ok-put_totals.ensures ∙ (λ i. c.put_array.new.json ++ tokens_of ((
      codes "totals",
      object_of (totals_by (length_is i) (c.new_slots-slots.ensures.count i) (c.sizes-counts.ensures.new i) (c.sizes-counts.ensures.tried i)),
    ) ∷ []))) in
    member_more (groups ∷ totals ∷ []) health old _ _ two
    (c.in_ok-put_asmap.ensures ∙ (λ i. c.put_totals.new.json ++ tokens_of ((
      codes "asmap",
      object_of (health_members ((c.as_slice-2.ensures.value ∙ c.in_ok-numbers.ensures
          ∙ (λ j. map (λ r. asn (c.places.ensures j).map r.peer.addr) (filter is_clearnet (recs j)))) i)),
    ) ∷ [])))
