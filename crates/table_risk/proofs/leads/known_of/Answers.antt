use Rattle.std.proofs.Common.{◌≡◌, ◌<◌, ◌∙◌, All, List, ap, false, map, rules, subst, sym, true}
use Rattle.peer_rec.specs.Rec.{buckets_of}
use Rattle.peer_rec.specs.declared.rec.Rec.{Rec}
use Rattle.risk_parts.proofs.Sums.{fit_of}
use Rattle.risk_parts.specs.Leads.{kinds_of_all, lead_of}
use Rattle.risk_parts.specs.declared.leads.Lead.{Lead}
use Rattle.table_risk.proofs.KindsOf.{buckets_below}
use Rattle.table_risk.proofs.LeadsOf.{new_is, tried_is}
use Rattle.table_risk.proofs.leads.known_of.Goals as goal

pub leads_of-requires : goal.leads_of-requires
leads_of-requires g c =
    let same : c.items.result.now ≡ c.args.tables.now.records = search rules in
    subst (λ (rs : List Rec). All (λ r. All (λ b. b < 1024) (buckets_of r)) rs) (sym same) (buckets_below c.args.tables.now c.counts-counts.ensures.sound)

pub kinds_of_all-new-requires : goal.kinds_of_all-new-requires
kinds_of_all-new-requires g c =
    let same : c.items.result.now ≡ c.args.tables.now.records = search rules in
    fit_of c.args.tables.now c.args.now c.as_slice.result.now true c.counts-counts.ensures.sound
    (c.as_slice.ensures.value ∙ c.in_ok-leads.ensures ∙ ap (map (lead_of c.args.tables.now c.args.now)) same)

pub kinds_of_all-tried-requires : goal.kinds_of_all-tried-requires
kinds_of_all-tried-requires g c =
    let same : c.items.result.now ≡ c.args.tables.now.records = search rules in
    fit_of c.args.tables.now c.args.now c.as_slice-2.result.now false c.counts-counts.ensures.sound
    (c.as_slice-2.ensures.value ∙ c.in_ok-leads.ensures ∙ ap (map (lead_of c.args.tables.now c.args.now)) same)

pub returns : goal.returns
returns g c =
    let same : c.items.result.now ≡ c.args.tables.now.records = search rules in
    record {
      sound = c.counts-counts.ensures.sound;
      each = c.in_ok-leads.ensures ∙ ap (map (lead_of c.args.tables.now c.args.now)) same;
      new_kinds = c.kinds_of_all-new.ensures ∙ ap (λ (ls : List Lead). kinds_of_all ls true) c.as_slice.ensures.value;
      tried_kinds = c.kinds_of_all-tried.ensures ∙ ap (λ (ls : List Lead). kinds_of_all ls false) c.as_slice-2.ensures.value;
      wanted_new = c.counts-counts.ensures.new ∙ new_is c.args.tables.now.records;
      wanted_tried = c.counts-counts.ensures.tried ∙ tried_is c.args.tables.now.records;
    }
