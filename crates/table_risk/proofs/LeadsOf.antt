-- How many records a table has, whatever their networks.
use Rattle.std.proofs.Common.{◌≡◌, Bool, true, false, ◌&&◌, not, List, count_by, refl, sym, ◌∙◌}
use Rattle.net_addr.specs.NetSet.{all}
use Rattle.peer_rec.specs.Rec.{is_tried}
use Rattle.peer_rec.specs.declared.rec.Rec.{Rec}
use Rattle.table_machine.specs.Picks.{is_wanted}
use Rattle.table_risk.proofs.MaskGaps.{wanted_all}

and_true : (b : Bool) → b ≡ (b && true)
and_true true = refl
and_true false = refl

with_all : (b : Bool) (r : Rec) → b ≡ (b && is_wanted all r)
with_all b r = and_true b ∙ (λ i. b && sym (wanted_all r) i)

pub new_is : (recs : List Rec) → count_by (λ r. not (is_tried r)) recs ≡ count_by (λ r. not (is_tried r) && is_wanted all r) recs
new_is recs = λ i. count_by (λ r. with_all (not (is_tried r)) r i) recs

pub tried_is : (recs : List Rec) → count_by is_tried recs ≡ count_by (λ r. is_tried r && is_wanted all r) recs
tried_is recs = λ i. count_by (λ r. with_all (is_tried r) r i) recs
