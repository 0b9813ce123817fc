-- Which part of the searches of a table ends at records of a group, at most.
use Rattle.std.specs.Prelude.{ℕ, ◌*◌, ◌^◌, Bool, true, List, map}
use Rattle.peer_rec.specs.declared.rec.Rec.{Rec}
use Rattle.risk_laws.specs.Classes.{chances}
use Rattle.risk_sum.specs.Kinds.{most_by, starts_of}
use Rattle.risk_sum.specs.declared.kinds.Kind.{Kind}
use Rattle.table_groups.specs.View.{View}
use Rattle.table_machine.specs.Picks.{first_factor}
use Rattle.table_risk.specs.Grouping.{is_in}
use Rattle.table_risk.specs.Occupants.{occupants_of, starts_for}
use Rattle.table_risk.specs.declared.classes.Search.{Search}
use Rattle.table_risk.specs.declared.occupants.Occupant.{Occupant}
use Rattle.risk_parts.specs.declared.parts.TheConstants.{AHEAD}

-- how many starts lead to records of a chance, and to those that pass a test
abbrev pub kind_for : List Occupant → ℕ → (Rec → Bool) → ℕ → Kind
kind_for occupants now test likely = record {
  chance = likely;
  all = starts_for occupants (λ r. true) now likely;
  theirs = starts_for occupants test now likely;
}

-- the same of each chance
abbrev pub kinds_for : List Occupant → ℕ → (Rec → Bool) → List Kind
kinds_for occupants now test = map (kind_for occupants now test) chances

-- how many starts lead to records of each chance, and to those of a group
abbrev pub group_kinds : View → Search → List ℕ → List Kind
group_kinds view what g =
    kinds_for (occupants_of view what.in_new) what.now (is_in what.by view.places g)

-- of 2^64 searches, how many end at records of the group, at most
unfoldable pub share_of : View → Search → List ℕ → ℕ
share_of view what g =
    let kinds = group_kinds view what g in
    most_by kinds (starts_of kinds * 2 ^ 30) (2 ^ 64) AHEAD first_factor
