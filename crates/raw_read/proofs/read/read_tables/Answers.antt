use Rattle.std.proofs.Common.{map, sym, subst, inl, inr}
use Rattle.json.specs.Value.{value_view}
use Rattle.raw_read.specs.Inside.{member_view}
use Rattle.raw_read.specs.Rows.{AreRows}
use Rattle.raw_read.specs.declared.raw.RawTable.TheVariants.{New, Tried}
use Rattle.raw_read.proofs.RawLaws.{both, member_cause}
use Rattle.raw_read.proofs.read.read_tables.Goals as goal

pub returns-in-Err-read_table-clause-cause : goal.returns-in-Err-read_table-clause-cause
returns-in-Err-read_table-clause-cause c = λ some.
    member_cause c.args.bytes.now c.in-Err-read_table.fault (record {
      value = value_view c.in-Ok.value;
      json = c.in-Ok.ensures.ok;
      new = map member_view c.in-Some.new.now;
      tried = map member_view c.in-Some-members_at.tried.now;
      tables = both (value_view c.in-Ok.value) c.in-Some.new.now c.in-Some-members_at.tried.now c.in-Some.ensures c.in-Some-members_at.ensures;
      first = inl (c.in-Err-read_table.ensures.cause some);
    })

pub returns-in-Ok-read_table-2-clause-found : goal.returns-in-Ok-read_table-2-clause-found
returns-in-Ok-read_table-2-clause-found c = record {
  value = value_view c.in-Ok.value;
  json = c.in-Ok.ensures.ok;
  new = map member_view c.in-Some.new.now;
  tried = map member_view c.in-Some-members_at.tried.now;
  tables = both (value_view c.in-Ok.value) c.in-Some.new.now c.in-Some-members_at.tried.now c.in-Some.ensures c.in-Some-members_at.ensures;
  new_rows = subst (AreRows New 0 (map member_view c.in-Some.new.now)) (sym c.raw_of.ensures.new) c.in-Ok-read_table.ensures.found;
  tried_rows = subst (AreRows Tried 0 (map member_view c.in-Some-members_at.tried.now)) (sym c.raw_of.ensures.tried) c.in-Ok-read_table-2.ensures.found;
}

pub returns-clause-cause : goal.returns-clause-cause
returns-clause-cause c = λ some.
    member_cause c.args.bytes.now c.in-Err-read_table-2.fault (record {
      value = value_view c.in-Ok.value;
      json = c.in-Ok.ensures.ok;
      new = map member_view c.in-Some.new.now;
      tried = map member_view c.in-Some-members_at.tried.now;
      tables = both (value_view c.in-Ok.value) c.in-Some.new.now c.in-Some-members_at.tried.now c.in-Some.ensures c.in-Some-members_at.ensures;
      first = inr (c.in-Ok-read_table.rows.items, c.in-Ok-read_table.ensures.found, c.in-Err-read_table-2.ensures.cause some);
    })
