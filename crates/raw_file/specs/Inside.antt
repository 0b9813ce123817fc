-- Words of private contracts.
use Rattle.std.specs.Prelude.{List}
use Rattle.raw_read.specs.Rows.{AreRows, Member}
use Rattle.raw_read.specs.declared.raw.Raw.{Raw}
use Rattle.raw_read.specs.declared.raw.RawTable.TheVariants.{New, Tried}

-- the rows are those of some members
pub record AreRowsOf (raw : Raw) : Type 0 where
  pub new : List Member
  pub tried : List Member
  pub new_rows : AreRows New 0 new raw.new
  pub tried_rows : AreRows Tried 0 tried raw.tried
