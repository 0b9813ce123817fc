-- Words of private contracts.
use Rattle.std.specs.Prelude.{ℕ, ◌+◌, ◌≤◌, Bool, IsTrue, List, length, take}
use Rattle.log_run.specs.Log.{HasNoFeed}
use Rattle.log_run.specs.Reading.{IsRecent}
use Rattle.log_run.specs.declared.sizes.TheConstants.{MAX_LINE, MAX_LOG, MAX_READ}

-- The parts of a reader: the bytes that wait, how many of them are known to have no line feed, how
-- many bytes were read in all, and whether the log has ended.
pub record IsReader (waiting : List ℕ) (searched taken : ℕ) (is_ended : Bool) : Type 0 where
  pub within : searched ≤ length waiting
  pub bound : taken ≤ MAX_LOG
  pub no_feed : HasNoFeed (take searched waiting)
  pub recent : IsRecent waiting
  pub few : length waiting ≤ MAX_LINE + MAX_READ
  pub ended : IsTrue is_ended → HasNoFeed waiting
