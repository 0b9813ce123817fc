-- Worked examples, computed over the definitions.
use Rattle.std.proofs.Common.{◌≡◌, [], ◌∷◌, refl}
use Rattle.peer_rec.specs.Buckets.{with_bucket}
use Rattle.table_machine.specs.Entries.{lag}

-- seen within a day, and not
lag_of_an_hour : lag 1700000000 1699913601 ≡ 3600
lag_of_an_hour = refl

lag_of_a_day : lag 1700000000 1699913600 ≡ 86400
lag_of_a_day = refl

buckets_rise : with_bucket 7 (3 ∷ 9 ∷ []) ≡ 3 ∷ 7 ∷ 9 ∷ []
buckets_rise = refl
