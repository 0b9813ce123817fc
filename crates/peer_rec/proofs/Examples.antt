-- Worked examples, computed over the definitions.
use Rattle.std.specs.Prelude.{◌≡◌, ℕ, true, false, List, [], ◌∷◌, map, refl}
use Rattle.net_addr.specs.Address.{Address}
use Rattle.net_addr.specs.OldForm.{address}
use Rattle.net_addr.specs.declared.net.Net.TheVariants.{Ipv4}
use Rattle.peer_rec.specs.Rec.{chance, is_terrible}
use Rattle.peer_rec.specs.declared.rec.Rec.{Rec}
use Rattle.peer_rec.specs.declared.place.Place.TheVariants.{New}

abbrev dns : Address
dns = address Ipv4 (8 ∷ 8 ∷ 8 ∷ 8 ∷ [])

abbrev kept : ℕ → ℕ → ℕ → ℕ → Rec
kept time last_success last_try attempts = record {
  number = 0;
  peer = record { addr = dns; port = 8333 };
  source = address Ipv4 (1 ∷ 2 ∷ 3 ∷ 4 ∷ []);
  time = time;
  services = 1;
  last_success = last_success;
  last_try = last_try;
  last_count = 0;
  attempts = attempts;
  place = New (87 ∷ []);
}

abbrev now : ℕ
now = 1700000000

-- no tries, one and so on, and from eight on all alike
abbrev tries : List ℕ
tries = 0 ∷ 1 ∷ 2 ∷ 3 ∷ 4 ∷ 5 ∷ 6 ∷ 7 ∷ 8 ∷ 9 ∷ 2147483647 ∷ []

-- their chances ten minutes after the last one
chances : map (λ attempts. chance (kept now 0 1699999400 attempts) now) tries ≡
    1073741824 ∷ 708669603 ∷ 467721938 ∷ 308696479 ∷ 203739676 ∷ 134468186 ∷ 88749003 ∷ 58574342 ∷
    38659065 ∷ 38659065 ∷ 38659065 ∷ []
chances = refl

-- and a second sooner
chances_of_the_recent : map (λ attempts. chance (kept now 0 1699999401 attempts) now) tries ≡
    10737418 ∷ 7086696 ∷ 4677219 ∷ 3086964 ∷ 2037396 ∷ 1344681 ∷ 887490 ∷ 585743 ∷
    386590 ∷ 386590 ∷ 386590 ∷ []
chances_of_the_recent = refl

-- a last try ahead of the clock is recent, and one that never was is not
chances_by_the_clock : map (λ last_try. chance (kept now 0 last_try 1) now) (4294967295 ∷ 1700000001 ∷ now ∷ 0 ∷ []) ≡
    7086696 ∷ 7086696 ∷ 7086696 ∷ 708669603 ∷ []
chances_by_the_clock = refl

-- three failures and no success: kept for a minute after the last try, and while that lies ahead of
-- the clock
after_the_last_try : map (λ last_try. is_terrible (kept now 0 last_try 3) now)
    (1699999939 ∷ 1699999940 ∷ now ∷ 1700000001 ∷ 4294967295 ∷ []) ≡ true ∷ false ∷ false ∷ false ∷ false ∷ []
after_the_last_try = refl

-- seen ten minutes ahead of the clock, and a second more
ahead_of_the_clock : map (λ time. is_terrible (kept time 0 0 0) now) (1700000600 ∷ 1700000601 ∷ []) ≡ false ∷ true ∷ []
ahead_of_the_clock = refl

-- not seen for thirty days, and a second more
thirty_days : map (λ time. is_terrible (kept time 0 0 0) now) (1697408000 ∷ 1697407999 ∷ []) ≡ false ∷ true ∷ []
thirty_days = refl

-- two failures and three, with no success ever, and with one long past
never_a_success : map (λ attempts. is_terrible (kept now 0 0 attempts) now) (2 ∷ 3 ∷ []) ≡ false ∷ true ∷ []
never_a_success = refl

once_a_success : map (λ attempts. is_terrible (kept now 1 0 attempts) now) (2 ∷ 3 ∷ []) ≡ false ∷ false ∷ []
once_a_success = refl

-- nine failures and ten, the last success a week ago, and a second more
a_week : map (λ attempts. is_terrible (kept now 1699395200 0 attempts) now) (9 ∷ 10 ∷ []) ≡ false ∷ false ∷ []
a_week = refl

over_a_week : map (λ attempts. is_terrible (kept now 1699395199 0 attempts) now) (9 ∷ 10 ∷ []) ≡ false ∷ true ∷ []
over_a_week = refl

-- the last minute spares a record that fails every other test: one from the future, or from long
-- ago, that failed often and never succeeded
all_wrong : map (λ time. is_terrible (kept time 0 1699999939 2147483647) now) (4294967295 ∷ 0 ∷ []) ≡ true ∷ true ∷ []
all_wrong = refl

all_wrong_in_the_last_minute : map (λ time. is_terrible (kept time 0 1699999940 2147483647) now) (4294967295 ∷ 0 ∷ []) ≡
    false ∷ false ∷ []
all_wrong_in_the_last_minute = refl
