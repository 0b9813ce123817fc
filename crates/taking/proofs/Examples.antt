-- Worked examples, computed over the definitions.
use Rattle.std.proofs.Common.{◌≡◌, ℕ, ◌-◌, [], ◌∷◌, refl}
use Rattle.net_addr.specs.Address.{Address}
use Rattle.net_addr.specs.OldForm.{address}
use Rattle.net_addr.specs.Same.{same_address}
use Rattle.net_addr.specs.declared.net.Net.TheVariants.{Ipv4}
use Rattle.net_addr.specs.declared.peer.Entry.{Entry}
use Rattle.table_machine.specs.Entries.{penalty_of}
use Rattle.taking.specs.Messages.{clamp_time}

abbrev dns : Address
dns = address Ipv4 (8 ∷ 8 ∷ 8 ∷ 8 ∷ [])

abbrev other : Address
other = address Ipv4 (1 ∷ 2 ∷ 3 ∷ 4 ∷ [])

abbrev entry : ℕ → Entry
entry time = record { time = time; services = 1; peer = record { addr = dns; port = 8333 } }

-- the time that is stored of an entry with this time, announced by a source at this clock
abbrev stored : ℕ → ℕ → Address → ℕ
stored now time source = (clamp_time (entry time) now).time - penalty_of (entry time) source 7200

-- long past, just not; ten minutes ahead, and a second more; with a clock near 0; announced by the
-- peer itself
stored_times :
    stored 1700000000 100000000 other
    ∷ stored 1700000000 100000001 other
    ∷ stored 1700000000 1700000600 other
    ∷ stored 1700000000 1700000601 other
    ∷ stored 5000 0 other
    ∷ stored 1700000000 1700000000 dns
    ∷ []
    ≡ 1699560800 ∷ 99992801 ∷ 1699993400 ∷ 1699560800 ∷ 0 ∷ 1700000000 ∷ []
unfolding same_address
stored_times = refl
