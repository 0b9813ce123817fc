-- The file that is written by the rule of Bitcoin Core.
use Rattle.std.proofs.Common.{◌≡◌, ℕ, List, [], ◌∷◌, refl}
use Rattle.std.specs.Cmp.{IsStrictWeakOrder, IsTotalOrder}
use Rattle.std.proofs.lemmas.Cmp.{nat_cmp_total, nat_list_cmp_total, on_total, then_total}
use Rattle.std.proofs.lemmas.List.Sorted.{ranks_by}
use Rattle.net_addr.specs.Address.{net_number}
use Rattle.ban_list.specs.NewFile.{comes_before, subnet_cmp}
use Rattle.ban_list.specs.declared.ban.Ban.{Ban}
use Rattle.ban_list.specs.declared.subnet.Subnet.{Subnet}

-- the order of subnets is total
total : IsTotalOrder subnet_cmp
total =
    then_total (on_total (λ (s : Subnet). net_number s.addr.net) nat_cmp_total)
    (then_total (on_total (λ (s : Subnet). s.addr.bytes) nat_list_cmp_total) (on_total (λ (s : Subnet). s.len) nat_cmp_total))

pub weak : IsStrictWeakOrder comes_before
weak = ranks_by total (λ (b : Ban). b.subnet)
