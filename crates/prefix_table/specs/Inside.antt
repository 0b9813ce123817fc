-- What only private contracts cite.
use Rattle.std.specs.Prelude.{◌==◌, ℕ, ◌*◌, ◌-◌, ◌^◌, Bool, nat_lt, nat_le, ◌&&◌, ◌||◌}
use Rattle.prefix_table.specs.Rows.{first_bits}
use Rattle.prefix_table.specs.declared.rows.Row.{Row}

-- the first `len` of 128 bits, and zeros
abbrev pub cut : ℕ → ℕ → ℕ
cut bits len = first_bits len bits * 2 ^ (128 - len)

-- the row is not after one of these bits and this length
abbrev pub is_up_to : ℕ → ℕ → Row → Bool
is_up_to bits len row = nat_lt row.bits bits || ((row.bits == bits) && nat_le row.len len)

-- the first row comes before the second one
abbrev pub precedes : Row → Row → Bool
precedes a b = nat_lt a.bits b.bits || ((a.bits == b.bits) && nat_lt a.len b.len)
