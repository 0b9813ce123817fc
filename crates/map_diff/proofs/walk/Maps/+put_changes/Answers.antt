use Rattle.std.proofs.Common.{rules, ℕ, ◌-◌, ◌<◌, Bool, true, false, List, [], ◌∷◌, ◌++◌, length, refl, arith}
use Rattle.std.proofs.lemmas.Result.{err_from_is_err_and}
use Rattle.map_diff.specs.Diff.{after_bit}
use Rattle.map_diff.specs.Inside.{AreMaps}
use Rattle.map_diff.proofs.Results.{if_ok, if_err, by_fault}
use Rattle.asmap_back.proofs.Steps.{longer}
use Rattle.map_diff.proofs.Walks.{fixed_pair, below_zero, below_one, room_at, left_fault, put_fault, right_fault, join_fault, both_sides, sides_of, side_part, whole_read}
use Rattle.map_diff.proofs.walk.Maps.+put_changes.Goals.{In_default, After-sides-to_zero, In_ok-left, In_ok-put_pair, In_ok-right}
use Rattle.map_diff.proofs.walk.Maps.+put_changes.Goals as goal

pub returns-in-Some-clause-found : goal.returns-in-Some-clause-found
returns-in-Some-clause-found t c = λ p f g h.
    let both = c.in-Some.ensures.some in
    (fixed_pair c.args.self.now.old c.args.self.now.new c.args.at c.args.from c.args.to p f g c.in-Some.pair.old c.in-Some.pair.new both.0 both.1 h, refl)

-- there is a bit left
low : (t : ℕ) (c : In_default t) (p : List Bool) (f g : List Bool → ℕ) → AreMaps c.args.self.now.old c.args.self.now.new c.args.at c.args.from c.args.to p f g → length p < 128
low t c p f g h = omega (arith, c.in_default.ensures.none c.args.self.now.old c.args.self.now.new (128 - length p) f g h.old h.new)

pub sides-requires-clause-room : goal.sides-requires-clause-room
sides-requires-clause-room t c =
    let maps = c.requires.maps in
    let place = (goal.at.sides-requires-clause-room t c).In_default in
    room_at c.args.self.now.old c.args.self.now.new c.args.at c.args.from c.args.to maps.0 maps.1.0 maps.1.1.0 (low t place maps.0 maps.1.0 maps.1.1.0 maps.1.1.1) maps.1.1.1

-- the maps of the zero-bit side
zero_maps : (t : ℕ) (c : After-sides-to_zero t) (p : List Bool) (f g : List Bool → ℕ) → length p < 128 → AreMaps c.args.self.now.old c.args.self.now.new c.args.at c.args.from c.args.to p f g →
    AreMaps c.args.self.now.old c.args.self.now.new c.sides.result.0 c.sides-from_zero.result.0 c.sides-to_zero.result.0 (p ++ false ∷ []) (after_bit false f) (after_bit false g)
zero_maps t c p f g few h =
    below_zero c.args.self.now.old c.args.self.now.new c.args.at c.sides.result.0 c.args.from c.args.to c.sides-from_zero.result.0 c.sides-to_zero.result.0 p f g few c.sides.ensures.zero h
    (c.sides-from_zero.ensures.zero (128 - length p) f h.old) (c.sides-to_zero.ensures.zero (128 - length p) g h.new)

-- and of the one-bit side
one_maps : (t : ℕ) (c : After-sides-to_zero t) (p : List Bool) (f g : List Bool → ℕ) → length p < 128 → AreMaps c.args.self.now.old c.args.self.now.new c.args.at c.args.from c.args.to p f g →
    AreMaps c.args.self.now.old c.args.self.now.new c.sides.result.1 c.sides-from_zero.result.1 c.sides-to_zero.result.1 (p ++ true ∷ []) (after_bit true f) (after_bit true g)
one_maps t c p f g few h =
    below_one c.args.self.now.old c.args.self.now.new c.args.at c.sides.result.1 c.args.from c.args.to c.sides-from_zero.result.1 c.sides-to_zero.result.1 p f g few c.sides.ensures.one h
    (c.sides-from_zero.ensures.one (128 - length p) f h.old) (c.sides-to_zero.ensures.one (128 - length p) g h.new)

pub put_changes-requires : goal.put_changes-requires
put_changes-requires t c =
    let maps = c.requires.maps in
    let place = goal.at.put_changes-requires t c in
    let few = low t place.In_default maps.0 maps.1.0 maps.1.1.0 maps.1.1.1 in
    let below = zero_maps t place.After-sides-to_zero maps.0 maps.1.0 maps.1.1.0 few maps.1.1.1 in
    (omega (arith, few, maps.1.1.1.len, below.len, below.short, longer maps.0 false), (c.requires.sizes, (maps.0 ++ false ∷ [], (after_bit false maps.1.0, (after_bit false maps.1.1.0, below)))))

pub returns-in_err-left-clause-cause : goal.returns-in_err-left-clause-cause
returns-in_err-left-clause-cause t c =
    let place = goal.at.returns-in_err-left-clause-cause t c in
    by_fault c.from_residual.result c.in_err-left.field-0.0 _ (err_from_is_err_and c.from_residual.result c.from_residual.ensures.1) (λ p f g h.
    let few = low t place.In_default p f g h in
    left_fault p f g c.args.rows.now.items c.in_err-left.field-0.0 few
    (c.in_err-left.ensures.cause (p ++ false ∷ []) (after_bit false f) (after_bit false g) (zero_maps t place.After-sides-to_zero p f g few h)))

pub returns-in_err-put_pair-clause-cause : goal.returns-in_err-put_pair-clause-cause
returns-in_err-put_pair-clause-cause t c =
    let place = goal.at.returns-in_err-put_pair-clause-cause t c in
    by_fault c.from_residual-in_err-put_pair.result c.in_err-put_pair.field-0.0 _ (err_from_is_err_and c.from_residual-in_err-put_pair.result c.from_residual-in_err-put_pair.ensures.1) (λ p f g h.
    let few = low t place.In_default p f g h in
    put_fault p f g c.args.rows.now.items c.in_err-put_pair.field-0.0 few
    (c.in_err-put_pair.ensures.cause (p ++ false ∷ []) (side_part p false f g) c.args.rows.now.items
    (c.in_ok-left.ensures.found (p ++ false ∷ []) (after_bit false f) (after_bit false g) (zero_maps t place.After-sides-to_zero p f g few h))))

pub put_changes-requires-2 : goal.put_changes-requires-2
put_changes-requires-2 t c =
    let maps = c.requires.maps in
    let place = goal.at.put_changes-requires-2 t c in
    let few = low t place.In_default maps.0 maps.1.0 maps.1.1.0 maps.1.1.1 in
    let below = one_maps t place.After-sides-to_zero maps.0 maps.1.0 maps.1.1.0 few maps.1.1.1 in
    (omega (arith, few, maps.1.1.1.len, below.len, below.short, longer maps.0 true), (c.requires.sizes, (maps.0 ++ true ∷ [], (after_bit true maps.1.0, (after_bit true maps.1.1.0, below)))))

pub returns-in_err-right-clause-cause : goal.returns-in_err-right-clause-cause
returns-in_err-right-clause-cause t c =
    let place = goal.at.returns-in_err-right-clause-cause t c in
    by_fault c.from_residual-in_err-right.result c.in_err-right.field-0.0 _ (err_from_is_err_and c.from_residual-in_err-right.result c.from_residual-in_err-right.ensures.1) (λ p f g h.
    let few = low t place.In_default p f g h in
    let side = zero_maps t place.After-sides-to_zero p f g few h in
    let put = c.in_ok-put_pair.ensures.put (p ++ false ∷ []) (side_part p false f g) c.args.rows.now.items side.len side.bits (c.in_ok-left.ensures.found (p ++ false ∷ []) (after_bit false f) (after_bit false g) side) in
    right_fault p f g c.args.rows.now.items c.put_pair.new.rows.items c.in_err-right.field-0.0 few put
    (c.in_err-right.ensures.cause (p ++ true ∷ []) (after_bit true f) (after_bit true g) (one_maps t place.After-sides-to_zero p f g few h)))

pub returns-clause-found : goal.returns-clause-found
returns-clause-found t c =
    let place = goal.at.returns-clause-found t c in
    if_ok c.join.result _ _ (λ pair found p f g h.
    let few = low t place.In_default p f g h in
    let side = zero_maps t place.After-sides-to_zero p f g few h in
    let other = one_maps t place.After-sides-to_zero p f g few h in
    let left = c.in_ok-left.ensures.found (p ++ false ∷ []) (after_bit false f) (after_bit false g) side in
    let put = c.in_ok-put_pair.ensures.put (p ++ false ∷ []) (side_part p false f g) c.args.rows.now.items side.len side.bits left in
    let right = c.in_ok-right.ensures.found (p ++ true ∷ []) (after_bit true f) (after_bit true g) other in
    whole_read p f g c.args.rows.now.items c.join.new.rows.items pair few
    (found (sides_of p f g c.args.rows.now.items) (both_sides p f g c.args.rows.now.items _ c.put_pair.new.rows.items _ c.len-before.result c.in_ok-left.left c.in_ok-right.right c.sides.result.1 other.len other.bits (search rules) left put right)))
    c.join.ensures.found

pub returns-clause-cause : goal.returns-clause-cause
returns-clause-cause t c =
    let place = goal.at.returns-clause-cause t c in
    if_err c.join.result _ _ (λ fault cause p f g h.
    let few = low t place.In_default p f g h in
    let side = zero_maps t place.After-sides-to_zero p f g few h in
    let other = one_maps t place.After-sides-to_zero p f g few h in
    let left = c.in_ok-left.ensures.found (p ++ false ∷ []) (after_bit false f) (after_bit false g) side in
    let put = c.in_ok-put_pair.ensures.put (p ++ false ∷ []) (side_part p false f g) c.args.rows.now.items side.len side.bits left in
    let right = c.in_ok-right.ensures.found (p ++ true ∷ []) (after_bit true f) (after_bit true g) other in
    join_fault p f g c.args.rows.now.items fault few
    (cause (sides_of p f g c.args.rows.now.items) (both_sides p f g c.args.rows.now.items _ c.put_pair.new.rows.items _ c.len-before.result c.in_ok-left.left c.in_ok-right.right c.sides.result.1 other.len other.bits (search rules) left put right)))
    c.join.ensures.cause
