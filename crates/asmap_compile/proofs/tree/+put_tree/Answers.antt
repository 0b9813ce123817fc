use Rattle.std.proofs.Common.{◌≡◌, ℕ, ◌+◌, ◌-◌, ◌<◌, Bool, true, false, List, [], ◌∷◌, ◌++◌, length, OnOk, take, drop, get_or, subst, sym, ap, ◌∙◌, arith, length-append}
use Rattle.std.proofs.lemmas.Bool.{eqb-true, eqb-false}
use Rattle.bit_code.specs.Coder.{HasValue}
use Rattle.bit_code.specs.declared.coder.Coder.TheVariants as coders
use Rattle.prefix_table.specs.declared.rows.Row.{Row}
use Rattle.asmap_vm.specs.Code.{Tree, code}
use Rattle.asmap_compile.specs.Compiled.{rows_kept, tree_at, matches, onward, Forked}
use Rattle.asmap_compile.specs.Inside.{bits_between, IsPart}
use Rattle.asmap_compile.proofs.ChildLaws.{fork_value, part_fork}
use Rattle.asmap_compile.proofs.SaneTrees.{jump_values}
use Rattle.asmap_compile.proofs.StopLaws.{Stops, way_of}
use Rattle.asmap_compile.proofs.TreeSteps.{Facts, zero_row, facts_depth, facts_sides, facts_fork, facts_low, facts_high, facts_stops, facts_after, facts_way, facts_end_tree, facts_end_value, facts_value, next_tree, facts_way_tree, differ, agree}
use Rattle.asmap_compile.proofs.Trees.{default_holds, default_set}
use Rattle.asmap_compile.proofs.tree.+put_tree.Goals as goal
use Rattle.asmap_compile.proofs.tree.+put_tree.Goals.{After-longer_rows-rows, After-bit_of, After-middle_of-middle, After-len, After-min-stop, In_ok-put_matches}

-- what the first two calls say of a part
facts_at : (t : ℕ) (c : After-longer_rows-rows t) (table : List Row) (p : List Bool) (left : ℕ) → IsPart table p left c.args.part.now c.args.depth c.args.above c.args.default →
    Facts table p left c.args.part.now c.args.depth c.args.above c.args.default c.number_of_path-number.result c.longer_rows-rows.result.now
facts_at t c table p left is =
    record { is = is; longer = c.longer_rows-rows.ensures _ _ _ _ _ is; number_is = c.number_of_path-number.ensures _ _ _ _ is }

facts : (t : ℕ) (c : After-longer_rows-rows t) →
    Facts c.requires.0 c.requires.1.0 c.requires.1.1.0 c.args.part.now c.args.depth c.args.above c.args.default c.number_of_path-number.result c.longer_rows-rows.result.now
facts t c = facts_at t c _ _ _ c.requires.1.1.1

-- an address has a bit after the path, if the part has longer rows
depth_below : (t : ℕ) (c : After-longer_rows-rows t) → 0 < length c.longer_rows-rows.result.now → c.args.depth < 128
depth_below t c some = facts_depth _ _ _ _ _ _ _ _ _ (facts t c) some

pub put_return-requires : goal.put_return-requires
put_return-requires t c =
    let none = eqb-true (length c.longer_rows-rows.result.now) 0 (sym c.if-is_empty.ensures) in
    facts_end_value _ _ _ _ _ _ _ _ _ (facts t (goal.at.put_return-requires t c).After-longer_rows-rows) none

pub returns-then-is_empty : goal.returns-then-is_empty
returns-then-is_empty t c = λ table p left is.
    let f = facts_at t (goal.at.returns-then-is_empty t c).After-longer_rows-rows table p left is in
    let none = eqb-true (length c.longer_rows-rows.result.now) 0 (sym c.if-is_empty.ensures) in
    subst (λ v. OnOk c.put_return.result (c.put_return.new.out ≡ code v ++ c.args.out.now)) (facts_end_tree _ _ _ _ _ _ _ _ _ f none) c.put_return.ensures

-- the part has longer rows
some : (t : ℕ) (c : After-bit_of t) → 0 < length c.longer_rows-rows.result.now
some t c = omega (arith, eqb-false (length c.longer_rows-rows.result.now) 0 (sym c.if-is_empty.ensures))

pub bit_of-requires : goal.bit_of-requires
bit_of-requires t c =
    let rows : 0 < length c.longer_rows-rows.result.now = omega (arith, eqb-false (length c.longer_rows-rows.result.now) 0 (sym c.if-is_empty.ensures)) in
    depth_below t (goal.at.bit_of-requires t c).After-longer_rows-rows rows

pub bit_of-requires-2 : goal.bit_of-requires-2
bit_of-requires-2 t c =
    let at = goal.at.bit_of-requires-2 t c in
    depth_below t at.After-longer_rows-rows (some t at.After-bit_of)

pub middle_of-middle-requires-clause-depth : goal.middle_of-middle-requires-clause-depth
middle_of-middle-requires-clause-depth t c =
    let at = goal.at.middle_of-middle-requires-clause-depth t c in
    depth_below t at.After-longer_rows-rows (some t at.After-bit_of)

pub middle_of-middle-requires-clause-sides : goal.middle_of-middle-requires-clause-sides
middle_of-middle-requires-clause-sides t c =
    facts_sides _ _ _ _ _ _ _ _ _ (facts t (goal.at.middle_of-middle-requires-clause-sides t c).After-longer_rows-rows)

pub overflow_add-depth : goal.overflow_add-depth
overflow_add-depth t c =
    let at = goal.at.overflow_add-depth t c in
    omega (arith, depth_below t at.After-longer_rows-rows (some t at.After-bit_of))

pub overflow_add-depth-then-bit_of : goal.overflow_add-depth-then-bit_of
overflow_add-depth-then-bit_of t c =
    let at = goal.at.overflow_add-depth-then-bit_of t c in
    omega (arith, depth_below t at.After-longer_rows-rows (some t at.After-bit_of))

-- both ways on from a path have rows, which are the parts before and after the middle
record Sides (table : List Row) (p : List Bool) (left : ℕ) (before after : List Row) (depth number default : ℕ) : Type 0 where
  fork : onward (rows_kept table) p ≡ Forked
  low : IsPart table (p ++ false ∷ []) (left - 1) before (depth + 1) number default
  high : IsPart table (p ++ true ∷ []) (left - 1) after (depth + 1) number default

sides : (t : ℕ) (c : After-middle_of-middle t) (table : List Row) (p : List Bool) (left : ℕ) →
    Facts table p left c.args.part.now c.args.depth c.args.above c.args.default c.number_of_path-number.result c.longer_rows-rows.result.now → 0 < length c.longer_rows-rows.result.now →
    Sides table p left (take c.middle_of-middle.result c.longer_rows-rows.result.now) (take (length c.longer_rows-rows.result.now - c.middle_of-middle.result) (drop c.middle_of-middle.result c.longer_rows-rows.result.now)) c.args.depth c.number_of_path-number.result c.args.default
sides t c table p left f rows =
    let fork = facts_fork _ _ _ _ _ _ _ _ _ f rows (λ same. differ c.bit_of.result c.bit_of-2.result c.if-bit_of.true (c.bit_of.ensures ∙ same ∙ sym c.bit_of-2.ensures)) in
    record {
      fork = fork;
      low = facts_low _ _ _ _ _ _ _ _ _ f fork c.middle_of-middle.result c.middle_of-middle.ensures.bound c.middle_of-middle.ensures.sides;
      high = facts_high _ _ _ _ _ _ _ _ _ f fork c.middle_of-middle.result c.middle_of-middle.ensures.bound c.middle_of-middle.ensures.sides;
    }

pub put_tree-requires : goal.put_tree-requires
put_tree-requires t c =
    let at = goal.at.put_tree-requires t c in
    let rows = some t at.After-bit_of in
    let s = sides t at.After-middle_of-middle _ _ _ (facts t at.After-longer_rows-rows) rows in
    (omega (arith, depth_below t at.After-longer_rows-rows rows), (_, (_, (_, s.high))))

pub put_tree-requires-then-bit_of : goal.put_tree-requires-then-bit_of
put_tree-requires-then-bit_of t c =
    let at = goal.at.put_tree-requires-then-bit_of t c in
    let rows = some t at.After-bit_of in
    let s = sides t at.After-middle_of-middle _ _ _ (facts t at.After-longer_rows-rows) rows in
    (omega (arith, depth_below t at.After-longer_rows-rows rows), (_, (_, (_, s.low))))

abbrev side : List Row → List Bool → ℕ → ℕ → Bool → Tree
side table p left default b = tree_at (left - 1) (rows_kept table) (p ++ b ∷ []) default

-- what both ways on from a path put before the bits
written : (t : ℕ) (c : After-len t) (table : List Row) (p : List Bool) (left : ℕ) →
    Sides table p left (take c.middle_of-middle.result c.longer_rows-rows.result.now) (take (length c.longer_rows-rows.result.now - c.middle_of-middle.result) (drop c.middle_of-middle.result c.longer_rows-rows.result.now)) c.args.depth c.number_of_path-number.result c.args.default →
    (c.put_tree-then-bit_of.new.out ≡ code (side table p left c.args.default false) ++ (code (side table p left c.args.default true) ++ c.args.out.now))
    × (c.len.result ≡ c.len-after.result + length (code (side table p left c.args.default false)))
written t c table p left s =
    let low = code (side table p left c.args.default false) in
    let right = c.in_ok-put_tree.ensures table (p ++ true ∷ []) (left - 1) s.high in
    let both : c.put_tree-then-bit_of.new.out ≡ low ++ c.put_tree.new.out = c.in_ok-put_tree-2.ensures table (p ++ false ∷ []) (left - 1) s.low in
    let long = length-append low c.put_tree.new.out in
    (both ∙ ap (λ xs. low ++ xs) right, omega (arith, c.len.ensures, c.len-after.ensures, ap length both))

pub overflow_sub-over : goal.overflow_sub-over
overflow_sub-over t c =
    let at = goal.at.overflow_sub-over t c in
    let s = sides t at.After-middle_of-middle _ _ _ (facts t at.After-longer_rows-rows) (some t at.After-bit_of) in
    omega (arith, (written t at.After-len _ _ _ s).1)

-- the jump over the first way
jump : (t : ℕ) (c : After-len t) (table : List Row) (p : List Bool) (left : ℕ) →
    IsPart table p left c.args.part.now c.args.depth c.args.above c.args.default →
    Sides table p left (take c.middle_of-middle.result c.longer_rows-rows.result.now) (take (length c.longer_rows-rows.result.now - c.middle_of-middle.result) (drop c.middle_of-middle.result c.longer_rows-rows.result.now)) c.args.depth c.number_of_path-number.result c.args.default →
    HasValue coders.Jump (c.len.result - c.len-after.result)
jump t c table p left is s =
    let over : c.len.result - c.len-after.result ≡ length (code (side table p left c.args.default false)) = omega (arith, (written t c table p left s).1) in
    subst (HasValue coders.Jump) (sym over) (fork_value _ _ _ _ _ _ _ is s.fork)

pub overflow_cast-over : goal.overflow_cast-over
overflow_cast-over t c =
    let at = goal.at.overflow_cast-over t c in
    let s = sides t at.After-middle_of-middle _ _ _ (facts t at.After-longer_rows-rows) (some t at.After-bit_of) in
    omega (arith, (jump t at.After-len _ _ _ c.requires.1.1.1 s).high, jump_values)

pub put_jump-requires : goal.put_jump-requires
put_jump-requires t c =
    let at = goal.at.put_jump-requires t c in
    jump t at.After-len _ _ _ c.requires.1.1.1 (sides t at.After-middle_of-middle _ _ _ (facts t at.After-longer_rows-rows) (some t at.After-bit_of))

pub returns-then-bit_of : goal.returns-then-bit_of
returns-then-bit_of t c = λ table p left is.
    let at = goal.at.returns-then-bit_of t c in
    let s = sides t at.After-middle_of-middle table p left (facts_at t at.After-longer_rows-rows table p left is) (some t at.After-bit_of) in
    let w = written t at.After-len table p left s in
    let l = side table p left c.args.default false in
    let over : c.len.result - c.len-after.result ≡ length (code l) = omega (arith, w.1) in
    let whole = c.put_jump.ensures l (side table p left c.args.default true) c.args.out.now over w.0 in
    subst (λ v. OnOk c.put_jump.result (c.put_jump.new.out ≡ code v ++ c.args.out.now)) (sym (part_fork _ _ _ _ _ _ _ is s.fork)) whole

-- the end of the way that all rows take
end_of : (t : ℕ) (c : After-min-stop t) (table : List Row) (p : List Bool) (left : ℕ) →
    Facts table p left c.args.part.now c.args.depth c.args.above c.args.default c.number_of_path-number.result c.longer_rows-rows.result.now → 0 < length c.longer_rows-rows.result.now →
    Stops table p c.longer_rows-rows.result.now zero_row c.min-stop.result
end_of t c table p left f rows =
    let same = sym c.bit_of.ensures ∙ agree c.bit_of.result c.bit_of-2.result c.if-bit_of.false ∙ c.bit_of-2.ensures in
    facts_stops _ _ _ _ _ _ _ _ _ f rows same c.common_bits.result c.common_bits.ensures.most c.common_bits.ensures.common c.min-stop.result c.min-stop.ensures

pub put_tree-requires-2 : goal.put_tree-requires-2
put_tree-requires-2 t c =
    let at = goal.at.put_tree-requires-2 t c in
    let f = facts t at.After-longer_rows-rows in
    let stops = end_of t at.After-min-stop _ _ _ f (some t at.After-bit_of) in
    (omega (arith, facts_after _ _ _ _ _ _ _ _ _ f c.min-stop.result stops), (_, (_, (_, facts_way _ _ _ _ _ _ _ _ _ f c.min-stop.result stops))))

pub put_matches-requires-clause-order : goal.put_matches-requires-clause-order
put_matches-requires-clause-order t c =
    let at = goal.at.put_matches-requires-clause-order t c in
    let f = facts t at.After-longer_rows-rows in
    omega (arith, facts_after _ _ _ _ _ _ _ _ _ f c.min-stop.result (end_of t at.After-min-stop _ _ _ f (some t at.After-bit_of)))

-- what the way that all rows take puts before the bits
abbrev on_way : List Row → List Bool → ℕ → ℕ → List Row → ℕ → ℕ → Tree
on_way table p left number rows depth stop = matches 16 (bits_between (get_or rows 0 zero_row).bits depth stop) (next_tree table p left number rows stop)

way : (t : ℕ) (c : In_ok-put_matches t) (table : List Row) (p : List Bool) (left : ℕ) →
    Facts table p left c.args.part.now c.args.depth c.args.above c.args.default c.number_of_path-number.result c.longer_rows-rows.result.now →
    Stops table p c.longer_rows-rows.result.now zero_row c.min-stop.result →
    c.put_matches.new.out ≡ code (on_way table p left c.number_of_path-number.result c.longer_rows-rows.result.now c.args.depth c.min-stop.result) ++ c.args.out.now
way t c table p left f stops =
    let stop = c.min-stop.result in
    let next = next_tree table p left c.number_of_path-number.result c.longer_rows-rows.result.now stop in
    let put = c.in_ok-put_tree-3.ensures table (p ++ way_of p c.longer_rows-rows.result.now zero_row stop) (left - 1) (facts_way _ _ _ _ _ _ _ _ _ f stop stops) in
    c.in_ok-put_matches.ensures 16 next c.args.out.now (omega (arith, stops.is, stops.most)) put

pub returns-then-number-default : goal.returns-then-number-default
returns-then-number-default t c = λ table p left is.
    let at = goal.at.returns-then-number-default t c in
    let f = facts_at t at.After-longer_rows-rows table p left is in
    let stops = end_of t at.After-min-stop table p left f (some t at.After-bit_of) in
    let all = on_way table p left c.number_of_path-number.result c.longer_rows-rows.result.now c.args.depth c.min-stop.result in
    let holds = default_holds c.number_of_path-number.result c.args.default all c.if-number-default.true in
    subst (λ v. c.put_matches.new.out ≡ code v ++ c.args.out.now) (sym holds ∙ facts_way_tree _ _ _ _ _ _ _ _ _ f c.min-stop.result stops) (way t at.In_ok-put_matches table p left f stops)

pub put_default-requires : goal.put_default-requires
put_default-requires t c =
    facts_value _ _ _ _ _ _ _ _ _ (facts t (goal.at.put_default-requires t c).After-longer_rows-rows) c.if-number-default.false

pub returns : goal.returns
returns t c = λ table p left is.
    let at = goal.at.returns t c in
    let f = facts_at t at.After-longer_rows-rows table p left is in
    let stops = end_of t at.After-min-stop table p left f (some t at.After-bit_of) in
    let all = on_way table p left c.number_of_path-number.result c.longer_rows-rows.result.now c.args.depth c.min-stop.result in
    let set = default_set c.number_of_path-number.result c.args.default all c.if-number-default.false in
    subst (λ v. OnOk c.put_default.result (c.put_default.new.out ≡ code v ++ c.args.out.now)) (sym set ∙ facts_way_tree _ _ _ _ _ _ _ _ _ f c.min-stop.result stops) (c.put_default.ensures all c.args.out.now (way t at.In_ok-put_matches table p left f stops))
