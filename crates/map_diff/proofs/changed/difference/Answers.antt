use Rattle.std.proofs.Common.{rules, ◌≡◌, ℕ, ◌<◌, ◌≤◌, ◌+◌, ◌^◌, true, false, List, [], ◌++◌, length, Result, Err, ap, sym, ◌∙◌, subst, arith, Vec, Global}
use Rattle.asmap_vm.specs.Code.{Tree}
use Rattle.std.proofs.lemmas.Result.{err_from_is_err_and}
use Rattle.asmap_vm.specs.Held.{tree_held}
use Rattle.prefix_table.specs.declared.rows.TheConstants.{MAX_ROWS}
use Rattle.map_diff.specs.Diff.{changes_of, map_of, changed_prefixes}
use Rattle.map_diff.specs.Inside.{AreMaps, part_at, rows_at, HasCause}
use Rattle.map_diff.specs.declared.changed.ChangedPrefix.{ChangedPrefix}
use Rattle.map_diff.specs.declared.fault.DiffFault.{DiffFault}
use Rattle.map_diff.specs.declared.fault.DiffFault.TheVariants.{TooMany}
use Rattle.map_diff.specs.Text.{count_of}
use Rattle.map_diff.proofs.Counts.{counts_are, count_most}
use Rattle.map_diff.proofs.Whole.{whole_tree, whole_maps, changed_are, whole_cause}
use Rattle.map_diff.proofs.changed.difference.Goals.{After-cursor_at-to}
use Rattle.map_diff.proofs.changed.difference.Goals as goal

pub cursor_at-from-requires-clause-tree : goal.cursor_at-from-requires-clause-tree
cursor_at-from-requires-clause-tree c =
    (128, (map_of (tree_held c.args.old.now), whole_tree c.args.old.now c.of.result c.code.result.now c.code.ensures c.of.ensures.bits c.args.old.now.sane))

pub cursor_at-to-requires-clause-tree : goal.cursor_at-to-requires-clause-tree
cursor_at-to-requires-clause-tree c =
    (128, (map_of (tree_held c.args.new.now), whole_tree c.args.new.now c.of-2.result c.code-2.result.now c.code-2.ensures c.of-2.ensures.bits c.args.new.now.sane))

-- the cursors stand for the maps of the two files
maps : (c : After-cursor_at-to) → AreMaps c.of.result c.of-2.result (record { bits = 0; len = 0 }) c.cursor_at-from.result c.cursor_at-to.result [] (map_of (tree_held c.args.old.now)) (map_of (tree_held c.args.new.now))
maps c =
    let f = map_of (tree_held c.args.old.now) in
    let g = map_of (tree_held c.args.new.now) in
    whole_maps c.of.result c.of-2.result c.cursor_at-from.result c.cursor_at-to.result f g
    (c.cursor_at-from.ensures 128 f (whole_tree c.args.old.now c.of.result c.code.result.now c.code.ensures c.of.ensures.bits c.args.old.now.sane))
    (c.cursor_at-to.ensures 128 g (whole_tree c.args.new.now c.of-2.result c.code-2.result.now c.code-2.ensures c.of-2.ensures.bits c.args.new.now.sane))

pub put_changes-requires-clause-maps : goal.put_changes-requires-clause-maps
put_changes-requires-clause-maps c =
    ([], (map_of (tree_held c.args.old.now), (map_of (tree_held c.args.new.now), maps (goal.at.put_changes-requires-clause-maps c).After-cursor_at-to)))

same_fault : (r : Result (Vec ChangedPrefix Global) DiffFault) (x y : DiffFault) → r ≡ Err x → r ≡ Err y → x ≡ y
same_fault r x y e f = cc

-- the fault that was handed on
handed_on : (r : Result (Vec ChangedPrefix Global) DiffFault) (fault : DiffFault) → (x : DiffFault) × (r ≡ Err x) × (x ≡ fault) → r ≡ Err TooMany → fault ≡ TooMany
handed_on r fault left e = sym left.2 ∙ same_fault r left.0 TooMany left.1 e

pub returns-in_err-pair-clause-cause : goal.returns-in_err-pair-clause-cause
returns-in_err-pair-clause-cause c = λ e.
    let f = map_of (tree_held c.args.old.now) in
    let g = map_of (tree_held c.args.new.now) in
    let fault = c.in_err-pair.field-0.0 in
    let are = maps (goal.at.returns-in_err-pair-clause-cause c).After-cursor_at-to in
    whole_cause (tree_held c.args.old.now) (tree_held c.args.new.now) 128 fault (omega arith)
    (subst (λ (xs : List ChangedPrefix). HasCause xs (part_at [] f g) 128 fault) c.new-rows.ensures.items (c.in_err-pair.ensures.cause [] f g are))
    (handed_on c.from_residual.result fault (err_from_is_err_and c.from_residual.result c.from_residual.ensures.1) e)

pub returns-in_err-put_pair-clause-cause : goal.returns-in_err-put_pair-clause-cause
returns-in_err-put_pair-clause-cause c = λ e.
    let f = map_of (tree_held c.args.old.now) in
    let g = map_of (tree_held c.args.new.now) in
    let fault = c.in_err-put_pair.field-0.0 in
    let are = maps (goal.at.returns-in_err-put_pair-clause-cause c).After-cursor_at-to in
    whole_cause (tree_held c.args.old.now) (tree_held c.args.new.now) 0 fault (omega arith)
    (subst (λ (xs : List ChangedPrefix). HasCause xs (part_at [] f g) 0 fault) c.new-rows.ensures.items (c.in_err-put_pair.ensures.cause [] (part_at [] f g) c.new-rows.result.items (c.in_ok-pair.ensures.found [] f g are)))
    (handed_on c.from_residual-in_err-put_pair.result fault (err_from_is_err_and c.from_residual-in_err-put_pair.result c.from_residual-in_err-put_pair.ensures.1) e)

-- the rows that were read are the changes
all_of : (rows before : List ChangedPrefix) (old new : Tree) → rows ≡ before ++ rows_at [] (changes_of (part_at [] (map_of old) (map_of new))) → before ≡ [] → rows ≡ changed_prefixes old new
all_of rows before old new put none = put ∙ ap (λ xs. xs ++ rows_at [] (changes_of (part_at [] (map_of old) (map_of new)))) none ∙ changed_are old new

many : (rows before : List ChangedPrefix) (old new : Tree) (count : ℕ) → rows ≡ before ++ rows_at [] (changes_of (part_at [] (map_of old) (map_of new))) → before ≡ [] → count ≡ length rows → MAX_ROWS < count → MAX_ROWS < length (changed_prefixes old new)
many rows before old new count put none e more = omega (arith, e, more, ap length (all_of rows before old new put none))

few : (rows before : List ChangedPrefix) (old new : Tree) (count : ℕ) → rows ≡ before ++ rows_at [] (changes_of (part_at [] (map_of old) (map_of new))) → before ≡ [] → count ≡ length rows → count ≤ MAX_ROWS → MAX_ROWS < length (changed_prefixes old new) → ⊥
few rows before old new count put none e less more = omega (arith, e, less, more, ap length (all_of rows before old new put none))

pub returns-then-len-gt-MAX_ROWS-clause-cause : goal.returns-then-len-gt-MAX_ROWS-clause-cause
returns-then-len-gt-MAX_ROWS-clause-cause c = λ e.
    let f = map_of (tree_held c.args.old.now) in
    let g = map_of (tree_held c.args.new.now) in
    let are = maps (goal.at.returns-then-len-gt-MAX_ROWS-clause-cause c).After-cursor_at-to in
    let put = c.in_ok-put_pair.ensures.put [] (part_at [] f g) c.new-rows.result.items are.len are.bits (c.in_ok-pair.ensures.found [] f g are) in
    many c.put_pair.new.rows.items c.new-rows.result.items (tree_held c.args.old.now) (tree_held c.args.new.now) c.len.result put c.new-rows.ensures.items (search rules) c.if-len-gt-MAX_ROWS.true

pub returns-clause-rows : goal.returns-clause-rows
returns-clause-rows c =
    let f = map_of (tree_held c.args.old.now) in
    let g = map_of (tree_held c.args.new.now) in
    let are = maps (goal.at.returns-clause-rows c).After-cursor_at-to in
    let put = c.in_ok-put_pair.ensures.put [] (part_at [] f g) c.new-rows.result.items are.len are.bits (c.in_ok-pair.ensures.found [] f g are) in
    all_of c.put_pair.new.rows.items c.new-rows.result.items (tree_held c.args.old.now) (tree_held c.args.new.now) put c.new-rows.ensures.items

pub returns-clause-too_many : goal.returns-clause-too_many
returns-clause-too_many c = λ more.
    let f = map_of (tree_held c.args.old.now) in
    let g = map_of (tree_held c.args.new.now) in
    let are = maps (goal.at.returns-clause-too_many c).After-cursor_at-to in
    let put = c.in_ok-put_pair.ensures.put [] (part_at [] f g) c.new-rows.result.items are.len are.bits (c.in_ok-pair.ensures.found [] f g are) in
    absurd (few c.put_pair.new.rows.items c.new-rows.result.items (tree_held c.args.old.now) (tree_held c.args.new.now) c.len.result put c.new-rows.ensures.items (search rules) c.if-len-gt-MAX_ROWS.false more)

pub returns-clause-counted : goal.returns-clause-counted
returns-clause-counted c =
    let old = tree_held c.args.old.now in
    let new = tree_held c.args.new.now in
    let f = map_of old in
    let g = map_of new in
    let are = maps (goal.at.returns-clause-counted c).After-cursor_at-to in
    let put = c.in_ok-put_pair.ensures.put [] (part_at [] f g) c.new-rows.result.items are.len are.bits (c.in_ok-pair.ensures.found [] f g are) in
    ap (λ (rows : List ChangedPrefix). count_of true rows + count_of false rows) (all_of c.put_pair.new.rows.items c.new-rows.result.items old new put c.new-rows.ensures.items)
    ∙ counts_are old new

pub returns-clause-few : goal.returns-clause-few
returns-clause-few c = λ ipv4.
    let old = tree_held c.args.old.now in
    let new = tree_held c.args.new.now in
    let f = map_of old in
    let g = map_of new in
    let are = maps (goal.at.returns-clause-few c).After-cursor_at-to in
    let put = c.in_ok-put_pair.ensures.put [] (part_at [] f g) c.new-rows.result.items are.len are.bits (c.in_ok-pair.ensures.found [] f g are) in
    subst (λ (rows : List ChangedPrefix). count_of ipv4 rows ≤ 2 ^ 128) (sym (all_of c.put_pair.new.rows.items c.new-rows.result.items old new put c.new-rows.ensures.items)) (count_most old new ipv4)
