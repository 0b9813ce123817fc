use Rattle.std.proofs.Common.{rules, ◌≡◌, ℕ, ◌+◌, ◌<◌, ◌≤◌, Bool, List, [], ◌∷◌, ◌++◌, length, cond, map, ap, sym, ◌∙◌, arith, append-nil, eq-eqb}
use Rattle.std.proofs.lemmas.Bool.{ne_eqb}
use Rattle.prefix_table.specs.declared.rows.TheConstants.{MAX_ROWS}
use Rattle.asmap_back.specs.Back.{first_at}
use Rattle.map_diff.specs.Diff.{Change, Same, unless_equal, changes_of, changed_at}
use Rattle.map_diff.specs.Inside.{rows_at}
use Rattle.map_diff.specs.declared.changed.ChangedPrefix.{ChangedPrefix}
use Rattle.map_diff.proofs.walk.put_change.Goals as goal

-- a pair of equal numbers has no row
none : (rows : List ChangedPrefix) (p : List Bool) (a b : ℕ) → a ≡ b → rows ≡ rows ++ rows_at p (unless_equal a b)
unfolding unless_equal rows_at
none rows p a b e = sym (ap (λ t. rows ++ map (changed_at p) (cond t [] (record { path = []; old = a; new = b } ∷ []))) (eq-eqb a b e) ∙ append-nil rows)

abbrev row : ℕ → ℕ → ℕ → ℕ → ChangedPrefix
row bits len a b = record { bits = bits; len = len; old = a; new = b }

-- a pair of two numbers has one
one : (rows : List ChangedPrefix) (p : List Bool) (bits len a b : ℕ) → length p ≡ len → first_at p ≡ bits → (a ≡ b → ⊥) → rows ++ row bits len a b ∷ [] ≡ rows ++ rows_at p (unless_equal a b)
unfolding unless_equal rows_at
one rows p bits len a b long first other =
    (λ i. rows ++ row (sym (ap first_at (append-nil p) ∙ first) i) (sym (ap length (append-nil p) ∙ long) i) a b ∷ [])
    ∙ sym (ap (λ t. rows ++ map (changed_at p) (cond t [] (record { path = []; old = a; new = b } ∷ []))) (ne_eqb a b other))

many : (a b count n : ℕ) → MAX_ROWS + 128 ≤ count → count ≡ n → (a ≡ b → ⊥) → MAX_ROWS + 128 < n + length (changes_of (Same a b)) + 0
unfolding changes_of unless_equal
many a b count n full e other =
    let own : Change = record { path = []; old = a; new = b } in
    omega (arith, full, e, ap (λ t. length {A = Change} (cond t [] (own ∷ []))) (ne_eqb a b other))

pub returns-then-pair-clause-put : goal.returns-then-pair-clause-put
returns-then-pair-clause-put c = λ p long first. none c.args.rows.now.items p c.args.pair.old c.args.pair.new c.if-pair.true

pub returns-then-len-clause-cause : goal.returns-then-len-clause-cause
returns-then-len-clause-cause c =
    many c.args.pair.old c.args.pair.new c.len.result (length c.args.rows.now.items) c.if-len.true (search rules) c.if-pair.false

pub returns-clause-put : goal.returns-clause-put
returns-clause-put c = λ p long first.
    let own = row c.args.at.bits c.args.at.len c.args.pair.old c.args.pair.new in
    c.push_reserved.ensures.items ∙ ap (λ (xs : List ChangedPrefix). xs ++ own ∷ []) c.in_ok-reserve.ensures.items
    ∙ one c.args.rows.now.items p c.args.at.bits c.args.at.len c.args.pair.old c.args.pair.new long first c.if-pair.false
