-- The longest row of a tree's rows gives what the tree means.
use Rattle.std.proofs.Common.{◌≡◌, ◌==◌, ℕ, ◌+◌, ◌-◌, ◌^◌, ◌<◌, ◌≤◌, Bool, true, false, List, [], ◌∷◌, ◌++◌, length, drop, cond, inl, inr, refl, ap, sym, ◌∙◌, subst, arith, append_assoc, length-append}
use Rattle.std.proofs.lemmas.Bool.{cases_Bool, eqb-true, false_from_ne_true}
use Rattle.std.proofs.lemmas.List.{drop_at}
use Rattle.std.proofs.lemmas.List.Elements.{All-contains}
use Rattle.bit_code.specs.Coder.{digits, number_of}
use Rattle.bit_code.proofs.DigitLaws.{length-digits, digits-number_of, number_of-lt}
use Rattle.bit_code.specs.Prefixes.{begins_with}
use Rattle.asmap_vm.specs.Code.{Tree, Return, Jump, Match, Default, meaning, asn_of, IsSaneWithin, IsSane}
use Rattle.prefix_table.specs.declared.rows.TheConstants.{MAX_ROWS}
use Rattle.prefix_table.specs.Rows.{path, best, IsRow}
use Rattle.prefix_table.proofs.PathLaws.{number_best}
use Rattle.bit_code.proofs.PrefixLaws.{begins_self, begins_cut, begins_from, begins_both, false_true}
use Rattle.prefix_table.proofs.Rising.{rises_from}
use Rattle.prefix_table.proofs.PathLaws.{table_rows}
use Rattle.asmap_back.specs.Back.{row_at, unless_same, rows_of, rows_back}
use Rattle.asmap_back.proofs.PathRows.{path_row_at}
use Rattle.asmap_back.proofs.Ranges.{CanTell, each_under, back_table}
use Rattle.asmap_back.proofs.LastRow.{last_number, last_append, last_off, number_last}

told_by : (p rest : List Bool) (asn last : ℕ) (b : Bool) → (asn == last) ≡ b → last_number (cond b [] (row_at p asn ∷ [])) (p ++ rest) last ≡ asn
unfolding last_number
told_by p rest asn last true e = sym (eqb-true asn last e)
told_by p rest asn last false e =
    ap (λ b. cond b asn last) (ap (begins_with (p ++ rest)) (path_row_at p asn) ∙ begins_self p rest)

-- after the row that is told, the number is this one
told_last : (p rest : List Bool) (asn last : ℕ) → last_number (unless_same (row_at p asn) last) (p ++ rest) last ≡ asn
unfolding unless_same
told_last p rest asn last = told_by p rest asn last (asn == last) refl

-- the rows of a part at which the address doesn't arrive
part_off : (left : ℕ) (t : Tree) (w bits : List Bool) (default last number : ℕ) → IsSaneWithin left t → left + length w ≤ 128 → CanTell default last → begins_with bits w ≡ false → last_number (rows_of t w default last) bits number ≡ number
part_off left t w bits default last number sane low can off =
    last_off (rows_of t w default last) bits number (λ row has.
    let u = each_under left t w default last sane low can row has in
    let c = begins_cut (path row) w u.begins in
    false_from_ne_true (begins_with bits (path row)) (λ h.
    let f = begins_cut bits (path row) h in
    false_true off (begins_from bits w (c.rest ++ f.rest) (f.is ∙ ap (λ xs. xs ++ f.rest) c.is ∙ append_assoc w c.rest f.rest))))

differ : (p more : List Bool) (side other : Bool) → begins_with (side ∷ more) (other ∷ []) ≡ false → begins_with (p ++ side ∷ more) (p ++ other ∷ []) ≡ false
differ p more side other e = begins_both p (side ∷ more) (other ∷ []) ∙ e

low_high : (more : List Bool) → begins_with (false ∷ more) (true ∷ []) ≡ false
unfolding begins_with
low_high more = refl

high_low : (more : List Bool) → begins_with (true ∷ more) (false ∷ []) ≡ false
unfolding begins_with
high_low more = refl

-- the last row that is a prefix of an address through the path gives the meaning
pub last_mean : (left : ℕ) (t : Tree) (p rest : List Bool) (default last : ℕ) → IsSaneWithin left t → left + length p ≤ 128 → left ≤ length rest → CanTell default last →
    last_number (rows_of t p default last) (p ++ rest) last ≡ meaning t rest default
unfolding rows_of IsSaneWithin meaning
last_mean left (Return asn) p rest default last sane low full can = told_last p rest asn last
last_mean left (Default asn t) p rest default last sane low full can = last_mean left t p rest asn last sane.2 low full (λ _. sane.0)
last_mean left (Jump l r) p [] default last sane low full can = absurd (omega (arith, sane.0, full))
last_mean left (Jump l r) p (false ∷ rest) default last sane low full can =
    let first = rows_of l (p ++ false ∷ []) default last in
    let second = rows_of r (p ++ true ∷ []) default last in
    let bits = p ++ false ∷ rest in
    let mine = last_mean (left - 1) l (p ++ false ∷ []) rest default last sane.2 (omega (arith, sane.0, length-append p (false ∷ []))) (omega (arith, full)) can in
    last_append first second bits last
    ∙ part_off (left - 1) r (p ++ true ∷ []) bits default last (last_number first bits last) sane.3 (omega (arith, sane.0, length-append p (true ∷ []))) can (differ p rest false true (low_high rest))
    ∙ ap (λ xs. last_number first xs last) (sym (append_assoc p (false ∷ []) rest))
    ∙ mine
last_mean left (Jump l r) p (true ∷ rest) default last sane low full can =
    let first = rows_of l (p ++ false ∷ []) default last in
    let second = rows_of r (p ++ true ∷ []) default last in
    let bits = p ++ true ∷ rest in
    let mine = last_mean (left - 1) r (p ++ true ∷ []) rest default last sane.3 (omega (arith, sane.0, length-append p (true ∷ []))) (omega (arith, full)) can in
    last_append first second bits last
    ∙ ap (last_number second bits) (part_off (left - 1) l (p ++ false ∷ []) bits default last last sane.2 (omega (arith, sane.0, length-append p (false ∷ []))) can (differ p rest true false (high_low rest)))
    ∙ ap (λ xs. last_number second xs last) (sym (append_assoc p (true ∷ []) rest))
    ∙ mine
last_mean left (Match wanted t) p rest default last sane low full can =
    let own = unless_same (row_at p default) last in
    let next = rows_of t (p ++ wanted) default default in
    let bits = p ++ rest in
    let t_low : left - length wanted + length (p ++ wanted) ≤ 128 = omega (arith, sane.1, length-append p wanted) in
    let none : CanTell default default = λ other. absurd (other refl) in
    last_append own next bits last ∙ ap (last_number next bits) (told_last p rest default last)
    ∙ elim (cases_Bool (begins_with rest wanted)) [
      | inl starts ↦
          let c = begins_cut rest wanted starts in
          let back : drop (length wanted) rest ≡ c.rest = ap (drop (length wanted)) c.is ∙ drop_at wanted c.rest (length wanted) refl in
          let whole : bits ≡ (p ++ wanted) ++ c.rest = ap (λ xs. p ++ xs) c.is ∙ sym (append_assoc p wanted c.rest) in
          let room : left - length wanted ≤ length c.rest = omega (arith, full, ap length c.is, length-append wanted c.rest) in
          ap (λ xs. last_number next xs default) whole
          ∙ last_mean (left - length wanted) t (p ++ wanted) c.rest default default sane.2 t_low room none
          ∙ ap (λ xs. meaning t xs default) (sym back)
          ∙ sym (ap (λ b. cond b (meaning t (drop (length wanted) rest) default) default) starts)
      | inr off ↦
          part_off (left - length wanted) t (p ++ wanted) bits default default default sane.2 t_low none (begins_both p rest wanted ∙ off)
          ∙ sym (ap (λ b. cond b (meaning t (drop (length wanted) rest) default) default) off)
    ]

-- the best of the rows of a sane tree is its meaning
pub back_asn : (t : Tree) (address : ℕ) → IsSane t → length (rows_back t) ≤ MAX_ROWS → address < 2 ^ 128 → best (rows_back t) address ≡ asn_of t address
unfolding asn_of
back_asn t address sane few small =
    let table = back_table t sane few in
    let bits = digits 128 address in
    let long = length-digits 128 address in
    sym (number_best (rows_back t) address (table_rows (rows_back t) table) small)
    ∙ number_last (rows_back t) bits (rises_from (rows_back t) table.rising) (λ row has. All-contains IsRow (rows_back t) row table.each has)
    ∙ last_mean 128 t [] bits 0 0 sane (omega arith) (omega (arith, long)) (λ other. absurd (other refl))

pub back_best : (t : Tree) (bits : List Bool) → IsSane t → length (rows_back t) ≤ MAX_ROWS → length bits ≡ 128 → best (rows_back t) (number_of bits) ≡ meaning t bits 0
unfolding asn_of
back_best t bits sane few long =
    let whole : digits 128 (number_of bits) ≡ bits = ap (λ n. digits n (number_of bits)) (sym long) ∙ digits-number_of bits in
    let small : number_of bits < 2 ^ 128 = subst (λ n. number_of bits < 2 ^ n) long (number_of-lt bits) in
    back_asn t (number_of bits) sane few small ∙ ap (λ xs. meaning t xs 0) whole
