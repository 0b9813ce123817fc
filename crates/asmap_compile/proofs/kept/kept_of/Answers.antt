use Rattle.std.proofs.Common.{◌≡◌, ◌==◌, ℕ, ◌+◌, ◌-◌, ◌<◌, ◌≤◌, not, length, List, [], ◌∷◌, ◌++◌, get_or, take, filter, subst, sym, ap, ◌∙◌, arith}
use Rattle.std.proofs.lemmas.List.{get_or_read, get_or-take, length-take-le}
use Rattle.prefix_table.specs.declared.rows.Row.{Row}
use Rattle.asmap_compile.specs.Compiled.{stays}
use Rattle.asmap_compile.proofs.AroundLaws.{IsAround, IsLeft, around_len, around_next, number_last, kept_yes, kept_no}
use Rattle.asmap_compile.proofs.KeptLaws.{keeps_row, leaves_row}
use Rattle.asmap_compile.proofs.kept.kept_of.Goals as goal
use Rattle.asmap_compile.proofs.kept.kept_of.Goals.{then-last_asn-row, else-last_asn-row}

pub count_around-left-requires : goal.count_around-left-requires
count_around-left-requires c = λ k d low.
    let items = c.as_slice.ensures.value in
    let inside = subst (λ (xs : List Row). k < length xs) items low in
    subst (λ (xs : List Row). (get_or xs k d).len ≤ 128) (sym items)
    (around_len c.args.rows.items c.loop-i.i c.loop-i.around.items c.requires c.loop-i.invariant.around (omega (arith, c.loop-i-test.true, c.len-i-end.ensures, c.args.rows.ok.0)) k d inside)

pub loop-i-preserved : goal.loop-i-preserved
loop-i-preserved c =
    let rows = c.args.rows.items in
    let i = c.loop-i.i in
    let around = c.loop-i.around.items in
    let count = c.count_around-left.result in
    let row = c.index-row.result.now in
    let asn = c.last_asn.result in
    let low : i < length rows = omega (arith, c.loop-i-test.true, c.len-i-end.ensures, c.args.rows.ok.0) in
    let keeps = c.loop-i.invariant.kept in
    let own : row ≡ get_or rows i row = c.index-row.ensures ∙ keeps.rest i row (omega arith) in
    let at : (d : Row) → get_or rows i d ≡ row = λ d. sym (get_or_read rows i row low own d) in
    let left : IsLeft around row.bits count =
    subst (λ xs. IsLeft xs row.bits count) c.as_slice.ensures.value
    (record { bound = c.count_around-left.ensures.bound; last = c.count_around-left.ensures.last; past = c.count_around-left.ensures.past }) in
    let next : IsAround rows (i + 1) (take count around ++ row ∷ []) = around_next rows i around count row c.requires c.loop-i.invariant.around low at left in
    let cut : c.truncate.new.self.items ≡ take count around = c.truncate.ensures.items in
    let pushed : c.push.new.self.items ≡ take count around ++ row ∷ [] = c.in_ok-push.ensures.items ∙ ap (λ xs. xs ++ row ∷ []) cut in
    let seen : c.as_slice-in-loop-i.result.now ≡ take count around = c.as_slice-in-loop-i.ensures.value ∙ cut in
    let long : length c.as_slice-in-loop-i.result.now ≡ count = ap length seen ∙ length-take-le count around left.bound in
    let none : count ≡ 0 → asn ≡ 0 = λ e. c.last_asn.ensures.none (long ∙ e) in
    let some : (d : Row) → 0 < count → asn ≡ (get_or around (count - 1) d).asn = λ d more.
    c.last_asn.ensures.some d (omega (arith, long))
    ∙ ap (λ (n : ℕ). (get_or c.as_slice-in-loop-i.result.now (n - 1) d).asn) long
    ∙ ap (λ (xs : List Row). (get_or xs (count - 1) d).asn) seen
    ∙ ap (λ (r : Row). r.asn) (get_or-take count around (count - 1) d (omega arith)) in
    let test : stays rows row ≡ not (asn == row.asn) = number_last rows i around count row asn c.requires c.loop-i.invariant.around low at left none some in
    let test_at : stays rows (get_or rows i row) ≡ not (asn == (get_or rows i row).asn) = subst (λ (r : Row). stays rows r ≡ not (asn == r.asn)) own test in
    record {
      kept = elim c.if-last_asn-row.branch [
        | then-last_asn-row w ↦
            let differs : asn ≡ (get_or rows i row).asn → ⊥ = λ e. w.if-last_asn-row.true (e ∙ ap (λ (r : Row). r.asn) (sym own)) in
            let more = subst (λ (r : Row). filter (stays rows) (take i rows) ++ r ∷ [] ≡ filter (stays rows) (take (i + 1) rows)) (sym own) (kept_yes rows i row asn low test_at differs) in
            rw (w.kept-is, w.count-is) (keeps_row rows c.loop-i.kept.items i c.loop-i.count row keeps low more)
        | else-last_asn-row w ↦
            rw (w.kept-is, w.count-is) (leaves_row rows c.loop-i.kept.items i c.loop-i.count keeps (kept_no rows i row asn low test_at (w.if-last_asn-row.false ∙ ap (λ (r : Row). r.asn) own)))
      ];
      around = subst (IsAround rows (i + 1)) (sym pushed) next;
    }
