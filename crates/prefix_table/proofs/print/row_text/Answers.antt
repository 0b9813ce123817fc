use Rattle.std.proofs.Common.{◌≡◌, List, [], ◌∷◌, ◌++◌, ℕ, decimal, codes, true, false, cond, refl, ap, sym, ◌∙◌}
use Rattle.prefix_table.specs.Print.{is_mapped, ipv4_entry, ipv6_entry, entry_of, row_text}
use Rattle.prefix_table.specs.declared.rows.Row.{Row}
use Rattle.prefix_table.proofs.print.row_text.Goals as goal

-- an entry has the number of its row
same_number : (row : Row) → (entry_of row).asn ≡ row.asn
same_number row = elim (is_mapped row) as (λ b. (cond b (ipv4_entry row) (ipv6_entry row)).asn ≡ row.asn) [ true ↦ refl | false ↦ refl ]

pub returns-clause-text : goal.returns-clause-text
unfolding row_text
returns-clause-text c =
    let row = c.args.row in
    let tag = c.append.ensures.items ∙ ap (λ (xs : List ℕ). xs ++ codes " AS") c.prefix_text-text.ensures.text in
    let asn = c.as_bytes.ensures.value ∙ c.format.ensures.text ∙ ap decimal (sym (same_number row)) in
    let with_asn = c.append-2.ensures.items ∙ (λ i. tag i ++ asn i) in
    c.push.ensures.items ∙ ap (λ (xs : List ℕ). xs ++ 10 ∷ []) with_asn
