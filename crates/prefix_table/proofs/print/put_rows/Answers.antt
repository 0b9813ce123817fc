use Rattle.std.proofs.Common.{◌≡◌, ◌+◌, ◌<◌, ℕ, List, [], ◌∷◌, ◌++◌, length, get_or, take, Result, Ok, Err, ap, ◌∙◌, sym, append_assoc, append-nil}
use Rattle.std.specs.Prelude.{flat_map, OnErr}
use Rattle.std.proofs.Math.Seq.{take-append_seam}
use Rattle.std.proofs.lemmas.List.Elements.{All-more}
use Rattle.std.proofs.lemmas.Grind.{take_at_read, flat_map-append}
use Rattle.prefix_table.specs.Text.{IsRowAddress}
use Rattle.prefix_table.specs.Print.{entry_of, address_text, row_text}
use Rattle.prefix_table.specs.declared.rows.Row.{Row}
use Rattle.prefix_table.proofs.print.put_rows.Goals as goal

abbrev blank : Row
blank = record { bits = 0; len = 0; asn = 0 }

on_err : {X E : Type 0} (r : Result X E) (P : Type 0) → P → OnErr r P
on_err (Ok x) P p = tt
on_err (Err e) P p = p

-- what was there before stays at the start
kept : (before mid new tail : List ℕ) → mid ≡ before ++ tail → new ≡ mid → take (length before) new ≡ before
kept before mid new tail e same = ap (λ (xs : List ℕ). take (length before) xs) (same ∙ e) ∙ take-append_seam before tail

-- one more line
one_more : (before : List ℕ) (rows : List Row) (i : ℕ) → i < length rows → (before ++ flat_map row_text (take i rows)) ++ row_text (get_or rows i blank) ≡ before ++ flat_map row_text (take (i + 1) rows)
one_more before rows i within =
    let next = (take_at_read rows i blank within).1 in
    append_assoc before (flat_map row_text (take i rows)) (row_text (get_or rows i blank))
    ∙ ap (λ (xs : List ℕ). before ++ (flat_map row_text (take i rows) ++ xs)) (sym (append-nil (row_text (get_or rows i blank))))
    ∙ ap (λ (xs : List ℕ). before ++ xs) (sym (flat_map-append row_text (take i rows) (get_or rows i blank ∷ [])))
    ∙ ap (λ (rs : List Row). before ++ flat_map row_text rs) (sym next)

pub returns-in_err-put_row-clause-err : goal.returns-in_err-put_row-clause-err
returns-in_err-put_row-clause-err c =
    on_err c.from_residual.result _ (kept c.args.out.now.items c.loop-row.out.items c.put_row.new.out.items _ c.loop-row.invariant.text c.in_err-put_row.ensures.err)

pub loop-row-preserved : goal.loop-row-preserved
loop-row-preserved c = record {
  text = c.in_ok-put_row.ensures.ok ∙ ap (λ (xs : List ℕ). xs ++ row_text (get_or c.args.rows.now c.loop-row.row-index blank)) c.loop-row.invariant.text ∙ one_more c.args.out.now.items c.args.rows.now c.loop-row.row-index c.loop-row-test.true;
  back = All-more (λ row. IsRowAddress (entry_of row).family (address_text (entry_of row)) (entry_of row).address) c.args.rows.now c.loop-row.row-index blank c.loop-row-test.true c.loop-row.invariant.back c.in_ok-put_row.ensures.reads_back;
}
