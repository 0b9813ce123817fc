use Rattle.std.proofs.Common.{◌≡◌, ℕ, ◌+◌, List, [], ◌∷◌, ◌++◌, Vec, Global, map, arith, rules, sym, ap, ◌∙◌}
use Rattle.std.specs.List.{range_with_len}
use Rattle.std.proofs.lemmas.List.{map-append}
use Rattle.std.proofs.lemmas.List.FromFn.{map-range_with_len_more}
use Rattle.table_picture.specs.By.{rec_in}
use Rattle.table_picture.specs.Picture.{mark_name, rec_name}
use Rattle.table_picture.proofs.picture.names_in.Goals as goal

more : (f : ℕ → List ℕ) (i : ℕ) (old new : List (Vec ℕ Global)) (name : Vec ℕ Global) → map (λ v. v.items) old ≡ map f (range_with_len 0 i)
    → new ≡ old ++ name ∷ [] → name.items ≡ f i → map (λ v. v.items) new ≡ map f (range_with_len 0 (i + 1))
more f i old new name so_far put is =
    ap (map (λ (v : Vec ℕ Global). v.items)) put ∙ map-append (λ (v : Vec ℕ Global). v.items) old (name ∷ [])
    ∙ ap (λ (t : List (List ℕ)). t ++ name.items ∷ []) so_far
    ∙ ap (λ (n : List ℕ). map f (range_with_len 0 i) ++ n ∷ []) is
    ∙ sym (map-range_with_len_more f 0 i i (omega arith))

pub loop-index-preserved : goal.loop-index-preserved
loop-index-preserved g c = record {
  names = more (mark_name c.args.by c.args.newest (g.T.TableView.view c.args.tables.now) c.args.marks.now) c.loop-index.index c.loop-index.names.items c.push.new.self.items c.in_ok-rec_name.field-0
      c.loop-index.invariant.names c.in_ok-push.ensures.items
      (c.in_ok-rec_name.ensures ∙ (λ i. rec_name c.args.by c.args.newest (c.places.ensures i) (c.rec_in-rec.ensures i))
      ∙ ap (λ (slot : ℕ). rec_name c.args.by c.args.newest (g.T.TableView.view c.args.tables.now).places (rec_in (g.T.TableView.view c.args.tables.now) slot)) c.first_slot.ensures);
  long = search rules;
}
