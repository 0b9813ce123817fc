use Rattle.std.proofs.Common.{◌≡◌, ◌+◌, All, [], ◌∷◌, ◌++◌, map, take, None, Some, sym, ap, ◌∙◌, subst}
use Rattle.std.proofs.lemmas.List.Elements.{All-nil, All-cons, All-append}
use Rattle.serde_json.specs.View.{view}
use Rattle.ban_list.specs.Subnet.{IsProper}
use Rattle.ban_list.specs.BanFile.{AreElements}
use Rattle.ban_list.specs.declared.ban.Ban.{Ban}
use Rattle.ban_list.proofs.FileLaws.{elements_none, read_pass, read_count, fewer_taken}
use Rattle.ban_list.proofs.read_file.counted_of.Goals.{in-Some+in_ok-push, in_default}
use Rattle.ban_list.proofs.read_file.counted_of.Goals as goal

abbrev HasProper : Ban → Type 0
HasProper ban = IsProper ban.subnet

none_is : (ban : Ban) → None ≡ Some ban → ⊥
none_is ban e = cc

pub loop-element-init : goal.loop-element-init
loop-element-init c = record {
  counted = elements_none c.args.rule _ c.in_ok-counted.ensures.items;
  proper = subst (All HasProper) (sym c.in_ok-counted.ensures.items) (All-nil HasProper);
}

pub loop-element-preserved : goal.loop-element-preserved
loop-element-preserved c =
    let i = c.loop-element.element-index in
    let es = c.args.elements.now in
    let e = c.element-item.result in
    let done = c.loop-element.counted.items in
    elim c.match-element_of.branch [
      | in-Some+in_ok-push w ↦
          let ban = w.in-Some.ban in
          let items : c.match-element_of.counted.items ≡ done ++ ban ∷ [] = ap (λ v. v.items) w.counted-is ∙ w.in_ok-push.ensures.items in
          record {
            counted = subst (AreElements c.args.rule (map view (take (i + 1) es))) (sym items) (read_count c.args.rule view es i e done ban c.loop-element-test.true c.element-item.is c.loop-element.invariant.counted w.in-Some.ensures.found);
            proper = subst (All HasProper) (sym items) (All-append HasProper done (ban ∷ []) c.loop-element.invariant.proper (All-cons HasProper ban [] w.in-Some.ensures.proper (All-nil HasProper)));
          }
      | in_default w ↦
          let items : c.match-element_of.counted.items ≡ done = ap (λ v. v.items) w.counted-is in
          record {
            counted = subst (AreElements c.args.rule (map view (take (i + 1) es))) (sym items) (read_pass c.args.rule view es i e done c.loop-element-test.true c.element-item.is c.loop-element.invariant.counted (λ ban is. none_is ban (w.in_default.ensures.only ban is)));
            proper = subst (All HasProper) (sym items) c.loop-element.invariant.proper;
          }
    ]

pub returns-clause-few : goal.returns-clause-few
returns-clause-few c = fewer_taken c.args.rule view _ c.args.elements.now c.loop-element.counted.items c.loop-element.invariant.counted
