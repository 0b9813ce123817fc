use Rattle.std.proofs.Common.{◌∙◌, refl, ap}
use Rattle.table_machine.specs.Picks.{select}
use Rattle.log_lines.specs.declared.reply.Reply.TheVariants as reply
use Rattle.manager.proofs.manager.Manager.select.Goals as goal

pub returns : goal.returns
returns g c =
    let words = c.draws.ensures in (
      ap reply.Picked (c.select_by.ensures.picked
          ∙ (λ j. select (c.self.view_is j).tables c.args.new_only c.args.nets (words j) (c.self.view_is j).clock)),
      refl,
    )
