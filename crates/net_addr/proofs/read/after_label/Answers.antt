use Rattle.net_addr.proofs.Forms.{no_label}
use Rattle.net_addr.proofs.read.after_label.Goals as goal

pub returns-clause-none : goal.returns-clause-none
returns-clause-none c =
    no_label c.args.text.now c.in_default.ensures.none c.in_default-after_label_of.ensures.none
    c.in_default-after_label_of-2.ensures.none c.in_default-after_label_of-3.ensures.none
