use Rattle.picture_laws.proofs.Most.{is-behind}
use Rattle.picture_laws.proofs.law.listed_groups_have_most.Goals as goal

pub returns : goal.returns
returns c view r some unlisted = is-behind view r some unlisted
