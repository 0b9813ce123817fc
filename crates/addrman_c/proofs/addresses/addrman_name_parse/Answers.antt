use Rattle.std.proofs.Common.{◌∙◌, refl}
use Rattle.addrman_c.proofs.addresses.addrman_name_parse.Goals as goal

pub returns-in-Some-clause-ok : goal.returns-in-Some-clause-ok
returns-in-Some-clause-ok c = λ found is. (refl, c.write_addr.ensures ∙ c.in-Some.ensures.only found is)

pub returns-in-None-clause-ok : goal.returns-in-None-clause-ok
returns-in-None-clause-ok c = λ found is. cc (c.in-None.ensures.only found is)
