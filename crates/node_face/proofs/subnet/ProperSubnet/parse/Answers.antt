use Rattle.node_face.proofs.subnet.ProperSubnet.parse.Goals as goal

-- a text is that of one subnet
pub returns-in-Some-clause-only : goal.returns-in-Some-clause-only
returns-in-Some-clause-only c = λ s is. cc (c.in-Some.ensures.only s is)

pub returns-in-None-clause-none : goal.returns-in-None-clause-none
returns-in-None-clause-none c = λ s is. cc (c.in-None.ensures.only s is)
