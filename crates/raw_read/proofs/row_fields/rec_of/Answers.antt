use Rattle.raw_read.proofs.row_fields.rec_of.Goals as goal

pub returns-in_default-clause-cause : goal.returns-in_default-clause-cause
returns-in_default-clause-cause c = (tt, λ x. c.in_default.ensures.none x.0 x.1)

pub returns-in_default-number_at-clause-cause : goal.returns-in_default-number_at-clause-cause
returns-in_default-number_at-clause-cause c =
    ((c.in-Some.addr, c.in-Some.ensures.found), λ x. c.in_default-number_at.ensures.none x.0 x.1)

pub returns-in_default-number_at-2-clause-cause : goal.returns-in_default-number_at-2-clause-cause
returns-in_default-number_at-2-clause-cause c = (
  (
    (c.in-Some.addr, c.in-Some.ensures.found),
    (c.in-Some-number_at.port, c.in-Some-number_at.ensures.found),
  ),
  λ x. c.in_default-number_at-2.ensures.none x.0 x.1,
)

pub returns-in_default-number_at-3-clause-cause : goal.returns-in_default-number_at-3-clause-cause
returns-in_default-number_at-3-clause-cause c = (
  (
    (c.in-Some.addr, c.in-Some.ensures.found),
    (c.in-Some-number_at.port, c.in-Some-number_at.ensures.found),
    (c.in-Some-number_at-2.services, c.in-Some-number_at-2.ensures.found),
  ),
  λ x. c.in_default-number_at-3.ensures.none x.0 x.1,
)

pub returns-in_default-address_at-clause-cause : goal.returns-in_default-address_at-clause-cause
returns-in_default-address_at-clause-cause c = (
  (
    (c.in-Some.addr, c.in-Some.ensures.found),
    (c.in-Some-number_at.port, c.in-Some-number_at.ensures.found),
    (c.in-Some-number_at-2.services, c.in-Some-number_at-2.ensures.found),
    (c.in-Some-number_at-3.time, c.in-Some-number_at-3.ensures.found),
  ),
  λ x. c.in_default-address_at.ensures.none x.0 x.1,
)
