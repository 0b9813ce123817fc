use Rattle.picking.proofs.SampleLaws.{most_of, part_of, records_of}
use Rattle.picking.proofs.law.samples_are_records.Goals as goal

pub returns-clause-most : goal.returns-clause-most
returns-clause-most c = most_of

pub returns-clause-part : goal.returns-clause-part
returns-clause-part c = part_of

pub returns-clause-records : goal.returns-clause-records
returns-clause-records c = records_of
