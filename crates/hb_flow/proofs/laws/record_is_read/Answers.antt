use Rattle.hb_flow.proofs.Again.{record_again, record_clean}
use Rattle.hb_flow.proofs.laws.record_is_read.Goals as goal

pub returns-clause-no_fault : goal.returns-clause-no_fault
returns-clause-no_fault c = record_clean

pub returns-clause-reads : goal.returns-clause-reads
returns-clause-reads c = record_again
