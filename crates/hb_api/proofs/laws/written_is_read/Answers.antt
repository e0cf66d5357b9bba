use Rattle.hb_api.proofs.Again.{request_again, request_clean}
use Rattle.hb_api.proofs.laws.written_is_read.Goals as goal

pub returns-clause-no_fault : goal.returns-clause-no_fault
returns-clause-no_fault c = request_clean

pub returns-clause-reads : goal.returns-clause-reads
returns-clause-reads c = request_again
