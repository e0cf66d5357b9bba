use Rattle.hb_flow.proofs.Again.{response_again, response_clean}
use Rattle.hb_flow.proofs.MessagesAgain.{lost_event_again, lost_event_clean}
use Rattle.hb_flow.proofs.laws.written_is_read.Goals as goal

pub returns-clause-no_fault : goal.returns-clause-no_fault
returns-clause-no_fault c = response_clean

pub returns-clause-reads : goal.returns-clause-reads
returns-clause-reads c = response_again

pub returns-clause-lost_no_fault : goal.returns-clause-lost_no_fault
returns-clause-lost_no_fault c e fits short = lost_event_clean e 0 fits short

pub returns-clause-lost_reads : goal.returns-clause-lost_reads
returns-clause-lost_reads c = lost_event_again
