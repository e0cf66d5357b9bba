use Rattle.hb_schema.proofs.Again.{written_again}
use Rattle.hb_schema.proofs.Faultless.{written_no_fault}
use Rattle.hb_schema.proofs.laws.written_is_read.Goals as goal

pub returns-clause-no_fault : goal.returns-clause-no_fault
returns-clause-no_fault c row place m is = written_no_fault row is place m

pub returns-clause-reads : goal.returns-clause-reads
returns-clause-reads c row m is = written_again row is m
