use Rattle.std.proofs.Common.{sym}
use Rattle.hb_schema.proofs.Cleaning.{read_is, joined_is}
use Rattle.hb_schema.proofs.laws.merged_is_read.Goals as goal

pub returns-clause-alone : goal.returns-clause-alone
returns-clause-alone c row place bytes is = read_is row is place bytes

pub returns-clause-joined : goal.returns-clause-joined
returns-clause-joined c row place there bytes more is are are' none none' = sym (joined_is row is place there bytes more are are' none none')
