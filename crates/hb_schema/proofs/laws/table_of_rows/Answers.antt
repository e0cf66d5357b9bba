use Rattle.std.proofs.Common.{rules}
use Rattle.hb_schema.proofs.laws.table_of_rows.Goals as goal

pub returns : goal.returns
returns c = search rules
