-- What the messages of this crate mean by their rows.
use Rattle.std.specs.Prelude.{[]}
use Rattle.hb_schema.specs.Rows.{Meaning}
use Rattle.hb_schema.specs.Table.{timestamp_row, uint32_value_row, int32_value_row, bool_value_row}
use Rattle.hb_time.specs.declared.stamp.Stamp.{Stamp}
use Rattle.hb_schema.specs.declared.wrappers.UInt32Value.{UInt32Value}
use Rattle.hb_schema.specs.declared.wrappers.Int32Value.{Int32Value}
use Rattle.hb_schema.specs.declared.wrappers.BoolValue.{BoolValue}

abbrev pub stamp_view : Stamp → Meaning timestamp_row
stamp_view m = ((m.secs, (m.nanos, tt)), [])

abbrev pub uint32_value_view : UInt32Value → Meaning uint32_value_row
uint32_value_view m = ((m.value, tt), [])

abbrev pub int32_value_view : Int32Value → Meaning int32_value_row
int32_value_view m = ((m.value, tt), [])

abbrev pub bool_value_view : BoolValue → Meaning bool_value_row
bool_value_view m = ((m.value, tt), [])
