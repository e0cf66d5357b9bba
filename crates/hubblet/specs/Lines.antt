-- The status of a fault, and of each status the exit code and the line on standard error.
use Rattle.std.specs.Prelude.{ℕ, List, [], ◌++◌, codes}
use Rattle.std.specs.Fmt.{decimal}
use Rattle.hb_files.specs.declared.fault.FileFault.{FileFault}
use Rattle.hb_files.specs.declared.fault.FileFault.TheVariants as fault
use Rattle.hubblet.specs.declared.status.Status.{Status}
use Rattle.hubblet.specs.declared.status.Status.TheVariants.{Done, BadWords, ReadFault, WriteFault, BadRecord, NoMemory, TooLarge}

-- what a fault of the file of this name ends in
abbrev pub status_of : List ℕ → FileFault → Status
status_of file fault.ReadFailed = ReadFault file
status_of file fault.TooLarge = TooLarge file
status_of file (fault.BadRecord at) = BadRecord file at
status_of file fault.NoMemory = NoMemory

abbrev pub code_of : Status → ℕ
code_of Done = 0
code_of BadWords = 2
code_of (ReadFault file) = 3
code_of WriteFault = 4
code_of (BadRecord file at) = 5
code_of NoMemory = 9
code_of (TooLarge file) = 12

-- the text behind `hubblet: `
abbrev pub line_of : Status → List ℕ
line_of Done = []
line_of BadWords = codes "bad words"
line_of (ReadFault file) = file ++ codes ": read failed"
line_of WriteFault = codes "write failed"
line_of (BadRecord file at) = file ++ codes ": bad record at " ++ decimal at
line_of NoMemory = codes "no memory"
line_of (TooLarge file) = file ++ codes ": too large"
