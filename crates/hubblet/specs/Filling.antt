-- What is wrong with a file whose bytes were read.
use Rattle.std.specs.Prelude.{ℕ, List}
use Rattle.hb_files.specs.declared.fault.FileFault.{FileFault}
use Rattle.hb_files.specs.declared.fault.FileFault.TheVariants.{ReadFailed, TooLarge, BadRecord, NoMemory}
use Rattle.hb_recording.specs.Recording.{IsBadRecord}

-- its bytes show the fault: they are bad at the place; want of memory they need not show
abbrev pub IsShownBy : List ℕ → FileFault → Type 0
IsShownBy file ReadFailed = ⊥
IsShownBy file TooLarge = ⊥
IsShownBy file (BadRecord at) = IsBadRecord file at
IsShownBy file NoMemory = Unit {0}
