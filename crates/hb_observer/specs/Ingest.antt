-- What became of an event that was given to a writer.
use Rattle.hb_observer.specs.declared.ingesting.Ingested.{Ingested}
use Rattle.hb_observer.specs.declared.ingesting.Ingested.TheVariants.{Kept, Oversize, Spent, NoMemory}

-- the writer has one record more
abbrev pub IsStored : Ingested → Type 0
IsStored Kept = Unit {0}
IsStored Oversize = Unit {0}
IsStored Spent = ⊥
IsStored NoMemory = ⊥
