-- What is found, as a ring has it at a place and as a reader stores it.
use Rattle.hb_look.specs.Looks.{Found, Got, Gone, NotYet}
use Rattle.hb_listring.specs.declared.ring.Place.{Place}
use Rattle.hb_listring.specs.declared.ring.Place.TheVariants.{Held, Overwritten, Unwritten}
use Rattle.hb_listring.specs.declared.reader.Stored.{Stored}
use Rattle.hb_listring.specs.declared.reader.Stored.TheVariants as kinds

abbrev pub found_in : Place → Found
found_in (Held bytes) = Got bytes.now
found_in (Overwritten next) = Gone next
found_in Unwritten = NotYet

abbrev pub stored : Stored → Found
stored (kinds.Got bytes) = Got bytes
stored (kinds.Gone next) = Gone next
stored kinds.NotYet = NotYet
