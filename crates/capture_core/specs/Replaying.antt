-- What a desk can be told of a history's entries.
use Rattle.cap_base.specs.declared.entries.Entry.{Entry}
use Rattle.cap_base.specs.declared.entries.Entry.TheVariants as entry
use Rattle.capture_desk.specs.Told.{CanTake}

-- what a Take answered can be written
abbrev pub CanTell : Entry → Type 0
CanTell (entry.Take now t) = CanTake t
CanTell other = Unit {0}
