-- How a source ended, in words.
use Rattle.std.specs.Prelude.{ℕ, List, ◌++◌, codes, decimal}
use Rattle.cap_base.specs.declared.endings.How.{How}
use Rattle.cap_base.specs.declared.endings.How.TheVariants as hows
use Rattle.cap_base.specs.declared.endings.Code.{Code}
use Rattle.cap_base.specs.declared.endings.Code.TheVariants as code

-- a defect in a source's bytes
abbrev pub code_words : Code → List ℕ
code_words code.Magic = codes "magic"
code_words code.Version = codes "version"
code_words code.Order = codes "order"
code_words code.Length = codes "length"
code_words code.Trailer = codes "trailer"
code_words code.Body = codes "body"
code_words code.Note = codes "note"
code_words code.Interface = codes "interface"
code_words code.Captured = codes "captured"

-- the ending; a place is that of the byte where it is, in decimal
unfoldable pub ending_words : How → List ℕ
ending_words hows.Clean = codes "clean"
ending_words hows.Stopped = codes "stopped"
ending_words (hows.Cut at) = codes "cut at " ++ decimal at
ending_words (hows.Bad code at) = codes "bad " ++ (code_words code ++ (codes " at " ++ decimal at))
ending_words hows.ReadFault = codes "read failed"
ending_words hows.OpenFault = codes "open failed"
ending_words hows.TooMany = codes "too many interfaces"
ending_words hows.TooLong = codes "too long"
ending_words hows.NoMemory = codes "no memory"
ending_words hows.Worn = codes "worn"
