-- The words of the defects, as they are printed.
use Rattle.std.specs.Prelude.{ℕ, List, codes}
use Rattle.pcapng_grammar.specs.declared.fault.What.{What}
use Rattle.pcapng_grammar.specs.declared.fault.What.TheVariants as what

-- the word of a defect
abbrev pub defect_word : What → List ℕ
defect_word what.Short = codes "short"
defect_word what.NoSection = codes "nosection"
defect_word what.SecondSection = codes "secondsection"
defect_word what.Order = codes "order"
defect_word what.Length = codes "length"
defect_word what.Trailer = codes "trailer"
defect_word what.Kind = codes "kind"
defect_word what.Body = codes "body"
defect_word what.Interface = codes "interface"
defect_word what.Late = codes "late"
defect_word what.Statistics = codes "statistics"
defect_word what.Missing = codes "missing"
defect_word what.TooLong = codes "toolong"
