-- The lines of a joining. Each ends with a line feed; numbers are decimal.
use Rattle.std.specs.Prelude.{ℕ, List, ◌++◌, length, codes, decimal}
use Rattle.pcapng_grammar.specs.declared.fault.What.{What}
use Rattle.pcapng_grammar.specs.Words.{defect_word}
use Rattle.ring_join.specs.Whole.{WholeBlock, packets}
use Rattle.ring_join.specs.Joined.{joined}

-- the first defect of an input, and its place
unfoldable pub defect_line : What → ℕ → List ℕ → List ℕ
defect_line what at name = codes "fault " ++ (defect_word what ++ (codes " at " ++ (decimal at ++ (codes " in " ++ (name ++ codes "\n")))))

-- the first description of an input that isn't the one of the input before
unfoldable pub difference_line : ℕ → List ℕ → List ℕ
difference_line number name = codes "fault differ at description " ++ (decimal number ++ (codes " in " ++ (name ++ codes "\n")))

-- how many files were joined, and how many packets the joined file has
unfoldable pub lines_with : ℕ → ℕ → List ℕ
lines_with files count = codes "files " ++ (decimal files ++ (codes "\npackets " ++ (decimal count ++ codes "\n")))

abbrev pub joined_lines : List (List WholeBlock) → List ℕ
joined_lines files = lines_with (length files) (length (packets (joined files)))
