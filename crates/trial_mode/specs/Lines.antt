-- The lines that a trial writes.
use Rattle.std.specs.Prelude.{ℕ, List, ◌++◌, codes, decimal}

-- how many streams and packets were made, how many of the packets were written, dropped or flushed, how many files were
-- created, and how many of them are grammatical
unfoldable pub lines_with : ℕ → ℕ → ℕ → ℕ → ℕ → List ℕ
lines_with sources packets accounted files checked = codes "sources " ++ (decimal sources ++ (codes "\npackets " ++ (decimal packets ++ (codes "\naccounted " ++ (decimal accounted ++ (codes "\nfiles " ++ (decimal files ++ (codes "\nchecked " ++ (decimal checked ++ codes "\n")))))))))
