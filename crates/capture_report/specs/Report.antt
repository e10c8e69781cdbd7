-- The report at the end of a capture, line by line.
use Rattle.std.specs.Prelude.{ℕ, Bool, true, false, List, [], ◌∷◌, ◌++◌, codes, decimal}
use Rattle.cap_base.specs.declared.counts.Counts.{Counts}
use Rattle.cap_base.specs.declared.endings.How.{How}
use Rattle.cap_base.specs.declared.interface.Iface.{Iface}
use Rattle.capture_report.specs.declared.endings.SourceEnd.{SourceEnd}
use Rattle.capture_report.specs.Words.{ending_words}
use Rattle.capture_report.specs.Endings.{of_sources, of_interfaces}

-- an interface's counts
abbrev pub counts_text : Counts → List ℕ
counts_text c = codes ": received " ++ (decimal c.recv ++ (codes " written " ++ (decimal c.written ++ (codes " dropped " ++ (decimal c.drop ++ (codes " flushed " ++ (decimal c.flush ++ codes "\n")))))))

-- an interface, by its number
unfoldable pub interface_line : ℕ → Iface → Counts → List ℕ
interface_line n i c = codes "interface " ++ (decimal n ++ (codes " " ++ (i.name ++ counts_text c)))

-- a source that ended early, by its name
unfoldable pub source_line : List ℕ → How → List ℕ
source_line name how = codes "source " ++ (name ++ (codes ": " ++ (ending_words how ++ codes "\n")))

-- an output on which a call failed
unfoldable pub output_line : List ℕ
output_line = codes "output: write failed\n"

-- the output, where a call on a file failed
abbrev pub output_lines : Bool → List (List ℕ)
output_lines false = []
output_lines true = output_line ∷ []

-- how many files were created
unfoldable pub files_line : ℕ → List ℕ
files_line files = codes "files " ++ (decimal files ++ codes "\n")

-- the interfaces, the sources that ended early, the output where a call on it failed, the files
unfoldable pub report_lines : List (List ℕ) → List Iface → List SourceEnd → List Counts → Bool → ℕ → List (List ℕ)
report_lines sources is ends counts file_lost files = of_interfaces interface_line 0 is counts ++ (of_sources source_line 0 sources ends ++ (output_lines file_lost ++ files_line files ∷ []))
