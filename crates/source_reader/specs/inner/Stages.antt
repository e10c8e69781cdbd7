-- How a reader begins to read a format, and what a stage keeps to.
use Rattle.std.specs.Prelude.{ℕ, ◌≡◌, ◌≤◌, ◌<◌, List, [], length, true, false}
use Rattle.pcap_pipe.specs.Pipe as classic
use Rattle.pcapng_blocks.specs.Frames.{is_section_header}
use Rattle.pcapng_pipe.specs.Pipe as pcapng
use Rattle.source_reader.specs.declared.stage.Stage.{Stage}
use Rattle.source_reader.specs.declared.stage.Stage.TheVariants.{Choosing, Classic, Pcapng}

-- the stage of a reader of a name that was fed nothing but these bytes
abbrev pub Begins : List ℕ → List ℕ → Stage → Type 0
Begins name text (Choosing own head) = (own ≡ name) × (head ≡ text) × (length text < 4)
Begins name text (Classic pipe) = (4 ≤ length text) × (is_section_header text ≡ false) × (pipe ≡ classic.with_kept (classic.fresh name) text) × classic.StandsFor pipe text []
Begins name text (Pcapng pipe) = (4 ≤ length text) × (is_section_header text ≡ true) × (pipe ≡ pcapng.with_kept (pcapng.fresh name) text) × pcapng.StandsFor pipe text []

-- before the format is known fewer than four bytes are kept; the name is one that an interface may have
abbrev pub IsKept : Stage → Type 0
IsKept (Choosing name head) = (length head < 4) × (length name ≤ 65535)
IsKept (Classic pipe) = length pipe.name ≤ 65535
IsKept (Pcapng pipe) = Unit {0}
