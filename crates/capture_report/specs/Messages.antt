-- The messages of failures, and those at the end of a capture.
use Rattle.std.specs.Prelude.{ℕ, ◌+◌, ◌==◌, min, if◌then◌else◌, List, ◌++◌, take, map, codes}
use Rattle.cap_base.specs.declared.counts.Counts.{Counts}
use Rattle.cap_base.specs.declared.endings.How.{How}
use Rattle.cap_base.specs.declared.interface.Iface.{Iface}
use Rattle.sync_pipe.specs.Format.{most_drops}
use Rattle.sync_pipe.specs.declared.said.Said.{Said}
use Rattle.sync_pipe.specs.declared.said.Said.TheVariants as said
use Rattle.capture_report.specs.declared.endings.SourceEnd.{SourceEnd}
use Rattle.capture_report.specs.Words.{ending_words}
use Rattle.capture_report.specs.Endings.{of_sources, of_interfaces}

-- a call on the file of this name failed
abbrev pub failure_message : List ℕ → Said
failure_message name = said.Error (codes "output failed") name

-- a zero byte is said as a question mark
abbrev pub shown_byte : ℕ → ℕ
shown_byte b = if b == 0 then 63 else b

-- an interface's name, as far as a message has room for it
unfoldable pub shown_name : List ℕ → List ℕ
shown_name name = map shown_byte (take 65000 name)

-- how many packets of an interface were dropped or flushed, as far as a message can say it
abbrev pub drops_said : Iface → Counts → Said
drops_said i c = said.Drops (min (c.drop + c.flush) most_drops) (shown_name i.name)

-- the same; the interface's number isn't said
abbrev pub drops_message : ℕ → Iface → Counts → Said
drops_message n i c = drops_said i c

-- the source of this name ended so
abbrev pub early_message : List ℕ → How → Said
early_message name how = said.Error (codes "source ended early") (name ++ (codes ": " ++ ending_words how))

-- at the end: the interfaces, then the sources that ended early
unfoldable pub closing_messages : List (List ℕ) → List Iface → List SourceEnd → List Counts → List Said
closing_messages sources is ends counts = of_interfaces drops_message 0 is counts ++ of_sources early_message 0 sources ends
