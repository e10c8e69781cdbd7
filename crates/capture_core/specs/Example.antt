-- One small capture, entry by entry: a source with one interface and one packet, and one file.
use Rattle.std.specs.Prelude.{ℕ, pos, false, Some, None, List, [], ◌∷◌, ◌++◌, length, map}
use Rattle.cap_base.specs.Effects.{Effect}
use Rattle.cap_base.specs.Histories.{History}
use Rattle.cap_base.specs.declared.interface.Iface.{Iface}
use Rattle.cap_base.specs.declared.packet.Packet.{Packet}
use Rattle.cap_base.specs.declared.counts.Counts.{Counts}
use Rattle.cap_base.specs.declared.numbers.Order.TheVariants.{Little}
use Rattle.cap_base.specs.declared.endings.How.TheVariants.{Clean}
use Rattle.cap_base.specs.declared.settings.Settings.{Settings}
use Rattle.cap_base.specs.declared.entries.Item.TheVariants as I
use Rattle.cap_base.specs.declared.entries.Taken.TheVariants as T
use Rattle.cap_base.specs.declared.entries.Verdict.TheVariants as V
use Rattle.cap_base.specs.declared.entries.Entry.{Entry}
use Rattle.cap_base.specs.declared.entries.Entry.TheVariants as E
use Rattle.pcapng_blocks.specs.Times.{statistics_time}
use Rattle.pcapng_blocks.specs.declared.block.Block.TheVariants as block
use Rattle.capture_desk.specs.declared.acts.Act.{Act}
use Rattle.capture_desk.specs.declared.acts.Act.TheVariants.{Create, Put, Finish, Say}
use Rattle.capture_desk.specs.Past.{past}
use Rattle.capture_desk.specs.Acts.{acts}
use Rattle.capture_desk.specs.Doing.{effects_of_acts}
use Rattle.capture_desk.specs.Examples.{a_thousand_bytes_a_file, up_to_a_packet_of, takes}
use Rattle.capture_core.specs.Made.{MadeFile, files_made}
use Rattle.capture_report.specs.Report.{interface_line, files_line}

-- Ethernet, in microseconds
abbrev pub an_interface : Iface
an_interface = record { link = 1; snap = 262144; resol = 6; offset = pos 0; name = 97 ∷ []; notes = [] }

-- a packet of one byte
abbrev pub a_packet : Packet
a_packet = record { iface = 0; time = 1; orig = 60; body = 7 ∷ []; notes = [] }

-- one source, one output, no messages
abbrev pub settings : Settings
settings = record {
  sources = (97 ∷ []) ∷ [];
  output = 111 ∷ [];
  limits = record { packets = 2; bytes = None };
  stop = record { packets = None; bytes = None; nanos = None; files = None };
  switch = record { packets = None; bytes = None; nanos = None; interval = None; keep = None };
  sync = false;
  snap = None;
}

-- one packet was received and written
abbrev pub one_written : Counts
one_written = record { recv = 1; drop = 0; flush = 0; written = 1 }

-- the source's entries, and the writer's behind them
abbrev pub a_history : History
a_history =
    (0, E.Join 0 an_interface (Some 0)) ∷ (0, E.Offer 0 a_packet V.Accepted) ∷ (0, E.End 0 Clean) ∷
    (1, E.Take 5 (T.Item (I.Iface 0 an_interface))) ∷ (1, E.Take 6 (T.Item (I.Packet a_packet))) ∷ (1, E.Take 7 (T.Item (I.Ended 0 Clean))) ∷
    (1, E.Take 8 T.Done) ∷ (1, E.Tally 8 (one_written ∷ [])) ∷ (1, E.Tally 8 (one_written ∷ [])) ∷ []

-- what is done for it
abbrev pub some_acts : List Act
some_acts =
    Create (111 ∷ []) ∷ Put (block.Section Little) ∷ Put (block.Interface an_interface) ∷ Put (block.Enhanced a_packet) ∷
    Put (block.Statistics 0 (statistics_time 6 (pos 0) 8) 1 0 1) ∷ Finish ∷
    Say (interface_line 0 an_interface one_written) ∷ Say (files_line 1) ∷ []

-- the same, byte by byte
abbrev pub what_was_done : List Effect
what_was_done = effects_of_acts some_acts

-- ---- two packets of 900 bytes, each of which fills a file of 1,000 bytes

-- two packets were received, and so many are written
abbrev pub of_two : ℕ → List Counts
of_two n = record { recv = 2; drop = 0; flush = 0; written = n } ∷ []

-- a packet, its Tally, the other one, its Tally, and the end of the capture
abbrev pub two_large_packets : List Entry
two_large_packets =
    up_to_a_packet_of 900 ++ (E.Tally 0 (of_two 1) ∷ takes 900 ∷ E.Tally 0 (of_two 2) ∷
    E.Take 0 (T.Item (I.Ended 0 Clean)) ∷ E.Take 0 T.Done ∷ E.Tally 0 (of_two 2) ∷ E.Tally 0 (of_two 2) ∷ [])

-- the files that are made of them
abbrev pub three_files : List MadeFile
three_files = files_made (effects_of_acts (acts a_thousand_bytes_a_file (past two_large_packets)))

-- how many bytes each file has
abbrev pub sizes : List MadeFile → List ℕ
sizes files = map (λ (file : MadeFile). length file.bytes) files

-- the name of each file
abbrev pub names_of : List MadeFile → List (List ℕ)
names_of files = map (λ (file : MadeFile). file.name) files
