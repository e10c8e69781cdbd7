-- What a reader finds in the texts that are made.
use Rattle.std.specs.Prelude.{ℕ, ◌%◌, ◌≡◌, ◌≤◌, List, [], ◌∷◌, map, pos}
use Rattle.cap_base.specs.Events.{interface, packet}
use Rattle.cap_base.specs.declared.interface.Iface.{Iface}
use Rattle.cap_base.specs.declared.limits.TheConstants.{MAX_CAPTURED_LEN}
use Rattle.cap_base.specs.declared.endings.How.TheVariants.{Clean}
use Rattle.pcap_pipe.specs.Reading as pcap
use Rattle.pcapng_pipe.specs.Reading as pcapng
use Rattle.cap_make.specs.Generator.{packets_of}
use Rattle.cap_make.specs.Streams.{ethernet, stream}

-- the interface of a source that is read under a name
abbrev pub interface_of : List ℕ → Iface
interface_of name = record { link = ethernet; snap = MAX_CAPTURED_LEN; resol = 6; offset = pos 0; name = name; notes = [] }

-- an even source is read as classic pcap: its interface, its packets, and a clean end
abbrev pub EvenIsClassic : Type 0
EvenIsClassic = (name : List ℕ) (start sources packets which : ℕ) → which % 2 ≡ 0 → packets ≤ 1000000
    → pcap.reading name (stream start sources packets which) ≡ (interface (interface_of name) ∷ map packet (packets_of start sources packets which), Clean)

-- an odd source is read as pcapng: its interface, its packets, and a clean end
abbrev pub OddIsPcapng : Type 0
OddIsPcapng = (name : List ℕ) (start sources packets which : ℕ) → which % 2 ≡ 1 → packets ≤ 1000000
    → pcapng.reading name (stream start sources packets which) ≡ (interface (interface_of name) ∷ map packet (packets_of start sources packets which), Clean)
