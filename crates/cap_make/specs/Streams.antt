-- The text of a source: classic pcap (draft-ietf-opsawg-pcap) where its number is even, else pcapng
-- (draft-ietf-opsawg-pcapng). Both are little-endian, with link type 1 (Ethernet) and a snap length of 262,144.
use Rattle.std.specs.Prelude.{ℕ, ◌%◌, ◌==◌, List, ◌++◌, if◌then◌else◌}
use Rattle.std.specs.List.{flat_map}
use Rattle.cap_base.specs.declared.packet.Packet.{Packet}
use Rattle.cap_base.specs.declared.numbers.Order.TheVariants.{Little}
use Rattle.cap_base.specs.declared.limits.TheConstants.{MAX_CAPTURED_LEN}
use Rattle.pcap_pipe.specs.Spelling.{header_text, record_text}
use Rattle.pcapng_blocks.specs.declared.block.Block.TheVariants.{Section, Enhanced}
use Rattle.pcapng_blocks.specs.Codes.{interface_description_block}
use Rattle.pcapng_blocks.specs.Spelling.{spell, block_text, u16, u32}
use Rattle.cap_make.specs.Generator.{packets_of}

abbrev pub ethernet : ℕ
ethernet = 1

-- an interface description without options (section 4.2): link type, reserved, snap length
unfoldable pub description : List ℕ
description = block_text interface_description_block (u16 ethernet ++ (u16 0 ++ u32 MAX_CAPTURED_LEN))

-- what stands before the packets: a file header, or a section header and the description of the interface
abbrev pub head_of : ℕ → List ℕ
head_of which = if which % 2 == 0 then header_text ethernet MAX_CAPTURED_LEN else spell (Section Little) ++ description

-- a packet: a packet record, or an enhanced packet (section 4.3)
abbrev pub packet_text : ℕ → Packet → List ℕ
packet_text which p = if which % 2 == 0 then record_text p.time p.orig p.body else spell (Enhanced p)

-- the text of source `which` of so many sources, which have so many packets together
unfoldable pub stream : ℕ → ℕ → ℕ → ℕ → List ℕ
stream start sources packets which = head_of which ++ flat_map (packet_text which) (packets_of start sources packets which)
