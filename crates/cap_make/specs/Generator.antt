-- The packets that the generator makes: a sequence of numbers, the packet with a number, and the packets of a source.
use Rattle.std.specs.Prelude.{ℕ, zero, suc, ◌+◌, ◌*◌, ◌/◌, ◌%◌, ◌^◌, ◌==◌, List, [], map}
use Rattle.std.specs.List.{filter, range_with_len}
use Rattle.cap_base.specs.declared.packet.Packet.{Packet}

-- the number behind another one: a linear congruential generator modulo 2^64
unfoldable pub after : ℕ → ℕ
after x = (x * 6364136223846793005 + 1442695040888963407) % 2 ^ 64

-- the numbers: the first is the start
unfoldable pub number_at : ℕ → ℕ → ℕ
number_at start zero = start
number_at start (suc k) = after (number_at start k)

-- the length that a number stands for: its bits 33 to 40
unfoldable pub length_by : ℕ → ℕ
length_by x = x / 2 ^ 33 % 256

-- byte j of packet k
abbrev pub byte_at : ℕ → ℕ → ℕ
byte_at k j = (k + j) % 256

-- the bytes of packet k
unfoldable pub body_of : ℕ → ℕ → List ℕ
body_of k len = map (byte_at k) (range_with_len 0 len)

-- the packet with a number and a length: it was captured whole, so many microseconds after 1970-01-01 00:00 UTC
unfoldable pub packet_with : ℕ → ℕ → Packet
packet_with k len = record { iface = 0; time = k; orig = len; body = body_of k len; notes = [] }

-- packet k, from 0: its length is that of the number k + 1
abbrev pub packet_at : ℕ → ℕ → Packet
packet_at start k = packet_with k (length_by (number_at start (suc k)))

-- the packets that a source has of the first so many: packet k belongs to source k modulo the count of the sources
unfoldable pub packets_of : ℕ → ℕ → ℕ → ℕ → List Packet
packets_of start sources packets which = map (packet_at start) (filter (λ (k : ℕ). k % sources == which) (range_with_len 0 packets))
