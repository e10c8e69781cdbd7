-- The constants of the format.
use Rattle.std.specs.Prelude.{ℕ, ◌^◌}

-- the type bytes: `F`, `P`, `D` and `E`
abbrev pub file_type : ℕ
file_type = 70

abbrev pub packets_type : ℕ
packets_type = 80

abbrev pub drops_type : ℕ
drops_type = 68

abbrev pub error_type : ℕ
error_type = 69

-- the bytes of a body
abbrev pub most_body : ℕ
most_body = 65536

-- packets of one `P` message, and the digits of their count
abbrev pub most_packets : ℕ
most_packets = 1000000000000

abbrev pub packets_digits : ℕ
packets_digits = 13

-- dropped packets of one `D` message, and the digits of their count
abbrev pub most_drops : ℕ
most_drops = 2 ^ 62

abbrev pub drops_digits : ℕ
drops_digits = 19

-- `0` and `9`
abbrev pub first_digit : ℕ
first_digit = 48

abbrev pub last_digit : ℕ
last_digit = 57

-- `:`
abbrev pub colon : ℕ
colon = 58
