-- How many bytes a spelling has.
use Rattle.std.proofs.Common.{◌≡◌, ℕ, ◌+◌, List, length, refl, arith}
use Rattle.std.proofs.lemmas.List.{length-append, length-replicate}
use Rattle.cap_base.specs.Numbers.{padding}
use Rattle.pcapng_options.specs.Spelling.{u16, u32, u64, padded_bytes, option, end_mark}

pub length-u16 : (n : ℕ) → length (u16 n) ≡ 2
unfolding u16
length-u16 n = refl

pub length-u32 : (n : ℕ) → length (u32 n) ≡ 4
unfolding u32
length-u32 n = refl

pub length-u64 : (n : ℕ) → length (u64 n) ≡ 8
unfolding u64
length-u64 n = refl

pub length-padded : (bytes : List ℕ) → length (padded_bytes bytes) ≡ length bytes + padding (length bytes)
unfolding padded_bytes
length-padded bytes = rw (length-append, length-replicate) refl

pub length-option : (code : ℕ) (body : List ℕ) → length (option code body) ≡ 4 + (length body + padding (length body))
unfolding option
length-option code body = simp (length-append, length-u16, length-padded) (omega arith)

pub length-end : length end_mark ≡ 4
unfolding end_mark
length-end = length-u32 0
