-- A number of a statistics block is spelled by its lowest eight bytes.
use Rattle.std.proofs.Common.{◌≡◌, ℕ, zero, suc, ◌<◌, ◌/◌, ◌^◌, get_or, List, [], ◌∷◌, ◌++◌, map, refl, ap, ◌∙◌, arith}
use Rattle.std.specs.Int.{w64, byte_at, bytes_low_first, from_le_bytes}
use Rattle.std.specs.List.{flat_map}
use Rattle.std.proofs.lemmas.Nat.{le_bytes_8, mod_below}
use Rattle.cap_base.specs.declared.packet.Packet.{Packet}
use Rattle.pcapng_blocks.specs.declared.block.Block.{Block}
use Rattle.pcapng_blocks.specs.declared.block.Block.TheVariants as block
use Rattle.pcapng_blocks.specs.Codes.{interface_statistics_block, isb_ifrecv, isb_ifdrop, isb_usrdeliv}
use Rattle.pcapng_blocks.specs.Spelling.{spell, block_text, timestamp, option, u32, u64, end_mark, statistics_counts, statistics_body}
use Rattle.capture_desk.specs.declared.acts.Act.TheVariants.{Put}
use Rattle.capture_desk.specs.Doing.{packet_of}
use Rattle.capture_desk.specs.Files.{text}
use Rattle.capture_core.specs.Made.{BeginFile, block_packets}

-- the number that the lowest eight bytes spell
abbrev pub lowest : ℕ → ℕ
lowest n = from_le_bytes w64 (bytes_low_first 0 8 n)

one_byte : (i n : ℕ) → byte_at i n < 256
one_byte zero n = mod_below n 256 (omega arith)
one_byte (suc i) n = mod_below (n / 256 ^ suc i) 256 (omega arith)

each_byte : (i k n at : ℕ) → get_or (bytes_low_first i k n) at 0 < 256
each_byte i zero n at = omega arith
each_byte i (suc k) n zero = one_byte i n
each_byte i (suc k) n (suc at) = each_byte (suc i) k n at

same_text : (n : ℕ) → u64 (lowest n) ≡ u64 n
unfolding u64
same_text n = le_bytes_8 (bytes_low_first 0 8 n) (lowest n) refl (λ at. each_byte 0 8 n at) refl

pub lowest_fits : (n : ℕ) → lowest n < 2 ^ 64
lowest_fits n = let a = one_byte 0 n in let b = one_byte 1 n in let c = one_byte 2 n in let d = one_byte 3 n in let e = one_byte 4 n in let f = one_byte 5 n in let g = one_byte 6 n in let h = one_byte 7 n in omega arith

-- a block with such numbers
abbrev pub fitted : Block → Block
fitted (block.Statistics number time recv drop delivered) = block.Statistics number time (lowest recv) (lowest drop) (lowest delivered)
fitted (block.Section order) = block.Section order
fitted (block.Interface i) = block.Interface i
fitted (block.Enhanced p) = block.Enhanced p
fitted (block.Simple orig body) = block.Simple orig body
fitted (block.Obsolete p) = block.Obsolete p
fitted (block.Other kind body) = block.Other kind body

-- the body of statistics with these texts of its numbers
abbrev body_with : ℕ → ℕ → List ℕ → List ℕ → List ℕ → List ℕ
body_with number time a b c = u32 number ++ (timestamp time ++ (option isb_ifrecv a ++ (option isb_ifdrop b ++ (option isb_usrdeliv c ++ end_mark))))

statistics_same : (number time recv lost delivered : ℕ) → statistics_body number time (lowest recv) (lowest lost) (lowest delivered) ≡ statistics_body number time recv lost delivered
unfolding statistics_body statistics_counts
statistics_same number time recv lost delivered = ap (λ (z : List ℕ). body_with number time z (u64 (lowest lost)) (u64 (lowest delivered))) (same_text recv)
    ∙ ap (λ (z : List ℕ). body_with number time (u64 recv) z (u64 (lowest delivered))) (same_text lost) ∙ ap (λ (z : List ℕ). body_with number time (u64 recv) (u64 lost) z) (same_text delivered)

spell_fitted : (b : Block) → spell (fitted b) ≡ spell b
unfolding spell
spell_fitted (block.Statistics number time recv lost delivered) = ap (block_text interface_statistics_block) (statistics_same number time recv lost delivered)
spell_fitted (block.Section order) = refl
spell_fitted (block.Interface i) = refl
spell_fitted (block.Enhanced p) = refl
spell_fitted (block.Simple orig body) = refl
spell_fitted (block.Obsolete p) = refl
spell_fitted (block.Other kind body) = refl

pub text_fitted : (bs : List Block) → text (map fitted bs) ≡ text bs
unfolding text
text_fitted [] = refl
text_fitted (b ∷ bs) = ap (λ (z : List ℕ). z ++ flat_map spell (map fitted bs)) (spell_fitted b) ∙ ap (λ (z : List ℕ). spell b ++ z) (text_fitted bs)

one_packet : (b : Block) → packet_of (Put (fitted b)) ≡ packet_of (Put b)
one_packet (block.Statistics number time recv drop delivered) = refl
one_packet (block.Section order) = refl
one_packet (block.Interface i) = refl
one_packet (block.Enhanced p) = refl
one_packet (block.Simple orig body) = refl
one_packet (block.Obsolete p) = refl
one_packet (block.Other kind body) = refl

pub packets_fitted : (bs : List Block) → block_packets (map fitted bs) ≡ block_packets bs
packets_fitted [] = refl
packets_fitted (b ∷ bs) = ap (λ (z : List Packet). z ++ block_packets (map fitted bs)) (one_packet b) ∙ ap (λ (z : List Packet). packet_of (Put b) ++ z) (packets_fitted bs)

-- the blocks begin a file, as they are spelled
abbrev pub MayBegin : List Block → Type 0
MayBegin bs = BeginFile (map fitted bs)
