-- The blocks that are written are blocks of a file, and their texts are files.
use Rattle.std.proofs.Common.{◌≡◌, ℕ, pos, ◌+◌, ◌-◌, ◌*◌, ◌/◌, ◌%◌, ◌^◌, ◌<◌, ◌≤◌, true, false, ltb, List, [], ◌∷◌, ◌++◌, length, map, take, drop, replicate, Ok, refl, sym, ap, subst, ◌∙◌, arith, append_assoc, inl, inr}
use Rattle.std.specs.Prelude.{slice_range}
use Rattle.std.specs.Ordering.{int_eq}
use Rattle.std.specs.List.{All, flat_map}
use Rattle.std.specs.Int.{w16, w32, w64}
use Rattle.std.proofs.lemmas.Nat.{from_le_bytes-to_le_bytes_4, from_le_bytes-to_le_bytes_8, mod_below}
use Rattle.std.proofs.lemmas.Bool.{le-ltb}
use Rattle.std.proofs.lemmas.List.{length-replicate, take_at, drop_at}
use Rattle.std.proofs.lemmas.List.Elements.{All-head, All-tail}
use Rattle.cap_base.specs.Numbers.{number, field, padding}
use Rattle.cap_base.specs.Carried.{options_length, IsFitInterface, IsFitPacket}
use Rattle.cap_base.specs.declared.interface.Iface.{Iface}
use Rattle.cap_base.specs.declared.packet.Packet.{Packet}
use Rattle.cap_base.specs.declared.notes.Note.{Note}
use Rattle.cap_base.specs.declared.numbers.Order.{Order}
use Rattle.cap_base.specs.declared.numbers.Order.TheVariants.{Little}
use Rattle.pcapng_options.specs.Laws.{CanSpell}
use Rattle.pcapng_blocks.specs.declared.block.Block.{Block}
use Rattle.pcapng_blocks.specs.declared.block.Block.TheVariants as block
use Rattle.pcapng_blocks.specs.Reading.{bytes_between}
use Rattle.pcapng_blocks.specs.Spelling.{u16, u32, u64, padded_bytes, option, end_mark, options_text, timestamp, block_text, section_body, interface_options, interface_body, packet_body, statistics_counts, statistics_body, spell}
use Rattle.pcapng_blocks.specs.inner.Lengths.{offset_length}
use Rattle.pcapng_blocks.proofs.Lengths.{length-block_text, length-padded, interface_length, packet_length, statistics_length}
use Rattle.pcapng_blocks.proofs.ReadBack.{IsWords, padded_words, notes_words, options_words, words_mod, first_is, second_is, u32_skip, u32_here, field_skip, packet_text, behind_fields, packet_notes_spell, options_short}
use Rattle.pcapng_blocks.proofs.InterfaceBack.{interface_list, list_spells, options_are, interface_text, body_length, u16_skip, u16_here, kind_is, offset_words_by, offset_few_by}
use Rattle.pcapng_grammar.specs.declared.blocks.FileBlock.{FileBlock}
use Rattle.pcapng_grammar.specs.declared.blocks.FileBlock.TheVariants as files
use Rattle.pcapng_grammar.specs.Options.{are_zero, are_options}
use Rattle.pcapng_grammar.specs.Blocks.{block_by_type, IsFileBlock}
use Rattle.pcapng_grammar.specs.Files.{AreBlocks}
use Rattle.pcapng_grammar.specs.Written.{IsCounted, CanStand, file_block, EachMayFollow, SpelledAreBlocks, TextsAreFiles}
use Rattle.pcapng_grammar.proofs.Spelled.{spelled_are_options, are_zeros}

-- ---- the frame

-- a body with its type and its length at both ends is a block of a file where it is one by its type
framed_stands : (kind : ℕ) (body : List ℕ) (is : FileBlock) → IsWords (length body) → length body ≤ 16777204 → block_by_type (block_text kind body) ≡ Ok is → IsFileBlock (block_text kind body) is
framed_stands kind body is words most holds =
    let len : length (block_text kind body) ≡ length body + 12 = length-block_text kind body in
    record {
      least = omega arith;
      most = omega arith;
      words = words_mod (length (block_text kind body)) (words.0 + 3, omega (arith, len, words.1));
      first_length = first_is kind body (omega arith) ∙ sym len;
      second_length = second_is kind body (omega arith);
      holds = holds;
    }

-- ---- the four types

section_stands : IsFileBlock (spell (block.Section Little)) files.Section
unfolding spell block_text section_body u32 u16 block_by_type
section_stands = record {
  least = omega arith;
  most = omega arith;
  words = refl;
  first_length = refl;
  second_length = refl;
  holds = refl;
}

options_stand : (ns : List Note) → All CanSpell ns → are_options (options_text ns) ≡ true
options_stand [] each = spelled_are_options [] (record { options = []; each = each; is = inl refl })
options_stand (n ∷ ns) each = spelled_are_options (options_text (n ∷ ns)) (record { options = n ∷ ns; each = each; is = inr refl })

interface_content : (i : Iface) → IsFitInterface i → block_by_type (block_text 1 (interface_body i)) ≡ Ok files.Description
unfolding block_by_type
interface_content i can =
    let n = length (interface_body i) + 12 in
    let text = block_text 1 (interface_body i) in
    let is = interface_text i n refl in
    let total : length text ≡ length (interface_body i) + 12 = length-block_text 1 (interface_body i) in
    let long : ltb (length text) 20 ≡ false = le-ltb (length text) 20 (omega (arith, total, body_length i)) in
    let reserved : field Little w16 text 10 ≡ 0 = ap (λ (t : List ℕ). field Little w16 t 10) is ∙ ap (λ (b : List ℕ). number Little w16 (take 2 b)) (u32_skip 1 _ 6 ∙ u32_skip n _ 2 ∙ u16_skip i.link _ 0) ∙ u16_here 0 _ (omega arith) in
    let there : drop 16 text ≡ interface_options i ++ u32 n = ap (drop 16) is ∙ u32_skip 1 _ 12 ∙ u32_skip n _ 8 ∙ u16_skip i.link _ 6 ∙ u16_skip 0 _ 4 ∙ u32_skip i.snap _ 0 in
    let count : (length text - 4) - 16 ≡ length (interface_options i) = omega (arith, total, body_length i) in
    let between : bytes_between 16 text ≡ interface_options i = ap (λ (k : ℕ). take k (drop 16 text)) count ∙ ap (take (length (interface_options i))) there ∙ take_at (interface_options i) (u32 n) (length (interface_options i)) refl in
    let options : are_options (interface_options i) ≡ true = ap are_options (options_are i) ∙ options_stand (interface_list i) (list_spells i can) in
    rw (kind_is i, long, reserved, between, options) refl

packet_padding : (p : Packet) → slice_range (block_text 6 (packet_body p)) (28 + length p.body) (28 + (length p.body + padding (length p.body))) ≡ replicate (padding (length p.body)) 0
unfolding padded_bytes
packet_padding p =
    let n = length (packet_body p) + 12 in
    let text = block_text 6 (packet_body p) in
    let pad : List ℕ = replicate (padding (length p.body)) 0 in
    let tail : List ℕ = options_text p.notes ++ u32 n in
    let here : drop (28 + length p.body) text ≡ drop (length p.body) (padded_bytes p.body ++ tail) = ap (drop (28 + length p.body)) (packet_text p n refl) ∙ behind_fields 6 n p.iface _ _ (length p.body) p.orig (padded_bytes p.body ++ tail) (length p.body) in
    let there : drop (length p.body) ((p.body ++ pad) ++ tail) ≡ pad ++ tail = ap (drop (length p.body)) (append_assoc p.body pad tail) ∙ drop_at p.body (pad ++ tail) (length p.body) refl in
    let count : (28 + (length p.body + padding (length p.body))) - (28 + length p.body) ≡ padding (length p.body) = omega arith in
    ap (λ (k : ℕ). take k (drop (28 + length p.body) text)) count ∙ ap (take (padding (length p.body))) (here ∙ there) ∙ take_at pad tail (padding (length p.body)) (length-replicate (padding (length p.body)) 0)

interface_stands : (i : Iface) → IsFitInterface i → IsFileBlock (block_text 1 (interface_body i)) files.Description
interface_stands i fit =
    let name = padded_words (length i.name) in
    let offset = offset_words_by (int_eq i.offset (pos 0)) in
    let notes = notes_words i.notes in
    let len = interface_length i in
    let name_few : length i.name ≤ 65535 = fit.name in
    let pad_lt : padding (length i.name) < 4 = mod_below (4 - length i.name % 4) 4 (omega arith) in
    let offset_few : offset_length i.offset ≤ 12 = offset_few_by (int_eq i.offset (pos 0)) in
    let notes_few : options_length i.notes ≤ 65536 = fit.notes.few in
    let offset_is : offset_length i.offset ≡ 4 * offset.0 = offset.1 in
    framed_stands 1 (interface_body i) files.Description (6 + name.0 + offset.0 + notes.0, omega (arith, len, name.1, offset_is, notes.1)) (omega (arith, len)) (interface_content i fit)

-- the fields of a packet that a file's grammar sees
record SeenFields (p : Packet) (text : List ℕ) : Type 0 where
  len : length text ≡ 32 + (length p.body + padding (length p.body)) + length (options_text p.notes)
  kind : field Little w32 text 0 ≡ 6
  iface : field Little w32 text 8 ≡ p.iface
  captured_is : field Little w32 text 20 ≡ length p.body
  options : bytes_between (28 + (length p.body + padding (length p.body))) text ≡ options_text p.notes

seen_fields : (p : Packet) → p.iface < 2 ^ 16 → IsFitPacket p → SeenFields p (block_text 6 (packet_body p))
seen_fields p small fit =
    let n = length (packet_body p) + 12 in
    let text = block_text 6 (packet_body p) in
    let body_len : length p.body ≤ 262144 = fit.body in
    let padded = padding (length p.body) in
    let tail : List ℕ = options_text p.notes ++ u32 n in
    let is = packet_text p n refl in
    let body_length : length (packet_body p) ≡ 20 + (length p.body + padded) + length (options_text p.notes) = packet_length p in
    let len : length text ≡ 32 + (length p.body + padded) + length (options_text p.notes) = length-block_text 6 (packet_body p) ∙ omega (arith, body_length) in
    record {
      len = len;
      kind = ap (λ (t : List ℕ). field Little w32 t 0) is ∙ u32_here 6 _ (omega arith);
      iface = ap (λ (t : List ℕ). field Little w32 t 8) is ∙ field_skip 6 _ 4 ∙ field_skip n _ 0 ∙ u32_here p.iface _ (omega arith);
      captured_is = ap (λ (t : List ℕ). field Little w32 t 20) is ∙ field_skip 6 _ 16 ∙ field_skip n _ 12 ∙ field_skip p.iface _ 8 ∙ field_skip (p.time / 2 ^ 32) _ 4 ∙ field_skip (p.time % 2 ^ 32) _ 0 ∙ u32_here (length p.body) _ (omega arith);
      options =
          let there : drop (28 + (length p.body + padded)) text ≡ tail = ap (drop (28 + (length p.body + padded))) is ∙ behind_fields 6 n p.iface (p.time / 2 ^ 32) (p.time % 2 ^ 32) (length p.body) p.orig (padded_bytes p.body ++ tail) (length p.body + padded) ∙ drop_at (padded_bytes p.body) tail (length p.body + padded) (length-padded p.body) in
          let count : (length text - 4) - (28 + (length p.body + padded)) ≡ length (options_text p.notes) = omega (arith, len) in
          ap (λ (k : ℕ). take k (drop (28 + (length p.body + padded)) text)) count ∙ ap (take (length (options_text p.notes))) there ∙ take_at (options_text p.notes) (u32 n) (length (options_text p.notes)) refl;
    }

packet_content : (p : Packet) → IsFitPacket p → SeenFields p (block_text 6 (packet_body p)) → block_by_type (block_text 6 (packet_body p)) ≡ Ok (files.Packet p.iface)
unfolding block_by_type
packet_content p fit f =
    let text = block_text 6 (packet_body p) in
    let body_len : length p.body ≤ 262144 = fit.body in
    let len : length text ≡ 32 + (length p.body + padding (length p.body)) + length (options_text p.notes) = f.len in
    let least : ltb (length text) 32 ≡ false = le-ltb (length text) 32 (omega arith) in
    let small : ltb 262144 (length p.body) ≡ false = le-ltb 262144 (length p.body) body_len in
    let long : ltb (length text) (32 + (length p.body + padding (length p.body))) ≡ false = le-ltb (length text) (32 + (length p.body + padding (length p.body))) (omega arith) in
    let zeros : are_zero (slice_range text (28 + length p.body) (28 + (length p.body + padding (length p.body)))) ≡ true = ap are_zero (packet_padding p) ∙ are_zeros (padding (length p.body)) in
    let options : are_options (options_text p.notes) ≡ true = options_stand p.notes (packet_notes_spell p.notes fit.notes.each fit.notes.few) in
    rw (f.kind, f.captured_is, f.iface, least, small, long, zeros, f.options, options) refl

packet_stands : (p : Packet) → p.iface < 2 ^ 16 → IsFitPacket p → IsFileBlock (block_text 6 (packet_body p)) (files.Packet p.iface)
packet_stands p lt fit =
    let words = padded_words (length p.body) in
    let options = options_words p.notes in
    let body_len : length p.body ≤ 262144 = fit.body in
    let few : options_length p.notes ≤ 65536 = fit.notes.few in
    let len : length (packet_body p) ≡ 20 + (length p.body + padding (length p.body)) + length (options_text p.notes) = packet_length p in
    let short : length (options_text p.notes) ≤ 65540 = options_short p.notes few in
    let pad_lt : padding (length p.body) < 4 = mod_below (4 - length p.body % 4) 4 (omega arith) in
    framed_stands 6 (packet_body p) (files.Packet p.iface) (5 + words.0 + options.0, omega (arith, len, words.1, options.1)) (omega arith) (packet_content p fit (seen_fields p lt fit))

-- the fields of statistics
record StatisticsFields (number recv lost delivered : ℕ) (text : List ℕ) : Type 0 where
  len : length text ≡ 64
  kind : field Little w32 text 0 ≡ 5
  number_is : field Little w32 text 8 ≡ number
  recv_option : field Little w32 text 20 ≡ 0x00080004
  recv_is : field Little w64 text 24 ≡ recv
  drop_option : field Little w32 text 32 ≡ 0x00080005
  drop_is : field Little w64 text 36 ≡ lost
  delivered_option : field Little w32 text 44 ≡ 0x00080008
  delivered_is : field Little w64 text 48 ≡ delivered
  mark : field Little w32 text 56 ≡ 0

statistics_fields : (number time recv lost delivered : ℕ) → IsCounted number recv lost delivered → StatisticsFields number recv lost delivered (block_text 5 (statistics_body number time recv lost delivered))
unfolding block_text statistics_body statistics_counts timestamp option padded_bytes end_mark u16 u32 u64
statistics_fields number time recv lost delivered can =
    let small : number < 2 ^ 16 = can.number_fits in
    record {
      len = refl;
      kind = refl;
      number_is = from_le_bytes-to_le_bytes_4 number (omega arith);
      recv_option = refl;
      recv_is = from_le_bytes-to_le_bytes_8 recv can.recv_fits;
      drop_option = refl;
      drop_is = from_le_bytes-to_le_bytes_8 lost can.drop_fits;
      delivered_option = refl;
      delivered_is = from_le_bytes-to_le_bytes_8 delivered can.delivered_fits;
      mark = refl;
    }

statistics_content : (number recv lost delivered : ℕ) (text : List ℕ) → StatisticsFields number recv lost delivered text
    → block_by_type text ≡ Ok (files.Statistics number (record { recv = recv; drop = lost; delivered = delivered }))
unfolding block_by_type
statistics_content number recv lost delivered text f =
    rw (f.kind, f.len, f.recv_option, f.drop_option, f.delivered_option, f.mark, f.number_is, f.recv_is, f.drop_is, f.delivered_is) refl

-- ---- the blocks

spelled_by : (b : Block) → CanStand b → IsFileBlock (spell b) (file_block b)
unfolding spell
spelled_by (block.Section order) can = subst (λ (o : Order). IsFileBlock (spell (block.Section o)) files.Section) (sym can) section_stands
spelled_by (block.Interface i) can = interface_stands i can
spelled_by (block.Enhanced p) can = packet_stands p can.0 can.1
spelled_by (block.Statistics number time recv lost delivered) can =
    let body = statistics_body number time recv lost delivered in
    let len : length body ≡ 52 = statistics_length number time recv lost delivered in
    framed_stands 5 body (file_block (block.Statistics number time recv lost delivered)) (13, len) (omega arith) (statistics_content number recv lost delivered (block_text 5 body) (statistics_fields number time recv lost delivered can))
spelled_by (block.Simple orig body) can = absurd can
spelled_by (block.Obsolete p) can = absurd can
spelled_by (block.Other kind body) can = absurd can

pub spelled_are_blocks : SpelledAreBlocks
spelled_are_blocks = spelled_by

-- ---- their text

texts_by : (before : List FileBlock) (blocks : List Block) → All CanStand blocks → EachMayFollow before (map file_block blocks) → AreBlocks before (flat_map spell blocks) (map file_block blocks)
texts_by before [] each valid = refl
texts_by before (b ∷ blocks) each valid =
    (spell b, flat_map spell blocks, refl, spelled_by b (All-head CanStand b blocks each), valid.0, texts_by (file_block b ∷ before) blocks (All-tail CanStand b blocks each) valid.1)

mapped : (blocks : List Block) → 0 < length blocks → 0 < length (map file_block blocks)
mapped [] some = some
mapped (b ∷ blocks) some = omega arith

pub texts_are_files : TextsAreFiles
texts_are_files blocks are = record { some = mapped blocks are.some; each = texts_by [] blocks are.each are.order; all = are.all }
