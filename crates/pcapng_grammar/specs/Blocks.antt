-- A block of an output file (draft-ietf-opsawg-pcapng, sections 3.1 and 4): little-endian, of one of four types, with zeros in
-- reserved fields and padding.
use Rattle.std.specs.Prelude.{ℕ, ◌+◌, ◌-◌, ◌%◌, ◌^◌, ◌≡◌, ◌≤◌, ◌==◌, ◌&&◌, Bool, true, false, List, length, take, slice_range, nat_lt, Result, Ok, Err, if◌then◌else◌}
use Rattle.std.specs.Int.{w16, w32, w64}
use Rattle.cap_base.specs.Numbers.{field}
use Rattle.cap_base.specs.declared.endings.Code.TheVariants as code
use Rattle.cap_base.specs.declared.numbers.Order.TheVariants.{Little}
use Rattle.pcapng_blocks.specs.declared.frame.Frame.{Frame}
use Rattle.pcapng_blocks.specs.declared.frame.Frame.TheVariants as frames
use Rattle.pcapng_blocks.specs.Frames.{is_section_header, framed}
use Rattle.pcapng_blocks.specs.Reading.{bytes_between, captured, padded_captured}
use Rattle.pcapng_grammar.specs.declared.blocks.FileBlock.{FileBlock}
use Rattle.pcapng_grammar.specs.declared.blocks.FileBlock.TheVariants as block
use Rattle.pcapng_grammar.specs.declared.facts.Counted.{Counted}
use Rattle.pcapng_grammar.specs.declared.fault.What.{What}
use Rattle.pcapng_grammar.specs.declared.fault.What.TheVariants as what
use Rattle.pcapng_grammar.specs.Options.{are_zero, are_options}

-- ---- the body of each type; the bytes are those of the whole block

-- A section header (section 4.1): byte-order magic, version 1.0, a section length that isn't given, and no options.
abbrev pub is_section_header_block : List ℕ → Bool
is_section_header_block text =
    (length text == 28) && (field Little w32 text 8 == 0x1A2B3C4D) && (field Little w16 text 12 == 1)
    && (field Little w16 text 14 == 0) && (field Little w64 text 16 == 2 ^ 64 - 1)

-- An interface description (section 4.2): the reserved field is zero, and options follow 16 bytes.
abbrev pub is_interface_description : List ℕ → Bool
is_interface_description text = if nat_lt (length text) 20 then false else (field Little w16 text 10 == 0) && are_options (bytes_between 16 text)

-- An enhanced packet (section 4.3): at most 262,144 bytes of data follow 28 bytes, zeros to a multiple of 4, and options.
abbrev pub is_enhanced_packet : List ℕ → Bool
is_enhanced_packet text =
    if nat_lt (length text) 32 then false else
    if nat_lt 262144 (captured Little text) then false else
    if nat_lt (length text) (32 + padded_captured Little text) then false else
    are_zero (slice_range text (28 + captured Little text) (28 + padded_captured Little text)) && are_options (bytes_between (28 + padded_captured Little text) text)

-- Interface statistics (section 4.6): isb_ifrecv, isb_ifdrop and isb_usrdeliv (codes 4, 5 and 8), of eight bytes each, and
-- opt_endofopt.
abbrev pub is_interface_statistics : List ℕ → Bool
is_interface_statistics text =
    (length text == 64) && (field Little w32 text 20 == 0x00080004) && (field Little w32 text 32 == 0x00080005)
    && (field Little w32 text 44 == 0x00080008) && (field Little w32 text 56 == 0)

-- the values of these three
abbrev pub counted_in : List ℕ → Counted
counted_in text = record { recv = field Little w64 text 24; drop = field Little w64 text 36; delivered = field Little w64 text 48 }

-- a block whose body is valid
abbrev pub if_valid : Bool → FileBlock → Result FileBlock What
if_valid true b = Ok b
if_valid false b = Err what.Body

-- the block of which these are all bytes, by its type
unfoldable pub block_by_type : List ℕ → Result FileBlock What
block_by_type text =
    if field Little w32 text 0 == 0x0A0D0D0A then if_valid (is_section_header_block text) block.Section else
    if field Little w32 text 0 == 1 then if_valid (is_interface_description text) block.Description else
    if field Little w32 text 0 == 6 then if_valid (is_enhanced_packet text) (block.Packet (field Little w32 text 8)) else
    if field Little w32 text 0 == 5 then if_valid (is_interface_statistics text) (block.Statistics (field Little w32 text 8) (counted_in text)) else
    Err what.Kind

-- ---- the relation

-- The bytes are one whole block of an output file: both lengths are theirs, and the body is valid for the type.
pub record IsFileBlock (text : List ℕ) (b : FileBlock) : Type 0 where
  pub least : 12 ≤ length text
  pub most : length text ≤ 16777216
  pub words : length text % 4 ≡ 0
  pub first_length : field Little w32 text 4 ≡ length text
  pub second_length : field Little w32 text (length text - 4) ≡ length text
  pub holds : block_by_type text ≡ Ok b

-- ---- the first defect of a block at a place

abbrev pub with_length : ℕ → Result FileBlock What → Result (FileBlock × ℕ) What
with_length len (Ok b) = Ok (b, len)
with_length len (Err w) = Err w

-- what is wrong with the frame, or else the block that the type and the body say, with its length
abbrev pub by_frame : Frame → List ℕ → Result (FileBlock × ℕ) What
by_frame frames.Short text = Err what.Short
by_frame (frames.Wrong code.Trailer) text = Err what.Trailer
by_frame (frames.Wrong other) text = Err what.Length
by_frame (frames.Whole order len) text = with_length len (block_by_type (take len text))

-- The block that bytes begin with, and its length, where they stand at a place of the file. The steps decide in this order.
unfoldable pub block_at : ℕ → List ℕ → Result (FileBlock × ℕ) What
block_at at text =
    if nat_lt (length text) 12 then Err what.Short else
    if at == 0 then
    if is_section_header text then
    if field Little w32 text 8 == 0x1A2B3C4D then by_frame (framed Little text) text else Err what.Order
    else Err what.NoSection
    else
    if is_section_header text then Err what.SecondSection else by_frame (framed Little text) text
