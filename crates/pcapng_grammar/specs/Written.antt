-- The blocks that the output is made of, as blocks of a file.
use Rattle.std.specs.Prelude.{ℕ, ◌≡◌, ◌<◌, ◌^◌, List, [], ◌∷◌, length, map, All}
use Rattle.std.specs.List.{flat_map}
use Rattle.cap_base.specs.Carried.{IsFitInterface, IsFitPacket}
use Rattle.cap_base.specs.declared.numbers.Order.TheVariants.{Little}
use Rattle.pcapng_blocks.specs.declared.block.Block.{Block}
use Rattle.pcapng_blocks.specs.declared.block.Block.TheVariants as block
use Rattle.pcapng_blocks.specs.Spelling.{spell}
use Rattle.pcapng_grammar.specs.declared.blocks.FileBlock.{FileBlock}
use Rattle.pcapng_grammar.specs.declared.blocks.FileBlock.TheVariants as files
use Rattle.pcapng_grammar.specs.Blocks.{IsFileBlock}
use Rattle.pcapng_grammar.specs.Files.{description_count, statistics_count, MayFollow, last_first, IsFile}

-- the fields of statistics lie in their types' ranges
pub record IsCounted (number recv drop delivered : ℕ) : Type 0 where
  pub number_fits : number < 2 ^ 16
  pub recv_fits : recv < 2 ^ 64
  pub drop_fits : drop < 2 ^ 64
  pub delivered_fits : delivered < 2 ^ 64

-- what may stand in a file: a number is spelled by its lowest bytes, so that few of the fields matter
abbrev pub CanStand : Block → Type 0
CanStand (block.Section order) = order ≡ Little
CanStand (block.Interface i) = IsFitInterface i
CanStand (block.Enhanced p) = (p.iface < 2 ^ 16) × IsFitPacket p
CanStand (block.Statistics number time recv drop delivered) = IsCounted number recv drop delivered
CanStand other = ⊥

-- A block as one of a file. Blocks of the last three types aren't written, and never stand in a file.
abbrev pub file_block : Block → FileBlock
file_block (block.Section order) = files.Section
file_block (block.Interface i) = files.Description
file_block (block.Enhanced p) = files.Packet p.iface
file_block (block.Statistics number time recv drop delivered) = files.Statistics number (record { recv = recv; drop = drop; delivered = delivered })
file_block (block.Simple orig body) = files.Section
file_block (block.Obsolete p) = files.Section
file_block (block.Other kind body) = files.Section

-- each may follow those before it
abbrev pub EachMayFollow : List FileBlock → List FileBlock → Type 0
EachMayFollow before [] = Unit {0}
EachMayFollow before (b ∷ blocks) = MayFollow before b × EachMayFollow (b ∷ before) blocks

-- blocks of which a file can be made
pub record AreOfFile (blocks : List Block) : Type 0 where
  pub some : 0 < length blocks
  pub each : All CanStand blocks
  pub order : EachMayFollow [] (map file_block blocks)
  pub all : statistics_count (last_first (map file_block blocks)) ≡ description_count (last_first (map file_block blocks))

-- a spelled block is a block of a file
abbrev pub SpelledAreBlocks : Type 0
SpelledAreBlocks = (b : Block) → CanStand b → IsFileBlock (spell b) (file_block b)

-- and the spellings of such blocks, one after another, are a file
abbrev pub TextsAreFiles : Type 0
TextsAreFiles = (blocks : List Block) → AreOfFile blocks → IsFile (flat_map spell blocks) (map file_block blocks)
