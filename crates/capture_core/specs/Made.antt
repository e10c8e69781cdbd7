-- The files that an outlet made, and the packets in them.
use Rattle.std.specs.Prelude.{◌≡◌, ◌⊎◌, ℕ, ◌<◌, List, [], ◌∷◌, ◌++◌, length, map}
use Rattle.std.specs.List.{All, flat_map}
use Rattle.cap_base.specs.Effects.{Effect, created, byte}
use Rattle.cap_base.specs.declared.packet.Packet.{Packet}
use Rattle.pcapng_blocks.specs.declared.block.Block.{Block}
use Rattle.pcapng_blocks.specs.Spelling.{spell}
use Rattle.pcapng_grammar.specs.Written.{CanStand, EachMayFollow, file_block}
use Rattle.capture_desk.specs.Doing.{puts, packets_put}
use Rattle.capture_desk.specs.Files.{text}

-- a file's name, and the bytes that were put into it
pub record MadeFile : Type 0 where
  pub name : List ℕ
  pub bytes : List ℕ

-- the bytes that are put before another file is created
abbrev pub bytes_put : List Effect → List ℕ
bytes_put [] = []
bytes_put (created name ∷ more) = []
bytes_put (byte b ∷ more) = b ∷ bytes_put more
bytes_put (other ∷ more) = bytes_put more

-- the files that were created, in order; also those that were removed later
abbrev pub files_made : List Effect → List MadeFile
files_made [] = []
files_made (created name ∷ more) = record { name = name; bytes = bytes_put more } ∷ files_made more
files_made (other ∷ more) = files_made more

-- ---- the blocks of a file

-- The blocks of a file, or the first ones of them: each can stand in a file, and may follow those before it.
pub record BeginFile (bs : List Block) : Type 0 where
  pub each : All CanStand bs
  pub order : EachMayFollow [] (map file_block bs)

-- no byte, or the first ones of a block without its end
abbrev pub IsTorn : List ℕ → Type 0
IsTorn part = (part ≡ []) ⊎ ((b : Block) × (left : List ℕ) × (spell b ≡ part ++ left) × (0 < length left))

-- The file is the text of these blocks, which begin a file, and behind them less than a whole block.
pub record HasBlocks (bs : List Block) (file : MadeFile) : Type 0 where
  pub are : BeginFile bs
  pub part : List ℕ
  pub is : file.bytes ≡ text bs ++ part
  pub torn : IsTorn part

-- each file has its blocks, in order
abbrev pub EachHasBlocks : List (List Block) → List MadeFile → Type 0
EachHasBlocks [] [] = Unit {0}
EachHasBlocks (bs ∷ rest) (file ∷ files) = HasBlocks bs file × EachHasBlocks rest files
EachHasBlocks other files = ⊥

-- the packets of blocks
abbrev pub block_packets : List Block → List Packet
block_packets bs = packets_put (puts bs)

-- The whole packet blocks of all files, in order, have exactly these packets.
pub record FilesHold (done : List Effect) (ps : List Packet) : Type 0 where
  pub blocks : List (List Block)
  pub each : EachHasBlocks blocks (files_made done)
  pub packets : flat_map block_packets blocks ≡ ps
