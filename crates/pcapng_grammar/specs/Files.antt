-- An output file as a relation on its bytes: blocks one after another, each of which may follow those before it.
use Rattle.std.specs.Prelude.{ℕ, ◌+◌, ◌≡◌, ◌<◌, List, [], ◌∷◌, ◌++◌, length, slice_index, slice_set}
use Rattle.pcapng_grammar.specs.declared.blocks.FileBlock.{FileBlock}
use Rattle.pcapng_grammar.specs.declared.blocks.FileBlock.TheVariants.{Section, Description, Packet, Statistics}
use Rattle.pcapng_grammar.specs.declared.facts.Counted.{Counted}
use Rattle.pcapng_grammar.specs.declared.facts.FileFacts.{FileFacts}
use Rattle.pcapng_grammar.specs.Blocks.{IsFileBlock}

-- ---- what the blocks before a place say, the nearest first

-- how many of them are interface descriptions
abbrev pub description_count : List FileBlock → ℕ
description_count [] = 0
description_count (Description ∷ before) = description_count before + 1
description_count (other ∷ before) = description_count before

-- how many of them are interface statistics
abbrev pub statistics_count : List FileBlock → ℕ
statistics_count [] = 0
statistics_count (Statistics number counts ∷ before) = statistics_count before + 1
statistics_count (other ∷ before) = statistics_count before

-- how many packets each interface has, by its number
abbrev pub packets_of : List FileBlock → List ℕ
packets_of [] = []
packets_of (Description ∷ before) = packets_of before ++ 0 ∷ []
packets_of (Packet number ∷ before) = slice_set (packets_of before) number (slice_index (packets_of before) number + 1)
packets_of (other ∷ before) = packets_of before

-- the counts of each interface, by its number
abbrev pub counts_of : List FileBlock → List Counted
counts_of [] = []
counts_of (Statistics number counts ∷ before) = counts_of before ++ counts ∷ []
counts_of (other ∷ before) = counts_of before

-- both
abbrev pub facts_of : List FileBlock → FileFacts
facts_of blocks = record { packets = packets_of blocks; counts = counts_of blocks }

-- ---- the file

-- A section header stands first, and nowhere else. There are at most 256 descriptions. A number is that of an interface
-- described before, where the first description has number 0. After a statistics block come statistics blocks alone, in
-- the order of their numbers.
abbrev pub MayFollow : List FileBlock → FileBlock → Type 0
MayFollow before Section = before ≡ []
MayFollow before Description = (0 < length before) × (description_count before < 256) × (statistics_count before ≡ 0)
MayFollow before (Packet number) = (0 < length before) × (number < description_count before) × (statistics_count before ≡ 0)
MayFollow before (Statistics number counts) = (0 < length before) × (number < description_count before) × (number ≡ statistics_count before)

-- The bytes are these blocks, one after another, each of which may follow those before it, and nothing else.
abbrev pub AreBlocks : List FileBlock → List ℕ → List FileBlock → Type 0
AreBlocks before text [] = text ≡ []
AreBlocks before text (block ∷ blocks) =
    (first : List ℕ) × (others : List ℕ) × (text ≡ first ++ others) × IsFileBlock first block × MayFollow before block × AreBlocks (block ∷ before) others blocks

-- blocks that follow others, the last one first
abbrev pub reversed_onto : List FileBlock → List FileBlock → List FileBlock
reversed_onto before [] = before
reversed_onto before (block ∷ blocks) = reversed_onto (block ∷ before) blocks

-- all blocks of a file, the last one first
abbrev pub last_first : List FileBlock → List FileBlock
last_first blocks = reversed_onto [] blocks

-- The bytes are these blocks, at least one, and there are as many statistics blocks as descriptions.
pub record IsFile (text : List ℕ) (blocks : List FileBlock) : Type 0 where
  pub some : 0 < length blocks
  pub each : AreBlocks [] text blocks
  pub all : statistics_count (last_first blocks) ≡ description_count (last_first blocks)

-- A grammatical file: some blocks are those of the bytes. It may have any length.
pub record Grammatical (text : List ℕ) : Type 0 where
  pub blocks : List FileBlock
  pub file : IsFile text blocks

-- the facts are those of its blocks
pub record HasFacts (text : List ℕ) (facts : FileFacts) : Type 0 where
  pub blocks : List FileBlock
  pub file : IsFile text blocks
  pub are : facts ≡ facts_of (last_first blocks)
