-- The facts of a file, read one block after another.
use Rattle.std.specs.Prelude.{ℕ, ◌+◌, ◌≡◌, ◌<◌, List, [], ◌∷◌, ◌++◌, slice_index, slice_set, Result, Ok, Err}
use Rattle.pcapng_grammar.specs.declared.blocks.FileBlock.{FileBlock}
use Rattle.pcapng_grammar.specs.declared.blocks.FileBlock.TheVariants as block
use Rattle.pcapng_grammar.specs.declared.facts.FileFacts.{FileFacts}
use Rattle.pcapng_grammar.specs.declared.fault.What.{What}
use Rattle.pcapng_grammar.specs.declared.fault.CheckFault.{CheckFault}
use Rattle.pcapng_grammar.specs.declared.fault.CheckFault.TheVariants as fault
use Rattle.pcapng_grammar.specs.Files.{facts_of}

-- the facts with one block more
abbrev pub facts_with : FileBlock → FileFacts → FileFacts
facts_with block.Section facts = facts
facts_with block.Description facts = record { packets = facts.packets ++ 0 ∷ []; counts = facts.counts }
facts_with (block.Packet number) facts = record { packets = slice_set facts.packets number (slice_index facts.packets number + 1); counts = facts.counts }
facts_with (block.Statistics number counts) facts = record { packets = facts.packets; counts = facts.counts ++ counts ∷ [] }

-- a packet's number is below that of the descriptions before it
abbrev pub IsDescribed : ℕ → FileBlock → Type 0
IsDescribed descriptions (block.Packet number) = number < descriptions
IsDescribed descriptions other = Unit {0}

-- what is read of a file, unless memory ran out
abbrev pub Reads : Result FileFacts CheckFault → Result (List FileBlock) (What × ℕ) → Type 0
Reads (Ok facts) reading = (blocks : List FileBlock) × (reading ≡ Ok blocks) × (facts ≡ facts_of blocks)
Reads (Err (fault.Bad w at)) reading = reading ≡ Err (w, at)
Reads (Err fault.NoMemory) reading = Unit {0}
