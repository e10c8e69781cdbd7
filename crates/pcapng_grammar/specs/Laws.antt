-- What holds of files and their first defects.
use Rattle.std.specs.Prelude.{ℕ, ◌^◌, ◌≡◌, ◌≤◌, ◌<◌, true, List, length, slice_index, None, Ok}
use Rattle.pcapng_grammar.specs.declared.blocks.FileBlock.{FileBlock}
use Rattle.pcapng_grammar.specs.Options.{AreSpelled, are_options}
use Rattle.pcapng_grammar.specs.Files.{IsFile, Grammatical, last_first}
use Rattle.pcapng_grammar.specs.Defects.{blocks_in, first_defect}

-- a file of at most 2^32 bytes has no defect, and what has none is a file
abbrev pub FilesHaveNone : Type 0
FilesHaveNone = (text : List ℕ) → length text ≤ 2 ^ 32 → Grammatical text → first_defect text ≡ None

abbrev pub NoneAreFiles : Type 0
NoneAreFiles = (text : List ℕ) → first_defect text ≡ None → Grammatical text × (length text ≤ 2 ^ 32)

-- the blocks of a file are those that are read, the last one first
abbrev pub FilesAreRead : Type 0
FilesAreRead = (text : List ℕ) (blocks : List FileBlock) → length text ≤ 2 ^ 32 → IsFile text blocks → blocks_in text ≡ Ok (last_first blocks)

abbrev pub ReadAreFiles : Type 0
ReadAreFiles = (text : List ℕ) (read : List FileBlock) → blocks_in text ≡ Ok read → (blocks : List FileBlock) × IsFile text blocks × (read ≡ last_first blocks)

-- the test of options finds exactly those that are spelled, in bytes
abbrev pub OptionsAreSpelled : Type 0
OptionsAreSpelled = (text : List ℕ) → ((k : ℕ) → slice_index text k < 2 ^ 8) → are_options text ≡ true → AreSpelled text

abbrev pub SpelledAreOptions : Type 0
SpelledAreOptions = (text : List ℕ) → AreSpelled text → are_options text ≡ true
