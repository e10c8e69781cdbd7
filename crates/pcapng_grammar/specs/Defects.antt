-- The first defect of bytes that aren't an output file, and its place.
use Rattle.std.specs.Prelude.{ℕ, zero, suc, ◌+◌, ◌^◌, ◌≡◌, ◌==◌, ◌&&◌, List, [], ◌∷◌, length, drop, nat_lt, Option, Some, None, Result, Ok, Err, if◌then◌else◌}
use Rattle.pcapng_grammar.specs.declared.blocks.FileBlock.{FileBlock}
use Rattle.pcapng_grammar.specs.declared.blocks.FileBlock.TheVariants as block
use Rattle.pcapng_grammar.specs.declared.facts.FileFacts.{FileFacts}
use Rattle.pcapng_grammar.specs.declared.fault.What.{What}
use Rattle.pcapng_grammar.specs.declared.fault.What.TheVariants as what
use Rattle.pcapng_grammar.specs.declared.fault.CheckFault.{CheckFault}
use Rattle.pcapng_grammar.specs.declared.fault.CheckFault.TheVariants as fault
use Rattle.pcapng_grammar.specs.Blocks.{block_at}
use Rattle.pcapng_grammar.specs.Files.{description_count, statistics_count}

-- what is wrong with the place of a block that follows so many descriptions and so many statistics blocks
unfoldable pub order_defect : ℕ → ℕ → FileBlock → Option What
order_defect descriptions statistics block.Section = None
order_defect descriptions statistics block.Description =
    if nat_lt descriptions 256 then if statistics == 0 then None else Some what.Late else Some what.Interface
order_defect descriptions statistics (block.Packet number) =
    if nat_lt number descriptions then if statistics == 0 then None else Some what.Late else Some what.Interface
order_defect descriptions statistics (block.Statistics number counts) =
    if nat_lt number descriptions then if number == statistics then None else Some what.Statistics else Some what.Interface

abbrev pub unless : Option What → FileBlock × ℕ → Result (FileBlock × ℕ) What
unless None b = Ok b
unless (Some w) b = Err w

-- a block, where nothing is wrong with its place
abbrev pub if_in_order : ℕ → ℕ → Result (FileBlock × ℕ) What → Result (FileBlock × ℕ) What
if_in_order descriptions statistics (Ok b) = unless (order_defect descriptions statistics b.0) b
if_in_order descriptions statistics (Err w) = Err w

-- the block that bytes begin with, at a place of the file, after so many descriptions and so many statistics blocks
abbrev pub block_in_order : ℕ → ℕ → ℕ → List ℕ → Result (FileBlock × ℕ) What
block_in_order descriptions statistics at text = if_in_order descriptions statistics (block_at at text)

-- all blocks, at the end of the file, unless statistics are missing
abbrev pub at_end : List FileBlock → ℕ → Result (List FileBlock) (What × ℕ)
at_end before at = if statistics_count before == description_count before then Ok before else Err (what.Missing, at)

-- the first defect, or what the blocks after a block come to
abbrev pub next_or_defect : Result (FileBlock × ℕ) What → ℕ → (FileBlock → ℕ → Result (List FileBlock) (What × ℕ)) → Result (List FileBlock) (What × ℕ)
next_or_defect (Ok b) at others = others b.0 b.1
next_or_defect (Err w) at others = Err (w, at)

-- from a place on, after the blocks before it, at most so many: all blocks of the file, the last one first, or the first
-- defect and its place
unfoldable pub blocks_from : ℕ → List FileBlock → ℕ → List ℕ → Result (List FileBlock) (What × ℕ)
blocks_from zero before at text = Ok before
blocks_from (suc n) before at text =
    if nat_lt 0 at && (length text == 0) then at_end before at else
    next_or_defect (block_in_order (description_count before) (statistics_count before) at text) at (λ b len. blocks_from n (b ∷ before) (at + len) (drop len text))

-- The whole file. It has fewer blocks than bytes.
unfoldable pub blocks_in : List ℕ → Result (List FileBlock) (What × ℕ)
blocks_in text = if nat_lt (2 ^ 32) (length text) then Err (what.TooLong, 2 ^ 32) else blocks_from (suc (length text)) [] 0 text

abbrev pub defect_of : Result (List FileBlock) (What × ℕ) → Option (What × ℕ)
defect_of (Ok blocks) = None
defect_of (Err defect) = Some defect

unfoldable pub first_defect : List ℕ → Option (What × ℕ)
first_defect text = defect_of (blocks_in text)

-- An answer is a fault exactly where there is a first defect, and names it, unless memory ran out.
abbrev pub Answers : Result FileFacts CheckFault → Option (What × ℕ) → Type 0
Answers (Ok facts) defect = defect ≡ None
Answers (Err (fault.Bad w at)) defect = defect ≡ Some (w, at)
Answers (Err fault.NoMemory) defect = Unit {0}
