-- Files, and bytes that are none, by computing.
use Rattle.std.proofs.Common.{◌≡◌, ℕ, List, [], ◌∷◌, ◌++◌, take, None, Some, refl}
use Rattle.pcapng_grammar.specs.declared.fault.What.TheVariants as what
use Rattle.pcapng_grammar.specs.Options.{are_options_and_end, are_options}
use Rattle.pcapng_grammar.specs.Blocks.{block_by_type, block_at}
use Rattle.pcapng_grammar.specs.Defects.{order_defect, blocks_from, blocks_in, first_defect}
use Rattle.pcapng_blocks.specs.Frames.{framed}
use Rattle.pcapng_options.specs.Reading.{option_front}

abbrev header : List ℕ
header = 0x0A ∷ 0x0D ∷ 0x0D ∷ 0x0A ∷ 0x1C ∷ 0 ∷ 0 ∷ 0 ∷ 0x4D ∷ 0x3C ∷ 0x2B ∷ 0x1A ∷ 1 ∷ 0 ∷ 0 ∷ 0 ∷ 0xFF ∷ 0xFF ∷ 0xFF ∷ 0xFF ∷ 0xFF ∷ 0xFF ∷ 0xFF ∷ 0xFF ∷ 0x1C ∷ 0 ∷ 0 ∷ 0 ∷ []

abbrev description : List ℕ
description = 1 ∷ 0 ∷ 0 ∷ 0 ∷ 0x28 ∷ 0 ∷ 0 ∷ 0 ∷ 1 ∷ 0 ∷ 0 ∷ 0 ∷ 0 ∷ 0 ∷ 4 ∷ 0 ∷ 2 ∷ 0 ∷ 1 ∷ 0 ∷ 0x61 ∷ 0 ∷ 0 ∷ 0 ∷ 9 ∷ 0 ∷ 1 ∷ 0 ∷ 6 ∷ 0 ∷ 0 ∷ 0 ∷ 0 ∷ 0 ∷ 0 ∷ 0 ∷ 0x28 ∷ 0 ∷ 0 ∷ 0 ∷ []

abbrev packet : List ℕ
packet = 6 ∷ 0 ∷ 0 ∷ 0 ∷ 0x24 ∷ 0 ∷ 0 ∷ 0 ∷ 0 ∷ 0 ∷ 0 ∷ 0 ∷ 0 ∷ 0 ∷ 0 ∷ 0 ∷ 0x42 ∷ 0x42 ∷ 0x0F ∷ 0 ∷ 4 ∷ 0 ∷ 0 ∷ 0 ∷ 0x3C ∷ 0 ∷ 0 ∷ 0 ∷ 0xDE ∷ 0xAD ∷ 0xBE ∷ 0xEF ∷ 0x24 ∷ 0 ∷ 0 ∷ 0 ∷ []

abbrev statistics : List ℕ
statistics = 5 ∷ 0 ∷ 0 ∷ 0 ∷ 0x40 ∷ 0 ∷ 0 ∷ 0 ∷ 0 ∷ 0 ∷ 0 ∷ 0 ∷ 0 ∷ 0 ∷ 0 ∷ 0 ∷ 0 ∷ 0 ∷ 0 ∷ 0 ∷ 4 ∷ 0 ∷ 8 ∷ 0 ∷ 1 ∷ 0 ∷ 0 ∷ 0 ∷ 0 ∷ 0 ∷ 0 ∷ 0 ∷ 5 ∷ 0 ∷ 8 ∷ 0 ∷ 0 ∷ 0 ∷ 0 ∷ 0 ∷ 0 ∷ 0 ∷ 0 ∷ 0 ∷ 8 ∷ 0 ∷ 8 ∷ 0 ∷ 1 ∷ 0 ∷ 0 ∷ 0 ∷ 0 ∷ 0 ∷ 0 ∷ 0 ∷ 0 ∷ 0 ∷ 0 ∷ 0 ∷ 0x40 ∷ 0 ∷ 0 ∷ 0 ∷ []

abbrev file : List ℕ
file = header ++ (description ++ (packet ++ (packet ++ statistics)))

is_file : first_defect file ≡ None
unfolding first_defect blocks_in blocks_from order_defect block_at block_by_type framed are_options are_options_and_end option_front
is_file = refl

has_no_statistics : first_defect (header ++ (description ++ packet)) ≡ Some (what.Missing, 104)
unfolding first_defect blocks_in blocks_from order_defect block_at block_by_type framed are_options are_options_and_end option_front
has_no_statistics = refl

is_torn : first_defect (take 203 file) ≡ Some (what.Short, 140)
unfolding first_defect blocks_in blocks_from order_defect block_at block_by_type framed are_options are_options_and_end option_front
is_torn = refl

has_no_description : first_defect (header ++ packet) ≡ Some (what.Interface, 28)
unfolding first_defect blocks_in blocks_from order_defect block_at block_by_type framed are_options are_options_and_end option_front
has_no_description = refl

is_late : first_defect (header ++ (description ++ (statistics ++ packet))) ≡ Some (what.Late, 132)
unfolding first_defect blocks_in blocks_from order_defect block_at block_by_type framed are_options are_options_and_end option_front
is_late = refl

has_two_sections : first_defect (header ++ header) ≡ Some (what.SecondSection, 28)
unfolding first_defect blocks_in blocks_from order_defect block_at block_by_type framed are_options are_options_and_end option_front
has_two_sections = refl

is_empty : first_defect [] ≡ Some (what.Short, 0)
unfolding first_defect blocks_in blocks_from order_defect block_at block_by_type framed are_options are_options_and_end option_front
is_empty = refl
