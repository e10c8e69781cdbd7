use Rattle.std.proofs.Common.{sym}
use Rattle.pcapng_grammar.proofs.Steps.{other_kind}
use Rattle.pcapng_grammar.proofs.blocks.block_by_type.Goals as goal

pub returns : goal.returns
returns c = sym (other_kind c.args.text.now c.get_u32-kind.result c.get_u32-kind.ensures c.if-kind-eq-SECTION_HEADER_BLOCK.false c.if-kind-eq-INTERFACE_DESCRIPTION_BLOCK.false c.if-kind-eq-ENHANCED_PACKET_BLOCK.false c.if-kind-eq-INTERFACE_STATISTICS_BLOCK.false)
