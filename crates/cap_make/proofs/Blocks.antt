-- The text of an odd source is a section header, the description of its interface, and a block for each packet.
use Rattle.std.proofs.Common.{◌≡◌, ℕ, ◌+◌, ◌≤◌, ◌%◌, ◌==◌, Bool, true, false, List, [], ◌∷◌, ◌++◌, length, map, Some, Ok, refl, ap, sym, subst, ◌∙◌, arith, append_assoc}
use Rattle.std.specs.Prelude.{if◌then◌else◌}
use Rattle.std.specs.List.{All, flat_map}
use Rattle.std.proofs.lemmas.List.{append-nil, length-append}
use Rattle.std.proofs.lemmas.List.Elements.{All-head, All-tail}
use Rattle.cap_base.specs.Events.{Event, interface, packet}
use Rattle.cap_base.specs.declared.endings.How.{How}
use Rattle.cap_base.specs.declared.endings.How.TheVariants.{Clean}
use Rattle.cap_base.specs.declared.interface.Iface.{Iface}
use Rattle.cap_base.specs.declared.numbers.Order.TheVariants.{Little}
use Rattle.cap_base.specs.declared.packet.Packet.{Packet}
use Rattle.pcapng_options.specs.Reading as options
use Rattle.pcapng_blocks.specs.declared.block.Block.{Block}
use Rattle.pcapng_blocks.specs.declared.block.Block.TheVariants as block
use Rattle.pcapng_blocks.specs.Frames.{is_section_header}
use Rattle.pcapng_blocks.specs.Reading.{block_of, interface_in, interface_of}
use Rattle.pcapng_blocks.specs.Carrying as carrying
use Rattle.pcapng_blocks.specs.Spelling.{spell, block_text, section_body, u16, u32}
use Rattle.pcapng_blocks.specs.Laws.{IsBlock, CanReadPacket}
use Rattle.pcapng_blocks.proofs.SpelledBack.{spelled_are_blocks}
use Rattle.pcapng_pipe.specs.Context.{Context, number_of}
use Rattle.pcapng_pipe.specs.Values.{described, packet_value}
use Rattle.pcapng_pipe.specs.Reading as pcapng
use Rattle.pcapng_pipe.specs.Pcapng.{order_of, numbers_of, context_of, IsLawfulBlock, AreBlocks, behind, HasNoBlock, Pcapng}
use Rattle.pcapng_pipe.proofs.Texts.{events_are_of_splitting, splitting_ends}
use Rattle.cap_make.specs.Generator.{packets_of}
use Rattle.cap_make.specs.Streams.{description, stream}
use Rattle.cap_make.specs.Laws as laws
use Rattle.cap_make.specs.Laws.{OddIsPcapng}
use Rattle.cap_make.proofs.Streams.{other_test}
use Rattle.cap_make.proofs.Readings.{IsMade, packets_made}

-- ---- the section header and the description

-- the interface as it is described: without a name
abbrev unnamed : Iface
unnamed = laws.interface_of []

description_held : block_of Little description ≡ Ok (block.Interface unnamed)
unfolding description block_text u16 u32 block_of interface_in interface_of carrying.resolution_of carrying.offset_of carrying.name_of carrying.carried options.options_at options.options_from options.option_front
description_held = refl

description_is_block : IsBlock Little description (block.Interface unnamed)
unfolding description block_text u16 u32
description_is_block = record {
  order = Little;
  has_order = record { header = λ e. absurd cc; other = λ e. refl };
  least = omega arith;
  most = omega arith;
  words = refl;
  first_length = refl;
  second_length = refl;
  holds = description_held;
}

section_is_header : is_section_header (spell (block.Section Little)) ≡ true
unfolding spell block_text section_body u16 u32
section_is_header = refl

section_lawful : (name : List ℕ) → IsLawfulBlock name [] (spell (block.Section Little)) (block.Section Little) []
section_lawful name = record { spelled = spelled_are_blocks (block.Section Little) refl; first = λ none. section_is_header; gives = refl }

description_lawful : (name : List ℕ) → IsLawfulBlock name (block.Section Little ∷ []) description (block.Interface unnamed) (interface (laws.interface_of name) ∷ [])
unfolding described number_of
description_lawful name = record { spelled = description_is_block; first = λ none. absurd cc; gives = refl }

-- ---- the packets

can_read : (p : Packet) → IsMade p → CanReadPacket p
can_read p made = record {
  iface = omega (arith, made.iface);
  time = omega (arith, made.time);
  orig = omega (arith, made.orig);
  fit = record { body = omega (arith, made.body); notes = record { each = rw made.notes refl; few = rw made.notes (omega arith) } };
}

-- the first interface of a section is local interface 0
packet_gives : (c : Context) (p : Packet) → c.numbers ≡ 0 ∷ [] → p.iface ≡ 0 → packet_value c p ≡ Ok (packet p ∷ [], c)
unfolding packet_value
packet_gives c p one zero = rw (zero, one) refl

packet_lawful : (name : List ℕ) (before : List Block) (p : Packet) → order_of before ≡ Some Little → numbers_of name before ≡ 0 ∷ [] → IsMade p → IsLawfulBlock name before (spell (block.Enhanced p)) (block.Enhanced p) (packet p ∷ [])
packet_lawful name before p order numbers made = record {
  spelled = rw order (spelled_are_blocks (block.Enhanced p) (can_read p made));
  first = λ none. absurd cc;
  gives = packet_gives (context_of name before) p numbers made.iface;
}

packets_lawful : (name : List ℕ) (before : List Block) (ps : List Packet) → order_of before ≡ Some Little → numbers_of name before ≡ 0 ∷ [] → All IsMade ps
    → AreBlocks name before (flat_map (λ (p : Packet). spell (block.Enhanced p)) ps) (map block.Enhanced ps) (map packet ps)
packets_lawful name before [] order numbers all = (refl, refl)
packets_lawful name before (p ∷ ps) order numbers all = (
  spell (block.Enhanced p),
  flat_map (λ (q : Packet). spell (block.Enhanced q)) ps,
  packet p ∷ [],
  map packet ps,
  refl,
  refl,
  packet_lawful name before p order numbers (All-head IsMade p ps all),
  packets_lawful name (block.Enhanced p ∷ before) ps order numbers (All-tail IsMade p ps all),
)

order_behind : (before : List Block) (ps : List Packet) → order_of (behind before (map block.Enhanced ps)) ≡ order_of before
order_behind before [] = refl
order_behind before (p ∷ ps) = order_behind (block.Enhanced p ∷ before) ps

-- ---- the text

second_format : (b : Bool) (h g : List ℕ) (f k : Packet → List ℕ) (ps : List Packet) → b ≡ false
    → (if b then h else g) ++ flat_map (λ (p : Packet). if b then f p else k p) ps ≡ g ++ flat_map k ps
second_format true h g f k ps is = absurd cc
second_format false h g f k ps is = refl

odd_stream : (start sources packets which : ℕ) → which % 2 ≡ 1 → stream start sources packets which ≡ (spell (block.Section Little) ++ description) ++ flat_map (λ (p : Packet). spell (block.Enhanced p)) (packets_of start sources packets which)
unfolding stream
odd_stream start sources packets which odd = second_format (which % 2 == 0) _ _ _ _ (packets_of start sources packets which) (other_test (which % 2) 0 (λ e. omega arith))

no_block_in_nothing : (name : List ℕ) (before : List Block) → HasNoBlock name before []
no_block_in_nothing name before first more b es parts lawful =
    let none : 0 ≡ length first + length more = ap length parts ∙ length-append first more in
    let least : 12 ≤ length first = lawful.spelled.least in
    absurd (omega arith)

-- the blocks of a text with these packets
abbrev blocks_of : List Packet → List Block
blocks_of ps = block.Section Little ∷ block.Interface unnamed ∷ map block.Enhanced ps

abbrev events_of : List ℕ → List Packet → List Event
events_of name ps = interface (laws.interface_of name) ∷ map packet ps

odd_is_blocks : (name text : List ℕ) (ps : List Packet) → All IsMade ps → text ≡ (spell (block.Section Little) ++ description) ++ flat_map (λ (p : Packet). spell (block.Enhanced p)) ps → Pcapng name text (blocks_of ps) (events_of name ps) []
odd_is_blocks name text ps all is =
    let first = spell (block.Section Little) in
    let others = flat_map (λ (p : Packet). spell (block.Enhanced p)) ps in
    let section = block.Section Little ∷ [] in
    let there = packets_lawful name (block.Interface unnamed ∷ section) ps refl refl all in
    let described : AreBlocks name section (description ++ others) (block.Interface unnamed ∷ map block.Enhanced ps) (events_of name ps) =
    (description, others, interface (laws.interface_of name) ∷ [], map packet ps, refl, refl, description_lawful name, there) in
    record {
      bytes = first ++ (description ++ others);
      whole = is ∙ append_assoc first description others ∙ sym (append-nil (first ++ (description ++ others)));
      each = (first, description ++ others, [], events_of name ps, refl, refl, section_lawful name, described);
      partial = no_block_in_nothing name (behind [] (blocks_of ps));
    }

-- behind a section header, nothing more is a clean end
nothing_ends : (name : List ℕ) (c : Context) → c.order ≡ Some Little → pcapng.front name c [] ≡ pcapng.ended
unfolding pcapng.front
nothing_ends name c order = rw order refl

ends_clean : (f : pcapng.Front) (place : ℕ) (end : How) → f ≡ pcapng.ended → pcapng.Stops f place end → end ≡ Clean
ends_clean f place end is stops = subst (λ (g : pcapng.Front). pcapng.Stops g place end) is stops

both : (r : pcapng.Reading) (es : List Event) (end : How) → r.0 ≡ es → r.1 ≡ end → r ≡ (es, end)
both r es end a b = rw (sym a, sym b) refl

pub odd_is_pcapng : OddIsPcapng
odd_is_pcapng name start sources packets which odd few =
    let ps = packets_of start sources packets which in
    let text = stream start sources packets which in
    let split = odd_is_blocks name text ps (packets_made start sources packets which few) (odd_stream start sources packets which odd) in
    let last = pcapng.front name (context_of name (behind [] (blocks_of ps))) [] in
    let order = order_behind (block.Interface unnamed ∷ block.Section Little ∷ []) ps in
    let stops = splitting_ends name text (blocks_of ps) (events_of name ps) [] (length text) split (omega arith) in
    both (pcapng.reading name text) (events_of name ps) Clean (events_are_of_splitting name text (blocks_of ps) (events_of name ps) [] split) (ends_clean last (length text) (pcapng.ending name text) (nothing_ends name (context_of name (behind [] (blocks_of ps))) order) stops)
