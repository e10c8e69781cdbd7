-- The packets of a stream are those that its source offered.
use Rattle.std.proofs.Common.{◌≡◌, ◌≢◌, ℕ, ◌+◌, ◌%◌, ◌<◌, ◌≤◌, ◌==◌, Bool, true, false, if◌then◌else◌, List, [], ◌∷◌, ◌++◌, length, map, None, refl, sym, ap, ◌∙◌, subst, arith, append_assoc, ⊎_elim, eq-eqb, ne_eqb, length-append}
use Rattle.std.specs.List.{All, filter, flat_map, range_with_len}
use Rattle.std.proofs.lemmas.List.{append-nil, length-map}
use Rattle.std.proofs.lemmas.Bool.{cases_eq, le-ltb}
use Rattle.std.proofs.lemmas.Grind.{flat_map-append}
use Rattle.std.proofs.lemmas.Nat.{mod_below}
use Rattle.cap_base.specs.Callers.{own}
use Rattle.cap_base.specs.Events.{Event, interface, packet}
use Rattle.cap_base.specs.Fates.{received_of}
use Rattle.cap_base.specs.Histories.{History}
use Rattle.cap_base.specs.declared.endings.How.TheVariants.{Clean, Cut}
use Rattle.cap_base.specs.declared.entries.Entry.{Entry}
use Rattle.cap_base.specs.declared.entries.Entry.TheVariants as E
use Rattle.cap_base.specs.declared.entries.Verdict.TheVariants as V
use Rattle.cap_base.specs.declared.limits.TheConstants.{MAX_CAPTURED_LEN}
use Rattle.cap_base.specs.declared.numbers.Order.TheVariants.{Little}
use Rattle.cap_base.specs.declared.packet.Packet.{Packet}
use Rattle.pcap_pipe.specs.Reading as classic
use Rattle.pcap_pipe.specs.Spelling.{header_text, u16_text, u32_text}
use Rattle.pcapng_blocks.specs.Frames.{is_section_header}
use Rattle.pcapng_blocks.specs.Spelling.{spell, block_text, section_body, u16, u32}
use Rattle.pcapng_blocks.specs.declared.block.Block.TheVariants.{Section}
use Rattle.pcapng_blocks.proofs.Prefixes.{header-append}
use Rattle.pcapng_pipe.specs.Reading as pcapng
use Rattle.source_reader.specs.Reading.{Reading, whole, cut_event}
use Rattle.source_thread.specs.Told.{AreEntriesOf}
use Rattle.cap_make.specs.Generator.{packet_at, packets_of}
use Rattle.cap_make.specs.Laws.{interface_of}
use Rattle.cap_make.specs.Streams.{description, ethernet, packet_text, stream}
use Rattle.cap_make.proofs.Readings.{even_is_classic, packets_made}
use Rattle.cap_make.proofs.Blocks.{odd_is_pcapng}
use Rattle.trial_mode.specs.Streams.{Streams, stream_of}
use Rattle.trial_mode.specs.Trials.{IsToldWhole}
use Rattle.trial_mode.proofs.Lengths.{IsSmall}
use Rattle.trial_mode.proofs.Smalls.{AreSmall, made_small, offers_small}

-- how many packets are among events
abbrev packets_in : List Event → ℕ
packets_in [] = 0
packets_in (interface i ∷ es) = packets_in es
packets_in (packet p ∷ es) = packets_in es + 1

offers : (s : ℕ) (numbers : List ℕ) (events : List Event) (entries : List Entry) → AreEntriesOf s numbers events entries → length (flat_map received_of entries) ≡ packets_in events
offers s numbers [] [] w = refl
offers s numbers [] (e ∷ es) w = absurd w
offers s numbers (ev ∷ evs) [] w = absurd w
offers s numbers (interface i ∷ evs) (E.Join by j n ∷ es) w = offers s numbers evs es w.1
offers s numbers (interface i ∷ evs) (E.Offer by q v ∷ es) w = absurd w.0
offers s numbers (interface i ∷ evs) (E.End by how ∷ es) w = absurd w.0
offers s numbers (interface i ∷ evs) (E.Take now t ∷ es) w = absurd w.0
offers s numbers (interface i ∷ evs) (E.Tally now cs ∷ es) w = absurd w.0
offers s numbers (interface i ∷ evs) (E.Stop why l ∷ es) w = absurd w.0
offers s numbers (packet p ∷ evs) (E.Offer by q V.Accepted ∷ es) w = let a : length (flat_map received_of es) ≡ packets_in evs = offers s numbers evs es w.1 in omega arith
offers s numbers (packet p ∷ evs) (E.Offer by q V.AtLimit ∷ es) w = let a : length (flat_map received_of es) ≡ packets_in evs = offers s numbers evs es w.1 in omega arith
offers s numbers (packet p ∷ evs) (E.Offer by q V.Flushed ∷ es) w = let a : length (flat_map received_of es) ≡ packets_in evs = offers s numbers evs es w.1 in omega arith
offers s numbers (packet p ∷ evs) (E.Offer by q V.Foreign ∷ es) w = absurd (w.0.3 refl)
offers s numbers (packet p ∷ evs) (E.Join by j n ∷ es) w = absurd w.0
offers s numbers (packet p ∷ evs) (E.End by how ∷ es) w = absurd w.0
offers s numbers (packet p ∷ evs) (E.Take now t ∷ es) w = absurd w.0
offers s numbers (packet p ∷ evs) (E.Tally now cs ∷ es) w = absurd w.0
offers s numbers (packet p ∷ evs) (E.Stop why l ∷ es) w = absurd w.0

uncut : (es : List Event) → packets_in (map (cut_event None) es) ≡ packets_in es
uncut [] = refl
uncut (interface i ∷ es) = uncut es
uncut (packet p ∷ es) = ap (λ (z : ℕ). z + 1) (uncut es)

all_packets : (ps : List Packet) → packets_in (map packet ps) ≡ length ps
all_packets [] = refl
all_packets (p ∷ ps) = let a : packets_in (map packet ps) ≡ length ps = all_packets ps in omega arith

-- ---- the format of a stream

classic_begins : is_section_header (header_text ethernet MAX_CAPTURED_LEN) ≡ false
unfolding header_text u32_text u16_text
classic_begins = refl

classic_has : 4 ≤ length (header_text ethernet MAX_CAPTURED_LEN)
unfolding header_text u32_text u16_text
classic_has = omega arith

section_begins : is_section_header (spell (Section Little)) ≡ true
unfolding spell block_text section_body u16 u32
section_begins = refl

section_has : 4 ≤ length (spell (Section Little))
unfolding spell block_text section_body u16 u32
section_has = omega arith

by_format : (name head rest : List ℕ) (b : Bool) → 4 ≤ length head → is_section_header head ≡ b → whole name (head ++ rest) ≡ (if b then pcapng.reading name (head ++ rest) else classic.reading name (head ++ rest))
by_format name head rest b long q = let long_too : 4 ≤ length (head ++ rest) = (let a : length (head ++ rest) ≡ length head + length rest = length-append head rest in omega arith) in
    ap (λ (c : Bool). if c then ([], Cut 0) else (if is_section_header (head ++ rest) then pcapng.reading name (head ++ rest) else classic.reading name (head ++ rest))) (le-ltb (length (head ++ rest)) 4 long_too)
    ∙ ap (λ (c : Bool). if c then pcapng.reading name (head ++ rest) else classic.reading name (head ++ rest)) (header-append head rest long ∙ q)

even_stream : (start sources packets which : ℕ) → which % 2 ≡ 0 → stream start sources packets which ≡ header_text ethernet MAX_CAPTURED_LEN ++ flat_map (packet_text which) (packets_of start sources packets which)
unfolding stream
even_stream start sources packets which q = ap (λ (b : Bool). (if b then header_text ethernet MAX_CAPTURED_LEN else spell (Section Little) ++ description) ++ flat_map (packet_text which) (packets_of start sources packets which)) (eq-eqb (which % 2) 0 q)

odd_stream : (start sources packets which : ℕ) → which % 2 ≢ 0 → stream start sources packets which ≡ spell (Section Little) ++ (description ++ flat_map (packet_text which) (packets_of start sources packets which))
unfolding stream
odd_stream start sources packets which q = ap (λ (b : Bool). (if b then header_text ethernet MAX_CAPTURED_LEN else spell (Section Little) ++ description) ++ flat_map (packet_text which) (packets_of start sources packets which)) (ne_eqb (which % 2) 0 q)
    ∙ append_assoc (spell (Section Little)) description (flat_map (packet_text which) (packets_of start sources packets which))

-- a stream is read as its interface and its packets
stream_is_read : (name : List ℕ) (start sources packets which : ℕ) → packets ≤ 1000000 → whole name (stream start sources packets which) ≡ (interface (interface_of name) ∷ map packet (packets_of start sources packets which), Clean)
stream_is_read name start sources packets which few = ⊎_elim
    (λ (q : which % 2 ≡ 0). let rest : List ℕ = flat_map (packet_text which) (packets_of start sources packets which) in
    ap (whole name) (even_stream start sources packets which q) ∙ by_format name (header_text ethernet MAX_CAPTURED_LEN) rest false classic_has classic_begins ∙ ap (classic.reading name) (sym (even_stream start sources packets which q)) ∙ even_is_classic name start sources packets which q few)
    (λ (q : which % 2 ≢ 0). let rest : List ℕ = description ++ flat_map (packet_text which) (packets_of start sources packets which) in let lt : which % 2 < 2 = mod_below which 2 (omega arith) in
    ap (whole name) (odd_stream start sources packets which q) ∙ by_format name (spell (Section Little)) rest true section_has section_begins ∙ ap (pcapng.reading name) (sym (odd_stream start sources packets which q)) ∙ odd_is_pcapng name start sources packets which (omega arith) few)
    (cases_eq (which % 2) 0)

its_packets : (start sources packets which : ℕ) → length (packets_of start sources packets which) ≡ length (filter (λ (k : ℕ). k % sources == which) (range_with_len 0 packets))
unfolding packets_of
its_packets start sources packets which = length-map (filter (λ (k : ℕ). k % sources == which) (range_with_len 0 packets)) (packet_at start)

-- how many packets a source offered that was read to the end of its stream
pub offered_by : (streams : Streams) (h : History) (which : ℕ) → streams.packets ≤ 1000000 → IsToldWhole streams h which
    → length (flat_map received_of (own which h)) ≡ length (filter (λ (k : ℕ). k % streams.sources == which) (range_with_len 0 streams.packets))
offered_by streams h which few told = ap (λ (es : List Entry). length (flat_map received_of es)) told.parts
    ∙ ap length (flat_map-append received_of told.entries (E.End which Clean ∷ []) ∙ append-nil (flat_map received_of told.entries))
    ∙ offers which _ told.entered.front told.entries told.entered.each
    ∙ ap packets_in (sym (told.entered.parts ∙ ap (λ (es : List Event). told.entered.front ++ es) told.entered.cause.1.all ∙ append-nil told.entered.front))
    ∙ uncut (whole _ (stream_of streams which)).0
    ∙ ap (λ (r : Reading). packets_in r.0) (stream_is_read _ streams.start streams.sources streams.packets which few)
    ∙ all_packets (packets_of streams.start streams.sources streams.packets which)
    ∙ its_packets streams.start streams.sources streams.packets which

-- ---- small packets

uncut_small : (es : List Event) → AreSmall es → AreSmall (map (cut_event None) es)
uncut_small [] w = tt
uncut_small (interface i ∷ es) w = uncut_small es w
uncut_small (packet p ∷ es) w = (w.0, uncut_small es w.1)

-- and they are small
pub offered_small : (streams : Streams) (h : History) (which : ℕ) → streams.packets ≤ 1000000 → IsToldWhole streams h which → All IsSmall (flat_map received_of (own which h))
offered_small streams h which few told = subst (λ (es : List Entry). All IsSmall (flat_map received_of es)) (sym told.parts)
    (subst (All IsSmall) (sym (flat_map-append received_of told.entries (E.End which Clean ∷ []) ∙ append-nil (flat_map received_of told.entries)))
    (offers_small which _ told.entered.front told.entries told.entered.each (subst AreSmall (told.entered.parts ∙ ap (λ (es : List Event). told.entered.front ++ es) told.entered.cause.1.all ∙ append-nil told.entered.front)
    (uncut_small (whole _ (stream_of streams which)).0 (subst (λ (r : Reading). AreSmall r.0) (sym (stream_is_read _ streams.start streams.sources streams.packets which few))
    (made_small (packets_of streams.start streams.sources streams.packets which) (packets_made streams.start streams.sources streams.packets which few)))))))
