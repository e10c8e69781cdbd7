-- The text of a source, packet by packet.
use Rattle.std.proofs.Common.{◌≡◌, ◌≢◌, ℕ, ◌+◌, ◌%◌, ◌==◌, true, false, List, [], ◌∷◌, ◌++◌, refl, ap, sym, ◌∙◌, arith}
use Rattle.std.specs.List.{flat_map}
use Rattle.std.proofs.lemmas.List.{append-nil, flat_map_more}
use Rattle.std.proofs.lemmas.Bool.Decides.{nat_tests}
use Rattle.cap_base.specs.declared.packet.Packet.{Packet}
use Rattle.pcapng_blocks.specs.Spelling.{block_text, u16, u32}
use Rattle.cap_make.specs.Generator.{after, number_at, length_by, packet_with, packet_at, packets_of}
use Rattle.cap_make.specs.Streams.{description, head_of, packet_text, stream}
use Rattle.cap_make.proofs.Packets.{number_more, packets_none, packets_more, packets_other}
use Rattle.std.proofs.Math.Numerals.{suc-eq-add-one}

pub description_is : description ≡ 1 ∷ 0 ∷ 0 ∷ 0 ∷ 20 ∷ 0 ∷ 0 ∷ 0 ∷ 1 ∷ 0 ∷ 0 ∷ 0 ∷ 0 ∷ 0 ∷ 4 ∷ 0 ∷ 20 ∷ 0 ∷ 0 ∷ 0 ∷ []
unfolding description block_text u16 u32
description_is = refl

pub same_test : (a b : ℕ) → a ≡ b → (a == b) ≡ true
same_test a b is = grind (arith, nat_tests)

pub other_test : (a b : ℕ) → a ≢ b → (a == b) ≡ false
other_test a b is = grind (arith, nat_tests)

-- nothing stands behind the head yet
pub stream_none : (start sources which : ℕ) → stream start sources 0 which ≡ head_of which
unfolding stream
stream_none start sources which = ap (λ (ps : List Packet). head_of which ++ flat_map (packet_text which) ps) (packets_none start sources which) ∙ append-nil (head_of which)

-- a packet of the source is added
pub stream_more : (start sources k which x : ℕ) → k % sources ≡ which → x ≡ after (number_at start k)
    → stream start sources k which ++ packet_text which (packet_with k (length_by x)) ≡ stream start sources (k + 1) which
unfolding stream
stream_more start sources k which x own is =
    let p = packet_with k (length_by x) in
    let here : p ≡ packet_at start k = ap (λ (n : ℕ). packet_with k (length_by n)) (is ∙ sym (number_more start k) ∙ ap (number_at start) (sym (suc-eq-add-one k))) in
    flat_map_more (packet_text which) (head_of which) (packets_of start sources k which) p
    ∙ ap (λ (q : Packet). head_of which ++ flat_map (packet_text which) (packets_of start sources k which ++ q ∷ [])) here
    ∙ ap (λ (ps : List Packet). head_of which ++ flat_map (packet_text which) ps) (sym (packets_more start sources k which (same_test (k % sources) which own)))

-- a packet of another source isn't
pub stream_other : (start sources k which : ℕ) → k % sources ≢ which → stream start sources k which ≡ stream start sources (k + 1) which
unfolding stream
stream_other start sources k which other =
    ap (λ (ps : List Packet). head_of which ++ flat_map (packet_text which) ps) (sym (packets_other start sources k which (other_test (k % sources) which other)))
