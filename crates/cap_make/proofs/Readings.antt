-- What is made can be read back.
use Rattle.std.proofs.Common.{◌≡◌, ◌≤◌, ◌<◌, ◌+◌, ◌%◌, ◌==◌, ℕ, zero, suc, Bool, true, false, List, [], ◌∷◌, ◌++◌, length, map, refl, ap, ◌∙◌, arith}
use Rattle.std.specs.Prelude.{if◌then◌else◌, cond}
use Rattle.std.specs.List.{All, filter, flat_map, range_with_len}
use Rattle.std.proofs.lemmas.List.Elements.{All-nil, All-cons, All-head, All-tail}
use Rattle.cap_base.specs.declared.limits.TheConstants.{MAX_CAPTURED_LEN}
use Rattle.cap_base.specs.declared.packet.Packet.{Packet}
use Rattle.pcap_pipe.specs.Reading as pcap
use Rattle.pcap_pipe.specs.Spelling.{header_text, records_text, CanSpell}
use Rattle.pcap_pipe.proofs.Spelled.{spelled_is_read}
use Rattle.cap_make.specs.Generator.{length_by, packet_with, packet_at, packets_of, number_at}
use Rattle.cap_make.specs.Streams.{ethernet, stream}
use Rattle.cap_make.specs.Laws.{EvenIsClassic}
use Rattle.cap_make.proofs.Packets.{length_body}
use Rattle.cap_make.proofs.Streams.{same_test}

-- ---- the packets

-- what is known of each packet
pub record IsMade (p : Packet) : Type 0 where
  pub iface : p.iface ≡ 0
  pub time : p.time < 1000000
  pub orig : p.orig < 256
  pub body : length p.body < 256
  pub notes : p.notes ≡ []

length_small : (x : ℕ) → length_by x < 256
unfolding length_by
length_small x = omega arith

one_made : (start k : ℕ) → k < 1000000 → IsMade (packet_at start k)
unfolding packet_with
one_made start k small =
    let len = length_by (number_at start (suc k)) in
    let few : len < 256 = length_small (number_at start (suc k)) in
    record { iface = refl; time = small; orig = few; body = omega (arith, few, length_body k len); notes = refl }

chosen_made : (start a : ℕ) (b : Bool) (ks : List ℕ) → IsMade (packet_at start a) → All IsMade (map (packet_at start) ks) → All IsMade (map (packet_at start) (cond b (a ∷ ks) ks))
chosen_made start a true ks one all = All-cons IsMade (packet_at start a) (map (packet_at start) ks) one all
chosen_made start a false ks one all = all

all_made : (start : ℕ) (p : ℕ → Bool) (a n : ℕ) → a + n ≤ 1000000 → All IsMade (map (packet_at start) (filter p (range_with_len a n)))
all_made start p a zero few = All-nil IsMade
all_made start p a (suc n) few = chosen_made start a (p a) (filter p (range_with_len (a + 1) n)) (one_made start a (omega arith)) (all_made start p (a + 1) n (omega arith))

pub packets_made : (start sources packets which : ℕ) → packets ≤ 1000000 → All IsMade (packets_of start sources packets which)
unfolding packets_of
packets_made start sources packets which few = all_made start (λ (k : ℕ). k % sources == which) 0 packets (omega arith)

-- ---- classic pcap

can_spell : (p : Packet) → IsMade p → CanSpell p
can_spell p made = record { iface = made.iface; time = omega (arith, made.time); orig = omega (arith, made.orig); body = omega (arith, made.body); notes = made.notes }

all_spell : (ps : List Packet) → All IsMade ps → All CanSpell ps
all_spell [] all = All-nil CanSpell
all_spell (p ∷ ps) all = All-cons CanSpell p ps (can_spell p (All-head IsMade p ps all)) (all_spell ps (All-tail IsMade p ps all))

first_format : (b : Bool) (h g : List ℕ) (f k : Packet → List ℕ) (ps : List Packet) → b ≡ true
    → (if b then h else g) ++ flat_map (λ (p : Packet). if b then f p else k p) ps ≡ h ++ flat_map f ps
first_format true h g f k ps is = refl
first_format false h g f k ps is = absurd cc

even_stream : (start sources packets which : ℕ) → which % 2 ≡ 0 → stream start sources packets which ≡ header_text ethernet MAX_CAPTURED_LEN ++ records_text (packets_of start sources packets which)
unfolding stream records_text
even_stream start sources packets which even = first_format (which % 2 == 0) _ _ _ _ (packets_of start sources packets which) (same_test (which % 2) 0 even)

pub even_is_classic : EvenIsClassic
even_is_classic name start sources packets which even few =
    ap (pcap.reading name) (even_stream start sources packets which even)
    ∙ spelled_is_read name ethernet MAX_CAPTURED_LEN (packets_of start sources packets which) (omega arith) (omega arith) (all_spell (packets_of start sources packets which) (packets_made start sources packets which few))
