-- A packet's Take that brings its block alone.
use Rattle.std.proofs.Common.{◌≡◌, ℕ, ◌+◌, ◌%◌, inl, inr, nat_lt, Bool, true, false, not, ◌&&◌, ◌||◌, if◌then◌else◌, List, [], ◌∷◌, length, refl, sym, ◌∙◌, subst}
use Rattle.cap_base.specs.declared.settings.Settings.{Settings}
use Rattle.cap_base.specs.declared.packet.Packet.{Packet}
use Rattle.cap_base.specs.declared.entries.Why.{Why}
use Rattle.cap_base.specs.declared.entries.Entry.TheVariants as entry
use Rattle.cap_base.specs.declared.entries.Taken.TheVariants as taken
use Rattle.cap_base.specs.declared.entries.Item.TheVariants as item
use Rattle.pcapng_blocks.specs.Spelling.{spell, packet_body}
use Rattle.pcapng_blocks.specs.declared.block.Block.TheVariants as block
use Rattle.pcapng_blocks.proofs.Lengths.{length-block_text}
use Rattle.ring_files.specs.KeptNames.{KeptNames, WasGiven}
use Rattle.stop_conditions.specs.Conditions.{after_packet}
use Rattle.stop_conditions.specs.declared.next.Next.{Next}
use Rattle.stop_conditions.specs.declared.next.Next.TheVariants as next
use Rattle.capture_desk.specs.declared.acts.Act.TheVariants.{Put}
use Rattle.capture_desk.specs.declared.due.Due.TheVariants as dues
use Rattle.capture_desk.specs.declared.state.State.{State}
use Rattle.capture_desk.specs.Past.{Past, ◌▹◌}
use Rattle.capture_desk.specs.Files.{held}
use Rattle.capture_desk.specs.Due.{due, count_at, next_after}
use Rattle.capture_desk.specs.Acts.{take_acts, is_switch, names, piece}
use Rattle.capture_desk.specs.inner.Counting.{StateIs, StateStands, IsPlain, CountsAlone}
use Rattle.capture_desk.specs.Seen.{Seen, StandsFor}
use Rattle.capture_desk.specs.Told.{AddsAlone, failed_name, files_made}
use Rattle.capture_desk.proofs.States.{count_packet, packet_next, packet_state}
use Rattle.capture_desk.proofs.Takes.{take_adds, take_given}

-- how long a packet's block is
pub block_length : (p : Packet) (len : ℕ) → len ≡ length (packet_body p) + 12 → length (spell (block.Enhanced p)) ≡ len
unfolding spell
block_length p len e = length-block_text 6 (packet_body p) ∙ sym e

-- no Stop was asked for where a Take is due
no_stop : (why : Why) → dues.Take ≡ dues.Stop why → ⊥
no_stop why e = cc

-- where a Take is due, no Stop was asked for
pub plain_is : (s : Settings) (st : State) (past : Past) → StateStands s st past → st.due ≡ dues.Take → StateIs s st past
plain_is s st past (inl is) e = is
plain_is s st past (inr asked) e = absurd (no_stop asked.cause (sym e ∙ asked.asked))

if_same : {A : Type 0} → (b : Bool) (x y : A) → b ≡ true → x ≡ (if b then x else y)
if_same b x y e = rw e refl

no_message : (a b : Bool) → b ≡ true → false ≡ (a && (not b || nat_lt 0 0))
no_message true b e = rw e refl
no_message false b e = refl

-- the state after that
abbrev pub counted : State → ℕ → ℕ → ℕ → ℕ → State
counted st now total pack size = record st { moment = now; total = total; packets = pack; since = (st.since % 64 + 1) % 64; bytes = size; says = false }

-- the packet was counted
pub counts_alone : (s : Settings) (st : State) (past : Past) (p : Packet) (now len total pack size : ℕ) → StateStands s st past → length (spell (block.Enhanced p)) ≡ len → IsPlain st
    → total ≡ held (st.total + 1) → pack ≡ held (st.packets + 1) → size ≡ held (st.bytes + len)
    → after_packet (record { stop = s.stop; switch = s.switch; start = st.capture_start }) now total (record { number = st.number; start = st.file_start; packets = pack; bytes = size }) ≡ next.Stay
    → CountsAlone s st (counted st now total pack size) past now p
counts_alone s st past p now len total pack size stands e plain e1 e2 e3 stays =
    let old = plain_is s st past stands plain.due_is in
    let count : 0 ≡ count_at past (taken.Item (item.Packet p)) = count_packet past p st.since 0 (rw plain.uncounted refl) old.since_is in
    let tried : (if st.stopped then next.Stay else after_packet (record { stop = s.stop; switch = s.switch; start = st.capture_start }) now total (record { number = st.number; start = st.file_start; packets = pack; bytes = size })) ≡ next.Stay = rw plain.going stays in
    let answer : next.Stay ≡ next_after s past now (taken.Item (item.Packet p)) =
    sym tried ∙ packet_next s st past p now len st.capture_start total st.file_start pack size old e (if_same st.begun st.capture_start now plain.begun) (if_same st.begun st.file_start now plain.begun) e1 e2 e3 in
    record {
      plain = plain;
      old_is = old;
      new_is = packet_state s st (counted st now total pack size) past p now len 0 next.Stay old e plain.begun refl (if_same st.begun st.files 1 plain.begun) (if_same st.begun st.capture_start now plain.begun) (if_same st.begun st.file_start now plain.begun) e1 e2 e3 refl refl refl refl refl refl (no_message s.sync st.begun plain.begun) count plain.due_is answer;
      count_is = sym count;
      next_is = sym answer;
    }

-- of such a Take the block alone is put
rest_stays : (n : Next) (k : ℕ) → n ≡ next.Stay → 0 ≡ (if false || is_switch n then k else 0)
rest_stays n k e = rw e refl

acts_alone : (st : State) (s : Settings) (now : ℕ) (on : Bool) (p : Packet) → IsPlain st → (if st.begun && st.file_lost then [] else take_acts s st.begun on now (block.Enhanced p ∷ []) 0 0) ≡ Put (block.Enhanced p) ∷ []
unfolding take_acts
acts_alone st s now on p plain = rw (plain.begun, plain.file) refl

block_alone : (s : Settings) (st : State) (past : Past) (last : List ℕ) (files now : ℕ) (p : Packet) → IsPlain st → StateIs s st past → count_at past (taken.Item (item.Packet p)) ≡ 0 → next_after s past now (taken.Item (item.Packet p)) ≡ next.Stay
    → piece s last files past (entry.Take now (taken.Item (item.Packet p))) ≡ Put (block.Enhanced p) ∷ []
block_alone s st past last files now p plain is count stays =
    sym (take_adds s st past last files now (taken.Item (item.Packet p)) (block.Enhanced p ∷ []) 0 0 is refl (sym count) (rest_stays _ _ stays)) ∙ acts_alone st s now (s.sync && not st.listener_lost) p plain

-- a Take comes next
due_stays : (s : Settings) (past : Past) (now : ℕ) (p : Packet) → next_after s past now (taken.Item (item.Packet p)) ≡ next.Stay → due s (past ▹ entry.Take now (taken.Item (item.Packet p))) ≡ dues.Take
unfolding due
due_stays s past now p e = rw e refl

-- the packet's Take is told
pub told_alone : (old new : Seen) (past : Past) (now : ℕ) (p : Packet) → StandsFor old past → CountsAlone old.settings old.state new.state past now p
    → new.settings ≡ old.settings → new.interfaces ≡ old.interfaces → new.ended ≡ old.ended → new.ring ≡ old.ring
    → AddsAlone old new past now p
told_alone old new past now p stands counts same ifs ends ring =
    let s = old.settings in
    let one = entry.Take now (taken.Item (item.Packet p)) in
    record {
      piece_is = block_alone s old.state past (failed_name old past) (files_made old past) now p counts.plain counts.old_is counts.count_is counts.next_is;
      due_is = due_stays s past now p counts.next_is;
      stands = record {
        state_stands = inl (rw same counts.new_is);
        interfaces_are = ifs ∙ stands.interfaces_are;
        ended_are = ends ∙ stands.ended_are;
        keep_is = rw (same, ring) stands.keep_is;
        ring_is = subst (λ (q : Settings). WasGiven new.ring (names q (past ▹ one))) (sym same) (take_given s old.state past now (taken.Item (item.Packet p)) new.ring counts.old_is.begun_is (rw counts.plain.begun (subst (λ (r : KeptNames). WasGiven r (names s past)) (sym ring) stands.ring_is)));
      };
    }
