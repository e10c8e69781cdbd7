-- The file of a trial is short enough for a check.
use Rattle.std.proofs.Common.{◌≡◌, ℕ, suc, ◌+◌, ◌*◌, ◌<◌, ◌≤◌, ◌^◌, Bool, true, false, if◌then◌else◌, pos, List, [], ◌∷◌, ◌++◌, length, map, refl, sym, ap, ◌∙◌, subst, arith, length-append}
use Rattle.std.specs.List.{All, flat_map}
use Rattle.std.proofs.lemmas.List.{append-nil}
use Rattle.std.proofs.lemmas.List.Elements.{All-head, All-tail}
use Rattle.std.proofs.lemmas.Grind.{flat_map-append}
use Rattle.cap_base.specs.Carried.{IsFitInterface, options_length}
use Rattle.cap_base.specs.Histories.{answer_of, packets}
use Rattle.cap_base.specs.Laws.{AreDescribed}
use Rattle.cap_base.specs.Numbers.{padding}
use Rattle.cap_base.specs.declared.counts.Counts.{Counts}
use Rattle.cap_base.specs.declared.entries.Entry.{Entry}
use Rattle.cap_base.specs.declared.entries.Entry.TheVariants as E
use Rattle.cap_base.specs.declared.entries.Item.TheVariants as I
use Rattle.cap_base.specs.declared.entries.Taken.TheVariants as T
use Rattle.cap_base.specs.declared.interface.Iface.{Iface}
use Rattle.cap_base.specs.declared.numbers.Order.TheVariants.{Little}
use Rattle.cap_base.specs.declared.packet.Packet.{Packet}
use Rattle.pcapng_blocks.specs.declared.block.Block.{Block}
use Rattle.pcapng_blocks.specs.declared.block.Block.TheVariants as block
use Rattle.std.specs.Ordering.{int_eq}
use Rattle.pcapng_blocks.specs.inner.Lengths.{offset_length}
use Rattle.pcapng_blocks.specs.Spelling.{spell, interface_body, block_text, section_body, options_text, u16, u32}
use Rattle.pcapng_blocks.proofs.Lengths.{length-block_text, interface_length, options_none, packet_length, statistics_length}
use Rattle.capture_desk.specs.Past.{Past, nothing, ◌▹◌, past_from}
use Rattle.capture_desk.specs.Acts.{tail_from, tail}
use Rattle.capture_desk.specs.Files.{blocks, head, ifaces, packets as packets_taken, text}
use Rattle.capture_desk.proofs.States.{text_more}

-- ---- small packets

-- a packet as the generator makes it
pub record IsSmall (p : Packet) : Type 0 where
  pub body : length p.body < 256
  pub notes : p.notes ≡ []

-- ---- blocks

section_is_short : length (spell (block.Section Little)) ≤ 28
unfolding spell block_text section_body u16 u32
section_is_short = omega arith

offset_is_short : (b : Bool) → (if b then 0 else 12) ≤ 12
offset_is_short true = omega arith
offset_is_short false = omega arith

interface_is_short : (i : Iface) → IsFitInterface i → length (spell (block.Interface i)) ≤ 131200
unfolding spell
interface_is_short i fit = let a : length (spell (block.Interface i)) ≡ length (interface_body i) + 12 = length-block_text 1 (interface_body i) in
    let b : length (interface_body i) ≡ 24 + (length i.name + padding (length i.name)) + offset_length i.offset + options_length i.notes = interface_length i in
    let e : offset_length i.offset ≤ 12 = offset_is_short (int_eq i.offset (pos 0)) in let c : length i.name ≤ 65535 = fit.name in let d : options_length i.notes ≤ 65536 = fit.notes.few in omega arith

packet_is_short : (p : Packet) → IsSmall p → length (spell (block.Enhanced p)) ≤ 300
unfolding spell
packet_is_short p small = let a : length (options_text p.notes) ≡ 0 = options_none p.notes (ap length small.notes) in let b : length p.body < 256 = small.body in omega (arith, length-block_text 6, packet_length p)

statistics_are_short : (n t r d w : ℕ) → length (spell (block.Statistics n t r d w)) ≤ 64
unfolding spell
statistics_are_short n t r d w = omega (arith, length-block_text 5, statistics_length n t r d w)

-- ---- what was taken

-- no more than 256 interfaces, and small packets
abbrev pub IsFine : Past → Type 0
IsFine nothing = Unit {0}
IsFine (before ▹ E.Take now (T.Item (I.Iface k i))) = IsFine before × (length (ifaces before) < 256) × IsFitInterface i
IsFine (before ▹ E.Take now (T.Item (I.Packet p))) = IsFine before × IsSmall p
IsFine (before ▹ other) = IsFine before

fine_from : (start : Past) (es : List Entry) → IsFine start → AreDescribed (length (ifaces start)) (flat_map answer_of es) → All IsSmall (packets (flat_map answer_of es)) → IsFine (past_from start es)
fine_from start [] a d w = a
fine_from start (E.Take now (T.Item (I.Iface k i)) ∷ es) a d w = fine_from (start ▹ E.Take now (T.Item (I.Iface k i))) es (a, d.1, d.2) (subst (λ (z : ℕ). AreDescribed z (flat_map answer_of es)) (sym (length-append (ifaces start) (i ∷ []))) d.3) w
fine_from start (E.Take now (T.Item (I.Packet p)) ∷ es) a d w = fine_from (start ▹ E.Take now (T.Item (I.Packet p))) es (a, All-head IsSmall p (packets (flat_map answer_of es)) w) d.2 (All-tail IsSmall p (packets (flat_map answer_of es)) w)
fine_from start (E.Take now (T.Item (I.Ended k how)) ∷ es) a d w = fine_from (start ▹ E.Take now (T.Item (I.Ended k how))) es a d w
fine_from start (E.Take now T.Empty ∷ es) a d w = fine_from (start ▹ E.Take now T.Empty) es a d w
fine_from start (E.Take now T.Done ∷ es) a d w = fine_from (start ▹ E.Take now T.Done) es a d w
fine_from start (E.Tally now cs ∷ es) a d w = fine_from (start ▹ E.Tally now cs) es a d w
fine_from start (E.Stop why l ∷ es) a d w = fine_from (start ▹ E.Stop why l) es a d w
fine_from start (E.Join x y z ∷ es) a d w = fine_from start es a d w
fine_from start (E.Offer x y z ∷ es) a d w = fine_from start es a d w
fine_from start (E.End x y ∷ es) a d w = fine_from start es a d w

pub fine_past : (es : List Entry) → AreDescribed 0 (flat_map answer_of es) → All IsSmall (packets (flat_map answer_of es)) → IsFine (past_from nothing es)
fine_past es d w = fine_from nothing es tt d w

few_ifaces : (past : Past) → IsFine past → length (ifaces past) ≤ 256
few_ifaces nothing a = omega arith
few_ifaces (before ▹ E.Take now (T.Item (I.Iface k i))) a = let e : length (ifaces before ++ i ∷ []) ≡ length (ifaces before) + 1 = length-append (ifaces before) (i ∷ []) in let b : length (ifaces before) < 256 = a.1 in omega arith
few_ifaces (before ▹ E.Take now (T.Item (I.Packet p))) a = few_ifaces before a.0
few_ifaces (before ▹ E.Take now (T.Item (I.Ended k how))) a = few_ifaces before a
few_ifaces (before ▹ E.Take now T.Empty) a = few_ifaces before a
few_ifaces (before ▹ E.Take now T.Done) a = few_ifaces before a
few_ifaces (before ▹ E.Tally now cs) a = few_ifaces before a
few_ifaces (before ▹ E.Stop why l) a = few_ifaces before a
few_ifaces (before ▹ E.Join x y z) a = few_ifaces before a
few_ifaces (before ▹ E.Offer x y z) a = few_ifaces before a
few_ifaces (before ▹ E.End x y) a = few_ifaces before a

-- ---- the text

no_text : length (text []) ≡ 0
unfolding text
no_text = refl

first_text : length (text (head [])) ≤ 28
first_text = let a : length (text (head [])) ≡ length (text []) + length (spell (block.Section Little)) = text_more [] (block.Section Little) (length (spell (block.Section Little))) refl in let b : length (text []) ≡ 0 = no_text in let c : length (spell (block.Section Little)) ≤ 28 = section_is_short in omega arith

head_push : (is : List Iface) (i : Iface) → head (is ++ i ∷ []) ≡ head is ++ block.Interface i ∷ []
head_push is i = ap (λ (z : List Block). block.Section Little ∷ z) (go is) where
  go : (is : List Iface) → map block.Interface (is ++ i ∷ []) ≡ map block.Interface is ++ block.Interface i ∷ []
  go [] = refl
  go (x ∷ is) = ap (λ (z : List Block). block.Interface x ∷ z) (go is)

-- one interface more
interface_more : (bs : List Block) (is : List Iface) (i : Iface) (k : ℕ) → IsFitInterface i → length (text bs) ≤ 28 + 131200 * length is + 300 * k → length (text (bs ++ block.Interface i ∷ [])) ≤ 28 + 131200 * length (is ++ i ∷ []) + 300 * k
interface_more bs is i k fit h = let a : length (text (bs ++ block.Interface i ∷ [])) ≡ length (text bs) + length (spell (block.Interface i)) = text_more bs (block.Interface i) (length (spell (block.Interface i))) refl in
    let b : length (spell (block.Interface i)) ≤ 131200 = interface_is_short i fit in let c : length (is ++ i ∷ []) ≡ length is + 1 = length-append is (i ∷ []) in omega arith

head_is_short : (past : Past) (k : ℕ) → IsFine past → length (text (head (ifaces past))) ≤ 28 + 131200 * length (ifaces past) + 300 * k
head_is_short nothing k a = let b : length (text (head [])) ≤ 28 = first_text in omega arith
head_is_short (before ▹ E.Take now (T.Item (I.Iface j i))) k a = subst (λ (z : List Block). length (text z) ≤ 28 + 131200 * length (ifaces before ++ i ∷ []) + 300 * k) (sym (head_push (ifaces before) i)) (interface_more (head (ifaces before)) (ifaces before) i k a.2 (head_is_short before k a.0))
head_is_short (before ▹ E.Take now (T.Item (I.Packet p))) k a = head_is_short before k a.0
head_is_short (before ▹ E.Take now (T.Item (I.Ended j how))) k a = head_is_short before k a
head_is_short (before ▹ E.Take now T.Empty) k a = head_is_short before k a
head_is_short (before ▹ E.Take now T.Done) k a = head_is_short before k a
head_is_short (before ▹ E.Tally now cs) k a = head_is_short before k a
head_is_short (before ▹ E.Stop why l) k a = head_is_short before k a
head_is_short (before ▹ E.Join x y z) k a = head_is_short before k a
head_is_short (before ▹ E.Offer x y z) k a = head_is_short before k a
head_is_short (before ▹ E.End x y) k a = head_is_short before k a

no_more : (bs : List Block) (m : ℕ) → length (text bs) ≤ m → length (text (bs ++ [])) ≤ m
no_more bs m h = subst (λ (z : List Block). length (text z) ≤ m) (sym (append-nil bs)) h

blocks_are_short : (past : Past) → IsFine past → length (text (blocks past)) ≤ 28 + 131200 * length (ifaces past) + 300 * packets_taken past
blocks_are_short nothing a = let b : length (text (head [])) ≤ 28 = first_text in omega arith
blocks_are_short (before ▹ E.Take now (T.Item (I.Iface j i))) a = interface_more (blocks before) (ifaces before) i (packets_taken before) a.2 (blocks_are_short before a.0)
blocks_are_short (before ▹ E.Take now (T.Item (I.Packet p))) a = let b : length (text (blocks before ++ block.Enhanced p ∷ [])) ≡ length (text (blocks before)) + length (spell (block.Enhanced p)) = text_more (blocks before) (block.Enhanced p) (length (spell (block.Enhanced p))) refl in
    let c : length (spell (block.Enhanced p)) ≤ 300 = packet_is_short p a.1 in let d : length (text (blocks before)) ≤ 28 + 131200 * length (ifaces before) + 300 * packets_taken before = blocks_are_short before a.0 in omega arith
blocks_are_short (before ▹ E.Take now (T.Item (I.Ended j how))) a = no_more (blocks before) (28 + 131200 * length (ifaces before) + 300 * packets_taken before) (blocks_are_short before a)
blocks_are_short (before ▹ E.Take now T.Empty) a = no_more (blocks before) (28 + 131200 * length (ifaces before) + 300 * packets_taken before) (blocks_are_short before a)
blocks_are_short (before ▹ E.Take now T.Done) a = no_more (blocks before) (28 + 131200 * length (ifaces before) + 300 * packets_taken before) (blocks_are_short before a)
blocks_are_short (before ▹ E.Tally now cs) a = head_is_short before (packets_taken before) a
blocks_are_short (before ▹ E.Stop why l) a = blocks_are_short before a
blocks_are_short (before ▹ E.Join x y z) a = blocks_are_short before a
blocks_are_short (before ▹ E.Offer x y z) a = blocks_are_short before a
blocks_are_short (before ▹ E.End x y) a = blocks_are_short before a

text_both : (xs ys : List Block) → length (text (xs ++ ys)) ≡ length (text xs) + length (text ys)
unfolding text
text_both xs ys = ap length (flat_map-append spell xs ys) ∙ length-append (flat_map spell xs) (flat_map spell ys)

statistics_more : (n t r d w : ℕ) (bs : List Block) (m : ℕ) → length (text bs) ≤ 64 * m → length (text (block.Statistics n t r d w ∷ bs)) ≤ 64 * suc m
statistics_more n t r d w bs m h = let one : List Block = block.Statistics n t r d w ∷ [] in let a : length (text (one ++ bs)) ≡ length (text one) + length (text bs) = text_both one bs in
    let b : length (text ([] ++ one)) ≡ length (text []) + length (spell (block.Statistics n t r d w)) = text_more [] (block.Statistics n t r d w) (length (spell (block.Statistics n t r d w))) refl in let c : length (text []) ≡ 0 = no_text in
    let e : length (spell (block.Statistics n t r d w)) ≤ 64 = statistics_are_short n t r d w in omega arith

tail_is_short : (k now : ℕ) (is : List Iface) (cs : List Counts) → length (text (tail_from k now is cs)) ≤ 64 * length is
tail_is_short k now [] cs = let a : length (text []) ≡ 0 = no_text in omega arith
tail_is_short k now (i ∷ is) [] = let a : length (text []) ≡ 0 = no_text in omega arith
tail_is_short k now (i ∷ is) (c ∷ cs) = statistics_more k _ _ _ _ (tail_from (k + 1) now is cs) (length is) (tail_is_short (k + 1) now is cs)

pub all_is_short : (past : Past) (now : ℕ) (cs : List Counts) → IsFine past → packets_taken past ≤ 1000000 → length (text (blocks past ++ tail (ifaces past) now cs)) ≤ 2 ^ 32
unfolding tail
all_is_short past now cs a few = let b : length (text (blocks past ++ tail_from 0 now (ifaces past) cs)) ≡ length (text (blocks past)) + length (text (tail_from 0 now (ifaces past) cs)) = text_both (blocks past) (tail_from 0 now (ifaces past) cs) in
    let c : length (text (blocks past)) ≤ 28 + 131200 * length (ifaces past) + 300 * packets_taken past = blocks_are_short past a in let d : length (text (tail_from 0 now (ifaces past) cs)) ≤ 64 * length (ifaces past) = tail_is_short 0 now (ifaces past) cs in
    let e : length (ifaces past) ≤ 256 = few_ifaces past a in omega arith
