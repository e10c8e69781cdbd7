-- The messages that are said are true of the acts before them.
use Rattle.std.proofs.Common.{◌≡◌, ℕ, zero, suc, ◌+◌, ◌%◌, ◌==◌, ◌<◌, ◌≤◌, Bool, true, false, not, ◌||◌, ◌&&◌, if◌then◌else◌, Option, Some, None, List, [], ◌∷◌, ◌++◌, length, map, refl, sym, ap, ◌∙◌, subst, arith, length-append}
use Rattle.std.specs.Prelude.{codes}
use Rattle.std.proofs.lemmas.Bool.Decides.{nat_tests}
use Rattle.cap_base.specs.declared.counts.Counts.{Counts}
use Rattle.cap_base.specs.declared.endings.How.{How}
use Rattle.cap_base.specs.declared.interface.Iface.{Iface}
use Rattle.cap_base.specs.declared.settings.Settings.{Settings}
use Rattle.cap_base.specs.declared.entries.Item.TheVariants as I
use Rattle.cap_base.specs.declared.entries.Taken.{Taken}
use Rattle.cap_base.specs.declared.entries.Taken.TheVariants as T
use Rattle.cap_base.specs.declared.entries.Why.TheVariants as W
use Rattle.cap_base.specs.declared.entries.Entry.{Entry}
use Rattle.cap_base.specs.declared.entries.Entry.TheVariants as E
use Rattle.pcapng_blocks.specs.declared.block.Block.{Block}
use Rattle.pcapng_blocks.specs.declared.block.Block.TheVariants as block
use Rattle.stop_conditions.specs.declared.next.Next.{Next}
use Rattle.stop_conditions.specs.declared.next.Next.TheVariants as next
use Rattle.ring_files.specs.KeptNames.{leaving}
use Rattle.sync_pipe.specs.Texts.{message_text}
use Rattle.sync_pipe.specs.declared.said.Said.{Said}
use Rattle.sync_pipe.specs.declared.said.Said.TheVariants as message
use Rattle.capture_desk.specs.declared.acts.Act.{Act}
use Rattle.capture_desk.specs.declared.acts.Act.TheVariants.{Create, Put, Finish, Remove, Say}
use Rattle.capture_desk.specs.declared.due.Due.{Due}
use Rattle.capture_desk.specs.declared.due.Due.TheVariants as dues
use Rattle.capture_report.specs.declared.endings.SourceEnd.{SourceEnd}
use Rattle.capture_desk.specs.Past.{Past, nothing, ◌▹◌}
use Rattle.capture_desk.specs.Doing.{puts, packet_of}
use Rattle.capture_desk.specs.Files.{held, begun, ifaces, endings, number, file_packets, since_empty, head, block_of}
use Rattle.capture_desk.specs.Due.{file_lost, listener_lost, memory_lost, is_done, next_after, count_at, has_message, says, due_by, due_done, due}
use Rattle.capture_report.specs.Endings.{is_early, ending_of, of_early, of_sources, of_interfaces}
use Rattle.capture_report.specs.Messages.{drops_message, early_message, closing_messages}
use Rattle.capture_desk.specs.Acts.{last_of, file_name, names, speaks, say_message, say, say_count, is_switch, rest_count, start_file, take_acts, take_piece, tail_from, tail, end_file, removal, closing, tally_piece, piece, piece_of, acts}
use Rattle.capture_desk.specs.Orderly.{IsTally, IsOrderlySoFar}
use Rattle.capture_core.specs.Made.{block_packets}
use Rattle.capture_desk.specs.Laws.{announced}
use Rattle.capture_desk.proofs.Sums.{sums}
use Rattle.capture_core.specs.Views.{Known, nothing_known, after_creation, after_block, after_message, IsTrueOf, MessagesAreTrue}

-- ---- acts that lead from what is known to what is known behind them

abbrev pub Leads : Known → List Act → Known → Type 0
Leads k [] k' = k ≡ k'
Leads k (Create name ∷ more) k' = Leads (after_creation k name) more k'
Leads k (Put b ∷ more) k' = Leads (after_block k (length (packet_of (Put b)))) more k'
Leads k (Say bytes ∷ more) k' = (m : Said) × (bytes ≡ message_text m) × IsTrueOf k m × Leads (after_message k m) more k'
Leads k (Finish ∷ more) k' = Leads k more k'
Leads k (Remove name ∷ more) k' = Leads k more k'

leads_true : (k : Known) (xs : List Act) (k' : Known) → Leads k xs k' → MessagesAreTrue k xs
leads_true k [] k' w = tt
leads_true k (Create name ∷ xs) k' w = leads_true (after_creation k name) xs k' w
leads_true k (Put b ∷ xs) k' w = leads_true (after_block k (length (packet_of (Put b)))) xs k' w
leads_true k (Say bytes ∷ xs) k' w = (w.0, w.1, w.2, leads_true (after_message k w.0) xs k' w.3)
leads_true k (Finish ∷ xs) k' w = leads_true k xs k' w
leads_true k (Remove name ∷ xs) k' w = leads_true k xs k' w

both : (k : Known) (xs : List Act) (k' : Known) (ys : List Act) (k'' : Known) → Leads k xs k' → Leads k' ys k'' → Leads k (xs ++ ys) k''
both k [] k' ys k'' w v = subst (λ (z : Known). Leads z ys k'') (sym w) v
both k (Create name ∷ xs) k' ys k'' w v = both (after_creation k name) xs k' ys k'' w v
both k (Put b ∷ xs) k' ys k'' w v = both (after_block k (length (packet_of (Put b)))) xs k' ys k'' w v
both k (Say bytes ∷ xs) k' ys k'' w v = (w.0, w.1, w.2, both (after_message k w.0) xs k' ys k'' w.3 v)
both k (Finish ∷ xs) k' ys k'' w v = both k xs k' ys k'' w v
both k (Remove name ∷ xs) k' ys k'' w v = both k xs k' ys k'' w v

-- so many packets were put, and so many counted
abbrev with_put : Known → ℕ → Known
with_put k n = record k { put = n }

abbrev with_counted : Known → ℕ → Known
with_counted k n = record k { counted = n }

leads_puts : (k : Known) (bs : List Block) (n : ℕ) → k.put + length (block_packets bs) ≡ n → Leads k (puts bs) (with_put k n)
leads_puts k [] n e = ap (λ (z : ℕ). with_put k z) (let a : k.put + 0 ≡ n = e in let b : k.put ≡ n = omega arith in b)
leads_puts k (b ∷ bs) n e = leads_puts (after_block k (length (packet_of (Put b)))) bs n (let a : length (block_packets (b ∷ bs)) ≡ length (packet_of (Put b)) + length (block_packets bs) = length-append (packet_of (Put b)) (block_packets bs) in omega arith)

-- blocks without packets
leads_none : (k : Known) (bs : List Block) → length (block_packets bs) ≡ 0 → Leads k (puts bs) k
leads_none k bs e = leads_puts k bs k.put (omega arith)

leads_removal : (k : Known) (o : Option (List ℕ)) → Leads k (removal o) k
leads_removal k None = refl
leads_removal k (Some name) = refl

no_tail : (n now : ℕ) (is : List Iface) (cs : List Counts) → length (block_packets (tail_from n now is cs)) ≡ 0
no_tail n now [] cs = refl
no_tail n now (i ∷ is) [] = refl
no_tail n now (i ∷ is) (c ∷ cs) = no_tail (n + 1) now is cs

no_head : (is : List Iface) → length (block_packets (head is)) ≡ 0
no_head is = go is where
  go : (is : List Iface) → length (block_packets (map block.Interface is)) ≡ 0
  go [] = refl
  go (i ∷ is) = go is

leads_end : (k : Known) (before : Past) (now : ℕ) (cs : List Counts) → Leads k (end_file before now cs) k
unfolding tail
leads_end k before now cs = both k (puts (tail_from 0 now (ifaces before) cs)) k (Finish ∷ []) k (leads_none k (tail_from 0 now (ifaces before) cs) (no_tail 0 now (ifaces before) cs)) refl

-- a new file, which is named where messages go out
abbrev with_file : Known → Bool → List ℕ → Known
with_file k on name = record { created = Some name; put = 0; named = if on then Some name else k.named; counted = if on then 0 else k.counted }

leads_start : (s : Settings) (on : Bool) (number start : ℕ) (is : List Iface) (k : Known) → Leads k (start_file s on number start is) (with_file k on (file_name s number start))
unfolding start_file
leads_start s true number start is k = let name : List ℕ = file_name s number start in
    both (after_creation k name) (say true (message.File name)) (with_file k true name) (puts (head is)) (with_file k true name) (message.File name, refl, (refl, refl), refl) (leads_none (with_file k true name) (head is) (no_head is))
leads_start s false number start is k = leads_none (after_creation k (file_name s number start)) (head is) (no_head is)

leads_count : (on : Bool) (n : ℕ) (k : Known) → (on ≡ true → 0 < n → (k.named ≡ k.created) × (k.counted + n ≡ k.put)) → n ≤ 64 → Leads k (say_count on n) (with_counted k (if on then k.counted + n else k.counted))
leads_count true zero k e few = ap (λ (z : ℕ). with_counted k z) (let a : k.counted ≡ k.counted + 0 = omega arith in a)
leads_count false zero k e few = refl
leads_count true (suc n) k e few = let v = e refl (omega arith) in (message.Count (suc n), refl, (v.0, v.1, few), refl)
leads_count false (suc n) k e few = refl

-- messages that name nothing and count nothing
abbrev pub IsQuiet : Said → Type 0
IsQuiet (message.File name) = ⊥
IsQuiet (message.Count n) = ⊥
IsQuiet other = Unit {0}

abbrev pub AreQuiet : List Said → Type 0
AreQuiet [] = Unit {0}
AreQuiet (m ∷ ms) = IsQuiet m × AreQuiet ms

pub quiet_both : (xs ys : List Said) → AreQuiet xs → AreQuiet ys → AreQuiet (xs ++ ys)
quiet_both [] ys p q = q
quiet_both (x ∷ xs) ys p q = (p.0, quiet_both xs ys p.1 q)

quiet_interfaces : (n : ℕ) (is : List Iface) (cs : List Counts) → AreQuiet (of_interfaces drops_message n is cs)
quiet_interfaces n [] cs = tt
quiet_interfaces n (i ∷ is) [] = tt
quiet_interfaces n (i ∷ is) (c ∷ cs) = (tt, quiet_interfaces (n + 1) is cs)

quiet_early : (name : List ℕ) (how : Option How) → AreQuiet (of_early early_message name how)
quiet_early name None = tt
quiet_early name (Some how) = go (is_early how) where
  go : (b : Bool) → AreQuiet (if b then early_message name how ∷ [] else [])
  go true = (tt, tt)
  go false = tt

quiet_sources : (n : ℕ) (ns : List (List ℕ)) (ends : List SourceEnd) → AreQuiet (of_sources early_message n ns ends)
quiet_sources n [] ends = tt
quiet_sources n (name ∷ ns) ends = quiet_both (of_early early_message name (ending_of n ends)) (of_sources early_message (n + 1) ns ends) (quiet_early name (ending_of n ends)) (quiet_sources (n + 1) ns ends)

pub quiet_closing : (ns : List (List ℕ)) (is : List Iface) (ends : List SourceEnd) (cs : List Counts) → AreQuiet (closing_messages ns is ends cs)
unfolding closing_messages
quiet_closing ns is ends cs = quiet_both (of_interfaces drops_message 0 is cs) (of_sources early_message 0 ns ends) (quiet_interfaces 0 is cs) (quiet_sources 0 ns ends)

-- what is known fits what is said
abbrev pub IsTold : Known → Type 0
IsTold k = (k.named ≡ k.created) × (k.counted ≤ k.put)

true_quiet : (k : Known) (m : Said) → IsQuiet m → IsTold k → IsTrueOf k m × (after_message k m ≡ k)
true_quiet k (message.File name) q is = absurd q
true_quiet k (message.Count n) q is = absurd q
true_quiet k (message.Drops n name) q is = (is, refl)
true_quiet k (message.Error a b) q is = (is, refl)

leads_quiet : (k : Known) (ms : List Said) → AreQuiet ms → IsTold k → Leads k (map say_message ms) k
leads_quiet k [] q is = refl
leads_quiet k (m ∷ ms) q is = let w = true_quiet k m q.0 is in (m, refl, w.0, subst (λ (z : Known). Leads z (map say_message ms) k) (sym w.1) (leads_quiet k ms q.1 is))

-- ---- the counts of the Takes

full_by : (a n k : ℕ) (full : Bool) → ((n + 1) % 64 == 0) ≡ full → a + n % 64 ≡ k → 0 < (if full then 64 else 0) → a + (if full then 64 else 0) ≡ k + 1
full_by a n k true e h lt = let z : (n + 1) % 64 ≡ 0 = grind (arith, nat_tests) in omega arith
full_by a n k false e h lt = absurd (omega arith)

-- a count of a Take makes the sum the packets of the file
take_counts : (before : Past) (now : ℕ) (t : Taken) → 0 < count_at before t → announced before + count_at before t ≡ file_packets (before ▹ E.Take now t)
take_counts before now (T.Item (I.Packet p)) lt = full_by (announced before) (since_empty before) (file_packets before) ((since_empty before + 1) % 64 == 0) refl (sums before) lt
take_counts before now (T.Item (I.Iface n i)) lt = absurd (omega arith)
take_counts before now (T.Item (I.Ended n how)) lt = absurd (omega arith)
take_counts before now T.Empty lt = sums before
take_counts before now T.Done lt = absurd (omega arith)

-- the packets of a Take's block
take_packets : (before : Past) (now : ℕ) (t : Taken) → file_packets before + length (block_packets (block_of t)) ≡ file_packets (before ▹ E.Take now t)
take_packets before now (T.Item (I.Packet p)) = refl
take_packets before now (T.Item (I.Iface n i)) = omega arith
take_packets before now (T.Item (I.Ended n how)) = omega arith
take_packets before now T.Empty = omega arith
take_packets before now T.Done = omega arith

-- ---- the state behind the entries

abbrev IsWriting : Due → Type 0
IsWriting dues.Take = Unit {0}
IsWriting (dues.Stop why) = Unit {0}
IsWriting dues.SwitchTally = Unit {0}
IsWriting other = ⊥

abbrev IsTaking : Due → Type 0
IsTaking dues.Take = Unit {0}
IsTaking (dues.Stop why) = Unit {0}
IsTaking other = ⊥

taking_writes : (d : Due) → IsTaking d → IsWriting d
taking_writes dues.Take k = tt
taking_writes (dues.Stop w) k = tt
taking_writes dues.SwitchTally k = absurd k
taking_writes dues.LastTally k = absurd k
taking_writes dues.ClosingTally k = absurd k
taking_writes dues.Over k = absurd k

-- no fault of a file, and memory enough
abbrev IsGoing : Past → Type 0
IsGoing past = (file_lost past ≡ false) × (memory_lost past ≡ false)

-- what is known behind all acts
pub record Reckoned (s : Settings) (past : Past) : Type 0 where
  pub known : Known
  pub leads : Leads nothing_known (acts s past) known
  pub within : speaks s past ≡ true → IsTold known
  pub put_is : IsGoing past → IsWriting (due s past) → known.put ≡ file_packets past
  pub counted_is : speaks s past ≡ true → IsGoing past → IsTaking (due s past) → known.counted ≡ announced past

module _ (s : Settings) (before : Past) (w : Reckoned s before) where
  -- a piece more
  add : (e : Entry) (k' : Known) → Leads w.known (piece_of s before e) k' → Leads nothing_known (acts s (before ▹ e)) k'
  unfolding acts
  add e k' v = both nothing_known (acts s before) w.known (piece_of s before e) k' w.leads v

  -- an entry without a piece
  still : (e : Entry) → piece_of s before e ≡ [] → Leads nothing_known (acts s (before ▹ e)) w.known
  still e q = add e w.known (subst (λ (xs : List Act). Leads w.known xs w.known) (sym q) refl)

-- ---- Takes

-- behind a Take: so many packets of its file were put, and so many are counted
abbrev behind_take : Known → Bool → ℕ → ℕ → ℕ → Known
behind_take k on put n m = record k { put = put; counted = if on then (k.counted + n) + m else k.counted }

-- no count is above 64
small_count : (before : Past) (t : Taken) → count_at before t ≤ 64
small_count before (T.Item (I.Packet p)) = go ((since_empty before + 1) % 64 == 0) where
  go : (b : Bool) → (if b then 64 else 0) ≤ 64
  go true = omega arith
  go false = omega arith
small_count before (T.Item (I.Iface n i)) = omega arith
small_count before (T.Item (I.Ended n how)) = omega arith
small_count before T.Empty = omega arith
small_count before T.Done = omega arith

small_rest : (s : Settings) (before : Past) (now : ℕ) (t : Taken) → rest_count s before now t ≤ 64
small_rest s before now t = go (is_done t || is_switch (next_after s before now t)) where
  go : (b : Bool) → (if b then since_empty (before ▹ E.Take now t) % 64 else 0) ≤ 64
  go true = omega arith
  go false = omega arith

-- the file, the block and the counts
take_leads : (s : Settings) (going on : Bool) (now : ℕ) (bs : List Block) (n m : ℕ) (k k1 : Known) (put : ℕ) → Leads k (if going then [] else start_file s on 1 now []) k1 → k1.put + length (block_packets bs) ≡ put
    → (on ≡ true → k1.named ≡ k1.created) → (on ≡ true → 0 < n → k1.counted + n ≡ put) → (on ≡ true → 0 < m → (k1.counted + n) + m ≡ put) → n ≤ 64 → m ≤ 64 → Leads k (take_acts s going on now bs n m) (behind_take k1 on put n m)
unfolding take_acts
take_leads s going true now bs n m k k1 put opens q named a b fn fm = both k (if going then [] else start_file s true 1 now []) k1 _ (behind_take k1 true put n m) opens (both k1 (puts bs) (with_put k1 put) _ (behind_take k1 true put n m) (leads_puts k1 bs put q)
    (both (with_put k1 put) (say_count true n) (with_counted (with_put k1 put) (k1.counted + n)) (say_count true m) (behind_take k1 true put n m) (leads_count true n (with_put k1 put) (λ on lt. (named refl, a refl lt)) fn)
    (leads_count true m (with_counted (with_put k1 put) (k1.counted + n)) (λ on lt. (named refl, b refl lt)) fm)))
take_leads s going false now bs n m k k1 put opens q named a b fn fm = both k (if going then [] else start_file s false 1 now []) k1 _ (with_put k1 put) opens (both k1 (puts bs) (with_put k1 put) _ (with_put k1 put) (leads_puts k1 bs put q)
    (both (with_put k1 put) (say_count false n) (with_put k1 put) (say_count false m) (with_put k1 put) (leads_count false n (with_put k1 put) (λ e. cc) fn) (leads_count false m (with_put k1 put) (λ e. cc) fm)))

-- what is left is counted where the file ends
rest_counts : (s : Settings) (before : Past) (now : ℕ) (t : Taken) → 0 < rest_count s before now t → announced (before ▹ E.Take now t) + rest_count s before now t ≡ file_packets (before ▹ E.Take now t)
rest_counts s before now t lt = go (is_done t || is_switch (next_after s before now t)) lt where
  go : (b : Bool) → 0 < (if b then since_empty (before ▹ E.Take now t) % 64 else 0) → announced (before ▹ E.Take now t) + (if b then since_empty (before ▹ E.Take now t) % 64 else 0) ≡ file_packets (before ▹ E.Take now t)
  go true lt = sums (before ▹ E.Take now t)
  go false lt = absurd (omega arith)

counted_within : (s : Settings) (before : Past) (now : ℕ) (t : Taken) → announced (before ▹ E.Take now t) + rest_count s before now t ≤ file_packets (before ▹ E.Take now t)
counted_within s before now t = go (rest_count s before now t) refl where
  go : (n : ℕ) → rest_count s before now t ≡ n → announced (before ▹ E.Take now t) + rest_count s before now t ≤ file_packets (before ▹ E.Take now t)
  go zero e = let a : announced (before ▹ E.Take now t) + since_empty (before ▹ E.Take now t) % 64 ≡ file_packets (before ▹ E.Take now t) = sums (before ▹ E.Take now t) in omega arith
  go (suc n) e = let a : announced (before ▹ E.Take now t) + rest_count s before now t ≡ file_packets (before ▹ E.Take now t) = rest_counts s before now t (omega arith) in omega arith

-- where it goes on, nothing more is counted
none_left : (s : Settings) (before : Past) (now : ℕ) (t : Taken) → IsGoing before → IsTaking (due s (before ▹ E.Take now t)) → rest_count s before now t ≡ 0
unfolding due
none_left s before now t g k = go (is_done t) (next_after s before now t) k where
  done_is : (m f : Bool) → m ≡ false → f ≡ false → IsTaking (if m then dues.Over else if f then dues.ClosingTally else dues.LastTally) → ⊥
  done_is true f a b k = cc
  done_is false true a b k = cc
  done_is false false a b k = k

  go : (b : Bool) (x : Next) → IsTaking (if b then due_done before else due_by x) → (if b || is_switch x then since_empty (before ▹ E.Take now t) % 64 else 0) ≡ 0
  go true x k = absurd (done_is (memory_lost before) (file_lost before) g.1 g.0 k)
  go false next.Stay k = refl
  go false next.Switch k = absurd k
  go false (next.Stop w) k = refl

on_same : {A : Type 0} (on : Bool) (a b : A) → on ≡ true → (if on then a else b) ≡ a
on_same true a b e = refl
on_same false a b e = cc

-- a Take, where the file's packets and counts are known behind its opening
take_by : (s : Settings) (before : Past) (w : Reckoned s before) (now : ℕ) (t : Taken) (k : Known) → IsGoing before → k.put ≡ file_packets before → (speaks s before ≡ true → (k.named ≡ k.created) × (k.counted ≡ announced before))
    → Leads w.known (if begun before then [] else start_file s (speaks s before) 1 now []) k → Reckoned s (before ▹ E.Take now t)
unfolding piece
take_by s before w now t k g put said opens = record {
  known = behind_take k (speaks s before) (file_packets (before ▹ E.Take now t)) (count_at before t) (rest_count s before now t);
  leads = add s before w (E.Take now t) _ (subst (λ (b : Bool). Leads w.known (if b then [] else take_piece s before now t) (behind_take k (speaks s before) (file_packets (before ▹ E.Take now t)) (count_at before t) (rest_count s before now t)))
      (sym (ap (λ (b : Bool). b || file_lost before) g.1 ∙ g.0))
      (take_leads s (begun before) (speaks s before) now (block_of t) (count_at before t) (rest_count s before now t) w.known k (file_packets (before ▹ E.Take now t)) opens
      (ap (λ (z : ℕ). z + length (block_packets (block_of t))) put ∙ take_packets before now t)
      (λ on. (said on).0)
      (λ on lt. ap (λ (z : ℕ). z + count_at before t) (said on).1 ∙ take_counts before now t lt)
      (λ on lt. ap (λ (z : ℕ). (z + count_at before t) + rest_count s before now t) (said on).1 ∙ rest_counts s before now t lt) (small_count before t) (small_rest s before now t)));
  within = λ on. ((said on).0, subst (λ (z : ℕ). z ≤ file_packets (before ▹ E.Take now t)) (sym (on_same (speaks s before) _ _ on ∙ ap (λ (z : ℕ). (z + count_at before t) + rest_count s before now t) (said on).1)) (counted_within s before now t));
  put_is = λ q d. refl;
  counted_is = λ on q d. on_same (speaks s before) _ _ on ∙ ap (λ (z : ℕ). (z + count_at before t) + rest_count s before now t) (said on).1 ∙ (let z : rest_count s before now t ≡ 0 = none_left s before now t g d in omega arith);
}

-- a Take behind a fault
take_lost : (s : Settings) (before : Past) (w : Reckoned s before) (now : ℕ) (t : Taken) → memory_lost before || file_lost before ≡ true → Reckoned s (before ▹ E.Take now t)
unfolding piece
take_lost s before w now t q = record {
  known = w.known;
  leads = still s before w (E.Take now t) (ap (λ (b : Bool). if b then [] else take_piece s before now t) q);
  within = w.within;
  put_is = λ g k. absurd (lost g);
  counted_is = λ on g k. absurd (lost g);
} where
  lost : IsGoing before → ⊥
  lost g = let z : false ≡ true = sym (ap (λ (b : Bool). b || file_lost before) g.1 ∙ g.0) ∙ q in cc

going_parts : (m f : Bool) → m || f ≡ false → (f ≡ false) × (m ≡ false)
going_parts true f e = cc
going_parts false f e = (e, refl)

-- ---- Tallies

tally_by : (s : Settings) (before : Past) (w : Reckoned s before) (now : ℕ) (cs : List Counts) (d : Due) → due s before ≡ d → s.sync ≡ true → memory_lost before ≡ false → IsTally d → Reckoned s (before ▹ E.Tally now cs)
unfolding piece tally_piece closing due
tally_by s before w now cs dues.SwitchTally e sync m k = record {
  known = with_file w.known (speaks s before) (file_name s (number before + 1) now);
  leads = add s before w (E.Tally now cs) _ (rw (m, e) (both w.known (end_file before now cs) w.known _ (with_file w.known (speaks s before) (file_name s (number before + 1) now)) (leads_end w.known before now cs)
      (both w.known (removal (leaving s.switch.keep (names s before))) w.known _ (with_file w.known (speaks s before) (file_name s (number before + 1) now)) (leads_removal w.known (leaving s.switch.keep (names s before)))
      (leads_start s (speaks s before) (number before + 1) now (ifaces before) w.known))));
  within = λ on. (on_same (speaks s before) _ _ on, subst (λ (z : ℕ). z ≤ 0) (sym (on_same (speaks s before) 0 w.known.counted on)) (omega arith));
  put_is = λ g q. refl;
  counted_is = λ on g q. on_same (speaks s before) 0 w.known.counted on;
}
tally_by s before w now cs dues.LastTally e sync m k = record {
  known = w.known;
  leads = add s before w (E.Tally now cs) _ (rw (m, e) (leads_end w.known before now cs));
  within = w.within;
  put_is = λ g q. absurd (rw e at q);
  counted_is = λ on g q. absurd (rw e at q);
}
tally_by s before w now cs dues.ClosingTally e sync m k = record {
  known = w.known;
  leads = add s before w (E.Tally now cs) _ (rw (m, e, sync) (says_by (listener_lost before) refl));
  within = w.within;
  put_is = λ g q. absurd (rw e at q);
  counted_is = λ on g q. absurd (rw e at q);
} where
  says_by : (b : Bool) → listener_lost before ≡ b → Leads w.known (if b then [] else map say_message (closing_messages s.sources (ifaces before) (endings before) cs)) w.known
  says_by true q = refl
  says_by false q = leads_quiet w.known (closing_messages s.sources (ifaces before) (endings before) cs) (quiet_closing s.sources (ifaces before) (endings before) cs) (w.within (ap (λ (b : Bool). b && not (listener_lost before)) sync ∙ ap not q))
tally_by s before w now cs dues.Take e sync m k = absurd k
tally_by s before w now cs (dues.Stop why) e sync m k = absurd k
tally_by s before w now cs dues.Over e sync m k = absurd k

tally_lost : (s : Settings) (before : Past) (w : Reckoned s before) (now : ℕ) (cs : List Counts) → memory_lost before ≡ true → Reckoned s (before ▹ E.Tally now cs)
unfolding piece
tally_lost s before w now cs m = record {
  known = w.known;
  leads = still s before w (E.Tally now cs) (ap (λ (b : Bool). if b then [] else tally_piece s (held (length (names s before))) before now cs) m);
  within = w.within;
  put_is = λ g k. let z : true ≡ false = sym m ∙ g.1 in cc;
  counted_is = λ on g k. let z : true ≡ false = sym m ∙ g.1 in cc;
}

-- ---- Stops

fault_by : (s : Settings) (before : Past) (w : Reckoned s before) (l : ℕ) → Reckoned s (before ▹ E.Stop W.FileFault l)
unfolding piece
fault_by s before w l = record {
  known = w.known;
  leads = add s before w (E.Stop W.FileFault l) _ (go (memory_lost before) (speaks s before) refl);
  within = w.within;
  put_is = λ g k. let z : true ≡ false = g.0 in cc;
  counted_is = λ on g k. let z : true ≡ false = g.0 in cc;
} where
  go : (m on : Bool) → speaks s before ≡ on → Leads w.known (if m then [] else say on (message.Error (codes "output failed") (last_of (names s before)))) w.known
  go true on q = refl
  go false true q = (message.Error (codes "output failed") (last_of (names s before)), refl, w.within q, refl)
  go false false q = refl

memory_by : (s : Settings) (before : Past) (w : Reckoned s before) (l : ℕ) → Reckoned s (before ▹ E.Stop W.NoMemory l)
unfolding piece
memory_by s before w l = record {
  known = w.known;
  leads = still s before w (E.Stop W.NoMemory l) refl;
  within = w.within;
  put_is = λ g k. let z : true ≡ false = g.1 in cc;
  counted_is = λ on g k. let z : true ≡ false = g.1 in cc;
}

-- a Take with a message of its own leaves its file
says_writes : (s : Settings) (before : Past) → says s before ≡ true → IsWriting (due s before)
unfolding due
says_writes s nothing q = cc
says_writes s (before ▹ E.Take now t) q = go (is_done t) (next_after s before now t) (has_message s before t) q where
  go : (b : Bool) (x : Next) (h : Bool) → h && not b ≡ true → IsWriting (if b then due_done before else due_by x)
  go true x true q = cc
  go true x false q = cc
  go false next.Stay h q = tt
  go false next.Switch h q = tt
  go false (next.Stop w) h q = tt
says_writes s (before ▹ E.Tally now cs) q = cc
says_writes s (before ▹ E.Stop why l) q = cc
says_writes s (before ▹ E.Join x y z) q = cc
says_writes s (before ▹ E.Offer x y z) q = cc
says_writes s (before ▹ E.End x y) q = cc

silence_by : (s : Settings) (before : Past) (w : Reckoned s before) (l : ℕ) → Reckoned s (before ▹ E.Stop W.SyncFault l)
unfolding piece due
silence_by s before w l = record {
  known = w.known;
  leads = still s before w (E.Stop W.SyncFault l) refl;
  within = λ on. absurd (mute s.sync on);
  put_is = λ g k. w.put_is g (go (says s before) refl k);
  counted_is = λ on g k. absurd (mute s.sync on);
} where
  mute : (b : Bool) → b && false ≡ true → ⊥
  mute true q = cc
  mute false q = cc

  go : (b : Bool) → says s before ≡ b → IsWriting (if b then dues.Take else due s before) → IsWriting (due s before)
  go true q k = says_writes s before q
  go false q k = k

-- a Stop that the conditions asked for
asked_by : (s : Settings) (before : Past) (w : Reckoned s before) (e : Entry) → piece_of s before e ≡ [] → IsTaking (due s before) → (speaks s (before ▹ e) ≡ speaks s before) → (IsGoing (before ▹ e) → IsGoing before)
    → file_packets (before ▹ e) ≡ file_packets before → announced (before ▹ e) ≡ announced before → Reckoned s (before ▹ e)
asked_by s before w e none taking on going fp tc = record {
  known = w.known;
  leads = still s before w e none;
  within = λ q. w.within (sym on ∙ q);
  put_is = λ g k. w.put_is (going g) (taking_writes (due s before) taking) ∙ sym fp;
  counted_is = λ q g k. w.counted_is (sym on ∙ q) (going g) taking ∙ sym tc;
}

-- ---- all entries

take_step : (s : Settings) (before : Past) (now : ℕ) (t : Taken) → IsOrderlySoFar s (before ▹ E.Take now t) → Reckoned s before → Reckoned s (before ▹ E.Take now t)
take_step s before now t o w = go (memory_lost before || file_lost before) refl where
  due_is : due s before ≡ dues.Take
  due_is = o.1

  first : (b : Bool) → begun before ≡ b → IsGoing before → Reckoned s (before ▹ E.Take now t)
  first true b g = take_by s before w now t w.known g (w.put_is g (subst IsWriting (sym due_is) tt)) (λ on. ((w.within on).0, w.counted_is on g (subst IsTaking (sym due_is) tt)))
      (subst (λ (z : Bool). Leads w.known (if z then [] else start_file s (speaks s before) 1 now []) w.known) (sym b) refl)
  first false b g = take_by s before w now t (with_file w.known (speaks s before) (file_name s 1 now)) g (sym (nothing_put before b)) (λ on. (on_same (speaks s before) _ _ on, on_same (speaks s before) 0 w.known.counted on ∙ sym (nothing_counted before b)))
      (subst (λ (z : Bool). Leads w.known (if z then [] else start_file s (speaks s before) 1 now []) (with_file w.known (speaks s before) (file_name s 1 now))) (sym b) (leads_start s (speaks s before) 1 now [] w.known)) where
        nothing_put : (p : Past) → begun p ≡ false → file_packets p ≡ 0
        nothing_put nothing q = refl
        nothing_put (p ▹ e) q = cc

        nothing_counted : (p : Past) → begun p ≡ false → announced p ≡ 0
        nothing_counted nothing q = refl
        nothing_counted (p ▹ e) q = cc

  go : (b : Bool) → memory_lost before || file_lost before ≡ b → Reckoned s (before ▹ E.Take now t)
  go true q = take_lost s before w now t q
  go false q = first (begun before) refl (going_parts (memory_lost before) (file_lost before) q)

tally_step : (s : Settings) (before : Past) (now : ℕ) (cs : List Counts) → s.sync ≡ true → IsOrderlySoFar s (before ▹ E.Tally now cs) → Reckoned s before → Reckoned s (before ▹ E.Tally now cs)
tally_step s before now cs sync o w = go (memory_lost before) refl where
  go : (b : Bool) → memory_lost before ≡ b → Reckoned s (before ▹ E.Tally now cs)
  go true q = tally_lost s before w now cs q
  go false q = tally_by s before w now cs (due s before) refl sync q o.1.0

pub reckoned : (s : Settings) (past : Past) → s.sync ≡ true → IsOrderlySoFar s past → Reckoned s past
unfolding acts piece due
reckoned s nothing sync o = record { known = nothing_known; leads = refl; within = λ on. (refl, omega arith); put_is = λ g k. refl; counted_is = λ on g k. refl }
reckoned s (before ▹ E.Take now t) sync o = take_step s before now t o (reckoned s before sync o.0)
reckoned s (before ▹ E.Tally now cs) sync o = tally_step s before now cs sync o (reckoned s before sync o.0)
reckoned s (before ▹ E.Stop W.FileFault l) sync o = fault_by s before (reckoned s before sync o.0) l
reckoned s (before ▹ E.Stop W.NoMemory l) sync o = memory_by s before (reckoned s before sync o.0) l
reckoned s (before ▹ E.Stop W.SyncFault l) sync o = silence_by s before (reckoned s before sync o.0) l
reckoned s (before ▹ E.Stop W.Packets l) sync o = asked_by s before (reckoned s before sync o.0) (E.Stop W.Packets l) refl (subst IsTaking (sym o.1.2.1) tt) refl (λ g. g) refl refl
reckoned s (before ▹ E.Stop W.Filesize l) sync o = asked_by s before (reckoned s before sync o.0) (E.Stop W.Filesize l) refl (subst IsTaking (sym o.1.2.1) tt) refl (λ g. g) refl refl
reckoned s (before ▹ E.Stop W.Duration l) sync o = asked_by s before (reckoned s before sync o.0) (E.Stop W.Duration l) refl (subst IsTaking (sym o.1.2.1) tt) refl (λ g. g) refl refl
reckoned s (before ▹ E.Stop W.Files l) sync o = asked_by s before (reckoned s before sync o.0) (E.Stop W.Files l) refl (subst IsTaking (sym o.1.2.1) tt) refl (λ g. g) refl refl
reckoned s (before ▹ E.Join x y z) sync o = absurd o.1
reckoned s (before ▹ E.Offer x y z) sync o = absurd o.1
reckoned s (before ▹ E.End x y) sync o = absurd o.1

pub said_is_true : (s : Settings) (past : Past) → s.sync ≡ true → IsOrderlySoFar s past → MessagesAreTrue nothing_known (acts s past)
said_is_true s past sync o = let w = reckoned s past sync o in leads_true nothing_known (acts s past) w.known w.leads
