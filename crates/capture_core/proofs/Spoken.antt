-- What is said for the writer's entries, where a message failed or a call on a file.
use Rattle.std.proofs.Common.{◌≡◌, inl, inr, ℕ, zero, suc, ◌+◌, ◌-◌, ◌<◌, nat_lt, Bool, true, false, not, ◌||◌, ◌&&◌, if◌then◌else◌, Option, Some, None, List, [], ◌∷◌, ◌++◌, length, take, drop, refl, sym, ap, ◌∙◌, subst}
use Rattle.std.specs.Prelude.{codes}
use Rattle.std.proofs.lemmas.Bool.{ltb-true}
use Rattle.std.proofs.lemmas.List.{take-append-drop}
use Rattle.cap_base.specs.declared.counts.Counts.{Counts}
use Rattle.cap_base.specs.declared.interface.Iface.{Iface}
use Rattle.cap_base.specs.declared.settings.Settings.{Settings}
use Rattle.cap_base.specs.declared.entries.Why.TheVariants as W
use Rattle.cap_base.specs.declared.entries.Entry.{Entry}
use Rattle.cap_base.specs.declared.entries.Entry.TheVariants as E
use Rattle.pcapng_blocks.specs.declared.block.Block.{Block}
use Rattle.ring_files.specs.KeptNames.{leaving}
use Rattle.sync_pipe.specs.declared.said.Said.{Said}
use Rattle.sync_pipe.specs.declared.said.Said.TheVariants as message
use Rattle.capture_desk.specs.declared.acts.Act.{Act}
use Rattle.capture_desk.specs.declared.acts.Act.TheVariants.{Create, Put, Finish, Remove, Say}
use Rattle.capture_desk.specs.declared.due.Due.{Due}
use Rattle.capture_desk.specs.declared.due.Due.TheVariants as dues
use Rattle.capture_desk.specs.Past.{Past, nothing, ◌▹◌}
use Rattle.capture_desk.specs.Doing.{puts, packet_of, unsaid}
use Rattle.capture_desk.specs.Files.{begun, ifaces, head, number, held, block_of}
use Rattle.capture_desk.specs.Due.{count_at, file_lost, listener_lost, memory_lost, due}
use Rattle.capture_desk.specs.Acts.{last_of, names, speaks, say, say_count, rest_count, start_file, take_acts, take_piece, tail, end_file, removal, closing, tally_piece, piece, piece_of, acts}
use Rattle.capture_desk.specs.Orderly.{IsOrderlySoFar}
use Rattle.capture_desk.specs.Cuts.{has_say, heard, plain, silenced, said_acts}
use Rattle.capture_desk.proofs.Replayed.{said_all}
use Rattle.capture_core.specs.Views.{Known, nothing_known, after_creation, after_block, after_message}
use Rattle.capture_core.proofs.Announced.{Leads, reckoned}
use Rattle.capture_core.proofs.Cut.{plain_is}
use Rattle.capture_core.proofs.Messages.{some_left}
use Rattle.capture_core.proofs.Walked.{Mode, Tells, created_mode, put_mode, tells_both}

-- ---- acts without messages

pub silent_both : (xs ys : List Act) → has_say xs ≡ false → has_say ys ≡ false → has_say (xs ++ ys) ≡ false
silent_both [] ys a b = b
silent_both (Say m ∷ xs) ys a b = cc
silent_both (Create name ∷ xs) ys a b = silent_both xs ys a b
silent_both (Put c ∷ xs) ys a b = silent_both xs ys a b
silent_both (Finish ∷ xs) ys a b = silent_both xs ys a b
silent_both (Remove name ∷ xs) ys a b = silent_both xs ys a b

silent_puts : (bs : List Block) → has_say (puts bs) ≡ false
silent_puts [] = refl
silent_puts (b ∷ bs) = silent_puts bs

pub silent_unsaid : (xs : List Act) → has_say (unsaid xs) ≡ false
silent_unsaid [] = refl
silent_unsaid (Say m ∷ xs) = silent_unsaid xs
silent_unsaid (Create name ∷ xs) = silent_unsaid xs
silent_unsaid (Put c ∷ xs) = silent_unsaid xs
silent_unsaid (Finish ∷ xs) = silent_unsaid xs
silent_unsaid (Remove name ∷ xs) = silent_unsaid xs

silent_count : (n : ℕ) → has_say (say_count false n) ≡ false
silent_count zero = refl
silent_count (suc n) = refl

silent_start : (s : Settings) (k start : ℕ) (is : List Iface) → has_say (start_file s false k start is) ≡ false
unfolding start_file
silent_start s k start is = silent_puts (head is)

silent_start_off : (s : Settings) (on : Bool) (k start : ℕ) (is : List Iface) → on ≡ false → has_say (start_file s on k start is) ≡ false
silent_start_off s true k start is e = cc
silent_start_off s false k start is e = silent_start s k start is

silent_say : (on : Bool) (m : Said) → on ≡ false → has_say (say on m) ≡ false
silent_say true m e = cc
silent_say false m e = refl

silent_opens : (b : Bool) (xs : List Act) → has_say xs ≡ false → has_say (if b then [] else xs) ≡ false
silent_opens true xs e = refl
silent_opens false xs e = e

silent_take : (s : Settings) (going on : Bool) (now : ℕ) (bs : List Block) (n m : ℕ) → on ≡ false → has_say (take_acts s going on now bs n m) ≡ false
unfolding take_acts
silent_take s going true now bs n m e = cc
silent_take s going false now bs n m e = silent_both (if going then [] else start_file s false 1 now []) (puts bs ++ (say_count false n ++ say_count false m)) (silent_opens going (start_file s false 1 now []) (silent_start s 1 now []))
    (silent_both (puts bs) (say_count false n ++ say_count false m) (silent_puts bs) (silent_both (say_count false n) (say_count false m) (silent_count n) (silent_count m)))

silent_end : (before : Past) (now : ℕ) (cs : List Counts) → has_say (end_file before now cs) ≡ false
silent_end before now cs = silent_both (puts (tail (ifaces before) now cs)) (Finish ∷ []) (silent_puts (tail (ifaces before) now cs)) refl

silent_removal : (o : Option (List ℕ)) → has_say (removal o) ≡ false
silent_removal None = refl
silent_removal (Some name) = refl

off : (b c : Bool) → c ≡ true → b && not c ≡ false
off true true e = refl
off false true e = refl
off b false e = cc

module _ (s : Settings) (files : ℕ) (before : Past) (lost : listener_lost before ≡ true) where
  quiet : speaks s before ≡ false
  quiet = off s.sync (listener_lost before) lost

  silent_tally : (now : ℕ) (cs : List Counts) (d : Due) → due s before ≡ d → has_say (tally_piece s files before now cs) ≡ false
  unfolding tally_piece closing
  silent_tally now cs dues.SwitchTally e = rw e (silent_both (end_file before now cs) (removal (leaving s.switch.keep (names s before)) ++ start_file s (speaks s before) (number before + 1) now (ifaces before)) (silent_end before now cs)
      (silent_both (removal (leaving s.switch.keep (names s before))) (start_file s (speaks s before) (number before + 1) now (ifaces before)) (silent_removal (leaving s.switch.keep (names s before))) (silent_start_off s (speaks s before) (number before + 1) now (ifaces before) quiet)))
  silent_tally now cs dues.LastTally e = rw e (silent_end before now cs)
  silent_tally now cs dues.ClosingTally e = rw (e, lost) refl
  silent_tally now cs dues.Take e = rw e refl
  silent_tally now cs (dues.Stop w) e = rw e refl
  silent_tally now cs dues.Over e = rw e refl

  -- behind a message that failed none is said
  pub silent_piece : (last : List ℕ) (e : Entry) → has_say (piece s last files before e) ≡ false
  unfolding piece
  silent_piece last (E.Take now t) = silent_opens (memory_lost before || file_lost before) (take_piece s before now t) (silent_take s (begun before) (speaks s before) now (block_of t) (count_at before t) (rest_count s before now t) quiet)
  silent_piece last (E.Tally now cs) = silent_opens (memory_lost before) (tally_piece s files before now cs) (silent_tally now cs (due s before) refl)
  silent_piece last (E.Stop W.FileFault l) = silent_opens (memory_lost before) (say (speaks s before) (message.Error (codes "output failed") last)) (silent_say (speaks s before) (message.Error (codes "output failed") last) quiet)
  silent_piece last (E.Stop W.NoMemory l) = refl
  silent_piece last (E.Stop W.SyncFault l) = refl
  silent_piece last (E.Stop W.Packets l) = refl
  silent_piece last (E.Stop W.Filesize l) = refl
  silent_piece last (E.Stop W.Duration l) = refl
  silent_piece last (E.Stop W.Files l) = refl
  silent_piece last (E.Join x y z) = refl
  silent_piece last (E.Offer x y z) = refl
  silent_piece last (E.End x y) = refl

-- ---- messages that are true

pub leads_tells : (k : Known) (xs : List Act) (k' : Known) → Leads k xs k' → Tells (Some k) xs (Some k')
leads_tells k [] k' w = ap Some w
leads_tells k (Create name ∷ xs) k' w = leads_tells (after_creation k name) xs k' w
leads_tells k (Put b ∷ xs) k' w = leads_tells (after_block k (length (packet_of (Put b)))) xs k' w
leads_tells k (Say b ∷ xs) k' w = inl (w.0, w.1, w.2, leads_tells (after_message k w.0) xs k' w.3)
leads_tells k (Finish ∷ xs) k' w = leads_tells k xs k' w
leads_tells k (Remove name ∷ xs) k' w = leads_tells k xs k' w

pub leads_parts : (k : Known) (xs ys : List Act) (k'' : Known) → Leads k (xs ++ ys) k'' → (k' : Known) × Leads k xs k' × Leads k' ys k''
leads_parts k [] ys k'' w = (k, refl, w)
leads_parts k (Create name ∷ xs) ys k'' w = leads_parts (after_creation k name) xs ys k'' w
leads_parts k (Put b ∷ xs) ys k'' w = leads_parts (after_block k (length (packet_of (Put b)))) xs ys k'' w
leads_parts k (Say b ∷ xs) ys k'' w = let v = leads_parts (after_message k w.0) xs ys k'' w.3 in (v.0, (w.0, w.1, w.2, v.1), v.2)
leads_parts k (Finish ∷ xs) ys k'' w = leads_parts k xs ys k'' w
leads_parts k (Remove name ∷ xs) ys k'' w = leads_parts k xs ys k'' w

-- acts that say nothing
pub silent_tells : (st : Mode) (xs : List Act) → has_say xs ≡ false → (st' : Mode) × Tells st xs st'
silent_tells st [] e = (st, refl)
silent_tells st (Say m ∷ xs) e = cc
silent_tells st (Create name ∷ xs) e = silent_tells (created_mode st name) xs e
silent_tells st (Put b ∷ xs) e = silent_tells (put_mode st (length (packet_of (Put b)))) xs e
silent_tells st (Finish ∷ xs) e = silent_tells st xs e
silent_tells st (Remove name ∷ xs) e = silent_tells st xs e

-- messages of which only so many bytes are said
heard_tells : (n : ℕ) (k : Known) (xs : List Act) (k' : Known) → Leads k xs k' → (st : Mode) × Tells (Some k) (heard n xs) st
heard_tells n k [] k' w = (Some k, refl)
heard_tells n k (Create name ∷ xs) k' w = heard_tells n (after_creation k name) xs k' w
heard_tells n k (Put b ∷ xs) k' w = heard_tells n (after_block k (length (packet_of (Put b)))) xs k' w
heard_tells n k (Finish ∷ xs) k' w = heard_tells n k xs k' w
heard_tells n k (Remove name ∷ xs) k' w = heard_tells n k xs k' w
heard_tells n k (Say m ∷ xs) k' w = go (nat_lt n (length m)) refl (heard_tells (n - length m) (after_message k w.0) xs k' w.3) where
  go : (b : Bool) → nat_lt n (length m) ≡ b → ((st : Mode) × Tells (Some (after_message k w.0)) (heard (n - length m) xs) st) → (st : Mode) × Tells (Some k) (if b then Say (take n m) ∷ unsaid xs else Say m ∷ heard (n - length m) xs) st
  go true q ih = let v = silent_tells None (unsaid xs) (silent_unsaid xs) in let lt : n < length m = ltb-true n (length m) q in
      (v.0, inr (w.0, drop n m, sym w.1 ∙ sym (take-append-drop n m), some_left n m lt, v.1))
  go false q ih = (ih.0, inl (w.0, w.1, w.2, ih.1))

module _ (s : Settings) (n : ℕ) (sync : s.sync ≡ true) where
  parted : (before : Past) (e : Entry) (k : Known) → Leads nothing_known (acts s (before ▹ e)) k → Leads nothing_known (acts s before ++ piece_of s before e) k
  unfolding acts
  parted before e k x = x

  -- the last piece that says something, cut
  silenced_tells : (past : Past) → IsOrderlySoFar s past → (st : Mode) × Tells (Some nothing_known) (silenced (piece_of s) n past) st
  silenced_tells nothing o = (Some nothing_known, refl)
  silenced_tells (before ▹ e) o = go (has_say (piece_of s before e)) refl (silenced_tells before o.0) where
    go : (b : Bool) → has_say (piece_of s before e) ≡ b → ((st : Mode) × Tells (Some nothing_known) (silenced (piece_of s) n before) st)
        → (st : Mode) × Tells (Some nothing_known) (if b then plain (piece_of s) before ++ heard n (piece_of s before e) else silenced (piece_of s) n before ++ piece_of s before e) st
    go true q v = let w = reckoned s (before ▹ e) sync o in let p = leads_parts nothing_known (acts s before) (piece_of s before e) w.known (parted before e w.known w.leads) in let h = heard_tells n p.0 (piece_of s before e) w.known p.2 in
        (h.0, subst (λ (xs : List Act). Tells (Some nothing_known) (xs ++ heard n (piece_of s before e)) h.0) (sym (plain_is s before)) (tells_both (Some nothing_known) (acts s before) (Some p.0) (heard n (piece_of s before e)) h.0 (leads_tells nothing_known (acts s before) p.0 p.1) h.1))
    go false q v = let x = silent_tells v.0 (piece_of s before e) q in (x.0, tells_both (Some nothing_known) (silenced (piece_of s) n before) v.0 (piece_of s before e) x.0 v.1 x.1)

  -- one piece more
  one_more : (before : Past) (e : Entry) → IsOrderlySoFar s (before ▹ e) → memory_lost before ≡ false → ((st : Mode) × Tells (Some nothing_known) (said_acts (piece_of s) n before) st) → (st : Mode) × Tells (Some nothing_known) (said_acts (piece_of s) n before ++ piece_of s before e) st
  one_more before e o m v = go (listener_lost before) refl where
    whole : Tells (Some nothing_known) (acts s before ++ piece_of s before e) (Some (reckoned s (before ▹ e) sync o).known)
    whole = leads_tells nothing_known (acts s before ++ piece_of s before e) (reckoned s (before ▹ e) sync o).known (parted before e (reckoned s (before ▹ e) sync o).known (reckoned s (before ▹ e) sync o).leads)

    go : (b : Bool) → listener_lost before ≡ b → (st : Mode) × Tells (Some nothing_known) (said_acts (piece_of s) n before ++ piece_of s before e) st
    go false l = (Some (reckoned s (before ▹ e) sync o).known, subst (λ (xs : List Act). Tells (Some nothing_known) (xs ++ piece_of s before e) (Some (reckoned s (before ▹ e) sync o).known)) (sym (said_all s n before l m)) whole)
    go true l = let x = silent_tells v.0 (piece_of s before e) (silent_piece s (held (length (names s before))) before l (last_of (names s before)) e) in (x.0, tells_both (Some nothing_known) (said_acts (piece_of s) n before) v.0 (piece_of s before e) x.0 v.1 x.1)

  -- all that is said where memory was enough
  pub said_tells : (past : Past) → IsOrderlySoFar s past → memory_lost past ≡ false → (st : Mode) × Tells (Some nothing_known) (said_acts (piece_of s) n past) st
  unfolding said_acts
  said_tells nothing o m = (Some nothing_known, refl)
  said_tells (before ▹ E.Stop W.SyncFault l) o m = silenced_tells before o.0
  said_tells (before ▹ E.Stop W.NoMemory l) o m = cc
  said_tells (before ▹ E.Stop W.FileFault l) o m = one_more before (E.Stop W.FileFault l) o m (said_tells before o.0 m)
  said_tells (before ▹ E.Stop W.Packets l) o m = one_more before (E.Stop W.Packets l) o m (said_tells before o.0 m)
  said_tells (before ▹ E.Stop W.Filesize l) o m = one_more before (E.Stop W.Filesize l) o m (said_tells before o.0 m)
  said_tells (before ▹ E.Stop W.Duration l) o m = one_more before (E.Stop W.Duration l) o m (said_tells before o.0 m)
  said_tells (before ▹ E.Stop W.Files l) o m = one_more before (E.Stop W.Files l) o m (said_tells before o.0 m)
  said_tells (before ▹ E.Take now t) o m = one_more before (E.Take now t) o m (said_tells before o.0 m)
  said_tells (before ▹ E.Tally now cs) o m = one_more before (E.Tally now cs) o m (said_tells before o.0 m)
  said_tells (before ▹ E.Join x y z) o m = absurd o.1
  said_tells (before ▹ E.Offer x y z) o m = absurd o.1
  said_tells (before ▹ E.End x y) o m = absurd o.1
