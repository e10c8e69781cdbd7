-- At each finish stand the statistics of a Tally.
use Rattle.std.proofs.Common.{◌≡◌, ◌≢◌, ℕ, ◌+◌, ◌≤◌, arith, length-append, Bool, true, false, ◌||◌, if◌then◌else◌, Option, Some, None, List, [], ◌∷◌, ◌++◌, length, refl, sym, ap, ◌∙◌, subst, append_assoc, ⊎_elim}
use Rattle.std.specs.List.{All}
use Rattle.std.proofs.lemmas.List.{append-nil}
use Rattle.std.proofs.lemmas.List.Sums.{sum_by-cons}
use Rattle.cap_base.proofs.Legals.{legal_front}
use Rattle.std.proofs.lemmas.Bool.{cases_eq}
use Rattle.cap_base.specs.Callers.{own}
use Rattle.cap_base.specs.Effects.{Effect, bytes, saying}
use Rattle.cap_base.specs.Histories.{History}
use Rattle.cap_base.specs.Fates.{counts, taken, lost, lost_of}
use Rattle.cap_base.specs.Legal.{Legal, Answers}
use Rattle.std.proofs.lemmas.List.Elements.{All-cons}
use Rattle.cap_base.specs.Laws.{IsWriters}
use Rattle.cap_base.proofs.Lines.{own_here, own_else, flat_map-push}
use Rattle.cap_base.specs.declared.counts.Counts.{Counts}
use Rattle.cap_base.specs.declared.interface.Iface.{Iface}
use Rattle.cap_base.specs.declared.settings.Settings.{Settings}
use Rattle.cap_base.specs.declared.entries.Why.TheVariants as W
use Rattle.cap_base.specs.declared.entries.Entry.{Entry}
use Rattle.cap_base.specs.declared.entries.Entry.TheVariants as E
use Rattle.pcapng_blocks.specs.declared.block.Block.{Block}
use Rattle.pcapng_blocks.specs.Spelling.{spell}
use Rattle.ring_files.specs.KeptNames.{leaving}
use Rattle.std.specs.Prelude.{codes}
use Rattle.sync_pipe.specs.declared.said.Said.{Said}
use Rattle.sync_pipe.specs.declared.said.Said.TheVariants as message
use Rattle.capture_desk.specs.declared.acts.Act.{Act}
use Rattle.capture_desk.specs.declared.acts.Act.TheVariants.{Create, Put, Finish, Remove, Say}
use Rattle.capture_desk.specs.declared.due.Due.{Due}
use Rattle.capture_desk.specs.declared.due.Due.TheVariants as dues
use Rattle.capture_desk.specs.Past.{Past, nothing, is_own, past}
use Rattle.capture_desk.specs.Doing.{packet_of, packets_put, puts, effects_of_acts, unsaid}
use Rattle.capture_desk.specs.Files.{held, begun, number, ifaces, head, text, block_of}
use Rattle.capture_desk.specs.Due.{count_at, file_lost, memory_lost, due}
use Rattle.capture_desk.specs.Acts.{rest_count, speaks, say, say_count, start_file, take_acts, take_piece, tail, end_file, removal, closing, tally_piece, piece, piece_of, acts, names, last_of}
use Rattle.capture_desk.specs.Orderly.{IsOrderlySoFar}
use Rattle.capture_desk.specs.Cuts as cuts
use Rattle.capture_desk.specs.Files.{packets}
use Rattle.capture_desk.specs.Cuts.{said_acts, is_cut, up_to_cut, piece_behind, DidCut, Which, IsDoneFor}
use Rattle.capture_core.specs.Writers.{writers_past, EndsBehindDone}
use Rattle.capture_core.specs.Statistics.{AtEachFinish, EndsWithCounts}
use Rattle.capture_core.specs.Made.{block_packets}
use Rattle.capture_core.proofs.Taken.{taken_is, lost_is, count_is}
use Rattle.capture_desk.proofs.Replayed.{own_push, others_push}
use Rattle.capture_desk.proofs.Sums.{all_put}
use Rattle.capture_core.proofs.Puts.{no_tail_packets, unsaid_say, unsaid_count, unsaid_closing}
use Rattle.capture_core.proofs.Cut.{IsNoFile, no_file, none_lost, front, more_acts, parts_false, unsaid_all, silent_said, behind_silent}
use Rattle.capture_core.proofs.Counts.{counts_same, taken_same}

-- ---- acts

-- at each Finish this holds of the number of packets put so far, and of the blocks that were put into the file
abbrev pub AtEachEnd : (ℕ → List Block → Type 0) → ℕ → List Block → List Act → Type 0
AtEachEnd Q k bs [] = Unit {0}
AtEachEnd Q k bs (Create name ∷ more) = AtEachEnd Q k [] more
AtEachEnd Q k bs (Put b ∷ more) = AtEachEnd Q (k + length (packet_of (Put b))) (bs ++ b ∷ []) more
AtEachEnd Q k bs (Finish ∷ more) = Q k bs × AtEachEnd Q k bs more
AtEachEnd Q k bs (Remove name ∷ more) = AtEachEnd Q k bs more
AtEachEnd Q k bs (Say m ∷ more) = AtEachEnd Q k bs more

-- no file ends
abbrev NoEnd : List Act → Type 0
NoEnd [] = Unit {0}
NoEnd (Finish ∷ more) = ⊥
NoEnd (Create name ∷ more) = NoEnd more
NoEnd (Put b ∷ more) = NoEnd more
NoEnd (Remove name ∷ more) = NoEnd more
NoEnd (Say m ∷ more) = NoEnd more

no_end_both : (xs ys : List Act) → NoEnd xs → NoEnd ys → NoEnd (xs ++ ys)
no_end_both [] ys p q = q
no_end_both (Finish ∷ xs) ys p q = absurd p
no_end_both (Create name ∷ xs) ys p q = no_end_both xs ys p q
no_end_both (Put b ∷ xs) ys p q = no_end_both xs ys p q
no_end_both (Remove name ∷ xs) ys p q = no_end_both xs ys p q
no_end_both (Say m ∷ xs) ys p q = no_end_both xs ys p q

no_end_puts : (bs : List Block) → NoEnd (puts bs)
no_end_puts [] = tt
no_end_puts (b ∷ bs) = no_end_puts bs

no_end_unsaid : (xs : List Act) → unsaid xs ≡ [] → NoEnd xs
no_end_unsaid [] e = tt
no_end_unsaid (Say m ∷ xs) e = no_end_unsaid xs e
no_end_unsaid (Create name ∷ xs) e = cc
no_end_unsaid (Put b ∷ xs) e = cc
no_end_unsaid (Finish ∷ xs) e = cc
no_end_unsaid (Remove name ∷ xs) e = cc

no_end_start : (s : Settings) (on : Bool) (k start : ℕ) (is : List Iface) → NoEnd (start_file s on k start is)
unfolding start_file
no_end_start s on k start is = no_end_both (say on _) (puts (head is)) (no_end_unsaid (say on _) (unsaid_say on _)) (no_end_puts (head is))

no_end_removal : (o : Option (List ℕ)) → NoEnd (removal o)
no_end_removal None = tt
no_end_removal (Some name) = tt

opens : (b : Bool) (xs : List Act) → NoEnd xs → NoEnd (if b then [] else xs)
opens true xs p = tt
opens false xs p = p

no_end_take : (s : Settings) (going on : Bool) (now : ℕ) (bs : List Block) (n m : ℕ) → NoEnd (take_acts s going on now bs n m)
unfolding take_acts
no_end_take s going on now bs n m = no_end_both (if going then [] else start_file s on 1 now []) (puts bs ++ (say_count on n ++ say_count on m)) (opens going (start_file s on 1 now []) (no_end_start s on 1 now []))
    (no_end_both (puts bs) (say_count on n ++ say_count on m) (no_end_puts bs) (no_end_both (say_count on n) (say_count on m) (no_end_unsaid (say_count on n) (unsaid_count on n)) (no_end_unsaid (say_count on m) (unsaid_count on m))))

module _ (Q : ℕ → List Block → Type 0) where
  goes_on : (k : ℕ) (bs : List Block) (xs : List Act) → NoEnd xs → AtEachEnd Q k bs xs
  goes_on k bs [] p = tt
  goes_on k bs (Finish ∷ xs) p = absurd p
  goes_on k bs (Create name ∷ xs) p = goes_on k [] xs p
  goes_on k bs (Put b ∷ xs) p = goes_on (k + length (packet_of (Put b))) (bs ++ b ∷ []) xs p
  goes_on k bs (Remove name ∷ xs) p = goes_on k bs xs p
  goes_on k bs (Say m ∷ xs) p = goes_on k bs xs p

  -- whatever blocks stand before the second part
  both_ends : (k m : ℕ) (bs : List Block) (xs ys : List Act) → k + length (packets_put xs) ≡ m → AtEachEnd Q k bs xs → ((cs : List Block) → AtEachEnd Q m cs ys) → AtEachEnd Q k bs (xs ++ ys)
  both_ends k m bs [] ys e p q = subst (λ (z : ℕ). AtEachEnd Q z bs ys) (sym (let z : k + 0 ≡ m = e in let y : k ≡ m = omega arith in y)) (q bs)
  both_ends k m bs (Create name ∷ xs) ys e p q = both_ends k m [] xs ys e p q
  both_ends k m bs (Put b ∷ xs) ys e p q = both_ends (k + length (packet_of (Put b))) m (bs ++ b ∷ []) xs ys (let z : length (packets_put (Put b ∷ xs)) ≡ length (packet_of (Put b)) + length (packets_put xs) = length-append (packet_of (Put b)) (packets_put xs) in omega arith) p q
  both_ends k m bs (Finish ∷ xs) ys e p q = (p.0, both_ends k m bs xs ys e p.1 q)
  both_ends k m bs (Remove name ∷ xs) ys e p q = both_ends k m bs xs ys e p q
  both_ends k m bs (Say w ∷ xs) ys e p q = both_ends k m bs xs ys e p q

  front_ends : (k : ℕ) (bs : List Block) (xs ys : List Act) → AtEachEnd Q k bs (xs ++ ys) → AtEachEnd Q k bs xs
  front_ends k bs [] ys p = tt
  front_ends k bs (Create name ∷ xs) ys p = front_ends k [] xs ys p
  front_ends k bs (Put b ∷ xs) ys p = front_ends (k + length (packet_of (Put b))) (bs ++ b ∷ []) xs ys p
  front_ends k bs (Finish ∷ xs) ys p = (p.0, front_ends k bs xs ys p.1)
  front_ends k bs (Remove name ∷ xs) ys p = front_ends k bs xs ys p
  front_ends k bs (Say m ∷ xs) ys p = front_ends k bs xs ys p

  with_says : (k : ℕ) (bs : List Block) (xs : List Act) → AtEachEnd Q k bs (unsaid xs) → AtEachEnd Q k bs xs
  with_says k bs [] p = tt
  with_says k bs (Create name ∷ xs) p = with_says k [] xs p
  with_says k bs (Put b ∷ xs) p = with_says (k + length (packet_of (Put b))) (bs ++ b ∷ []) xs p
  with_says k bs (Finish ∷ xs) p = (p.0, with_says k bs xs p.1)
  with_says k bs (Remove name ∷ xs) p = with_says k bs xs p
  with_says k bs (Say m ∷ xs) p = with_says k bs xs p

  without_says : (k : ℕ) (bs : List Block) (xs : List Act) → AtEachEnd Q k bs xs → AtEachEnd Q k bs (unsaid xs)
  without_says k bs [] p = tt
  without_says k bs (Create name ∷ xs) p = without_says k [] xs p
  without_says k bs (Put b ∷ xs) p = without_says (k + length (packet_of (Put b))) (bs ++ b ∷ []) xs p
  without_says k bs (Finish ∷ xs) p = (p.0, without_says k bs xs p.1)
  without_says k bs (Remove name ∷ xs) p = without_says k bs xs p
  without_says k bs (Say m ∷ xs) p = without_says k bs xs p

  -- no more packets are put before a Finish than by all acts
  bounded : (m k : ℕ) (bs : List Block) (xs : List Act) → k + length (packets_put xs) ≤ m → AtEachEnd Q k bs xs → AtEachEnd (λ j b. Q j b × (j ≤ m)) k bs xs
  bounded m k bs [] e p = tt
  bounded m k bs (Create name ∷ xs) e p = bounded m k [] xs e p
  bounded m k bs (Put b ∷ xs) e p = bounded m (k + length (packet_of (Put b))) (bs ++ b ∷ []) xs (let z : length (packets_put (Put b ∷ xs)) ≡ length (packet_of (Put b)) + length (packets_put xs) = length-append (packet_of (Put b)) (packets_put xs) in omega arith) p
  bounded m k bs (Finish ∷ xs) e p = ((p.0, let y : k + length (packets_put xs) ≤ m = e in omega arith), bounded m k bs xs e p.1)
  bounded m k bs (Remove name ∷ xs) e p = bounded m k bs xs e p
  bounded m k bs (Say w ∷ xs) e p = bounded m k bs xs e p

  ends_with : (k : ℕ) (bs ts : List Block) → length (block_packets ts) ≡ 0 → Q k (bs ++ ts) → AtEachEnd Q k bs (puts ts ++ Finish ∷ [])
  ends_with k bs [] e q = (subst (Q k) (append-nil bs) q, tt)
  ends_with k bs (t ∷ ts) e q = let z : length (block_packets (t ∷ ts)) ≡ length (packet_of (Put t)) + length (block_packets ts) = length-append (packet_of (Put t)) (block_packets ts) in
      subst (λ (m : ℕ). AtEachEnd Q m (bs ++ t ∷ []) (puts ts ++ Finish ∷ [])) (let y : k ≡ k + length (packet_of (Put t)) = omega arith in y) (ends_with k (bs ++ t ∷ []) ts (omega arith) (subst (Q k) (sym (append_assoc bs (t ∷ []) ts)) q))

  -- the piece of a Tally
  module _ (s : Settings) (files : ℕ) (before : Past) (now : ℕ) (cs : List Counts) (memory : memory_lost before ≡ false) (k : ℕ) (ok : (file_lost before ≡ false) × (memory_lost before ≡ false) → (bs : List Block) → Q k (bs ++ tail (ifaces before) now cs)) where
    going : (b : Bool) → file_lost before ≡ b → (IsNoFile (due s before) → ⊥) → (file_lost before ≡ false) × (memory_lost before ≡ false)
    going true q n = absurd (n (no_file s before q))
    going false q n = (q, memory)

    tally_by : (d : Due) → due s before ≡ d → (bs : List Block) → AtEachEnd Q k bs (tally_piece s files before now cs)
    unfolding tally_piece
    tally_by dues.SwitchTally e bs = let next : List Act = start_file s (speaks s before) (number before + 1) now (ifaces before) in let gone : List Act = removal (leaving s.switch.keep (names s before)) in
        rw e (both_ends k _ bs (end_file before now cs) (gone ++ next) refl (ends_with k bs (tail (ifaces before) now cs) (no_tail_packets (ifaces before) now cs) (ok (going (file_lost before) refl (λ n. rw e at n)) bs)) (λ z. goes_on _ z (gone ++ next)
        (no_end_both gone next (no_end_removal (leaving s.switch.keep (names s before))) (no_end_start s (speaks s before) (number before + 1) now (ifaces before)))))
    tally_by dues.LastTally e bs = rw e (ends_with k bs (tail (ifaces before) now cs) (no_tail_packets (ifaces before) now cs) (ok (going (file_lost before) refl (λ n. rw e at n)) bs))
    tally_by dues.ClosingTally e bs = rw e (goes_on k bs (closing s files before cs) (no_end_unsaid (closing s files before cs) (unsaid_closing s files before cs)))
    tally_by dues.Take e bs = rw e tt
    tally_by (dues.Stop w) e bs = rw e tt
    tally_by dues.Over e bs = rw e tt

  unless : (b : Bool) (k : ℕ) (xs : List Act) → (b ≡ false → (bs : List Block) → AtEachEnd Q k bs xs) → (bs : List Block) → AtEachEnd Q k bs (if b then [] else xs)
  unless true k xs p bs = tt
  unless false k xs p bs = p refl bs

  piece_ends : (s : Settings) (before : Past) (e : Entry) (k : ℕ) → ((now : ℕ) (cs : List Counts) → e ≡ E.Tally now cs → (file_lost before ≡ false) × (memory_lost before ≡ false) → (bs : List Block) → Q k (bs ++ tail (ifaces before) now cs)) → (bs : List Block) → AtEachEnd Q k bs (piece_of s before e)
  unfolding piece
  piece_ends s before (E.Take now t) k ok bs = unless (memory_lost before || file_lost before) k (take_piece s before now t) (λ q z. goes_on k z (take_piece s before now t) (no_end_take s (begun before) (speaks s before) now (block_of t) (count_at before t) (rest_count s before now t))) bs
  piece_ends s before (E.Tally now cs) k ok bs = unless (memory_lost before) k (tally_piece s (held (length (names s before))) before now cs) (λ q. tally_by s (held (length (names s before))) before now cs q k (ok now cs refl) (due s before) refl) bs
  piece_ends s before (E.Stop W.FileFault l) k ok bs = let told : Said = message.Error (codes "output failed") (last_of (names s before)) in
      unless (memory_lost before) k (say (speaks s before) told) (λ q z. goes_on k z (say (speaks s before) told) (no_end_unsaid (say (speaks s before) told) (unsaid_say (speaks s before) told))) bs
  piece_ends s before (E.Stop W.NoMemory l) k ok bs = tt
  piece_ends s before (E.Stop W.SyncFault l) k ok bs = tt
  piece_ends s before (E.Stop W.Packets l) k ok bs = tt
  piece_ends s before (E.Stop W.Filesize l) k ok bs = tt
  piece_ends s before (E.Stop W.Duration l) k ok bs = tt
  piece_ends s before (E.Stop W.Files l) k ok bs = tt
  piece_ends s before (E.Join x y z) k ok bs = tt
  piece_ends s before (E.Offer x y z) k ok bs = tt
  piece_ends s before (E.End x y) k ok bs = tt

-- ---- the entries of a history

module _ (s : Settings) (h : History) (legal : Legal s.limits (length s.sources) h) where
  abbrev n : ℕ
  n = length s.sources

  -- the blocks end with the statistics of a Tally, and so many packets were put before it
  pub record Tallied (k : ℕ) (bs : List Block) : Type 0 where
    pub before : History
    pub now : ℕ
    pub behind : History
    pub stands : h ≡ (before ++ (n, E.Tally now (counts before)) ∷ []) ++ behind
    pub going : (file_lost (writers_past n before) ≡ false) × (memory_lost (writers_past n before) ≡ false)
    pub so_far : k ≡ length (packets_put (acts s (writers_past n before)))
    pub front : List Block
    pub is : bs ≡ front ++ tail (ifaces (writers_past n before)) now (counts before)

  Ends : History → Type 0
  Ends f = AtEachEnd Tallied 0 [] (acts s (writers_past n f))

  one_more : (f t : History) (by : ℕ) (e : Entry) → h ≡ (f ++ (by, e) ∷ []) ++ t → Ends f → Ends (f ++ (by, e) ∷ [])
  unfolding Ends acts
  one_more f t by e q w = ⊎_elim mine (λ (ne : by ≢ n). subst (λ (es : List Entry). AtEachEnd Tallied 0 [] (acts s (past es))) (sym (own_else n by f e ne)) w) (cases_eq by n) where
    ok : by ≡ n → (now : ℕ) (cs : List Counts) → e ≡ E.Tally now cs → (file_lost (writers_past n f) ≡ false) × (memory_lost (writers_past n f) ≡ false) → (bs : List Block) → Tallied (length (packets_put (acts s (writers_past n f)))) (bs ++ tail (ifaces (writers_past n f)) now cs)
    ok is now cs k g bs = record {
      before = f;
      now = now;
      behind = t;
      stands = subst (λ (x : ℕ × Entry). h ≡ (f ++ x ∷ []) ++ t) (ap (λ (z : ℕ). (z, e)) is ∙ ap (λ (z : Entry). (n, z)) k ∙ ap (λ (z : List Counts). (n, E.Tally now z)) right) q;
      going = g;
      so_far = refl;
      front = bs;
      is = ap (λ (z : List Counts). bs ++ tail (ifaces (writers_past n f)) now z) right;
    } where
      right : cs ≡ counts f
      right = subst (λ (z : Entry). Answers s.limits n f z) k ((legal f by e t q).1)

    adds : (b : Bool) → is_own e ≡ b → by ≡ n → AtEachEnd Tallied 0 [] (acts s (past (own n f ++ e ∷ [])))
    adds true o is = subst (λ (z : Past). AtEachEnd Tallied 0 [] (acts s z)) (sym (own_push nothing (own n f) e o)) (both_ends Tallied 0 (length (packets_put (acts s (writers_past n f)))) [] (acts s (writers_past n f)) (piece_of s (writers_past n f) e) (omega arith) w
        (piece_ends Tallied s (writers_past n f) e (length (packets_put (acts s (writers_past n f)))) (ok is)))
    adds false o is = subst (λ (z : Past). AtEachEnd Tallied 0 [] (acts s z)) (sym (others_push nothing (own n f) e o)) w

    mine : by ≡ n → Ends (f ++ (by, e) ∷ [])
    mine is = subst (λ (es : List Entry). AtEachEnd Tallied 0 [] (acts s (past es))) (sym (subst (λ (z : ℕ). own n (f ++ (z, e) ∷ []) ≡ own n f ++ e ∷ []) (sym is) (own_here n f e))) (adds (is_own e) refl is)

  all_ends : Ends h
  unfolding Ends acts
  all_ends = go [] h refl tt where
    go : (f t : History) → h ≡ f ++ t → Ends f → Ends h
    go f [] q w = subst Ends (sym (q ∙ append-nil f)) w
    go f (x ∷ t) q w = go (f ++ x ∷ []) t (q ∙ sym (append_assoc f (x ∷ []) t)) (one_more f t x.0 x.1 (q ∙ sym (append_assoc f (x ∷ []) t)) w)

-- ---- effects

module _ (P : List ℕ → Type 0) where
  after_bytes : (b xs : List ℕ) (es : List Effect) → AtEachFinish P (b ++ xs) es → AtEachFinish P b (bytes xs ++ es)
  after_bytes b [] es p = subst (λ (z : List ℕ). AtEachFinish P z es) (append-nil b) p
  after_bytes b (x ∷ xs) es p = after_bytes (b ++ x ∷ []) xs es (subst (λ (z : List ℕ). AtEachFinish P z es) (sym (append_assoc b (x ∷ []) xs)) p)

  after_said : (b xs : List ℕ) (es : List Effect) → AtEachFinish P b es → AtEachFinish P b (saying xs ++ es)
  after_said b [] es p = p
  after_said b (x ∷ xs) es p = after_said b xs es p

  only_said : (b : List ℕ) (xs : List Act) → unsaid xs ≡ [] → AtEachFinish P b (effects_of_acts xs)
  only_said b [] e = tt
  only_said b (Say m ∷ xs) e = after_said b m (effects_of_acts xs) (only_said b xs e)
  only_said b (Create name ∷ xs) e = cc
  only_said b (Put c ∷ xs) e = cc
  only_said b (Finish ∷ xs) e = cc
  only_said b (Remove name ∷ xs) e = cc

  module _ (Q : ℕ → List Block → Type 0) (says : (k : ℕ) (bs : List Block) → Q k bs → P (text bs)) (es : List Effect) (quiet : (b : List ℕ) → AtEachFinish P b es) where
    pub each_finish : (k : ℕ) (bs : List Block) (xs : List Act) → AtEachEnd Q k bs xs → AtEachFinish P (text bs) (effects_of_acts xs ++ es)
    unfolding text
    each_finish k bs [] p = quiet (text bs)
    each_finish k bs (Create name ∷ xs) p = each_finish k [] xs p
    each_finish k bs (Put b ∷ xs) p = subst (AtEachFinish P (text bs)) (sym (append_assoc (bytes (spell b)) (effects_of_acts xs) es)) (after_bytes (text bs) (spell b) (effects_of_acts xs ++ es)
        (subst (λ (z : List ℕ). AtEachFinish P z (effects_of_acts xs ++ es)) (flat_map-push spell bs b) (each_finish (k + length (packet_of (Put b))) (bs ++ b ∷ []) xs p)))
    each_finish k bs (Finish ∷ xs) p = (says k bs p.0, each_finish k bs xs p.1)
    each_finish k bs (Remove name ∷ xs) p = each_finish k bs xs p
    each_finish k bs (Say m ∷ xs) p = subst (AtEachFinish P (text bs)) (sym (append_assoc (saying m) (effects_of_acts xs) es)) (after_said (text bs) m (effects_of_acts xs ++ es) (each_finish k bs xs p))

-- ---- a cut

-- Whatever holds at each Finish of all acts holds at each finish of what was done. Where a file call failed, so many packets
-- were put before that finish at most.
module _ (Q : ℕ → List Block → Type 0) (P : List ℕ → Type 0) (s : Settings) (p : Past) (done : List Effect) (o : IsOrderlySoFar s p) (stands : IsDoneFor s p done)
    (says : (k : ℕ) (bs : List Block) → Q k bs → (is_cut p ≡ true → k ≤ length (packets_put stands.place.whole)) → P (text bs)) (ends : AtEachEnd Q 0 [] (acts s p)) where
  abbrev m : ℕ
  m = stands.heard_bytes

  by_cut : (b : Bool) → is_cut p ≡ b → Which b (DidCut s m stands.place p done) (done ≡ effects_of_acts (said_acts (piece_of s) m p)) → AtEachFinish P [] done
  unfolding text
  by_cut false q did = let k = parts_false (file_lost p) (memory_lost p) q in subst (AtEachFinish P []) (append-nil (effects_of_acts (said_acts (piece_of s) m p)) ∙ sym did)
      (each_finish P Q (λ j bs w. says j bs w (λ c. let z : true ≡ false = sym c ∙ q in cc)) [] (λ b. tt) 0 [] (said_acts (piece_of s) m p) (with_says Q 0 [] (said_acts (piece_of s) m p) (subst (AtEachEnd Q 0 []) (sym (unsaid_all s m p k.1)) (without_says Q 0 [] (acts s p) ends))))
  by_cut true q d = let w = front p in let more = more_acts s p in subst (AtEachFinish P []) (sym (d.did ∙ append_assoc (effects_of_acts stands.place.whole) (bytes stands.place.part) behind))
      (each_finish P (λ j bs. Q j bs × (j ≤ length (packets_put stands.place.whole))) (λ j bs v. says j bs v.0 (λ c. v.1)) (bytes stands.place.part ++ behind) (λ b. after_bytes P b stands.place.part behind (only_said P (b ++ stands.place.part) (said_acts (piece_behind s stands.place) m p) (silent_said (piece_behind s stands.place) m (behind_silent s stands.place) p)))
      0 [] stands.place.whole (bounded Q (length (packets_put stands.place.whole)) 0 [] stands.place.whole (omega arith) (front_ends Q 0 [] stands.place.whole stands.place.rest (subst (AtEachEnd Q 0 []) d.front.split (with_says Q 0 [] (said_acts (piece_of s) m (up_to_cut p))
      (subst (AtEachEnd Q 0 []) (sym (unsaid_all s m (up_to_cut p) w.memory)) (without_says Q 0 [] (acts s (up_to_cut p)) (front_ends Q 0 [] (acts s (up_to_cut p)) more.0 (subst (AtEachEnd Q 0 []) more.1 ends))))))))) where
        behind : List Effect
        behind = effects_of_acts (said_acts (piece_behind s stands.place) m p)

  pub at_finish : AtEachFinish P [] done
  at_finish = by_cut (is_cut p) refl stands.did

-- ---- the final counts

lost_both : (xs ys : History) → lost (xs ++ ys) ≡ lost xs + lost ys
lost_both [] ys = omega arith
lost_both (x ∷ xs) ys = let a : lost (x ∷ xs ++ ys) ≡ lost_of x.1 + lost (xs ++ ys) = sum_by-cons (λ (y : ℕ × Entry). lost_of y.1) x (xs ++ ys) in let b : lost (x ∷ xs) ≡ lost_of x.1 + lost xs = sum_by-cons (λ (y : ℕ × Entry). lost_of y.1) x xs in
    let c : lost (xs ++ ys) ≡ lost xs + lost ys = lost_both xs ys in omega arith

module _ (s : Settings) (h : History) (done : List Effect) (legal : Legal s.limits (length s.sources) h) (o : IsOrderlySoFar s (writers_past (length s.sources) h)) (stands : IsDoneFor s (writers_past (length s.sources) h) done) where
  abbrev q : ℕ
  q = length s.sources

  abbrev p : Past
  p = writers_past (length s.sources) h

  -- nothing was lost where all packets were put before a finish
  no_loss : (k : ℕ) (bs : List Block) (t : Tallied s h legal k bs) → (is_cut p ≡ true → k ≤ length (packets_put stands.place.whole)) → EndsBehindDone q t.before → All IsWriters t.behind → lost h ≡ 0
  no_loss k bs t few d w = by (is_cut p) refl stands.did where
    parts : h ≡ t.before ++ ((q, E.Tally t.now (counts t.before)) ∷ t.behind)
    parts = t.stands ∙ append_assoc t.before ((q, E.Tally t.now (counts t.before)) ∷ []) t.behind

    legal_parts : Legal s.limits q (t.before ++ ((q, E.Tally t.now (counts t.before)) ∷ t.behind))
    legal_parts = subst (Legal s.limits q) parts legal

    all : k ≡ packets p
    all = t.so_far ∙ ap length (all_put s (writers_past q t.before) t.going.0 t.going.1 ∙ taken_is s t.before (legal_front s.limits q t.before ((q, E.Tally t.now (counts t.before)) ∷ t.behind) legal_parts)
        ∙ sym (ap taken parts ∙ taken_same s.limits q t.before ((q, E.Tally t.now (counts t.before)) ∷ t.behind) legal_parts d (All-cons IsWriters (q, E.Tally t.now (counts t.before)) t.behind tt w)) ∙ sym (taken_is s h legal)) ∙ sym (count_is p)

    by : (b : Bool) → is_cut p ≡ b → Which b (DidCut s stands.heard_bytes stands.place p done) (done ≡ effects_of_acts (said_acts (piece_of s) stands.heard_bytes p)) → lost h ≡ 0
    by false c e = let g = parts_false (file_lost p) (memory_lost p) c in sym (lost_is s h legal) ∙ none_lost s p o g.0 g.1
    by true c e = let a : k ≡ packets p = all in let b : k ≤ length (packets_put stands.place.whole) = few c in let f : length (packets_put stands.place.whole) + cuts.lost_of p ≡ packets p = e.lost in
        let g : cuts.lost_of p ≡ lost h = lost_is s h legal in omega arith

  says : (k : ℕ) (bs : List Block) → Tallied s h legal k bs → (is_cut p ≡ true → k ≤ length (packets_put stands.place.whole)) → EndsWithCounts q h (text bs)
  says k bs t few = record {
    before = t.before;
    now = t.now;
    tally = record { behind = t.behind; stands = t.stands; final = final };
    front = t.front;
    is = ap text t.is;
  } where
    final : EndsBehindDone q t.before → All IsWriters t.behind → counts t.before ≡ counts h
    final d w = let parts : h ≡ t.before ++ ((q, E.Tally t.now (counts t.before)) ∷ t.behind) = t.stands ∙ append_assoc t.before ((q, E.Tally t.now (counts t.before)) ∷ []) t.behind in
        let none : lost h ≡ 0 = no_loss k bs t few d w in let split : lost h ≡ lost t.before + lost ((q, E.Tally t.now (counts t.before)) ∷ t.behind) = ap lost parts ∙ lost_both t.before ((q, E.Tally t.now (counts t.before)) ∷ t.behind) in
        let same : lost h ≡ lost t.before = omega arith in
        counts_same s.limits q t.before ((q, E.Tally t.now (counts t.before)) ∷ t.behind) (subst (Legal s.limits q) parts legal) d (All-cons IsWriters (q, E.Tally t.now (counts t.before)) t.behind tt w) (sym (ap lost parts) ∙ same) ∙ sym (ap counts parts)

  pub statistics : AtEachFinish (EndsWithCounts q h) [] done
  unfolding Ends
  statistics = at_finish (Tallied s h legal) (EndsWithCounts q h) s p done o stands says (all_ends s h legal)
