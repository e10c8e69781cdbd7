-- The blocks of each file.
use Rattle.std.proofs.Common.{◌≡◌, ℕ, suc, ◌+◌, ◌<◌, ◌≤◌, Bool, true, false, not, ◌||◌, ◌&&◌, if◌then◌else◌, Option, Some, None, List, [], ◌∷◌, ◌++◌, length, map, refl, sym, ap, ◌∙◌, subst, arith, append_assoc, length-append}
use Rattle.std.specs.Prelude.{codes}
use Rattle.std.specs.List.{flat_map, All}
use Rattle.std.proofs.lemmas.List.Elements.{All-append, All-cons, All-head, All-nil, All-tail}
use Rattle.cap_base.specs.Callers.{own}
use Rattle.cap_base.specs.Carried.{IsFitInterface, IsFitPacket}
use Rattle.cap_base.specs.Histories.{History, answer_of}
use Rattle.cap_base.specs.Legal.{Legal}
use Rattle.cap_base.specs.Laws as laws
use Rattle.cap_base.proofs.Described.{takes_described}
use Rattle.cap_base.specs.declared.counts.Counts.{Counts}
use Rattle.cap_base.specs.declared.interface.Iface.{Iface}
use Rattle.cap_base.specs.declared.packet.Packet.{Packet}
use Rattle.cap_base.specs.declared.numbers.Order.TheVariants.{Little}
use Rattle.cap_base.specs.declared.settings.Settings.{Settings}
use Rattle.cap_base.specs.declared.entries.Item.TheVariants as I
use Rattle.cap_base.specs.declared.entries.Taken.{Taken}
use Rattle.cap_base.specs.declared.entries.Taken.TheVariants as T
use Rattle.cap_base.specs.declared.entries.Why.TheVariants as W
use Rattle.cap_base.specs.declared.entries.Entry.{Entry}
use Rattle.cap_base.specs.declared.entries.Entry.TheVariants as E
use Rattle.pcapng_blocks.specs.declared.block.Block.{Block}
use Rattle.pcapng_blocks.specs.declared.block.Block.TheVariants as block
use Rattle.pcapng_grammar.specs.Files.{description_count, statistics_count, reversed_onto, last_first, MayFollow, IsFile, Grammatical}
use Rattle.pcapng_grammar.specs.Written.{CanStand, EachMayFollow, file_block}
use Rattle.pcapng_grammar.proofs.Written.{texts_are_files}
use Rattle.pcapng_grammar.specs.declared.blocks.FileBlock.{FileBlock}
use Rattle.stop_conditions.specs.declared.next.Next.{Next}
use Rattle.stop_conditions.specs.declared.next.Next.TheVariants as next
use Rattle.ring_files.specs.KeptNames.{leaving}
use Rattle.sync_pipe.specs.declared.said.Said.{Said}
use Rattle.sync_pipe.specs.declared.said.Said.TheVariants as message
use Rattle.capture_desk.specs.declared.acts.Act.{Act}
use Rattle.capture_desk.specs.declared.acts.Act.TheVariants.{Create, Put, Finish, Remove, Say}
use Rattle.capture_desk.specs.declared.due.Due.{Due}
use Rattle.capture_desk.specs.declared.due.Due.TheVariants as dues
use Rattle.capture_desk.specs.Past.{Past, nothing, ◌▹◌, past_from}
use Rattle.capture_desk.specs.Doing.{packet_of, puts, unsaid, effects_of_acts}
use Rattle.capture_desk.specs.Files.{held, begun, ifaces, number, head, text, block_of}
use Rattle.capture_desk.specs.Due.{file_lost, memory_lost, is_done, next_after, count_at, has_message, says, due_by, due_done, due}
use Rattle.capture_desk.specs.Acts.{last_of, names, speaks, say, say_count, rest_count, start_file, take_acts, take_piece, tail_from, tail, end_file, removal, closing, tally_piece, piece, piece_of, acts}
use Rattle.capture_desk.specs.Orderly.{IsTally, IsOrderlySoFar}
use Rattle.capture_desk.specs.Laws.{AreSaid, packets_taken}
use Rattle.capture_core.specs.Writers.{writers_past}
use Rattle.capture_core.specs.Made.{FilesHold}
use Rattle.capture_core.specs.Views.{ReadsFiles, ViewsReach}
use Rattle.cap_base.specs.Effects.{Effect}
use Rattle.cap_base.specs.Events.{Event}
use Rattle.std.proofs.lemmas.List.{append-nil}
use Rattle.cap_base.specs.Fates.{written}
use Rattle.capture_desk.specs.Doing.{Place, IsPlace, done_at}
use Rattle.capture_desk.specs.Cuts.{said_acts, up_to_cut, IsDoneFor}
use Rattle.capture_core.specs.Statistics.{AtEachFinish}
use Rattle.capture_core.proofs.Statistics.{AtEachEnd, at_finish, each_finish}
use Rattle.capture_core.proofs.Cut.{AreFiles, IsNoFile, no_file, at_front, holds_written, front_holds}
use Rattle.capture_core.proofs.Fitted.{fitted, text_fitted, lowest_fits, MayBegin}
use Rattle.capture_core.proofs.Counted.{AreCounted, are_counted}
use Rattle.capture_core.proofs.Reached.{reach}
use Rattle.capture_core.proofs.Blocks.{blocks_now, blocks_put, file_blocks}
use Rattle.capture_core.proofs.Puts.{unsaid_say, unsaid_count, unsaid_closing}

-- ---- acts that lead from one state of the current file to another

-- no block yet, or a section header with so many descriptions and so many statistics behind it
abbrev State : Type 0
State = Option (ℕ × ℕ)

-- a block may come, and leads to a state
abbrev Comes : State → Block → State → Type 0
Comes None (block.Section order) st = (order ≡ Little) × (st ≡ Some (0, 0))
Comes None other st = ⊥
Comes (Some w) (block.Interface i) st = (w.0 < 256) × IsFitInterface i × (w.1 ≡ 0) × (st ≡ Some (w.0 + 1, 0))
Comes (Some w) (block.Enhanced p) st = (p.iface < w.0) × IsFitPacket p × (w.1 ≡ 0) × (st ≡ Some (w.0, 0))
Comes (Some w) (block.Statistics k time recv drop delivered) st = (k < w.0) × (k ≡ w.1) × (st ≡ Some (w.0, w.1 + 1))
Comes (Some w) other st = ⊥

-- a file may end: each description has its statistics
abbrev MayEnd : State → Type 0
MayEnd None = ⊥
MayEnd (Some w) = w.1 ≡ w.0

abbrev Leads : State → List Act → State → Type 0
Leads st [] st' = st ≡ st'
Leads st (Create name ∷ more) st' = Leads None more st'
Leads st (Put b ∷ more) st' = (next : State) × Comes st b next × Leads next more st'
Leads st (Finish ∷ more) st' = MayEnd st × Leads st more st'
Leads st (Remove name ∷ more) st' = Leads st more st'
Leads st (Say m ∷ more) st' = Leads st more st'

both : (st : State) (xs : List Act) (st' : State) (ys : List Act) (st'' : State) → Leads st xs st' → Leads st' ys st'' → Leads st (xs ++ ys) st''
both st [] st' ys st'' w v = subst (λ (z : State). Leads z ys st'') (sym w) v
both st (Create name ∷ xs) st' ys st'' w v = both None xs st' ys st'' w v
both st (Put b ∷ xs) st' ys st'' w v = (w.0, w.1, both w.0 xs st' ys st'' w.2 v)
both st (Finish ∷ xs) st' ys st'' w v = (w.0, both st xs st' ys st'' w.1 v)
both st (Remove name ∷ xs) st' ys st'' w v = both st xs st' ys st'' w v
both st (Say m ∷ xs) st' ys st'' w v = both st xs st' ys st'' w v

-- a front of them leads somewhere
firsts : (st : State) (xs ys : List Act) (st'' : State) → Leads st (xs ++ ys) st'' → (st' : State) × Leads st xs st'
firsts st [] ys st'' w = (st, refl)
firsts st (Create name ∷ xs) ys st'' w = firsts None xs ys st'' w
firsts st (Put b ∷ xs) ys st'' w = let v = firsts w.0 xs ys st'' w.2 in (v.0, (w.0, w.1, v.1))
firsts st (Finish ∷ xs) ys st'' w = let v = firsts st xs ys st'' w.1 in (v.0, (w.0, v.1))
firsts st (Remove name ∷ xs) ys st'' w = firsts st xs ys st'' w
firsts st (Say m ∷ xs) ys st'' w = firsts st xs ys st'' w

only_said : (st : State) (xs : List Act) → unsaid xs ≡ [] → Leads st xs st
only_said st [] e = refl
only_said st (Say m ∷ xs) e = only_said st xs e
only_said st (Create name ∷ xs) e = cc
only_said st (Put b ∷ xs) e = cc
only_said st (Finish ∷ xs) e = cc
only_said st (Remove name ∷ xs) e = cc

leads_removal : (st : State) (o : Option (List ℕ)) → Leads st (removal o) st
leads_removal st None = refl
leads_removal st (Some name) = refl

leads_descriptions : (n m : ℕ) (is : List Iface) → n + length is ≡ m → m ≤ 256 → All IsFitInterface is → Leads (Some (n, 0)) (puts (map block.Interface is)) (Some (m, 0))
leads_descriptions n m [] q few a = ap (λ (z : ℕ). Some (z, 0)) (let e : n + 0 ≡ m = q in let r : n ≡ m = omega arith in r)
leads_descriptions n m (i ∷ is) q few a = (Some (n + 1, 0), (let e : n + suc (length is) ≡ m = q in omega arith, All-head IsFitInterface i is a, refl, refl), leads_descriptions (n + 1) m is (let e : n + suc (length is) ≡ m = q in omega arith) few (All-tail IsFitInterface i is a))

leads_start : (s : Settings) (on : Bool) (k start : ℕ) (is : List Iface) (st : State) → length is ≤ 256 → All IsFitInterface is → Leads st (start_file s on k start is) (Some (length is, 0))
unfolding start_file
leads_start s on k start is st few a = both None (say on _) None (puts (head is)) (Some (length is, 0)) (only_said None (say on _) (unsaid_say on _)) (Some (0, 0), (refl, refl), leads_descriptions 0 (length is) is (omega arith) few a)

leads_tail : (n k now : ℕ) (is : List Iface) (cs : List Counts) → k + length is ≡ n → length is ≤ length cs → Leads (Some (n, k)) (puts (tail_from k now is cs)) (Some (n, n))
leads_tail n k now [] cs q few = ap (λ (z : ℕ). Some (n, z)) (let e : k + 0 ≡ n = q in let r : k ≡ n = omega arith in r)
leads_tail n k now (i ∷ is) [] q few = absurd (omega arith)
leads_tail n k now (i ∷ is) (c ∷ cs) q few = (Some (n, k + 1), (let e : k + suc (length is) ≡ n = q in omega arith, refl, refl), leads_tail n (k + 1) now is cs (let e : k + suc (length is) ≡ n = q in omega arith) (omega arith))

leads_end : (before : Past) (now : ℕ) (cs : List Counts) → length (ifaces before) ≤ length cs → Leads (Some (length (ifaces before), 0)) (end_file before now cs) (Some (length (ifaces before), length (ifaces before)))
unfolding tail
leads_end before now cs few = let n : ℕ = length (ifaces before) in
    both (Some (n, 0)) (puts (tail_from 0 now (ifaces before) cs)) (Some (n, n)) (Finish ∷ []) (Some (n, n)) (leads_tail n 0 now (ifaces before) cs (omega arith) few) (refl, refl)

-- ---- the entries

-- what the Takes answered can be written where it stands
abbrev AreTaken : Past → Type 0
AreTaken nothing = Unit {0}
AreTaken (before ▹ E.Take now (T.Item (I.Iface k i))) = AreTaken before × (length (ifaces before) < 256) × IsFitInterface i
AreTaken (before ▹ E.Take now (T.Item (I.Packet p))) = AreTaken before × (p.iface < length (ifaces before)) × IsFitPacket p
AreTaken (before ▹ other) = AreTaken before

fit_ifaces : (past : Past) → AreTaken past → All IsFitInterface (ifaces past)
fit_ifaces nothing a = All-nil IsFitInterface
fit_ifaces (before ▹ E.Take now (T.Item (I.Iface k i))) a = All-append IsFitInterface (ifaces before) (i ∷ []) (fit_ifaces before a.0) (All-cons IsFitInterface i [] a.2 (All-nil IsFitInterface))
fit_ifaces (before ▹ E.Take now (T.Item (I.Packet p))) a = fit_ifaces before a.0
fit_ifaces (before ▹ E.Take now (T.Item (I.Ended k how))) a = fit_ifaces before a
fit_ifaces (before ▹ E.Take now T.Empty) a = fit_ifaces before a
fit_ifaces (before ▹ E.Take now T.Done) a = fit_ifaces before a
fit_ifaces (before ▹ E.Tally now cs) a = fit_ifaces before a
fit_ifaces (before ▹ E.Stop why l) a = fit_ifaces before a
fit_ifaces (before ▹ E.Join x y z) a = fit_ifaces before a
fit_ifaces (before ▹ E.Offer x y z) a = fit_ifaces before a
fit_ifaces (before ▹ E.End x y) a = fit_ifaces before a

few_ifaces : (past : Past) → AreTaken past → length (ifaces past) ≤ 256
few_ifaces nothing a = omega arith
few_ifaces (before ▹ E.Take now (T.Item (I.Iface k i))) a = let e : length (ifaces before ++ i ∷ []) ≡ length (ifaces before) + 1 = length-append (ifaces before) (i ∷ []) in let b : length (ifaces before) < 256 = a.1 in omega arith
few_ifaces (before ▹ E.Take now (T.Item (I.Packet p))) a = few_ifaces before a.0
few_ifaces (before ▹ E.Take now (T.Item (I.Ended k how))) a = few_ifaces before a
few_ifaces (before ▹ E.Take now T.Empty) a = few_ifaces before a
few_ifaces (before ▹ E.Take now T.Done) a = few_ifaces before a
few_ifaces (before ▹ E.Tally now cs) a = few_ifaces before a
few_ifaces (before ▹ E.Stop why l) a = few_ifaces before a
few_ifaces (before ▹ E.Join x y z) a = few_ifaces before a
few_ifaces (before ▹ E.Offer x y z) a = few_ifaces before a
few_ifaces (before ▹ E.End x y) a = few_ifaces before a

taken_from : (start : Past) (es : List Entry) → AreTaken start → laws.AreDescribed (length (ifaces start)) (flat_map answer_of es) → AreTaken (past_from start es)
taken_from start [] a d = a
taken_from start (E.Take now (T.Item (I.Iface k i)) ∷ es) a d = taken_from (start ▹ E.Take now (T.Item (I.Iface k i))) es (a, d.1, d.2) (subst (λ (z : ℕ). laws.AreDescribed z (flat_map answer_of es)) (sym (length-append (ifaces start) (i ∷ []))) d.3)
taken_from start (E.Take now (T.Item (I.Packet p)) ∷ es) a d = taken_from (start ▹ E.Take now (T.Item (I.Packet p))) es (a, d.0, d.1) d.2
taken_from start (E.Take now (T.Item (I.Ended k how)) ∷ es) a d = taken_from (start ▹ E.Take now (T.Item (I.Ended k how))) es a d
taken_from start (E.Take now T.Empty ∷ es) a d = taken_from (start ▹ E.Take now T.Empty) es a d
taken_from start (E.Take now T.Done ∷ es) a d = taken_from (start ▹ E.Take now T.Done) es a d
taken_from start (E.Tally now cs ∷ es) a d = taken_from (start ▹ E.Tally now cs) es a d
taken_from start (E.Stop why l ∷ es) a d = taken_from (start ▹ E.Stop why l) es a d
taken_from start (E.Join x y z ∷ es) a d = taken_from start es a d
taken_from start (E.Offer x y z ∷ es) a d = taken_from start es a d
taken_from start (E.End x y ∷ es) a d = taken_from start es a d

are_taken : (s : Settings) (h : History) → Legal s.limits (length s.sources) h → AreTaken (writers_past (length s.sources) h)
are_taken s h legal = taken_from nothing (own (length s.sources) h) tt (takes_described s.limits (length s.sources) h legal)

-- ---- the state behind the entries

-- a file is open
abbrev IsOpen : Due → Type 0
IsOpen dues.Take = Unit {0}
IsOpen (dues.Stop why) = Unit {0}
IsOpen dues.SwitchTally = Unit {0}
IsOpen dues.LastTally = Unit {0}
IsOpen other = ⊥

abbrev IsGoing : Past → Type 0
IsGoing past = (file_lost past ≡ false) × (memory_lost past ≡ false)

pub record Shaped (s : Settings) (past : Past) : Type 0 where
  pub state : State
  pub leads : Leads None (acts s past) state
  pub open_is : begun past ≡ true → IsGoing past → IsOpen (due s past) → state ≡ Some (length (ifaces past), 0)

module _ (s : Settings) (before : Past) (w : Shaped s before) where
  add : (e : Entry) (st : State) → Leads w.state (piece_of s before e) st → Leads None (acts s (before ▹ e)) st
  unfolding acts
  add e st v = both None (acts s before) w.state (piece_of s before e) st w.leads v

  still : (e : Entry) → piece_of s before e ≡ [] → Leads None (acts s (before ▹ e)) w.state
  still e q = add e w.state (subst (λ (xs : List Act). Leads w.state xs w.state) (sym q) refl)

-- ---- Takes

leads_block : (before : Past) (now : ℕ) (t : Taken) → AreTaken (before ▹ E.Take now t) → Leads (Some (length (ifaces before), 0)) (puts (block_of t)) (Some (length (ifaces (before ▹ E.Take now t)), 0))
leads_block before now (T.Item (I.Iface k i)) a = (Some (length (ifaces before) + 1, 0), (a.1, a.2, refl, refl), ap (λ (z : ℕ). Some (z, 0)) (sym (length-append (ifaces before) (i ∷ []))))
leads_block before now (T.Item (I.Packet p)) a = (Some (length (ifaces before), 0), (a.1, a.2, refl, refl), refl)
leads_block before now (T.Item (I.Ended k how)) a = refl
leads_block before now T.Empty a = refl
leads_block before now T.Done a = refl

take_leads : (s : Settings) (going on : Bool) (now : ℕ) (bs : List Block) (n m : ℕ) (st st1 st2 : State) → Leads st (if going then [] else start_file s on 1 now []) st1 → Leads st1 (puts bs) st2 → Leads st (take_acts s going on now bs n m) st2
unfolding take_acts
take_leads s going on now bs n m st st1 st2 opens puts_ = both st (if going then [] else start_file s on 1 now []) st1 (puts bs ++ (say_count on n ++ say_count on m)) st2 opens (both st1 (puts bs) st2 (say_count on n ++ say_count on m) st2 puts_
    (both st2 (say_count on n) st2 (say_count on m) st2 (only_said st2 (say_count on n) (unsaid_count on n)) (only_said st2 (say_count on m) (unsaid_count on m))))

take_by : (s : Settings) (before : Past) (w : Shaped s before) (now : ℕ) (t : Taken) (st1 : State) → AreTaken (before ▹ E.Take now t) → IsGoing before → st1 ≡ Some (length (ifaces before), 0)
    → Leads w.state (if begun before then [] else start_file s (speaks s before) 1 now []) st1 → Shaped s (before ▹ E.Take now t)
unfolding piece
take_by s before w now t st1 a g is opens = record {
  state = Some (length (ifaces (before ▹ E.Take now t)), 0);
  leads = add s before w (E.Take now t) (Some (length (ifaces (before ▹ E.Take now t)), 0)) (subst (λ (b : Bool). Leads w.state (if b then [] else take_piece s before now t) (Some (length (ifaces (before ▹ E.Take now t)), 0)))
      (sym (ap (λ (b : Bool). b || file_lost before) g.1 ∙ g.0))
      (take_leads s (begun before) (speaks s before) now (block_of t) (count_at before t) (rest_count s before now t) w.state st1 (Some (length (ifaces (before ▹ E.Take now t)), 0)) opens
      (subst (λ (z : State). Leads z (puts (block_of t)) (Some (length (ifaces (before ▹ E.Take now t)), 0))) (sym is) (leads_block before now t a))));
  open_is = λ b q k. refl;
}

take_lost : (s : Settings) (before : Past) (w : Shaped s before) (now : ℕ) (t : Taken) → memory_lost before || file_lost before ≡ true → Shaped s (before ▹ E.Take now t)
unfolding piece
take_lost s before w now t q = record {
  state = w.state;
  leads = still s before w (E.Take now t) (ap (λ (b : Bool). if b then [] else take_piece s before now t) q);
  open_is = λ b g k. absurd (lost g);
} where
  lost : IsGoing before → ⊥
  lost g = let z : false ≡ true = sym (ap (λ (b : Bool). b || file_lost before) g.1 ∙ g.0) ∙ q in cc

going_parts : (m f : Bool) → m || f ≡ false → (f ≡ false) × (m ≡ false)
going_parts true f e = cc
going_parts false f e = (e, refl)

first_ifaces : (p : Past) → begun p ≡ false → ifaces p ≡ []
first_ifaces nothing q = refl
first_ifaces (p ▹ e) q = cc

take_step : (s : Settings) (before : Past) (now : ℕ) (t : Taken) → AreTaken (before ▹ E.Take now t) → IsOrderlySoFar s (before ▹ E.Take now t) → Shaped s before → Shaped s (before ▹ E.Take now t)
take_step s before now t a o w = go (memory_lost before || file_lost before) refl where
  first : (b : Bool) → begun before ≡ b → IsGoing before → Shaped s (before ▹ E.Take now t)
  first true b g = take_by s before w now t w.state a g (w.open_is b g (subst IsOpen (sym o.1) tt)) (subst (λ (z : Bool). Leads w.state (if z then [] else start_file s (speaks s before) 1 now []) w.state) (sym b) refl)
  first false b g = take_by s before w now t (Some (0, 0)) a g (ap (λ (is : List Iface). Some (length is, 0)) (sym (first_ifaces before b)))
      (subst (λ (z : Bool). Leads w.state (if z then [] else start_file s (speaks s before) 1 now []) (Some (0, 0))) (sym b) (leads_start s (speaks s before) 1 now [] w.state (omega arith) (All-nil IsFitInterface)))

  go : (b : Bool) → memory_lost before || file_lost before ≡ b → Shaped s (before ▹ E.Take now t)
  go true q = take_lost s before w now t q
  go false q = first (begun before) refl (going_parts (memory_lost before) (file_lost before) q)

-- ---- Tallies

-- behind a file fault no file's Tally is due
abbrev IsFiles : Due → Type 0
IsFiles dues.SwitchTally = Unit {0}
IsFiles dues.LastTally = Unit {0}
IsFiles other = ⊥

tally_by : (s : Settings) (before : Past) (w : Shaped s before) (now : ℕ) (cs : List Counts) (d : Due) → due s before ≡ d → AreTaken before → length (ifaces before) ≤ length cs → memory_lost before ≡ false
    → (IsFiles d → w.state ≡ Some (length (ifaces before), 0)) → IsTally d → Shaped s (before ▹ E.Tally now cs)
unfolding piece tally_piece due
tally_by s before w now cs dues.SwitchTally e a few m is k = record {
  state = Some (length (ifaces before), 0);
  leads = add s before w (E.Tally now cs) (Some (length (ifaces before), 0)) (rw (m, e) (both w.state (end_file before now cs) (Some (length (ifaces before), length (ifaces before))) (removal (leaving s.switch.keep (names s before)) ++ start_file s (speaks s before) (number before + 1) now (ifaces before)) (Some (length (ifaces before), 0))
      (subst (λ (z : State). Leads z (end_file before now cs) (Some (length (ifaces before), length (ifaces before)))) (sym (is tt)) (leads_end before now cs few))
      (both (Some (length (ifaces before), length (ifaces before))) (removal (leaving s.switch.keep (names s before))) (Some (length (ifaces before), length (ifaces before))) (start_file s (speaks s before) (number before + 1) now (ifaces before)) (Some (length (ifaces before), 0))
      (leads_removal (Some (length (ifaces before), length (ifaces before))) (leaving s.switch.keep (names s before))) (leads_start s (speaks s before) (number before + 1) now (ifaces before) (Some (length (ifaces before), length (ifaces before))) (few_ifaces before a) (fit_ifaces before a)))));
  open_is = λ b g q. refl;
}
tally_by s before w now cs dues.LastTally e a few m is k = record {
  state = Some (length (ifaces before), length (ifaces before));
  leads = add s before w (E.Tally now cs) (Some (length (ifaces before), length (ifaces before))) (rw (m, e) (subst (λ (z : State). Leads z (end_file before now cs) (Some (length (ifaces before), length (ifaces before)))) (sym (is tt)) (leads_end before now cs few)));
  open_is = λ b g q. absurd (rw e at q);
}
tally_by s before w now cs dues.ClosingTally e a few m is k = record {
  state = w.state;
  leads = add s before w (E.Tally now cs) w.state (rw (m, e) (only_said w.state (closing s (held (length (names s before))) before cs) (unsaid_closing s (held (length (names s before))) before cs)));
  open_is = λ b g q. absurd (rw e at q);
}
tally_by s before w now cs dues.Take e a few m is k = absurd k
tally_by s before w now cs (dues.Stop why) e a few m is k = absurd k
tally_by s before w now cs dues.Over e a few m is k = absurd k

tally_lost : (s : Settings) (before : Past) (w : Shaped s before) (now : ℕ) (cs : List Counts) → memory_lost before ≡ true → Shaped s (before ▹ E.Tally now cs)
unfolding piece
tally_lost s before w now cs m = record {
  state = w.state;
  leads = still s before w (E.Tally now cs) (ap (λ (b : Bool). if b then [] else tally_piece s (held (length (names s before))) before now cs) m);
  open_is = λ b g k. let z : true ≡ false = sym m ∙ g.1 in cc;
}

files_open : (d : Due) → IsFiles d → IsOpen d
files_open dues.SwitchTally k = tt
files_open dues.LastTally k = tt
files_open dues.Take k = absurd k
files_open dues.ClosingTally k = absurd k
files_open (dues.Stop w) k = absurd k
files_open dues.Over k = absurd k

tallied_begun : (s : Settings) (before : Past) → IsTally (due s before) → begun before ≡ true
unfolding due
tallied_begun s nothing k = absurd k
tallied_begun s (before ▹ e) k = refl

not_lost : (s : Settings) (before : Past) → IsFiles (due s before) → (b : Bool) → file_lost before ≡ b → b ≡ false
not_lost s before k false q = refl
not_lost s before k true q = absurd (go (due s before) k (no_file s before q)) where
  go : (d : Due) → IsFiles d → IsNoFile d → ⊥
  go dues.SwitchTally k n = n
  go dues.LastTally k n = n
  go dues.Take k n = k
  go dues.ClosingTally k n = k
  go (dues.Stop w) k n = k
  go dues.Over k n = k

tally_step : (s : Settings) (before : Past) (now : ℕ) (cs : List Counts) → AreTaken before → length (ifaces before) ≤ length cs → IsOrderlySoFar s (before ▹ E.Tally now cs) → Shaped s before → Shaped s (before ▹ E.Tally now cs)
tally_step s before now cs a few o w = go (memory_lost before) refl where
  go : (b : Bool) → memory_lost before ≡ b → Shaped s (before ▹ E.Tally now cs)
  go true q = tally_lost s before w now cs q
  go false q = tally_by s before w now cs (due s before) refl a few q (λ k. w.open_is (tallied_begun s before o.1.0) (not_lost s before k (file_lost before) refl, q) (files_open (due s before) k)) o.1.0

-- ---- Stops

stop_by : (s : Settings) (before : Past) (w : Shaped s before) (e : Entry) → Leads w.state (piece_of s before e) w.state → (IsGoing (before ▹ e) → IsGoing before) → (begun before ≡ true) → (IsGoing (before ▹ e) → IsOpen (due s (before ▹ e)) → IsOpen (due s before)) → ifaces (before ▹ e) ≡ ifaces before → Shaped s (before ▹ e)
stop_by s before w e leads going b opened same = record {
  state = w.state;
  leads = add s before w e w.state leads;
  open_is = λ q g k. w.open_is b (going g) (opened g k) ∙ ap (λ (is : List Iface). Some (length is, 0)) (sym same);
}

fault_leads : (s : Settings) (before : Past) (l : ℕ) (st : State) → Leads st (piece_of s before (E.Stop W.FileFault l)) st
unfolding piece
fault_leads s before l st = go (memory_lost before) where
  told : Said
  told = message.Error (codes "output failed") (last_of (names s before))

  go : (b : Bool) → Leads st (if b then [] else say (speaks s before) (message.Error (codes "output failed") (last_of (names s before)))) st
  go true = refl
  go false = only_said st (say (speaks s before) (message.Error (codes "output failed") (last_of (names s before)))) (unsaid_say (speaks s before) (message.Error (codes "output failed") (last_of (names s before))))

says_open : (s : Settings) (before : Past) → says s before ≡ true → IsOpen (due s before)
unfolding due
says_open s nothing q = cc
says_open s (before ▹ E.Take now t) q = go (is_done t) (next_after s before now t) (has_message s before t) q where
  go : (b : Bool) (x : Next) (h : Bool) → h && not b ≡ true → IsOpen (if b then due_done before else due_by x)
  go true x true q = cc
  go true x false q = cc
  go false next.Stay h q = tt
  go false next.Switch h q = tt
  go false (next.Stop w) h q = tt
says_open s (before ▹ E.Tally now cs) q = cc
says_open s (before ▹ E.Stop why l) q = cc
says_open s (before ▹ E.Join x y z) q = cc
says_open s (before ▹ E.Offer x y z) q = cc
says_open s (before ▹ E.End x y) q = cc

silenced_open : (s : Settings) (before : Past) (b : Bool) → says s before ≡ b → IsOpen (if b then dues.Take else due s before) → IsOpen (due s before)
silenced_open s before true q k = says_open s before q
silenced_open s before false q k = k

shaped : (s : Settings) (past : Past) → AreTaken past → AreCounted past → IsOrderlySoFar s past → Shaped s past
unfolding acts piece due
shaped s nothing a c o = record { state = None; leads = refl; open_is = λ b g k. cc }
shaped s (before ▹ E.Take now (T.Item (I.Iface k i))) a c o = take_step s before now (T.Item (I.Iface k i)) a o (shaped s before a.0 c o.0)
shaped s (before ▹ E.Take now (T.Item (I.Packet p))) a c o = take_step s before now (T.Item (I.Packet p)) a o (shaped s before a.0 c o.0)
shaped s (before ▹ E.Take now (T.Item (I.Ended k how))) a c o = take_step s before now (T.Item (I.Ended k how)) a o (shaped s before a c o.0)
shaped s (before ▹ E.Take now T.Empty) a c o = take_step s before now T.Empty a o (shaped s before a c o.0)
shaped s (before ▹ E.Take now T.Done) a c o = take_step s before now T.Done a o (shaped s before a c o.0)
shaped s (before ▹ E.Tally now cs) a c o = tally_step s before now cs a c.1 o (shaped s before a c.0 o.0)
shaped s (before ▹ E.Stop W.FileFault l) a c o = let w = shaped s before a c o.0 in stop_by s before w (E.Stop W.FileFault l) (fault_leads s before l w.state) (λ g. let z : true ≡ false = g.0 in cc) o.1.0 (λ g k. let z : true ≡ false = g.0 in cc) refl
shaped s (before ▹ E.Stop W.NoMemory l) a c o = stop_by s before (shaped s before a c o.0) (E.Stop W.NoMemory l) refl (λ g. let z : true ≡ false = g.1 in cc) o.1.0 (λ g k. let z : true ≡ false = g.1 in cc) refl
shaped s (before ▹ E.Stop W.SyncFault l) a c o = stop_by s before (shaped s before a c o.0) (E.Stop W.SyncFault l) refl (λ g. g) o.1.0 (λ g k. silenced_open s before (says s before) refl k) refl
shaped s (before ▹ E.Stop W.Packets l) a c o = stop_by s before (shaped s before a c o.0) (E.Stop W.Packets l) refl (λ g. g) o.1.0 (λ g k. subst IsOpen (sym o.1.2.1) tt) refl
shaped s (before ▹ E.Stop W.Filesize l) a c o = stop_by s before (shaped s before a c o.0) (E.Stop W.Filesize l) refl (λ g. g) o.1.0 (λ g k. subst IsOpen (sym o.1.2.1) tt) refl
shaped s (before ▹ E.Stop W.Duration l) a c o = stop_by s before (shaped s before a c o.0) (E.Stop W.Duration l) refl (λ g. g) o.1.0 (λ g k. subst IsOpen (sym o.1.2.1) tt) refl
shaped s (before ▹ E.Stop W.Files l) a c o = stop_by s before (shaped s before a c o.0) (E.Stop W.Files l) refl (λ g. g) o.1.0 (λ g k. subst IsOpen (sym o.1.2.1) tt) refl
shaped s (before ▹ E.Join x y z) a c o = absurd o.1
shaped s (before ▹ E.Offer x y z) a c o = absurd o.1
shaped s (before ▹ E.End x y) a c o = absurd o.1

-- ---- the current file

-- its blocks as they are seen in a file, the last one first
abbrev back : List Block → List FileBlock
back bs = last_first (map file_block (map fitted bs))

pub record Shape (w : ℕ × ℕ) (bs : List Block) : Type 0 where
  pub some : 0 < length (map fitted bs)
  pub each : All CanStand (map fitted bs)
  pub order : EachMayFollow [] (map file_block (map fitted bs))
  pub behind : 0 < length (back bs)
  pub descriptions : description_count (back bs) ≡ w.0
  pub statistics : statistics_count (back bs) ≡ w.1
  pub few : w.0 ≤ 256

-- the blocks of the current file in this state
abbrev IsShape : State → List Block → Type 0
IsShape None bs = bs ≡ []
IsShape (Some w) bs = Shape w bs

shape_begins : (st : State) (bs : List Block) → IsShape st bs → MayBegin bs
shape_begins None bs q = subst MayBegin (sym q) (record { each = All-nil CanStand; order = tt })
shape_begins (Some w) bs q = record { each = q.each; order = q.order }

reversed_push : (before xs : List FileBlock) (b : FileBlock) → reversed_onto before (xs ++ b ∷ []) ≡ b ∷ reversed_onto before xs
reversed_push before [] b = refl
reversed_push before (x ∷ xs) b = reversed_push (x ∷ before) xs b

follow_push : (before xs : List FileBlock) (b : FileBlock) → EachMayFollow before xs → MayFollow (reversed_onto before xs) b → EachMayFollow before (xs ++ b ∷ [])
follow_push before [] b w v = (v, tt)
follow_push before (x ∷ xs) b w v = (w.0, follow_push (x ∷ before) xs b w.1 v)

fitted_push : (bs : List Block) (b : Block) → map fitted (bs ++ b ∷ []) ≡ map fitted bs ++ fitted b ∷ []
fitted_push [] b = refl
fitted_push (x ∷ bs) b = ap (λ (z : List Block). fitted x ∷ z) (fitted_push bs b)

seen_push : (bs : List Block) (b : Block) → map file_block (bs ++ b ∷ []) ≡ map file_block bs ++ file_block b ∷ []
seen_push [] b = refl
seen_push (x ∷ bs) b = ap (λ (z : List FileBlock). file_block x ∷ z) (seen_push bs b)

blocks_push : (bs : List Block) (b : Block) → map file_block (map fitted (bs ++ b ∷ [])) ≡ map file_block (map fitted bs) ++ file_block (fitted b) ∷ []
blocks_push bs b = ap (map file_block) (fitted_push bs b) ∙ seen_push (map fitted bs) (fitted b)

back_push : (bs : List Block) (b : Block) → back (bs ++ b ∷ []) ≡ file_block (fitted b) ∷ back bs
back_push bs b = ap last_first (blocks_push bs b) ∙ reversed_push [] (map file_block (map fitted bs)) (file_block (fitted b))

-- one block more
grown : (w v : ℕ × ℕ) (bs : List Block) (b : Block) → Shape w bs → CanStand (fitted b) → MayFollow (back bs) (file_block (fitted b)) → description_count (file_block (fitted b) ∷ back bs) ≡ v.0 → statistics_count (file_block (fitted b) ∷ back bs) ≡ v.1 → v.0 ≤ 256 → Shape v (bs ++ b ∷ [])
grown w v bs b q can may d k few = record {
  some = subst (λ (z : List Block). 0 < length z) (sym (fitted_push bs b)) (let a : length (map fitted bs ++ fitted b ∷ []) ≡ length (map fitted bs) + 1 = length-append (map fitted bs) (fitted b ∷ []) in omega arith);
  each = subst (All CanStand) (sym (fitted_push bs b)) (All-append CanStand (map fitted bs) (fitted b ∷ []) q.each (All-cons CanStand (fitted b) [] can (All-nil CanStand)));
  order = subst (EachMayFollow []) (sym (blocks_push bs b)) (follow_push [] (map file_block (map fitted bs)) (file_block (fitted b)) q.order may);
  behind = subst (λ (z : List FileBlock). 0 < length z) (sym (back_push bs b)) (omega arith);
  descriptions = ap description_count (back_push bs b) ∙ d;
  statistics = ap statistics_count (back_push bs b) ∙ k;
  few = few;
}

grows : (st next : State) (bs : List Block) (b : Block) → IsShape st bs → Comes st b next → IsShape next (bs ++ b ∷ [])
grows None next bs (block.Section order) q c = subst (λ (z : State). IsShape z (bs ++ block.Section order ∷ [])) (sym c.1) (subst (λ (z : List Block). Shape (0, 0) z) (sym (ap (λ (z : List Block). z ++ block.Section order ∷ []) q)) (record {
  some = omega arith;
  each = All-cons CanStand (block.Section order) [] c.0 (All-nil CanStand);
  order = (refl, tt);
  behind = omega arith;
  descriptions = refl;
  statistics = refl;
  few = omega arith;
}))
grows None next bs (block.Interface i) q c = absurd c
grows None next bs (block.Enhanced p) q c = absurd c
grows None next bs (block.Statistics n t r d v) q c = absurd c
grows None next bs (block.Simple orig body) q c = absurd c
grows None next bs (block.Obsolete p) q c = absurd c
grows None next bs (block.Other kind body) q c = absurd c
grows (Some w) next bs (block.Interface i) q c = subst (λ (z : State). IsShape z (bs ++ block.Interface i ∷ [])) (sym c.3) (grown w (w.0 + 1, 0) bs (block.Interface i) q c.1 (q.behind, subst (λ (z : ℕ). z < 256) (sym q.descriptions) c.0, q.statistics ∙ c.2)
    (ap (λ (z : ℕ). z + 1) q.descriptions) (q.statistics ∙ c.2) (let a : w.0 < 256 = c.0 in omega arith))
grows (Some w) next bs (block.Enhanced p) q c = subst (λ (z : State). IsShape z (bs ++ block.Enhanced p ∷ [])) (sym c.3) (grown w (w.0, 0) bs (block.Enhanced p) q (let a : p.iface < w.0 = c.0 in let b : w.0 ≤ 256 = q.few in omega arith, c.1)
    (q.behind, subst (λ (z : ℕ). p.iface < z) (sym q.descriptions) c.0, q.statistics ∙ c.2) q.descriptions (q.statistics ∙ c.2) q.few)
grows (Some w) next bs (block.Statistics k t r d v) q c = subst (λ (z : State). IsShape z (bs ++ block.Statistics k t r d v ∷ [])) (sym c.2) (grown w (w.0, w.1 + 1) bs (block.Statistics k t r d v) q
    (record { number_fits = let a : k < w.0 = c.0 in let b : w.0 ≤ 256 = q.few in omega arith; recv_fits = lowest_fits r; drop_fits = lowest_fits d; delivered_fits = lowest_fits v })
    (q.behind, subst (λ (z : ℕ). k < z) (sym q.descriptions) c.0, c.1 ∙ sym q.statistics) q.descriptions (ap (λ (z : ℕ). z + 1) q.statistics) q.few)
grows (Some w) next bs (block.Section order) q c = absurd c
grows (Some w) next bs (block.Simple orig body) q c = absurd c
grows (Some w) next bs (block.Obsolete p) q c = absurd c
grows (Some w) next bs (block.Other kind body) q c = absurd c

begins_file : (st st' : State) (bs : List Block) (xs : List Act) → IsShape st bs → Leads st xs st' → MayBegin (blocks_now bs xs)
begins_file st st' bs [] q w = shape_begins st bs q
begins_file st st' bs (Create name ∷ xs) q w = begins_file None st' [] xs refl w
begins_file st st' bs (Put b ∷ xs) q w = begins_file w.0 st' (bs ++ b ∷ []) xs (grows st w.0 bs b q w.1) w.2
begins_file st st' bs (Finish ∷ xs) q w = begins_file st st' bs xs q w.1
begins_file st st' bs (Remove name ∷ xs) q w = begins_file st st' bs xs q w
begins_file st st' bs (Say m ∷ xs) q w = begins_file st st' bs xs q w

shaped_by : (s : Settings) (h : History) → Legal s.limits (length s.sources) h → IsOrderlySoFar s (writers_past (length s.sources) h) → Shaped s (writers_past (length s.sources) h)
shaped_by s h legal o = shaped s (writers_past (length s.sources) h) (are_taken s h legal) (are_counted s.limits (length s.sources) h legal) o

-- the blocks that are put into the current file begin a file
current_begins : (s : Settings) (h : History) → Legal s.limits (length s.sources) h → IsOrderlySoFar s (writers_past (length s.sources) h)
    → (before behind : List Act) → acts s (writers_past (length s.sources) h) ≡ before ++ behind → MayBegin (blocks_now [] before)
current_begins s h legal o before behind q = let w = shaped_by s h legal o in let v = firsts None before behind w.state (subst (λ (xs : List Act). Leads None xs w.state) q w.leads) in
    begins_file None v.0 [] before refl v.1

pub reaches : (s : Settings) (h : History) (events : List ℕ → List Event) → Legal s.limits (length s.sources) h → s.sync ≡ true → IsOrderlySoFar s (writers_past (length s.sources) h) → ReadsFiles events
    → (before behind : List Act) (message : List ℕ) → acts s (writers_past (length s.sources) h) ≡ (before ++ Say message ∷ []) ++ behind → (rest : List Effect) → ViewsReach events (before ++ Say message ∷ []) rest
reaches s h events legal sync o reads before behind message e rest = reach s (writers_past (length s.sources) h) events sync o reads before behind message e (current_begins s h legal o (before ++ Say message ∷ []) behind e) rest

-- ---- finished files

whole_file : (st : State) (bs : List Block) → IsShape st bs → MayEnd st → Grammatical (text bs)
unfolding text
whole_file None bs q e = absurd e
whole_file (Some w) bs q e = record {
  blocks = map file_block (map fitted bs);
  file = subst (λ (z : List ℕ). IsFile z (map file_block (map fitted bs))) (text_fitted bs) (texts_are_files (map fitted bs) (record { some = q.some; each = q.each; order = q.order; all = q.statistics ∙ e ∙ sym q.descriptions }));
}

ends_of_file : (k : ℕ) (st st' : State) (bs : List Block) (xs : List Act) → IsShape st bs → Leads st xs st' → AtEachEnd (λ j b. Grammatical (text b)) k bs xs
ends_of_file k st st' bs [] q w = tt
ends_of_file k st st' bs (Create name ∷ xs) q w = ends_of_file k None st' [] xs refl w
ends_of_file k st st' bs (Put b ∷ xs) q w = ends_of_file (k + length (packet_of (Put b))) w.0 st' (bs ++ b ∷ []) xs (grows st w.0 bs b q w.1) w.2
ends_of_file k st st' bs (Finish ∷ xs) q w = (whole_file st bs q w.0, ends_of_file k st st' bs xs q w.1)
ends_of_file k st st' bs (Remove name ∷ xs) q w = ends_of_file k st st' bs xs q w
ends_of_file k st st' bs (Say m ∷ xs) q w = ends_of_file k st st' bs xs q w

pub finished : (s : Settings) (h : History) (done : List Effect) → Legal s.limits (length s.sources) h → IsOrderlySoFar s (writers_past (length s.sources) h) → IsDoneFor s (writers_past (length s.sources) h) done → AtEachFinish Grammatical [] done
finished s h done legal o stands = let w = shaped_by s h legal o in
    at_finish (λ j b. Grammatical (text b)) Grammatical s (writers_past (length s.sources) h) done o stands (λ k bs a c. a) (ends_of_file 0 None w.state [] (acts s (writers_past (length s.sources) h)) refl w.leads)

pub acts_finished : (s : Settings) (h : History) → Legal s.limits (length s.sources) h → IsOrderlySoFar s (writers_past (length s.sources) h) → AtEachFinish Grammatical [] (effects_of_acts (acts s (writers_past (length s.sources) h)))
unfolding text
acts_finished s h legal o = let w = shaped_by s h legal o in let all : List Act = acts s (writers_past (length s.sources) h) in
    subst (AtEachFinish Grammatical []) (append-nil (effects_of_acts all)) (each_finish Grammatical (λ j b. Grammatical (text b)) (λ k bs a. a) [] (λ b. tt) 0 [] all (ends_of_file 0 None w.state [] all refl w.leads))

-- ---- the files of fronts

of_blocks : (st st' : State) (bs : List Block) (xs : List Act) → IsShape st bs → Leads st xs st' → MayBegin (bs ++ blocks_put xs) × All MayBegin (file_blocks xs)
of_blocks st st' bs [] q w = (subst MayBegin (sym (append-nil bs)) (shape_begins st bs q), All-nil MayBegin)
of_blocks st st' bs (Create name ∷ xs) q w = let v = of_blocks None st' [] xs refl w in (subst MayBegin (sym (append-nil bs)) (shape_begins st bs q), All-cons MayBegin (blocks_put xs) (file_blocks xs) v.0 v.1)
of_blocks st st' bs (Put b ∷ xs) q w = let v = of_blocks w.0 st' (bs ++ b ∷ []) xs (grows st w.0 bs b q w.1) w.2 in (subst MayBegin (append_assoc bs (b ∷ []) (blocks_put xs)) v.0, v.1)
of_blocks st st' bs (Finish ∷ xs) q w = of_blocks st st' bs xs q w.1
of_blocks st st' bs (Remove name ∷ xs) q w = of_blocks st st' bs xs q w
of_blocks st st' bs (Say m ∷ xs) q w = of_blocks st st' bs xs q w

leads_unsaid : (st st' : State) (xs : List Act) → Leads st xs st' → Leads st (unsaid xs) st'
leads_unsaid st st' [] w = w
leads_unsaid st st' (Create name ∷ xs) w = leads_unsaid None st' xs w
leads_unsaid st st' (Put b ∷ xs) w = (w.0, w.1, leads_unsaid w.0 st' xs w.2)
leads_unsaid st st' (Finish ∷ xs) w = (w.0, leads_unsaid st st' xs w.1)
leads_unsaid st st' (Remove name ∷ xs) w = leads_unsaid st st' xs w
leads_unsaid st st' (Say m ∷ xs) w = leads_unsaid st st' xs w

-- those of a front of all acts but for what is said
pub unsaid_begins : (s : Settings) (h : History) → Legal s.limits (length s.sources) h → IsOrderlySoFar s (writers_past (length s.sources) h)
    → (front rest : List Act) → unsaid (acts s (writers_past (length s.sources) h)) ≡ front ++ rest → MayBegin (blocks_now [] front)
unsaid_begins s h legal o front rest q = let w = shaped_by s h legal o in
    let v = firsts None front rest w.state (subst (λ (xs : List Act). Leads None xs w.state) q (leads_unsaid None w.state (acts s (writers_past (length s.sources) h)) w.leads)) in begins_file None v.0 [] front refl v.1

files_of_shape : (s : Settings) (past : Past) → Shaped s past → AreFiles s past
files_of_shape s past w front rest q = let v = firsts None front rest w.state (subst (λ (xs : List Act). Leads None xs w.state) q (leads_unsaid None w.state (acts s past) w.leads)) in (of_blocks None v.0 [] front refl v.1).1

pub files_hold_written : (s : Settings) (h : History) (done : List Effect) → Legal s.limits (length s.sources) h → IsOrderlySoFar s (writers_past (length s.sources) h) → IsDoneFor s (writers_past (length s.sources) h) done → FilesHold done (written h)
files_hold_written s h done legal o stands = holds_written s h done legal o (files_of_shape s (writers_past (length s.sources) h) (shaped_by s h legal o)) stands

-- ---- up to a place before the cut

taken_before : (before : Past) (e : Entry) → AreTaken (before ▹ e) → AreTaken before
taken_before before (E.Take now (T.Item (I.Iface k i))) a = a.0
taken_before before (E.Take now (T.Item (I.Packet p))) a = a.0
taken_before before (E.Take now (T.Item (I.Ended k how))) a = a
taken_before before (E.Take now T.Empty) a = a
taken_before before (E.Take now T.Done) a = a
taken_before before (E.Tally now cs) a = a
taken_before before (E.Stop why l) a = a
taken_before before (E.Join x y z) a = a
taken_before before (E.Offer x y z) a = a
taken_before before (E.End x y) a = a

counted_before : (before : Past) (e : Entry) → AreCounted (before ▹ e) → AreCounted before
counted_before before (E.Take now t) c = c
counted_before before (E.Tally now cs) c = c.0
counted_before before (E.Stop why l) c = c
counted_before before (E.Join x y z) c = c
counted_before before (E.Offer x y z) c = c
counted_before before (E.End x y) c = c

pub fronts_hold : (s : Settings) (h : History) (n : ℕ) (place : Place) (said : List Act) → Legal s.limits (length s.sources) h → IsOrderlySoFar s (up_to_cut (writers_past (length s.sources) h))
    → IsPlace place (said_acts (piece_of s) n (up_to_cut (writers_past (length s.sources) h))) → AreSaid said
    → (packets : List Packet) × (later : List Packet) × FilesHold (done_at place ++ effects_of_acts said) packets × (packets_taken (writers_past (length s.sources) h) ≡ packets ++ later)
fronts_hold s h n place said legal o p m = let past = writers_past (length s.sources) h in
    front_holds s past n place o p said (files_of_shape s (up_to_cut past) (shaped s (up_to_cut past) (at_front AreTaken taken_before past (are_taken s h legal)) (at_front AreCounted counted_before past (are_counted s.limits (length s.sources) h legal)) o)) m
