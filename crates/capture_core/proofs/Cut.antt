-- What the outlet did where a call of it failed.
use Rattle.std.proofs.Common.{◌≡◌, ◌⊎◌, inl, inr, ℕ, ◌+◌, ◌-◌, nat_lt, Bool, true, false, not, ◌||◌, ◌&&◌, if◌then◌else◌, List, [], ◌∷◌, ◌++◌, length, take, refl, sym, ap, ◌∙◌, subst, arith, append_assoc}
use Rattle.std.specs.List.{All}
use Rattle.std.proofs.lemmas.List.{append-nil, take_at}
use Rattle.cap_base.specs.Effects.{Effect, bytes}
use Rattle.cap_base.specs.Histories.{History}
use Rattle.cap_base.specs.Fates.{written, taken, lost}
use Rattle.cap_base.specs.Legal.{Legal}
use Rattle.cap_base.specs.declared.packet.Packet.{Packet}
use Rattle.cap_base.specs.declared.counts.Counts.{Counts}
use Rattle.cap_base.specs.declared.settings.Settings.{Settings}
use Rattle.cap_base.specs.declared.entries.Item.TheVariants as I
use Rattle.cap_base.specs.declared.entries.Taken.{Taken}
use Rattle.cap_base.specs.declared.entries.Taken.TheVariants as T
use Rattle.cap_base.specs.declared.entries.Why.TheVariants as W
use Rattle.cap_base.specs.declared.entries.Entry.{Entry}
use Rattle.cap_base.specs.declared.entries.Entry.TheVariants as E
use Rattle.capture_desk.specs.declared.acts.Act.{Act}
use Rattle.capture_desk.specs.declared.acts.Act.TheVariants.{Create, Put, Finish, Remove, Say}
use Rattle.capture_desk.specs.declared.due.Due.{Due}
use Rattle.capture_desk.specs.declared.due.Due.TheVariants as dues
use Rattle.capture_desk.specs.Past.{Past, nothing, ◌▹◌}
use Rattle.capture_desk.specs.Doing.{packets_put, effects_of_acts, Place, IsPart, IsPlace, done_at, unsaid}
use Rattle.capture_desk.specs.Due.{stopped, file_lost, memory_lost, is_done, next_after, due_by, due_done, after_tally, after_file_fault, after_no_memory, says, due}
use Rattle.capture_desk.specs.Acts.{piece, piece_of, acts, tally_piece, take_piece}
use Rattle.capture_desk.specs.Orderly.{IsOrderlySoFar}
use Rattle.capture_desk.specs.Cuts.{has_say, heard, plain, silenced, is_silence, said_acts, is_cut, named_at, files_at, up_to_cut, piece_behind, lost_of, DidCut, Which, IsDoneFor}
use Rattle.capture_desk.specs.Laws.{AreSaid, packets_taken}
use Rattle.capture_core.specs.Writers.{writers_past}
use Rattle.capture_core.specs.Made.{IsTorn, FilesHold}
use Rattle.capture_core.proofs.Fitted.{MayBegin}
use Rattle.capture_core.proofs.Blocks.{file_blocks, files_unsaid, blocks_put, IsQuiet, files_hold, packets_both, unsaid_both, unsaid_twice, packets_unsaid, blocks_unsaid, quiet_says}
use Rattle.capture_desk.proofs.Sums.{all_put}
use Rattle.capture_core.proofs.Puts.{StartsCreating, begins, unsaid_say, unsaid_closing}
use Rattle.capture_core.proofs.Taken.{taken_is, lost_is, count_is}

-- ---- messages that are cut

unsaid_heard : (n : ℕ) (xs : List Act) → unsaid (heard n xs) ≡ unsaid xs
unsaid_heard n [] = refl
unsaid_heard n (Say m ∷ xs) = go (nat_lt n (length m)) (unsaid_heard (n - length m) xs) where
  go : (b : Bool) → unsaid (heard (n - length m) xs) ≡ unsaid xs → unsaid (if b then Say (take n m) ∷ unsaid xs else Say m ∷ heard (n - length m) xs) ≡ unsaid xs
  go true ih = unsaid_twice xs
  go false ih = ih
unsaid_heard n (Create name ∷ xs) = ap (λ (z : List Act). Create name ∷ z) (unsaid_heard n xs)
unsaid_heard n (Put b ∷ xs) = ap (λ (z : List Act). Put b ∷ z) (unsaid_heard n xs)
unsaid_heard n (Finish ∷ xs) = ap (λ (z : List Act). Finish ∷ z) (unsaid_heard n xs)
unsaid_heard n (Remove name ∷ xs) = ap (λ (z : List Act). Remove name ∷ z) (unsaid_heard n xs)

module _ (f : Past → Entry → List Act) (n : ℕ) where
  unsaid_silenced : (past : Past) → unsaid (silenced f n past) ≡ unsaid (plain f past)
  unsaid_silenced nothing = refl
  unsaid_silenced (before ▹ e) = go (has_say (f before e)) (unsaid_silenced before) where
    go : (b : Bool) → unsaid (silenced f n before) ≡ unsaid (plain f before) → unsaid (if b then plain f before ++ heard n (f before e) else silenced f n before ++ f before e) ≡ unsaid (plain f before ++ f before e)
    go true ih = unsaid_both (plain f before) (heard n (f before e)) ∙ ap (λ (z : List Act). unsaid (plain f before) ++ z) (unsaid_heard n (f before e)) ∙ sym (unsaid_both (plain f before) (f before e))
    go false ih = unsaid_both (silenced f n before) (f before e) ∙ ap (λ (z : List Act). z ++ unsaid (f before e)) ih ∙ sym (unsaid_both (plain f before) (f before e))

  one_more : (before : Past) (e : Entry) → unsaid (said_acts f n before) ≡ unsaid (plain f before) → unsaid (said_acts f n before ++ f before e) ≡ unsaid (plain f before ++ f before e)
  one_more before e ih = unsaid_both (said_acts f n before) (f before e) ∙ ap (λ (z : List Act). z ++ unsaid (f before e)) ih ∙ sym (unsaid_both (plain f before) (f before e))

  -- where memory was enough, only messages are cut
  pub unsaid_said : ((before : Past) (l : ℕ) → unsaid (f before (E.Stop W.SyncFault l)) ≡ []) → (past : Past) → memory_lost past ≡ false → unsaid (said_acts f n past) ≡ unsaid (plain f past)
  unfolding said_acts
  unsaid_said bare nothing m = refl
  unsaid_said bare (before ▹ E.Stop W.SyncFault lost) m = unsaid_silenced before ∙ sym (unsaid_both (plain f before) (f before (E.Stop W.SyncFault lost)) ∙ ap (λ (z : List Act). unsaid (plain f before) ++ z) (bare before lost) ∙ append-nil (unsaid (plain f before)))
  unsaid_said bare (before ▹ E.Stop W.NoMemory lost) m = cc
  unsaid_said bare (before ▹ E.Stop W.FileFault lost) m = one_more before _ (unsaid_said bare before m)
  unsaid_said bare (before ▹ E.Stop W.Packets lost) m = one_more before _ (unsaid_said bare before m)
  unsaid_said bare (before ▹ E.Stop W.Filesize lost) m = one_more before _ (unsaid_said bare before m)
  unsaid_said bare (before ▹ E.Stop W.Duration lost) m = one_more before _ (unsaid_said bare before m)
  unsaid_said bare (before ▹ E.Stop W.Files lost) m = one_more before _ (unsaid_said bare before m)
  unsaid_said bare (before ▹ E.Take now t) m = one_more before _ (unsaid_said bare before m)
  unsaid_said bare (before ▹ E.Tally now cs) m = one_more before _ (unsaid_said bare before m)
  unsaid_said bare (before ▹ E.Join x y z) m = one_more before _ (unsaid_said bare before m)
  unsaid_said bare (before ▹ E.Offer x y z) m = one_more before _ (unsaid_said bare before m)
  unsaid_said bare (before ▹ E.End x y) m = one_more before _ (unsaid_said bare before m)

  -- pieces that only say something
  module _ (silent : (before : Past) (e : Entry) → unsaid (f before e) ≡ []) where
    silent_plain : (past : Past) → unsaid (plain f past) ≡ []
    silent_plain nothing = refl
    silent_plain (before ▹ e) = unsaid_both (plain f before) (f before e) ∙ ap (λ (z : List Act). z ++ unsaid (f before e)) (silent_plain before) ∙ silent before e

    more_silent : (before : Past) (e : Entry) → unsaid (said_acts f n before) ≡ [] → unsaid (said_acts f n before ++ f before e) ≡ []
    more_silent before e ih = unsaid_both (said_acts f n before) (f before e) ∙ ap (λ (z : List Act). z ++ unsaid (f before e)) ih ∙ silent before e

    either : (b : Bool) (xs ys : List Act) → unsaid xs ≡ [] → unsaid ys ≡ [] → unsaid (if b then xs else ys) ≡ []
    either true xs ys p q = p
    either false xs ys p q = q

    pub silent_said : (past : Past) → unsaid (said_acts f n past) ≡ []
    unfolding said_acts
    silent_said nothing = refl
    silent_said (before ▹ E.Stop W.SyncFault lost) = unsaid_silenced before ∙ silent_plain before
    silent_said (nothing ▹ E.Stop W.NoMemory lost) = refl
    silent_said ((earlier ▹ e) ▹ E.Stop W.NoMemory lost) = either (file_lost (earlier ▹ e) && not (is_silence e)) _ _ (silent_said earlier) (silent_said (earlier ▹ e))
    silent_said (before ▹ E.Stop W.FileFault lost) = more_silent before _ (silent_said before)
    silent_said (before ▹ E.Stop W.Packets lost) = more_silent before _ (silent_said before)
    silent_said (before ▹ E.Stop W.Filesize lost) = more_silent before _ (silent_said before)
    silent_said (before ▹ E.Stop W.Duration lost) = more_silent before _ (silent_said before)
    silent_said (before ▹ E.Stop W.Files lost) = more_silent before _ (silent_said before)
    silent_said (before ▹ E.Take now t) = more_silent before _ (silent_said before)
    silent_said (before ▹ E.Tally now cs) = more_silent before _ (silent_said before)
    silent_said (before ▹ E.Join x y z) = more_silent before _ (silent_said before)
    silent_said (before ▹ E.Offer x y z) = more_silent before _ (silent_said before)
    silent_said (before ▹ E.End x y) = more_silent before _ (silent_said before)

pub plain_is : (s : Settings) (past : Past) → plain (piece_of s) past ≡ acts s past
unfolding acts
plain_is s nothing = refl
plain_is s (before ▹ e) = ap (λ (z : List Act). z ++ piece_of s before e) (plain_is s before)

silence_is : (s : Settings) (before : Past) (l : ℕ) → unsaid (piece_of s before (E.Stop W.SyncFault l)) ≡ []
unfolding piece
silence_is s before l = refl

-- all acts, but for what is said
pub unsaid_all : (s : Settings) (n : ℕ) (past : Past) → memory_lost past ≡ false → unsaid (said_acts (piece_of s) n past) ≡ unsaid (acts s past)
unsaid_all s n past m = unsaid_said (piece_of s) n (silence_is s) past m ∙ ap unsaid (plain_is s past)

-- ---- behind a fault no file act comes

abbrev pub IsNoFile : Due → Type 0
IsNoFile dues.SwitchTally = ⊥
IsNoFile dues.LastTally = ⊥
IsNoFile other = Unit {0}

fault_stops : (past : Past) → file_lost past ≡ true → stopped past ≡ true
fault_stops nothing f = cc
fault_stops (before ▹ E.Stop why l) f = refl
fault_stops (before ▹ E.Take now t) f = fault_stops before f
fault_stops (before ▹ E.Tally now cs) f = fault_stops before f
fault_stops (before ▹ E.Join x y z) f = fault_stops before f
fault_stops (before ▹ E.Offer x y z) f = fault_stops before f
fault_stops (before ▹ E.End x y) f = fault_stops before f

done_no_file : (m f : Bool) → f ≡ true → IsNoFile (if m then dues.Over else if f then dues.ClosingTally else dues.LastTally)
done_no_file true f e = tt
done_no_file false true e = tt
done_no_file false false e = cc

stays : (s : Settings) (before : Past) (now : ℕ) (t : Taken) → stopped before ≡ true → is_done t ≡ false → IsNoFile (due_by (next_after s before now t))
unfolding next_after
stays s before now t st d = rw (d, st) tt

after_tally_none : (d : Due) → IsNoFile d → IsNoFile (after_tally d)
after_tally_none dues.SwitchTally k = absurd k
after_tally_none dues.LastTally k = absurd k
after_tally_none dues.ClosingTally k = tt
after_tally_none dues.Take k = tt
after_tally_none (dues.Stop w) k = tt
after_tally_none dues.Over k = tt

after_fault_none : (d : Due) → IsNoFile (after_file_fault d)
after_fault_none dues.SwitchTally = tt
after_fault_none dues.LastTally = tt
after_fault_none dues.ClosingTally = tt
after_fault_none dues.Take = tt
after_fault_none (dues.Stop w) = tt
after_fault_none dues.Over = tt

after_memory_none : (d : Due) → IsNoFile (after_no_memory d)
after_memory_none dues.SwitchTally = tt
after_memory_none dues.LastTally = tt
after_memory_none dues.ClosingTally = tt
after_memory_none dues.Take = tt
after_memory_none (dues.Stop w) = tt
after_memory_none dues.Over = tt

either_due : (b : Bool) (d : Due) → IsNoFile d → IsNoFile (if b then dues.Take else d)
either_due true d k = tt
either_due false d k = k

take_no_file : (s : Settings) (before : Past) (now : ℕ) (t : Taken) (b : Bool) → is_done t ≡ b → file_lost before ≡ true → IsNoFile (if b then due_done before else due_by (next_after s before now t))
take_no_file s before now t true d f = done_no_file (memory_lost before) (file_lost before) f
take_no_file s before now t false d f = stays s before now t (fault_stops before f) d

pub no_file : (s : Settings) (past : Past) → file_lost past ≡ true → IsNoFile (due s past)
unfolding due
no_file s nothing f = cc
no_file s (before ▹ E.Take now t) f = take_no_file s before now t (is_done t) refl f
no_file s (before ▹ E.Tally now cs) f = after_tally_none (due s before) (no_file s before f)
no_file s (before ▹ E.Stop W.FileFault l) f = after_fault_none (due s before)
no_file s (before ▹ E.Stop W.NoMemory l) f = after_memory_none (due s before)
no_file s (before ▹ E.Stop W.SyncFault l) f = either_due (says s before) (due s before) (no_file s before f)
no_file s (before ▹ E.Stop W.Packets l) f = tt
no_file s (before ▹ E.Stop W.Filesize l) f = tt
no_file s (before ▹ E.Stop W.Duration l) f = tt
no_file s (before ▹ E.Stop W.Files l) f = tt
no_file s (before ▹ E.Join x y z) f = no_file s before f
no_file s (before ▹ E.Offer x y z) f = no_file s before f
no_file s (before ▹ E.End x y) f = no_file s before f

tally_silent : (s : Settings) (k : ℕ) (before : Past) (now : ℕ) (cs : List Counts) (d : Due) → due s before ≡ d → IsNoFile d → unsaid (tally_piece s k before now cs) ≡ []
unfolding tally_piece
tally_silent s k before now cs dues.SwitchTally e none = absurd none
tally_silent s k before now cs dues.LastTally e none = absurd none
tally_silent s k before now cs dues.ClosingTally e none = rw e (unsaid_closing s k before cs)
tally_silent s k before now cs dues.Take e none = rw e refl
tally_silent s k before now cs (dues.Stop w) e none = rw e refl
tally_silent s k before now cs dues.Over e none = rw e refl

unless : (b : Bool) (xs : List Act) → (b ≡ false → unsaid xs ≡ []) → unsaid (if b then [] else xs) ≡ []
unless true xs e = refl
unless false xs e = e refl

when : (b : Bool) (xs : List Act) → (b ≡ true → unsaid xs ≡ []) → unsaid (if b then xs else []) ≡ []
when true xs e = e refl
when false xs e = refl

-- in these cases one of both is so
pub the_other : (f m : Bool) → f || m ≡ true → m ≡ false → f ≡ true
the_other true m e q = refl
the_other false m e q = cc

pub either_way : (f m : Bool) → f || m ≡ true → m || f ≡ true
either_way true true e = refl
either_way true false e = refl
either_way false true e = refl
either_way false false e = cc

module _ (s : Settings) (last : List ℕ) (k : ℕ) (before : Past) (cut : is_cut before ≡ true) where
  take_behind : (now : ℕ) (t : Taken) → unsaid (piece s last k before (E.Take now t)) ≡ []
  unfolding piece
  take_behind now t = unless (memory_lost before || file_lost before) (take_piece s before now t) (λ q. let z : true ≡ false = sym (either_way (file_lost before) (memory_lost before) cut) ∙ q in cc)

  tally_behind : (now : ℕ) (cs : List Counts) → unsaid (piece s last k before (E.Tally now cs)) ≡ []
  unfolding piece
  tally_behind now cs = unless (memory_lost before) (tally_piece s k before now cs) (λ q. tally_silent s k before now cs (due s before) refl (no_file s before (the_other (file_lost before) (memory_lost before) cut q)))

fault_behind : (s : Settings) (last : List ℕ) (k : ℕ) (before : Past) (l : ℕ) → unsaid (piece s last k before (E.Stop W.FileFault l)) ≡ []
unfolding piece
fault_behind s last k before l = unless (memory_lost before) _ (λ q. unsaid_say _ _)

pub behind_silent : (s : Settings) (place : Place) (before : Past) (e : Entry) → unsaid (piece_behind s place before e) ≡ []
unfolding piece
behind_silent s place before (E.Stop W.FileFault l) = fault_behind s (named_at place) (files_at place) before l
behind_silent s place before (E.Take now t) = when (is_cut before) _ (λ q. take_behind s (named_at place) (files_at place) before q now t)
behind_silent s place before (E.Tally now cs) = when (is_cut before) _ (λ q. tally_behind s (named_at place) (files_at place) before q now cs)
behind_silent s place before (E.Stop W.NoMemory l) = when (is_cut before) _ (λ q. refl)
behind_silent s place before (E.Stop W.SyncFault l) = when (is_cut before) _ (λ q. refl)
behind_silent s place before (E.Stop W.Packets l) = when (is_cut before) _ (λ q. refl)
behind_silent s place before (E.Stop W.Filesize l) = when (is_cut before) _ (λ q. refl)
behind_silent s place before (E.Stop W.Duration l) = when (is_cut before) _ (λ q. refl)
behind_silent s place before (E.Stop W.Files l) = when (is_cut before) _ (λ q. refl)
behind_silent s place before (E.Join x y z) = when (is_cut before) _ (λ q. refl)
behind_silent s place before (E.Offer x y z) = when (is_cut before) _ (λ q. refl)
behind_silent s place before (E.End x y) = when (is_cut before) _ (λ q. refl)

-- ---- the entries before the cut

-- what holds of each front of the entries holds of these
module _ (P : Past → Type 0) (less : (before : Past) (e : Entry) → P (before ▹ e) → P before) where
  or_else : (b : Bool) (up past : Past) → P up → P past → P (if b then up else past)
  or_else true up past u p = u
  or_else false up past u p = p

  pub at_front : (past : Past) → P past → P (up_to_cut past)
  at_front nothing p = p
  at_front (before ▹ E.Stop W.FileFault l) p = let q = less before _ p in or_else (is_cut before) (up_to_cut before) before (at_front before q) q
  at_front (before ▹ E.Stop W.NoMemory l) p = let q = less before _ p in or_else (is_cut before) (up_to_cut before) before (at_front before q) q
  at_front (before ▹ E.Stop W.SyncFault l) p = or_else (is_cut before) (up_to_cut before) (before ▹ E.Stop W.SyncFault l) (at_front before (less before _ p)) p
  at_front (before ▹ E.Stop W.Packets l) p = or_else (is_cut before) (up_to_cut before) (before ▹ E.Stop W.Packets l) (at_front before (less before _ p)) p
  at_front (before ▹ E.Stop W.Filesize l) p = or_else (is_cut before) (up_to_cut before) (before ▹ E.Stop W.Filesize l) (at_front before (less before _ p)) p
  at_front (before ▹ E.Stop W.Duration l) p = or_else (is_cut before) (up_to_cut before) (before ▹ E.Stop W.Duration l) (at_front before (less before _ p)) p
  at_front (before ▹ E.Stop W.Files l) p = or_else (is_cut before) (up_to_cut before) (before ▹ E.Stop W.Files l) (at_front before (less before _ p)) p
  at_front (before ▹ E.Take now t) p = or_else (is_cut before) (up_to_cut before) (before ▹ E.Take now t) (at_front before (less before _ p)) p
  at_front (before ▹ E.Tally now cs) p = or_else (is_cut before) (up_to_cut before) (before ▹ E.Tally now cs) (at_front before (less before _ p)) p
  at_front (before ▹ E.Join x y z) p = or_else (is_cut before) (up_to_cut before) (before ▹ E.Join x y z) (at_front before (less before _ p)) p
  at_front (before ▹ E.Offer x y z) p = or_else (is_cut before) (up_to_cut before) (before ▹ E.Offer x y z) (at_front before (less before _ p)) p
  at_front (before ▹ E.End x y) p = or_else (is_cut before) (up_to_cut before) (before ▹ E.End x y) (at_front before (less before _ p)) p

pub front_orderly : (s : Settings) (past : Past) → IsOrderlySoFar s past → IsOrderlySoFar s (up_to_cut past)
front_orderly s past o = at_front (IsOrderlySoFar s) (λ before e w. w.0) past o

-- nothing was lost before it, and the packets taken begin with those that were taken before it
pub record Front (past up : Past) : Type 0 where
  pub file : file_lost up ≡ false
  pub memory : memory_lost up ≡ false
  pub later : List Packet
  pub packets : packets_taken past ≡ packets_taken up ++ later

pub parts_false : (a b : Bool) → a || b ≡ false → (a ≡ false) × (b ≡ false)
parts_false true b e = cc
parts_false false b e = (refl, e)

-- an entry more that is no fault
front_more : (before : Past) (e : Entry) (more : List Packet) (b : Bool) → is_cut before ≡ b → is_cut (before ▹ e) ≡ is_cut before → packets_taken (before ▹ e) ≡ packets_taken before ++ more
    → Front before (up_to_cut before) → Front (before ▹ e) (if b then up_to_cut before else before ▹ e)
front_more before e more true q same takes w = record {
  file = w.file;
  memory = w.memory;
  later = w.later ++ more;
  packets = takes ∙ ap (λ (z : List Packet). z ++ more) w.packets ∙ append_assoc (packets_taken (up_to_cut before)) w.later more;
}
front_more before e more false q same takes w = let k = parts_false (file_lost (before ▹ e)) (memory_lost (before ▹ e)) (same ∙ q) in record {
  file = k.0;
  memory = k.1;
  later = [];
  packets = sym (append-nil (packets_taken (before ▹ e)));
}

-- that takes no packet
front_else : (before : Past) (e : Entry) → is_cut (before ▹ e) ≡ is_cut before → packets_taken (before ▹ e) ≡ packets_taken before → Front before (up_to_cut before) → Front (before ▹ e) (if is_cut before then up_to_cut before else before ▹ e)
front_else before e same takes w = front_more before e [] (is_cut before) refl same (takes ∙ sym (append-nil (packets_taken before))) w

-- a fault
front_fault : (before : Past) (e : Entry) (b : Bool) → is_cut before ≡ b → packets_taken (before ▹ e) ≡ packets_taken before → Front before (up_to_cut before)
    → Front (before ▹ e) (if b then up_to_cut before else before)
front_fault before e true q takes w = record { file = w.file; memory = w.memory; later = w.later; packets = takes ∙ w.packets }
front_fault before e false q takes w = let k = parts_false (file_lost before) (memory_lost before) q in record { file = k.0; memory = k.1; later = []; packets = takes ∙ sym (append-nil (packets_taken before)) }

pub front : (past : Past) → Front past (up_to_cut past)
front nothing = record { file = refl; memory = refl; later = []; packets = refl }
front (before ▹ E.Stop W.FileFault l) = front_fault before _ (is_cut before) refl refl (front before)
front (before ▹ E.Stop W.NoMemory l) = front_fault before _ (is_cut before) refl refl (front before)
front (before ▹ E.Stop W.SyncFault l) = front_else before _ refl refl (front before)
front (before ▹ E.Stop W.Packets l) = front_else before _ refl refl (front before)
front (before ▹ E.Stop W.Filesize l) = front_else before _ refl refl (front before)
front (before ▹ E.Stop W.Duration l) = front_else before _ refl refl (front before)
front (before ▹ E.Stop W.Files l) = front_else before _ refl refl (front before)
front (before ▹ E.Take now (T.Item (I.Packet p))) = front_more before _ (p ∷ []) (is_cut before) refl refl refl (front before)
front (before ▹ E.Take now (T.Item (I.Iface n i))) = front_else before _ refl refl (front before)
front (before ▹ E.Take now (T.Item (I.Ended n how))) = front_else before _ refl refl (front before)
front (before ▹ E.Take now T.Empty) = front_else before _ refl refl (front before)
front (before ▹ E.Take now T.Done) = front_else before _ refl refl (front before)
front (before ▹ E.Tally now cs) = front_else before _ refl refl (front before)
front (before ▹ E.Join x y z) = front_else before _ refl refl (front before)
front (before ▹ E.Offer x y z) = front_else before _ refl refl (front before)
front (before ▹ E.End x y) = front_else before _ refl refl (front before)

-- ---- no block is put before the first file

starts_or_none : (s : Settings) (past : Past) → IsOrderlySoFar s past → (acts s past ≡ []) ⊎ StartsCreating (acts s past)
unfolding acts
starts_or_none s nothing o = inl refl
starts_or_none s (before ▹ e) o = inr (begins s (before ▹ e) o refl)

-- a front of acts that begin so
front_blocks : (whole rest all : List Act) → whole ++ rest ≡ all → (all ≡ []) ⊎ StartsCreating all → blocks_put whole ≡ []
front_blocks [] rest all e k = refl
front_blocks (Create name ∷ whole) rest all e k = refl
front_blocks (Put b ∷ whole) rest [] e k = cc
front_blocks (Put b ∷ whole) rest (x ∷ all) e (inl k) = cc
front_blocks (Put b ∷ whole) rest (Create name ∷ all) e (inr k) = cc
front_blocks (Put b ∷ whole) rest (Put c ∷ all) e (inr k) = absurd k
front_blocks (Put b ∷ whole) rest (Finish ∷ all) e (inr k) = absurd k
front_blocks (Put b ∷ whole) rest (Remove name ∷ all) e (inr k) = absurd k
front_blocks (Put b ∷ whole) rest (Say m ∷ all) e (inr k) = absurd k
front_blocks (Finish ∷ whole) rest [] e k = cc
front_blocks (Finish ∷ whole) rest (x ∷ all) e (inl k) = cc
front_blocks (Finish ∷ whole) rest (Create name ∷ all) e (inr k) = cc
front_blocks (Finish ∷ whole) rest (Put c ∷ all) e (inr k) = absurd k
front_blocks (Finish ∷ whole) rest (Finish ∷ all) e (inr k) = absurd k
front_blocks (Finish ∷ whole) rest (Remove name ∷ all) e (inr k) = absurd k
front_blocks (Finish ∷ whole) rest (Say m ∷ all) e (inr k) = absurd k
front_blocks (Remove name ∷ whole) rest [] e k = cc
front_blocks (Remove name ∷ whole) rest (x ∷ all) e (inl k) = cc
front_blocks (Remove name ∷ whole) rest (Create other ∷ all) e (inr k) = cc
front_blocks (Remove name ∷ whole) rest (Put c ∷ all) e (inr k) = absurd k
front_blocks (Remove name ∷ whole) rest (Finish ∷ all) e (inr k) = absurd k
front_blocks (Remove name ∷ whole) rest (Remove other ∷ all) e (inr k) = absurd k
front_blocks (Remove name ∷ whole) rest (Say m ∷ all) e (inr k) = absurd k
front_blocks (Say m ∷ whole) rest [] e k = cc
front_blocks (Say m ∷ whole) rest (x ∷ all) e (inl k) = cc
front_blocks (Say m ∷ whole) rest (Create other ∷ all) e (inr k) = cc
front_blocks (Say m ∷ whole) rest (Put c ∷ all) e (inr k) = absurd k
front_blocks (Say m ∷ whole) rest (Finish ∷ all) e (inr k) = absurd k
front_blocks (Say m ∷ whole) rest (Remove other ∷ all) e (inr k) = absurd k
front_blocks (Say m ∷ whole) rest (Say n ∷ all) e (inr k) = absurd k

-- acts that are the same but for what is said
none_before : (whole rest all : List Act) → unsaid (whole ++ rest) ≡ unsaid all → (all ≡ []) ⊎ StartsCreating all → blocks_put whole ≡ []
none_before whole rest all e k = sym (blocks_unsaid whole) ∙ front_blocks (unsaid whole) (unsaid rest) (unsaid all) (sym (unsaid_both whole rest) ∙ e) (go all k) where
  go : (all : List Act) → (all ≡ []) ⊎ StartsCreating all → (unsaid all ≡ []) ⊎ StartsCreating (unsaid all)
  go all (inl q) = inl (ap unsaid q)
  go [] (inr q) = absurd q
  go (Create name ∷ all) (inr q) = inr tt
  go (Put b ∷ all) (inr q) = absurd q
  go (Finish ∷ all) (inr q) = absurd q
  go (Remove name ∷ all) (inr q) = absurd q
  go (Say m ∷ all) (inr q) = absurd q

-- ---- what nothing was lost of

pub none_lost : (s : Settings) (past : Past) → IsOrderlySoFar s past → file_lost past ≡ false → memory_lost past ≡ false → lost_of past ≡ 0
none_lost s nothing o f m = refl
none_lost s (before ▹ E.Stop W.FileFault l) o f m = cc
none_lost s (before ▹ E.Stop W.NoMemory l) o f m = cc
none_lost s (before ▹ E.Stop W.SyncFault l) o f m = let a : lost_of before ≡ 0 = none_lost s before o.0 f m in let b : l ≡ 0 = o.1.2.0 in omega arith
none_lost s (before ▹ E.Stop W.Packets l) o f m = let a : lost_of before ≡ 0 = none_lost s before o.0 f m in let b : l ≡ 0 = o.1.2.0 in omega arith
none_lost s (before ▹ E.Stop W.Filesize l) o f m = let a : lost_of before ≡ 0 = none_lost s before o.0 f m in let b : l ≡ 0 = o.1.2.0 in omega arith
none_lost s (before ▹ E.Stop W.Duration l) o f m = let a : lost_of before ≡ 0 = none_lost s before o.0 f m in let b : l ≡ 0 = o.1.2.0 in omega arith
none_lost s (before ▹ E.Stop W.Files l) o f m = let a : lost_of before ≡ 0 = none_lost s before o.0 f m in let b : l ≡ 0 = o.1.2.0 in omega arith
none_lost s (before ▹ E.Take now t) o f m = none_lost s before o.0 f m
none_lost s (before ▹ E.Tally now cs) o f m = none_lost s before o.0 f m
none_lost s (before ▹ E.Join x y z) o f m = absurd o.1
none_lost s (before ▹ E.Offer x y z) o f m = absurd o.1
none_lost s (before ▹ E.End x y) o f m = absurd o.1

-- ---- behind the cut

-- behind the cut there are only more acts
abbrev MoreThan : Settings → Past → Past → Type 0
MoreThan s past up = (more : List Act) × (acts s past ≡ acts s up ++ more)

longer : (s : Settings) (before : Past) (e : Entry) → MoreThan s before (up_to_cut before) → MoreThan s (before ▹ e) (up_to_cut before)
unfolding acts
longer s before e w = (w.0 ++ piece_of s before e, ap (λ (z : List Act). z ++ piece_of s before e) w.1 ∙ append_assoc (acts s (up_to_cut before)) w.0 (piece_of s before e))

here : (s : Settings) (before : Past) (b : Bool) (e : Entry) → MoreThan s before (up_to_cut before) → MoreThan s (before ▹ e) (if b then up_to_cut before else before ▹ e)
here s before true e w = longer s before e w
here s before false e w = ([], sym (append-nil (acts s (before ▹ e))))

fault : (s : Settings) (before : Past) (b : Bool) (e : Entry) → MoreThan s before (up_to_cut before) → MoreThan s (before ▹ e) (if b then up_to_cut before else before)
unfolding acts
fault s before true e w = longer s before e w
fault s before false e w = (piece_of s before e, refl)

pub more_acts : (s : Settings) (past : Past) → MoreThan s past (up_to_cut past)
more_acts s nothing = ([], sym (append-nil (acts s nothing)))
more_acts s (before ▹ E.Stop W.FileFault l) = fault s before (is_cut before) (E.Stop W.FileFault l) (more_acts s before)
more_acts s (before ▹ E.Stop W.NoMemory l) = fault s before (is_cut before) (E.Stop W.NoMemory l) (more_acts s before)
more_acts s (before ▹ E.Stop W.SyncFault l) = here s before (is_cut before) (E.Stop W.SyncFault l) (more_acts s before)
more_acts s (before ▹ E.Stop W.Packets l) = here s before (is_cut before) (E.Stop W.Packets l) (more_acts s before)
more_acts s (before ▹ E.Stop W.Filesize l) = here s before (is_cut before) (E.Stop W.Filesize l) (more_acts s before)
more_acts s (before ▹ E.Stop W.Duration l) = here s before (is_cut before) (E.Stop W.Duration l) (more_acts s before)
more_acts s (before ▹ E.Stop W.Files l) = here s before (is_cut before) (E.Stop W.Files l) (more_acts s before)
more_acts s (before ▹ E.Take now t) = here s before (is_cut before) (E.Take now t) (more_acts s before)
more_acts s (before ▹ E.Tally now cs) = here s before (is_cut before) (E.Tally now cs) (more_acts s before)
more_acts s (before ▹ E.Join x y z) = here s before (is_cut before) (E.Join x y z) (more_acts s before)
more_acts s (before ▹ E.Offer x y z) = here s before (is_cut before) (E.Offer x y z) (more_acts s before)
more_acts s (before ▹ E.End x y) = here s before (is_cut before) (E.End x y) (more_acts s before)

-- the files of any front of all acts, but for what is said, are files
abbrev pub AreFiles : Settings → Past → Type 0
AreFiles s past = (front rest : List Act) → unsaid (acts s past) ≡ front ++ rest → All MayBegin (file_blocks front)

files_of : (s : Settings) (past : Past) (whole rest : List Act) → unsaid (whole ++ rest) ≡ unsaid (acts s past) → AreFiles s past → All MayBegin (file_blocks whole)
files_of s past whole rest e f = subst (All MayBegin) (files_unsaid whole) (f (unsaid whole) (unsaid rest) (sym e ∙ unsaid_both whole rest))

front_files : (s : Settings) (past : Past) → AreFiles s past → AreFiles s (up_to_cut past)
front_files s past f first rest q = let more = more_acts s past in
    f first (rest ++ unsaid more.0) (ap unsaid more.1 ∙ unsaid_both (acts s (up_to_cut past)) more.0 ∙ ap (λ (z : List Act). z ++ unsaid more.0) q ∙ append_assoc first rest (unsaid more.0))

-- ---- together

said_alone : (xs : List Act) → AreSaid xs → unsaid xs ≡ []
said_alone [] m = refl
said_alone (Say t ∷ xs) m = said_alone xs m
said_alone (Create name ∷ xs) m = absurd m
said_alone (Put b ∷ xs) m = absurd m
said_alone (Finish ∷ xs) m = absurd m
said_alone (Remove name ∷ xs) m = absurd m

torn_part : (part : List ℕ) (rest : List Act) → IsPart part rest → IsTorn part
torn_part part [] e = inl e
torn_part part (Put b ∷ more) e = inr (b, e.0, e.1, e.2)
torn_part part (Create name ∷ more) e = inl e
torn_part part (Finish ∷ more) e = inl e
torn_part part (Remove name ∷ more) e = inl e
torn_part part (Say m ∷ more) e = inl e

-- the first ones of the packets
first_ones : (front later : List Packet) (lost all : ℕ) → length (front ++ later) ≡ all → length front + lost ≡ all → take (all - lost) (front ++ later) ≡ front
first_ones front later lost all long e = take_at front later (all - lost) (omega arith)

-- up to a place in what is asked for before the cut
module _ (s : Settings) (past : Past) (n : ℕ) (place : Place) (o : IsOrderlySoFar s (up_to_cut past)) (p : IsPlace place (said_acts (piece_of s) n (up_to_cut past))) where
  same : unsaid (place.whole ++ place.rest) ≡ unsaid (acts s (up_to_cut past))
  same = ap unsaid (sym p.split) ∙ unsaid_all s n (up_to_cut past) (front past).memory

  -- the files hold the packets that are put before it, where no file act is behind it
  place_holds : AreFiles s (up_to_cut past) → (es : List Effect) → IsQuiet es → FilesHold (done_at place ++ es) (packets_put place.whole)
  place_holds f es quiet = subst (λ (z : List Effect). FilesHold z (packets_put place.whole)) (sym (append_assoc (effects_of_acts place.whole) (bytes place.part) es))
      (files_hold place.whole place.part es (torn_part place.part place.rest p.within) quiet (none_before place.whole place.rest (acts s (up_to_cut past)) same (starts_or_none s (up_to_cut past) o)) (files_of s (up_to_cut past) place.whole place.rest same f))

  -- and the packets taken begin with these
  place_packets : packets_taken past ≡ packets_put place.whole ++ (packets_put place.rest ++ (front past).later)
  place_packets = (front past).packets
      ∙ ap (λ (z : List Packet). z ++ (front past).later)
      (sym (all_put s (up_to_cut past) (front past).file (front past).memory) ∙ sym (packets_unsaid (acts s (up_to_cut past))) ∙ ap packets_put (sym same) ∙ packets_unsaid (place.whole ++ place.rest) ∙ packets_both place.whole place.rest)
      ∙ append_assoc (packets_put place.whole) (packets_put place.rest) (front past).later

  pub front_holds : (said : List Act) → AreFiles s (up_to_cut past) → AreSaid said → (packets : List Packet) × (later : List Packet) × FilesHold (done_at place ++ effects_of_acts said) packets × (packets_taken past ≡ packets ++ later)
  front_holds said f m = (packets_put place.whole, packets_put place.rest ++ (front past).later, place_holds f (effects_of_acts said) (quiet_says said (said_alone said m)), place_packets)

module _ (s : Settings) (past : Past) (o : IsOrderlySoFar s past) (n : ℕ) (place : Place) (done : List Effect) (files_are : AreFiles s past) where
  -- no file call failed
  whole_holds : is_cut past ≡ false → done ≡ effects_of_acts (said_acts (piece_of s) n past) → FilesHold done (packets_taken past)
  whole_holds q did = subst (λ (z : List Effect). FilesHold z (packets_taken past)) (sym (did ∙ sym (append-nil (effects_of_acts all))))
      (subst (FilesHold (effects_of_acts all ++ [])) put (files_hold all [] [] (inl refl) (record { none = refl; no_bytes = refl }) (none_before all [] (acts s past) (ap unsaid (append-nil all) ∙ same) (starts_or_none s past o))
      (files_of s past all [] (ap unsaid (append-nil all) ∙ same) files_are))) where
        all : List Act
        all = said_acts (piece_of s) n past

        k : (file_lost past ≡ false) × (memory_lost past ≡ false)
        k = parts_false (file_lost past) (memory_lost past) q

        same : unsaid (said_acts (piece_of s) n past) ≡ unsaid (acts s past)
        same = unsaid_all s n past k.1

        put : packets_put (said_acts (piece_of s) n past) ≡ packets_taken past
        put = sym (packets_unsaid (said_acts (piece_of s) n past)) ∙ ap packets_put same ∙ packets_unsaid (acts s past) ∙ all_put s past k.0 k.1

  -- one failed at a place
  cut_holds : (d : DidCut s n place past done) → FilesHold done (packets_put place.whole)
  cut_holds d = subst (λ (z : List Effect). FilesHold z (packets_put place.whole)) (sym d.did) (place_holds s past n place (front_orderly s past o) d.front (front_files s past files_are) (effects_of_acts (said_acts (piece_behind s place) n past))
      (quiet_says (said_acts (piece_behind s place) n past) (silent_said (piece_behind s place) n (behind_silent s place) past)))

  -- the packets before that place
  cut_packets : (d : DidCut s n place past done) → take (length (packets_taken past) - lost_of past) (packets_taken past) ≡ packets_put place.whole
  cut_packets d = subst (λ (z : List Packet). take (length (packets_taken past) - lost_of past) z ≡ packets_put place.whole) (sym split)
      (first_ones (packets_put place.whole) (packets_put place.rest ++ (front past).later) (lost_of past) (length (packets_taken past)) (sym (ap length split)) (d.lost ∙ count_is past)) where
        split : packets_taken past ≡ packets_put place.whole ++ (packets_put place.rest ++ (front past).later)
        split = place_packets s past n place (front_orderly s past o) d.front

  holds_by : (b : Bool) → is_cut past ≡ b → Which b (DidCut s n place past done) (done ≡ effects_of_acts (said_acts (piece_of s) n past)) → FilesHold done (take (length (packets_taken past) - lost_of past) (packets_taken past))
  holds_by true q d = subst (FilesHold done) (sym (cut_packets d)) (cut_holds d)
  holds_by false q did = subst (FilesHold done) (sym (ap (λ (z : ℕ). take z (packets_taken past)) none ∙ whole (packets_taken past))) (whole_holds q did) where
    k : (file_lost past ≡ false) × (memory_lost past ≡ false)
    k = parts_false (file_lost past) (memory_lost past) q

    none : length (packets_taken past) - lost_of past ≡ length (packets_taken past)
    none = let a : lost_of past ≡ 0 = none_lost s past o k.0 k.1 in omega arith

    whole : (ps : List Packet) → take (length ps) ps ≡ ps
    whole ps = ap (take (length ps)) (sym (append-nil ps)) ∙ take_at ps [] (length ps) refl

-- the files hold what the writer took, but for what was lost
pub past_holds : (s : Settings) (past : Past) (done : List Effect) → IsOrderlySoFar s past → AreFiles s past → IsDoneFor s past done → FilesHold done (take (length (packets_taken past) - lost_of past) (packets_taken past))
past_holds s past done o f stands = holds_by s past o stands.heard_bytes stands.place done f (is_cut past) refl stands.did

pub holds_written : (s : Settings) (h : History) (done : List Effect) → Legal s.limits (length s.sources) h → IsOrderlySoFar s (writers_past (length s.sources) h) → AreFiles s (writers_past (length s.sources) h) → IsDoneFor s (writers_past (length s.sources) h) done → FilesHold done (written h)
holds_written s h done legal o f stands = subst (FilesHold done) (ap (λ (z : List Packet). take (length z - lost_of (writers_past (length s.sources) h)) z) (taken_is s h legal) ∙ ap (λ (z : ℕ). take (length (taken h) - z) (taken h)) (lost_is s h legal)) (past_holds s (writers_past (length s.sources) h) done o f stands)
