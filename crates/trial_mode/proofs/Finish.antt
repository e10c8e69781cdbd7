-- The end of a trial's history, and what was done for all of it.
use Rattle.std.proofs.Common.{◌≡◌, ℕ, Bool, true, false, cond, if◌then◌else◌, List, [], ◌∷◌, ◌++◌, map, refl, sym, ap, ◌∙◌, subst, append_assoc, eq-eqb}
use Rattle.std.specs.List.{All}
use Rattle.std.proofs.lemmas.List.Elements.{All-head, All-tail}
use Rattle.cap_base.specs.Callers.{own}
use Rattle.cap_base.specs.Effects.{Effect, byte, created, finished, bytes}
use Rattle.cap_base.specs.Fates.{counts}
use Rattle.cap_base.specs.Histories.{History}
use Rattle.cap_base.specs.Laws.{IsWriters}
use Rattle.cap_base.specs.Legal.{Admitted, Answers, Legal}
use Rattle.cap_base.specs.declared.counts.Counts.{Counts}
use Rattle.cap_base.specs.declared.entries.Entry.{Entry}
use Rattle.cap_base.specs.declared.entries.Entry.TheVariants as E
use Rattle.cap_base.specs.declared.entries.Taken.TheVariants as T
use Rattle.cap_base.specs.declared.limits.Limits.{Limits}
use Rattle.cap_base.proofs.Callers.{own-append, own_here}
use Rattle.pcapng_blocks.specs.declared.block.Block.{Block}
use Rattle.pcapng_blocks.specs.Spelling.{spell}
use Rattle.capture_desk.specs.declared.acts.Act.{Act}
use Rattle.capture_desk.specs.declared.acts.Act.TheVariants.{Create, Finish, Say}
use Rattle.capture_desk.specs.declared.due.Due.{Due}
use Rattle.capture_desk.specs.declared.due.Due.TheVariants as dues
use Rattle.capture_desk.specs.Past.{Past, nothing, ◌▹◌, past_from, is_own}
use Rattle.capture_desk.specs.Doing.{puts, effects_of_acts}
use Rattle.capture_desk.specs.Files.{blocks, ifaces, text}
use Rattle.capture_desk.specs.Due.{after_tally, due, stopped}
use Rattle.capture_desk.specs.Acts.{tail, acts, piece_of}
use Rattle.capture_desk.specs.Orderly.{IsTally, IsOrderlySoFar}
use Rattle.capture_desk.proofs.Replayed.{own_push}
use Rattle.capture_core.specs.Writers.{writers_past, EndsBehindDone}
use Rattle.trial_mode.specs.Streams.{output_name, trial_settings}
use Rattle.trial_mode.proofs.Shapes.{Unfailed, unstopped, no_stop_next, stopped_before, puts_both, opened_with, take_adds, one_file, last_tally, closing_tally}

-- ---- parts of the writer's entries

past_both : (start : Past) (xs ys : List Entry) → past_from start (xs ++ ys) ≡ past_from (past_from start xs) ys
past_both start [] ys = refl
past_both start (x ∷ xs) ys = past_both (if is_own x then start ▹ x else start) xs ys

orderly_before : (m : ℕ) (start : Past) (es : List Entry) → IsOrderlySoFar (trial_settings m) (past_from start es) → IsOrderlySoFar (trial_settings m) start
orderly_before m start [] o = o
orderly_before m start (e ∷ es) o = by (is_own e) (orderly_before m (if is_own e then start ▹ e else start) es o) where
  by : (b : Bool) → IsOrderlySoFar (trial_settings m) (if b then start ▹ e else start) → IsOrderlySoFar (trial_settings m) start
  by true w = w.0
  by false w = w

-- no entry comes behind the closing Tally
over_ends : (m : ℕ) (p : Past) (es : List Entry) → IsOrderlySoFar (trial_settings m) (past_from p es) → stopped (past_from p es) ≡ false → due (trial_settings m) p ≡ dues.Over → past_from p es ≡ p
over_ends m p [] o s q = refl
over_ends m p (E.Take now t ∷ es) o s q = let w = orderly_before m (p ▹ E.Take now t) es o in let z : due (trial_settings m) p ≡ dues.Take = w.1 in cc
over_ends m p (E.Tally now cs ∷ es) o s q = let w = orderly_before m (p ▹ E.Tally now cs) es o in absurd (subst IsTally q w.1.0)
over_ends m p (E.Stop why l ∷ es) o s q = absurd (no_stop_next p why l es s)
over_ends m p (E.Join x y z ∷ es) o s q = over_ends m p es o s q
over_ends m p (E.Offer x y z ∷ es) o s q = over_ends m p es o s q
over_ends m p (E.End x y ∷ es) o s q = over_ends m p es o s q

-- one Tally more
pub record Closed (p : Past) (es : List Entry) : Type 0 where
  pub now : ℕ
  pub counts : List Counts
  pub is : past_from p es ≡ p ▹ E.Tally now counts

closing_ends : (m : ℕ) (p : Past) (es : List Entry) → IsOrderlySoFar (trial_settings m) (past_from p es) → stopped (past_from p es) ≡ false → due (trial_settings m) (past_from p es) ≡ dues.Over → due (trial_settings m) p ≡ dues.ClosingTally → Closed p es
unfolding due
closing_ends m p [] o s v q = cc
closing_ends m p (E.Take now t ∷ es) o s v q = let w = orderly_before m (p ▹ E.Take now t) es o in let z : due (trial_settings m) p ≡ dues.Take = w.1 in cc
closing_ends m p (E.Tally now cs ∷ es) o s v q = record { now = now; counts = cs; is = over_ends m (p ▹ E.Tally now cs) es o s (ap after_tally q) }
closing_ends m p (E.Stop why l ∷ es) o s v q = absurd (no_stop_next p why l es s)
closing_ends m p (E.Join x y z ∷ es) o s v q = let c = closing_ends m p es o s v q in record { now = c.now; counts = c.counts; is = c.is }
closing_ends m p (E.Offer x y z ∷ es) o s v q = let c = closing_ends m p es o s v q in record { now = c.now; counts = c.counts; is = c.is }
closing_ends m p (E.End x y ∷ es) o s v q = let c = closing_ends m p es o s v q in record { now = c.now; counts = c.counts; is = c.is }

-- ---- the history

-- A history up to Done, and the two Tallies behind it. The first one has the counts of what stands before it.
pub record AtEnd (m n : ℕ) (h : History) : Type 0 where
  pub before : History
  pub now : ℕ
  pub moment : ℕ
  pub behind : History
  pub parts : h ≡ ((before ++ (n, E.Take now T.Done) ∷ []) ++ (n, E.Tally moment (counts (before ++ (n, E.Take now T.Done) ∷ []))) ∷ []) ++ behind
  pub writers : All IsWriters behind
  pub closing : ℕ
  pub closing_counts : List Counts
  pub past_is : writers_past n h ≡ ((writers_past n before ▹ E.Take now T.Done) ▹ E.Tally moment (counts (before ++ (n, E.Take now T.Done) ∷ []))) ▹ E.Tally closing closing_counts

due_at_done : (m : ℕ) (p : Past) (now : ℕ) → Unfailed p → due (trial_settings m) (p ▹ E.Take now T.Done) ≡ dues.LastTally
unfolding due
due_at_done m p now u = rw u.memory (rw u.file refl)

due_at_tally : (m : ℕ) (p : Past) (now : ℕ) (cs : List Counts) (d : Due) → due (trial_settings m) p ≡ d → due (trial_settings m) (p ▹ E.Tally now cs) ≡ after_tally d
unfolding due
due_at_tally m p now cs d q = ap after_tally q

-- the writer's entries of a history up to Done
pub past_is_done : (n : ℕ) (before : History) (now : ℕ) → writers_past n (before ++ (n, E.Take now T.Done) ∷ []) ≡ writers_past n before ▹ E.Take now T.Done
past_is_done n before now = ap (past_from nothing) (own_here n before (E.Take now T.Done)) ∙ own_push nothing (own n before) (E.Take now T.Done) refl

module _ (m n : ℕ) (limits : Limits) (before : History) (now : ℕ) where
  abbrev upto : History
  upto = before ++ (n, E.Take now T.Done) ∷ []

  abbrev done_past : Past
  done_past = writers_past n before ▹ E.Take now T.Done

  past_upto : (t : History) → writers_past n (upto ++ t) ≡ past_from done_past (own n t)
  past_upto t = ap (past_from nothing) (own-append n upto t) ∙ past_both nothing (own n upto) (own n t)
      ∙ ap (λ (z : Past). past_from z (own n t)) (past_is_done n before now)

  own_first : (by : ℕ) (e : Entry) (t : History) → by ≡ n → own n ((by, e) ∷ t) ≡ e ∷ own n t
  own_first by e t q = ap (λ (b : Bool). cond b (e ∷ own n t) (own n t)) (eq-eqb by n q)

  finds : (t : History) → Legal limits n (upto ++ t) → All IsWriters t → IsOrderlySoFar (trial_settings m) (past_from done_past (own n t)) → stopped (past_from done_past (own n t)) ≡ false → due (trial_settings m) (past_from done_past (own n t)) ≡ dues.Over
      → due (trial_settings m) done_past ≡ dues.LastTally → AtEnd m n (upto ++ t)
  finds [] legal w o s v q = cc
  finds (x ∷ t) legal w o s v q = by x.1 refl (All-head IsWriters x t w) (legal upto x.0 x.1 t (sym (append_assoc upto (x ∷ []) t))) where
    split : (e : Entry) → x.1 ≡ e → x.0 ≡ n → own n (x ∷ t) ≡ e ∷ own n t
    split e is mine = own_first x.0 x.1 t mine ∙ ap (λ (z : Entry). z ∷ own n t) is

    orderly : (e : Entry) → x.1 ≡ e → x.0 ≡ n → IsOrderlySoFar (trial_settings m) (past_from done_past (e ∷ own n t))
    orderly e is mine = subst (λ (es : List Entry). IsOrderlySoFar (trial_settings m) (past_from done_past es)) (split e is mine) o

    none : (e : Entry) → x.1 ≡ e → x.0 ≡ n → stopped (past_from done_past (e ∷ own n t)) ≡ false
    none e is mine = sym (ap (λ (es : List Entry). stopped (past_from done_past es)) (split e is mine)) ∙ s

    over : (e : Entry) → x.1 ≡ e → x.0 ≡ n → due (trial_settings m) (past_from done_past (e ∷ own n t)) ≡ dues.Over
    over e is mine = sym (ap (λ (es : List Entry). due (trial_settings m) (past_from done_past es)) (split e is mine)) ∙ v

    tally : (moment : ℕ) (cs : List Counts) → x.1 ≡ E.Tally moment cs → x.0 ≡ n → cs ≡ counts upto → AtEnd m n (upto ++ x ∷ t)
    tally moment cs is mine right = record {
      before = before;
      now = now;
      moment = moment;
      behind = t;
      parts = sym (append_assoc upto (x ∷ []) t) ∙ ap (λ (z : ℕ × Entry). (upto ++ z ∷ []) ++ t) (ap (λ (z : ℕ). (z, x.1)) mine ∙ ap (λ (z : Entry). (n, z)) is ∙ ap (λ (z : List Counts). (n, E.Tally moment z)) right);
      writers = All-tail IsWriters x t w;
      closing = closed.now;
      closing_counts = closed.counts;
      past_is = past_upto (x ∷ t) ∙ ap (past_from done_past) (split (E.Tally moment cs) is mine) ∙ closed.is ∙ ap (λ (z : List Counts). (done_past ▹ E.Tally moment z) ▹ E.Tally closed.now closed.counts) right;
    } where
      closed : Closed (done_past ▹ E.Tally moment cs) (own n t)
      closed = closing_ends m (done_past ▹ E.Tally moment cs) (own n t) (orderly (E.Tally moment cs) is mine) (none (E.Tally moment cs) is mine) (over (E.Tally moment cs) is mine) (due_at_tally m done_past moment cs dues.LastTally q)

    by : (e : Entry) → x.1 ≡ e → IsWriters (x.0, e) → Admitted n x.0 (own x.0 upto) x.1 × Answers limits n upto x.1 → AtEnd m n (upto ++ x ∷ t)
    by (E.Take moment a) is k g = let mine : x.0 ≡ n = subst (Admitted n x.0 (own x.0 upto)) is g.0 in let f = orderly_before m (done_past ▹ E.Take moment a) (own n t) (orderly (E.Take moment a) is mine) in let z : due (trial_settings m) done_past ≡ dues.Take = f.1 in cc
    by (E.Tally moment cs) is k g = tally moment cs is (subst (Admitted n x.0 (own x.0 upto)) is g.0) (subst (Answers limits n upto) is g.1)
    by (E.Stop why l) is k g = let f = subst (Admitted n x.0 (own x.0 upto)) is g.0 in absurd (no_stop_next done_past why l (own n t) (none (E.Stop why l) is f.0))
    by (E.Join a b c) is k g = absurd k
    by (E.Offer a b c) is k g = absurd k
    by (E.End a b) is k g = absurd k

pub at_end : (m n : ℕ) (limits : Limits) (h : History) → Legal limits n h → IsOrderlySoFar (trial_settings m) (writers_past n h) → stopped (writers_past n h) ≡ false → due (trial_settings m) (writers_past n h) ≡ dues.Over → EndsBehindDone n h → AtEnd m n h
at_end m n limits h legal o s v d = subst (AtEnd m n) (sym d.parts) (finds m n limits d.before d.now d.behind (subst (Legal limits n) d.parts legal) d.writers (subst (IsOrderlySoFar (trial_settings m)) is o) none (sym (ap (due (trial_settings m)) is) ∙ v)
    (due_at_done m (writers_past n d.before) d.now (unstopped (writers_past n d.before) (stopped_before (done_past m n limits d.before d.now) (own n d.behind) none)))) where
      is : writers_past n h ≡ past_from (done_past m n limits d.before d.now) (own n d.behind)
      is = ap (writers_past n) d.parts ∙ past_upto m n limits d.before d.now d.behind

      none : stopped (past_from (done_past m n limits d.before d.now) (own n d.behind)) ≡ false
      none = sym (ap stopped is) ∙ s

-- ---- what was done

module _ {m n : ℕ} {h : History} (w : AtEnd m n h) where
  -- the history up to Done
  abbrev pub history_to_done : History
  history_to_done = w.before ++ (n, E.Take w.now T.Done) ∷ []

  -- the writer's entries up to Done
  abbrev pub past_to_done : Past
  past_to_done = writers_past n w.before ▹ E.Take w.now T.Done

  -- the blocks of the file: the last ones are the statistics
  abbrev pub blocks_at_end : List Block
  blocks_at_end = blocks past_to_done ++ tail (ifaces past_to_done) w.moment (counts history_to_done)

-- All acts, and all that was done: one file was created and finished, and behind it lines were said.
pub record WroteOne (m n : ℕ) (h : History) (done : List Effect) : Type 0 where
  pub ends : AtEnd m n h
  pub lines : List (List ℕ)
  pub acts_are : acts (trial_settings m) (writers_past n h) ≡ Create output_name ∷ (puts (blocks_at_end ends) ++ (Finish ∷ map Say lines))
  pub done_is : done ≡ created output_name ∷ (bytes (text (blocks_at_end ends)) ++ (finished ∷ effects_of_acts (map Say lines)))

bytes_both : (xs ys : List ℕ) → bytes (xs ++ ys) ≡ bytes xs ++ bytes ys
bytes_both [] ys = refl
bytes_both (x ∷ xs) ys = ap (λ (z : List Effect). byte x ∷ z) (bytes_both xs ys)

effects_of_puts : (bs : List Block) (more : List Act) → effects_of_acts (puts bs ++ more) ≡ bytes (text bs) ++ effects_of_acts more
unfolding text
effects_of_puts [] more = refl
effects_of_puts (b ∷ bs) more = ap (λ (z : List Effect). bytes (spell b) ++ z) (effects_of_puts bs more) ∙ sym (append_assoc (bytes (spell b)) (bytes (text bs)) (effects_of_acts more))
    ∙ ap (λ (z : List Effect). z ++ effects_of_acts more) (sym (bytes_both (spell b) (text bs)))

in_one_list : (bs ts : List Block) (more : List Act) → (puts bs ++ (puts ts ++ Finish ∷ [])) ++ more ≡ puts (bs ++ ts) ++ (Finish ∷ more)
in_one_list bs ts more = ap (λ (z : List Act). z ++ more) (sym (append_assoc (puts bs) (puts ts) (Finish ∷ []))) ∙ append_assoc (puts bs ++ puts ts) (Finish ∷ []) more ∙ ap (λ (z : List Act). z ++ (Finish ∷ more)) (sym (puts_both bs ts))

pub wrote_one : (m n : ℕ) (h : History) (done : List Effect) → AtEnd m n h → IsOrderlySoFar (trial_settings m) (writers_past n h) → stopped (writers_past n h) ≡ false → done ≡ effects_of_acts (acts (trial_settings m) (writers_past n h)) → WroteOne m n h done
unfolding acts
wrote_one m n h done w o s q = record {
  ends = w;
  lines = last.0;
  acts_are = all;
  done_is = q ∙ ap effects_of_acts all ∙ ap (λ (z : List Effect). created output_name ∷ z) (effects_of_puts (blocks_at_end w) (Finish ∷ map Say last.0));
} where
  start : Past
  start = writers_past n w.before

  going : Past
  going = past_to_done w

  cs : List Counts
  cs = counts (history_to_done w)

  tallied : Past
  tallied = going ▹ E.Tally w.moment cs

  orderly : IsOrderlySoFar (trial_settings m) (tallied ▹ E.Tally w.closing w.closing_counts)
  orderly = subst (IsOrderlySoFar (trial_settings m)) w.past_is o

  none : stopped start ≡ false
  none = sym (ap stopped w.past_is) ∙ s

  unfailed : Unfailed start
  unfailed = unstopped start none

  last_due : due (trial_settings m) going ≡ dues.LastTally
  last_due = due_at_done m start w.now unfailed

  last : (lines : List (List ℕ)) × (piece_of (trial_settings m) tallied (E.Tally w.closing w.closing_counts) ≡ map Say lines)
  last = closing_tally m tallied w.closing w.closing_counts (unstopped tallied none) (due_at_tally m going w.moment cs dues.LastTally last_due)

  opens : acts (trial_settings m) going ≡ opened_with (blocks going)
  opens = take_adds m start w.now T.Done unfailed (one_file m start orderly.0.0.0 none orderly.0.0.1)

  all : acts (trial_settings m) (writers_past n h) ≡ Create output_name ∷ (puts (blocks_at_end w) ++ (Finish ∷ map Say last.0))
  all = ap (acts (trial_settings m)) w.past_is
      ∙ ap (λ (z : List Act). (z ++ piece_of (trial_settings m) going (E.Tally w.moment cs)) ++ piece_of (trial_settings m) tallied (E.Tally w.closing w.closing_counts)) opens
      ∙ ap (λ (z : List Act). (opened_with (blocks going) ++ z) ++ piece_of (trial_settings m) tallied (E.Tally w.closing w.closing_counts)) (last_tally m going w.moment cs (unstopped going none) last_due)
      ∙ ap (λ (z : List Act). (opened_with (blocks going) ++ (puts (tail (ifaces going) w.moment cs) ++ Finish ∷ [])) ++ z) last.1
      ∙ ap (λ (z : List Act). Create output_name ∷ z) (in_one_list (blocks going) (tail (ifaces going) w.moment cs) (map Say last.0))
