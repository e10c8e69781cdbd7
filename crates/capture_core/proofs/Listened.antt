-- Wherever a message that names or counts was just said whole, views reach what is announced.
use Rattle.std.proofs.Common.{◌≡◌, ◌⊎◌, inl, inr, ℕ, Bool, true, false, Some, None, List, [], ◌∷◌, ◌++◌, length, refl, sym, ap, ◌∙◌, subst, append_assoc}
use Rattle.std.specs.List.{flat_map}
use Rattle.std.proofs.lemmas.List.{append-nil}
use Rattle.cap_base.specs.Effects.{Effect, created, byte, finished, removed, said, bytes, saying}
use Rattle.cap_base.specs.Events.{Event}
use Rattle.cap_base.specs.Histories.{History}
use Rattle.cap_base.specs.Legal.{Legal}
use Rattle.cap_base.specs.declared.settings.Settings.{Settings}
use Rattle.pcapng_blocks.specs.declared.block.Block.{Block}
use Rattle.pcapng_blocks.specs.Spelling.{spell}
use Rattle.sync_pipe.specs.Texts.{message_text}
use Rattle.sync_pipe.specs.declared.said.Said.{Said}
use Rattle.sync_pipe.specs.declared.said.Said.TheVariants.{File, Count, Drops, Error}
use Rattle.capture_desk.specs.declared.acts.Act.{Act}
use Rattle.capture_desk.specs.declared.acts.Act.TheVariants.{Create, Put, Finish, Remove, Say}
use Rattle.capture_desk.specs.Past.{Past}
use Rattle.capture_desk.specs.Doing.{created_names, effects_of_acts, unsaid}
use Rattle.capture_desk.specs.Due.{file_lost, listener_lost, memory_lost}
use Rattle.capture_desk.specs.Acts.{acts, piece_of}
use Rattle.capture_desk.specs.Orderly.{IsOrderlySoFar}
use Rattle.capture_desk.specs.Laws.{last_name}
use Rattle.capture_desk.specs.Cuts.{said_acts, is_cut, up_to_cut, piece_behind, DidCut, Which, IsDoneFor}
use Rattle.capture_desk.proofs.Replayed.{said_all}
use Rattle.capture_core.specs.Writers.{writers_past}
use Rattle.capture_core.specs.Views.{nothing_known, counted, created_in, said_bytes, ReadsFiles, NamesOrCounts, EndsWithMessage, ReachedBy}
use Rattle.capture_core.proofs.Announced.{IsQuiet, AreQuiet, Leads, reckoned}
use Rattle.capture_core.proofs.Blocks.{blocks_now, unsaid_both}
use Rattle.capture_core.proofs.Cut.{Front, front, front_orderly, more_acts, parts_false, unsaid_all}
use Rattle.capture_core.proofs.Fitted.{MayBegin}
use Rattle.capture_core.proofs.Grammar.{unsaid_begins}
use Rattle.capture_core.proofs.Reached.{created_last, reach_by}
use Rattle.capture_core.proofs.Walked.{Ends, Mode, Tells, Found, Passed, Walked, said_both, none_put, no_end, silent_effects, skips, tells_front, walk, all_quiet}
use Rattle.capture_core.proofs.Spoken.{leads_tells, leads_parts, said_tells}
use Rattle.capture_core.proofs.Behind.{quiet_behind, mute_behind}

-- the blocks don't depend on what is said
blocks_same : (bs : List Block) (xs : List Act) → blocks_now bs (unsaid xs) ≡ blocks_now bs xs
blocks_same bs [] = refl
blocks_same bs (Create name ∷ xs) = blocks_same [] xs
blocks_same bs (Put b ∷ xs) = blocks_same (bs ++ b ∷ []) xs
blocks_same bs (Finish ∷ xs) = blocks_same bs xs
blocks_same bs (Remove name ∷ xs) = blocks_same bs xs
blocks_same bs (Say m ∷ xs) = blocks_same bs xs

created_both : (xs ys : List Effect) → created_in (xs ++ ys) ≡ created_in xs ++ created_in ys
created_both [] ys = refl
created_both (created name ∷ xs) ys = ap (λ (z : List (List ℕ)). name ∷ z) (created_both xs ys)
created_both (byte b ∷ xs) ys = created_both xs ys
created_both (finished ∷ xs) ys = created_both xs ys
created_both (removed name ∷ xs) ys = created_both xs ys
created_both (said b ∷ xs) ys = created_both xs ys

none_bytes : (t : List ℕ) → created_in (bytes t) ≡ []
none_bytes [] = refl
none_bytes (b ∷ t) = none_bytes t

none_saying : (t : List ℕ) → created_in (saying t) ≡ []
none_saying [] = refl
none_saying (b ∷ t) = none_saying t

-- the names that acts create
names_of : (xs : List Act) → created_in (effects_of_acts xs) ≡ created_names xs
names_of [] = refl
names_of (Create name ∷ xs) = ap (λ (z : List (List ℕ)). name ∷ z) (names_of xs)
names_of (Put b ∷ xs) = created_both (bytes (spell b)) (effects_of_acts xs) ∙ ap (λ (z : List (List ℕ)). z ++ created_in (effects_of_acts xs)) (none_bytes (spell b)) ∙ names_of xs
names_of (Finish ∷ xs) = names_of xs
names_of (Remove name ∷ xs) = names_of xs
names_of (Say m ∷ xs) = created_both (saying m) (effects_of_acts xs) ∙ ap (λ (z : List (List ℕ)). z ++ created_in (effects_of_acts xs)) (none_saying m) ∙ names_of xs

-- ---- the last message

-- it stands in the second part, unless that is empty
last_said : (xs ys earlier : List Said) (m : Said) → xs ++ ys ≡ earlier ++ m ∷ [] → (ys ≡ []) ⊎ ((front : List Said) × (ys ≡ front ++ m ∷ []))
last_said [] ys earlier m e = inr (earlier, e)
last_said (x ∷ xs) ys [] m e = inl (none xs ys (tail_of e)) where
  tail_of : x ∷ (xs ++ ys) ≡ m ∷ [] → xs ++ ys ≡ []
  tail_of e = cc

  none : (xs ys : List Said) → xs ++ ys ≡ [] → ys ≡ []
  none [] ys e = e
  none (x ∷ xs) ys e = cc
last_said (x ∷ xs) ys (y ∷ earlier) m e = last_said xs ys earlier m (tail_of e) where
  tail_of : x ∷ (xs ++ ys) ≡ y ∷ (earlier ++ m ∷ []) → xs ++ ys ≡ earlier ++ m ∷ []
  tail_of e = cc

last_quiet : (front : List Said) (m : Said) → AreQuiet (front ++ m ∷ []) → IsQuiet m
last_quiet [] m q = q.0
last_quiet (x ∷ front) m q = last_quiet front m q.1

no_quiet : (m : Said) → NamesOrCounts m → IsQuiet m → ⊥
no_quiet (File name) c q = q
no_quiet (Count n) c q = q
no_quiet (Drops n name) c q = c
no_quiet (Error a b) c q = c

no_ends : (more rest : List Effect) → [] ≡ more ++ rest → Ends more → ⊥
no_ends [] rest e w = no_end [] refl w
no_ends (x ∷ more) rest e w = cc

-- ---- together

module _ (s : Settings) (h : History) (legal : Legal s.limits (length s.sources) h) (sync : s.sync ≡ true) (o : IsOrderlySoFar s (writers_past (length s.sources) h)) (events : List ℕ → List Event) (reads : ReadsFiles events) where
  abbrev p : Past
  p = writers_past (length s.sources) h

  -- what was found among the first acts
  from_front : (xs ys : List Act) (before rest : List Effect) (messages : List Said) (f : Found nothing_known xs before messages) → unsaid (acts s p) ≡ unsaid xs ++ ys → ReachedBy events before rest messages
  from_front xs ys before rest messages f q = subst (λ (z : List Effect). ReachedBy events z rest messages) (sym f.is) (record {
    named = f.last ∙ created_last f.front ∙ ap last_name (sym (names_of f.front));
    reach = reach_by events reads f.front (counted messages) f.few begins rest;
  }) where
    begins : MayBegin (blocks_now [] f.front)
    begins = subst MayBegin (blocks_same [] f.front) (unsaid_begins s h legal o (unsaid f.front) (unsaid f.rest ++ ys) (q ∙ ap (λ (z : List Act). unsaid z ++ ys) f.split ∙ ap (λ (z : List Act). z ++ ys) (unsaid_both f.front f.rest) ∙ append_assoc (unsaid f.front) (unsaid f.rest) ys))

  module _ (done : List Effect) (stands : IsDoneFor s p done) (before rest : List Effect) (messages : List Said) (e : done ≡ before ++ rest) (w : EndsWithMessage before messages) where
    abbrev m : ℕ
    m = stands.heard_bytes

    ends : Ends before
    ends = (w.front, w.last, w.parts)

    -- the acts up to the place of a call that failed, and what is said behind them
    abbrev Told : Type 0
    Told = (st : Mode) × Tells (Some nothing_known) stands.place.whole st × (st ≡ None → said_bytes (bytes stands.place.part ++ effects_of_acts (said_acts (piece_behind s stands.place) m p)) ≡ [])

    -- where no call on a file failed
    uncut : memory_lost p ≡ false → done ≡ effects_of_acts (said_acts (piece_of s) m p) → ReachedBy events before rest messages
    uncut memory did = go (walk nothing_known (said_acts (piece_of s) m p) t.0 [] before rest messages t.1 (λ q. refl) (append-nil (effects_of_acts (said_acts (piece_of s) m p)) ∙ sym did ∙ e) ends w.sayable w.whole) where
      t : (st : Mode) × Tells (Some nothing_known) (said_acts (piece_of s) m p) st
      t = said_tells s m sync p o memory

      go : Walked nothing_known (said_acts (piece_of s) m p) [] before rest messages → ReachedBy events before rest messages
      go (inl f) = from_front (said_acts (piece_of s) m p) [] before rest messages f (sym (unsaid_all s m p memory) ∙ sym (append-nil (unsaid (said_acts (piece_of s) m p))))
      go (inr v) = absurd (no_ends v.more rest v.goes v.ends)

    -- where one failed
    cut : DidCut s m stands.place p done → ReachedBy events before rest messages
    cut d = by (tells (listener_lost (up_to_cut p)) refl) where
      v : Front p (up_to_cut p)
      v = front p

      so_far : IsOrderlySoFar s (up_to_cut p)
      so_far = front_orderly s p o

      tells : (b : Bool) → listener_lost (up_to_cut p) ≡ b → Told
      tells true q = let t = said_tells s m sync (up_to_cut p) so_far v.memory in
          let x = tells_front (Some nothing_known) stands.place.whole stands.place.rest t.0 (subst (λ (z : List Act). Tells (Some nothing_known) z t.0) d.front.split t.1) in
          (x.0, x.1, λ n. said_both (bytes stands.place.part) (effects_of_acts (said_acts (piece_behind s stands.place) m p)) ∙ ap (λ (z : List ℕ). z ++ said_bytes (effects_of_acts (said_acts (piece_behind s stands.place) m p))) (none_put stands.place.part) ∙ silent_effects (said_acts (piece_behind s stands.place) m p) (mute_behind s sync stands.place m p q))
      tells false q = let r = reckoned s (up_to_cut p) sync so_far in
          let x = leads_parts nothing_known stands.place.whole stands.place.rest r.known (subst (λ (z : List Act). Leads nothing_known z r.known) (sym (said_all s m (up_to_cut p) q v.memory) ∙ d.front.split) r.leads) in
          (Some x.0, leads_tells nothing_known stands.place.whole x.0 x.1, λ n. cc)

      all : unsaid (acts s p) ≡ unsaid stands.place.whole ++ (unsaid stands.place.rest ++ unsaid (more_acts s p).0)
      all = ap unsaid (more_acts s p).1 ∙ unsaid_both (acts s (up_to_cut p)) (more_acts s p).0 ∙ ap (λ (z : List Act). z ++ unsaid (more_acts s p).0) (sym (unsaid_all s m (up_to_cut p) v.memory) ∙ ap unsaid d.front.split ∙ unsaid_both stands.place.whole stands.place.rest)
          ∙ append_assoc (unsaid stands.place.whole) (unsaid stands.place.rest) (unsaid (more_acts s p).0)

      quiet : (x : Passed (bytes stands.place.part ++ effects_of_acts (said_acts (piece_behind s stands.place) m p)) rest messages) → AreQuiet x.left
      quiet x = let y = skips (bytes stands.place.part) (effects_of_acts (said_acts (piece_behind s stands.place) m p)) x.more rest (none_put stands.place.part) x.goes x.ends in
          all_quiet (said_acts (piece_behind s stands.place) m p) y.more rest x.left (quiet_behind s sync stands.place m p) y.goes y.ends (y.same ∙ x.said_is)

      never : Passed (bytes stands.place.part ++ effects_of_acts (said_acts (piece_behind s stands.place) m p)) rest messages → ⊥
      never x = go (last_said x.heard x.left w.earlier w.message (sym x.parts ∙ w.are)) where
        go : (x.left ≡ []) ⊎ ((front : List Said) × (x.left ≡ front ++ w.message ∷ [])) → ⊥
        go (inl n) = no_end x.more (x.said_is ∙ ap (flat_map message_text) n) x.ends
        go (inr f) = no_quiet w.message w.counts (last_quiet f.0 w.message (subst AreQuiet f.1 (quiet x)))

      found : Walked nothing_known stands.place.whole (bytes stands.place.part ++ effects_of_acts (said_acts (piece_behind s stands.place) m p)) before rest messages → ReachedBy events before rest messages
      found (inl f) = from_front stands.place.whole (unsaid stands.place.rest ++ unsaid (more_acts s p).0) before rest messages f all
      found (inr x) = absurd (never x)

      by : Told → ReachedBy events before rest messages
      by t = found (walk nothing_known stands.place.whole t.0 (bytes stands.place.part ++ effects_of_acts (said_acts (piece_behind s stands.place) m p)) before rest messages t.1 t.2 (sym (append_assoc (effects_of_acts stands.place.whole) (bytes stands.place.part) (effects_of_acts (said_acts (piece_behind s stands.place) m p))) ∙ sym d.did ∙ e) ends w.sayable w.whole)

    by_cut : (b : Bool) → is_cut p ≡ b → Which b (DidCut s m stands.place p done) (done ≡ effects_of_acts (said_acts (piece_of s) m p)) → ReachedBy events before rest messages
    by_cut true q d = cut d
    by_cut false q did = uncut (parts_false (file_lost p) (memory_lost p) q).1 did

    pub reached : ReachedBy events before rest messages
    reached = by_cut (is_cut p) refl stands.did
