-- What is asked for up to a rest is done there, whatever comes later; and a call that fails was made for the last entry.
use Rattle.std.proofs.Common.{◌≡◌, ℕ, List, [], ◌∷◌, ◌++◌, true, false, refl, sym, ap, ◌∙◌, subst, append_assoc}
use Rattle.std.proofs.lemmas.List.{append-nil}
use Rattle.cap_base.specs.Effects.{Effect, bytes}
use Rattle.cap_base.specs.declared.settings.Settings.{Settings}
use Rattle.cap_base.specs.declared.entries.Entry.{Entry}
use Rattle.cap_base.specs.declared.entries.Entry.TheVariants as entry
use Rattle.cap_base.specs.declared.entries.Taken.TheVariants as taken
use Rattle.cap_base.specs.declared.entries.Why.{Why}
use Rattle.cap_base.specs.declared.entries.Why.TheVariants as why
use Rattle.cap_outside.specs.Told.{Leads}
use Rattle.capture_desk.specs.declared.acts.Act.{Act}
use Rattle.capture_desk.specs.Acts.{piece_of}
use Rattle.capture_desk.specs.Cuts.{IsAtOnce, before_last, finds_nothing, is_rest, last_acts, up_to_rest}
use Rattle.capture_desk.specs.Doing.{Place, done_at, effects_of_acts, puts}
use Rattle.capture_desk.specs.Due.{listener_lost, memory_lost}
use Rattle.capture_desk.specs.Orderly.{IsAsked}
use Rattle.capture_desk.specs.Past.{Past, nothing, ◌▹◌}
use Rattle.block_writer.specs.Kept.{Kept}
use Rattle.block_writer.specs.Writing.{Written, CutAt}
use Rattle.block_writer.proofs.Effects.{leads_both, leads_nothing}
use Rattle.block_writer.proofs.Performed.{all_out, out_all}
use Rattle.writer_thread.specs.inner.Cutting.{with_more}
use Rattle.writer_thread.specs.inner.Going.{IsTold}
use Rattle.writer_thread.specs.inner.Running.{RunsAll}
use Rattle.writer_thread.specs.inner.Stepping.{Settled, acts_for}
use Rattle.writer_thread.proofs.Cutting.{effects_both, plain_is}

-- ---- the entries up to the last rest

rest_listener : (p : Past) → listener_lost p ≡ false → listener_lost (up_to_rest p) ≡ false
rest_listener nothing l = l
rest_listener (p ▹ entry.Take now taken.Empty) l = l
rest_listener (p ▹ entry.Take now (taken.Item i)) l = rest_listener p l
rest_listener (p ▹ entry.Take now taken.Done) l = rest_listener p l
rest_listener (p ▹ entry.Tally now cs) l = rest_listener p l
rest_listener (p ▹ entry.Stop why.SyncFault lost) l = let f : true ≡ false = l in cc
rest_listener (p ▹ entry.Stop why.FileFault lost) l = rest_listener p l
rest_listener (p ▹ entry.Stop why.NoMemory lost) l = rest_listener p l
rest_listener (p ▹ entry.Stop why.Packets lost) l = rest_listener p l
rest_listener (p ▹ entry.Stop why.Filesize lost) l = rest_listener p l
rest_listener (p ▹ entry.Stop why.Duration lost) l = rest_listener p l
rest_listener (p ▹ entry.Stop why.Files lost) l = rest_listener p l
rest_listener (p ▹ entry.Join n i r) l = rest_listener p l
rest_listener (p ▹ entry.Offer n k v) l = rest_listener p l
rest_listener (p ▹ entry.End n how) l = rest_listener p l

rest_memory : (p : Past) → listener_lost p ≡ false → memory_lost p ≡ false → memory_lost (up_to_rest p) ≡ false
rest_memory nothing l m = m
rest_memory (p ▹ entry.Take now taken.Empty) l m = m
rest_memory (p ▹ entry.Take now (taken.Item i)) l m = rest_memory p l m
rest_memory (p ▹ entry.Take now taken.Done) l m = rest_memory p l m
rest_memory (p ▹ entry.Tally now cs) l m = rest_memory p l m
rest_memory (p ▹ entry.Stop why.SyncFault lost) l m = let f : true ≡ false = l in cc
rest_memory (p ▹ entry.Stop why.FileFault lost) l m = rest_memory p l m
rest_memory (p ▹ entry.Stop why.NoMemory lost) l m = let f : true ≡ false = m in cc
rest_memory (p ▹ entry.Stop why.Packets lost) l m = rest_memory p l m
rest_memory (p ▹ entry.Stop why.Filesize lost) l m = rest_memory p l m
rest_memory (p ▹ entry.Stop why.Duration lost) l m = rest_memory p l m
rest_memory (p ▹ entry.Stop why.Files lost) l m = rest_memory p l m
rest_memory (p ▹ entry.Join n i r) l m = rest_memory p l m
rest_memory (p ▹ entry.Offer n k v) l m = rest_memory p l m
rest_memory (p ▹ entry.End n how) l m = rest_memory p l m

-- as long as no message has failed, what is asked for up to there is the same, however much of one will be said
rest_heard : (s : Settings) (n k : ℕ) (p : Past) → listener_lost p ≡ false → memory_lost p ≡ false → acts_for s n (up_to_rest p) ≡ acts_for s k (up_to_rest p)
rest_heard s n k p l m =
    plain_is (piece_of s) n (up_to_rest p) (rest_listener p l) (rest_memory p l m)
    ∙ sym (plain_is (piece_of s) k (up_to_rest p) (rest_listener p l) (rest_memory p l m))

-- a Stop for a condition is no rest
pub rest_stopped : (p : Past) (w : Why) → IsAsked w → up_to_rest (p ▹ entry.Stop w 0) ≡ up_to_rest p
rest_stopped p why.Packets k = refl
rest_stopped p why.Filesize k = refl
rest_stopped p why.Duration k = refl
rest_stopped p why.Files k = refl
rest_stopped p why.FileFault k = absurd k
rest_stopped p why.SyncFault k = absurd k
rest_stopped p why.NoMemory k = absurd k

-- ---- acts behind those that are done

module _ {L : Type 0} (stands_for : L → List Effect → Type 0) where
  pub leads_acts : (first mid now : L) (xs whole : List Act) (part : List ℕ) → Leads stands_for first mid (effects_of_acts xs) → Leads stands_for mid now (effects_of_acts whole ++ bytes part) → Leads stands_for first now (effects_of_acts (xs ++ whole) ++ bytes part)
  leads_acts first mid now xs whole part did more =
      subst (λ (es : List Effect). Leads stands_for first now es)
      (sym (append_assoc (effects_of_acts xs) (effects_of_acts whole) (bytes part)) ∙ ap (λ (es : List Effect). es ++ bytes part) (sym (effects_both xs whole)))
      (leads_both stands_for first mid now (effects_of_acts xs) (effects_of_acts whole ++ bytes part) did more)

  pub written_behind : (first mid now : L) (kept : Kept) (xs acts all : List Act) → all ≡ xs ++ acts → Leads stands_for first mid (effects_of_acts xs) → Written stands_for mid now kept acts → Written stands_for first now kept all
  written_behind first mid now kept xs acts all e did w = record {
    whole = xs ++ w.whole;
    blocks = w.blocks;
    part = w.part;
    split = e ∙ ap (λ (ys : List Act). xs ++ ys) w.split ∙ sym (append_assoc xs w.whole (puts w.blocks));
    within = w.within;
    waits = w.waits;
    packets = w.packets;
    going = w.going;
    did = leads_acts first mid now xs w.whole w.part did w.did;
  }

  abbrev pub cut_behind : (first mid now : L) (kept : Kept) (xs acts last all : List Act) → all ≡ xs ++ acts → Leads stands_for first mid (effects_of_acts xs) → CutAt stands_for mid now kept acts last → CutAt stands_for first now kept all last
  cut_behind first mid now kept xs acts last all e did c = record {
    place = record { whole = xs ++ c.place.whole; rest = c.place.rest; part = c.place.part };
    front = record { split = e ∙ ap (λ (ys : List Act). xs ++ ys) c.front.split ∙ sym (append_assoc xs c.place.whole c.place.rest); within = c.front.within };
    left_out = c.left_out;
    waited = c.waited;
    rest_is = c.rest_is;
    few = c.few;
    names = c.names;
    did = leads_acts first mid now xs c.place.whole c.place.part did c.did;
    packets = c.packets;
    none = c.none;
  }

-- ---- the acts since the last rest

module _ {L : Type 0} (stands_for : L → List Effect → Type 0) (s : Settings) where
  pub settled_none : (a : L) (kept : Kept) (p : Past) → p ≡ nothing → acts_for s 0 nothing ≡ [] → Written stands_for a a kept [] → Settled stands_for s a a kept 0 p []
  settled_none a kept p first none w = subst (λ (q : Past). Settled stands_for s a a kept 0 q []) (sym first) (record {
    rested = a;
    later = [];
    split = ap (λ (xs : List Act). xs ++ []) (sym none);
    did = subst (λ (xs : List Act). Leads stands_for a a (effects_of_acts xs)) (sym none) (leads_nothing stands_for a);
    written = w;
  })

  pub settled_same : (n : ℕ) (first now : L) (kept : Kept) (p q : Past) (acts : List Act) → up_to_rest q ≡ up_to_rest p → Settled stands_for s first now kept n p acts → Settled stands_for s first now kept n q acts
  settled_same n first now kept p q acts same x = record {
    rested = x.rested;
    later = x.later;
    split = x.split ∙ ap (λ (r : Past). acts_for s n r ++ x.later) (sym same);
    did = subst (λ (r : Past). Leads stands_for first x.rested (effects_of_acts (acts_for s n r))) (sym same) x.did;
    written = x.written;
  }

  -- more acts were performed
  pub settled_more : (n : ℕ) (first old now : L) (kept new : Kept) (p : Past) (acts more : List Act) → RunsAll stands_for old now kept new more → Settled stands_for s first old kept n p acts → Settled stands_for s first now new n p (acts ++ more)
  settled_more n first old now kept new p acts more runs x = record {
    rested = x.rested;
    later = x.later ++ more;
    split = ap (λ (xs : List Act). xs ++ more) x.split ∙ append_assoc (acts_for s n (up_to_rest p)) x.later more;
    did = x.did;
    written = runs x.rested x.later x.written;
  }

  -- as long as no message has failed
  pub settled_heard : (n k : ℕ) (first now : L) (kept : Kept) (p : Past) (acts : List Act) → listener_lost p ≡ false → memory_lost p ≡ false → Settled stands_for s first now kept n p acts → Settled stands_for s first now kept k p acts
  settled_heard n k first now kept p acts l m x = record {
    rested = x.rested;
    later = x.later;
    split = x.split ∙ ap (λ (xs : List Act). xs ++ x.later) (rest_heard s n k p l m);
    did = subst (λ (xs : List Act). Leads stands_for first x.rested (effects_of_acts xs)) (rest_heard s n k p l m) x.did;
    written = x.written;
  }

  -- nothing waits
  settled_all : (n : ℕ) (first now : L) (kept : Kept) (p : Past) (acts : List Act) → up_to_rest p ≡ p → acts ≡ acts_for s n p → kept.bytes ≡ [] → Written stands_for first now kept acts → Settled stands_for s first now kept n p acts
  settled_all n first now kept p acts same are none w =
      let out = all_out stands_for first now kept acts none w in
      let fits : acts ≡ acts_for s n (up_to_rest p) = are ∙ ap (acts_for s n) (sym same) in
      record {
        rested = now;
        later = [];
        split = fits ∙ sym (append-nil (acts_for s n (up_to_rest p)));
        did = subst (λ (xs : List Act). Leads stands_for first now (effects_of_acts xs)) fits out.did;
        written = subst (λ (k : Kept). Written stands_for now now k []) (sym out.none) (out_all stands_for now now [] (leads_nothing stands_for now));
      }

  -- one entry more, of which the desk was told
  pub settled_told : (n : ℕ) (first old now : L) (kept new : Kept) (before : Past) (e : Entry) (acts waits : List Act) → IsTold e → (finds_nothing e ≡ true → new.bytes ≡ []) → acts ++ waits ≡ acts_for s n (before ▹ e) → RunsAll stands_for old now kept new waits → Written stands_for first old kept acts
      → Settled stands_for s first old kept n before acts → Settled stands_for s first now new n (before ▹ e) (acts ++ waits)
  settled_told n first old now kept new before (entry.Take m taken.Empty) acts waits k rests are runs w x = settled_all n first now new (before ▹ entry.Take m taken.Empty) (acts ++ waits) refl are (rests refl) (runs first acts w)
  settled_told n first old now kept new before (entry.Take m (taken.Item i)) acts waits k rests are runs w x = settled_same n first now new before (before ▹ entry.Take m (taken.Item i)) (acts ++ waits) refl (settled_more n first old now kept new before acts waits runs x)
  settled_told n first old now kept new before (entry.Take m taken.Done) acts waits k rests are runs w x = settled_same n first now new before (before ▹ entry.Take m taken.Done) (acts ++ waits) refl (settled_more n first old now kept new before acts waits runs x)
  settled_told n first old now kept new before (entry.Tally m cs) acts waits k rests are runs w x = settled_same n first now new before (before ▹ entry.Tally m cs) (acts ++ waits) refl (settled_more n first old now kept new before acts waits runs x)
  settled_told n first old now kept new before (entry.Stop v lost) acts waits k rests are runs w x = absurd k
  settled_told n first old now kept new before (entry.Join j i r) acts waits k rests are runs w x = absurd k
  settled_told n first old now kept new before (entry.Offer j p v) acts waits k rests are runs w x = absurd k
  settled_told n first old now kept new before (entry.End j how) acts waits k rests are runs w x = absurd k

-- ---- a call that failed

pub first_none : (xs ys : List Act) → xs ++ ys ≡ [] → xs ≡ []
first_none [] ys e = refl
first_none (x ∷ xs) ys e = cc

pub second_none : (xs ys : List Act) → xs ++ ys ≡ [] → ys ≡ []
second_none [] ys e = e
second_none (x ∷ xs) ys e = cc

pub told_before : (p : Past) (e : Entry) → IsTold e → before_last (p ▹ e) ≡ p
told_before p (entry.Take now t) k = refl
told_before p (entry.Tally now cs) k = refl
told_before p (entry.Stop w lost) k = absurd k
told_before p (entry.Join n i r) k = absurd k
told_before p (entry.Offer n q v) k = absurd k
told_before p (entry.End n how) k = absurd k

pub told_last : (s : Settings) (n : ℕ) (p : Past) (e : Entry) → IsTold e → last_acts s n (p ▹ e) ≡ piece_of s p e
told_last s n p (entry.Take now t) k = refl
told_last s n p (entry.Tally now cs) k = refl
told_last s n p (entry.Stop w lost) k = absurd k
told_last s n p (entry.Join m i r) k = absurd k
told_last s n p (entry.Offer m q v) k = absurd k
told_last s n p (entry.End m how) k = absurd k

-- it was made for the last entry, of whose acts these were given before it, and these are left behind it
pub once : {L : Type 0} (stands_for : L → List Effect → Type 0) (s : Settings) (n : ℕ) (mid now : L) (kept : Kept) (p : Past) (xs acts last begun left : List Act) (c : CutAt stands_for mid now kept acts last) → xs ≡ acts_for s n (up_to_rest (before_last p)) → last_acts s n p ≡ begun ++ (last ++ left) → (last ≡ [] → is_rest p ≡ true)
    → IsAtOnce s n (with_more (record { whole = xs ++ c.place.whole; rest = c.place.rest; part = c.place.part }) left) p
once stands_for s n mid now kept p xs acts last begun left c up asks none = record {
  waited = c.waited;
  more = last ++ left;
  left_out = ap (λ (ys : List Act). ys ++ left) c.rest_is ∙ append_assoc (puts c.waited) last left;
  few = c.few;
  begun = begun;
  last = asks;
  some = λ e. none (first_none last left e);
  later = c.place.whole;
  rested = ap (λ (ys : List Act). ys ++ c.place.whole) up;
}

before_listener : (p : Past) → listener_lost p ≡ false → listener_lost (before_last p) ≡ false
before_listener nothing l = l
before_listener (p ▹ entry.Take now t) l = l
before_listener (p ▹ entry.Tally now cs) l = l
before_listener (p ▹ entry.Stop why.SyncFault lost) l = let f : true ≡ false = l in cc
before_listener (p ▹ entry.Stop why.FileFault lost) l = l
before_listener (p ▹ entry.Stop why.NoMemory lost) l = l
before_listener (p ▹ entry.Stop why.Packets lost) l = l
before_listener (p ▹ entry.Stop why.Filesize lost) l = l
before_listener (p ▹ entry.Stop why.Duration lost) l = l
before_listener (p ▹ entry.Stop why.Files lost) l = l
before_listener (p ▹ entry.Join n i r) l = l
before_listener (p ▹ entry.Offer n k v) l = l
before_listener (p ▹ entry.End n how) l = l

before_memory : (p : Past) → listener_lost p ≡ false → memory_lost p ≡ false → memory_lost (before_last p) ≡ false
before_memory nothing l m = m
before_memory (p ▹ entry.Take now t) l m = m
before_memory (p ▹ entry.Tally now cs) l m = m
before_memory (p ▹ entry.Stop why.SyncFault lost) l m = let f : true ≡ false = l in cc
before_memory (p ▹ entry.Stop why.FileFault lost) l m = m
before_memory (p ▹ entry.Stop why.NoMemory lost) l m = let f : true ≡ false = m in cc
before_memory (p ▹ entry.Stop why.Packets lost) l m = m
before_memory (p ▹ entry.Stop why.Filesize lost) l m = m
before_memory (p ▹ entry.Stop why.Duration lost) l m = m
before_memory (p ▹ entry.Stop why.Files lost) l m = m
before_memory (p ▹ entry.Join n i r) l m = m
before_memory (p ▹ entry.Offer n k v) l m = m
before_memory (p ▹ entry.End n how) l m = m

last_heard : (s : Settings) (n k : ℕ) (p : Past) → listener_lost p ≡ false → last_acts s n p ≡ last_acts s k p
last_heard s n k nothing l = refl
last_heard s n k (p ▹ entry.Take now t) l = refl
last_heard s n k (p ▹ entry.Tally now cs) l = refl
last_heard s n k (p ▹ entry.Stop why.SyncFault lost) l = let f : true ≡ false = l in cc
last_heard s n k (p ▹ entry.Stop why.FileFault lost) l = refl
last_heard s n k (p ▹ entry.Stop why.NoMemory lost) l = refl
last_heard s n k (p ▹ entry.Stop why.Packets lost) l = refl
last_heard s n k (p ▹ entry.Stop why.Filesize lost) l = refl
last_heard s n k (p ▹ entry.Stop why.Duration lost) l = refl
last_heard s n k (p ▹ entry.Stop why.Files lost) l = refl
last_heard s n k (p ▹ entry.Join m i r) l = refl
last_heard s n k (p ▹ entry.Offer m q v) l = refl
last_heard s n k (p ▹ entry.End m how) l = refl

-- as long as no message has failed, however much of one will be said
pub once_heard : (s : Settings) (n k : ℕ) (place : Place) (p : Past) → listener_lost p ≡ false → memory_lost p ≡ false → IsAtOnce s n place p → IsAtOnce s k place p
once_heard s n k place p l m x = record {
  waited = x.waited;
  more = x.more;
  left_out = x.left_out;
  few = x.few;
  begun = x.begun;
  last = last_heard s k n p l ∙ x.last;
  some = x.some;
  later = x.later;
  rested = x.rested ∙ ap (λ (ys : List Act). ys ++ x.later) (rest_heard s n k (before_last p) (before_listener p l) (before_memory p l m));
}
