-- Places before the threads and after them, and the passes in one.
use Rattle.std.proofs.Common.{◌≡◌, ℕ, ◌+◌, ◌≤◌, ◌↔◌, Bool, true, false, ◌||◌, List, [], ◌∷◌, ◌++◌, length, min, max, refl, sym, ap, ◌∙◌, subst, append_assoc, arith, Option, ⊎_elim, inl}
use Rattle.std.specs.List.{list_any}
use Rattle.std.proofs.lemmas.List.{append-nil}
use Rattle.std.proofs.lemmas.Bool.{cases_lt}
use Rattle.turn_cell.specs.Passes.{IsPassOf, IsJoined, Adjoin, low, high, made, is_worn}
use Rattle.cap_base.specs.Callers.{own}
use Rattle.cap_base.specs.declared.entries.Entry.{Entry}
use Rattle.cap_base.specs.declared.endings.How.{How}
use Rattle.cap_base.specs.declared.endings.How.TheVariants as how
use Rattle.packet_queue.specs.Ends.{QueueCell, QueuePass, mine}
use Rattle.cap_outside.specs.declared.opened.Opened.{Opened}
use Rattle.source_thread.specs.declared.ended.Ended.{Ended}
use Rattle.capture_threads.specs.declared.place.Place.{Place}
use Rattle.capture_threads.specs.declared.place.Place.TheVariants.{Ready, Running, Over}
use Rattle.source_thread.specs.Told.{SourceFacts}
use Rattle.source_thread.specs.Sources.{WasRead, EachWasRead}
use Rattle.capture_threads.specs.Places.{IsRun, AreRun, HasRun}
use Rattle.capture_threads.specs.inner.Places.{IsGathered, CanGather, Gathers}
use Rattle.capture_threads.specs.Captures.{ends_worn, is_worn_ending}

-- ---- the first of several places

run_first : {S : Type 0} (facts : Option S → SourceFacts) (snap : Option ℕ) (c : QueueCell) (n : ℕ) (befores : List (Opened S)) (first : Place S) (rest : List (Place S)) → AreRun facts snap c n befores (first ∷ rest)
    → (before : Opened S) × (others : List (Opened S)) × (befores ≡ before ∷ others) × IsRun facts snap c n before first × AreRun facts snap c (n + 1) others rest
run_first facts snap c n [] first rest a = absurd a
run_first facts snap c n (before ∷ others) first rest a = (before, others, refl, a.0, a.1)

over_or : {S : Type 0} (facts : Option S → SourceFacts) (snap : Option ℕ) (c : QueueCell) (n : ℕ) (before : Opened S) (place : Place S) → IsRun facts snap c n before place → ((after : Ended S) (pass : QueuePass) → place ≡ Over after pass → ⊥) → ⊥
over_or facts snap c n before (Over after pass) i f = f after pass refl
over_or facts snap c n before (Ready port opened) i f = i
over_or facts snap c n before Running i f = i

module _ {S : Type 0} (facts : Option S → SourceFacts) (snap : Option ℕ) (c : QueueCell) (places rest : List (Place S)) (first : Place S) (last : QueuePass) (parts : places ≡ first ∷ rest) where
  -- it was run
  pub must_be_over : CanGather facts snap c places last → ((after : Ended S) (pass : QueuePass) → first ≡ Over after pass → ⊥) → ⊥
  must_be_over g f =
      let r = run_first facts snap c g.1.0 g.1.1 first rest (subst (λ (z : List (Place S)). AreRun facts snap c g.1.0 g.1.1 z) parts g.1.2) in
      over_or facts snap c g.1.0 r.0 first r.3 f

  after_first : (n : ℕ) → low last ≡ n + length places → low last ≡ (n + 1) + length rest
  after_first n e = let l : length places ≡ 1 + length rest = ap length parts ∙ omega arith in omega arith

  -- the others can be gathered
  pub can_gather_rest : CanGather facts snap c places last → CanGather facts snap c rest last
  can_gather_rest g =
      let r = run_first facts snap c g.1.0 g.1.1 first rest (subst (λ (z : List (Place S)). AreRun facts snap c g.1.0 g.1.1 z) parts g.1.2) in
      (g.0, (g.1.0 + 1, r.1, r.4, after_first g.1.0 g.1.3))

  module _ (after : Ended S) (pass : QueuePass) (is_over : first ≡ Over after pass) where
    run_here : (n : ℕ) (befores : List (Opened S)) → AreRun facts snap c n befores places → (before : Opened S) × (others : List (Opened S)) × (befores ≡ before ∷ others) × HasRun facts snap c n before after pass × AreRun facts snap c (n + 1) others rest
    run_here n befores a =
        let r = run_first facts snap c n befores first rest (subst (λ (z : List (Place S)). AreRun facts snap c n befores z) parts a) in
        (r.0, r.1, r.2, subst (λ (z : Place S). IsRun facts snap c n r.0 z) is_over r.3, r.4)

    pub passes_of : (old mid : List (Ended S)) (q : QueuePass) → CanGather facts snap c places last → Gathers facts snap c rest old mid last q → (IsPassOf c pass × IsPassOf c q) × Adjoin pass q
    passes_of old mid q g h =
        let r = run_here g.1.0 g.1.1 g.1.2 in
        let k = h (g.1.0 + 1) r.1 r.4 (after_first g.1.0 g.1.3) in
        ((r.3.pass, k.2.pass), inl (r.3.numbers.1 ∙ sym k.2.numbers.0))

    spent_is : (b : Bool) (h : How) → (h ≡ how.Worn) ↔ (b ≡ true) → b ≡ is_worn_ending h
    spent_is true how.Worn w = refl
    spent_is false how.Worn w = w.0 refl
    spent_is true how.Clean w = absurd (let e : how.Clean ≡ how.Worn = w.1 refl in cc)
    spent_is true (how.Cut at) w = absurd (let e : how.Cut at ≡ how.Worn = w.1 refl in cc)
    spent_is true (how.Bad code at) w = absurd (let e : how.Bad code at ≡ how.Worn = w.1 refl in cc)
    spent_is true how.Stopped w = absurd (let e : how.Stopped ≡ how.Worn = w.1 refl in cc)
    spent_is true how.ReadFault w = absurd (let e : how.ReadFault ≡ how.Worn = w.1 refl in cc)
    spent_is true how.OpenFault w = absurd (let e : how.OpenFault ≡ how.Worn = w.1 refl in cc)
    spent_is true how.TooMany w = absurd (let e : how.TooMany ≡ how.Worn = w.1 refl in cc)
    spent_is true how.TooLong w = absurd (let e : how.TooLong ≡ how.Worn = w.1 refl in cc)
    spent_is true how.NoMemory w = absurd (let e : how.NoMemory ≡ how.Worn = w.1 refl in cc)
    spent_is false how.Clean w = refl
    spent_is false (how.Cut at) w = refl
    spent_is false (how.Bad code at) w = refl
    spent_is false how.Stopped w = refl
    spent_is false how.ReadFault w = refl
    spent_is false how.OpenFault w = refl
    spent_is false how.TooMany w = refl
    spent_is false how.TooLong w = refl
    spent_is false how.NoMemory w = refl

    each_as : (f g : ℕ → List Entry) (n : ℕ) (bs : List (Opened S)) (es : List (Ended S)) → ((k : ℕ) → n ≤ k → f k ≡ g k) → EachWasRead facts snap n bs es f → EachWasRead facts snap n bs es g
    each_as f g n [] [] e a = a
    each_as f g n (b ∷ bs) (x ∷ es) e a = (subst (λ (z : List Entry). WasRead facts snap n b x z) (e n (omega arith)) a.0, each_as f g (n + 1) bs es (λ k le. e k (omega arith)) a.1)
    each_as f g n [] (x ∷ es) e a = absurd a
    each_as f g n (b ∷ bs) [] e a = absurd a

    or_three : (a b d : Bool) → a || (b || d) ≡ (a || b) || d
    or_three true b d = refl
    or_three false b d = refl

    -- the entries of the numbers behind the first one
    same_behind : (n : ℕ) (q r : QueuePass) → low pass ≡ n → high pass ≡ n + 1 → IsPassOf c q → low q ≡ n + 1 → IsJoined c pass q r → (k : ℕ) → n + 1 ≤ k → own k (made q) ≡ own k (made r)
    same_behind n q r lo hi is low_q j k le = ⊎_elim
        (λ lt. sym (j.made_same.1 k (omega arith, lt)))
        (λ ge. is.above k ge ∙ sym (j.pass.above k (let a = is.some_number in let b = j.numbers.1 in omega arith)))
        (cases_lt k (high q))

    gathered_more : (n : ℕ) (before : Opened S) (others : List (Opened S)) (afters : List (Ended S)) (q r : QueuePass) → HasRun facts snap c n before after pass → IsGathered facts snap c (n + 1) others afters last q → low last ≡ (n + 1) + length rest → IsJoined c pass q r → IsGathered facts snap c n (before ∷ others) (after ∷ afters) last r
    gathered_more n before others afters q r h g l j =
        let some = g.pass.some_number in
        let lo : low pass ≡ n = h.numbers.0 in
        let hi : high pass ≡ n + 1 = h.numbers.1 in
        let low_q : low q ≡ n + 1 = g.numbers.0 in
        let high_q : high q ≡ high last = g.numbers.1 in
        let same = same_behind n q r lo hi g.pass low_q j in
        let here : mine pass ≡ own n (made r) = ap (λ (m : ℕ). own m (made pass)) lo ∙ sym (j.made_same.0 n (omega arith, omega arith)) in
        record {
          pass = j.pass;
          numbers = ((let a : low r ≡ min (low pass) (low q) = j.numbers.0 in omega arith), (let a : high r ≡ max (high pass) (high q) = j.numbers.1 in omega arith));
          ran = (subst (λ (z : List Entry). WasRead facts snap n before after z) here h.ran, each_as (λ k. own k (made q)) (λ k. own k (made r)) (n + 1) others afters same g.ran);
          rest = λ k has. sym (same k (let a = has.0 in omega arith)) ∙ g.rest k has;
          worn = j.worn_either ∙ ap (λ (b : Bool). b || is_worn q) (spent_is (is_worn pass) after.how h.worn) ∙ ap (λ (b : Bool). ends_worn after || b) g.worn ∙ or_three (ends_worn after) (list_any ends_worn afters) (is_worn last);
        }

    pub first_gathered : (old mid new : List (Ended S)) (q r : QueuePass) → mid ≡ old ++ after ∷ [] → Gathers facts snap c rest mid new last q → IsJoined c pass q r → Gathers facts snap c places old new last r
    first_gathered old mid new q r e h j n befores a l =
        let x = run_here n befores a in
        let k = h (n + 1) x.1 x.4 (after_first n l) in (
          after ∷ k.0,
          k.1 ∙ ap (λ (z : List (Ended S)). z ++ k.0) e ∙ append_assoc old (after ∷ []) k.0,
          subst (λ (z : List (Opened S)). IsGathered facts snap c n z (after ∷ k.0) last r) (sym x.2) (gathered_more n x.0 x.1 k.0 q r x.3 k.2 (after_first n l) j),
        )

-- there are no places
none_run : {S : Type 0} (facts : Option S → SourceFacts) (snap : Option ℕ) (c : QueueCell) (n : ℕ) (befores : List (Opened S)) (last : QueuePass) → IsPassOf c last → low last ≡ n → AreRun facts snap c n befores [] → IsGathered facts snap c n befores [] last last
none_run facts snap c n [] last is l a = record { pass = is; numbers = (l, refl); ran = tt; rest = λ k h. refl; worn = refl }
none_run facts snap c n (b ∷ bs) last is l a = absurd a

pub none_gathered : {S : Type 0} (facts : Option S → SourceFacts) (snap : Option ℕ) (c : QueueCell) (places : List (Place S)) (old : List (Ended S)) (last : QueuePass) → places ≡ [] → IsPassOf c last → Gathers facts snap c places old old last last
none_gathered {S} facts snap c places old last none is n befores a l =
    ([], sym (append-nil old), none_run facts snap c n befores last is (let e : length places ≡ 0 = ap length none in omega arith) (subst (λ (z : List (Place S)). AreRun facts snap c n befores z) none a))

pub none_there : {A : Type 0} (xs : List A) → length xs ≡ 0 → xs ≡ []
none_there [] e = refl
none_there (x ∷ xs) e = absurd (omega arith)
