-- A capture: from its places to its one history.
use Rattle.std.proofs.Common.{◌≡◌, ℕ, ◌+◌, ◌<◌, ◌≤◌, ◌^◌, List, [], ◌∷◌, ◌++◌, length, take, drop, refl, sym, ap, ◌∙◌, subst, arith, Option}
use Rattle.std.proofs.Math.Seq.{take-append_seam}
use Rattle.cap_base.specs.Callers.{own}
use Rattle.cap_base.specs.Legal.{Legal}
use Rattle.cap_base.specs.declared.entries.Entry.{Entry}
use Rattle.turn_cell.specs.History.{Turned}
use Rattle.turn_cell.specs.Passes.{IsPassOf, IsClosed, Has, low, high, made, start, turns, history, turns_made, is_worn}
use Rattle.packet_queue.specs.Queue.{QueueStandsFor, limits_of, sources_of}
use Rattle.packet_queue.specs.Calls.{entries_of, Admits}
use Rattle.packet_queue.specs.Ends.{QueueCell, QueuePass, IsDrainOf, MakesDrain, mine, port_source, drain_pass}
use Rattle.packet_queue.specs.declared.drain.Drain.{Drain}
use Rattle.packet_queue.specs.declared.queue.Queue.{Queue}
use Rattle.cap_outside.specs.declared.opened.Opened.{Opened}
use Rattle.source_thread.specs.declared.ended.Ended.{Ended}
use Rattle.capture_threads.specs.declared.place.Place.{Place}
use Rattle.capture_threads.specs.declared.place.Place.TheVariants.{Ready, Running, Over}
use Rattle.source_thread.specs.Told.{SourceFacts}
use Rattle.source_thread.specs.Sources.{WasRead, EachWasRead}
use Rattle.capture_threads.specs.Places.{ArePlaced, AreRun, HasRun}
use Rattle.capture_threads.specs.inner.Places.{AreReady, AreOver, IsGathered, Gathers, CanGather}
use Rattle.capture_threads.specs.Captures.{QueueFront, IsCaptured}

pub are_ready : {S : Type 0} (c : QueueCell) (n : ℕ) (befores : List (Opened S)) (places : List (Place S)) → ArePlaced c n befores places → AreReady c places
are_ready c n [] [] a = tt
are_ready c n (b ∷ bs) (Ready port opened ∷ ps) a = (a.0.0, are_ready c (n + 1) bs ps a.1)
are_ready c n (b ∷ bs) (Running ∷ ps) a = absurd a.0
are_ready c n (b ∷ bs) (Over x q ∷ ps) a = absurd a.0
are_ready c n [] (p ∷ ps) a = absurd a
are_ready c n (b ∷ bs) [] a = absurd a

pub are_run : {S : Type 0} (facts : Option S → SourceFacts) (snap : Option ℕ) (c : QueueCell) (n : ℕ) (befores : List (Opened S)) (olds news : List (Place S)) → ArePlaced c n befores olds → AreOver facts snap c olds news → AreRun facts snap c n befores news
are_run facts snap c n [] [] [] a o = tt
are_run facts snap c n [] [] (y ∷ news) a o = absurd o
are_run facts snap c n [] (x ∷ olds) news a o = absurd a
are_run facts snap c n (b ∷ bs) [] news a o = absurd a
are_run facts snap c n (b ∷ bs) (Running ∷ olds) news a o = absurd a.0
are_run facts snap c n (b ∷ bs) (Over y q ∷ olds) news a o = absurd a.0
are_run facts snap c n (b ∷ bs) (Ready port opened ∷ olds) [] a o = absurd o
are_run facts snap c n (b ∷ bs) (Ready port opened ∷ olds) (Running ∷ news) a o = absurd o.0
are_run facts snap c n (b ∷ bs) (Ready port opened ∷ olds) (Ready p q ∷ news) a o = absurd o.0
are_run {S} facts snap c n (b ∷ bs) (Ready port opened ∷ olds) (Over after pass ∷ news) a o =
    (subst (λ (m : ℕ). HasRun facts snap c m b after pass) a.0.1 (subst (λ (z : Opened S). HasRun facts snap c (port_source port) z after pass) a.0.2 o.0), are_run facts snap c (n + 1) bs olds news a.1 o.1)

pub run_length : {S : Type 0} (facts : Option S → SourceFacts) (snap : Option ℕ) (c : QueueCell) (n : ℕ) (befores : List (Opened S)) (places : List (Place S)) → AreRun facts snap c n befores places → length befores ≡ length places
run_length facts snap c n [] [] a = refl
run_length facts snap c n (b ∷ bs) (p ∷ ps) a = let e : length bs ≡ length ps = run_length facts snap c (n + 1) bs ps a.1 in omega arith
run_length facts snap c n [] (p ∷ ps) a = absurd a
run_length facts snap c n (b ∷ bs) [] a = absurd a

each_within : {S : Type 0} (facts : Option S → SourceFacts) (snap : Option ℕ) (f g : ℕ → List Entry) (n : ℕ) (bs : List (Opened S)) (es : List (Ended S)) → ((k : ℕ) → n ≤ k → k < n + length bs → f k ≡ g k) → EachWasRead facts snap n bs es f → EachWasRead facts snap n bs es g
each_within facts snap f g n [] [] e a = a
each_within facts snap f g n (b ∷ bs) (x ∷ es) e a = (subst (λ (z : List Entry). WasRead facts snap n b x z) (e n (omega arith) (omega arith)) a.0, each_within facts snap f g (n + 1) bs es (λ k lo lt. e k (omega arith) (omega arith)) a.1)
each_within facts snap f g n [] (x ∷ es) e a = absurd a
each_within facts snap f g n (b ∷ bs) [] e a = absurd a

module _ {S : Type 0} (facts : Option S → SourceFacts) (snap : Option ℕ) (c : QueueCell) (befores : List (Opened S)) (afters : List (Ended S)) (last p : QueuePass) (x : Queue) (f : QueueFront)
    (g : IsGathered facts snap c 0 befores afters last p) (z : IsClosed QueueStandsFor (Turned entries_of Admits) c p x f)
    (lo : low last ≡ sources_of (start c)) (hi : high last ≡ sources_of (start c) + 1) where
  -- each source's own entries are those in the history
  pub captured : length befores ≡ sources_of (start c) → turns c ≡ 2 ^ 56 → IsCaptured facts snap (limits_of (start c)) befores afters (is_worn last) f
  captured sources t = record {
    legal = subst (λ (n : ℕ). Legal (limits_of (start c)) n (history f)) (sym sources) z.stands.legal;
    told = each_within facts snap (λ k. own k (made p)) (λ k. own k (history f)) 0 befores afters (λ k from below. sym (z.once k (let a : low p ≡ 0 = g.numbers.0 in let b : high p ≡ high last = g.numbers.1 in (omega arith, omega arith)))) g.ran;
    few = subst (λ (n : ℕ). turns_made f ≤ n) t z.few;
    spent = λ e. z.spent (g.worn ∙ e) ∙ t;
  }

  -- and so are the writer's
  pub last_told : own (sources_of (start c)) (history f) ≡ mine last
  last_told =
      let n = sources_of (start c) in
      let a : low p ≡ 0 = g.numbers.0 in
      let b : high p ≡ high last = g.numbers.1 in
      z.once n (omega arith, omega arith) ∙ g.rest n (omega arith, omega arith) ∙ ap (λ (k : ℕ). own k (made last)) (sym lo)

-- ---- the passes of the places, in front of the last one

module _ {S : Type 0} (facts : Option S → SourceFacts) (snap : Option ℕ) (c : QueueCell) (places now : List (Place S)) (last : QueuePass) (same : now ≡ places) where
  pub can_gather : (r : (befores : List (Opened S)) × AreRun facts snap c 0 befores places × (length befores ≡ sources_of (start c))) → IsPassOf c last × (low last ≡ sources_of (start c)) × (high last ≡ sources_of (start c) + 1) → CanGather facts snap c now last
  can_gather r l =
      (l.0, (0, r.0, subst (λ (z : List (Place S)). AreRun facts snap c 0 r.0 z) (sym same) r.1, (let e : length r.0 ≡ length now = run_length facts snap c 0 r.0 places r.1 ∙ ap length (sym same) in let a : low last ≡ sources_of (start c) = l.1 in let b : length r.0 ≡ sources_of (start c) = r.2 in omega arith)))

  pub gathered_all : (q : QueuePass) (old new : List (Ended S)) → old ≡ [] → (befores : List (Opened S)) → AreRun facts snap c 0 befores places → low last ≡ length befores → Gathers facts snap c now old new last q → IsGathered facts snap c 0 befores new last q
  gathered_all q old new none befores a l h =
      let e : length befores ≡ length now = run_length facts snap c 0 befores places a ∙ ap length (sym same) in
      let k = h 0 befores (subst (λ (z : List (Place S)). AreRun facts snap c 0 befores z) (sym same) a) (let b : low last ≡ length befores = l in omega arith) in
      subst (λ (z : List (Ended S)). IsGathered facts snap c 0 befores z last q) (sym (k.1 ∙ ap (λ (z : List (Ended S)). z ++ k.0) none)) k.2

  pub gathered : (q : QueuePass) (old new : List (Ended S)) → old ≡ [] → (r : (befores : List (Opened S)) × AreRun facts snap c 0 befores places × (length befores ≡ sources_of (start c))) → IsPassOf c last × (low last ≡ sources_of (start c)) × (high last ≡ sources_of (start c) + 1) → Gathers facts snap c now old new last q → (befores : List (Opened S)) × IsGathered facts snap c 0 befores new last q
  gathered q old new none r l h = (r.0, gathered_all q old new none r.0 r.1 (l.1 ∙ sym r.2) h)

-- ---- before the threads and after them

-- a drain of the rest of the pass is the cell's, and made no call
pub fresh_drain : (c : QueueCell) (rest : QueuePass) (d : Drain) (n : ℕ) → sources_of (start c) ≡ n → IsPassOf c rest → (low rest ≡ n) × (high rest ≡ n + 1) → ((k : ℕ) → Has rest k → own k (made rest) ≡ []) → MakesDrain rest d → drain_pass d ≡ rest → IsDrainOf c d × (mine (drain_pass d) ≡ [])
fresh_drain c rest d n e is numbers fresh makes pass =
    let lo : low rest ≡ sources_of (start c) = numbers.0 ∙ sym e in
    let hi : high rest ≡ sources_of (start c) + 1 = numbers.1 ∙ ap (λ (k : ℕ). k + 1) (sym e) in
    (makes c is lo hi, ap mine pass ∙ fresh (low rest) (omega arith, omega arith))

pub over_length : {S : Type 0} (facts : Option S → SourceFacts) (snap : Option ℕ) (c : QueueCell) (olds news : List (Place S)) → AreOver facts snap c olds news → length news ≡ length olds
over_length facts snap c [] [] o = refl
over_length facts snap c (x ∷ olds) (y ∷ news) o = let e : length news ≡ length olds = over_length facts snap c olds news o.1 in omega arith
over_length facts snap c [] (y ∷ news) o = absurd o
over_length facts snap c (x ∷ olds) [] o = absurd o

-- what stands in a vector whose whole slice was written
pub slice_is : {X : Type 0} (xs new : List X) (n : ℕ) → n ≡ length xs → length new ≡ length xs → take n (new ++ drop (length new) xs) ≡ new
slice_is xs new n e same = ap (λ (k : ℕ). take k (new ++ drop (length new) xs)) (e ∙ sym same) ∙ take-append_seam new (drop (length new) xs)

pub places_run : {S : Type 0} (facts : Option S → SourceFacts) (snap : Option ℕ) (c : QueueCell) (befores : List (Opened S)) (places slice new : List (Place S)) (n : ℕ) → n ≡ length places → slice ≡ places → ArePlaced c 0 befores places → AreOver facts snap c slice new → AreRun facts snap c 0 befores (take n (new ++ drop (length new) places))
places_run {S} facts snap c befores places slice new n count same placed over =
    subst (λ (z : List (Place S)). AreRun facts snap c 0 befores z) (sym (slice_is places new n count (over_length facts snap c slice new over ∙ ap length same)))
    (are_run facts snap c 0 befores slice new (subst (λ (z : List (Place S)). ArePlaced c 0 befores z) (sym same) placed) over)
