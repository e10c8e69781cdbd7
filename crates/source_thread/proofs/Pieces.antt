-- One piece of a source's bytes behind another.
use Rattle.std.proofs.Common.{◌≡◌, ℕ, ◌+◌, ◌≤◌, ◌^◌, false, List, [], ◌++◌, length, take, drop, map, refl, sym, ap, ◌∙◌, subst, append_assoc, arith, Option, Some, None, length-append}
use Rattle.std.specs.List.{list_any}
use Rattle.std.specs.Option.{option_map}
use Rattle.std.proofs.Math.Seq.{take-append_seam}
use Rattle.std.proofs.lemmas.List.{append-nil, take-append-le, take-append-drop}
use Rattle.std.proofs.lemmas.List.Folds.{list_any-append}
use Rattle.std.proofs.lemmas.Bool.{or_parts}
use Rattle.cap_base.specs.Events.{Event, packet}
use Rattle.cap_base.specs.declared.packet.Packet.{Packet}
use Rattle.cap_base.specs.declared.entries.Entry.{Entry}
use Rattle.cap_outside.specs.Told.{Grows}
use Rattle.packet_queue.specs.Ends.{port_numbers}
use Rattle.source_thread.specs.declared.sender.Sender.{Sender}
use Rattle.source_thread.specs.Told.{AreEntriesOf, ReadsNoFurther, is_flushed}
use Rattle.cap_base.specs.declared.endings.How.{How}
use Rattle.source_thread.specs.inner.Readers.{State, StandsFor, EndsAs, IsOpen, Feeds, events, fed_count, name_of}
use Rattle.source_thread.specs.inner.Sending.{IsGiven, Sends, Keeps, Passed, PassedFront, Reads, ReadsFront, entries_of, number_of, waiting}
use Rattle.source_thread.proofs.Entries.{are_length}
use Rattle.source_thread.proofs.Readers.{events_front, front_given, all_given, fed_is}

-- where no packet waits, each event given has an entry
pub given_entered : (r : State) (s : Sender) (b : List ℕ) (P : How → Type 0) → EndsAs r P → waiting s ≡ [] → (x : Sends r s b) → (events (name_of r) r.snap b ≡ x.given) × AreEntriesOf (number_of s) (port_numbers s.port) x.given (entries_of s)
given_entered r s b P ends none x =
    let parts = x.holds.parts ∙ ap (λ (z : List Packet). x.holds.entered ++ map packet z) none ∙ append-nil x.holds.entered in
    (all_given r P b x.given ends x.stands, subst (λ (z : List Event). AreEntriesOf (number_of s) (port_numbers s.port) z (entries_of s)) (sym parts) x.holds.each)

-- ---- no byte is read after a flushed packet

none_in_front : (n : ℕ) (es : List Entry) → list_any is_flushed es ≡ false → list_any is_flushed (take n es) ≡ false
none_in_front n es f = (or_parts (list_any is_flushed (take n es)) (list_any is_flushed (drop n es)) (sym (list_any-append is_flushed (take n es) (drop n es)) ∙ ap (list_any is_flushed) (take-append-drop n es) ∙ f)).0

pub no_further_after : (name : List ℕ) (snap : Option ℕ) (b bytes : List ℕ) (old more es : List Entry) → es ≡ old ++ more → length (events name snap b) ≡ length old → list_any is_flushed old ≡ false → length bytes ≤ 65536 → ReadsNoFurther name snap (b ++ bytes) es
no_further_after name snap b bytes old more es e all none short front last parts long =
    let n = length front in
    let far : 65536 ≤ length last = long in
    let total : length b + length bytes ≡ n + length last = sym (length-append b bytes) ∙ ap length parts ∙ length-append front last in
    let within : n ≤ length b = omega arith in
    let is_front : take n b ≡ front = sym (take-append-le n b bytes within) ∙ ap (take n) parts ∙ take-append_seam front last in
    let whole : b ≡ front ++ drop n b = sym (take-append-drop n b) ∙ ap (λ (z : List ℕ). z ++ drop n b) is_front in
    let ev = events_front name snap front (drop n b) in
    let k = length (events name snap front) in
    let count : length (events name snap b) ≡ k + length ev.0 = ap length (ap (events name snap) whole ∙ ev.1) ∙ length-append (events name snap front) ev.0 in
    let few : k ≤ length old = omega arith in
    ap (λ (z : List Entry). list_any is_flushed (take k z)) e ∙ ap (list_any is_flushed) (take-append-le k old more few) ∙ none_in_front k old none

-- ---- what was read

grows_both : (s0 s1 s2 : Option (List ℕ)) (x y : List ℕ) → Grows s0 s1 x → Grows s1 s2 y → Grows s0 s2 (x ++ y)
grows_both None s1 s2 x y p q = q ∙ ap (option_map (λ (l : List ℕ). l ++ y)) p
grows_both (Some t) s1 s2 x y p q = q ∙ ap (option_map (λ (l : List ℕ). l ++ y)) p ∙ ap (λ (l : List ℕ). Some l) (append_assoc t x y)

pub grows_none : (s : Option (List ℕ)) → Grows s s []
grows_none None = refl
grows_none (Some t) = ap (λ (l : List ℕ). Some l) (sym (append-nil t))

pub given_fed : (r0 r1 : State) (s : Sender) (bytes : List ℕ) → IsGiven r0 s → Feeds r0 r1 bytes → IsGiven r1 s
given_fed r0 r1 s bytes g f = (g.0 ++ bytes, record { given = g.1.given; stands = f g.0 g.1.given g.1.stands; holds = g.1.holds })

-- a piece is read by a reader that waits, while no packet waits and none was flushed
module _ (r0 : State) (s0 : Sender) (t0 t1 : Option (List ℕ)) (bytes : List ℕ) (sound : EndsAs r0 IsOpen) (none : waiting s0 ≡ []) (quiet : list_any is_flushed (entries_of s0) ≡ false) (short : length bytes ≤ 65536) (fits : fed_count r0 + length bytes ≤ 2 ^ 62) (gave : Grows t0 t1 bytes) where
  fed_few : (b : List ℕ) → length b ≡ fed_count r0 → length (b ++ bytes) ≤ 2 ^ 62
  fed_few b e = let l : length (b ++ bytes) ≡ length b + length bytes = length-append b bytes in omega arith

  no_further : (s2 : Sender) (b : List ℕ) → Keeps s0 s2 → Sends r0 s0 b → ReadsNoFurther (name_of r0) r0.snap (b ++ bytes) (entries_of s2)
  no_further s2 b k x =
      let g = given_entered r0 s0 b IsOpen sound none x in
      no_further_after (name_of r0) r0.snap b bytes (entries_of s0) k.grown.0 (entries_of s2) k.grown.1 (ap length g.0 ∙ sym (are_length (number_of s0) (port_numbers s0.port) x.given (entries_of s0) g.1)) quiet short

  -- it was fed, and all its events were entered
  pub piece_read : (r1 r2 : State) (s2 : Sender) → name_of r2 ≡ name_of r0 → r2.snap ≡ r0.snap → Feeds r0 r1 bytes → Passed r1 r2 s0 s2 → Keeps s0 s2 → (t : Option (List ℕ)) → Reads t t0 r0 s0 → Reads t t1 r2 s2
  piece_read r1 r2 s2 name snap feeds p k t x = record {
    b = x.b ++ bytes;
    gave = grows_both t t0 t1 x.b bytes x.gave gave;
    sends = record { given = x.sends.given ++ p.more; stands = p.gives (x.b ++ bytes) x.sends.given (feeds x.b x.sends.given x.sends.stands); holds = p.receives x.sends.given x.sends.holds };
    no_further = subst (λ (n : List ℕ). ReadsNoFurther n r2.snap (x.b ++ bytes) (entries_of s2)) (sym name) (subst (λ (m : Option ℕ). ReadsNoFurther (name_of r0) m (x.b ++ bytes) (entries_of s2)) (sym snap) (no_further s2 x.b k x.sends));
  }

  -- or the first of them
  pub piece_front : (r1 r2 : State) (s2 : Sender) → name_of r2 ≡ name_of r0 → r2.snap ≡ r0.snap → Feeds r0 r1 bytes → PassedFront r1 r2 s0 s2 → Keeps s0 s2 → (t : Option (List ℕ)) → Reads t t0 r0 s0 → ReadsFront (name_of r0) r0.snap t t1 s2
  piece_front r1 r2 s2 name snap feeds p k t x =
      let stands = p.gives (x.b ++ bytes) x.sends.given (feeds x.b x.sends.given x.sends.stands) in
      let f = p.receives x.sends.given x.sends.holds in
      let others = front_given r2 (x.b ++ bytes) (x.sends.given ++ p.more) [] stands in
      record {
        b = x.b ++ bytes;
        few = fed_few x.b (fed_is r0 x.b x.sends.given x.sends.stands);
        gave = grows_both t t0 t1 x.b bytes x.gave gave;
        front = f.front;
        behind = f.lost ++ others.0;
        parts = ap (λ (n : List ℕ). events n r0.snap (x.b ++ bytes)) (sym name) ∙ ap (λ (m : Option ℕ). events (name_of r2) m (x.b ++ bytes)) (sym snap) ∙ ap (events (name_of r2) r2.snap) (sym (append-nil (x.b ++ bytes))) ∙ others.1 ∙ ap (λ (l : List Event). l ++ others.0) f.parts ∙ append_assoc f.front f.lost others.0;
        holds = f.holds;
        no_further = no_further s2 x.b k x.sends;
      }

  -- it couldn't be fed
  pub piece_lost : Keeps s0 s0 → (t : Option (List ℕ)) → Reads t t0 r0 s0 → ReadsFront (name_of r0) r0.snap t t1 s0
  piece_lost k t x =
      let others = front_given r0 x.b x.sends.given bytes x.sends.stands in
      record {
        b = x.b ++ bytes;
        few = fed_few x.b (fed_is r0 x.b x.sends.given x.sends.stands);
        gave = grows_both t t0 t1 x.b bytes x.gave gave;
        front = x.sends.given;
        behind = others.0;
        parts = others.1;
        holds = x.sends.holds;
        no_further = no_further s0 x.b k x.sends;
      }

pub keeps_same : (s : Sender) → Keeps s s
keeps_same s = record { number = refl; grown = ([], sym (append-nil (entries_of s))) }

-- before anything was read
pub nothing_read : (t : Option (List ℕ)) (r : State) (s : Sender) → StandsFor r [] [] → entries_of s ≡ [] → waiting s ≡ [] → Reads t t r s
nothing_read t r s stands fresh none = record {
  b = [];
  gave = grows_none t;
  sends = record {
    given = [];
    stands = stands;
    holds = record { entered = []; parts = ap (map packet) (sym none); each = subst (λ (es : List Entry). AreEntriesOf (number_of s) (port_numbers s.port) [] es) (sym fresh) tt };
  };
  no_further = λ front last parts long. absurd (let far : 65536 ≤ length last = long in let e : length (front ++ last) ≡ length front + length last = length-append front last in let z : 0 ≡ length (front ++ last) = ap length parts in omega arith);
}
