-- Where nothing failed and all packets may stand at once, every packet is written.
use Rattle.std.proofs.Common.{◌≡◌, ◌≢◌, ◌⊎◌, inl, inr, ℕ, ◌+◌, ◌-◌, ◌<◌, ◌≤◌, Bool, true, false, not, cond, eqb, ◌||◌, List, [], ◌∷◌, ◌++◌, length, take, refl, sym, ap, ◌∙◌, subst, arith, append_assoc, ⊎_elim, Option, Some, None}
use Rattle.std.specs.Prelude.{IfSome}
use Rattle.std.specs.List.{list_any, count_by, sum_by, filter, All}
use Rattle.std.proofs.lemmas.List.{append-nil, take-append-drop, take_at}
use Rattle.std.proofs.lemmas.List.Sums.{sum_by-cons}
use Rattle.std.proofs.lemmas.List.Folds.{list_any-append}
use Rattle.std.proofs.lemmas.List.Elements.{All-cons, All-nil, All-head, All-tail}
use Rattle.std.proofs.lemmas.Bool.{cases_eq, lt-leb, or_parts}
use Rattle.cap_base.specs.Callers.{own}
use Rattle.cap_base.specs.Events.{Event}
use Rattle.cap_base.specs.Histories.{History, is_stop, has_stop, has_end, items, answered, line, due, standing, body_sum, packets}
use Rattle.cap_base.specs.Interfaces.{owners, owns}
use Rattle.cap_base.specs.Fates.{written, taken, received_of}
use Rattle.cap_base.specs.Legal.{Legal, Admitted, Answers, has_join, is_at, is_full, verdict_of}
use Rattle.cap_base.proofs.Lines.{line_going}
use Rattle.cap_base.proofs.Legals.{none_left}
use Rattle.cap_base.proofs.Ordered.{in_order}
use Rattle.cap_base.proofs.Sounds.{sound}
use Rattle.cap_base.proofs.Written.{packets_owned}
use Rattle.cap_base.specs.declared.endings.How.{How}
use Rattle.cap_base.specs.declared.endings.How.TheVariants as hows
use Rattle.cap_base.specs.declared.limits.Limits.{Limits}
use Rattle.cap_base.specs.declared.packet.Packet.{Packet}
use Rattle.cap_base.specs.declared.entries.Item.{Item}
use Rattle.cap_base.specs.declared.entries.Verdict.{Verdict}
use Rattle.cap_base.specs.declared.entries.Verdict.TheVariants as V
use Rattle.cap_base.specs.declared.entries.Entry.{Entry}
use Rattle.cap_base.specs.declared.entries.Entry.TheVariants as E
use Rattle.cap_outside.specs.Told.{Tells}
use Rattle.packet_queue.specs.Batches.{numbered}
use Rattle.packet_queue.specs.Ends.{joined_numbers}
use Rattle.source_reader.specs.Reading.{events, ending}
use Rattle.cap_outside.specs.declared.opened.Opened.{Opened}
use Rattle.source_thread.specs.declared.ended.Ended.{Ended}
use Rattle.source_thread.specs.Told.{is_flushed, SourceFacts, IsCauseOf, Told, end_entry}
use Rattle.capture_core.specs.Views.{packet_events}
use Rattle.capture_threads.specs.Captures.{ends_worn, is_worn_ending}
use Rattle.capture_run.specs.Sources.{offered, packets_of, written_of, SourcesAre}
use Rattle.capture_run.specs.Capture.{is_worn}
use Rattle.capture_run.specs.Exits.{ends_early, ends_starved, is_early_ending, is_starved_ending, exit_of}
use Rattle.capture_run.specs.Completes.{Contents, all_packets, AllWritten}
use Rattle.capture_run.specs.Command.{is_missing}
use Rattle.capture_run.specs.Laws.{AllAreWritten}
use Rattle.capture_run.proofs.Told.{along, all_any}
use Rattle.capture_run.proofs.InOrder.{accepted, accepted_of, items_after, all_offered}
use Rattle.capture_run.proofs.Weighed.{weight_in, total, in_both, all_in_total}
use Rattle.capture_run.proofs.Contents.{HasContent, along_sources, few_total, as_many}
use Rattle.capture_run.proofs.Completes.{there, file, say, fresh, none_early}
use Rattle.capture_run.proofs.Stops.{own_split, stands_in, stops_none}
use Rattle.capture_run.proofs.Standing.{offered_weight, of_sources, standing_weighs, few_offers, all_weigh}

-- ---- offers that are accepted

abbrev IsTakenOn : Entry → Type 0
IsTakenOn (E.Offer s p v) = v ≡ V.Accepted
IsTakenOn other = Unit {0}

accepted_offered : (es : List Entry) → All IsTakenOn es → accepted es ≡ offered es
accepted_offered [] a = refl
accepted_offered (e ∷ es) a = ap (λ (z : List Packet). z ++ accepted es) (here e (All-head IsTakenOn e es a)) ∙ ap (λ (z : List Packet). received_of e ++ z) (accepted_offered es (All-tail IsTakenOn e es a)) where
  here : (e : Entry) → IsTakenOn e → accepted_of e ≡ received_of e
  here (E.Offer s p v) k = subst (λ (z : Verdict). accepted_of (E.Offer s p z) ≡ received_of (E.Offer s p z)) (sym k) refl
  here (E.Join s i n) k = refl
  here (E.End s how) k = refl
  here (E.Take now t) k = refl
  here (E.Tally now cs) k = refl
  here (E.Stop why l) k = refl

none_flushed : (es : List Entry) → All IsTakenOn es → list_any is_flushed es ≡ false
none_flushed [] a = refl
none_flushed (e ∷ es) a = ap (λ (b : Bool). b || list_any is_flushed es) (here e (All-head IsTakenOn e es a)) ∙ none_flushed es (All-tail IsTakenOn e es a) where
  here : (e : Entry) → IsTakenOn e → is_flushed e ≡ false
  here (E.Offer s p v) k = ap (λ (z : Verdict). is_flushed (E.Offer s p z)) k
  here (E.Join s i n) k = refl
  here (E.End s how) k = refl
  here (E.Take now t) k = refl
  here (E.Tally now cs) k = refl
  here (E.Stop why l) k = refl

own_all : (n : ℕ) (h : History) → All (λ (x : ℕ × Entry). IsTakenOn x.1) h → All IsTakenOn (own n h)
own_all n [] a = All-nil IsTakenOn
own_all n (x ∷ h) a = go (eqb x.0 n) (own_all n h (All-tail (λ (x : ℕ × Entry). IsTakenOn x.1) x h a)) where
  go : (b : Bool) → All IsTakenOn (own n h) → All IsTakenOn (cond b (x.1 ∷ own n h) (own n h))
  go true w = All-cons IsTakenOn x.1 (own n h) (All-head (λ (x : ℕ × Entry). IsTakenOn x.1) x h a) w
  go false w = w

-- the verdict, where the offer isn't foreign, nothing stops, and the queue isn't full
verdict_is : (limits : Limits) (g : History) (s n : ℕ) (v : Verdict) → v ≡ verdict_of limits g s n → v ≢ V.Foreign → has_stop g ≡ false → is_full limits g ≡ false → v ≡ V.Accepted
verdict_is limits g s n v q known st fu = go (not (has_join n (own s g)) || has_end (own s g)) (has_stop g) (is_full limits g) q st fu where
  go : (a b c : Bool) → v ≡ cond a V.Foreign (cond b V.Flushed (cond c V.AtLimit V.Accepted)) → b ≡ false → c ≡ false → v ≡ V.Accepted
  go true b c q st fu = absurd (known q)
  go false true c q st fu = cc
  go false false true q st fu = cc
  go false false false q st fu = q

not_full : (limits : Limits) (g : History) → length (standing g) < limits.packets → IfSome limits.bytes (λ most. body_sum (standing g) < most) → is_full limits g ≡ false
not_full limits g few small = ap (λ (b : Bool). b || is_at limits.bytes (body_sum (standing g))) (lt-leb limits.packets (length (standing g)) few) ∙ at limits.bytes small where
  at : (o : Option ℕ) → IfSome o (λ most. body_sum (standing g) < most) → is_at o (body_sum (standing g)) ≡ false
  at None k = refl
  at (Some most) k = lt-leb most (body_sum (standing g)) k

-- a front of a history without a Stop
front_going : (g t : History) → has_stop (g ++ t) ≡ false → has_stop g ≡ false
front_going g t q = (or_parts (has_stop g) (has_stop t) (sym (list_any-append is_stop g t) ∙ q)).0

-- ---- no offer is foreign

abbrev is_foreign : Entry → Bool
is_foreign (E.Offer s p V.Foreign) = true
is_foreign other = false

not_foreign : (s : ℕ) (p : Packet) (v : Verdict) → v ≢ V.Foreign → is_foreign (E.Offer s p v) ≡ false
not_foreign s p V.Accepted k = refl
not_foreign s p V.AtLimit k = refl
not_foreign s p V.Flushed k = refl
not_foreign s p V.Foreign k = absurd (k refl)

told_known : (s : ℕ) (name : List ℕ) (snap : Option ℕ) (b : List ℕ) (how : How) (old new : SourceFacts) (all : List Entry) → Told s name snap b how old new all → list_any is_foreign all ≡ false
told_known s name snap b how old new all t = all_any s name snap b how old new all t is_foreign refl (along s _ (λ evs es. list_any is_foreign es ≡ false) refl (λ i n evs es w. w)
    (λ p q v evs es is known w. ap (λ (x : Bool). x || list_any is_foreign es) (not_foreign s q v known) ∙ w) t.entered.front t.entries t.entered.each)

known_at : {S : Type 0} (facts : Option S → SourceFacts) (snap : Option ℕ) (h : History) (n : ℕ) (os : List (Opened S)) (es : List (Ended S)) → SourcesAre facts snap n os es h → (k : ℕ) → n ≤ k → k < n + length es → list_any is_foreign (own k h) ≡ false
known_at facts snap h n [] [] r k lo hi = absurd (omega arith)
known_at facts snap h n [] (a ∷ es) r k lo hi = absurd r
known_at facts snap h n (o ∷ os) [] r k lo hi = absurd r
known_at facts snap h n (o ∷ os) (a ∷ es) r k lo hi = let t = r.0.ran.ran in
    ⊎_elim (λ (is : n ≡ k). subst (λ (z : ℕ). list_any is_foreign (own z h) ≡ false) is (told_known n o.name snap t.b a.how (facts o.source) (facts a.source) (own n h) t.told))
    (λ (ne : n ≢ k). known_at facts snap h (n + 1) os es r.1 k (omega arith) (omega arith)) (cases_eq n k)

offer_known : (k : ℕ) (g t : History) (p : Packet) (v : Verdict) → list_any is_foreign (own k ((g ++ (k, E.Offer k p v) ∷ []) ++ t)) ≡ false → v ≢ V.Foreign
offer_known k g t p v q is = let z : list_any is_foreign (own k ((g ++ (k, E.Offer k p v) ∷ []) ++ t)) ≡ true =
    ap (list_any is_foreign) (own_split k g t (E.Offer k p v)) ∙ stands_in is_foreign (own k g) (own k t) (E.Offer k p v) (ap (λ (z : Verdict). is_foreign (E.Offer k p z)) is) in let y : true ≡ false = sym z ∙ q in cc

-- ---- what is written is what was accepted

written_all : (limits : Limits) (n : ℕ) (h : History) → Legal limits n h → has_stop h ≡ false → due h ≡ [] → written h ≡ packets (items h)
written_all limits n h legal q none = ap (λ (k : ℕ). take (length (taken h) - k) (taken h)) ((sound limits n h legal).no_lost q) ∙ whole (taken h) ∙ ap packets (all ∙ line_going h q) where
  whole : (ps : List Packet) → take (length ps - 0) ps ≡ ps
  whole ps = ap (λ (k : ℕ). take k ps) (let z : length ps - 0 ≡ length ps = omega arith in z) ∙ ap (take (length ps)) (sym (append-nil ps)) ∙ take_at ps [] (length ps) refl

  all : take (answered h) (line h) ≡ line h
  all = sym (append-nil (take (answered h) (line h))) ∙ ap (λ (z : List Item). take (answered h) (line h) ++ z) (sym none) ∙ take-append-drop (answered h) (line h)

written_own : (limits : Limits) (n : ℕ) (h : History) (k : ℕ) → Legal limits n h → has_stop h ≡ false → due h ≡ [] → written_of k h ≡ accepted (own k h)
written_own limits n h k legal q none = ap (filter (λ p. owns (owners h) k p.iface)) (written_all limits n h legal q none) ∙ sym (packets_owned (owners h) k (items h)) ∙ ap packets (in_order limits n h k legal) ∙ items_after k [] (own k h)

-- ---- endings

-- the exit 0 leaves only these endings
ends_well : (how : How) → is_early_ending how ≡ false → is_starved_ending how ≡ false → is_worn_ending how ≡ false → (how ≡ hows.Clean) ⊎ (how ≡ hows.Stopped)
ends_well hows.Clean e m w = inl refl
ends_well hows.Stopped e m w = inr refl
ends_well (hows.Cut at) e m w = cc
ends_well (hows.Bad code at) e m w = cc
ends_well hows.ReadFault e m w = cc
ends_well hows.OpenFault e m w = cc
ends_well hows.TooMany e m w = cc
ends_well hows.TooLong e m w = cc
ends_well hows.NoMemory e m w = cc
ends_well hows.Worn e m w = cc

memory_none : (file say memory worn early : Bool) → exit_of file say memory worn early ≡ 0 → memory ≡ false
memory_none true say memory worn early e = cc
memory_none false true memory worn early e = cc
memory_none false false true worn early e = cc
memory_none false false false worn early e = refl

-- a source whose offers were all accepted, and that ended Clean or Stopped, has all its events entered
whole_source : (s : ℕ) (name : List ℕ) (snap : Option ℕ) (b l text : List ℕ) (how : How) (old new : SourceFacts) (all : List Entry) (t : Told s name snap b how old new all) → All IsTakenOn all → b ++ l ≡ text → new.left ≡ Some l → (how ≡ hows.Clean) ⊎ (how ≡ hows.Stopped)
    → t.entered.front ≡ events name snap text
whole_source s name snap b l text how old new all t taken_on parts left e = ⊎_elim clean stopped e where
  not_flushed : list_any is_flushed t.entries ≡ false
  not_flushed = (or_parts (list_any is_flushed t.entries) (list_any is_flushed (end_entry s how)) (sym (list_any-append is_flushed t.entries (end_entry s how)) ∙ sym (ap (list_any is_flushed) t.parts) ∙ none_flushed all taken_on)).0

  stopped : how ≡ hows.Stopped → t.entered.front ≡ events name snap text
  stopped is = let d = subst (λ (z : How). IsCauseOf z (ending name b) (length b) t.entered.behind t.entries old new) is t.entered.cause in let z : true ≡ false = sym d.0 ∙ not_flushed in cc

  clean : how ≡ hows.Clean → t.entered.front ≡ events name snap text
  clean is = let d = subst (λ (z : How). IsCauseOf z (ending name b) (length b) t.entered.behind t.entries old new) is t.entered.cause in
      let none : l ≡ [] = subst (λ (z : Option (List ℕ)). Tells z []) left d.2.none_left in
      let same : b ≡ text = sym (append-nil b) ∙ ap (λ (z : List ℕ). b ++ z) (sym none) ∙ parts in
      let front : events name snap b ≡ t.entered.front = t.entered.parts ∙ ap (λ (z : List Event). t.entered.front ++ z) d.1.all ∙ append-nil t.entered.front in
      sym front ∙ ap (events name snap) same

-- ---- all of it

abbrev count_one : Packet → ℕ
count_one p = 1

abbrev body_of : Packet → ℕ
body_of p = length p.body

counts_length : (ps : List Packet) → sum_by count_one ps ≡ length ps
counts_length [] = refl
counts_length (p ∷ ps) = let a : sum_by count_one (p ∷ ps) ≡ 1 + sum_by count_one ps = sum_by-cons count_one p ps in let b : sum_by count_one ps ≡ length ps = counts_length ps in omega arith

-- no source ended early, for want of memory, or with spent turns
abbrev EndsWell : {S : Type 0} → List (Ended S) → Type 0
EndsWell es = (list_any ends_early es ≡ false) × (list_any ends_starved es ≡ false) × (list_any ends_worn es ≡ false)

pub all_written : (S : Type 0) → AllAreWritten S
all_written S facts content s opened sources w h readings contents made exit opens0 opens1 files0 files1 says0 says1 by_words told o done n all zero_exit = each_written where
  none_missing : count_by is_missing opened ≡ 0
  none_missing = there facts content s opened sources w h contents made exit opens0 opens1 files0 files1 says0 says1 by_words told n

  memory : w.no_memory || list_any ends_starved sources ≡ false
  memory = memory_none w.file_fault w.say_fault (w.no_memory || list_any ends_starved sources) (is_worn sources w) (list_any ends_early sources) (sym by_words.exit_is ∙ zero_exit)

  none_stop : has_stop h ≡ false
  none_stop = stops_none s h by_words.legal o.each all.no_stop (sym by_words.writer_is.file_fault ∙ file facts content s opened sources w h contents made exit opens0 opens1 files0 files1 says0 says1 by_words told n)
      (sym by_words.writer_is.say_fault ∙ say facts content s opened sources w h contents made exit opens0 opens1 files0 files1 says0 says1 by_words told n) (sym by_words.writer_is.no_memory ∙ (or_parts w.no_memory (list_any ends_starved sources) memory).0)

  nothing_due : due h ≡ []
  nothing_due = subst (λ (z : History). due z ≡ []) (sym done.parts) (none_left s.limits (length s.sources) done.before (length s.sources) done.now done.behind done.writers (subst (Legal s.limits (length s.sources)) done.parts by_words.legal))

  -- at an offer
  at_offer : (g t : History) (by : ℕ) (e : Entry) → h ≡ (g ++ (by, e) ∷ []) ++ t → Admitted (length s.sources) by (own by g) e → Answers s.limits (length s.sources) g e → IsTakenOn e
  at_offer g t by (E.Offer k p v) place a b = verdict_is s.limits g k p.iface v b known going (not_full s.limits g stands_few stands_small) where
    known : v ≢ V.Foreign
    known = offer_known k g t p v (ap (λ (z : History). list_any is_foreign (own k z)) (sym (place ∙ ap (λ (z : ℕ). (g ++ (z, E.Offer k p v) ∷ []) ++ t) a.0.0)) ∙ known_at facts s.snap h 0 opened sources by_words.sources_are k (omega arith)
        (let x : length sources ≡ length s.sources = as_many facts s.snap content h 0 s.sources opened sources by_words.are_opened by_words.sources_are in let z : k < length s.sources = a.0.1 in omega arith))

    going : has_stop g ≡ false
    going = front_going g ((by, E.Offer k p v) ∷ t) (sym (ap has_stop (place ∙ append_assoc g ((by, E.Offer k p v) ∷ []) t)) ∙ none_stop)

    -- what stands, and this packet, weigh no more than all packets
    weighs : (u : Packet → ℕ) (same : (p : Packet) (n : ℕ) → u (numbered p n) ≡ u p) → sum_by u (standing g) + u p ≤ sum_by u (all_packets s.snap contents)
    weighs u same = let x : sum_by u (standing g) ≤ weight_in (offered_weight u) g = standing_weighs u g going in
        let y : weight_in (offered_weight u) h ≡ weight_in (offered_weight u) (g ++ (by, E.Offer k p v) ∷ []) + weight_in (offered_weight u) t = ap (weight_in (offered_weight u)) place ∙ in_both (offered_weight u) (g ++ (by, E.Offer k p v) ∷ []) t in
        let z : weight_in (offered_weight u) (g ++ (by, E.Offer k p v) ∷ []) ≡ weight_in (offered_weight u) g + (u p + 0) = in_both (offered_weight u) g ((by, E.Offer k p v) ∷ []) in
        let r : weight_in (offered_weight u) h ≤ total (offered_weight u) 0 (length s.sources) h = all_in_total (offered_weight u) (of_sources u) s.limits (length s.sources) h by_words.legal in
        let q : total (offered_weight u) 0 (length s.sources) h ≤ sum_by u (all_packets s.snap contents) = subst (λ (m : ℕ). total (offered_weight u) 0 (length s.sources) h ≤ m) (all_weigh u s.snap contents)
        (few_total facts s.snap content h (offered_weight u) (λ evs. sum_by u (packet_events evs)) (few_offers u same) s.sources opened sources contents by_words.are_opened none_missing told by_words.sources_are) in omega arith

    stands_few : length (standing g) < s.limits.packets
    stands_few = let x : sum_by count_one (standing g) + 1 ≤ sum_by count_one (all_packets s.snap contents) = weighs count_one (λ p n. refl) in let y : sum_by count_one (standing g) ≡ length (standing g) = counts_length (standing g) in
        let z : sum_by count_one (all_packets s.snap contents) ≡ length (all_packets s.snap contents) = counts_length (all_packets s.snap contents) in let r : length (all_packets s.snap contents) ≤ s.limits.packets = all.packets in omega arith

    stands_small : IfSome s.limits.bytes (λ most. body_sum (standing g) < most)
    stands_small = go s.limits.bytes all.bytes where
      small : (most : ℕ) → body_sum (all_packets s.snap contents) < most → body_sum (standing g) < most
      small most lt = let x : sum_by body_of (standing g) + length p.body ≤ sum_by body_of (all_packets s.snap contents) = weighs body_of (λ p n. refl) in omega arith

      go : (b : Option ℕ) → IfSome b (λ most. body_sum (all_packets s.snap contents) < most) → IfSome b (λ most. body_sum (standing g) < most)
      go None k = k
      go (Some most) lt = small most lt
  at_offer g t by (E.Join x y z) place a b = tt
  at_offer g t by (E.End x y) place a b = tt
  at_offer g t by (E.Take x y) place a b = tt
  at_offer g t by (E.Tally x y) place a b = tt
  at_offer g t by (E.Stop x y) place a b = tt

  taken_on : All (λ (x : ℕ × Entry). IsTakenOn x.1) h
  taken_on = go [] h refl where
    go : (f t : History) → h ≡ f ++ t → All (λ (x : ℕ × Entry). IsTakenOn x.1) t
    go f [] q = All-nil (λ (x : ℕ × Entry). IsTakenOn x.1)
    go f (x ∷ t) q = let place : h ≡ (f ++ x ∷ []) ++ t = q ∙ sym (append_assoc f (x ∷ []) t) in let a = by_words.legal f x.0 x.1 t place in
        All-cons (λ (x : ℕ × Entry). IsTakenOn x.1) x t (at_offer f t x.0 x.1 place a.0 a.1) (go (f ++ x ∷ []) t place)

  next : (k : ℕ) (x : Opened S) (a : Ended S) (es : List (Ended S)) (c : List ℕ × List ℕ) (cs : Contents) → HasContent facts s.snap content h k x a c → (EndsWell es → AllWritten s.snap (k + 1) cs h) → EndsWell (a ∷ es) → AllWritten s.snap k (c ∷ cs) h
  next k x a es c cs it ih e = let early = or_parts (ends_early a) (list_any ends_early es) e.0 in let starved = or_parts (ends_starved a) (list_any ends_starved es) e.1 in let worn = or_parts (ends_worn a) (list_any ends_worn es) e.2 in
      let mine = own_all k h taken_on in let told_is = it.source_is.ran.ran in (
        written_own s.limits (length s.sources) h k by_words.legal none_stop nothing_due ∙ accepted_offered (own k h) mine ∙ all_offered k c.0 s.snap told_is.b a.how (facts x.source) (facts a.source) (own k h) it.told
            ∙ ap (packets_of (joined_numbers (own k h))) (whole_source k c.0 s.snap told_is.b it.l c.1 a.how (facts x.source) (facts a.source) (own k h) it.told mine it.parts it.left (ends_well a.how early.0 starved.0 worn.0)),
        ih (early.1, starved.1, worn.1),
      )

  each_written : AllWritten s.snap 0 contents h
  each_written = along_sources facts s.snap content h (λ k es cs. EndsWell es → AllWritten s.snap k cs h) (λ k e. tt) next 0 s.sources opened sources contents by_words.are_opened none_missing told by_words.sources_are (
    none_early facts content s opened sources w h contents made exit opens0 opens1 files0 files1 says0 says1 by_words told n,
    (or_parts w.no_memory (list_any ends_starved sources) memory).1,
    (or_parts (list_any ends_worn sources) w.worn (fresh facts content s opened sources w h contents made exit opens0 opens1 files0 files1 says0 says1 by_words told n)).0,
  )
