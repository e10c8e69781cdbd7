-- Offering the packets that wait.
use Rattle.std.proofs.Common.{◌≡◌, ◌≢◌, ℕ, suc, ◌+◌, ◌<◌, ◌≤◌, Bool, true, false, ◌||◌, List, [], ◌∷◌, ◌++◌, length, map, drop, get_or, All, refl, sym, ap, ◌∙◌, subst, append_assoc, arith, Option, Some, None, Result, Ok, Err, OnOk, OnErr, drop-cons, length-append}
use Rattle.std.specs.List.{slice_get, list_any}
use Rattle.std.proofs.Math.ListN.{drop_of_length-le}
use Rattle.std.proofs.lemmas.List.{append-nil, map-append}
use Rattle.std.proofs.lemmas.List.Elements.{All-nil, All-cons, All-head, All-tail, All-append}
use Rattle.std.proofs.lemmas.List.Folds.{list_any-append}
use Rattle.std.proofs.lemmas.Option.{slice_get-get_or, slice_get_within, get_or_from_slice_get}
use Rattle.turn_cell.specs.Passes.{is_worn}
use Rattle.cap_base.specs.Events.{Event, interface, packet}
use Rattle.cap_base.specs.Carried.{IsFitPacket}
use Rattle.cap_base.specs.declared.packet.Packet.{Packet}
use Rattle.cap_base.specs.declared.interface.Iface.{Iface}
use Rattle.cap_base.specs.declared.entries.Verdict.{Verdict}
use Rattle.cap_base.specs.declared.entries.Verdict.TheVariants as V
use Rattle.cap_base.specs.declared.entries.Entry.{Entry}
use Rattle.cap_base.specs.declared.entries.Entry.TheVariants as E
use Rattle.packet_queue.specs.declared.port.Port.{Port}
use Rattle.packet_queue.specs.Batches.{Contents, HasNumber, numbered_by}
use Rattle.packet_queue.specs.Calls.{offers}
use Rattle.packet_queue.specs.Ends.{QueueCell, IsPortOf, mine, port_pass, port_source, port_numbers}
use Rattle.source_thread.specs.declared.sender.Sender.{Sender}
use Rattle.source_thread.specs.Told.{AreEntriesOf, is_flushed, is_refused}
use Rattle.source_thread.specs.inner.Sending.{IsSender, IsSenderWith, AllNumbered, Holds, HoldsFront, Receives, ReceivesFront, Keeps, OffersMade, IsFresh, packets_in, waiting, is_flushed_verdict, entries_of, number_of}
use Rattle.source_thread.proofs.Entries.{are_both, are_more, none_refused}

-- ---- the entries of a batch

-- one for each packet
offers_each : (s : ℕ) (ns : List ℕ) (ps : List Packet) (vs : List Verdict) → All (HasNumber ns) ps → length vs ≡ length ps → All (λ (v : Verdict). v ≢ V.Foreign) vs → AreEntriesOf s ns (map packet ps) (offers s (map (numbered_by ns) ps) vs)
offers_each s ns [] [] has long known = tt
offers_each s ns [] (v ∷ vs) has long known = absurd (omega arith)
offers_each s ns (p ∷ ps) [] has long known = absurd (omega arith)
offers_each s ns (p ∷ ps) (v ∷ vs) has long known =
    ((refl, slice_get-get_or ns p.iface 0 (All-head (HasNumber ns) p ps has), refl, All-head (λ (v : Verdict). v ≢ V.Foreign) v vs known), offers_each s ns ps vs (All-tail (HasNumber ns) p ps has) (let e : suc (length vs) ≡ suc (length ps) = long in omega arith) (All-tail (λ (v : Verdict). v ≢ V.Foreign) v vs known))

-- a packet is flushed by its verdict
flushed_one : (s : ℕ) (q : Packet) (v : Verdict) → is_flushed (E.Offer s q v) ≡ is_flushed_verdict v
flushed_one s q V.Accepted = refl
flushed_one s q V.AtLimit = refl
flushed_one s q V.Flushed = refl
flushed_one s q V.Foreign = refl

offers_flushed : (s : ℕ) (ns : List ℕ) (ps : List Packet) (vs : List Verdict) → length vs ≡ length ps → list_any is_flushed (offers s (map (numbered_by ns) ps) vs) ≡ list_any is_flushed_verdict vs
offers_flushed s ns [] [] long = refl
offers_flushed s ns [] (v ∷ vs) long = absurd (omega arith)
offers_flushed s ns (p ∷ ps) [] long = absurd (omega arith)
offers_flushed s ns (p ∷ ps) (v ∷ vs) long =
    ap (λ (b : Bool). b || list_any is_flushed (offers s (map (numbered_by ns) ps) vs)) (flushed_one s (numbered_by ns p) v)
    ∙ ap (λ (b : Bool). is_flushed_verdict v || b) (offers_flushed s ns ps vs (let e : suc (length vs) ≡ suc (length ps) = long in omega arith))

-- the flags are looked at one after another
pub flag_next : (f : Verdict → Bool) (vs : List Verdict) (at : ℕ) (v : Verdict) → slice_get vs at ≡ Some v → list_any f (drop at vs) ≡ f v || list_any f (drop (suc at) vs)
flag_next f vs at v e =
    let d : drop at vs ≡ get_or vs at v ∷ drop (suc at) vs = drop-cons vs at v (slice_get_within vs at v e) in
    ap (list_any f) d ∙ ap (λ (x : Verdict). f x || list_any f (drop (suc at) vs)) (get_or_from_slice_get vs at v v e)

or_three : (a b c : Bool) → (a || b) || c ≡ a || (b || c)
or_three true b c = refl
or_three false b c = refl

pub flag_more : (f : Verdict → Bool) (vs : List Verdict) (at next : ℕ) (v : Verdict) (was now : Bool) → next ≡ suc at → slice_get vs at ≡ Some v → now ≡ f v → was || list_any f (drop at vs) ≡ list_any f vs → (was || now) || list_any f (drop next vs) ≡ list_any f vs
flag_more f vs at next v was now step e is looked =
    ap (λ (n : ℕ). (was || now) || list_any f (drop n vs)) step ∙ or_three was now (list_any f (drop (suc at) vs))
    ∙ ap (λ (b : Bool). was || (b || list_any f (drop (suc at) vs))) is ∙ ap (λ (b : Bool). was || b) (sym (flag_next f vs at v e)) ∙ looked

pub flag_last : (f : Verdict → Bool) (vs : List Verdict) (at : ℕ) → length vs ≤ at → list_any f (drop at vs) ≡ false
flag_last f vs at le = ap (list_any f) (drop_of_length-le vs le)

or_false : (a : Bool) → a || false ≡ a
or_false true = refl
or_false false = refl

pub flag_end : (f : Verdict → Bool) (vs : List Verdict) (at : ℕ) (was : Bool) → length vs ≤ at → was || list_any f (drop at vs) ≡ list_any f vs → was ≡ list_any f vs
flag_end f vs at was le looked = sym (or_false was) ∙ ap (λ (b : Bool). was || b) (sym (flag_last f vs at le)) ∙ looked

-- ---- packets that were offered, all that waited

module _ (old new : Sender) (number : number_of new ≡ number_of old) (numbers : port_numbers new.port ≡ port_numbers old.port) (none : waiting new ≡ []) where
  module _ (o : OffersMade old new (waiting old)) where
    pub keeps_offered : Keeps old new
    keeps_offered = record { number = number; grown = (o.more, o.added) }

    pub numbered_offered : AllNumbered old → AllNumbered new
    numbered_offered a = ap (list_any is_refused) o.added ∙ list_any-append is_refused (entries_of old) o.more ∙ ap (λ (b : Bool). b || list_any is_refused o.more) a ∙ none_refused (number_of old) (port_numbers old.port) (waiting old) o.more o.each

    with_entries : (entered : List Event) → AreEntriesOf (number_of old) (port_numbers old.port) entered (entries_of old) → AreEntriesOf (number_of new) (port_numbers new.port) (entered ++ map packet (waiting old)) (entries_of new)
    with_entries entered a =
        subst (λ (z : List Entry). AreEntriesOf (number_of new) (port_numbers new.port) (entered ++ map packet (waiting old)) z) (sym o.added)
        (subst (λ (n : ℕ). AreEntriesOf n (port_numbers new.port) (entered ++ map packet (waiting old)) (entries_of old ++ o.more)) (sym number)
        (subst (λ (ns : List ℕ). AreEntriesOf (number_of old) ns (entered ++ map packet (waiting old)) (entries_of old ++ o.more)) (sym numbers)
        (are_both (number_of old) (port_numbers old.port) entered (map packet (waiting old)) (entries_of old) o.more a o.each)))

    pub received_offered : Receives old new []
    received_offered given h = record {
      entered = h.entered ++ map packet (waiting old);
      parts = append-nil given ∙ h.parts ∙ sym (append-nil (h.entered ++ map packet (waiting old))) ∙ ap (λ (z : List Packet). (h.entered ++ map packet (waiting old)) ++ map packet z) (sym none);
      each = with_entries h.entered h.each;
    }

  -- the turns were spent
  pub lost_all : entries_of new ≡ entries_of old → ReceivesFront old new []
  lost_all same given h = record {
    front = h.entered;
    lost = map packet (waiting old);
    parts = append-nil given ∙ h.parts;
    holds = record {
      entered = h.entered;
      parts = sym (append-nil h.entered) ∙ ap (λ (z : List Packet). h.entered ++ map packet z) (sym none);
      each = subst (λ (z : List Entry). AreEntriesOf (number_of new) (port_numbers new.port) h.entered z) (sym same)
          (subst (λ (n : ℕ). AreEntriesOf n (port_numbers new.port) h.entered (entries_of old)) (sym number)
          (subst (λ (ns : List ℕ). AreEntriesOf (number_of old) ns h.entered (entries_of old)) (sym numbers) h.each));
    };
  }

-- the turn's entries are those of the packets
pub offers_made : (old new : Sender) (vs : List Verdict) → All (HasNumber (port_numbers old.port)) (waiting old) → length vs ≡ length (waiting old) → All (λ (v : Verdict). v ≢ V.Foreign) vs → entries_of new ≡ entries_of old ++ offers (number_of old) (map (numbered_by (port_numbers old.port)) (waiting old)) vs → OffersMade old new (waiting old)
offers_made old new vs has long known added = record {
  more = offers (number_of old) (map (numbered_by (port_numbers old.port)) (waiting old)) vs;
  added = added;
  each = offers_each (number_of old) (port_numbers old.port) (waiting old) vs has long known;
}

pub flushed_offered : (old new : Sender) (vs : List Verdict) (was now : Bool) → length vs ≡ length (waiting old) → entries_of new ≡ entries_of old ++ offers (number_of old) (map (numbered_by (port_numbers old.port)) (waiting old)) vs → was ≡ list_any is_flushed (entries_of old) → now ≡ list_any is_flushed_verdict vs → was || now ≡ list_any is_flushed (entries_of new)
flushed_offered old new vs was now long added w n =
    ap (λ (b : Bool). b || now) w ∙ ap (λ (b : Bool). list_any is_flushed (entries_of old) || b) (n ∙ sym (offers_flushed (number_of old) (port_numbers old.port) (waiting old) vs long))
    ∙ sym (ap (list_any is_flushed) added ∙ list_any-append is_flushed (entries_of old) (offers (number_of old) (map (numbered_by (port_numbers old.port)) (waiting old)) vs))

-- the same, of the batch that had them
pub batch_offered : (old new : Sender) (b : Contents) (vs : List Verdict) → old.batch ≡ Some b → All (HasNumber (port_numbers old.port)) (waiting old) → length vs ≡ length b.packets → All (λ (v : Verdict). v ≢ V.Foreign) vs → entries_of new ≡ entries_of old ++ offers (number_of old) (map (numbered_by (port_numbers old.port)) b.packets) vs → OffersMade old new (waiting old)
batch_offered old new b vs is has long known added =
    let w : b.packets ≡ waiting old = ap packets_in (sym is) in
    offers_made old new vs has (long ∙ ap length w) known (added ∙ ap (λ (ps : List Packet). entries_of old ++ offers (number_of old) (map (numbered_by (port_numbers old.port)) ps) vs) w)

pub batch_flushed : (old new : Sender) (b : Contents) (vs : List Verdict) (now : Bool) → old.batch ≡ Some b → length vs ≡ length b.packets → entries_of new ≡ entries_of old ++ offers (number_of old) (map (numbered_by (port_numbers old.port)) b.packets) vs → old.flushed ≡ list_any is_flushed (entries_of old) → now ≡ list_any is_flushed_verdict vs → old.flushed || now ≡ list_any is_flushed (entries_of new)
batch_flushed old new b vs now is long added was e =
    let w : b.packets ≡ waiting old = ap packets_in (sym is) in
    flushed_offered old new vs old.flushed now (long ∙ ap length w) (added ∙ ap (λ (ps : List Packet). entries_of old ++ offers (number_of old) (map (numbered_by (port_numbers old.port)) ps) vs) w) was e

-- ---- the sender

-- nothing waits
pub none_waits : (c : QueueCell) (s : Sender) → IsPortOf c s.port → waiting s ≡ [] → IsFresh s.batch → (s.batch ≡ None → is_worn (port_pass s.port) ≡ true) → s.flushed ≡ list_any is_flushed (entries_of s) → IsSender c s
none_waits c s port none fresh present flushed = record {
  port = port;
  few = (let e : length (waiting s) ≡ 0 = ap length none in omega arith);
  joined = subst (λ (z : List Packet). All (HasNumber (port_numbers s.port)) z) (sym none) (All-nil (HasNumber (port_numbers s.port)));
  fit = subst (λ (z : List Packet). All IsFitPacket z) (sym none) (All-nil IsFitPacket);
  fresh = fresh;
  present = present;
  flushed = flushed;
}

pub up_to : (m n : ℕ) (c : QueueCell) (s : Sender) → IsSenderWith m c s → length (waiting s) ≤ n → IsSenderWith n c s
up_to m n c s is few = record { port = is.port; few = few; joined = is.joined; fit = is.fit; fresh = is.fresh; present = is.present; flushed = is.flushed }

-- one more waits
pub one_more : (c : QueueCell) (a b : Sender) (p : Packet) → IsSender c a → b.port ≡ a.port → b.flushed ≡ a.flushed → IsFresh b.batch → waiting b ≡ waiting a ++ p ∷ [] → (b.batch ≡ None → a.batch ≡ None) → p.iface < length (port_numbers a.port) → IsFitPacket p → IsSenderWith 64 c b
one_more c a b p is port flushed fresh kept present joined fit = record {
  port = subst (IsPortOf c) (sym port) is.port;
  few = (let e : length (waiting b) ≡ length (waiting a) + 1 = ap length kept ∙ length-append (waiting a) (p ∷ []) in let f : length (waiting a) ≤ 63 = is.few in omega arith);
  joined = subst (λ (q : Port). All (HasNumber (port_numbers q)) (waiting b)) (sym port) (subst (λ (z : List Packet). All (HasNumber (port_numbers a.port)) z) (sym kept) (All-append (HasNumber (port_numbers a.port)) (waiting a) (p ∷ []) is.joined (All-cons (HasNumber (port_numbers a.port)) p [] joined (All-nil (HasNumber (port_numbers a.port))))));
  fit = subst (λ (z : List Packet). All IsFitPacket z) (sym kept) (All-append IsFitPacket (waiting a) (p ∷ []) is.fit (All-cons IsFitPacket p [] fit (All-nil IsFitPacket)));
  fresh = fresh;
  present = λ e. ap (λ (q : Port). is_worn (port_pass q)) port ∙ is.present (present e);
  flushed = flushed ∙ is.flushed ∙ ap (λ (q : Port). list_any is_flushed (mine (port_pass q))) (sym port);
}

-- ---- relations on what was given

pub received_none : (s : Sender) → Receives s s []
received_none s given h = subst (λ (z : List Event). Holds s z) (sym (append-nil given)) h

pub received_both : (a b c : Sender) (x y : List Event) → Receives a b x → Receives b c y → Receives a c (x ++ y)
received_both a b c x y p q given h = subst (λ (z : List Event). Holds c z) (append_assoc given x y) (q (given ++ x) (p given h))

-- what came behind is lost with what is lost
pub front_more : (a b : Sender) (x y : List Event) → ReceivesFront a b x → ReceivesFront a b (x ++ y)
front_more a b x y p given h = let f = p given h in record { front = f.front; lost = f.lost ++ y; parts = sym (append_assoc given x y) ∙ ap (λ (z : List Event). z ++ y) f.parts ∙ append_assoc f.front f.lost y; holds = f.holds }

pub front_both : (a b c : Sender) (x y : List Event) → Receives a b x → ReceivesFront b c y → ReceivesFront a c (x ++ y)
front_both a b c x y p q given h = subst (λ (z : List Event). HoldsFront c z) (append_assoc given x y) (q (given ++ x) (p given h))

pub front_all : (a b : Sender) (x : List Event) → Receives a b x → ReceivesFront a b x
front_all a b x p given h = record { front = given ++ x; lost = []; parts = sym (append-nil (given ++ x)); holds = p given h }

-- a packet waits behind the others
pub packet_waits : (a b : Sender) (p : Packet) → b.port ≡ a.port → waiting b ≡ waiting a ++ p ∷ [] → Receives a b (packet p ∷ [])
packet_waits a b p port batch given h = record {
  entered = h.entered;
  parts = ap (λ (z : List Event). z ++ packet p ∷ []) h.parts ∙ append_assoc h.entered (map packet (waiting a)) (packet p ∷ []) ∙ ap (λ (z : List Event). h.entered ++ z) (sym (map-append packet (waiting a) (p ∷ [])) ∙ ap (map packet) (sym batch));
  each = subst (λ (q : Port). AreEntriesOf (port_source q) (port_numbers q) h.entered (mine (port_pass q))) (sym port) h.each;
}

-- an interface was joined, and nothing waits
pub interface_joined : (a b : Sender) (i : Iface) (n : Option ℕ) → waiting a ≡ [] → waiting b ≡ [] → number_of b ≡ number_of a → (ms : List ℕ) → port_numbers b.port ≡ port_numbers a.port ++ ms → entries_of b ≡ entries_of a ++ E.Join (number_of a) i n ∷ [] → Receives a b (interface i ∷ [])
interface_joined a b i n none empty number ms numbers added given h = record {
  entered = h.entered ++ interface i ∷ [];
  parts = ap (λ (z : List Event). z ++ interface i ∷ []) (h.parts ∙ ap (λ (z : List Packet). h.entered ++ map packet z) none ∙ append-nil h.entered)
      ∙ sym (append-nil (h.entered ++ interface i ∷ [])) ∙ ap (λ (z : List Packet). (h.entered ++ interface i ∷ []) ++ map packet z) (sym empty);
  each = subst (λ (z : List Entry). AreEntriesOf (number_of b) (port_numbers b.port) (h.entered ++ interface i ∷ []) z) (sym added)
      (subst (λ (m : ℕ). AreEntriesOf m (port_numbers b.port) (h.entered ++ interface i ∷ []) (entries_of a ++ E.Join (number_of a) i n ∷ [])) (sym number)
      (subst (λ (ns : List ℕ). AreEntriesOf (number_of a) ns (h.entered ++ interface i ∷ []) (entries_of a ++ E.Join (number_of a) i n ∷ [])) (sym numbers)
      (are_both (number_of a) (port_numbers a.port ++ ms) h.entered (interface i ∷ []) (entries_of a) (E.Join (number_of a) i n ∷ [])
      (are_more (number_of a) (port_numbers a.port) ms h.entered (entries_of a) h.each) ((refl, refl), tt))));
}

-- nothing waited
pub still_empty : (a b : Sender) → b ≡ a → Receives a b []
still_empty a b e = subst (λ (z : Sender). Receives a z []) (sym e) (received_none a)

-- ---- what a call ensures is carried on

pub if_ok : {T E P Q : Type 0} → (r : Result T E) → (P → Q) → OnOk r P → OnOk r Q
if_ok (Ok x) f p = f p
if_ok (Err e) f p = tt

pub if_err : {T E P Q : Type 0} → (r : Result T E) → (P → Q) → OnErr r P → OnErr r Q
if_err (Ok x) f p = tt
if_err (Err e) f p = f p
