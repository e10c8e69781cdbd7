-- Entries of events, one list behind another.
use Rattle.std.proofs.Common.{◌≡◌, ℕ, ◌+◌, ◌<◌, false, List, [], ◌∷◌, ◌++◌, length, map, refl, sym, ap, ◌∙◌, arith, Some, None, length-append}
use Rattle.std.specs.List.{slice_get, list_any}
use Rattle.std.proofs.lemmas.Option.{slice_get_within, slice_get-get_or}
use Rattle.std.proofs.lemmas.List.{get_or_append_left}
use Rattle.cap_base.specs.Events.{Event, interface, packet}
use Rattle.cap_base.specs.declared.packet.Packet.{Packet}
use Rattle.cap_base.specs.declared.entries.Entry.{Entry}
use Rattle.cap_base.specs.declared.entries.Entry.TheVariants as E
use Rattle.packet_queue.specs.Ends.{joined_numbers}
use Rattle.source_thread.specs.Told.{IsEntryOf, AreEntriesOf, is_refused}
use Rattle.source_thread.specs.inner.Readers.{interfaces}

pub are_length : (s : ℕ) (ns : List ℕ) (evs : List Event) (es : List Entry) → AreEntriesOf s ns evs es → length es ≡ length evs
are_length s ns [] [] a = refl
are_length s ns (ev ∷ evs) (e ∷ es) a = let r : length es ≡ length evs = are_length s ns evs es a.1 in omega arith
are_length s ns [] (e ∷ es) a = absurd a
are_length s ns (ev ∷ evs) [] a = absurd a

pub are_both : (s : ℕ) (ns : List ℕ) (a b : List Event) (x y : List Entry) → AreEntriesOf s ns a x → AreEntriesOf s ns b y → AreEntriesOf s ns (a ++ b) (x ++ y)
are_both s ns [] b [] y p q = q
are_both s ns (ev ∷ a) b (e ∷ x) y p q = (p.0, are_both s ns a b x y p.1 q)
are_both s ns [] b (e ∷ x) y p q = absurd p
are_both s ns (ev ∷ a) b [] y p q = absurd p

-- numbers that come later change nothing
same_place : (ns ms : List ℕ) (i : ℕ) → i < length ns → slice_get (ns ++ ms) i ≡ slice_get ns i
same_place ns ms i lt =
    slice_get-get_or (ns ++ ms) i 0 (let e : length (ns ++ ms) ≡ length ns + length ms = length-append ns ms in omega arith)
    ∙ ap (λ (n : ℕ). Some n) (get_or_append_left ns ms 0 i lt) ∙ sym (slice_get-get_or ns i 0 lt)

is_more : (s : ℕ) (ns ms : List ℕ) (ev : Event) (e : Entry) → IsEntryOf s ns ev e → IsEntryOf s (ns ++ ms) ev e
is_more s ns ms (interface i) (E.Join by j n) p = p
is_more s ns ms (packet x) (E.Offer by q v) p = (p.0, same_place ns ms x.iface (slice_get_within ns x.iface q.iface p.1) ∙ p.1, p.2, p.3)
is_more s ns ms (interface i) (E.Offer by q v) p = absurd p
is_more s ns ms (interface i) (E.End by h) p = absurd p
is_more s ns ms (interface i) (E.Take n t) p = absurd p
is_more s ns ms (interface i) (E.Tally n t) p = absurd p
is_more s ns ms (interface i) (E.Stop w l) p = absurd p
is_more s ns ms (packet x) (E.Join by j n) p = absurd p
is_more s ns ms (packet x) (E.End by h) p = absurd p
is_more s ns ms (packet x) (E.Take n t) p = absurd p
is_more s ns ms (packet x) (E.Tally n t) p = absurd p
is_more s ns ms (packet x) (E.Stop w l) p = absurd p

pub are_more : (s : ℕ) (ns ms : List ℕ) (evs : List Event) (es : List Entry) → AreEntriesOf s ns evs es → AreEntriesOf s (ns ++ ms) evs es
are_more s ns ms [] [] a = a
are_more s ns ms (ev ∷ evs) (e ∷ es) a = (is_more s ns ms ev e a.0, are_more s ns ms evs es a.1)
are_more s ns ms [] (e ∷ es) a = absurd a
are_more s ns ms (ev ∷ evs) [] a = absurd a

-- the entries of packets are no Joins
pub none_refused : (s : ℕ) (ns : List ℕ) (ps : List Packet) (es : List Entry) → AreEntriesOf s ns (map packet ps) es → list_any is_refused es ≡ false
none_refused s ns [] [] a = refl
none_refused s ns [] (e ∷ es) a = absurd a
none_refused s ns (p ∷ ps) [] a = absurd a
none_refused s ns (p ∷ ps) (E.Offer by q v ∷ es) a = none_refused s ns ps es a.1
none_refused s ns (p ∷ ps) (E.Join by j n ∷ es) a = absurd a.0
none_refused s ns (p ∷ ps) (E.End by h ∷ es) a = absurd a.0
none_refused s ns (p ∷ ps) (E.Take n t ∷ es) a = absurd a.0
none_refused s ns (p ∷ ps) (E.Tally n t ∷ es) a = absurd a.0
none_refused s ns (p ∷ ps) (E.Stop w l ∷ es) a = absurd a.0

-- where each Join got a number, there are as many numbers as interfaces
pub as_many : (s : ℕ) (ns : List ℕ) (evs : List Event) (es : List Entry) → AreEntriesOf s ns evs es → list_any is_refused es ≡ false → length (joined_numbers es) ≡ interfaces evs
as_many s ns [] [] a f = refl
as_many s ns [] (e ∷ es) a f = absurd a
as_many s ns (ev ∷ evs) [] a f = absurd a
as_many s ns (interface i ∷ evs) (E.Join by j (Some n) ∷ es) a f = let r : length (joined_numbers es) ≡ interfaces evs = as_many s ns evs es a.1 f in omega arith
as_many s ns (interface i ∷ evs) (E.Join by j None ∷ es) a f = absurd cc
as_many s ns (packet p ∷ evs) (E.Offer by q v ∷ es) a f = as_many s ns evs es a.1 f
as_many s ns (interface i ∷ evs) (E.Offer by q v ∷ es) a f = absurd a.0
as_many s ns (interface i ∷ evs) (E.End by h ∷ es) a f = absurd a.0
as_many s ns (interface i ∷ evs) (E.Take n t ∷ es) a f = absurd a.0
as_many s ns (interface i ∷ evs) (E.Tally n t ∷ es) a f = absurd a.0
as_many s ns (interface i ∷ evs) (E.Stop w l ∷ es) a f = absurd a.0
as_many s ns (packet p ∷ evs) (E.Join by j n ∷ es) a f = absurd a.0
as_many s ns (packet p ∷ evs) (E.End by h ∷ es) a f = absurd a.0
as_many s ns (packet p ∷ evs) (E.Take n t ∷ es) a f = absurd a.0
as_many s ns (packet p ∷ evs) (E.Tally n t ∷ es) a f = absurd a.0
as_many s ns (packet p ∷ evs) (E.Stop w l ∷ es) a f = absurd a.0
