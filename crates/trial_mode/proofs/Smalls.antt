-- The packets of a trial are small, and no more were taken than were made.
use Rattle.std.proofs.Common.{◌≡◌, ℕ, ◌+◌, ◌<◌, ◌≤◌, ◌==◌, Bool, true, false, cond, Some, None, List, [], ◌∷◌, ◌++◌, length, map, take, drop, refl, sym, ap, ◌∙◌, subst, arith, length-append, ⊎_elim, eq-eqb}
use Rattle.std.specs.List.{All, filter, flat_map}
use Rattle.std.proofs.lemmas.List.{append-nil, take-append-drop}
use Rattle.std.proofs.lemmas.List.Elements.{All-append, All-cons, All-head, All-nil, All-tail}
use Rattle.cap_base.specs.Callers.{own}
use Rattle.cap_base.specs.Events.{Event, interface, packet}
use Rattle.cap_base.specs.Fates.{received, received_of, taken}
use Rattle.cap_base.specs.Histories.{History, answered, before_stop, each_after, has_end, has_stop, is_no_packet, item_of, items, line, packets}
use Rattle.cap_base.specs.declared.entries.Entry.{Entry}
use Rattle.cap_base.specs.declared.entries.Entry.TheVariants as E
use Rattle.cap_base.specs.declared.entries.Item.{Item}
use Rattle.cap_base.specs.declared.entries.Item.TheVariants as I
use Rattle.cap_base.specs.declared.entries.Verdict.{Verdict}
use Rattle.cap_base.specs.declared.entries.Verdict.TheVariants as V
use Rattle.cap_base.specs.declared.packet.Packet.{Packet}
use Rattle.cap_base.proofs.Lines.{line_going, line_stopped, packets-append}
use Rattle.source_thread.specs.Told.{AreEntriesOf}
use Rattle.cap_make.proofs.Readings.{IsMade}
use Rattle.trial_mode.proofs.Lengths.{IsSmall}
use Rattle.trial_mode.proofs.Totals.{IsOfSome}

-- ---- some of the packets

front_small : (xs ys : List Packet) → All IsSmall (xs ++ ys) → All IsSmall xs
front_small [] ys w = All-nil IsSmall
front_small (x ∷ xs) ys w = All-cons IsSmall x xs (All-head IsSmall x (xs ++ ys) w) (front_small xs ys (All-tail IsSmall x (xs ++ ys) w))

rest_small : (xs ys : List Packet) → All IsSmall (xs ++ ys) → All IsSmall ys
rest_small [] ys w = w
rest_small (x ∷ xs) ys w = rest_small xs ys (All-tail IsSmall x (xs ++ ys) w)

-- where these are small, those are, and they are no more
pub record Within (xs ys : List Packet) : Type 0 where
  pub small : All IsSmall ys → All IsSmall xs
  pub few : length xs ≤ length ys

within_none : (ys : List Packet) → Within [] ys
within_none ys = record { small = λ w. All-nil IsSmall; few = omega arith }

within_both : (xs ys vs ws : List Packet) → Within xs ys → Within vs ws → Within (xs ++ vs) (ys ++ ws)
within_both xs ys vs ws p q = record {
  small = λ w. All-append IsSmall xs vs (p.small (front_small ys ws w)) (q.small (rest_small ys ws w));
  few = let a : length (xs ++ vs) ≡ length xs + length vs = length-append xs vs in let b : length (ys ++ ws) ≡ length ys + length ws = length-append ys ws in let c : length xs ≤ length ys = p.few in let d : length vs ≤ length ws = q.few in omega arith;
}

within_all : (xs ys : List Packet) → xs ≡ ys → Within xs ys
within_all xs ys q = record { small = λ w. subst (All IsSmall) (sym q) w; few = let a : length xs ≡ length ys = ap length q in omega arith }

within_through : (xs ys zs : List Packet) → Within xs ys → Within ys zs → Within xs zs
within_through xs ys zs p q = record { small = λ w. p.small (q.small w); few = let a : length xs ≤ length ys = p.few in let b : length ys ≤ length zs = q.few in omega arith }

within_front : (xs ys : List Packet) → Within xs (xs ++ ys)
within_front xs ys = record { small = front_small xs ys; few = let a : length (xs ++ ys) ≡ length xs + length ys = length-append xs ys in omega arith }

-- ---- what was taken

one_within : (before : History) (by : ℕ) (e : Entry) → Within (packets (item_of before by e)) (received_of e)
one_within before by (E.Join s i (Some n)) = within_none []
one_within before by (E.Join s i None) = within_none []
one_within before by (E.Offer s p V.Accepted) = within_all (p ∷ []) (p ∷ []) refl
one_within before by (E.Offer s p V.AtLimit) = within_none (p ∷ [])
one_within before by (E.Offer s p V.Flushed) = within_none (p ∷ [])
one_within before by (E.Offer s p V.Foreign) = within_none []
one_within before by (E.End s how) = go (has_end (own by before)) where
  go : (b : Bool) → Within (packets (cond b [] (I.Ended s how ∷ []))) []
  go true = within_none []
  go false = within_none []
one_within before by (E.Take now t) = within_none []
one_within before by (E.Tally now cs) = within_none []
one_within before by (E.Stop why l) = within_none []

items_within : (before xs : History) → Within (packets (each_after (λ g x. item_of g x.0 x.1) before xs)) (received xs)
items_within before [] = within_none []
items_within before (x ∷ xs) = within_through (packets (item_of before x.0 x.1 ++ each_after (λ g y. item_of g y.0 y.1) (before ++ x ∷ []) xs)) (packets (item_of before x.0 x.1) ++ packets (each_after (λ g y. item_of g y.0 y.1) (before ++ x ∷ []) xs)) (received_of x.1 ++ received xs)
    (within_all _ _ (packets-append (item_of before x.0 x.1) (each_after (λ g y. item_of g y.0 y.1) (before ++ x ∷ []) xs)))
    (within_both (packets (item_of before x.0 x.1)) (received_of x.1) (packets (each_after (λ g y. item_of g y.0 y.1) (before ++ x ∷ []) xs)) (received xs) (one_within before x.0 x.1) (items_within (before ++ x ∷ []) xs))

take_within : (k : ℕ) (is : List Item) → Within (packets (take k is)) (packets is)
take_within k is = subst (Within (packets (take k is))) (sym (packets-append (take k is) (drop k is)) ∙ ap packets (take-append-drop k is)) (within_front (packets (take k is)) (packets (drop k is)))

no_packets : (is : List Item) → packets (filter is_no_packet is) ≡ []
no_packets [] = refl
no_packets (I.Iface k i ∷ is) = no_packets is
no_packets (I.Packet p ∷ is) = no_packets is
no_packets (I.Ended s how ∷ is) = no_packets is

line_within : (h : History) → Within (packets (line h)) (packets (items h))
line_within h = go (has_stop h) refl where
  go : (b : Bool) → has_stop h ≡ b → Within (packets (line h)) (packets (items h))
  go false q = within_all (packets (line h)) (packets (items h)) (ap packets (line_going h q))
  go true q = let k : ℕ = answered (before_stop h) in within_through (packets (line h)) (packets (take k (items h))) (packets (items h))
      (within_all (packets (line h)) (packets (take k (items h))) (ap packets (line_stopped h q) ∙ packets-append (take k (items h)) (filter is_no_packet (drop k (items h))) ∙ ap (λ (z : List Packet). packets (take k (items h)) ++ z) (no_packets (drop k (items h))) ∙ append-nil (packets (take k (items h)))))
      (take_within k (items h))

-- the packets that were taken are among those that were received
pub taken_within : (h : History) → Within (taken h) (received h)
taken_within h = within_through (taken h) (packets (line h)) (received h) (take_within (answered h) (line h)) (within_through (packets (line h)) (packets (items h)) (received h) (line_within h) (items_within [] h))

-- ---- what was received

-- each packet among events is small
abbrev pub AreSmall : List Event → Type 0
AreSmall [] = Unit {0}
AreSmall (interface i ∷ es) = AreSmall es
AreSmall (packet p ∷ es) = IsSmall p × AreSmall es

pub offers_small : (s : ℕ) (numbers : List ℕ) (events : List Event) (entries : List Entry) → AreEntriesOf s numbers events entries → AreSmall events → All IsSmall (flat_map received_of entries)
offers_small s numbers [] [] w a = All-nil IsSmall
offers_small s numbers [] (e ∷ es) w a = absurd w
offers_small s numbers (ev ∷ evs) [] w a = absurd w
offers_small s numbers (interface i ∷ evs) (E.Join by j n ∷ es) w a = offers_small s numbers evs es w.1 a
offers_small s numbers (interface i ∷ evs) (E.Offer by q v ∷ es) w a = absurd w.0
offers_small s numbers (interface i ∷ evs) (E.End by how ∷ es) w a = absurd w.0
offers_small s numbers (interface i ∷ evs) (E.Take now t ∷ es) w a = absurd w.0
offers_small s numbers (interface i ∷ evs) (E.Tally now cs ∷ es) w a = absurd w.0
offers_small s numbers (interface i ∷ evs) (E.Stop why l ∷ es) w a = absurd w.0
offers_small s numbers (packet p ∷ evs) (E.Offer by q v ∷ es) w a = All-append IsSmall (received_of (E.Offer by q v)) (flat_map received_of es) (go v) (offers_small s numbers evs es w.1 a.1) where
  small : IsSmall q
  small = subst IsSmall (sym w.0.2) (record { body = a.0.body; notes = a.0.notes })

  one : All IsSmall (q ∷ [])
  one = All-cons IsSmall q [] small (All-nil IsSmall)

  go : (v : Verdict) → All IsSmall (received_of (E.Offer by q v))
  go V.Accepted = one
  go V.AtLimit = one
  go V.Flushed = one
  go V.Foreign = All-nil IsSmall
offers_small s numbers (packet p ∷ evs) (E.Join by j n ∷ es) w a = absurd w.0
offers_small s numbers (packet p ∷ evs) (E.End by how ∷ es) w a = absurd w.0
offers_small s numbers (packet p ∷ evs) (E.Take now t ∷ es) w a = absurd w.0
offers_small s numbers (packet p ∷ evs) (E.Tally now cs ∷ es) w a = absurd w.0
offers_small s numbers (packet p ∷ evs) (E.Stop why l ∷ es) w a = absurd w.0

-- those of the generator are
pub made_small : (ps : List Packet) → All IsMade ps → AreSmall (map packet ps)
made_small [] w = tt
made_small (p ∷ ps) w = let m = All-head IsMade p ps w in (record { body = m.body; notes = m.notes }, made_small ps (All-tail IsMade p ps w))

-- what each source offered is all that was received
own_tail : (s : ℕ) (x : ℕ × Entry) (h : History) → All IsSmall (flat_map received_of (own s (x ∷ h))) → All IsSmall (flat_map received_of (own s h))
own_tail s x h = go (x.0 == s) where
  go : (b : Bool) → All IsSmall (flat_map received_of (cond b (x.1 ∷ own s h) (own s h))) → All IsSmall (flat_map received_of (own s h))
  go true w = rest_small (received_of x.1) (flat_map received_of (own s h)) w
  go false w = w

own_head : (s : ℕ) (x : ℕ × Entry) (h : History) → x.0 ≡ s → All IsSmall (flat_map received_of (own s (x ∷ h))) → All IsSmall (received_of x.1)
own_head s x h q = go (x.0 == s) (eq-eqb x.0 s q) where
  go : (b : Bool) → b ≡ true → All IsSmall (flat_map received_of (cond b (x.1 ∷ own s h) (own s h))) → All IsSmall (received_of x.1)
  go true e w = front_small (received_of x.1) (flat_map received_of (own s h)) w
  go false e w = cc

pub received_small : (n : ℕ) (h : History) → All (IsOfSome n) h → ((s : ℕ) → s < n → All IsSmall (flat_map received_of (own s h))) → All IsSmall (received h)
received_small n [] o w = All-nil IsSmall
received_small n (x ∷ h) o w = All-append IsSmall (received_of x.1) (received h)
    (⊎_elim (λ (lt : x.0 < n). own_head x.0 x h refl (w x.0 lt)) (λ (q : received_of x.1 ≡ []). subst (All IsSmall) (sym q) (All-nil IsSmall)) (All-head (IsOfSome n) x h o))
    (received_small n h (All-tail (IsOfSome n) x h o) (λ s lt. own_tail s x h (w s lt)))
