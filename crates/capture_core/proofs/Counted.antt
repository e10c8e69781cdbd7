-- Each Tally counts all interfaces that were taken before it.
use Rattle.std.proofs.Common.{◌≡◌, ◌≢◌, ℕ, zero, suc, ◌+◌, ◌≤◌, Bool, true, false, cond, Some, None, List, [], ◌∷◌, ◌++◌, length, take, drop, refl, sym, ap, ◌∙◌, subst, arith, append_assoc, length-append, ⊎_elim}
use Rattle.std.specs.List.{filter, flat_map, range_with_len}
use Rattle.std.proofs.lemmas.List.{append-nil, take-append-drop, length-map}
use Rattle.std.proofs.lemmas.Bool.{cases_eq}
use Rattle.cap_base.specs.Callers.{own}
use Rattle.cap_base.specs.Histories.{History, due, answer_of, answered, before_stop, each_after, has_end, has_stop, is_no_packet, item_of, items, line, struck_out}
use Rattle.cap_base.specs.Fates.{counts, count_of, owners, owner_of}
use Rattle.cap_base.specs.Legal.{Legal}
use Rattle.cap_base.proofs.Legals.{legal_front}
use Rattle.cap_base.proofs.Lines.{own_here, own_else, line_going, line_stopped}
use Rattle.cap_base.proofs.Written.{answers_line}
use Rattle.cap_base.specs.declared.counts.Counts.{Counts}
use Rattle.cap_base.specs.declared.limits.Limits.{Limits}
use Rattle.cap_base.specs.declared.entries.Item.{Item}
use Rattle.cap_base.specs.declared.entries.Item.TheVariants as I
use Rattle.cap_base.specs.declared.entries.Taken.TheVariants as T
use Rattle.cap_base.specs.declared.entries.Verdict.TheVariants as V
use Rattle.cap_base.specs.declared.entries.Entry.{Entry}
use Rattle.cap_base.specs.declared.entries.Entry.TheVariants as E
use Rattle.capture_desk.specs.Past.{Past, nothing, ◌▹◌, is_own, past, past_from}
use Rattle.capture_desk.specs.Files.{ifaces}
use Rattle.capture_desk.proofs.Replayed.{own_push, others_push}
use Rattle.capture_core.specs.Writers.{writers_past}

-- ---- items

-- how many interfaces there are
abbrev ifaces_in : List Item → ℕ
ifaces_in [] = 0
ifaces_in (I.Iface k i ∷ is) = ifaces_in is + 1
ifaces_in (I.Packet p ∷ is) = ifaces_in is
ifaces_in (I.Ended s how ∷ is) = ifaces_in is

ifaces_both : (xs ys : List Item) → ifaces_in (xs ++ ys) ≡ ifaces_in xs + ifaces_in ys
ifaces_both [] ys = omega arith
ifaces_both (I.Iface k i ∷ xs) ys = let a : ifaces_in (xs ++ ys) ≡ ifaces_in xs + ifaces_in ys = ifaces_both xs ys in omega arith
ifaces_both (I.Packet p ∷ xs) ys = ifaces_both xs ys
ifaces_both (I.Ended s how ∷ xs) ys = ifaces_both xs ys

kept_ifaces : (xs : List Item) → ifaces_in (filter is_no_packet xs) ≡ ifaces_in xs
kept_ifaces [] = refl
kept_ifaces (I.Iface k i ∷ xs) = ap (λ (z : ℕ). z + 1) (kept_ifaces xs)
kept_ifaces (I.Packet p ∷ xs) = kept_ifaces xs
kept_ifaces (I.Ended s how ∷ xs) = kept_ifaces xs

split_ifaces : (k : ℕ) (xs : List Item) → ifaces_in (take k xs) + ifaces_in (drop k xs) ≡ ifaces_in xs
split_ifaces k xs = sym (ifaces_both (take k xs) (drop k xs)) ∙ ap ifaces_in (take-append-drop k xs)

struck_ifaces : (k : ℕ) (xs : List Item) → ifaces_in (struck_out k xs) ≡ ifaces_in xs
struck_ifaces k xs = ifaces_both (take k xs) (filter is_no_packet (drop k xs)) ∙ ap (λ (z : ℕ). ifaces_in (take k xs) + z) (kept_ifaces (drop k xs)) ∙ split_ifaces k xs

line_ifaces : (h : History) → ifaces_in (line h) ≡ ifaces_in (items h)
line_ifaces h = go (has_stop h) refl where
  go : (b : Bool) → has_stop h ≡ b → ifaces_in (line h) ≡ ifaces_in (items h)
  go true q = ap ifaces_in (line_stopped h q) ∙ struck_ifaces (answered (before_stop h)) (items h)
  go false q = ap ifaces_in (line_going h q)

-- an entry adds as many interfaces as owners
one_item : (before : History) (by : ℕ) (e : Entry) → ifaces_in (item_of before by e) ≡ length (owner_of e)
one_item before by (E.Join s i (Some k)) = refl
one_item before by (E.Join s i None) = refl
one_item before by (E.Offer s p V.Accepted) = refl
one_item before by (E.Offer s p V.AtLimit) = refl
one_item before by (E.Offer s p V.Flushed) = refl
one_item before by (E.Offer s p V.Foreign) = refl
one_item before by (E.End s how) = go (has_end (own by before)) where
  go : (c : Bool) → ifaces_in (cond c [] (I.Ended s how ∷ [])) ≡ 0
  go true = refl
  go false = refl
one_item before by (E.Take now t) = refl
one_item before by (E.Tally now cs) = refl
one_item before by (E.Stop why l) = refl

each_item : (before xs : History) → ifaces_in (each_after (λ g x. item_of g x.0 x.1) before xs) ≡ length (owners xs)
each_item before [] = refl
each_item before (x ∷ xs) = ifaces_both (item_of before x.0 x.1) (each_after (λ g y. item_of g y.0 y.1) (before ++ x ∷ []) xs)
    ∙ ap (λ (z : ℕ). z + ifaces_in (each_after (λ g y. item_of g y.0 y.1) (before ++ x ∷ []) xs)) (one_item before x.0 x.1)
    ∙ ap (λ (z : ℕ). length (owner_of x.1) + z) (each_item (before ++ x ∷ []) xs) ∙ sym (length-append (owner_of x.1) (owners xs))

-- ---- what was taken

taken_ifaces : (start : Past) (es : List Entry) → length (ifaces (past_from start es)) ≡ length (ifaces start) + ifaces_in (flat_map answer_of es)
taken_ifaces start [] = omega arith
taken_ifaces start (E.Take now (T.Item (I.Iface k i)) ∷ es) = let a : length (ifaces (past_from (start ▹ E.Take now (T.Item (I.Iface k i))) es)) ≡ length (ifaces start ++ i ∷ []) + ifaces_in (flat_map answer_of es) = taken_ifaces (start ▹ E.Take now (T.Item (I.Iface k i))) es in
    let b : length (ifaces start ++ i ∷ []) ≡ length (ifaces start) + 1 = length-append (ifaces start) (i ∷ []) in omega arith
taken_ifaces start (E.Take now (T.Item (I.Packet p)) ∷ es) = taken_ifaces (start ▹ E.Take now (T.Item (I.Packet p))) es
taken_ifaces start (E.Take now (T.Item (I.Ended s how)) ∷ es) = taken_ifaces (start ▹ E.Take now (T.Item (I.Ended s how))) es
taken_ifaces start (E.Take now T.Empty ∷ es) = taken_ifaces (start ▹ E.Take now T.Empty) es
taken_ifaces start (E.Take now T.Done ∷ es) = taken_ifaces (start ▹ E.Take now T.Done) es
taken_ifaces start (E.Tally now cs ∷ es) = taken_ifaces (start ▹ E.Tally now cs) es
taken_ifaces start (E.Stop why l ∷ es) = taken_ifaces (start ▹ E.Stop why l) es
taken_ifaces start (E.Join s i n ∷ es) = taken_ifaces start es
taken_ifaces start (E.Offer s p v ∷ es) = taken_ifaces start es
taken_ifaces start (E.End s how ∷ es) = taken_ifaces start es

numbered : (from len : ℕ) → length (range_with_len from len) ≡ len
numbered from zero = refl
numbered from (suc len) = ap (λ (z : ℕ). suc z) (numbered (from + 1) len)

few_taken : (limits : Limits) (n : ℕ) (h : History) → Legal limits n h → length (ifaces (writers_past n h)) ≤ length (counts h)
few_taken limits n h legal = let a : length (ifaces (writers_past n h)) ≡ 0 + ifaces_in (flat_map answer_of (own n h)) = taken_ifaces nothing (own n h) in
    let b : ifaces_in (flat_map answer_of (own n h)) ≡ ifaces_in (take (answered h) (line h)) = ap ifaces_in ((answers_line limits n h legal).answers) in
    let c : ifaces_in (take (answered h) (line h)) + ifaces_in (drop (answered h) (line h)) ≡ ifaces_in (line h) = split_ifaces (answered h) (line h) in
    let d : ifaces_in (line h) ≡ length (owners h) = line_ifaces h ∙ each_item [] h in
    let e : length (counts h) ≡ length (owners h) = length-map (range_with_len 0 (length (owners h))) (count_of h) ∙ numbered 0 (length (owners h)) in omega arith

-- where nothing is due, all of them were taken
pub all_taken : (limits : Limits) (n : ℕ) (h : History) → Legal limits n h → due h ≡ [] → length (ifaces (writers_past n h)) ≡ length (counts h)
all_taken limits n h legal none = let a : length (ifaces (writers_past n h)) ≡ 0 + ifaces_in (flat_map answer_of (own n h)) = taken_ifaces nothing (own n h) in
    let b : ifaces_in (flat_map answer_of (own n h)) ≡ ifaces_in (take (answered h) (line h)) = ap ifaces_in ((answers_line limits n h legal).answers) in
    let c : ifaces_in (take (answered h) (line h)) + ifaces_in (drop (answered h) (line h)) ≡ ifaces_in (line h) = split_ifaces (answered h) (line h) in
    let d : ifaces_in (line h) ≡ length (owners h) = line_ifaces h ∙ each_item [] h in
    let e : length (counts h) ≡ length (owners h) = length-map (range_with_len 0 (length (owners h))) (count_of h) ∙ numbered 0 (length (owners h)) in
    let f : ifaces_in (drop (answered h) (line h)) ≡ 0 = ap ifaces_in none in omega arith

-- ---- the Tallies

-- each of them has counts for all interfaces that were taken before it
abbrev pub AreCounted : Past → Type 0
AreCounted nothing = Unit {0}
AreCounted (before ▹ E.Tally now cs) = AreCounted before × (length (ifaces before) ≤ length cs)
AreCounted (before ▹ other) = AreCounted before

module _ (limits : Limits) (n : ℕ) (h : History) (legal : Legal limits n h) where
  one_more : (f t : History) (e : Entry) → h ≡ (f ++ (n, e) ∷ []) ++ t → is_own e ≡ true → AreCounted (writers_past n f) → AreCounted (writers_past n f ▹ e)
  one_more f t (E.Take now a) q o w = w
  one_more f t (E.Tally now cs) q o w = (
    w,
    subst (λ (z : List Counts). length (ifaces (writers_past n f)) ≤ length z) (sym (legal f n (E.Tally now cs) t q).1)
        (few_taken limits n f (legal_front limits n f ((n, E.Tally now cs) ∷ t) (subst (Legal limits n) (q ∙ append_assoc f ((n, E.Tally now cs) ∷ []) t) legal))),
  )
  one_more f t (E.Stop why l) q o w = w
  one_more f t (E.Join s i m) q o w = cc
  one_more f t (E.Offer s p v) q o w = cc
  one_more f t (E.End s how) q o w = cc

  next : (f t : History) (by : ℕ) (e : Entry) → h ≡ (f ++ (by, e) ∷ []) ++ t → AreCounted (writers_past n f) → AreCounted (writers_past n (f ++ (by, e) ∷ []))
  next f t by e q w = ⊎_elim mine (λ (ne : by ≢ n). subst (λ (es : List Entry). AreCounted (past es)) (sym (own_else n by f e ne)) w) (cases_eq by n) where
    adds : (b : Bool) → is_own e ≡ b → h ≡ (f ++ (n, e) ∷ []) ++ t → AreCounted (past (own n f ++ e ∷ []))
    adds true o r = subst AreCounted (sym (own_push nothing (own n f) e o)) (one_more f t e r o w)
    adds false o r = subst AreCounted (sym (others_push nothing (own n f) e o)) w

    mine : by ≡ n → AreCounted (writers_past n (f ++ (by, e) ∷ []))
    mine is = subst (λ (z : ℕ). AreCounted (writers_past n (f ++ (z, e) ∷ []))) (sym is) (subst (λ (es : List Entry). AreCounted (past es)) (sym (own_here n f e)) (adds (is_own e) refl (subst (λ (z : ℕ). h ≡ (f ++ (z, e) ∷ []) ++ t) is q)))

  pub are_counted : AreCounted (writers_past n h)
  are_counted = go [] h refl tt where
    go : (f t : History) → h ≡ f ++ t → AreCounted (writers_past n f) → AreCounted (writers_past n h)
    go f [] q w = subst (λ (z : History). AreCounted (writers_past n z)) (sym (q ∙ append-nil f)) w
    go f (x ∷ t) q w = go (f ++ x ∷ []) t (q ∙ sym (append_assoc f (x ∷ []) t)) (next f t x.0 x.1 (q ∙ sym (append_assoc f (x ∷ []) t)) w)
