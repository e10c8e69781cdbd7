-- Sums over numbers, and packets that are counted by interface or by source.
use Rattle.std.proofs.Common.{◌≡◌, ◌≢◌, ◌⊎◌, ℕ, zero, suc, ◌+◌, ◌%◌, ◌<◌, ◌≤◌, ◌==◌, Bool, true, false, cond, List, [], ◌∷◌, ◌++◌, length, map, refl, sym, ap, ◌∙◌, subst, arith, ⊎_elim, eq-eqb, ne_eqb, length-append}
use Rattle.std.specs.List.{All, filter, flat_map, range_with_len, sum_by}
use Rattle.std.proofs.lemmas.Bool.{cases_eq}
use Rattle.std.proofs.lemmas.List.Elements.{All-head, All-tail}
use Rattle.std.proofs.lemmas.List.FromFn.{length-range_with_len}
use Rattle.std.proofs.lemmas.List.Sums.{sum_by-cons}
use Rattle.std.proofs.lemmas.Nat.{mod_below}
use Rattle.cap_base.specs.Callers.{own}
use Rattle.cap_base.specs.declared.entries.Entry.{Entry}
use Rattle.cap_base.specs.declared.limits.Limits.{Limits}
use Rattle.cap_base.specs.declared.packet.Packet.{Packet}
use Rattle.cap_base.specs.Fates.{count_of, counts, dropped, flushed, of, owners, received, received_of, written}
use Rattle.cap_base.specs.Histories.{History, standing}
use Rattle.cap_base.specs.Legal.{Legal}
use Rattle.cap_base.proofs.Fated.{fates}
use Rattle.cap_base.proofs.Legals.{numbers}
use Rattle.trial_mode.specs.Sums.{accounted_by, accounted_in}

-- ---- sums over numbers

-- of so many numbers from a first one on
abbrev pub total : (ℕ → ℕ) → ℕ → ℕ → ℕ
total f a zero = 0
total f a (suc len) = f a + total f (a + 1) len

pub total_same : (f g : ℕ → ℕ) (a len : ℕ) → ((k : ℕ) → a ≤ k → k < a + len → f k ≡ g k) → total f a len ≡ total g a len
total_same f g a zero e = refl
total_same f g a (suc len) e = let x : f a ≡ g a = e a (omega arith) (omega arith) in let y : total f (a + 1) len ≡ total g (a + 1) len = total_same f g (a + 1) len (λ k lo hi. e k (omega arith) (omega arith)) in omega arith

total_both : (f g : ℕ → ℕ) (a len : ℕ) → total (λ k. f k + g k) a len ≡ total f a len + total g a len
total_both f g a zero = refl
total_both f g a (suc len) = let y : total (λ k. f k + g k) (a + 1) len ≡ total f (a + 1) len + total g (a + 1) len = total_both f g (a + 1) len in omega arith

total_none : (a len : ℕ) → total (λ k. 0) a len ≡ 0
total_none a zero = refl
total_none a (suc len) = let y : total (λ k. 0) (a + 1) len ≡ 0 = total_none (a + 1) len in omega arith

-- one number alone counts
abbrev at_one : ℕ → ℕ → ℕ → ℕ
at_one i c k = cond (i == k) c 0

at_other : (i c a len : ℕ) → i < a → total (at_one i c) a len ≡ 0
at_other i c a zero lt = refl
at_other i c a (suc len) lt = let x : at_one i c a ≡ 0 = ap (λ (b : Bool). cond b c 0) (ne_eqb i a (omega arith)) in let y : total (at_one i c) (a + 1) len ≡ 0 = at_other i c (a + 1) len (omega arith) in omega arith

at_this : (i c a len : ℕ) → a ≤ i → i < a + len → total (at_one i c) a len ≡ c
at_this i c a zero lo hi = absurd (omega arith)
at_this i c a (suc len) lo hi = ⊎_elim
    (λ (is : i ≡ a). let x : at_one i c a ≡ c = ap (λ (b : Bool). cond b c 0) (eq-eqb i a is) in let y : total (at_one i c) (a + 1) len ≡ 0 = at_other i c (a + 1) len (omega arith) in omega arith)
    (λ (ne : i ≢ a). let x : at_one i c a ≡ 0 = ap (λ (b : Bool). cond b c 0) (ne_eqb i a ne) in let y : total (at_one i c) (a + 1) len ≡ c = at_this i c (a + 1) len (omega arith) (omega arith) in omega arith) (cases_eq i a)

at_none : (i a len : ℕ) → total (at_one i 0) a len ≡ 0
at_none i a len = total_same (at_one i 0) (λ k. 0) a len (λ k lo hi. either (i == k) 0) ∙ total_none a len where
  either : (b : Bool) (z : ℕ) → cond b z z ≡ z
  either true z = refl
  either false z = refl

-- ---- packets by interface

of_one : (k : ℕ) (p : Packet) (ps : List Packet) → of k (p ∷ ps) ≡ at_one p.iface 1 k + of k ps
of_one k p ps = sum_by-cons (λ (q : Packet). cond (q.iface == k) 1 0) p ps

by_interface : (m : ℕ) (ps : List Packet) → All (λ (p : Packet). p.iface < m) ps → total (λ k. of k ps) 0 m ≡ length ps
by_interface m [] w = total_none 0 m
by_interface m (p ∷ ps) w = total_same (λ k. of k (p ∷ ps)) (λ k. at_one p.iface 1 k + of k ps) 0 m (λ k lo hi. of_one k p ps) ∙ total_both (at_one p.iface 1) (λ k. of k ps) 0 m
    ∙ (let lt : p.iface < m = All-head (λ (q : Packet). q.iface < m) p ps w in let a : total (at_one p.iface 1) 0 m ≡ 1 = at_this p.iface 1 0 m (omega arith) (omega arith) in
    let b : total (λ k. of k ps) 0 m ≡ length ps = by_interface m ps (All-tail (λ (q : Packet). q.iface < m) p ps w) in omega arith)

-- the counts of the interfaces from one on
sum_of_counts : (h : History) (a len : ℕ) → sum_by accounted_by (map (count_of h) (range_with_len a len)) ≡ total (λ k. accounted_by (count_of h k)) a len
sum_of_counts h a zero = refl
sum_of_counts h a (suc len) = let x : sum_by accounted_by (count_of h a ∷ map (count_of h) (range_with_len (a + 1) len)) ≡ accounted_by (count_of h a) + sum_by accounted_by (map (count_of h) (range_with_len (a + 1) len)) = sum_by-cons accounted_by (count_of h a) (map (count_of h) (range_with_len (a + 1) len)) in
    let y : sum_by accounted_by (map (count_of h) (range_with_len (a + 1) len)) ≡ total (λ k. accounted_by (count_of h k)) (a + 1) len = sum_of_counts h (a + 1) len in omega arith

of_none : (k : ℕ) (ps : List Packet) → ps ≡ [] → of k ps ≡ 0
of_none k ps q = ap (of k) q

-- where nothing stands, all received packets are accounted for
pub accounted_are_received : (limits : Limits) (n : ℕ) (h : History) → Legal limits n h → standing h ≡ [] → accounted_in (counts h) ≡ length (received h)
accounted_are_received limits n h legal none = sum_of_counts h 0 (length (owners h)) ∙ total_same (λ k. accounted_by (count_of h k)) (λ k. of k (received h)) 0 (length (owners h)) (λ k lo hi. each k) ∙ by_interface (length (owners h)) (received h) (numbers limits n h legal) where
  each : (k : ℕ) → accounted_by (count_of h k) ≡ of k (received h)
  each k = let a : of k (received h) ≡ of k (dropped h) + (of k (flushed h) + (of k (written h) + of k (standing h))) = fates (λ (p : Packet). p.iface == k) h in
      let b : of k (standing h) ≡ 0 = of_none k (standing h) none in omega arith

-- ---- packets by source

-- an entry is of one of the first so many callers, or offers no packet
abbrev pub IsOfSome : ℕ → ℕ × Entry → Type 0
IsOfSome n x = (x.0 < n) ⊎ (received_of x.1 ≡ [])

abbrev pub received_from : History → ℕ → ℕ
received_from h s = length (flat_map received_of (own s h))

from_one : (s : ℕ) (x : ℕ × Entry) (h : History) → received_from (x ∷ h) s ≡ at_one x.0 (length (received_of x.1)) s + received_from h s
from_one s x h = go (x.0 == s) where
  go : (b : Bool) → length (flat_map received_of (cond b (x.1 ∷ own s h) (own s h))) ≡ cond b (length (received_of x.1)) 0 + received_from h s
  go true = length-append (received_of x.1) (flat_map received_of (own s h))
  go false = let z : ℕ = received_from h s in omega arith

pub by_source : (n : ℕ) (h : History) → All (IsOfSome n) h → total (received_from h) 0 n ≡ length (received h)
by_source n [] w = total_none 0 n
by_source n (x ∷ h) w = total_same (received_from (x ∷ h)) (λ s. at_one x.0 (length (received_of x.1)) s + received_from h s) 0 n (λ s lo hi. from_one s x h) ∙ total_both (at_one x.0 (length (received_of x.1))) (received_from h) 0 n
    ∙ (let a : total (at_one x.0 (length (received_of x.1))) 0 n ≡ length (received_of x.1) = ⊎_elim (λ (lt : x.0 < n). at_this x.0 (length (received_of x.1)) 0 n (omega arith) (omega arith))
    (λ (q : received_of x.1 ≡ []). let z : length (received_of x.1) ≡ 0 = ap length q in subst (λ (c : ℕ). total (at_one x.0 c) 0 n ≡ c) (sym z) (at_none x.0 0 n)) (All-head (IsOfSome n) x h w) in
    let b : total (received_from h) 0 n ≡ length (received h) = by_source n h (All-tail (IsOfSome n) x h w) in let c : length (received_of x.1 ++ received h) ≡ length (received_of x.1) + length (received h) = length-append (received_of x.1) (received h) in omega arith)

-- ---- numbers by their remainder

remainder_one : (n k s : ℕ) (ks : List ℕ) → length (filter (λ (j : ℕ). j % n == s) (k ∷ ks)) ≡ at_one (k % n) 1 s + length (filter (λ (j : ℕ). j % n == s) ks)
remainder_one n k s ks = go (k % n == s) where
  go : (b : Bool) → length (cond b (k ∷ filter (λ (j : ℕ). j % n == s) ks) (filter (λ (j : ℕ). j % n == s) ks)) ≡ cond b 1 0 + length (filter (λ (j : ℕ). j % n == s) ks)
  go true = let z : ℕ = length (filter (λ (j : ℕ). j % n == s) ks) in omega arith
  go false = let z : ℕ = length (filter (λ (j : ℕ). j % n == s) ks) in omega arith

by_remainder : (n : ℕ) (ks : List ℕ) → 1 ≤ n → total (λ s. length (filter (λ (j : ℕ). j % n == s) ks)) 0 n ≡ length ks
by_remainder n [] some = total_none 0 n
by_remainder n (k ∷ ks) some = total_same (λ s. length (filter (λ (j : ℕ). j % n == s) (k ∷ ks))) (λ s. at_one (k % n) 1 s + length (filter (λ (j : ℕ). j % n == s) ks)) 0 n (λ s lo hi. remainder_one n k s ks)
    ∙ total_both (at_one (k % n) 1) (λ s. length (filter (λ (j : ℕ). j % n == s) ks)) 0 n
    ∙ (let lt : k % n < n = mod_below k n some in let a : total (at_one (k % n) 1) 0 n ≡ 1 = at_this (k % n) 1 0 n (omega arith) (omega arith) in
    let b : total (λ s. length (filter (λ (j : ℕ). j % n == s) ks)) 0 n ≡ length ks = by_remainder n ks some in omega arith)

-- each of the numbers has one remainder
pub all_remainders : (n packets : ℕ) → 1 ≤ n → total (λ s. length (filter (λ (j : ℕ). j % n == s) (range_with_len 0 packets))) 0 n ≡ packets
all_remainders n packets some = by_remainder n (range_with_len 0 packets) some ∙ length-range_with_len 0 packets
