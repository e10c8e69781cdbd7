-- The entries of one caller, in a history that is cut at a caller's number.
use Rattle.std.proofs.Common.{◌≡◌, ◌≢◌, ℕ, ◌<◌, ◌≤◌, Bool, cond, eqb, List, [], ◌∷◌, refl, sym, ap, ◌∙◌, ne_eqb, arith}
use native.Mathlib.Decide.{dec_lt}
use Rattle.turn_cell.specs.History.{own}
use Rattle.turn_cell.specs.inner.Ranges.{above, below}
use Rattle.std.proofs.lemmas.Bool.{lt-ltb, le-ltb}
use Rattle.turn_cell.proofs.Numbers.{le_of_not_lt}

module _ {E : Type 0} where
  -- an entry of another caller
  skips : (n : ℕ) (x : ℕ × E) (xs : List (ℕ × E)) → x.0 ≢ n → own n (x ∷ xs) ≡ own n xs
  skips n x xs ne = ap (λ (b : Bool). cond b (x.1 ∷ own n xs) (own n xs)) (ne_eqb x.0 n ne)

  -- the same entry before two histories
  keeps_first : (n : ℕ) (x : ℕ × E) (xs ys : List (ℕ × E)) → own n xs ≡ own n ys → own n (x ∷ xs) ≡ own n (x ∷ ys)
  keeps_first n x xs ys e = ap (λ (zs : List E). cond (eqb x.0 n) (x.1 ∷ zs) zs) e

  -- an entry below the place
  below_yes : (at : ℕ) (x : ℕ × E) (xs : List (ℕ × E)) → x.0 < at → below at (x ∷ xs) ≡ x ∷ below at xs
  below_yes at x xs lt = ap (λ (b : Bool). cond b (x ∷ below at xs) (below at xs)) (lt-ltb x.0 at lt)

  -- and one that is not
  below_no : (at : ℕ) (x : ℕ × E) (xs : List (ℕ × E)) → at ≤ x.0 → below at (x ∷ xs) ≡ below at xs
  below_no at x xs le = ap (λ (b : Bool). cond b (x ∷ below at xs) (below at xs)) (le-ltb x.0 at le)

  -- an entry above the place
  above_yes : (at : ℕ) (x : ℕ × E) (xs : List (ℕ × E)) → at ≤ x.0 → above at (x ∷ xs) ≡ x ∷ above at xs
  above_yes at x xs le = ap (λ (b : Bool). cond b (above at xs) (x ∷ above at xs)) (le-ltb x.0 at le)

  -- and one that is not
  above_no : (at : ℕ) (x : ℕ × E) (xs : List (ℕ × E)) → x.0 < at → above at (x ∷ xs) ≡ above at xs
  above_no at x xs lt = ap (λ (b : Bool). cond b (above at xs) (x ∷ above at xs)) (lt-ltb x.0 at lt)

  -- a caller below the place keeps its entries
  pub own-below : (at n : ℕ) (h : List (ℕ × E)) → n < at → own n (below at h) ≡ own n h
  own-below at n [] lt = refl
  own-below at n (x ∷ xs) lt = go (dec_lt x.0 at) (own-below at n xs lt) where
    go : Dec (x.0 < at) → own n (below at xs) ≡ own n xs → own n (below at (x ∷ xs)) ≡ own n (x ∷ xs)
    go (yes y) e = ap (own n) (below_yes at x xs y) ∙ keeps_first n x (below at xs) xs e
    go (no y) e = let a : ℕ = x.0 in let le : at ≤ a = le_of_not_lt x.0 at y in ap (own n) (below_no at x xs le) ∙ e ∙ sym (skips n x xs (λ z. let z' : a ≡ n = z in omega arith))

  -- and another has none there
  pub own-below_none : (at n : ℕ) (h : List (ℕ × E)) → at ≤ n → own n (below at h) ≡ []
  own-below_none at n [] le = refl
  own-below_none at n (x ∷ xs) le = go (dec_lt x.0 at) (own-below_none at n xs le) where
    go : Dec (x.0 < at) → own n (below at xs) ≡ [] → own n (below at (x ∷ xs)) ≡ []
    go (yes y) e = let a : ℕ = x.0 in let lt : a < at = y in ap (own n) (below_yes at x xs y) ∙ skips n x (below at xs) (λ z. let z' : a ≡ n = z in omega arith) ∙ e
    go (no y) e = ap (own n) (below_no at x xs (le_of_not_lt x.0 at y)) ∙ e

  -- a caller above the place keeps its entries
  pub own-above : (at n : ℕ) (h : List (ℕ × E)) → at ≤ n → own n (above at h) ≡ own n h
  own-above at n [] le = refl
  own-above at n (x ∷ xs) le = go (dec_lt x.0 at) (own-above at n xs le) where
    go : Dec (x.0 < at) → own n (above at xs) ≡ own n xs → own n (above at (x ∷ xs)) ≡ own n (x ∷ xs)
    go (yes y) e = let a : ℕ = x.0 in let lt : a < at = y in ap (own n) (above_no at x xs y) ∙ e ∙ sym (skips n x xs (λ z. let z' : a ≡ n = z in omega arith))
    go (no y) e = ap (own n) (above_yes at x xs (le_of_not_lt x.0 at y)) ∙ keeps_first n x (above at xs) xs e

  -- and another has none there
  pub own-above_none : (at n : ℕ) (h : List (ℕ × E)) → n < at → own n (above at h) ≡ []
  own-above_none at n [] lt = refl
  own-above_none at n (x ∷ xs) lt = go (dec_lt x.0 at) (own-above_none at n xs lt) where
    go : Dec (x.0 < at) → own n (above at xs) ≡ [] → own n (above at (x ∷ xs)) ≡ []
    go (yes y) e = ap (own n) (above_no at x xs y) ∙ e
    go (no y) e = let a : ℕ = x.0 in let le : at ≤ a = le_of_not_lt x.0 at y in ap (own n) (above_yes at x xs le) ∙ skips n x (above at xs) (λ z. let z' : a ≡ n = z in omega arith) ∙ e
