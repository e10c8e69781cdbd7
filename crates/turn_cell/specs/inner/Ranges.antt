-- How a list of entries is cut at a caller's number, and the longer of two lists.
use Rattle.std.specs.Prelude.{ℕ, List, [], ◌∷◌, cond, length}
use Rattle.std.proofs.Math.Dec.{ltb}

-- the entries of the callers below a number, and of the others
abbrev pub below : {E : Type 0} → ℕ → List (ℕ × E) → List (ℕ × E)
below n [] = []
below n (x ∷ xs) = cond (ltb x.0 n) (x ∷ below n xs) (below n xs)

abbrev pub above : {E : Type 0} → ℕ → List (ℕ × E) → List (ℕ × E)
above n [] = []
above n (x ∷ xs) = cond (ltb x.0 n) (above n xs) (x ∷ above n xs)

-- the longer of two
abbrev pub longer : {A : Type 0} → List A → List A → List A
longer xs ys = cond (ltb (length xs) (length ys)) ys xs
