-- Texts without a zero byte, and decimal numbers.
use Rattle.std.proofs.Common.{◌≡◌, ◌≤◌, ◌<◌, ℕ, ◌+◌, ◌%◌, ◌^◌, ◌==◌, ◌||◌, Bool, true, false, List, [], ◌∷◌, ◌++◌, length, take, drop, refl, sym, ap, ◌∙◌, arith}
use Rattle.std.proofs.lemmas.Bool.Decides.{nat_tests}
use Rattle.std.proofs.lemmas.List.{take-append-drop}
use Rattle.std.proofs.lemmas.List.Folds.{list_any-append}
use Rattle.std.proofs.lemmas.Fmt.{decimal_by_steps, length-decimal-le}
use Rattle.std.specs.Fmt.{decimal}
use Rattle.sync_pipe.specs.Texts.{has_zero}

or_none : (a b : Bool) → a ≡ false → b ≡ false → (a || b) ≡ false
or_none a b e f = rw (e, f) refl

pub none_in_both : (xs ys : List ℕ) → has_zero xs ≡ false → has_zero ys ≡ false → has_zero (xs ++ ys) ≡ false
none_in_both xs ys e f = list_any-append (λ b. b == 0) xs ys ∙ or_none (has_zero xs) (has_zero ys) e f

or_left : (a b : Bool) → (a || b) ≡ false → a ≡ false
or_left true b e = e
or_left false b e = refl

or_right : (a b : Bool) → (a || b) ≡ false → b ≡ false
or_right true b e = cc
or_right false b e = e

pub none_in_front : (xs ys : List ℕ) → has_zero (xs ++ ys) ≡ false → has_zero xs ≡ false
none_in_front xs ys e = or_left (has_zero xs) (has_zero ys) (sym (list_any-append (λ b. b == 0) xs ys) ∙ e)

pub none_behind : (xs ys : List ℕ) → has_zero (xs ++ ys) ≡ false → has_zero ys ≡ false
none_behind xs ys e = or_right (has_zero xs) (has_zero ys) (sym (list_any-append (λ b. b == 0) xs ys) ∙ e)

pub none_in_take : (n : ℕ) (xs : List ℕ) → has_zero xs ≡ false → has_zero (take n xs) ≡ false
none_in_take n xs e = none_in_front (take n xs) (drop n xs) (ap has_zero (take-append-drop n xs) ∙ e)

pub none_in_drop : (n : ℕ) (xs : List ℕ) → has_zero xs ≡ false → has_zero (drop n xs) ≡ false
none_in_drop n xs e = none_behind (take n xs) (drop n xs) (ap has_zero (take-append-drop n xs) ∙ e)

pub above_zero : (k : ℕ) → 1 ≤ k → (k == 0) ≡ false
above_zero k h = grind (arith, nat_tests)

one_digit : (n : ℕ) → has_zero ((48 + n) ∷ []) ≡ false
one_digit n = or_none (48 + n == 0) false (above_zero (48 + n) (omega arith)) refl

pub none_in_decimal : (n : ℕ) → n < 2 ^ 64 → has_zero (decimal n) ≡ false
none_in_decimal n h = decimal_by_steps (λ k ds. has_zero ds ≡ false) (λ k lt. one_digit k) (λ k ds le is. none_in_both ds ((48 + k % 10) ∷ []) is (one_digit (k % 10))) n h

pub decimal_is_short : (n : ℕ) → n < 2 ^ 64 → length (decimal n) ≤ 20
decimal_is_short n h = length-decimal-le 20 n (omega arith) (omega arith) h
