-- Messages one after another are read in one way.
use Rattle.std.proofs.Common.{◌≡◌, ℕ, zero, suc, drop, ◌+◌, ◌<◌, ◌≤◌, ◌/◌, ◌%◌, ◌^◌, Option, Some, List, [], ◌∷◌, ◌++◌, length, refl, sym, ap, ◌∙◌, arith, length-append}
use Rattle.std.specs.Fmt.{decimal}
use Rattle.std.specs.Str.Parse.{digits_value}
use Rattle.std.proofs.lemmas.Fmt.{decimal_is_IsNumeral}
use Rattle.sync_pipe.specs.Texts.{IsSayable, ended, framed, kind_of, body_text, message_text}
use Rattle.sync_pipe.specs.declared.said.Said.{Said}
use Rattle.sync_pipe.specs.declared.said.Said.TheVariants.{File, Count, Drops, Error}
use Rattle.capture_core.specs.Views.{count_after, file_after}

heads : {A : Type 0} (x y : A) (xs ys : List A) → x ∷ xs ≡ y ∷ ys → (x ≡ y) × (xs ≡ ys)
heads x y xs ys e = (cc, cc)

-- lists of one length in front of others
same_length : (xs ys rs ss : List ℕ) → length xs ≡ length ys → xs ++ rs ≡ ys ++ ss → (xs ≡ ys) × (rs ≡ ss)
same_length [] [] rs ss l e = (refl, e)
same_length [] (y ∷ ys) rs ss l e = absurd (omega arith)
same_length (x ∷ xs) [] rs ss l e = absurd (omega arith)
same_length (x ∷ xs) (y ∷ ys) rs ss l e = let h = heads x y (xs ++ rs) (ys ++ ss) e in let w = same_length xs ys rs ss (omega arith) h.1 in
    (ap (λ (z : ℕ). z ∷ xs) h.0 ∙ ap (λ (z : List ℕ). y ∷ z) w.0, w.1)

by_digits : (m n : ℕ) → m / 65536 ≡ n / 65536 → m / 256 % 256 ≡ n / 256 % 256 → m % 256 ≡ n % 256 → m ≡ n
by_digits m n a b c = omega arith

pub frames : (k l : ℕ) (b c rs ss : List ℕ) → framed k b ++ rs ≡ framed l c ++ ss → (k ≡ l) × (b ≡ c) × (rs ≡ ss)
unfolding framed
frames k l b c rs ss e = let h = heads k l _ _ e in let h1 = heads (length b / 65536) (length c / 65536) _ _ h.1 in let h2 = heads (length b / 256 % 256) (length c / 256 % 256) _ _ h1.1 in let h3 = heads (length b % 256) (length c % 256) (b ++ rs) (c ++ ss) h2.1 in
    let w = same_length b c rs ss (by_digits (length b) (length c) h1.0 h2.0 h3.0) h3.1 in (h.0, w.0, w.1)

pub texts : (m n : Said) (rs ss : List ℕ) → message_text m ++ rs ≡ message_text n ++ ss → (kind_of m ≡ kind_of n) × (body_text m ≡ body_text n) × (rs ≡ ss)
unfolding message_text
texts m n rs ss e = frames (kind_of m) (kind_of n) (body_text m) (body_text n) rs ss e

pub some_text : (m : Said) → 0 < length (message_text m)
unfolding message_text framed
some_text m = omega arith

-- a final zero
unended : (xs ys : List ℕ) → ended xs ≡ ended ys → xs ≡ ys
unfolding ended
unended xs ys e = let a : length (xs ++ 0 ∷ []) ≡ length (ys ++ 0 ∷ []) = ap length e in let b : length (xs ++ 0 ∷ []) ≡ length xs + 1 = length-append xs (0 ∷ []) in let c : length (ys ++ 0 ∷ []) ≡ length ys + 1 = length-append ys (0 ∷ []) in
    (same_length xs ys (0 ∷ []) (0 ∷ []) (omega arith) e).0

-- messages that name and count the same
pub record AreAlike (m n : Said) : Type 0 where
  pub file : (f : Option (List ℕ)) → file_after f m ≡ file_after f n
  pub count : (c : ℕ) → count_after c m ≡ count_after c n

-- a count that a message can hold
abbrev pub IsSmall : Said → Type 0
IsSmall (Count n) = n < 2 ^ 64
IsSmall other = Unit {0}

same_count : (m n : ℕ) → m < 2 ^ 64 → n < 2 ^ 64 → decimal m ≡ decimal n → m ≡ n
same_count m n a b e = sym (decimal_is_IsNumeral m a).1 ∙ ap (digits_value 10) e ∙ (decimal_is_IsNumeral n b).1

-- messages with one text
pub alike : (m n : Said) → IsSmall m → IsSmall n → kind_of m ≡ kind_of n → body_text m ≡ body_text n → AreAlike m n
unfolding body_text
alike (File a) (File b) x y k e = let q : a ≡ b = unended a b e in record { file = λ f. ap (λ (z : List ℕ). Some z) q; count = λ c. refl }
alike (Count a) (Count b) x y k e = let q : a ≡ b = same_count a b x y (unended (decimal a) (decimal b) e) in record { file = λ f. refl; count = λ c. ap (λ (z : ℕ). c + z) q }
alike (Drops a b) (Drops c d) x y k e = record { file = λ f. refl; count = λ c. refl }
alike (Drops a b) (Error c d) x y k e = record { file = λ f. refl; count = λ c. refl }
alike (Error a b) (Drops c d) x y k e = record { file = λ f. refl; count = λ c. refl }
alike (Error a b) (Error c d) x y k e = record { file = λ f. refl; count = λ c. refl }
alike (File a) (Count b) x y k e = absurd (omega arith)
alike (File a) (Drops b c) x y k e = absurd (omega arith)
alike (File a) (Error b c) x y k e = absurd (omega arith)
alike (Count a) (File b) x y k e = absurd (omega arith)
alike (Count a) (Drops b c) x y k e = absurd (omega arith)
alike (Count a) (Error b c) x y k e = absurd (omega arith)
alike (Drops a b) (File c) x y k e = absurd (omega arith)
alike (Drops a b) (Count c) x y k e = absurd (omega arith)
alike (Error a b) (File c) x y k e = absurd (omega arith)
alike (Error a b) (Count c) x y k e = absurd (omega arith)

-- something is left of a list behind fewer than it has
pub some_left : (n : ℕ) (xs : List ℕ) → n < length xs → 0 < length (drop n xs)
some_left zero xs lt = lt
some_left (suc n) [] lt = absurd (omega arith)
some_left (suc n) (x ∷ xs) lt = some_left n xs (omega arith)

pub small_sayable : (m : Said) → IsSayable m → IsSmall m
small_sayable (File name) s = tt
small_sayable (Count n) s = let a : n ≤ 1000000000000 = s.parts in omega arith
small_sayable (Drops n name) s = tt
small_sayable (Error a b) s = tt
