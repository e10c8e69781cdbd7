-- One packet more.
use Rattle.std.proofs.Common.{◌≡◌, ℕ, suc, ◌+◌, ◌%◌, ◌==◌, Bool, true, false, List, [], ◌∷◌, ◌++◌, length, map, refl, ap, sym, ◌∙◌, arith}
use Rattle.std.specs.List.{filter, range_with_len}
use Rattle.std.proofs.lemmas.List.{map-append, append-nil}
use Rattle.std.proofs.lemmas.List.Elements.{filter-append}
use Rattle.std.proofs.lemmas.List.FromFn.{length-map-range_with_len, map-range_with_len_more}
use Rattle.std.proofs.Math.Numerals.{suc-eq-add-one}
use Rattle.cap_base.specs.declared.packet.Packet.{Packet}
use Rattle.cap_make.specs.Generator.{after, number_at, byte_at, body_of, packet_at, packets_of}

pub body_none : (k : ℕ) → body_of k 0 ≡ []
unfolding body_of
body_none k = refl

pub body_more : (k n : ℕ) → body_of k (n + 1) ≡ body_of k n ++ byte_at k n ∷ []
unfolding body_of
body_more k n = map-range_with_len_more (byte_at k) 0 n n (omega arith)

pub length_body : (k n : ℕ) → length (body_of k n) ≡ n
unfolding body_of
length_body k n = length-map-range_with_len (byte_at k) 0 n

pub number_none : (start : ℕ) → number_at start 0 ≡ start
unfolding number_at
number_none start = refl

number_suc : (start k : ℕ) → number_at start (suc k) ≡ after (number_at start k)
unfolding number_at
number_suc start k = refl

pub number_more : (start k : ℕ) → number_at start (k + 1) ≡ after (number_at start k)
number_more start k = ap (number_at start) (sym (suc-eq-add-one k)) ∙ number_suc start k

map_same : (xs : List ℕ) → map (λ (x : ℕ). x) xs ≡ xs
map_same [] = refl
map_same (x ∷ xs) = ap (λ (l : List ℕ). x ∷ l) (map_same xs)

-- the numbers below k, and k
numbers_more : (k : ℕ) → range_with_len 0 (k + 1) ≡ range_with_len 0 k ++ k ∷ []
numbers_more k = sym (map_same (range_with_len 0 (k + 1))) ∙ map-range_with_len_more (λ (x : ℕ). x) 0 k k (omega arith) ∙ ap (λ (l : List ℕ). l ++ k ∷ []) (map_same (range_with_len 0 k))

-- of one number more
chosen_more : (p : ℕ → Bool) (f : ℕ → Packet) (k : ℕ) → map f (filter p (range_with_len 0 (k + 1))) ≡ map f (filter p (range_with_len 0 k)) ++ map f (filter p (k ∷ []))
chosen_more p f k =
    ap (λ (l : List ℕ). map f (filter p l)) (numbers_more k)
    ∙ ap (map f) (filter-append p (range_with_len 0 k) (k ∷ []))
    ∙ map-append f (filter p (range_with_len 0 k)) (filter p (k ∷ []))

one_chosen : (p : ℕ → Bool) (f : ℕ → Packet) (k : ℕ) → p k ≡ true → map f (filter p (k ∷ [])) ≡ f k ∷ []
one_chosen p f k is = rw is refl

none_chosen : (p : ℕ → Bool) (f : ℕ → Packet) (k : ℕ) → p k ≡ false → map f (filter p (k ∷ [])) ≡ []
none_chosen p f k is = rw is refl

pub packets_none : (start sources which : ℕ) → packets_of start sources 0 which ≡ []
unfolding packets_of
packets_none start sources which = refl

pub packets_more : (start sources k which : ℕ) → (k % sources == which) ≡ true → packets_of start sources (k + 1) which ≡ packets_of start sources k which ++ packet_at start k ∷ []
unfolding packets_of
packets_more start sources k which is =
    let p = λ (n : ℕ). n % sources == which in
    chosen_more p (packet_at start) k ∙ ap (λ (l : List Packet). map (packet_at start) (filter p (range_with_len 0 k)) ++ l) (one_chosen p (packet_at start) k is)

pub packets_other : (start sources k which : ℕ) → (k % sources == which) ≡ false → packets_of start sources (k + 1) which ≡ packets_of start sources k which
unfolding packets_of
packets_other start sources k which is =
    let p = λ (n : ℕ). n % sources == which in
    chosen_more p (packet_at start) k
    ∙ ap (λ (l : List Packet). map (packet_at start) (filter p (range_with_len 0 k)) ++ l) (none_chosen p (packet_at start) k is)
    ∙ append-nil (map (packet_at start) (filter p (range_with_len 0 k)))
