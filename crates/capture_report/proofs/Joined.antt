-- The lines of the report, and what is said, put together.
use Rattle.std.proofs.Common.{◌≡◌, ◌≤◌, ◌<◌, ℕ, zero, suc, min, nat_le, Bool, true, false, List, [], ◌∷◌, ◌++◌, length, take, refl, sym, ap, ◌∙◌, arith}
use Rattle.std.specs.Prelude.{codes, decimal}
use Rattle.std.proofs.lemmas.List.{append_assoc}
use Rattle.std.proofs.lemmas.Bool.Decides.{nat_tests}
use Rattle.cap_base.specs.declared.counts.Counts.{Counts}
use Rattle.cap_base.specs.declared.interface.Iface.{Iface}
use Rattle.capture_report.specs.Report.{counts_text, interface_line}

-- a number, a name and counts
pub line_is : (n : ℕ) (i : Iface) (c : Counts) → (codes "interface " ++ (decimal n ++ codes " ")) ++ (i.name ++ counts_text c) ≡ interface_line n i c
unfolding interface_line
line_is n i c = ap (λ (xs : List ℕ). codes "interface " ++ xs) (append_assoc (decimal n) (codes " ") (i.name ++ counts_text c))

take_all : (n : ℕ) (xs : List ℕ) → length xs ≤ n → take n xs ≡ xs
take_all zero [] h = refl
take_all zero (x ∷ xs) h = absurd (omega arith)
take_all (suc n) [] h = refl
take_all (suc n) (x ∷ xs) h = ap (λ (ys : List ℕ). x ∷ ys) (take_all n xs (omega arith))

-- as many as there are, at most
pub take_least : (n k : ℕ) (xs : List ℕ) → k ≡ min (length xs) n → take k xs ≡ take n xs
take_least n k xs e = by (nat_le (length xs) n) refl
  where
    by : (t : Bool) → nat_le (length xs) n ≡ t → take k xs ≡ take n xs
    by true f = let le : length xs ≤ n = grind (arith, nat_tests) in let k_is : k ≡ length xs = omega arith in take_all k xs (omega arith) ∙ sym (take_all n xs le)
    by false f = let lt : n < length xs = grind (arith, nat_tests) in let k_is : k ≡ n = omega arith in ap (λ (j : ℕ). take j xs) k_is
