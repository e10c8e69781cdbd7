-- The settings of a trial are lawful.
use Rattle.std.proofs.Common.{◌≡◌, ℕ, zero, suc, ◌+◌, ◌<◌, ◌≤◌, ◌^◌, List, [], ◌∷◌, ◌++◌, length, None, refl, ap, arith, length-append}
use Rattle.std.specs.Prelude.{codes, decimal}
use Rattle.std.specs.List.{All}
use Rattle.std.proofs.lemmas.List.Elements.{All-append, All-cons, All-nil}
use Rattle.cap_base.specs.declared.limits.TheConstants.{MAX_NAME_LEN, MAX_SOURCES}
use Rattle.cap_base.specs.Lawful.{IsGivenAbove0, IsLawfulName, AreLawful}
use Rattle.capture_report.proofs.Zeros.{none_in_both, none_in_decimal, decimal_is_short}
use Rattle.cap_outside.specs.declared.source.SureSource.{SureSource}
use Rattle.cap_outside.specs.declared.opened.Opened.{Opened}
use Rattle.trial_mode.specs.Streams.{Streams, source_name, source_names, trial_settings}
use Rattle.trial_mode.specs.inner.Opened.{AreOpened}

pub length_names : (n : ℕ) → length (source_names n) ≡ n
length_names zero = refl
length_names (suc n) = let a : length (source_names n ++ source_name n ∷ []) ≡ length (source_names n) + 1 = length-append (source_names n) (source_name n ∷ []) in let b : length (source_names n) ≡ n = length_names n in omega arith

name_is_short : (n : ℕ) → n < 2 ^ 64 → length (source_name n) ≤ 21
name_is_short n h = let a : length (codes "s" ++ decimal n) ≡ 1 + length (decimal n) = length-append (codes "s") (decimal n) in let b : length (decimal n) ≤ 20 = decimal_is_short n h in omega arith

lawful_name : (n : ℕ) → n < 2 ^ 64 → IsLawfulName (source_name n)
lawful_name n h = let few : length (source_name n) ≤ 21 = name_is_short n h in record { some = let a : length (codes "s" ++ decimal n) ≡ 1 + length (decimal n) = length-append (codes "s") (decimal n) in omega arith; few = omega arith; without_zero = none_in_both (codes "s") (decimal n) refl (none_in_decimal n h) }

lawful_names : (n : ℕ) → n ≤ 64 → All IsLawfulName (source_names n)
lawful_names zero h = All-nil IsLawfulName
lawful_names (suc n) h = All-append IsLawfulName (source_names n) (source_name n ∷ []) (lawful_names n (omega arith)) (All-cons IsLawfulName (source_name n) [] (lawful_name n (omega arith)) (All-nil IsLawfulName))

not_given : IsGivenAbove0 None
not_given = λ n e. cc

pub lawful : (n : ℕ) → 1 ≤ n → n ≤ MAX_SOURCES → AreLawful (trial_settings n)
lawful n some few = let q : length (source_names n) ≡ n = length_names n in record {
  some_sources = omega arith;
  few_sources = omega arith;
  sources = lawful_names n few;
  output = record { some = omega arith; few = omega arith; without_zero = refl };
  limits = record { some_packets = omega arith; few_packets = omega arith };
  stop = record { packets = not_given; bytes = not_given; nanos = not_given; files = not_given };
  switch = record { packets = not_given; bytes = not_given; nanos = not_given; interval = not_given; keep = not_given };
  snap = λ n e. cc;
}

-- the names of the sources aren't too long
pub short_names : (streams : Streams) (n : ℕ) (os : List (Opened SureSource)) → n + length os ≤ 64 → AreOpened streams n os → All (λ (o : Opened SureSource). length o.name ≤ MAX_NAME_LEN) os
short_names streams n [] h w = All-nil (λ (o : Opened SureSource). length o.name ≤ MAX_NAME_LEN)
short_names streams n (o ∷ os) h w = All-cons (λ (o : Opened SureSource). length o.name ≤ MAX_NAME_LEN) o os (let a : length (source_name n) ≤ 21 = name_is_short n (omega arith) in let b : length o.name ≡ length (source_name n) = ap length w.0.name in omega arith) (short_names streams (n + 1) os (omega arith) w.1)
