-- The test of options, one option at a time.
use Rattle.std.proofs.Common.{◌≡◌, ℕ, zero, suc, ◌+◌, ◌<◌, ◌≤◌, true, false, List, length, drop, slice_range, refl, ap, subst, ◌∙◌, arith, drop-drop}
use Rattle.std.proofs.lemmas.List.{length-drop}
use Rattle.std.proofs.lemmas.Bool.{eq-eqb, ne_eqb}
use Rattle.cap_base.specs.declared.numbers.Order.TheVariants.{Little}
use Rattle.pcapng_options.specs.declared.front.Front.{Front}
use Rattle.pcapng_options.specs.declared.front.Front.TheVariants as front
use Rattle.pcapng_options.specs.Reading.{option_front, whole_length}
use Rattle.pcapng_options.proofs.Fronts.{whole_option}
use Rattle.pcapng_grammar.specs.Options.{are_zero, is_end_mark, options_and_end_by, are_options_and_end, are_options}

-- whole options were tested up to a place
pub record HasTested (bytes : List ℕ) (at : ℕ) : Type 0 where
  pub steps : ℕ
  pub enough : length (drop at bytes) < steps
  pub left : are_options bytes ≡ are_options_and_end steps (drop at bytes)

pub marked_step : (n : ℕ) (text : List ℕ) (f : Front) → option_front Little text ≡ f → are_options_and_end (suc n) text ≡ options_and_end_by f text (λ others. are_options_and_end n others)
unfolding are_options_and_end
marked_step n text f is = rw is refl

pub none_are_options : (text : List ℕ) → length text ≡ 0 → are_options text ≡ true
unfolding are_options
none_are_options text e = rw (eq-eqb (length text) 0 e) refl

pub some_are_options : (text : List ℕ) → (length text ≡ 0 → ⊥) → are_options text ≡ are_options_and_end (suc (length text)) text
unfolding are_options
some_are_options text ne = rw (ne_eqb (length text) 0 ne) refl

pub tested_none : (bytes : List ℕ) → (length bytes ≡ 0 → ⊥) → HasTested bytes 0
tested_none bytes ne = record { steps = suc (length bytes); enough = omega arith; left = some_are_options bytes ne }

-- one step more
record OneStep (bytes : List ℕ) (at : ℕ) (f : Front) : Type 0 where
  more : ℕ
  enough : length (drop at bytes) < suc more
  left : are_options bytes ≡ options_and_end_by f (drop at bytes) (λ others. are_options_and_end more others)

one_step : (bytes : List ℕ) (at n : ℕ) (f : Front) → length (drop at bytes) < n → are_options bytes ≡ are_options_and_end n (drop at bytes) → option_front Little (drop at bytes) ≡ f → OneStep bytes at f
one_step bytes at zero f lt left is = absurd (omega arith)
one_step bytes at (suc n) f lt left is = record { more = n; enough = lt; left = left ∙ marked_step n (drop at bytes) f is }

step_of : (bytes : List ℕ) (at : ℕ) (f : Front) → HasTested bytes at → option_front Little (drop at bytes) ≡ f → OneStep bytes at f
step_of bytes at f t is = one_step bytes at t.steps f t.enough t.left is

pub tested_end : (bytes : List ℕ) (at : ℕ) → HasTested bytes at → option_front Little (drop at bytes) ≡ front.Ended → are_options bytes ≡ is_end_mark (drop at bytes)
tested_end bytes at t is = let s = step_of bytes at front.Ended t is in s.left

pub tested_over : (bytes : List ℕ) (at : ℕ) → HasTested bytes at → option_front Little (drop at bytes) ≡ front.Over → are_options bytes ≡ false
tested_over bytes at t is = let s = step_of bytes at front.Over t is in s.left

pub tested_padding : (bytes : List ℕ) (at code len : ℕ) → HasTested bytes at → option_front Little (drop at bytes) ≡ front.Whole code len
    → are_zero (slice_range (drop at bytes) (4 + len) (whole_length len)) ≡ false → are_options bytes ≡ false
tested_padding bytes at code len t is e = let s = step_of bytes at (front.Whole code len) t is in s.left ∙ rw e refl

pub tested_more : (bytes : List ℕ) (at code len : ℕ) → HasTested bytes at → option_front Little (drop at bytes) ≡ front.Whole code len
    → are_zero (slice_range (drop at bytes) (4 + len) (whole_length len)) ≡ true → HasTested bytes (at + whole_length len)
tested_more bytes at code len t is e =
    let s = step_of bytes at (front.Whole code len) t is in
    let w = whole_option Little (drop at bytes) code len is in
    let within : whole_length len ≤ length (drop at bytes) = w.within in
    let short : length (drop at bytes) < suc s.more = s.enough in
    let least : 4 ≤ whole_length len = omega arith in
    let shorter : length (drop (whole_length len) (drop at bytes)) < s.more = omega (arith, length-drop (whole_length len) (drop at bytes)) in
    let same : drop (whole_length len) (drop at bytes) ≡ drop (at + whole_length len) bytes = drop-drop (whole_length len) at bytes in
    let left : are_options bytes ≡ are_options_and_end s.more (drop (whole_length len) (drop at bytes)) = s.left ∙ rw e refl in
    record {
      steps = s.more;
      enough = subst (λ (t : List ℕ). length t < s.more) same shorter;
      left = left ∙ ap (λ (t : List ℕ). are_options_and_end s.more t) same;
    }
