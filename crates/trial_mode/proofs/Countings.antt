-- Counts of files, and sums over statistics.
use Rattle.std.proofs.Common.{◌≡◌, ℕ, ◌+◌, ◌^◌, ◌≤◌, ◌<◌, cond, List, [], ◌∷◌, ◌++◌, length, take, get_or, Some, None, refl, ap, ◌∙◌, arith}
use Rattle.std.specs.List.{count_by, slice_get}
use Rattle.std.proofs.lemmas.List.Sums.{sum_by-cons, sum_by_more}
use Rattle.std.proofs.lemmas.Option.{slice_get_within, get_or_from_slice_get, slice_get-get_or}
use Rattle.cap_base.specs.Effects.{Effect, created, byte, finished, removed, said, effects, bytes, saying}
use Rattle.cap_base.specs.declared.done.Done.{Done}
use Rattle.cap_base.specs.declared.done.Done.TheVariants.{Created, Bytes, Finished, Removed, Said}
use Rattle.trial_mode.specs.Sums.{files_in}
use Rattle.pcapng_grammar.specs.declared.facts.Counted.{Counted}
use Rattle.pcapng_grammar.specs.declared.fault.What.{What}
use Rattle.pcapng_grammar.specs.Defects.{first_defect}
use Rattle.pcapng_grammar.specs.Files.{Grammatical}
use Rattle.pcapng_grammar.proofs.Splits.{files_have_none}
use Rattle.trial_mode.specs.inner.Checked.{is_created, counted_by, counted_in}

pub files_both : (xs ys : List Effect) → files_in (xs ++ ys) ≡ files_in xs + files_in ys
files_both [] ys = omega arith
files_both (created name ∷ xs) ys = let e : files_in (xs ++ ys) ≡ files_in xs + files_in ys = files_both xs ys in omega arith
files_both (byte b ∷ xs) ys = files_both xs ys
files_both (finished ∷ xs) ys = files_both xs ys
files_both (removed name ∷ xs) ys = files_both xs ys
files_both (said b ∷ xs) ys = files_both xs ys

pub no_files_in_bytes : (text : List ℕ) → files_in (bytes text) ≡ 0
no_files_in_bytes [] = refl
no_files_in_bytes (b ∷ text) = no_files_in_bytes text

pub no_files_in_saying : (text : List ℕ) → files_in (saying text) ≡ 0
no_files_in_saying [] = refl
no_files_in_saying (b ∷ text) = no_files_in_saying text

one_more : (c : Done) (done : List Done) (n : ℕ) → cond (is_created c) 1 0 ≡ n → count_by is_created (c ∷ done) ≡ n + count_by is_created done
one_more c done n q = sum_by-cons (λ (x : Done). cond (is_created x) 1 0) c done ∙ ap (λ (z : ℕ). z + count_by is_created done) q

pub created_are_files : (done : List Done) → count_by is_created done ≡ files_in (effects done)
created_are_files [] = refl
created_are_files (Created name ∷ done) = let e : count_by is_created done ≡ files_in (effects done) = created_are_files done in one_more (Created name) done 1 refl ∙ ap (λ (z : ℕ). 1 + z) e ∙ (let n : ℕ = files_in (effects done) in omega arith)
created_are_files (Bytes text ∷ done) = let e : count_by is_created done ≡ files_in (effects done) = created_are_files done in one_more (Bytes text) done 0 refl ∙ (let a : files_in (bytes text ++ effects done) ≡ files_in (bytes text) + files_in (effects done) = files_both (bytes text) (effects done) in let b : files_in (bytes text) ≡ 0 = no_files_in_bytes text in omega arith)
created_are_files (Finished ∷ done) = let e : count_by is_created done ≡ files_in (effects done) = created_are_files done in one_more Finished done 0 refl ∙ omega arith
created_are_files (Removed name ∷ done) = let e : count_by is_created done ≡ files_in (effects done) = created_are_files done in one_more (Removed name) done 0 refl ∙ omega arith
created_are_files (Said text ∷ done) = let e : count_by is_created done ≡ files_in (effects done) = created_are_files done in one_more (Said text) done 0 refl ∙ (let a : files_in (saying text ++ effects done) ≡ files_in (saying text) + files_in (effects done) = files_both (saying text) (effects done) in let b : files_in (saying text) ≡ 0 = no_files_in_saying text in omega arith)

-- ---- statistics

pub counted_more : (counts : List Counted) (at : ℕ) (c : Counted) → slice_get counts at ≡ Some c → counted_in (take (at + 1) counts) ≡ counted_in (take at counts) + (c.delivered + c.drop)
counted_more counts at c q = sum_by_more counted_by counts at c (slice_get_within counts at c q) ∙ ap (λ (z : Counted). counted_in (take at counts) + counted_by z) (get_or_from_slice_get counts at c c q)

pub counted_there : (counts : List Counted) (at : ℕ) → at < length counts → slice_get counts at ≡ None → ⊥
counted_there counts at lt q = let d : Counted = record { recv = 0; drop = 0; delivered = 0 } in let e : slice_get counts at ≡ Some (get_or counts at d) = slice_get-get_or counts at d lt in cc

-- ---- the file

-- a file of at most 2^32 bytes that has a defect isn't grammatical
pub no_file : (text : List ℕ) (d : What × ℕ) → first_defect text ≡ Some d → Grammatical text → length text ≤ 2 ^ 32 → ⊥
no_file text d q g few = let e : first_defect text ≡ None = files_have_none text few g in cc
