-- A file has no more packets than bytes.
use Rattle.std.proofs.Common.{◌≡◌, ◌+◌, ◌≤◌, ℕ, zero, suc, List, [], ◌∷◌, ◌++◌, length, Result, Ok, Err, refl, ap, subst, sym, arith}
use Rattle.std.specs.Prelude.{slice_index, slice_set, IfOk}
use Rattle.std.specs.List.{sum}
use Rattle.std.proofs.lemmas.List.{length-append}
use Rattle.std.proofs.lemmas.List.Sums.{sum_by-cons, sum_by_push}
use Rattle.pcapng_grammar.specs.declared.blocks.FileBlock.{FileBlock}
use Rattle.pcapng_grammar.specs.declared.blocks.FileBlock.TheVariants as block
use Rattle.pcapng_grammar.specs.declared.facts.FileFacts.{FileFacts}
use Rattle.pcapng_grammar.specs.declared.fault.CheckFault.{CheckFault}
use Rattle.pcapng_grammar.specs.Files.{AreBlocks, HasFacts, packets_of, reversed_onto}

sum_with_none : (xs : List ℕ) → sum (xs ++ 0 ∷ []) ≡ sum xs
sum_with_none xs = omega (arith, sum_by_push (λ (x : ℕ). x) xs 0)

sum_one_more : (xs : List ℕ) (k : ℕ) → sum (slice_set xs k (slice_index xs k + 1)) ≤ sum xs + 1
sum_one_more [] k = omega arith
sum_one_more (x ∷ xs) zero = omega (arith, sum_by-cons (λ (x : ℕ). x) (x + 1) xs, sum_by-cons (λ (x : ℕ). x) x xs)
sum_one_more (x ∷ xs) (suc k) =
    let set = slice_set xs k (slice_index xs k + 1) in
    omega (arith, sum_one_more xs k, sum_by-cons (λ (x : ℕ). x) x set, sum_by-cons (λ (x : ℕ). x) x xs)

sum_of_blocks : (blocks : List FileBlock) → sum (packets_of blocks) ≤ length blocks
sum_of_blocks [] = omega arith
sum_of_blocks (block.Section ∷ blocks) = omega (arith, sum_of_blocks blocks)
sum_of_blocks (block.Description ∷ blocks) = omega (arith, sum_with_none (packets_of blocks), sum_of_blocks blocks)
sum_of_blocks (block.Packet number ∷ blocks) = omega (arith, sum_one_more (packets_of blocks) number, sum_of_blocks blocks)
sum_of_blocks (block.Statistics number counts ∷ blocks) = omega (arith, sum_of_blocks blocks)

blocks_within : (before : List FileBlock) (text : List ℕ) (blocks : List FileBlock) → AreBlocks before text blocks → length (reversed_onto before blocks) ≤ length before + length text
blocks_within before text [] are = omega arith
blocks_within before text (b ∷ blocks) are =
    let first = are.0 in
    let others = are.1 in
    let parts : text ≡ first ++ others = are.2 in
    let least : 12 ≤ length first = are.3.least in
    let rest : length (reversed_onto (b ∷ before) blocks) ≤ length (b ∷ before) + length others = blocks_within (b ∷ before) others blocks are.5 in
    omega (arith, ap (λ (t : List ℕ). length t) parts, length-append first others)

-- the packets of all interfaces of a file
pub sum_within : (text : List ℕ) (facts : FileFacts) → HasFacts text facts → sum facts.packets ≤ length text
sum_within text facts has =
    let is : facts.packets ≡ packets_of (reversed_onto [] has.blocks) = ap (λ (f : FileFacts). f.packets) has.are in
    let most : sum (packets_of (reversed_onto [] has.blocks)) ≤ length (reversed_onto [] has.blocks) = sum_of_blocks (reversed_onto [] has.blocks) in
    let few : length (reversed_onto [] has.blocks) ≤ length text = omega (arith, blocks_within [] text has.blocks has.file.each) in
    rw is (omega arith)

pub reads_few : (text : List ℕ) (result : Result FileFacts CheckFault) → IfOk result (λ f. HasFacts text f) → IfOk result (λ f. sum f.packets ≤ length text)
reads_few text (Ok facts) has = sum_within text facts has
reads_few text (Err f) has = tt
