-- What a check finds in the file of a trial.
use Rattle.std.proofs.Common.{◌≡◌, ℕ, suc, ◌+◌, ◌<◌, ◌≤◌, ◌^◌, List, [], ◌∷◌, ◌++◌, length, map, Ok, refl, sym, ap, ◌∙◌, subst, arith, append_assoc, length-append}
use Rattle.std.specs.List.{sum_by}
use Rattle.std.proofs.lemmas.List.{append-nil, length-map}
use Rattle.std.proofs.lemmas.List.Sums.{sum_by-cons}
use Rattle.std.proofs.lemmas.Nat.{from_le_bytes-to_le_bytes_8}
use Rattle.cap_base.specs.declared.counts.Counts.{Counts}
use Rattle.cap_base.specs.declared.entries.Entry.TheVariants as E
use Rattle.cap_base.specs.declared.entries.Item.TheVariants as I
use Rattle.cap_base.specs.declared.entries.Taken.TheVariants as T
use Rattle.cap_base.specs.declared.interface.Iface.{Iface}
use Rattle.pcapng_blocks.specs.declared.block.Block.{Block}
use Rattle.pcapng_blocks.specs.declared.block.Block.TheVariants as block
use Rattle.pcapng_grammar.specs.declared.blocks.FileBlock.{FileBlock}
use Rattle.pcapng_grammar.specs.declared.blocks.FileBlock.TheVariants as files
use Rattle.pcapng_grammar.specs.declared.facts.Counted.{Counted}
use Rattle.pcapng_grammar.specs.declared.facts.FileFacts.{FileFacts}
use Rattle.pcapng_grammar.specs.Defects.{blocks_in}
use Rattle.pcapng_grammar.specs.Files.{description_count, statistics_count, counts_of, reversed_onto, last_first, IsFile, HasFacts}
use Rattle.pcapng_grammar.specs.Written.{file_block}
use Rattle.pcapng_grammar.proofs.Splits.{files_are_read}
use Rattle.pcapng_grammar.proofs.Written.{texts_are_files}
use Rattle.capture_desk.specs.Past.{Past, nothing, ◌▹◌}
use Rattle.capture_desk.specs.Files.{blocks, head, held, ifaces, text}
use Rattle.capture_desk.specs.Acts.{tail_from, tail}
use Rattle.capture_core.proofs.Fitted.{fitted, lowest, text_fitted, MayBegin}
use Rattle.trial_mode.specs.Sums.{accounted_by, accounted_in}
use Rattle.trial_mode.specs.inner.Checked.{counted_by, counted_in}

-- ---- blocks in their order

abbrev stats_in : List FileBlock → List Counted
stats_in [] = []
stats_in (files.Statistics k c ∷ bs) = c ∷ stats_in bs
stats_in (files.Section ∷ bs) = stats_in bs
stats_in (files.Description ∷ bs) = stats_in bs
stats_in (files.Packet k ∷ bs) = stats_in bs

abbrev descs_in : List FileBlock → ℕ
descs_in [] = 0
descs_in (files.Statistics k c ∷ bs) = descs_in bs
descs_in (files.Section ∷ bs) = descs_in bs
descs_in (files.Description ∷ bs) = descs_in bs + 1
descs_in (files.Packet k ∷ bs) = descs_in bs

counts_reversed : (before bs : List FileBlock) → counts_of (reversed_onto before bs) ≡ counts_of before ++ stats_in bs
counts_reversed before [] = sym (append-nil (counts_of before))
counts_reversed before (files.Statistics k c ∷ bs) = counts_reversed (files.Statistics k c ∷ before) bs ∙ append_assoc (counts_of before) (c ∷ []) (stats_in bs)
counts_reversed before (files.Section ∷ bs) = counts_reversed (files.Section ∷ before) bs
counts_reversed before (files.Description ∷ bs) = counts_reversed (files.Description ∷ before) bs
counts_reversed before (files.Packet k ∷ bs) = counts_reversed (files.Packet k ∷ before) bs

stats_reversed : (before bs : List FileBlock) → statistics_count (reversed_onto before bs) ≡ statistics_count before + length (stats_in bs)
stats_reversed before [] = omega arith
stats_reversed before (files.Statistics k c ∷ bs) = let a : statistics_count (reversed_onto (files.Statistics k c ∷ before) bs) ≡ (statistics_count before + 1) + length (stats_in bs) = stats_reversed (files.Statistics k c ∷ before) bs in omega arith
stats_reversed before (files.Section ∷ bs) = stats_reversed (files.Section ∷ before) bs
stats_reversed before (files.Description ∷ bs) = stats_reversed (files.Description ∷ before) bs
stats_reversed before (files.Packet k ∷ bs) = stats_reversed (files.Packet k ∷ before) bs

descs_reversed : (before bs : List FileBlock) → description_count (reversed_onto before bs) ≡ description_count before + descs_in bs
descs_reversed before [] = omega arith
descs_reversed before (files.Statistics k c ∷ bs) = descs_reversed (files.Statistics k c ∷ before) bs
descs_reversed before (files.Section ∷ bs) = descs_reversed (files.Section ∷ before) bs
descs_reversed before (files.Description ∷ bs) = let a : description_count (reversed_onto (files.Description ∷ before) bs) ≡ (description_count before + 1) + descs_in bs = descs_reversed (files.Description ∷ before) bs in omega arith
descs_reversed before (files.Packet k ∷ bs) = descs_reversed (files.Packet k ∷ before) bs

stats_both : (xs ys : List FileBlock) → stats_in (xs ++ ys) ≡ stats_in xs ++ stats_in ys
stats_both [] ys = refl
stats_both (files.Statistics k c ∷ xs) ys = ap (λ (z : List Counted). c ∷ z) (stats_both xs ys)
stats_both (files.Section ∷ xs) ys = stats_both xs ys
stats_both (files.Description ∷ xs) ys = stats_both xs ys
stats_both (files.Packet k ∷ xs) ys = stats_both xs ys

descs_both : (xs ys : List FileBlock) → descs_in (xs ++ ys) ≡ descs_in xs + descs_in ys
descs_both [] ys = omega arith
descs_both (files.Statistics k c ∷ xs) ys = descs_both xs ys
descs_both (files.Section ∷ xs) ys = descs_both xs ys
descs_both (files.Description ∷ xs) ys = let a : descs_in (xs ++ ys) ≡ descs_in xs + descs_in ys = descs_both xs ys in omega arith
descs_both (files.Packet k ∷ xs) ys = descs_both xs ys

-- as they are seen in a file
abbrev seen : List Block → List FileBlock
seen bs = map file_block (map fitted bs)

seen_both : (xs ys : List Block) → seen (xs ++ ys) ≡ seen xs ++ seen ys
seen_both [] ys = refl
seen_both (x ∷ xs) ys = ap (λ (z : List FileBlock). file_block (fitted x) ∷ z) (seen_both xs ys)

-- ---- the blocks before the statistics

-- no statistics, and so many descriptions
pub record Plain (bs : List Block) (n : ℕ) : Type 0 where
  pub none : stats_in (seen bs) ≡ []
  pub count : descs_in (seen bs) ≡ n

plain_both : (xs ys : List Block) (n m k : ℕ) → Plain xs n → Plain ys m → n + m ≡ k → Plain (xs ++ ys) k
plain_both xs ys n m k p q e = record {
  none = ap stats_in (seen_both xs ys) ∙ stats_both (seen xs) (seen ys) ∙ ap (λ (z : List Counted). z ++ stats_in (seen ys)) p.none ∙ q.none;
  count = ap descs_in (seen_both xs ys) ∙ descs_both (seen xs) (seen ys) ∙ (let a : descs_in (seen xs) ≡ n = p.count in let b : descs_in (seen ys) ≡ m = q.count in omega arith);
}

plain_descriptions : (is : List Iface) → Plain (map block.Interface is) (length is)
plain_descriptions [] = record { none = refl; count = refl }
plain_descriptions (i ∷ is) = let p = plain_descriptions is in record { none = p.none; count = let a : descs_in (seen (map block.Interface is)) ≡ length is = p.count in omega arith }

plain_head : (is : List Iface) → Plain (head is) (length is)
plain_head is = let p = plain_descriptions is in record { none = p.none; count = p.count }

same_plain : (bs : List Block) (n : ℕ) → Plain bs n → Plain (bs ++ []) n
same_plain bs n p = subst (λ (z : List Block). Plain z n) (sym (append-nil bs)) p

plain_blocks : (past : Past) → Plain (blocks past) (length (ifaces past))
plain_blocks nothing = plain_head []
plain_blocks (before ▹ E.Take now (T.Item (I.Iface k i))) = plain_both (blocks before) (block.Interface i ∷ []) (length (ifaces before)) 1 (length (ifaces before ++ i ∷ [])) (plain_blocks before) (plain_descriptions (i ∷ [])) (sym (length-append (ifaces before) (i ∷ [])))
plain_blocks (before ▹ E.Take now (T.Item (I.Packet p))) = plain_both (blocks before) (block.Enhanced p ∷ []) (length (ifaces before)) 0 (length (ifaces before)) (plain_blocks before) (record { none = refl; count = refl }) (omega arith)
plain_blocks (before ▹ E.Take now (T.Item (I.Ended k how))) = same_plain (blocks before) (length (ifaces before)) (plain_blocks before)
plain_blocks (before ▹ E.Take now T.Empty) = same_plain (blocks before) (length (ifaces before)) (plain_blocks before)
plain_blocks (before ▹ E.Take now T.Done) = same_plain (blocks before) (length (ifaces before)) (plain_blocks before)
plain_blocks (before ▹ E.Tally now cs) = plain_head (ifaces before)
plain_blocks (before ▹ E.Stop why l) = plain_blocks before
plain_blocks (before ▹ E.Join x y z) = plain_blocks before
plain_blocks (before ▹ E.Offer x y z) = plain_blocks before
plain_blocks (before ▹ E.End x y) = plain_blocks before

some_in_head : (is : List Iface) → 1 ≤ length (head is)
some_in_head is = omega arith

some_blocks : (past : Past) → 1 ≤ length (blocks past)
some_blocks nothing = some_in_head []
some_blocks (before ▹ E.Take now t) = let a : length (blocks (before ▹ E.Take now t)) ≡ length (blocks before) + _ = length-append (blocks before) _ in let b : 1 ≤ length (blocks before) = some_blocks before in omega arith
some_blocks (before ▹ E.Tally now cs) = some_in_head (ifaces before)
some_blocks (before ▹ E.Stop why l) = some_blocks before
some_blocks (before ▹ E.Join x y z) = some_blocks before
some_blocks (before ▹ E.Offer x y z) = some_blocks before
some_blocks (before ▹ E.End x y) = some_blocks before

-- ---- the statistics

lowest_is : (n : ℕ) → n < 2 ^ 64 → lowest n ≡ n
lowest_is n h = from_le_bytes-to_le_bytes_8 n h

held_is : (n : ℕ) → n < 2 ^ 64 → held n ≡ n
held_is n h = omega arith

-- one for each interface, and they account for what the counts account for
pub record Tells (bs : List Block) (n sum : ℕ) : Type 0 where
  pub each : length (stats_in (seen bs)) ≡ n
  pub no_description : descs_in (seen bs) ≡ 0
  pub sums : counted_in (stats_in (seen bs)) ≡ sum

tail_tells : (k now : ℕ) (is : List Iface) (cs : List Counts) → length is ≡ length cs → sum_by accounted_by cs < 2 ^ 64 → Tells (tail_from k now is cs) (length is) (sum_by accounted_by cs)
tail_tells k now [] [] q h = record { each = refl; no_description = refl; sums = refl }
tail_tells k now [] (c ∷ cs) q h = absurd (omega arith)
tail_tells k now (i ∷ is) [] q h = absurd (omega arith)
tail_tells k now (i ∷ is) (c ∷ cs) q h =
    let x : sum_by accounted_by (c ∷ cs) ≡ accounted_by c + sum_by accounted_by cs = sum_by-cons accounted_by c cs in
    let t : Tells (tail_from (k + 1) now is cs) (length is) (sum_by accounted_by cs) = tail_tells (k + 1) now is cs (omega arith) (omega arith) in
    let d : Counted = record { recv = lowest c.recv; drop = lowest (held (c.drop + c.flush)); delivered = lowest c.written } in
    record {
      each = ap (λ (z : ℕ). suc z) t.each;
      no_description = t.no_description;
      sums = sum_by-cons counted_by d (stats_in (seen (tail_from (k + 1) now is cs))) ∙ (let a : lowest c.written ≡ c.written = lowest_is c.written (omega arith) in
          let b : lowest (held (c.drop + c.flush)) ≡ c.drop + c.flush = ap lowest (held_is (c.drop + c.flush) (omega arith)) ∙ lowest_is (c.drop + c.flush) (omega arith) in
          let e : counted_in (stats_in (seen (tail_from (k + 1) now is cs))) ≡ sum_by accounted_by cs = t.sums in sym (x ∙ (let z : accounted_by c ≡ counted_by d = (let y : c.written + (c.drop + c.flush) ≡ lowest c.written + lowest (held (c.drop + c.flush)) = omega arith in y) in omega arith)));
    }

-- ---- the file

-- the blocks of a file that ends with the statistics of all its interfaces
module _ (past : Past) (now : ℕ) (cs : List Counts) (taken : length (ifaces past) ≡ length cs) (small : accounted_in cs < 2 ^ 64) where
  abbrev all_blocks : List Block
  all_blocks = blocks past ++ tail (ifaces past) now cs

  plain : Plain (blocks past) (length (ifaces past))
  plain = plain_blocks past

  tells : Tells (tail (ifaces past) now cs) (length (ifaces past)) (accounted_in cs)
  unfolding tail
  tells = tail_tells 0 now (ifaces past) cs taken small

  stats_are : stats_in (seen all_blocks) ≡ stats_in (seen (tail (ifaces past) now cs))
  stats_are = ap stats_in (seen_both (blocks past) (tail (ifaces past) now cs)) ∙ stats_both (seen (blocks past)) (seen (tail (ifaces past) now cs)) ∙ ap (λ (z : List Counted). z ++ stats_in (seen (tail (ifaces past) now cs))) plain.none

  descs_are : descs_in (seen all_blocks) ≡ length (ifaces past)
  descs_are = ap descs_in (seen_both (blocks past) (tail (ifaces past) now cs)) ∙ descs_both (seen (blocks past)) (seen (tail (ifaces past) now cs)) ∙ (let a : descs_in (seen (blocks past)) ≡ length (ifaces past) = plain.count in let b : descs_in (seen (tail (ifaces past) now cs)) ≡ 0 = tells.no_description in omega arith)

  some : 1 ≤ length all_blocks
  some = let a : length all_blocks ≡ length (blocks past) + length (tail (ifaces past) now cs) = length-append (blocks past) (tail (ifaces past) now cs) in let b : 1 ≤ length (blocks past) = some_blocks past in omega arith

  is_file : MayBegin all_blocks → IsFile (text all_blocks) (seen all_blocks)
  unfolding text
  is_file begin = subst (λ (z : List ℕ). IsFile z (seen all_blocks)) (text_fitted all_blocks) (texts_are_files (map fitted all_blocks) (record {
    some = let a : length (map fitted all_blocks) ≡ length all_blocks = length-map all_blocks fitted in let b : 1 ≤ length all_blocks = some in omega arith;
    each = begin.each;
    order = begin.order;
    all = let a : statistics_count (last_first (seen all_blocks)) ≡ 0 + length (stats_in (seen all_blocks)) = stats_reversed [] (seen all_blocks) in let b : description_count (last_first (seen all_blocks)) ≡ 0 + descs_in (seen all_blocks) = descs_reversed [] (seen all_blocks) in
        let c : length (stats_in (seen all_blocks)) ≡ length (ifaces past) = ap length stats_are ∙ tells.each in let d : descs_in (seen all_blocks) ≡ length (ifaces past) = descs_are in omega arith;
  }))

  -- a check counts what the counts account for
  pub facts_account : MayBegin all_blocks → (file : List ℕ) (facts : FileFacts) → file ≡ text all_blocks → length file ≤ 2 ^ 32 → HasFacts file facts → counted_in facts.counts ≡ accounted_in cs
  facts_account begin file facts q few f =
      let first : blocks_in file ≡ Ok (last_first f.blocks) = files_are_read file f.blocks few f.file in
      let second : blocks_in file ≡ Ok (last_first (seen all_blocks)) = files_are_read file (seen all_blocks) few (subst (λ (z : List ℕ). IsFile z (seen all_blocks)) (sym q) (is_file begin)) in
      let same : last_first f.blocks ≡ last_first (seen all_blocks) = cc in
      ap (λ (z : FileFacts). counted_in z.counts) f.are ∙ ap (λ (z : List FileBlock). counted_in (counts_of z)) same ∙ ap counted_in (counts_reversed [] (seen all_blocks) ∙ stats_are) ∙ tells.sums
