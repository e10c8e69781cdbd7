-- The walk over the blocks of a file, one block at a time.
use Rattle.std.proofs.Common.{◌≡◌, ℕ, zero, suc, ◌+◌, ◌<◌, ◌≤◌, ◌^◌, Bool, true, false, cond, eqb, ltb, List, [], ◌∷◌, ◌++◌, length, drop, get_or, set, Option, Some, None, Result, Ok, Err, refl, ap, sym, subst, ◌∙◌, arith, drop-drop, ◌⊎◌, inl, inr}
use Rattle.std.specs.Prelude.{slice_index, slice_set}
use Rattle.std.specs.Option.{option_map_or}
use Rattle.std.specs.Int.{w32}
use Rattle.std.proofs.lemmas.List.{length-drop, length-append, length-set}
use Rattle.std.proofs.lemmas.Bool.{eq-eqb, ne_eqb, le-ltb, lt-ltb, ltb-true}
use Rattle.cap_base.specs.Numbers.{field}
use Rattle.cap_base.specs.declared.numbers.Order.{Order}
use Rattle.cap_base.specs.declared.numbers.Order.TheVariants.{Little}
use Rattle.cap_base.specs.declared.endings.Code.TheVariants as code
use Rattle.pcapng_blocks.specs.declared.frame.Frame.TheVariants as frames
use Rattle.pcapng_blocks.specs.Frames.{is_section_header, byte_order, framed, frame}
use Rattle.pcapng_grammar.specs.declared.blocks.FileBlock.{FileBlock}
use Rattle.pcapng_grammar.specs.declared.blocks.FileBlock.TheVariants as block
use Rattle.pcapng_grammar.specs.declared.facts.Counted.{Counted}
use Rattle.pcapng_grammar.specs.declared.facts.FileFacts.{FileFacts}
use Rattle.pcapng_grammar.specs.declared.fault.What.{What}
use Rattle.pcapng_grammar.specs.declared.fault.What.TheVariants as what
use Rattle.pcapng_grammar.specs.Blocks.{block_by_type}
use Rattle.pcapng_grammar.specs.Files.{description_count, statistics_count, packets_of, counts_of, facts_of}
use Rattle.pcapng_grammar.specs.Defects.{order_defect, block_in_order, at_end, next_or_defect, blocks_from, blocks_in}
use Rattle.pcapng_grammar.specs.inner.Reading.{facts_with, IsDescribed}

-- ---- one block

by_header : (header : Bool) (text : List ℕ) → (header ≡ true → field Little w32 text 8 ≡ 0x1A2B3C4D)
    → cond header (option_map_or (λ (o : Order). framed o text) (byte_order text) (frames.Wrong code.Order)) (framed Little text) ≡ framed Little text
by_header true text little = rw (little refl) refl
by_header false text little = refl

pub little_frame : (text : List ℕ) → 12 ≤ length text → (is_section_header text ≡ true → field Little w32 text 8 ≡ 0x1A2B3C4D) → frame Little text ≡ framed Little text
unfolding frame
little_frame text least little = rw (le-ltb (length text) 12 least) (by_header (is_section_header text) text little)

pub other_kind : (text : List ℕ) (kind : ℕ) → kind ≡ field Little w32 text 0 → (kind ≡ 0x0A0D0D0A → ⊥) → (kind ≡ 1 → ⊥) → (kind ≡ 6 → ⊥) → (kind ≡ 5 → ⊥) → block_by_type text ≡ Err what.Kind
unfolding block_by_type
other_kind text kind is a b c d = rw (sym is, ne_eqb kind 0x0A0D0D0A a, ne_eqb kind 1 b, ne_eqb kind 6 c, ne_eqb kind 5 d) refl

known_number : (b s : Bool) (number descriptions : ℕ) (other : Option What) → b ≡ ltb number descriptions → cond b other (Some what.Interface) ≡ None → number < descriptions
known_number true s number descriptions other e none = ltb-true number descriptions (sym e)
known_number false s number descriptions other e none = absurd cc

pub known_block : (descriptions statistics : ℕ) (b : FileBlock) → order_defect descriptions statistics b ≡ None → IsDescribed descriptions b
unfolding order_defect
known_block descriptions statistics block.Section none = tt
known_block descriptions statistics block.Description none = tt
known_block descriptions statistics (block.Packet number) none = known_number (ltb number descriptions) true number descriptions _ refl none
known_block descriptions statistics (block.Statistics number counts) none = tt

-- ---- what the blocks before a place say

pub length-packets : (before : List FileBlock) → length (packets_of before) ≡ description_count before
length-packets [] = refl
length-packets (block.Section ∷ before) = length-packets before
length-packets (block.Description ∷ before) = simp (length-append, length-packets before) refl
length-packets (block.Packet number ∷ before) = length-set (packets_of before) number (slice_index (packets_of before) number + 1) ∙ length-packets before
length-packets (block.Statistics number counts ∷ before) = length-packets before

pub length-counts : (before : List FileBlock) → length (counts_of before) ≡ statistics_count before
length-counts [] = refl
length-counts (block.Section ∷ before) = length-counts before
length-counts (block.Description ∷ before) = length-counts before
length-counts (block.Packet number ∷ before) = length-counts before
length-counts (block.Statistics number counts ∷ before) = simp (length-append, length-counts before) refl

get_or-zero_behind : (xs : List ℕ) (k : ℕ) → get_or (xs ++ 0 ∷ []) k 0 ≡ get_or xs k 0
get_or-zero_behind [] zero = refl
get_or-zero_behind [] (suc k) = refl
get_or-zero_behind (x ∷ xs) zero = refl
get_or-zero_behind (x ∷ xs) (suc k) = get_or-zero_behind xs k

get_or-set-le : (xs : List ℕ) (n y k most : ℕ) → y ≤ most → ((j : ℕ) → get_or xs j 0 ≤ most) → get_or (set xs n y) k 0 ≤ most
get_or-set-le [] n y k most le each = each k
get_or-set-le (x ∷ xs) zero y zero most le each = le
get_or-set-le (x ∷ xs) zero y (suc k) most le each = each (suc k)
get_or-set-le (x ∷ xs) (suc n) y zero most le each = each zero
get_or-set-le (x ∷ xs) (suc n) y (suc k) most le each = get_or-set-le xs n y k most le (λ j. each (suc j))

-- a total is no more than there are blocks
pub few_packets : (before : List FileBlock) (k : ℕ) → slice_index (packets_of before) k ≤ length before
few_packets [] zero = omega arith
few_packets [] (suc k) = omega arith
few_packets (block.Section ∷ before) k = let few : slice_index (packets_of before) k ≤ length before = few_packets before k in omega arith
few_packets (block.Description ∷ before) k =
    let few : slice_index (packets_of before) k ≤ length before = few_packets before k in
    let same : get_or (packets_of before ++ 0 ∷ []) k 0 ≡ get_or (packets_of before) k 0 = get_or-zero_behind (packets_of before) k in
    omega arith
few_packets (block.Packet number ∷ before) k =
    let few : (j : ℕ) → slice_index (packets_of before) j ≤ length before = few_packets before in
    let here : slice_index (packets_of before) number ≤ length before = few number in
    get_or-set-le (packets_of before) number (slice_index (packets_of before) number + 1) k (suc (length before)) (omega arith) (λ j. let there : slice_index (packets_of before) j ≤ length before = few j in omega arith)
few_packets (block.Statistics number counts ∷ before) k = let few : slice_index (packets_of before) k ≤ length before = few_packets before k in omega arith

-- ---- the walk

-- the blocks up to a place were walked over, and the facts are what they say
pub record HasWalked (bytes : List ℕ) (at : ℕ) (packets : List ℕ) (counts : List Counted) : Type 0 where
  pub before : List FileBlock
  pub steps : ℕ
  pub enough : length (drop at bytes) < steps
  pub left : blocks_in bytes ≡ blocks_from steps before at (drop at bytes)
  pub packets_are : packets ≡ packets_of before
  pub counts_are : counts ≡ counts_of before
  pub few : length before ≤ at

pub too_long : (bytes : List ℕ) → 2 ^ 32 < length bytes → blocks_in bytes ≡ Err (what.TooLong, 2 ^ 32)
unfolding blocks_in
too_long bytes lt = rw (lt-ltb (2 ^ 32) (length bytes) lt) refl

pub walked_none : (bytes : List ℕ) → length bytes ≤ 2 ^ 32 → HasWalked bytes 0 [] []
unfolding blocks_in
walked_none bytes le = record {
  before = [];
  steps = suc (length bytes);
  enough = omega arith;
  left = rw (le-ltb (2 ^ 32) (length bytes) le) refl;
  packets_are = refl;
  counts_are = refl;
  few = omega arith;
}

-- the file goes on at the place
abbrev pub GoesOn : ℕ → List ℕ → Type 0
GoesOn at text = (at ≡ 0) ⊎ (0 < length text)

walk_by : (n : ℕ) (before : List FileBlock) (at : ℕ) (text : List ℕ) (b : Bool) → ltb 0 at ≡ b → 0 < length text
    → blocks_from (suc n) before at text ≡ next_or_defect (block_in_order (description_count before) (statistics_count before) at text) at (λ b len. blocks_from n (b ∷ before) (at + len) (drop len text))
unfolding blocks_from
walk_by n before at text true e lt = rw (e, ne_eqb (length text) 0 (λ none. omega arith)) refl
walk_by n before at text false e lt = rw e refl

pub walk_step : (n : ℕ) (before : List FileBlock) (at : ℕ) (text : List ℕ) → GoesOn at text
    → blocks_from (suc n) before at text ≡ next_or_defect (block_in_order (description_count before) (statistics_count before) at text) at (λ b len. blocks_from n (b ∷ before) (at + len) (drop len text))
unfolding blocks_from
walk_step n before at text (inl e) = let start : ltb 0 at ≡ false = rw e refl in rw start refl
walk_step n before at text (inr lt) = walk_by n before at text (ltb 0 at) refl lt

pub walk_end : (n : ℕ) (before : List FileBlock) (at : ℕ) (text : List ℕ) → 0 < at → length text ≡ 0 → blocks_from (suc n) before at text ≡ at_end before at
unfolding blocks_from
walk_end n before at text lt e = rw (lt-ltb 0 at lt, eq-eqb (length text) 0 e) refl

-- one step more
record OneStep (bytes : List ℕ) (at : ℕ) (before : List FileBlock) (r : Result (FileBlock × ℕ) What) : Type 0 where
  more : ℕ
  enough : length (drop at bytes) < suc more
  left : blocks_in bytes ≡ next_or_defect r at (λ b len. blocks_from more (b ∷ before) (at + len) (drop len (drop at bytes)))

one_step : (bytes : List ℕ) (at n : ℕ) (before : List FileBlock) (r : Result (FileBlock × ℕ) What) → length (drop at bytes) < n → blocks_in bytes ≡ blocks_from n before at (drop at bytes)
    → GoesOn at (drop at bytes) → block_in_order (description_count before) (statistics_count before) at (drop at bytes) ≡ r → OneStep bytes at before r
one_step bytes at zero before r lt left on is = absurd (omega arith)
one_step bytes at (suc n) before r lt left on is = record { more = n; enough = lt; left = left ∙ walk_step n before at (drop at bytes) on ∙ rw is refl }

step_of : (bytes : List ℕ) (at : ℕ) (packets : List ℕ) (counts : List Counted) (r : Result (FileBlock × ℕ) What) → (w : HasWalked bytes at packets counts)
    → GoesOn at (drop at bytes) → block_in_order (length packets) (length counts) at (drop at bytes) ≡ r → OneStep bytes at w.before r
step_of bytes at packets counts r w on is =
    let d : description_count w.before ≡ length packets = sym (length-packets w.before) ∙ ap (λ (l : List ℕ). length l) (sym w.packets_are) in
    let f : statistics_count w.before ≡ length counts = sym (length-counts w.before) ∙ ap (λ (l : List Counted). length l) (sym w.counts_are) in
    let same : block_in_order (description_count w.before) (statistics_count w.before) at (drop at bytes) ≡ r = rw (d, f) is in
    one_step bytes at w.steps w.before r w.enough w.left on same

pub walked_defect : (bytes : List ℕ) (at : ℕ) (packets : List ℕ) (counts : List Counted) (w : What) → HasWalked bytes at packets counts
    → GoesOn at (drop at bytes) → block_in_order (length packets) (length counts) at (drop at bytes) ≡ Err w → blocks_in bytes ≡ Err (w, at)
walked_defect bytes at packets counts w walked on is = let s = step_of bytes at packets counts (Err w) walked on is in s.left

packets_with : (b : FileBlock) (before : List FileBlock) (facts : FileFacts) → facts.packets ≡ packets_of before → (facts_with b facts).packets ≡ packets_of (b ∷ before)
packets_with block.Section before facts e = e
packets_with block.Description before facts e = ap (λ (l : List ℕ). l ++ 0 ∷ []) e
packets_with (block.Packet number) before facts e = ap (λ (l : List ℕ). slice_set l number (slice_index l number + 1)) e
packets_with (block.Statistics number counts) before facts e = e

counts_with : (b : FileBlock) (before : List FileBlock) (facts : FileFacts) → facts.counts ≡ counts_of before → (facts_with b facts).counts ≡ counts_of (b ∷ before)
counts_with block.Section before facts e = e
counts_with block.Description before facts e = e
counts_with (block.Packet number) before facts e = e
counts_with (block.Statistics number counts) before facts e = ap (λ (l : List Counted). l ++ counts ∷ []) e

pub walked_more : (bytes : List ℕ) (at : ℕ) (facts : FileFacts) (b : FileBlock) (len : ℕ) → HasWalked bytes at facts.packets facts.counts
    → GoesOn at (drop at bytes) → block_in_order (length facts.packets) (length facts.counts) at (drop at bytes) ≡ Ok (b, len) → 12 ≤ len → len ≤ length (drop at bytes)
    → HasWalked bytes (at + len) (facts_with b facts).packets (facts_with b facts).counts
walked_more bytes at facts b len w on is least within =
    let s = step_of bytes at facts.packets facts.counts (Ok (b, len)) w on is in
    let short : length (drop at bytes) < suc s.more = s.enough in
    let same : drop len (drop at bytes) ≡ drop (at + len) bytes = drop-drop len at bytes in
    let shorter : length (drop len (drop at bytes)) < s.more = omega (arith, length-drop len (drop at bytes)) in
    let left : blocks_in bytes ≡ blocks_from s.more (b ∷ w.before) (at + len) (drop len (drop at bytes)) = s.left in
    let had : length w.before ≤ at = w.few in
    record {
      before = b ∷ w.before;
      steps = s.more;
      enough = subst (λ (t : List ℕ). length t < s.more) same shorter;
      left = left ∙ ap (λ (t : List ℕ). blocks_from s.more (b ∷ w.before) (at + len) t) same;
      packets_are = packets_with b w.before facts w.packets_are;
      counts_are = counts_with b w.before facts w.counts_are;
      few = omega arith;
    }

-- ---- its end

end_of : (bytes : List ℕ) (at n : ℕ) (before : List FileBlock) → length (drop at bytes) < n → blocks_in bytes ≡ blocks_from n before at (drop at bytes) → 0 < at → length (drop at bytes) ≡ 0 → blocks_in bytes ≡ at_end before at
end_of bytes at zero before lt left on e = absurd (omega arith)
end_of bytes at (suc n) before lt left on e = left ∙ walk_end n before at (drop at bytes) on e

pub walked_missing : (bytes : List ℕ) (at : ℕ) (packets : List ℕ) (counts : List Counted) → HasWalked bytes at packets counts
    → 0 < at → length (drop at bytes) ≡ 0 → (length counts ≡ length packets → ⊥) → blocks_in bytes ≡ Err (what.Missing, at)
walked_missing bytes at packets counts w on e ne =
    let d : description_count w.before ≡ length packets = sym (length-packets w.before) ∙ ap (λ (l : List ℕ). length l) (sym w.packets_are) in
    let f : statistics_count w.before ≡ length counts = sym (length-counts w.before) ∙ ap (λ (l : List Counted). length l) (sym w.counts_are) in
    let other : eqb (statistics_count w.before) (description_count w.before) ≡ false = rw (d, f) (ne_eqb (length counts) (length packets) ne) in
    end_of bytes at w.steps w.before w.enough w.left on e ∙ rw other refl

pub walked_all : (bytes : List ℕ) (at : ℕ) (facts : FileFacts) → HasWalked bytes at facts.packets facts.counts
    → 0 < at → length (drop at bytes) ≡ 0 → length facts.counts ≡ length facts.packets → (blocks : List FileBlock) × (blocks_in bytes ≡ Ok blocks) × (facts ≡ facts_of blocks)
walked_all bytes at facts w on e same =
    let d : description_count w.before ≡ length facts.packets = sym (length-packets w.before) ∙ ap (λ (l : List ℕ). length l) (sym w.packets_are) in
    let f : statistics_count w.before ≡ length facts.counts = sym (length-counts w.before) ∙ ap (λ (l : List Counted). length l) (sym w.counts_are) in
    let all : eqb (statistics_count w.before) (description_count w.before) ≡ true = rw (d, f) (eq-eqb (length facts.counts) (length facts.packets) same) in
    (w.before, end_of bytes at w.steps w.before w.enough w.left on e ∙ rw all refl, rw (sym w.packets_are, sym w.counts_are) refl)
