-- The files that acts make.
use Rattle.std.proofs.Common.{◌≡◌, inl, ℕ, Bool, true, false, cond, List, [], ◌∷◌, ◌++◌, map, refl, sym, ap, ◌∙◌, subst, append_assoc}
use Rattle.std.specs.List.{flat_map, All}
use Rattle.std.proofs.lemmas.List.Elements.{All-head, All-tail, filter-append}
use Rattle.std.proofs.lemmas.List.{append-nil}
use Rattle.cap_base.specs.Effects.{Effect, bytes, saying}
use Rattle.cap_base.specs.declared.packet.Packet.{Packet}
use Rattle.cap_base.proofs.Lines.{flat_map-append}
use Rattle.pcapng_blocks.specs.declared.block.Block.{Block}
use Rattle.pcapng_blocks.specs.Spelling.{spell}
use Rattle.capture_desk.specs.declared.acts.Act.{Act}
use Rattle.capture_desk.specs.declared.acts.Act.TheVariants.{Create, Put, Finish, Remove, Say}
use Rattle.capture_desk.specs.Doing.{act_effects, effects_of_acts, is_file_act, packet_of, packets_put, unsaid}
use Rattle.capture_desk.specs.Files.{text}
use Rattle.capture_core.specs.Made.{bytes_put, files_made, IsTorn, EachHasBlocks, block_packets, FilesHold}
use Rattle.capture_core.proofs.Fitted.{fitted, text_fitted, packets_fitted, MayBegin}

-- the blocks that are put before another file is created
abbrev pub blocks_put : List Act → List Block
blocks_put [] = []
blocks_put (Create name ∷ more) = []
blocks_put (Put b ∷ more) = b ∷ blocks_put more
blocks_put (Finish ∷ more) = blocks_put more
blocks_put (Remove name ∷ more) = blocks_put more
blocks_put (Say m ∷ more) = blocks_put more

-- the blocks of each file that is created
abbrev pub file_blocks : List Act → List (List Block)
file_blocks [] = []
file_blocks (Create name ∷ more) = blocks_put more ∷ file_blocks more
file_blocks (Put b ∷ more) = file_blocks more
file_blocks (Finish ∷ more) = file_blocks more
file_blocks (Remove name ∷ more) = file_blocks more
file_blocks (Say m ∷ more) = file_blocks more

-- the blocks that are put into the current file
abbrev pub blocks_now : List Block → List Act → List Block
blocks_now bs [] = bs
blocks_now bs (Create name ∷ more) = blocks_now [] more
blocks_now bs (Put b ∷ more) = blocks_now (bs ++ b ∷ []) more
blocks_now bs (other ∷ more) = blocks_now bs more

-- behind these acts the current file isn't the one before them
abbrev creates : List Act → Bool
creates [] = false
creates (Create name ∷ more) = true
creates (Put b ∷ more) = creates more
creates (Finish ∷ more) = creates more
creates (Remove name ∷ more) = creates more
creates (Say m ∷ more) = creates more

-- no file is made, and no byte put
pub record IsQuiet (es : List Effect) : Type 0 where
  pub none : files_made es ≡ []
  pub no_bytes : bytes_put es ≡ []

-- ---- effects

put_bytes : (xs : List ℕ) (es : List Effect) → bytes_put (bytes xs ++ es) ≡ xs ++ bytes_put es
put_bytes [] es = refl
put_bytes (x ∷ xs) es = ap (λ (z : List ℕ). x ∷ z) (put_bytes xs es)

put_said : (xs : List ℕ) (es : List Effect) → bytes_put (saying xs ++ es) ≡ bytes_put es
put_said [] es = refl
put_said (x ∷ xs) es = put_said xs es

made_bytes : (xs : List ℕ) (es : List Effect) → files_made (bytes xs ++ es) ≡ files_made es
made_bytes [] es = refl
made_bytes (x ∷ xs) es = made_bytes xs es

made_said : (xs : List ℕ) (es : List Effect) → files_made (saying xs ++ es) ≡ files_made es
made_said [] es = refl
made_said (x ∷ xs) es = made_said xs es

-- the effects of acts, with others behind them
abbrev behind : List Act → List Effect → List Effect
behind acts es = effects_of_acts acts ++ es

unfold_act : (a : Act) (xs : List Act) (es : List Effect) → behind (a ∷ xs) es ≡ act_effects a ++ behind xs es
unfold_act a xs es = append_assoc (act_effects a) (effects_of_acts xs) es

module _ (part : List ℕ) (torn : IsTorn part) (es : List Effect) (quiet : IsQuiet es) where
  abbrev rest : List Effect
  rest = bytes part ++ es

  abbrev left_of : List Act → List ℕ
  left_of xs = cond (creates xs) [] part

  text_put : (xs : List Act) → bytes_put (behind xs rest) ≡ text (blocks_put xs) ++ left_of xs
  unfolding text
  text_put [] = put_bytes part es ∙ ap (λ (z : List ℕ). part ++ z) quiet.no_bytes ∙ append-nil part
  text_put (Create name ∷ xs) = refl
  text_put (Put b ∷ xs) = ap bytes_put (unfold_act (Put b) xs rest) ∙ put_bytes (spell b) (behind xs rest) ∙ ap (λ (z : List ℕ). spell b ++ z) (text_put xs) ∙ sym (append_assoc (spell b) (flat_map spell (blocks_put xs)) (left_of xs))
  text_put (Finish ∷ xs) = text_put xs
  text_put (Remove name ∷ xs) = text_put xs
  text_put (Say m ∷ xs) = ap bytes_put (unfold_act (Say m) xs rest) ∙ put_said m (behind xs rest) ∙ text_put xs

  torn_left : (b : Bool) → IsTorn (cond b [] part)
  torn_left true = inl refl
  torn_left false = torn

  each_made : (xs : List Act) → All MayBegin (file_blocks xs) → EachHasBlocks (map (map fitted) (file_blocks xs)) (files_made (behind xs rest))
  each_made [] a = subst (EachHasBlocks []) (sym (made_bytes part es ∙ quiet.none)) tt
  each_made (Create name ∷ xs) a = (record { are = All-head MayBegin (blocks_put xs) (file_blocks xs) a; part = left_of xs; is = text_put xs ∙ ap (λ (z : List ℕ). z ++ left_of xs) (sym (text_fitted (blocks_put xs))); torn = torn_left (creates xs) }, each_made xs (All-tail MayBegin (blocks_put xs) (file_blocks xs) a))
  each_made (Put b ∷ xs) a = subst (EachHasBlocks (map (map fitted) (file_blocks xs))) (sym (ap files_made (unfold_act (Put b) xs rest) ∙ made_bytes (spell b) (behind xs rest))) (each_made xs a)
  each_made (Finish ∷ xs) a = each_made xs a
  each_made (Remove name ∷ xs) a = each_made xs a
  each_made (Say m ∷ xs) a = subst (EachHasBlocks (map (map fitted) (file_blocks xs))) (sym (ap files_made (unfold_act (Say m) xs rest) ∙ made_said m (behind xs rest))) (each_made xs a)

-- ---- packets

pub packets_both : (xs ys : List Act) → packets_put (xs ++ ys) ≡ packets_put xs ++ packets_put ys
packets_both xs ys = flat_map-append packet_of xs ys

-- the packets of the files are those that were put, where none is put before the first file
packets_files : (xs : List Act) → block_packets (blocks_put xs) ++ flat_map block_packets (file_blocks xs) ≡ packets_put xs
packets_files [] = refl
packets_files (Create name ∷ xs) = packets_files xs
packets_files (Put b ∷ xs) = append_assoc (packet_of (Put b)) (block_packets (blocks_put xs)) (flat_map block_packets (file_blocks xs)) ∙ ap (λ (z : List Packet). packet_of (Put b) ++ z) (packets_files xs)
packets_files (Finish ∷ xs) = packets_files xs
packets_files (Remove name ∷ xs) = packets_files xs
packets_files (Say m ∷ xs) = packets_files xs

all_fitted : (bss : List (List Block)) → flat_map block_packets (map (map fitted) bss) ≡ flat_map block_packets bss
all_fitted [] = refl
all_fitted (bs ∷ bss) = ap (λ (z : List Packet). z ++ flat_map block_packets (map (map fitted) bss)) (packets_fitted bs) ∙ ap (λ (z : List Packet). block_packets bs ++ z) (all_fitted bss)

-- the files of these acts, and behind them a part of a block, hold the packets that were put
pub files_hold : (xs : List Act) (part : List ℕ) (es : List Effect) → IsTorn part → IsQuiet es → blocks_put xs ≡ [] → All MayBegin (file_blocks xs) → FilesHold (effects_of_acts xs ++ (bytes part ++ es)) (packets_put xs)
files_hold xs part es torn quiet none a = record {
  blocks = map (map fitted) (file_blocks xs);
  each = each_made part torn es quiet xs a;
  packets = all_fitted (file_blocks xs) ∙ ap (λ (bs : List Block). block_packets bs ++ flat_map block_packets (file_blocks xs)) (sym none) ∙ packets_files xs;
}

-- ---- acts that differ in what they say

pub unsaid_both : (xs ys : List Act) → unsaid (xs ++ ys) ≡ unsaid xs ++ unsaid ys
unsaid_both xs ys = filter-append is_file_act xs ys

pub unsaid_twice : (xs : List Act) → unsaid (unsaid xs) ≡ unsaid xs
unsaid_twice [] = refl
unsaid_twice (Create name ∷ xs) = ap (λ (z : List Act). Create name ∷ z) (unsaid_twice xs)
unsaid_twice (Put b ∷ xs) = ap (λ (z : List Act). Put b ∷ z) (unsaid_twice xs)
unsaid_twice (Finish ∷ xs) = ap (λ (z : List Act). Finish ∷ z) (unsaid_twice xs)
unsaid_twice (Remove name ∷ xs) = ap (λ (z : List Act). Remove name ∷ z) (unsaid_twice xs)
unsaid_twice (Say m ∷ xs) = unsaid_twice xs

pub packets_unsaid : (xs : List Act) → packets_put (unsaid xs) ≡ packets_put xs
packets_unsaid [] = refl
packets_unsaid (Create name ∷ xs) = packets_unsaid xs
packets_unsaid (Put b ∷ xs) = ap (λ (z : List Packet). packet_of (Put b) ++ z) (packets_unsaid xs)
packets_unsaid (Finish ∷ xs) = packets_unsaid xs
packets_unsaid (Remove name ∷ xs) = packets_unsaid xs
packets_unsaid (Say m ∷ xs) = packets_unsaid xs

pub blocks_unsaid : (xs : List Act) → blocks_put (unsaid xs) ≡ blocks_put xs
blocks_unsaid [] = refl
blocks_unsaid (Create name ∷ xs) = refl
blocks_unsaid (Put b ∷ xs) = ap (λ (z : List Block). b ∷ z) (blocks_unsaid xs)
blocks_unsaid (Finish ∷ xs) = blocks_unsaid xs
blocks_unsaid (Remove name ∷ xs) = blocks_unsaid xs
blocks_unsaid (Say m ∷ xs) = blocks_unsaid xs

pub files_unsaid : (xs : List Act) → file_blocks (unsaid xs) ≡ file_blocks xs
files_unsaid [] = refl
files_unsaid (Create name ∷ xs) = ap (λ (z : List Block). z ∷ file_blocks (unsaid xs)) (blocks_unsaid xs) ∙ ap (λ (z : List (List Block)). blocks_put xs ∷ z) (files_unsaid xs)
files_unsaid (Put b ∷ xs) = files_unsaid xs
files_unsaid (Finish ∷ xs) = files_unsaid xs
files_unsaid (Remove name ∷ xs) = files_unsaid xs
files_unsaid (Say m ∷ xs) = files_unsaid xs

-- acts that only say something are quiet
pub quiet_says : (xs : List Act) → unsaid xs ≡ [] → IsQuiet (effects_of_acts xs)
quiet_says [] e = record { none = refl; no_bytes = refl }
quiet_says (Say m ∷ xs) e = let q = quiet_says xs e in record { none = made_said m (effects_of_acts xs) ∙ q.none; no_bytes = put_said m (effects_of_acts xs) ∙ q.no_bytes }
quiet_says (Create name ∷ xs) e = cc
quiet_says (Put b ∷ xs) e = cc
quiet_says (Finish ∷ xs) e = cc
quiet_says (Remove name ∷ xs) e = cc
