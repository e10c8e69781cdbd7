-- A file splits into blocks in one way, and these are the ones that are read.
use Rattle.std.proofs.Common.{◌≡◌, ℕ, zero, suc, ◌+◌, ◌<◌, ◌≤◌, ◌^◌, Bool, true, false, cond, eqb, ltb, List, [], ◌∷◌, ◌++◌, length, take, drop, Option, Some, None, Result, Ok, Err, refl, ap, sym, ◌∙◌, arith, ◌⊎◌, inl, inr}
use Rattle.std.proofs.lemmas.List.{length-drop, length-append, drop_at, take-append-drop}
use Rattle.std.proofs.lemmas.Bool.{eqb-true, eq-eqb, ne_eqb, lt-ltb, le-ltb, ltb-true, ltb-false}
use Rattle.pcapng_grammar.specs.declared.blocks.FileBlock.{FileBlock}
use Rattle.pcapng_grammar.specs.declared.blocks.FileBlock.TheVariants as block
use Rattle.std.specs.Prelude.{IfOk}
use Rattle.pcapng_grammar.specs.declared.facts.FileFacts.{FileFacts}
use Rattle.pcapng_grammar.specs.declared.fault.CheckFault.{CheckFault}
use Rattle.pcapng_grammar.specs.declared.fault.CheckFault.TheVariants as fault
use Rattle.pcapng_grammar.specs.declared.fault.What.{What}
use Rattle.pcapng_grammar.specs.declared.fault.What.TheVariants as what
use Rattle.pcapng_grammar.specs.Blocks.{block_at, IsFileBlock}
use Rattle.pcapng_grammar.specs.Files.{description_count, statistics_count, MayFollow, AreBlocks, reversed_onto, HasFacts, facts_of}
use Rattle.pcapng_grammar.specs.Defects.{order_defect, unless, if_in_order, block_in_order, at_end, next_or_defect, blocks_from, blocks_in, defect_of, first_defect, Answers}
use Rattle.pcapng_grammar.specs.inner.Reading.{Reads}
use Rattle.pcapng_grammar.specs.Laws.{FilesHaveNone, NoneAreFiles, FilesAreRead, ReadAreFiles}
use Rattle.pcapng_grammar.proofs.Whole.{is_header, read_is_block, block_is_read}
use Rattle.pcapng_grammar.proofs.Steps.{walk_step, walk_end, length-counts, length-packets}

-- the place is 0 where no block was read, and only there
abbrev IsPlace : List FileBlock → ℕ → Type 0
IsPlace before at = ((at ≡ 0) × (before ≡ [])) ⊎ ((0 < at) × (0 < length before))

-- ---- the order of blocks

cond_none : (b : Bool) (x y : Option What) (w : What) → cond b x (Some w) ≡ None → (b ≡ true) × (x ≡ None)
cond_none true x y w e = (refl, e)
cond_none false x y w e = absurd cc

none_is_lawful : (before : List FileBlock) (at : ℕ) (b : FileBlock) → IsPlace before at → is_header b ≡ eqb at 0 → order_defect (description_count before) (statistics_count before) b ≡ None → MayFollow before b
unfolding order_defect
none_is_lawful before at block.Section (inl p) header e = p.1
none_is_lawful before at block.Section (inr p) header e = absurd (let no : eqb at 0 ≡ false = ne_eqb at 0 (λ z. omega arith) in let both : true ≡ false = header ∙ no in cc)
none_is_lawful before at block.Description (inl p) header e = absurd (let is : eqb at 0 ≡ true = eq-eqb at 0 p.0 in let both : false ≡ true = header ∙ is in cc)
none_is_lawful before at block.Description (inr p) header e =
    let a = cond_none (ltb (description_count before) 256) _ None what.Interface e in
    let c = cond_none (eqb (statistics_count before) 0) None None what.Late a.1 in
    (p.1, ltb-true (description_count before) 256 a.0, eqb-true (statistics_count before) 0 c.0)
none_is_lawful before at (block.Packet number) (inl p) header e = absurd (let is : eqb at 0 ≡ true = eq-eqb at 0 p.0 in let both : false ≡ true = header ∙ is in cc)
none_is_lawful before at (block.Packet number) (inr p) header e =
    let a = cond_none (ltb number (description_count before)) _ None what.Interface e in
    let c = cond_none (eqb (statistics_count before) 0) None None what.Late a.1 in
    (p.1, ltb-true number (description_count before) a.0, eqb-true (statistics_count before) 0 c.0)
none_is_lawful before at (block.Statistics number counts) (inl p) header e = absurd (let is : eqb at 0 ≡ true = eq-eqb at 0 p.0 in let both : false ≡ true = header ∙ is in cc)
none_is_lawful before at (block.Statistics number counts) (inr p) header e =
    let a = cond_none (ltb number (description_count before)) _ None what.Interface e in
    let c = cond_none (eqb number (statistics_count before)) None None what.Statistics a.1 in
    (p.1, ltb-true number (description_count before) a.0, eqb-true number (statistics_count before) c.0)

lawful_has_none : (before : List FileBlock) (b : FileBlock) → MayFollow before b → order_defect (description_count before) (statistics_count before) b ≡ None
unfolding order_defect
lawful_has_none before block.Section l = refl
lawful_has_none before block.Description l = rw (lt-ltb (description_count before) 256 l.1, eq-eqb (statistics_count before) 0 l.2) refl
lawful_has_none before (block.Packet number) l = rw (lt-ltb number (description_count before) l.1, eq-eqb (statistics_count before) 0 l.2) refl
lawful_has_none before (block.Statistics number counts) l = rw (lt-ltb number (description_count before) l.1, eq-eqb number (statistics_count before) l.2) refl

nothing_before : (before : List FileBlock) → before ≡ [] → length before ≡ 0
nothing_before before e = ap (λ (l : List FileBlock). length l) e

lawful_header : (before : List FileBlock) (at : ℕ) (b : FileBlock) → IsPlace before at → MayFollow before b → is_header b ≡ eqb at 0
lawful_header before at block.Section (inl p) l = sym (eq-eqb at 0 p.0)
lawful_header before at block.Section (inr p) l = absurd (let none : length before ≡ 0 = nothing_before before l in let some : 0 < length before = p.1 in omega arith)
lawful_header before at block.Description (inl p) l = absurd (let none : length before ≡ 0 = nothing_before before p.1 in let some : 0 < length before = l.0 in omega arith)
lawful_header before at block.Description (inr p) l = sym (ne_eqb at 0 (λ z. let on : 0 < at = p.0 in omega arith))
lawful_header before at (block.Packet number) (inl p) l = absurd (let none : length before ≡ 0 = nothing_before before p.1 in let some : 0 < length before = l.0 in omega arith)
lawful_header before at (block.Packet number) (inr p) l = sym (ne_eqb at 0 (λ z. let on : 0 < at = p.0 in omega arith))
lawful_header before at (block.Statistics number counts) (inl p) l = absurd (let none : length before ≡ 0 = nothing_before before p.1 in let some : 0 < length before = l.0 in omega arith)
lawful_header before at (block.Statistics number counts) (inr p) l = sym (ne_eqb at 0 (λ z. let on : 0 < at = p.0 in omega arith))

-- ---- a file is read

-- each description has its statistics
abbrev IsAll : List FileBlock → Type 0
IsAll blocks = statistics_count blocks ≡ description_count blocks

no_bytes : (text : List ℕ) → length text ≡ 0 → text ≡ []
no_bytes [] e = refl
no_bytes (b ∷ text) e = absurd (omega arith)

walked_by : (n : ℕ) (before : List FileBlock) (at : ℕ) (text : List ℕ) (blocks : List FileBlock) → length text < n → IsPlace before at → (before ≡ [] → 0 < length blocks)
    → AreBlocks before text blocks → IsAll (reversed_onto before blocks) → blocks_from n before at text ≡ Ok (reversed_onto before blocks)
walked_by zero before at text blocks lt place some are all = absurd (omega arith)
walked_by (suc n) before at text [] lt (inl p) some are all = absurd (let none : 0 < zero = some p.1 in omega arith)
walked_by (suc n) before at text [] lt (inr p) some are all =
    walk_end n before at text p.0 (ap (λ (l : List ℕ). length l) are) ∙ rw (eq-eqb (statistics_count before) (description_count before) all) refl
walked_by (suc n) before at text (b ∷ blocks) lt place some are all =
    let first = are.0 in
    let others = are.1 in
    let is : IsFileBlock first b = are.3 in
    let valid : MayFollow before b = are.4 in
    let least : 12 ≤ length first = is.least in
    let sum : length (first ++ others) ≡ length first + length others = length-append first others in
    let long : length text ≡ length (first ++ others) = ap (λ (l : List ℕ). length l) are.2 in
    let read : block_at at text ≡ Ok (b, length first) = ap (λ (t : List ℕ). block_at at t) are.2 ∙ block_is_read at first others b is (lawful_header before at b place valid) in
    let step : block_in_order (description_count before) (statistics_count before) at text ≡ Ok (b, length first) = rw (read, lawful_has_none before b valid) refl in
    let rest : drop (length first) text ≡ others = ap (λ (t : List ℕ). drop (length first) t) are.2 ∙ drop_at first others (length first) refl in
    walk_step n before at text (inr (omega arith)) ∙ rw (step, rest) (walked_by n (b ∷ before) (at + length first) others blocks (omega arith) (inr (omega arith, omega arith)) (λ e. absurd cc) are.5 all)

pub files_are_read : FilesAreRead
unfolding blocks_in
files_are_read text blocks le file =
    rw (le-ltb (2 ^ 32) (length text) le) (walked_by (suc (length text)) [] 0 text blocks (omega arith) (inl (refl, refl)) (λ e. file.some) file.each file.all)

-- ---- what is read is a file

record IsSplit (before : List FileBlock) (text : List ℕ) (read : List FileBlock) : Type 0 where
  blocks : List FileBlock
  each : AreBlocks before text blocks
  is : read ≡ reversed_onto before blocks
  all : IsAll (reversed_onto before blocks)
  some : before ≡ [] → 0 < length blocks

ended_ok : (b : Bool) (before read : List FileBlock) (defect : What × ℕ) → cond b (Ok before) (Err defect) ≡ Ok read → (b ≡ true) × (read ≡ before)
ended_ok true before read defect e = (refl, cc)
ended_ok false before read defect e = absurd cc

unless_ok : (o : Option What) (b x : FileBlock × ℕ) → unless o b ≡ Ok x → (o ≡ None) × (b ≡ x)
unless_ok None b x e = (refl, cc)
unless_ok (Some w) b x e = absurd cc

placed_ok : (d s : ℕ) (r : Result (FileBlock × ℕ) What) (x : FileBlock × ℕ) → if_in_order d s r ≡ Ok x → (r ≡ Ok x) × (order_defect d s x.0 ≡ None)
placed_ok d s (Ok b) x e =
    let p = unless_ok (order_defect d s b.0) b x e in
    (ap (λ (y : FileBlock × ℕ). Ok y) p.1, ap (λ (y : FileBlock × ℕ). order_defect d s y.0) (sym p.1) ∙ p.0)
placed_ok d s (Err w) x e = absurd cc

split_step : (n : ℕ) (before : List FileBlock) (at : ℕ) (text : List ℕ) (read : List FileBlock) (r : Result (FileBlock × ℕ) What)
    → block_in_order (description_count before) (statistics_count before) at text ≡ r → IsPlace before at → length text < suc n
    → next_or_defect r at (λ b len. blocks_from n (b ∷ before) (at + len) (drop len text)) ≡ Ok read
    → ((before' : List FileBlock) (at' : ℕ) (text' : List ℕ) → length text' < n → IsPlace before' at' → blocks_from n before' at' text' ≡ Ok read → IsSplit before' text' read)
    → IsSplit before text read
split_step n before at text read (Ok x) is place lt e each =
    let p = placed_ok (description_count before) (statistics_count before) (block_at at text) x is in
    let r = read_is_block at text x.0 x.1 p.0 in
    let least : 12 ≤ x.1 = r.least in
    let within : x.1 ≤ length text = r.within in
    let s = each (x.0 ∷ before) (at + x.1) (drop x.1 text) (omega (arith, length-drop x.1 text)) (inr (omega arith, omega arith)) e in
    record {
      blocks = x.0 ∷ s.blocks;
      each = (take x.1 text, drop x.1 text, sym (take-append-drop x.1 text), r.block, none_is_lawful before at x.0 place r.header p.1, s.each);
      is = s.is;
      all = s.all;
      some = λ e'. omega arith;
    }
split_step n before at text read (Err w) is place lt e each = absurd cc

split_end : (before : List FileBlock) (at : ℕ) (read : List FileBlock) → 0 < length before → at_end before at ≡ Ok read → IsSplit before [] read
split_end before at read some e =
    let p = ended_ok (eqb (statistics_count before) (description_count before)) before read (what.Missing, at) e in
    record { blocks = []; each = refl; is = p.1; all = eqb-true (statistics_count before) (description_count before) p.0; some = λ none. absurd (let n : length before ≡ 0 = nothing_before before none in omega arith) }

split_by : (n : ℕ) (before : List FileBlock) (at : ℕ) (text : List ℕ) (read : List FileBlock) → length text < n → IsPlace before at → blocks_from n before at text ≡ Ok read → IsSplit before text read
split_by zero before at text read lt place e = absurd (omega arith)
split_by (suc n) before at text read lt (inl p) e =
    split_step n before at text read (block_in_order (description_count before) (statistics_count before) at text) refl (inl p) lt (sym (walk_step n before at text (inl p.0)) ∙ e)
    (λ before' at' text' lt' place' e'. split_by n before' at' text' read lt' place' e')
split_by (suc n) before at [] read lt (inr p) e = split_end before at read p.1 (sym (walk_end n before at [] p.0 refl) ∙ e)
split_by (suc n) before at (b ∷ text) read lt (inr p) e =
    split_step n before at (b ∷ text) read (block_in_order (description_count before) (statistics_count before) at (b ∷ text)) refl (inr p) lt (sym (walk_step n before at (b ∷ text) (inr (omega arith))) ∙ e)
    (λ before' at' text' lt' place' e'. split_by n before' at' text' read lt' place' e')

long_read : (b : Bool) (r : Result (List FileBlock) (What × ℕ)) (read : List FileBlock) (defect : What × ℕ) → cond b (Err defect) r ≡ Ok read → (b ≡ false) × (r ≡ Ok read)
long_read true r read defect e = absurd cc
long_read false r read defect e = (refl, e)

blocks_read : (text : List ℕ) (read : List FileBlock) → blocks_in text ≡ Ok read → (length text ≤ 2 ^ 32) × IsSplit [] text read
unfolding blocks_in
blocks_read text read e =
    let p = long_read (ltb (2 ^ 32) (length text)) (blocks_from (suc (length text)) [] 0 text) read (what.TooLong, 2 ^ 32) e in
    (ltb-false (2 ^ 32) (length text) p.0, split_by (suc (length text)) [] 0 text read (omega arith) (inl (refl, refl)) p.1)

pub read_are_files : ReadAreFiles
read_are_files text read e =
    let p = blocks_read text read e in
    let s = p.1 in
    (s.blocks, record { some = s.some refl; each = s.each; all = s.all }, s.is)

pub files_have_none : FilesHaveNone
unfolding first_defect
files_have_none text le g = rw (files_are_read text g.blocks le g.file) refl

no_defect : (r : Result (List FileBlock) (What × ℕ)) → defect_of r ≡ None → (read : List FileBlock) × (r ≡ Ok read)
no_defect (Ok read) e = (read, refl)
no_defect (Err defect) e = absurd cc

pub none_are_files : NoneAreFiles
unfolding first_defect
none_are_files text e =
    let p = no_defect (blocks_in text) e in
    let f = read_are_files text p.0 p.1 in
    let l = blocks_read text p.0 p.1 in
    (record { blocks = f.0; file = f.1 }, l.0)

-- ---- answers

pub reads_file : (text : List ℕ) (result : Result FileFacts CheckFault) → Reads result (blocks_in text) → IfOk result (λ f. HasFacts text f)
reads_file text (Ok facts) r =
    let p = read_are_files text r.0 r.1 in
    record { blocks = p.0; file = p.1; are = r.2 ∙ ap (λ (l : List FileBlock). facts_of l) p.2 }
reads_file text (Err f) r = tt

pub reads_defect : (text : List ℕ) (result : Result FileFacts CheckFault) → Reads result (blocks_in text) → Answers result (first_defect text)
unfolding first_defect
reads_defect text (Ok facts) r = rw r.1 refl
reads_defect text (Err (fault.Bad w at)) r = rw r refl
reads_defect text (Err fault.NoMemory) r = tt

-- one entry for each description in each list
pub reads_each : (text : List ℕ) (result : Result FileFacts CheckFault) → Reads result (blocks_in text) → IfOk result (λ f. length f.counts ≡ length f.packets)
reads_each text (Ok facts) r =
    let h = read_are_files text r.0 r.1 in
    let all : statistics_count (reversed_onto [] h.0) ≡ description_count (reversed_onto [] h.0) = h.1.all in
    let counts : length facts.counts ≡ statistics_count r.0 = ap (λ (f : FileFacts). length f.counts) r.2 ∙ length-counts r.0 in
    let packets : length facts.packets ≡ description_count r.0 = ap (λ (f : FileFacts). length f.packets) r.2 ∙ length-packets r.0 in
    counts ∙ ap statistics_count h.2 ∙ all ∙ sym (ap description_count h.2) ∙ sym packets
reads_each text (Err f) r = tt
