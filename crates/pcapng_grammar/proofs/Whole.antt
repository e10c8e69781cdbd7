-- The bytes of a block are read as that block, whatever follows them, and what is read is a block's bytes.
use Rattle.std.proofs.Common.{◌≡◌, ℕ, ◌+◌, ◌-◌, ◌%◌, ◌≤◌, Bool, true, false, cond, eqb, ltb, ◌&&◌, List, ◌++◌, length, take, Result, Ok, Err, refl, ap, sym, subst, ◌∙◌, arith}
use Rattle.std.specs.Int.{w32}
use Rattle.std.proofs.lemmas.List.{length-take, length-append, take_at}
use Rattle.std.proofs.lemmas.Bool.{eqb-true, eq-eqb, le-ltb, ltb-false}
use Rattle.cap_base.specs.Numbers.{field}
use Rattle.cap_base.specs.declared.numbers.Order.{Order}
use Rattle.cap_base.specs.declared.numbers.Order.TheVariants.{Little}
use Rattle.cap_base.specs.declared.endings.Code.{Code}
use Rattle.cap_base.specs.declared.endings.Code.TheVariants as code
use Rattle.pcapng_options.proofs.Fronts.{field-take, field-append}
use Rattle.pcapng_blocks.specs.declared.frame.Frame.{Frame}
use Rattle.pcapng_blocks.specs.declared.frame.Frame.TheVariants as frames
use Rattle.pcapng_blocks.specs.Frames.{is_section_header, framed}
use Rattle.pcapng_grammar.specs.declared.blocks.FileBlock.{FileBlock}
use Rattle.pcapng_grammar.specs.declared.blocks.FileBlock.TheVariants as block
use Rattle.pcapng_grammar.specs.declared.fault.What.{What}
use Rattle.pcapng_grammar.specs.declared.fault.What.TheVariants as what
use Rattle.pcapng_grammar.specs.Blocks.{is_section_header_block, is_interface_description, is_enhanced_packet, is_interface_statistics, counted_in, if_valid, block_by_type, with_length, by_frame, block_at, IsFileBlock}

-- ---- frames

abbrev chain : Bool → Bool → Bool → Bool → Bool → ℕ → Frame
chain a b c d e len = cond a (frames.Wrong code.Length) (cond b (cond c (frames.Wrong code.Length) (cond d frames.Short (cond e (frames.Whole Little len) (frames.Wrong code.Trailer)))) (frames.Wrong code.Length))

chain_whole : (a b c d e : Bool) (len : ℕ) (own : Order) (k : ℕ) → chain a b c d e len ≡ frames.Whole own k → (a ≡ false) × (b ≡ true) × (c ≡ false) × (d ≡ false) × (e ≡ true) × (k ≡ len)
chain_whole true b c d e len own k is = absurd cc
chain_whole false false c d e len own k is = absurd cc
chain_whole false true true d e len own k is = absurd cc
chain_whole false true false true e len own k is = absurd cc
chain_whole false true false false false len own k is = absurd cc
chain_whole false true false false true len own k is = (refl, refl, refl, refl, refl, cc)

-- both lengths of whole bytes
record WholeFrame (text : List ℕ) (len : ℕ) : Type 0 where
  least : 12 ≤ len
  words : len % 4 ≡ 0
  most : len ≤ 16777216
  within : len ≤ length text
  first : field Little w32 text 4 ≡ len
  second : field Little w32 text (len - 4) ≡ len

framed_whole : (text : List ℕ) (own : Order) (len : ℕ) → framed Little text ≡ frames.Whole own len → WholeFrame text len
unfolding framed
framed_whole text own len is =
    let n = field Little w32 text 4 in
    let w = chain_whole (ltb n 12) (eqb (n % 4) 0) (ltb 16777216 n) (ltb (length text) n) (eqb (field Little w32 text (n - 4)) n) n own len is in
    let same : len ≡ n = w.5 in
    rw same (record {
      least = ltb-false n 12 w.0;
      words = eqb-true (n % 4) 0 w.1;
      most = ltb-false 16777216 n w.2;
      within = ltb-false (length text) n w.3;
      first = refl;
      second = eqb-true (field Little w32 text (n - 4)) n w.4;
    })

whole_framed : (text : List ℕ) (len : ℕ) → WholeFrame text len → framed Little text ≡ frames.Whole Little len
unfolding framed
whole_framed text len w =
    let p : ltb len 12 ≡ false = le-ltb len 12 w.least in
    let q : eqb (len % 4) 0 ≡ true = eq-eqb (len % 4) 0 w.words in
    let r : ltb 16777216 len ≡ false = le-ltb 16777216 len w.most in
    let s : ltb (length text) len ≡ false = le-ltb (length text) len w.within in
    let t : eqb len len ≡ true = eq-eqb len len refl in
    rw (w.first, w.second, p, q, r, s, t) refl

-- ---- the section header

abbrev pub is_header : FileBlock → Bool
is_header block.Section = true
is_header other = false

lawful_is : (b : Bool) (made read : FileBlock) → if_valid b made ≡ Ok read → (b ≡ true) × (made ≡ read)
lawful_is true made read e = (refl, cc)
lawful_is false made read e = absurd cc

kinds : (text : List ℕ) (b : FileBlock) (k1 k2 k3 k4 s d p t : Bool) (packet statistics : FileBlock) → is_header packet ≡ false → is_header statistics ≡ false
    → cond k1 (if_valid s block.Section) (cond k2 (if_valid d block.Description) (cond k3 (if_valid p packet) (cond k4 (if_valid t statistics) (Err what.Kind)))) ≡ Ok b → is_header b ≡ k1
kinds text b true k2 k3 k4 s d p t packet statistics a c e = ap is_header (sym (lawful_is s block.Section b e).1)
kinds text b false true k3 k4 s d p t packet statistics a c e = ap is_header (sym (lawful_is d block.Description b e).1)
kinds text b false false true k4 s d p t packet statistics a c e = ap is_header (sym (lawful_is p packet b e).1) ∙ a
kinds text b false false false true s d p t packet statistics a c e = ap is_header (sym (lawful_is t statistics b e).1) ∙ c
kinds text b false false false false s d p t packet statistics a c e = absurd cc

content_header : (text : List ℕ) (b : FileBlock) → block_by_type text ≡ Ok b → is_header b ≡ is_section_header text
unfolding block_by_type
content_header text b e =
    let kind = field Little w32 text 0 in
    kinds text b (eqb kind 0x0A0D0D0A) (eqb kind 1) (eqb kind 6) (eqb kind 5) (is_section_header_block text) (is_interface_description text) (is_enhanced_packet text) (is_interface_statistics text)
    (block.Packet (field Little w32 text 8)) (block.Statistics (field Little w32 text 8) (counted_in text)) refl refl e

-- ---- the place

abbrev at_place : Bool → Bool → Bool → Bool → Result (FileBlock × ℕ) What → Result (FileBlock × ℕ) What
at_place short start header magic r = cond short (Err what.Short) (cond start (cond header (cond magic r (Err what.Order)) (Err what.NoSection)) (cond header (Err what.SecondSection) r))

at_place_ok : (short start header magic : Bool) (r : Result (FileBlock × ℕ) What) (x : FileBlock × ℕ) → at_place short start header magic r ≡ Ok x → (r ≡ Ok x) × (header ≡ start)
at_place_ok true start header magic r x e = absurd cc
at_place_ok false true true true r x e = (e, refl)
at_place_ok false true true false r x e = absurd cc
at_place_ok false true false magic r x e = absurd cc
at_place_ok false false true magic r x e = absurd cc
at_place_ok false false false magic r x e = (e, refl)

ok_at_place : (start header magic : Bool) (r : Result (FileBlock × ℕ) What) → header ≡ start → (header ≡ true → magic ≡ true) → at_place false start header magic r ≡ r
ok_at_place true true true r e m = refl
ok_at_place true true false r e m = absurd (let both : false ≡ true = m refl in cc)
ok_at_place true false magic r e m = absurd cc
ok_at_place false true magic r e m = absurd cc
ok_at_place false false magic r e m = refl

-- ---- what is read is a block

pub record IsRead (at : ℕ) (text : List ℕ) (b : FileBlock) (len : ℕ) : Type 0 where
  pub within : len ≤ length text
  pub least : 12 ≤ len
  pub block : IsFileBlock (take len text) b
  pub header : is_header b ≡ eqb at 0

with_length_ok : (k : ℕ) (r : Result FileBlock What) (b : FileBlock) (len : ℕ) → with_length k r ≡ Ok (b, len) → (r ≡ Ok b) × (k ≡ len)
with_length_ok k (Ok x) b len e =
    let p : (let y : FileBlock × ℕ = (x, k) in y) ≡ (b, len) = cc in
    (ap (λ (y : FileBlock × ℕ). Ok y.0) p, ap (λ (y : FileBlock × ℕ). y.1) p)
with_length_ok k (Err w) b len e = absurd cc

wrong_is_none : (c : Code) (text : List ℕ) (x : FileBlock × ℕ) → by_frame (frames.Wrong c) text ≡ Ok x → ⊥
wrong_is_none code.Trailer text x e = cc
wrong_is_none other text x e = cc

read_by : (at : ℕ) (text : List ℕ) (b : FileBlock) (len : ℕ) (f : Frame) → framed Little text ≡ f → by_frame f text ≡ Ok (b, len) → is_section_header text ≡ eqb at 0 → IsRead at text b len
read_by at text b len frames.Short is read header = absurd cc
read_by at text b len (frames.Wrong c) is read header = absurd (wrong_is_none c text (b, len) read)
read_by at text b len (frames.Whole own k) is read header =
    let m = with_length_ok k (block_by_type (take k text)) b len read in
    let w = framed_whole text own k is in
    let least : 12 ≤ k = w.least in
    let inside : k ≤ length text = w.within in
    let long : length (take k text) ≡ k = omega (arith, length-take k text) in
    let start : is_section_header (take k text) ≡ is_section_header text = ap (λ (n : ℕ). eqb n 0x0A0D0D0A) (field-take Little w32 k text 0 (omega arith) inside) in
    subst (λ (n : ℕ). IsRead at text b n) m.1 (record {
      within = inside;
      least = least;
      block = record {
        least = omega arith;
        most = let most : k ≤ 16777216 = w.most in omega arith;
        words = ap (λ (n : ℕ). n % 4) long ∙ w.words;
        first_length = field-take Little w32 k text 4 (omega arith) inside ∙ w.first ∙ sym long;
        second_length = ap (λ (n : ℕ). field Little w32 (take k text) (n - 4)) long ∙ field-take Little w32 k text (k - 4) (omega arith) inside ∙ w.second ∙ sym long;
        holds = m.0;
      };
      header = content_header (take k text) b m.0 ∙ start ∙ header;
    })

pub read_is_block : (at : ℕ) (text : List ℕ) (b : FileBlock) (len : ℕ) → block_at at text ≡ Ok (b, len) → IsRead at text b len
unfolding block_at
read_is_block at text b len e =
    let p = at_place_ok (ltb (length text) 12) (eqb at 0) (is_section_header text) (eqb (field Little w32 text 8) 0x1A2B3C4D) (by_frame (framed Little text) text) (b, len) e in
    read_by at text b len (framed Little text) refl p.0 p.1

-- ---- a block is read

and_true : (a b c d e : Bool) → (a && b && c && d && e) ≡ true → b ≡ true
and_true true true c d e is = refl
and_true true false c d e is = absurd cc
and_true false b c d e is = absurd cc

magic_by : (k1 s : Bool) (b : FileBlock) (other : Result FileBlock What) → cond k1 (if_valid s block.Section) other ≡ Ok b → k1 ≡ true → s ≡ true
magic_by true s b other e k = (lawful_is s block.Section b e).0
magic_by false s b other e k = absurd cc

-- a section header is little-endian
content_magic : (text : List ℕ) (b : FileBlock) → block_by_type text ≡ Ok b → is_section_header text ≡ true → eqb (field Little w32 text 8) 0x1A2B3C4D ≡ true
unfolding block_by_type
content_magic text b e header =
    let s : is_section_header_block text ≡ true = magic_by (is_section_header text) (is_section_header_block text) b _ e header in
    and_true _ (eqb (field Little w32 text 8) 0x1A2B3C4D) _ _ _ s

-- whatever follows, at a place where it may stand
pub block_is_read : (at : ℕ) (first others : List ℕ) (b : FileBlock) → IsFileBlock first b → is_header b ≡ eqb at 0 → block_at at (first ++ others) ≡ Ok (b, length first)
unfolding block_at
block_is_read at first others b is header =
    let text = first ++ others in
    let n = length first in
    let least : 12 ≤ n = is.least in
    let long : length text ≡ n + length others = length-append first others in
    let there : (k : ℕ) → k + 4 ≤ n → field Little w32 text k ≡ field Little w32 first k = λ k le. field-append Little w32 first others k le in
    let w : WholeFrame text n = record {
      least = least;
      words = is.words;
      most = is.most;
      within = omega arith;
      first = there 4 (omega arith) ∙ is.first_length;
      second = there (n - 4) (omega arith) ∙ is.second_length;
    } in
    let front : take n text ≡ first = take_at first others n refl in
    let body : by_frame (framed Little text) text ≡ Ok (b, n) = rw (whole_framed text n w, front, is.holds) refl in
    let same : is_section_header text ≡ is_section_header first = ap (λ (k : ℕ). eqb k 0x0A0D0D0A) (there 0 (omega arith)) in
    let starts : is_section_header text ≡ eqb at 0 = same ∙ sym (content_header first b is.holds) ∙ header in
    let magic : is_section_header text ≡ true → eqb (field Little w32 text 8) 0x1A2B3C4D ≡ true = λ e. ap (λ (k : ℕ). eqb k 0x1A2B3C4D) (there 8 (omega arith)) ∙ content_magic first b is.holds (sym same ∙ e) in
    let enough : ltb (length text) 12 ≡ false = le-ltb (length text) 12 (omega arith) in
    let go : at_place false (eqb at 0) (is_section_header text) (eqb (field Little w32 text 8) 0x1A2B3C4D) (by_frame (framed Little text) text) ≡ by_frame (framed Little text) text = ok_at_place (eqb at 0) (is_section_header text) (eqb (field Little w32 text 8) 0x1A2B3C4D) (by_frame (framed Little text) text) starts magic in
    rw enough (go ∙ body)
