-- The test of options finds exactly those that are spelled.
use Rattle.std.proofs.Common.{◌≡◌, ℕ, zero, suc, ◌+◌, ◌-◌, ◌<◌, ◌≤◌, ◌^◌, Bool, true, false, cond, eqb, ◌&&◌, List, [], ◌∷◌, ◌++◌, length, take, drop, get_or, replicate, refl, ap, sym, subst, ◌∙◌, arith, ◌⊎◌, inl, inr, lit≤, append_assoc, drop-drop}
use Rattle.std.specs.Prelude.{slice_range}
use Rattle.std.specs.List.{All}
use Rattle.std.specs.Int.{w16, w32, from_le_bytes}
use Rattle.std.proofs.lemmas.Nat.{le_bytes_2, le_bytes_4}
use Rattle.std.proofs.lemmas.List.{length-take, length-drop, length-append, length-replicate, take-append-drop, take_at, drop_at}
use Rattle.std.proofs.Math.Seq.{take-length}
use Rattle.std.proofs.lemmas.List.Folds.{drop_split}
use Rattle.std.proofs.lemmas.List.Elements.{All-head, All-tail, All-cons}
use Rattle.std.proofs.lemmas.Bool.{eqb-true}
use Rattle.cap_base.specs.Numbers.{field, padding}
use Rattle.cap_base.specs.declared.notes.Note.{Note}
use Rattle.cap_base.specs.declared.numbers.Order.TheVariants.{Little}
use Rattle.pcapng_options.specs.declared.front.Front.{Front}
use Rattle.pcapng_options.specs.declared.front.Front.TheVariants as front
use Rattle.pcapng_options.specs.Options.{IsOption}
use Rattle.pcapng_options.specs.Reading.{option_front, whole_length, option_of}
use Rattle.pcapng_options.specs.Spelling.{u16, u32, padded_bytes, option, notes_text, end_mark}
use Rattle.pcapng_options.specs.Laws.{CanSpell}
use Rattle.pcapng_options.proofs.Fronts.{whole_option, option_is_whole, is_ended}
use Rattle.pcapng_options.proofs.Lengths.{length-u16}
use Rattle.pcapng_options.proofs.Spelled.{spelled_option, end_mark_is}
use Rattle.pcapng_grammar.specs.Options.{are_zero, is_end_mark, options_and_end_by, are_options_and_end, are_options}
use Rattle.pcapng_grammar.specs.Laws.{OptionsAreSpelled, SpelledAreOptions}
use Rattle.pcapng_grammar.proofs.Marks.{marked_step, none_are_options, some_are_options}

abbrev AreBytes : List ℕ → Type 0
AreBytes text = (k : ℕ) → get_or text k 0 < 256

bytes_drop : (n : ℕ) (text : List ℕ) → AreBytes text → AreBytes (drop n text)
bytes_drop zero text b k = b k
bytes_drop (suc n) [] b k = b k
bytes_drop (suc n) (x ∷ text) b k = bytes_drop n text (λ j. b (suc j)) k

bytes_take : (n : ℕ) (text : List ℕ) → AreBytes text → AreBytes (take n text)
bytes_take zero text b zero = omega arith
bytes_take zero text b (suc k) = omega arith
bytes_take (suc n) [] b k = b k
bytes_take (suc n) (x ∷ text) b zero = b zero
bytes_take (suc n) (x ∷ text) b (suc k) = bytes_take n text (λ j. b (suc j)) k

take_whole : (n : ℕ) (text : List ℕ) → length text ≡ n → take n text ≡ text
take_whole n text e = ap (λ (k : ℕ). take k text) (sym e) ∙ take-length text

-- ---- zeros

zero_by : (x : Bool) (rest : Bool) → (x && rest) ≡ true → (x ≡ true) × (rest ≡ true)
zero_by true rest e = (refl, e)
zero_by false rest e = absurd cc

zeros_are : (xs : List ℕ) → are_zero xs ≡ true → xs ≡ replicate (length xs) 0
zeros_are [] e = refl
zeros_are (x ∷ xs) e =
    let p = zero_by (eqb x 0) (are_zero xs) e in
    let here : x ≡ 0 = eqb-true x 0 p.0 in
    rw here (ap (λ (l : List ℕ). 0 ∷ l) (zeros_are xs p.1))

pub are_zeros : (n : ℕ) → are_zero (replicate n 0) ≡ true
are_zeros zero = refl
are_zeros (suc n) = are_zeros n

-- ---- the test finds what is spelled

can_body : (a b c : ℕ) → a ≡ b → b ≡ c → c < 2 ^ 16 → a ≤ 65535
can_body a b c e1 e2 lt = omega arith

notes_cons : (n : Note) (ns : List Note) → notes_text (n ∷ ns) ≡ option n.code n.body ++ notes_text ns
unfolding notes_text
notes_cons n ns = refl

notes_nil : notes_text [] ≡ []
unfolding notes_text
notes_nil = refl

field_small : (text : List ℕ) (at : ℕ) → AreBytes text → field Little w16 text at < 2 ^ 16
field_small text at bytes =
    let b : AreBytes (take 2 (drop at text)) = bytes_take 2 (drop at text) (bytes_drop at text bytes) in
    let first : get_or (take 2 (drop at text)) 0 0 < 256 = b 0 in
    let second : get_or (take 2 (drop at text)) 1 0 < 256 = b 1 in
    omega arith

five_parts : (text f s body p z rest t2 t4 t5 cd ln : List ℕ) → cd ≡ f → ln ≡ s → z ≡ p → text ≡ f ++ t2 → t2 ≡ s ++ t4 → t4 ≡ body ++ t5 → t5 ≡ p ++ rest → text ≡ (cd ++ (ln ++ (body ++ z))) ++ rest
five_parts text f s body p z rest t2 t4 t5 cd ln a b c d e g h =
    let e1 : (cd ++ (ln ++ (body ++ z))) ++ rest ≡ cd ++ ((ln ++ (body ++ z)) ++ rest) = append_assoc cd (ln ++ (body ++ z)) rest in
    let e2 : (ln ++ (body ++ z)) ++ rest ≡ ln ++ ((body ++ z) ++ rest) = append_assoc ln (body ++ z) rest in
    let e3 : (body ++ z) ++ rest ≡ body ++ (z ++ rest) = append_assoc body z rest in
    cc

-- the bytes of an option are its spelling, where its padding is zero
whole_is_spelled : (text : List ℕ) (code len : ℕ) → AreBytes text → option_front Little text ≡ front.Whole code len → are_zero (slice_range text (4 + len) (whole_length len)) ≡ true
    → text ≡ option code (take len (drop 4 text)) ++ drop (whole_length len) text
unfolding option u16 padded_bytes
whole_is_spelled text code len bytes is zeros =
    let w = whole_option Little text code len is in
    let n = whole_length len in
    let body = take len (drop 4 text) in
    let within : n ≤ length text = w.within in
    let pad = slice_range text (4 + len) n in
    let long : length body ≡ len = omega (arith, length-take len (drop 4 text), length-drop 4 text) in
    let first : u16 code ≡ take 2 text = le_bytes_2 (take 2 text) code (omega (arith, length-take 2 text)) (bytes_take 2 text bytes) w.code_is in
    let second : u16 len ≡ take 2 (drop 2 text) = le_bytes_2 (take 2 (drop 2 text)) len (omega (arith, length-take 2 (drop 2 text), length-drop 2 text)) (bytes_take 2 (drop 2 text) (bytes_drop 2 text bytes)) w.len_is in
    let pad_long : length pad ≡ padding len = omega (arith, length-take (n - (4 + len)) (drop (4 + len) text), length-drop (4 + len) text) in
    let padded : replicate (padding (length body)) 0 ≡ pad = ap (λ (k : ℕ). replicate (padding k) 0) long ∙ ap (λ (k : ℕ). replicate k 0) (sym pad_long) ∙ sym (zeros_are pad zeros) in
    let a : text ≡ take 2 text ++ drop 2 text = sym (take-append-drop 2 text) in
    let b : drop 2 text ≡ take 2 (drop 2 text) ++ drop 4 text = sym (take-append-drop 2 (drop 2 text)) ∙ ap (λ (t : List ℕ). take 2 (drop 2 text) ++ t) (drop-drop 2 2 text) in
    let c : drop 4 text ≡ body ++ drop (4 + len) text = sym (take-append-drop len (drop 4 text)) ∙ ap (λ (t : List ℕ). body ++ t) (drop-drop len 4 text) in
    let d : drop (4 + len) text ≡ pad ++ drop n text = drop_split text (4 + len) n (omega arith) in
    five_parts text (take 2 text) (take 2 (drop 2 text)) body pad (replicate (padding (length body)) 0) (drop n text) (drop 2 text) (drop 4 text) (drop (4 + len) text)
    (u16 code) (u16 (length body)) first (ap (λ (k : ℕ). u16 k) long ∙ second) padded a b c d

abbrev IsMarked : List ℕ → Type 0
IsMarked text = (options : List Note) × All CanSpell options × (text ≡ notes_text options ++ end_mark)

mark_is : (text : List ℕ) → AreBytes text → is_end_mark text ≡ true → text ≡ end_mark
unfolding end_mark u32
mark_is text bytes e =
    let p = zero_by (eqb (length text) 4) (eqb (field Little w32 text 0) 0) e in
    let long : length text ≡ 4 = eqb-true (length text) 4 p.0 in
    let value : field Little w32 text 0 ≡ 0 = eqb-true (field Little w32 text 0) 0 p.1 in
    let four : take 4 text ≡ text = take_whole 4 text long in
    sym (le_bytes_4 text 0 long bytes (sym value ∙ ap (λ (t : List ℕ). from_le_bytes w32 t) four))

if_true : (b x : Bool) → cond b x false ≡ true → (b ≡ true) × (x ≡ true)
if_true true x e = (refl, e)
if_true false x e = absurd cc

spelled_step : (n : ℕ) (text : List ℕ) (f : Front) → AreBytes text → option_front Little text ≡ f → options_and_end_by f text (λ others. are_options_and_end n others) ≡ true
    → ((others : List ℕ) → AreBytes others → are_options_and_end n others ≡ true → IsMarked others) → IsMarked text
spelled_step n text front.Ended bytes is marked each = ([], λ k d lt. absurd (omega arith), mark_is text bytes marked ∙ ap (λ (t : List ℕ). t ++ end_mark) (sym notes_nil))
spelled_step n text front.Over bytes is marked each = absurd cc
spelled_step n text (front.Whole code len) bytes is marked each =
    let p = if_true (are_zero (slice_range text (4 + len) (whole_length len))) (are_options_and_end n (drop (whole_length len) text)) marked in
    let w = whole_option Little text code len is in
    let within : whole_length len ≤ length text = w.within in
    let r = each (drop (whole_length len) text) (bytes_drop (whole_length len) text bytes) p.1 in
    let note : Note = option_of code len text in
    let long : length note.body ≡ len = omega (arith, length-take len (drop 4 text), length-drop 4 text) in
    let code_small : field Little w16 text 0 < 2 ^ 16 = field_small text 0 bytes in
    let len_small : field Little w16 text 2 < 2 ^ 16 = field_small text 2 bytes in
    let code_is : code ≡ field Little w16 text 0 = w.code_is in
    let len_is : len ≡ field Little w16 text 2 = w.len_is in
    let can : CanSpell note = record { code = subst (λ (k : ℕ). k < 2 ^ 16) (sym code_is) code_small; not_end = w.not_end; body = can_body (length note.body) len (field Little w16 text 2) long len_is len_small } in
    let first : text ≡ option code note.body ++ drop (whole_length len) text = whole_is_spelled text code len bytes is p.0 in
    let same : text ≡ option code note.body ++ (notes_text r.0 ++ end_mark) = first ∙ ap (λ (t : List ℕ). option code note.body ++ t) r.2 in
    (note ∷ r.0, All-cons CanSpell note r.0 can r.1, same ∙ sym (append_assoc (option code note.body) (notes_text r.0) end_mark) ∙ ap (λ (t : List ℕ). t ++ end_mark) (sym (notes_cons note r.0)))

marked_zero : (text : List ℕ) → are_options_and_end zero text ≡ true → ⊥
unfolding are_options_and_end
marked_zero text e = cc

spelled_by : (n : ℕ) (text : List ℕ) → AreBytes text → are_options_and_end n text ≡ true → IsMarked text
spelled_by zero text bytes marked = absurd (marked_zero text marked)
spelled_by (suc n) text bytes marked =
    spelled_step n text (option_front Little text) bytes refl (sym (marked_step n text (option_front Little text) refl) ∙ marked) (λ others b m. spelled_by n others b m)

pub options_are_spelled : OptionsAreSpelled
options_are_spelled [] bytes are = record { options = []; each = λ k d lt. absurd (omega arith); is = inl refl }
options_are_spelled (b ∷ text) bytes are =
    let r = spelled_by (suc (length (b ∷ text))) (b ∷ text) bytes (sym (some_are_options (b ∷ text) (λ e. absurd (omega arith))) ∙ are) in
    record { options = r.0; each = r.1; is = inr r.2 }

-- ---- what is spelled is found

marked_end : (n : ℕ) → are_options_and_end (suc n) end_mark ≡ true
unfolding end_mark u32
marked_end n = marked_step n end_mark front.Ended (is_ended Little end_mark (inr (lit≤ tt, refl)))

padding_of : (code : ℕ) (body rest : List ℕ) → slice_range (option code body ++ rest) (4 + length body) (whole_length (length body)) ≡ replicate (padding (length body)) 0
unfolding option padded_bytes
padding_of code body rest =
    let pad : List ℕ = replicate (padding (length body)) 0 in
    let head : List ℕ = u16 code ++ (u16 (length body) ++ body) in
    let long : length head ≡ 4 + length body = simp (length-append, length-u16) (omega arith) in
    let e1 : u16 code ++ (u16 (length body) ++ (body ++ pad)) ≡ head ++ pad = ap (λ (t : List ℕ). u16 code ++ t) (sym (append_assoc (u16 (length body)) body pad)) ∙ sym (append_assoc (u16 code) (u16 (length body) ++ body) pad) in
    let e2 : (u16 code ++ (u16 (length body) ++ (body ++ pad))) ++ rest ≡ head ++ (pad ++ rest) = ap (λ (t : List ℕ). t ++ rest) e1 ∙ append_assoc head pad rest in
    let reversed_onto : drop (4 + length body) ((u16 code ++ (u16 (length body) ++ (body ++ pad))) ++ rest) ≡ pad ++ rest = ap (λ (t : List ℕ). drop (4 + length body) t) e2 ∙ drop_at head (pad ++ rest) (4 + length body) long in
    let count : whole_length (length body) - (4 + length body) ≡ padding (length body) = omega arith in
    ap (λ (k : ℕ). take k (drop (4 + length body) ((u16 code ++ (u16 (length body) ++ (body ++ pad))) ++ rest))) count ∙ ap (λ (t : List ℕ). take (padding (length body)) t) reversed_onto ∙ take_at pad rest (padding (length body)) (length-replicate (padding (length body)) 0)

marked_notes : (n : ℕ) (options : List Note) → All CanSpell options → length (notes_text options ++ end_mark) < n → are_options_and_end n (notes_text options ++ end_mark) ≡ true
marked_notes zero options each lt = absurd (omega arith)
marked_notes (suc n) [] each lt = rw notes_nil (marked_end n)
marked_notes (suc n) (note ∷ options) each lt =
    let first = option note.code note.body in
    let others = notes_text options ++ end_mark in
    let is : notes_text (note ∷ options) ++ end_mark ≡ first ++ others = ap (λ (t : List ℕ). t ++ end_mark) (notes_cons note options) ∙ append_assoc first (notes_text options) end_mark in
    let o : IsOption Little first note = spelled_option note (All-head CanSpell note options each) in
    let long : length first ≡ whole_length (length note.body) = o.len in
    let total : length (notes_text (note ∷ options) ++ end_mark) ≡ length first + length others = ap (λ (l : List ℕ). length l) is ∙ length-append first others in
    let front_is : option_front Little (first ++ others) ≡ front.Whole note.code (length note.body) = option_is_whole Little first others note o in
    let zeros : are_zero (slice_range (first ++ others) (4 + length note.body) (whole_length (length note.body))) ≡ true = ap (λ (l : List ℕ). are_zero l) (padding_of note.code note.body others) ∙ are_zeros (padding (length note.body)) in
    let rest : drop (whole_length (length note.body)) (first ++ others) ≡ others = drop_at first others (whole_length (length note.body)) long in
    let go : are_options_and_end (suc n) (first ++ others) ≡ true = marked_step n (first ++ others) (front.Whole note.code (length note.body)) front_is ∙ rw (zeros, rest) (marked_notes n options (All-tail CanSpell note options each) (omega arith)) in
    rw is go

spelled_is_option : (text : List ℕ) (options : List Note) → All CanSpell options → (text ≡ []) ⊎ (text ≡ notes_text options ++ end_mark) → are_options text ≡ true
spelled_is_option text options each (inl none) = none_are_options text (ap (λ (l : List ℕ). length l) none)
spelled_is_option text options each (inr is) =
    let long : length (notes_text options ++ end_mark) ≡ length (notes_text options) + length end_mark = length-append (notes_text options) end_mark in
    let four : length end_mark ≡ 4 = ap (λ (t : List ℕ). length t) end_mark_is in
    let total : length text ≡ length (notes_text options ++ end_mark) = ap (λ (l : List ℕ). length l) is in
    let marked : are_options_and_end (suc (length text)) (notes_text options ++ end_mark) ≡ true = marked_notes (suc (length text)) options each (omega arith) in
    some_are_options text (λ none. omega arith) ∙ ap (λ (t : List ℕ). are_options_and_end (suc (length text)) t) is ∙ marked

pub spelled_are_options : SpelledAreOptions
spelled_are_options text s = spelled_is_option text s.options s.each s.is
