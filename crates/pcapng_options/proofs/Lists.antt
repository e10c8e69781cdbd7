-- A list of options has one reading.
use Rattle.std.proofs.Common.{◌≡◌, ℕ, zero, suc, ◌+◌, ◌-◌, ◌<◌, ◌≤◌, List, [], ◌∷◌, ◌++◌, length, take, drop, Result, Ok, Err, refl, ap, sym, subst, ◌∙◌, arith, append_assoc, zero-add, drop-drop}
use Rattle.std.proofs.lemmas.List.{length-append, length-drop, take-append-drop, append-nil, drop_at}
use Rattle.cap_base.specs.declared.numbers.Order.{Order}
use Rattle.cap_base.specs.declared.notes.Note.{Note}
use Rattle.pcapng_options.specs.declared.front.Front.{Front}
use Rattle.pcapng_options.specs.declared.front.Front.TheVariants as front
use Rattle.pcapng_options.specs.Options.{BeginsWith, AreOptions}
use Rattle.pcapng_options.specs.Reading.{option_front, whole_length, option_of, behind, decided, options_from, options_at, options_in}
use Rattle.pcapng_options.specs.Laws.{OneList, OptionsAreRead, ReadAreOptions, RunsOverIsRead, ReadRunsOver}
use Rattle.pcapng_options.proofs.Fronts.{whole_option, over_option, ended_option, is_over, is_ended, option_is_whole, option_is, whole_is_option}

-- ---- turns enough

one_turn : (n m : ℕ) (order : Order) (at : ℕ) (text : List ℕ) → length text < suc n → length text < suc m
    → ((at : ℕ) (text : List ℕ) → length text < n → length text < m → options_from n order at text ≡ options_from m order at text)
    → (f : Front) → option_front order text ≡ f
    → decided f at (λ code len. behind (option_of code len text ∷ []) (options_from n order (at + whole_length len) (drop (whole_length len) text)))
    ≡ decided f at (λ code len. behind (option_of code len text ∷ []) (options_from m order (at + whole_length len) (drop (whole_length len) text)))
one_turn n m order at text p q ih front.Ended is = refl
one_turn n m order at text p q ih front.Over is = refl
one_turn n m order at text p q ih (front.Whole code len) is =
    let w = whole_option order text code len is in
    let k = whole_length len in
    let within : k ≤ length text = w.within in
    let least : 4 ≤ k = omega arith in
    let a : length (drop k text) < n = omega (arith, length-drop k text) in
    let b : length (drop k text) < m = omega (arith, length-drop k text) in
    ap (behind (option_of code len text ∷ [])) (ih (at + k) (drop k text) a b)

enough : (n m : ℕ) (order : Order) (at : ℕ) (text : List ℕ) → length text < n → length text < m → options_from n order at text ≡ options_from m order at text
unfolding options_from
enough zero m order at text p q = absurd (omega arith)
enough (suc n) zero order at text p q = absurd (omega arith)
enough (suc n) (suc m) order at text p q = one_turn n m order at text p q (λ at' text' p' q'. enough n m order at' text' p' q') (option_front order text) refl

-- a whole option is one, and the list goes on behind it
pub option_step : (order : Order) (at : ℕ) (text : List ℕ) (code len : ℕ) → option_front order text ≡ front.Whole code len
    → options_at order at text ≡ behind (option_of code len text ∷ []) (options_at order (at + whole_length len) (drop (whole_length len) text))
unfolding options_from options_at
option_step order at text code len is =
    let w = whole_option order text code len is in
    let k = whole_length len in
    let within : k ≤ length text = w.within in
    let least : 4 ≤ k = omega arith in
    let a : length (drop k text) < length text = omega (arith, length-drop k text) in
    rw is (ap (behind (option_of code len text ∷ [])) (enough (length text) (suc (length (drop k text))) order (at + k) (drop k text) a (omega arith)))

pub options_end : (order : Order) (at : ℕ) (text : List ℕ) → option_front order text ≡ front.Ended → options_at order at text ≡ Ok []
unfolding options_from options_at
options_end order at text is = rw is refl

pub options_over : (order : Order) (at : ℕ) (text : List ℕ) → option_front order text ≡ front.Over → options_at order at text ≡ Err at
unfolding options_from options_at
options_over order at text is = rw is refl

-- ---- the reader's loop

behind_behind : (before : List Note) (note : Note) (r : Result (List Note) ℕ) → behind before (behind (note ∷ []) r) ≡ behind (before ++ note ∷ []) r
behind_behind before note (Ok ns) = ap (λ (l : List Note). Ok l) (sym (append_assoc before (note ∷ []) ns))
behind_behind before note (Err at) = refl

-- options were read up to a place
abbrev pub HasRead : Order → List ℕ → ℕ → List Note → Type 0
HasRead order bytes at notes = options_at order 0 bytes ≡ behind notes (options_at order at (drop at bytes))

behind_none : (r : Result (List Note) ℕ) → r ≡ behind [] r
behind_none (Ok ns) = refl
behind_none (Err at) = refl

pub has_read_none : (order : Order) (bytes : List ℕ) → HasRead order bytes 0 []
has_read_none order bytes = behind_none (options_at order 0 bytes)

pub has_read_more : (order : Order) (bytes : List ℕ) (at : ℕ) (notes : List Note) (code len : ℕ) → HasRead order bytes at notes → option_front order (drop at bytes) ≡ front.Whole code len
    → HasRead order bytes (at + whole_length len) (notes ++ option_of code len (drop at bytes) ∷ [])
has_read_more order bytes at notes code len had is =
    had ∙ ap (behind notes) (option_step order at (drop at bytes) code len is) ∙ behind_behind notes (option_of code len (drop at bytes)) _
    ∙ ap (λ (t : List ℕ). behind (notes ++ option_of code len (drop at bytes) ∷ []) (options_at order (at + whole_length len) t)) (drop-drop (whole_length len) at bytes)

pub has_read_all : (order : Order) (bytes : List ℕ) (at : ℕ) (notes : List Note) → HasRead order bytes at notes → option_front order (drop at bytes) ≡ front.Ended → options_in order bytes ≡ Ok notes
has_read_all order bytes at notes had is = had ∙ ap (behind notes) (options_end order at (drop at bytes) is) ∙ ap (λ (l : List Note). Ok l) (append-nil notes)

pub has_read_over : (order : Order) (bytes : List ℕ) (at : ℕ) (notes : List Note) → HasRead order bytes at notes → option_front order (drop at bytes) ≡ front.Over → options_in order bytes ≡ Err at
has_read_over order bytes at notes had is = had ∙ ap (behind notes) (options_over order at (drop at bytes) is)

-- ---- spelled, then read

begins_read : (order : Order) (at : ℕ) (text : List ℕ) (options : List Note) (rest : List ℕ) → BeginsWith order text options rest
    → (at' : ℕ) → at' + length text ≡ at + length rest → (r : Result (List Note) ℕ) → options_at order at rest ≡ r → options_at order at' text ≡ behind options r
begins_read order at text [] rest b at' e r is =
    let same : length text ≡ length rest = ap length b in
    let place : at' ≡ at = omega arith in
    rw (place, b, is) (behind_none r)
begins_read order at text (n ∷ ns) rest b at' e r is =
    let first = b.0 in
    let others = b.1 in
    let o = b.3 in
    let k = whole_length (length n.body) in
    let len : length first ≡ k = o.len in
    let all : length text ≡ length first + length others = ap length b.2 ∙ length-append first others in
    let step = option_step order at' (first ++ others) n.code (length n.body) (option_is_whole order first others n o) in
    let ih = begins_read order at others ns rest b.4 (at' + k) (omega arith) r is in
    ap (options_at order at') b.2 ∙ step ∙ rw (option_is order first others n o, drop_at first others k len, ih) (behind_one n ns r)
  where
    behind_one : (n : Note) (ns : List Note) (r : Result (List Note) ℕ) → behind (n ∷ []) (behind ns r) ≡ behind (n ∷ ns) r
    behind_one n ns (Ok more) = refl
    behind_one n ns (Err at) = refl

begins_length : (order : Order) (text : List ℕ) (options : List Note) (rest : List ℕ) → BeginsWith order text options rest → length rest ≤ length text
begins_length order text [] rest b =
    let same : length text ≡ length rest = ap length b in
    omega arith
begins_length order text (n ∷ ns) rest b =
    let ih : length rest ≤ length b.1 = begins_length order b.1 ns rest b.4 in
    let all : length text ≡ length b.0 + length b.1 = ap length b.2 ∙ length-append b.0 b.1 in
    omega arith

pub options_are_read : OptionsAreRead
options_are_read order text options a =
    let le : length a.rest ≤ length text = begins_length order text options a.rest a.begins in
    let place : 0 + length text ≡ (length text - length a.rest) + length a.rest = omega arith in
    begins_read order (length text - length a.rest) text options a.rest a.begins 0 place (Ok []) (options_end order _ a.rest (is_ended order a.rest a.ends)) ∙ ap (λ (l : List Note). Ok l) (append-nil options)

pub one_list : OneList
one_list order text a b p q =
    let e : (let r : Result (List Note) ℕ = Ok a in r) ≡ Ok b = sym (options_are_read order text a p) ∙ options_are_read order text b q in
    cc

pub runs_over_is_read : RunsOverIsRead
runs_over_is_read order text at o =
    begins_read order at text o.options o.rest o.begins 0 (zero-add (length text) ∙ sym o.place) (Err at) (options_over order at o.rest (is_over order o.rest (record { header = o.header; not_end = o.not_end; over = o.over })))

-- ---- read, then spelled

-- what a reading says of the bytes
abbrev Says : Order → ℕ → List ℕ → Result (List Note) ℕ → Type 0
Says order at text (Ok options) = AreOptions order text options
Says order at text (Err place) = (options : List Note) × (rest : List ℕ) × BeginsWith order text options rest × (place + length rest ≡ at + length text) × (option_front order rest ≡ front.Over)

says_one : (order : Order) (at : ℕ) (text : List ℕ) (code len : ℕ) (r : Result (List Note) ℕ) → option_front order text ≡ front.Whole code len
    → Says order (at + whole_length len) (drop (whole_length len) text) r → Says order at text (behind (option_of code len text ∷ []) r)
says_one order at text code len (Ok ns) is says =
    let w = whole_option order text code len is in
    let k = whole_length len in
    record { rest = says.rest; begins = (take k text, drop k text, sym (take-append-drop k text), whole_is_option order text code len w, says.begins); ends = says.ends }
says_one order at text code len (Err place) is says =
    let w = whole_option order text code len is in
    let k = whole_length len in
    let within : k ≤ length text = w.within in
    let there : place + length says.1 ≡ (at + k) + length (drop k text) = says.3 in
    let here : place + length says.1 ≡ at + length text = omega (arith, length-drop k text) in
    (option_of code len text ∷ says.0, says.1, (take k text, drop k text, sym (take-append-drop k text), whole_is_option order text code len w, says.2), here, says.4)

says_all : (n : ℕ) (order : Order) (at : ℕ) (text : List ℕ) (f : Front) → length text < n → option_front order text ≡ f → Says order at text (options_at order at text)
says_all zero order at text f lt is = absurd (omega arith)
says_all (suc n) order at text front.Ended lt is = subst (Says order at text) (sym (options_end order at text is)) (record { rest = text; begins = refl; ends = ended_option order text is })
says_all (suc n) order at text front.Over lt is = subst (Says order at text) (sym (options_over order at text is)) ([], text, refl, refl, is)
says_all (suc n) order at text (front.Whole code len) lt is =
    let w = whole_option order text code len is in
    let k = whole_length len in
    let within : k ≤ length text = w.within in
    let shorter : length (drop k text) < n = omega (arith, length-drop k text) in
    let ih = says_all n order (at + k) (drop k text) (option_front order (drop k text)) shorter refl in
    subst (Says order at text) (sym (option_step order at text code len is)) (says_one order at text code len _ is ih)

says : (order : Order) (text : List ℕ) → Says order 0 text (options_in order text)
says order text = says_all (suc (length text)) order 0 text (option_front order text) (omega arith) refl

pub read_are_options : ReadAreOptions
read_are_options order text options is = subst (Says order 0 text) is (says order text)

pub read_runs_over : ReadRunsOver
read_runs_over order text at is =
    let s : Says order 0 text (Err at) = subst (Says order 0 text) is (says order text) in
    let o = over_option order s.1 s.4 in
    record { options = s.0; rest = s.1; begins = s.2; place = s.3 ∙ zero-add (length text); header = o.header; not_end = o.not_end; over = o.over }
