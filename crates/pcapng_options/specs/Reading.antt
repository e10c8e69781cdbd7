-- The options of a list, or the place of the one that runs over the end.
use Rattle.std.specs.Prelude.{ℕ, zero, suc, ◌+◌, ◌≡◌, ◌≤◌, ◌==◌, List, [], ◌∷◌, ◌++◌, length, take, drop, nat_lt, Result, Ok, Err, if◌then◌else◌}
use Rattle.std.specs.Int.{w16}
use Rattle.cap_base.specs.Numbers.{field, padding}
use Rattle.cap_base.specs.declared.notes.Note.{Note}
use Rattle.cap_base.specs.declared.numbers.Order.{Order}
use Rattle.pcapng_options.specs.declared.front.Front.{Front}
use Rattle.pcapng_options.specs.declared.front.Front.TheVariants as front
use Rattle.pcapng_options.specs.declared.reading.NotesFault.{NotesFault}
use Rattle.pcapng_options.specs.declared.reading.NotesFault.TheVariants as fault

-- how long an option is whose value has a length
abbrev pub whole_length : ℕ → ℕ
whole_length len = 4 + (len + padding len)

-- what stands at the front: the steps decide in this order
unfoldable pub option_front : Order → List ℕ → Front
option_front order text =
    if nat_lt (length text) 4 then front.Ended else
    if field order w16 text 0 == 0 then front.Ended else
    if nat_lt (length text) (whole_length (field order w16 text 2)) then front.Over else
    front.Whole (field order w16 text 0) (field order w16 text 2)

-- a whole option lies within the bytes
abbrev pub LiesWithin : List ℕ → Front → Type 0
LiesWithin text (front.Whole code len) = (whole_length len ≤ length text) × (len ≤ 65535)
LiesWithin text other = Unit {0}

-- the option at the front, of which the code and the length of the value are known
abbrev pub option_of : ℕ → ℕ → List ℕ → Note
option_of code len text = record { code = code; body = take len (drop 4 text) }

-- the options of a list behind others
abbrev pub behind : List Note → Result (List Note) ℕ → Result (List Note) ℕ
behind before (Ok options) = Ok (before ++ options)
behind before (Err at) = Err at

-- what the front decides at a place, or what comes behind a whole option
abbrev pub decided : Front → ℕ → (ℕ → ℕ → Result (List Note) ℕ) → Result (List Note) ℕ
decided front.Ended at others = Ok []
decided front.Over at others = Err at
decided (front.Whole code len) at others = others code len

-- the first n options of a list that goes on at a place
unfoldable pub options_from : ℕ → Order → ℕ → List ℕ → Result (List Note) ℕ
options_from zero order at text = Ok []
options_from (suc n) order at text = decided (option_front order text) at (λ code len. behind (option_of code len text ∷ []) (options_from n order (at + whole_length len) (drop (whole_length len) text)))

-- all of them: each takes a byte at least
unfoldable pub options_at : Order → ℕ → List ℕ → Result (List Note) ℕ
options_at order at text = options_from (suc (length text)) order at text

abbrev pub options_in : Order → List ℕ → Result (List Note) ℕ
options_in order text = options_at order 0 text

-- an answer is the reading of the list, unless memory ran out
abbrev pub Reads : Result (List Note) NotesFault → Result (List Note) ℕ → Type 0
Reads (Ok options) reading = reading ≡ Ok options
Reads (Err (fault.Bad at)) reading = reading ≡ Err at
Reads (Err fault.NoMemory) reading = Unit {0}
