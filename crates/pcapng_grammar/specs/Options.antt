-- A list of options in an output file (draft-ietf-opsawg-pcapng, section 3.5).
use Rattle.std.specs.Prelude.{ℕ, zero, suc, ◌+◌, ◌≡◌, ◌⊎◌, ◌==◌, ◌&&◌, ◌||◌, Bool, false, List, [], ◌++◌, length, drop, slice_range, if◌then◌else◌, All}
use Rattle.std.specs.List.{list_all}
use Rattle.std.specs.Int.{w32}
use Rattle.cap_base.specs.Numbers.{field}
use Rattle.cap_base.specs.declared.notes.Note.{Note}
use Rattle.cap_base.specs.declared.numbers.Order.TheVariants.{Little}
use Rattle.pcapng_options.specs.declared.front.Front.{Front}
use Rattle.pcapng_options.specs.declared.front.Front.TheVariants as front
use Rattle.pcapng_options.specs.Reading.{option_front, whole_length}
use Rattle.pcapng_options.specs.Spelling.{notes_text, end_mark}
use Rattle.pcapng_options.specs.Laws.{CanSpell}

-- ---- the relation

-- There are no bytes, or they are the spelling of options and then one opt_endofopt. It may stand without an option.
pub record AreSpelled (text : List ℕ) : Type 0 where
  pub options : List Note
  pub each : All CanSpell options
  pub is : (text ≡ []) ⊎ (text ≡ notes_text options ++ end_mark)

-- ---- the test of bytes for it

abbrev pub are_zero : List ℕ → Bool
are_zero bytes = list_all (λ b. b == 0) bytes

abbrev pub is_end_mark : List ℕ → Bool
is_end_mark text = (length text == 4) && (field Little w32 text 0 == 0)

-- what stands first decides, or what follows a whole option with zero padding
abbrev pub options_and_end_by : Front → List ℕ → (List ℕ → Bool) → Bool
options_and_end_by front.Ended text others = is_end_mark text
options_and_end_by front.Over text others = false
options_and_end_by (front.Whole code len) text others = if are_zero (slice_range text (4 + len) (whole_length len)) then others (drop (whole_length len) text) else false

-- whole options with zero padding, fewer than so many, and then opt_endofopt as the last four bytes
unfoldable pub are_options_and_end : ℕ → List ℕ → Bool
are_options_and_end zero text = false
are_options_and_end (suc n) text = options_and_end_by (option_front Little text) text (λ others. are_options_and_end n others)

unfoldable pub are_options : List ℕ → Bool
are_options text = (length text == 0) || are_options_and_end (suc (length text)) text
