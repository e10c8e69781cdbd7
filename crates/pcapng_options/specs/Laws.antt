-- What holds of lists of options.
use Rattle.std.specs.Prelude.{ℕ, ◌≡◌, ◌≢◌, ◌<◌, ◌≤◌, ◌^◌, List, length, All, Ok, Err}
use Rattle.cap_base.specs.declared.notes.Note.{Note}
use Rattle.cap_base.specs.declared.numbers.Order.{Order}
use Rattle.cap_base.specs.declared.numbers.Order.TheVariants.{Little}
use Rattle.pcapng_options.specs.Options.{AreOptions, RunsOver}
use Rattle.pcapng_options.specs.Reading.{options_in}
use Rattle.pcapng_options.specs.Spelling.{options_text}

-- bytes are a list of one list of options only
abbrev pub OneList : Type 0
OneList = (order : Order) (text : List ℕ) (a b : List Note) → AreOptions order text a → AreOptions order text b → a ≡ b

-- the options that a list is spelled of are read, and only these
abbrev pub OptionsAreRead : Type 0
OptionsAreRead = (order : Order) (text : List ℕ) (options : List Note) → AreOptions order text options → options_in order text ≡ Ok options

abbrev pub ReadAreOptions : Type 0
ReadAreOptions = (order : Order) (text : List ℕ) (options : List Note) → options_in order text ≡ Ok options → AreOptions order text options

-- a fault is answered where an option runs over the end, and only there
abbrev pub RunsOverIsRead : Type 0
RunsOverIsRead = (order : Order) (text : List ℕ) (at : ℕ) → RunsOver order text at → options_in order text ≡ Err at

abbrev pub ReadRunsOver : Type 0
ReadRunsOver = (order : Order) (text : List ℕ) (at : ℕ) → options_in order text ≡ Err at → RunsOver order text at

-- what a note can be so that it is read back
pub record CanSpell (n : Note) : Type 0 where
  pub code : n.code < 2 ^ 16
  pub not_end : n.code ≢ 0
  pub body : length n.body ≤ 65535

abbrev pub SpelledIsRead : Type 0
SpelledIsRead = (notes : List Note) → All CanSpell notes → options_in Little (options_text notes) ≡ Ok notes
