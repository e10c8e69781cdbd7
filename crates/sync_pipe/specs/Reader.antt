-- What a reader of messages keeps, and the bytes and messages that it stands for.
use Rattle.std.specs.Prelude.{◌≡◌, ℕ, ◌+◌, ◌-◌, ◌≤◌, min, Bool, true, false, if◌then◌else◌, Option, Some, None, List, [], ◌∷◌, ◌++◌, length}
use Rattle.sync_pipe.specs.declared.said.Said.{Said}
use Rattle.sync_pipe.specs.declared.reader.Heard.{Heard}
use Rattle.sync_pipe.specs.declared.reader.Heard.TheVariants as answer
use Rattle.cap_base.specs.Feeding as feeding
use Rattle.cap_base.specs.Feeding.{Position}
use Rattle.sync_pipe.specs.Heard.{Hearing, heard, heard_at}
use Rattle.sync_pipe.specs.Messages.{IsCut}

-- what is seen of a reader: the place of the kept bytes among all bytes fed, whether the message there has a defect, and
-- the kept bytes
pub record Reader : Type 0 where
  pub place : ℕ
  pub broken : Bool
  pub kept : List ℕ

-- what it is going to hear of the bytes from its place on
unfoldable pub continues : Reader → List ℕ → Hearing
continues reader text = if reader.broken then ([], Some reader.place) else heard_at reader.place text

-- how many bytes were fed
abbrev pub fed_count : Reader → ℕ
fed_count reader = reader.place + length reader.kept

-- where the reader stands in the text that it reads
abbrev pub position : Reader → Position Said (Option ℕ)
position reader = record { reading = heard; place = reader.place; kept = reader.kept; onward = continues reader }

-- the reader was fed these bytes and gave these messages
abbrev pub StandsFor : Reader → List ℕ → List Said → Type 0
StandsFor reader fed given = feeding.StandsFor (position reader) fed given

-- these bytes were fed
abbrev pub Feeds : Reader → Reader → List ℕ → Type 0
Feeds old new bytes = feeding.Feeds (position old) (position new) bytes

-- these messages were given
abbrev pub Gives : Reader → Reader → List Said → Type 0
Gives old new more = feeding.Gives (position old) (position new) more

-- all messages of the bytes fed were given, and this is their defect
abbrev pub EndsAs : Reader → Option ℕ → Type 0
EndsAs reader defect = feeding.EndsAs (position reader) (λ d. d ≡ defect)

-- no defect was met, and less than a whole message is kept
pub record IsDrained (reader : Reader) : Type 0 where
  pub good : reader.broken ≡ false
  pub cut : IsCut reader.kept
  pub few : length reader.kept ≤ 65539

-- the message at this place has a defect
pub record IsBroken (reader : Reader) (at : ℕ) : Type 0 where
  pub broken : reader.broken ≡ true
  pub place : reader.place ≡ at

-- what an answer means
abbrev pub Answers : Reader → Reader → Heard → Type 0
Answers old new (answer.Said said) = Gives old new (said ∷ [])
Answers old new answer.More = Gives old new [] × IsDrained new × EndsAs new None
Answers old new (answer.Bad at) = Gives old new [] × IsBroken new at × EndsAs new (Some at)

-- a reader that was fed nothing
abbrev pub fresh : Reader
fresh = record { place = 0; broken = false; kept = [] }

-- how many of so many bytes it takes: none after a defect
abbrev pub taken : Reader → ℕ → ℕ
taken reader len = if reader.broken then 0 else min len (131072 - length reader.kept)

-- more bytes are kept
abbrev pub with_kept : Reader → List ℕ → Reader
with_kept reader more = record reader { kept = reader.kept ++ more }
