-- A desk that is told a history's entries one by one, and whose acts are all taken.
use Rattle.std.specs.Prelude.{◌≡◌, ◌≤◌, Bool, true, false, if◌then◌else◌, List, [], length}
use Rattle.cap_base.specs.declared.settings.Settings.{Settings}
use Rattle.cap_base.specs.declared.entries.Entry.{Entry}
use Rattle.cap_base.specs.declared.entries.Entry.TheVariants as entry
use Rattle.cap_base.specs.declared.entries.Why.{Why}
use Rattle.cap_base.specs.declared.entries.Why.TheVariants as why
use Rattle.capture_desk.specs.declared.acts.Act.{Act}
use Rattle.capture_desk.specs.Past.{Past, ◌▹◌, is_own}
use Rattle.capture_desk.specs.Files.{begun}
use Rattle.capture_desk.specs.Acts.{acts, names}
use Rattle.capture_desk.specs.Laws.{AreMade}
use Rattle.capture_desk.specs.Orderly.{Follows}
use Rattle.capture_desk.specs.Seen.{Seen, StandsFor}

-- a Stop for want of memory
abbrev pub is_silence : Entry → Bool
is_silence (entry.Stop why.NoMemory lost) = true
is_silence other = false

-- not for want of memory
abbrev pub IsTold : Why → Type 0
IsTold why.NoMemory = ⊥
IsTold other = Unit {0}

-- the desk was told these entries, and gave all their acts
pub record Gave (d : Seen) (past : Past) (out : List Act) : Type 0 where
  pub stands : StandsFor d past
  pub none : d.waiting ≡ []
  pub all : out ≡ acts d.settings past
  pub made : AreMade d.made (names d.settings past)
  pub named : begun past ≡ true → 1 ≤ length (names d.settings past)

-- with one entry more, where it is the writer's
abbrev pub with_own : Past → Entry → Past
with_own past e = if is_own e then past ▹ e else past

-- an entry of the writer follows rightly
abbrev pub MayTell : Settings → Past → Entry → Type 0
MayTell s past e = is_own e ≡ true → Follows s past e

-- after one entry more, of the writer or not
pub record Replays (old : Seen) (before : List Act) (new : Seen) (behind : List Act) (e : Entry) : Type 0 where
  pub settings : new.settings ≡ old.settings
  pub gave : (past : Past) → Gave old past before → MayTell old.settings past e → Gave new (with_own past e) behind
