-- The writer's part of a history.
use Rattle.std.specs.Prelude.{◌≡◌, ℕ, true, false, List, [], ◌∷◌, ◌++◌}
use Rattle.std.specs.List.{All}
use Rattle.cap_base.specs.Callers.{own}
use Rattle.cap_base.specs.Histories.{History, is_end, has_end}
use Rattle.cap_base.specs.Laws.{IsWriters}
use Rattle.cap_base.specs.declared.entries.Taken.TheVariants as T
use Rattle.cap_base.specs.declared.entries.Entry.{Entry}
use Rattle.cap_base.specs.declared.entries.Entry.TheVariants as E
use Rattle.capture_desk.specs.Past.{Past, past}

-- the writer's entries, whose number is behind those of the sources
abbrev pub writers_past : ℕ → History → Past
writers_past sources h = past (own sources h)

-- A Take was answered Done, and behind it only the writer has entries.
pub record EndsBehindDone (sources : ℕ) (h : History) : Type 0 where
  pub before : History
  pub now : ℕ
  pub behind : History
  pub parts : h ≡ (before ++ (sources, E.Take now T.Done) ∷ []) ++ behind
  pub writers : All IsWriters behind

-- A source's entries: one End, and it is the last.
pub record EndsOnce (entries : List Entry) : Type 0 where
  pub front : List Entry
  pub last : Entry
  pub parts : entries ≡ front ++ last ∷ []
  pub ends : is_end last ≡ true
  pub none_before : has_end front ≡ false
