-- The statistics at the end of each file.
use Rattle.std.specs.Prelude.{◌≡◌, ℕ, List, [], ◌∷◌, ◌++◌}
use Rattle.std.specs.List.{All}
use Rattle.cap_base.specs.Effects.{Effect, created, byte, finished}
use Rattle.cap_base.specs.Histories.{History}
use Rattle.cap_base.specs.Fates.{counts}
use Rattle.cap_base.specs.Laws.{IsWriters}
use Rattle.cap_base.specs.declared.entries.Entry.TheVariants as E
use Rattle.pcapng_blocks.specs.declared.block.Block.{Block}
use Rattle.capture_desk.specs.Files.{text, ifaces}
use Rattle.capture_desk.specs.Acts.{tail}
use Rattle.capture_core.specs.Writers.{writers_past, EndsBehindDone}

-- at each finish of a file this holds of the bytes that were put into it
abbrev pub AtEachFinish : (List ℕ → Type 0) → List ℕ → List Effect → Type 0
AtEachFinish P bytes [] = Unit {0}
AtEachFinish P bytes (created name ∷ more) = AtEachFinish P [] more
AtEachFinish P bytes (byte b ∷ more) = AtEachFinish P (bytes ++ b ∷ []) more
AtEachFinish P bytes (finished ∷ more) = P bytes × AtEachFinish P bytes more
AtEachFinish P bytes (other ∷ more) = AtEachFinish P bytes more

-- A Tally of the history: the entries before it, and its moment. Its counts are those of these entries.
pub record IsTallied (sources : ℕ) (h before : History) (now : ℕ) : Type 0 where
  pub behind : History
  pub stands : h ≡ (before ++ (sources, E.Tally now (counts before)) ∷ []) ++ behind
  -- where Done stands before it, and no source has an entry behind it, they are those of the whole history
  pub final : EndsBehindDone sources before → All IsWriters behind → counts before ≡ counts h

-- The bytes end with the statistics of each interface that was described: the counts of a Tally, at its moment.
pub record EndsWithCounts (sources : ℕ) (h : History) (bytes : List ℕ) : Type 0 where
  pub before : History
  pub now : ℕ
  pub tally : IsTallied sources h before now
  pub front : List Block
  pub is : bytes ≡ text (front ++ tail (ifaces (writers_past sources before)) now (counts before))
