-- What is counted behind a trial.
use Rattle.std.specs.Prelude.{ℕ, ◌+◌, List, [], ◌∷◌}
use Rattle.std.specs.List.{sum_by}
use Rattle.cap_base.specs.Effects.{Effect, created}
use Rattle.cap_base.specs.declared.counts.Counts.{Counts}

-- the packets of an interface that were written, dropped or flushed
abbrev pub accounted_by : Counts → ℕ
accounted_by c = c.written + (c.drop + c.flush)

-- those of all interfaces
abbrev pub accounted_in : List Counts → ℕ
accounted_in counts = sum_by accounted_by counts

-- how many files were created
abbrev pub files_in : List Effect → ℕ
files_in [] = 0
files_in (created name ∷ more) = files_in more + 1
files_in (other ∷ more) = files_in more
