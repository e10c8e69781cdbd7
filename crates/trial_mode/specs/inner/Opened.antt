-- The sources that a trial's capture reads.
use Rattle.std.specs.Prelude.{ℕ, ◌+◌, ◌≡◌, List, [], ◌∷◌, IsSomeAnd}
use Rattle.cap_outside.specs.SureSource.{IsNew}
use Rattle.cap_outside.specs.declared.source.SureSource.{SureSource}
use Rattle.cap_outside.specs.declared.opened.Opened.{Opened}
use Rattle.trial_mode.specs.Streams.{Streams, stream_of, source_name}

-- a source in memory that has a stream, of which nothing was read, under its name
pub record IsOpened (streams : Streams) (which : ℕ) (o : Opened SureSource) : Type 0 where
  pub name : o.name ≡ source_name which
  pub source : IsSomeAnd o.source (λ s. IsNew (stream_of streams which) [] s)

-- one for each stream, from a number on
abbrev pub AreOpened : Streams → ℕ → List (Opened SureSource) → Type 0
AreOpened streams which [] = Unit {0}
AreOpened streams which (o ∷ os) = IsOpened streams which o × AreOpened streams (which + 1) os
