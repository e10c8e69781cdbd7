-- What holds of each mode that words without a defect ask for.
use Rattle.std.specs.Prelude.{◌≡◌, ℕ, ◌≤◌, List, [], length}
use Rattle.std.specs.List.{All}
use Rattle.cap_base.specs.declared.limits.TheConstants.{MAX_JOINED_FILES, MAX_READERS, MAX_SOURCES}
use Rattle.cap_base.specs.Lawful.{AreLawful, IsLawfulName}
use Rattle.capture_options.specs.Givens.{Text}
use Rattle.capture_options.specs.Arguments.{most_packets, most_start}
use Rattle.capture_options.specs.Words.{defects, mode_of}
use Rattle.capture_options.specs.declared.mode.Mode.{Mode}
use Rattle.capture_options.specs.declared.mode.Mode.TheVariants as mode

-- the numbers of the generator's streams
pub record AreLawfulStreams (start sources packets : ℕ) : Type 0 where
  pub bounded_start : start ≤ most_start
  pub some_sources : 1 ≤ sources
  pub few_sources : sources ≤ MAX_SOURCES
  pub some_packets : 1 ≤ packets
  pub few_packets : packets ≤ most_packets

-- the files that are joined
pub record AreLawfulNames (names : List Text) : Type 0 where
  pub some : 1 ≤ length names
  pub few : length names ≤ MAX_JOINED_FILES
  pub each : All IsLawfulName names

abbrev pub IsLawfulMode : Mode → Type 0
IsLawfulMode (mode.Capture settings) = AreLawful settings
IsLawfulMode (mode.Classic settings) = AreLawful settings × (length settings.sources ≡ 1)
IsLawfulMode (mode.Follow name) = IsLawfulName name
IsLawfulMode (mode.Check name) = IsLawfulName name
IsLawfulMode (mode.Make start sources packets name) =
    AreLawfulStreams start sources packets × IsLawfulName name
IsLawfulMode (mode.Trial start sources packets) = AreLawfulStreams start sources packets
IsLawfulMode (mode.Pass name out) = IsLawfulName name × IsLawfulName out
IsLawfulMode (mode.Watch name readers) =
    IsLawfulName name × (1 ≤ readers) × (readers ≤ MAX_READERS)
IsLawfulMode (mode.JoinFiles out names) = IsLawfulName out × AreLawfulNames names

-- words without a defect ask for a lawful mode
abbrev pub AcceptedWordsAreLawful : Type 0
AcceptedWordsAreLawful = (words : List Text) → defects words ≡ [] → IsLawfulMode (mode_of words)
