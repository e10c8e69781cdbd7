-- What settings have to be.
use Rattle.std.specs.Prelude.{◌≡◌, ℕ, ◌≤◌, ◌==◌, false, Option, List, length}
use Rattle.std.specs.List.{All, list_any}
use Rattle.std.specs.Option.{ForSome}
use Rattle.cap_base.specs.declared.limits.TheConstants.{MAX_CAPTURED_LEN, MAX_NAME_LEN, MAX_SOURCES, MAX_STANDING_PACKETS}
use Rattle.cap_base.specs.declared.limits.Limits.{Limits}
use Rattle.cap_base.specs.declared.limits.StopAt.{StopAt}
use Rattle.cap_base.specs.declared.limits.SwitchAt.{SwitchAt}
use Rattle.cap_base.specs.declared.settings.Settings.{Settings}

-- the name of a source or of a file: not empty, not too long, and without a zero byte
pub record IsLawfulName (name : List ℕ) : Type 0 where
  pub some : 1 ≤ length name
  pub few : length name ≤ MAX_NAME_LEN
  pub without_zero : list_any (λ b. b == 0) name ≡ false

-- a number that is given is at least 1
abbrev pub IsGivenAbove0 : Option ℕ → Type 0
IsGivenAbove0 number = ForSome number (λ n. 1 ≤ n)

pub record IsLawfulStop (s : StopAt) : Type 0 where
  pub packets : IsGivenAbove0 s.packets
  pub bytes : IsGivenAbove0 s.bytes
  pub nanos : IsGivenAbove0 s.nanos
  pub files : IsGivenAbove0 s.files

pub record IsLawfulSwitch (s : SwitchAt) : Type 0 where
  pub packets : IsGivenAbove0 s.packets
  pub bytes : IsGivenAbove0 s.bytes
  pub nanos : IsGivenAbove0 s.nanos
  pub interval : IsGivenAbove0 s.interval
  pub keep : IsGivenAbove0 s.keep

-- how much may stand in the queue
pub record AreLawfulLimits (l : Limits) : Type 0 where
  pub some_packets : 1 ≤ l.packets
  pub few_packets : l.packets ≤ MAX_STANDING_PACKETS

-- a snap length that is given
abbrev pub IsLawfulSnap : Option ℕ → Type 0
IsLawfulSnap snap = ForSome snap (λ n. (1 ≤ n) × (n ≤ MAX_CAPTURED_LEN))

pub record AreLawful (s : Settings) : Type 0 where
  pub some_sources : 1 ≤ length s.sources
  pub few_sources : length s.sources ≤ MAX_SOURCES
  pub sources : All IsLawfulName s.sources
  pub output : IsLawfulName s.output
  pub limits : AreLawfulLimits s.limits
  pub stop : IsLawfulStop s.stop
  pub switch : IsLawfulSwitch s.switch
  pub snap : IsLawfulSnap s.snap
