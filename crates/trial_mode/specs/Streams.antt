-- The streams of a trial, and what they are captured with.
use Rattle.std.specs.Prelude.{ℕ, zero, suc, List, [], ◌∷◌, ◌++◌, codes, decimal, Some, None, false}
use Rattle.cap_base.specs.declared.limits.Limits.{Limits}
use Rattle.cap_base.specs.declared.limits.StopAt.{StopAt}
use Rattle.cap_base.specs.declared.limits.SwitchAt.{SwitchAt}
use Rattle.cap_base.specs.declared.settings.Settings.{Settings}
use Rattle.cap_make.specs.Streams.{stream}

-- so many packets in so many streams of the generator, from a start
pub record Streams : Type 0 where
  pub start : ℕ
  pub sources : ℕ
  pub packets : ℕ

abbrev pub streams_from : ℕ → ℕ → ℕ → Streams
streams_from start sources packets = record { start = start; sources = sources; packets = packets }

-- the text of one of them
abbrev pub stream_of : Streams → ℕ → List ℕ
stream_of streams which = stream streams.start streams.sources streams.packets which

-- the name of a source: its number stands behind an s
abbrev pub source_name : ℕ → List ℕ
source_name which = codes "s" ++ decimal which

-- the names of the first so many sources
abbrev pub source_names : ℕ → List (List ℕ)
source_names zero = []
source_names (suc k) = source_names k ++ source_name k ∷ []

-- the name of the output
abbrev pub output_name : List ℕ
output_name = codes "t"

-- nothing stops the capture
abbrev pub no_stop : StopAt
no_stop = record { packets = None; bytes = None; nanos = None; files = None }

-- one file is written
abbrev pub no_switch : SwitchAt
no_switch = record { packets = None; bytes = None; nanos = None; interval = None; keep = None }

-- the limits of a capture whose words give none
abbrev pub common_limits : Limits
common_limits = record { packets = 1000; bytes = Some 1000000 }

-- the settings of a capture of so many sources, whose words give sources and an output alone
abbrev pub trial_settings : ℕ → Settings
trial_settings sources = record { sources = source_names sources; output = output_name; limits = common_limits; stop = no_stop; switch = no_switch; sync = false; snap = None }
