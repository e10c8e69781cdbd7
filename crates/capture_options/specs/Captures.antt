-- The settings that capture words give, and their defects, as properties of the list of what they say.
use Rattle.std.specs.Prelude.{ℕ, ◌==◌, ◌&&◌, ◌||◌, Bool, true, false, not, List, [], min, codes}
use Rattle.std.specs.Prelude.{nat_lt, Option, Some, None, is_none, if◌then◌else◌, fold}
use Rattle.std.specs.Prelude.{count_by, filter_map, unwrap_or}
use Rattle.std.specs.List.{list_any}
use Rattle.std.specs.Option.{option_or, option_map_or}
use Rattle.std.specs.Str.{bytes_eq}
use Rattle.cap_base.specs.declared.limits.TheConstants.{MAX_SOURCES, MAX_STANDING_PACKETS}
use Rattle.cap_base.specs.declared.limits.Limits.{Limits}
use Rattle.cap_base.specs.declared.limits.StopAt.{StopAt}
use Rattle.cap_base.specs.declared.limits.SwitchAt.{SwitchAt}
use Rattle.cap_base.specs.declared.settings.Settings.{Settings}
use Rattle.capture_options.specs.Numbers.{is_name, overwrites}
use Rattle.capture_options.specs.Givens.{Text}
use Rattle.capture_options.specs.declared.given.Setting.{Setting}
use Rattle.capture_options.specs.declared.given.Setting.TheVariants as setting
use Rattle.capture_options.specs.declared.given.Given.{Given}
use Rattle.capture_options.specs.declared.given.Given.TheVariants as given
use Rattle.capture_options.specs.declared.mode.Mode.{Mode}
use Rattle.capture_options.specs.declared.mode.Mode.TheVariants as mode
use Rattle.capture_options.specs.declared.mode.WordFault.{WordFault}
use Rattle.capture_options.specs.declared.mode.WordFault.TheVariants as fault

-- ---- what is given

-- the place of a setting among the settings
abbrev pub place : Setting → ℕ
place setting.Count = 0
place setting.StopPackets = 1
place setting.StopDuration = 2
place setting.StopFilesize = 3
place setting.StopFiles = 4
place setting.SwitchPackets = 5
place setting.SwitchDuration = 6
place setting.SwitchFilesize = 7
place setting.SwitchInterval = 8
place setting.HeldPackets = 9
place setting.HeldBytes = 10

abbrev pub sets : Setting → Given → Bool
sets s (given.Number t value) = place t == place s
sets s _ = false

abbrev pub number_for : Setting → Given → Option ℕ
number_for s (given.Number t value) = if place t == place s then value else None
number_for s _ = None

abbrev pub kept_in : Given → Option ℕ
kept_in (given.Keep value) = value
kept_in _ = None

abbrev pub snap_in : Given → Option ℕ
snap_in (given.Snap value) = value
snap_in _ = None

abbrev pub source_in : Given → Option Text
source_in (given.Source name) = Some name
source_in _ = None

abbrev pub output_in : Given → Option Text
output_in (given.Output name) = Some name
output_in _ = None

-- what the last word that has it gives
abbrev pub latest : {X : Type 0} → (Given → Option X) → List Given → Option X
latest read gs = fold (λ before g. option_or (read g) before) None gs

abbrev pub is_sync : Given → Bool
is_sync given.Sync = true
is_sync _ = false

-- `-n`
abbrev pub is_pcapng : Given → Bool
is_pcapng given.Pcapng = true
is_pcapng _ = false

-- `-P`
abbrev pub is_classic : Given → Bool
is_classic given.Classic = true
is_classic _ = false

-- ---- the settings

-- the limits that `-N` and `-C` give
abbrev pub limits_of : Option ℕ → Option ℕ → Limits
limits_of None None = record { packets = 1000; bytes = Some 1000000 }
limits_of None (Some bytes) = record { packets = MAX_STANDING_PACKETS; bytes = Some bytes }
limits_of (Some packets) bytes = record { packets = min packets MAX_STANDING_PACKETS; bytes = bytes }

-- an `-a packets:` holds before each `-c`
abbrev pub stop_of : List Given → StopAt
stop_of gs = record {
  packets = option_or (latest (number_for setting.StopPackets) gs)
      (latest (number_for setting.Count) gs);
  bytes = latest (number_for setting.StopFilesize) gs;
  nanos = latest (number_for setting.StopDuration) gs;
  files = latest (number_for setting.StopFiles) gs;
}

abbrev pub switch_of : List Given → SwitchAt
switch_of gs = record {
  packets = latest (number_for setting.SwitchPackets) gs;
  bytes = latest (number_for setting.SwitchFilesize) gs;
  nanos = latest (number_for setting.SwitchDuration) gs;
  interval = latest (number_for setting.SwitchInterval) gs;
  keep = latest kept_in gs;
}

-- a snap length of 0 cuts nothing
abbrev pub cut_at : Option ℕ → Option ℕ
cut_at None = None
cut_at (Some snap) = if snap == 0 then None else Some snap

abbrev pub settings_of : List Given → Settings
settings_of gs = record {
  sources = filter_map source_in gs;
  output = unwrap_or (latest output_in gs) [];
  limits = limits_of (latest (number_for setting.HeldPackets) gs)
      (latest (number_for setting.HeldBytes) gs);
  stop = stop_of gs;
  switch = switch_of gs;
  sync = list_any is_sync gs;
  snap = cut_at (latest snap_in gs);
}

-- the settings, of classic files where `-P` is given
abbrev pub capture_mode : List Given → Mode
capture_mode gs = if list_any is_classic gs then mode.Classic (settings_of gs)
    else mode.Capture (settings_of gs)

-- ---- the defects

abbrev pub is_unknown : Given → Bool
is_unknown given.Unknown = true
is_unknown _ = false

abbrev pub is_lacking : Given → Bool
is_lacking given.Lacking = true
is_lacking _ = false

abbrev pub is_source : Given → Bool
is_source (given.Source name) = true
is_source _ = false

-- a value that breaks its spelling or its range, or has an unknown kind
abbrev pub is_bad : Given → Bool
is_bad (given.Source name) = not (is_name name)
is_bad (given.Output name) = not (is_name name)
is_bad (given.Number s value) = is_none value
is_bad (given.Keep value) = is_none value
is_bad (given.Snap value) = is_none value
is_bad given.UnknownAutostop = true
is_bad given.UnknownRing = true
is_bad _ = false

-- `-b` of a kind that begins a next file
abbrev pub is_switch : Given → Bool
is_switch (given.Number s value) = nat_lt 4 (place s) && nat_lt (place s) 9
is_switch _ = false

-- any `-b`
abbrev pub is_ring : Given → Bool
is_ring (given.Keep value) = true
is_ring given.UnknownRing = true
is_ring g = is_switch g

-- `-b files:` or `-a files:`
abbrev pub counts_files : Given → Bool
counts_files (given.Keep value) = true
counts_files g = sets setting.StopFiles g

-- standard output
abbrev pub is_dash : Option Text → Bool
is_dash output = option_map_or (λ name. bytes_eq name (codes "-")) output false

-- a required word or an option's value is missing
abbrev pub lacks_words : List Given → Bool
lacks_words gs =
    list_any is_lacking gs || (not (list_any is_source gs) || is_none (latest output_in gs))

-- files are counted, and none begins anew
abbrev pub counts_one_file : List Given → Bool
counts_one_file gs = list_any counts_files gs && not (list_any is_switch gs)

-- a file's size ends the capture, or the output is `-`, and there is `-b`
abbrev pub rings_in_vain : List Given → Bool
rings_in_vain gs = list_any is_ring gs
    && (list_any (sets setting.StopFilesize) gs || is_dash (latest output_in gs))

-- classic files are asked for, and also pcapng or more than one source
abbrev pub is_classic_in_vain : List Given → Bool
is_classic_in_vain gs = list_any is_classic gs
    && (list_any is_pcapng gs || nat_lt 1 (count_by is_source gs))

-- a source that an output of this name would overwrite
abbrev pub is_overwritten : Text → Given → Bool
is_overwritten output (given.Source name) = overwrites output name
is_overwritten output _ = false

abbrev pub overwrites_one : List Given → Option Text → Bool
overwrites_one gs output = option_map_or (λ name. list_any (is_overwritten name) gs) output false

-- the output, which is one file without a `-b`, would overwrite a source
abbrev pub overwrites_source : List Given → Bool
overwrites_source gs = not (list_any is_ring gs) && overwrites_one gs (latest output_in gs)

abbrev pub is_conflict : List Given → Bool
is_conflict gs = counts_one_file gs
    || (rings_in_vain gs || (is_classic_in_vain gs || overwrites_source gs))

abbrev pub has_too_many : List Given → Bool
has_too_many gs = nat_lt MAX_SOURCES (count_by is_source gs)

-- the words that say these have the defect
abbrev pub is_defect : List Given → WordFault → Bool
is_defect gs fault.Unknown = list_any is_unknown gs
is_defect gs fault.Missing = lacks_words gs
is_defect gs fault.Value = list_any is_bad gs
is_defect gs fault.Conflict = is_conflict gs
is_defect gs fault.TooMany = has_too_many gs
is_defect gs fault.NoMemory = false
