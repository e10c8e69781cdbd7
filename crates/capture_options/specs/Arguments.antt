-- The words of the modes other than a capture, as `clap` gives them to required arguments.
use Rattle.std.specs.Prelude.{ℕ, ◌==◌, ◌||◌, Bool, true, false, not, List, [], ◌∷◌, map, length}
use Rattle.std.specs.Prelude.{codes, nat_lt, Option, Some, is_none, unwrap_or, if◌then◌else◌}
use Rattle.std.specs.List.{list_all, list_any}
use Rattle.clap.specs.Lexer.{usize_max}
use Rattle.clap.specs.Walk.{Row, Rule, all_of, first_of}
use Rattle.clap.specs.Simple.{App, matches_of, new_rule, new_shape}
use Rattle.clap.specs.Faults.{fault_of}
use Rattle.clap.specs.Kinds.{Kinds}
use Rattle.cap_base.specs.declared.limits.TheConstants.{MAX_JOINED_FILES, MAX_READERS, MAX_SOURCES}
use Rattle.capture_options.specs.Numbers.{is_name, number_between, overwrites}
use Rattle.capture_options.specs.Givens.{Text}
use Rattle.capture_options.specs.declared.mode.Mode.{Mode}
use Rattle.capture_options.specs.declared.mode.Mode.TheVariants as mode
use Rattle.capture_options.specs.declared.mode.WordFault.{WordFault}
use Rattle.capture_options.specs.declared.mode.WordFault.TheVariants as fault

-- an argument that is required
abbrev pub required : Text → Rule
required id = record (new_rule id) { required = true }

-- the same, that takes one word or more
abbrev pub repeated : Text → Rule
repeated id = record (required id) {
  range = Some (record { start_inclusive = 1; end_inclusive = usize_max });
}

-- a command with these arguments, and without options, subcommands, help and version
abbrev pub command_of : List Rule → App
command_of rules = record {
  top = record (new_shape (codes "dumpcap")) { rules = rules; disable_help_flag = true };
  subs = [];
}

abbrev pub command : List Text → App
command ids = command_of (map required ids)

-- `follow` and `check`
abbrev pub file_command : App
file_command = command (codes "NAME" ∷ [])

abbrev pub make_command : App
make_command =
    command (codes "START" ∷ codes "SOURCES" ∷ codes "PACKETS" ∷ codes "NAME" ∷ [])

abbrev pub trial_command : App
trial_command = command (codes "START" ∷ codes "SOURCES" ∷ codes "PACKETS" ∷ [])

abbrev pub pass_command : App
pass_command = command (codes "NAME" ∷ codes "OUT" ∷ [])

abbrev pub watch_command : App
watch_command = command (codes "NAME" ∷ codes "READERS" ∷ [])

abbrev pub join_command : App
join_command = command_of (required (codes "OUT") ∷ repeated (codes "NAME") ∷ [])

-- ---- what clap makes of the words

abbrev pub has_kind : Kinds → Bool
has_kind [] = false
has_kind (kind ∷ kinds) = true

-- clap refuses the words, of which the first is the mode's own
abbrev pub is_refused : App → List Text → Bool
is_refused a words = has_kind (fault_of a words)

-- the word that an argument gets
abbrev pub word_in : List Row → Text → Text
word_in rows id = unwrap_or (first_of id rows) []

-- all words that an argument gets
abbrev pub words_in : List Row → Text → List Text
words_in rows id = unwrap_or (all_of id rows) []

-- the greatest number from which streams are made: 10^18
abbrev pub most_start : ℕ
most_start = 1000000000000000000

-- the most packets of the streams together
abbrev pub most_packets : ℕ
most_packets = 1000000

abbrev pub start_in : Text → Option ℕ
start_in = number_between 0 most_start

abbrev pub sources_in : Text → Option ℕ
sources_in = number_between 1 MAX_SOURCES

abbrev pub packets_in : Text → Option ℕ
packets_in = number_between 1 most_packets

abbrev pub readers_in : Text → Option ℕ
readers_in = number_between 1 MAX_READERS

-- ---- the defects

-- refused words are fewer than the arguments and the mode's own, or one of them is no argument
abbrev pub refusal_at : ℕ → ℕ → WordFault → Bool
refusal_at arguments words fault.Missing = not (nat_lt arguments words)
refusal_at arguments words fault.Unknown = nat_lt arguments words
refusal_at arguments words _ = false

abbrev pub only_value : Bool → WordFault → Bool
only_value bad fault.Value = bad
only_value bad _ = false

-- words that clap refuses have that one defect; others have those of their values
abbrev pub is_defect_by : App → List Text → (List Row → WordFault → Bool) → WordFault → Bool
is_defect_by a words has e = if is_refused a words
    then refusal_at (length a.top.rules) (length words) e else has (matches_of a words) e

-- the same, where at most a value is bad
abbrev pub is_defect_of : App → List Text → (List Row → Bool) → WordFault → Bool
is_defect_of a words is_bad = is_defect_by a words (λ rows. only_value (is_bad rows))

-- ---- the modes and their defects, by what clap makes of the words

abbrev pub is_bad_file : List Row → Bool
is_bad_file rows = not (is_name (word_in rows (codes "NAME")))

abbrev pub follow_mode : List Row → Mode
follow_mode rows = mode.Follow (word_in rows (codes "NAME"))

abbrev pub check_mode : List Row → Mode
check_mode rows = mode.Check (word_in rows (codes "NAME"))

-- one of the numbers of `make` and `trial` breaks its spelling or its range
abbrev pub are_bad_numbers : List Row → Bool
are_bad_numbers rows = is_none (start_in (word_in rows (codes "START")))
    || (is_none (sources_in (word_in rows (codes "SOURCES")))
    || is_none (packets_in (word_in rows (codes "PACKETS"))))

abbrev pub is_bad_make : List Row → Bool
is_bad_make rows = are_bad_numbers rows || not (is_name (word_in rows (codes "NAME")))

abbrev pub make_mode : List Row → Mode
make_mode rows = mode.Make
    (unwrap_or (start_in (word_in rows (codes "START"))) 0)
    (unwrap_or (sources_in (word_in rows (codes "SOURCES"))) 0)
    (unwrap_or (packets_in (word_in rows (codes "PACKETS"))) 0)
    (word_in rows (codes "NAME"))

abbrev pub trial_mode : List Row → Mode
trial_mode rows = mode.Trial
    (unwrap_or (start_in (word_in rows (codes "START"))) 0)
    (unwrap_or (sources_in (word_in rows (codes "SOURCES"))) 0)
    (unwrap_or (packets_in (word_in rows (codes "PACKETS"))) 0)

-- the defects of a source and of the file into which it is copied: a bad name, or one name for both
abbrev pub is_defect_of_copy : Text → Text → WordFault → Bool
is_defect_of_copy name out fault.Value = not (is_name name) || not (is_name out)
is_defect_of_copy name out fault.Conflict = overwrites out name
is_defect_of_copy name out _ = false

abbrev pub is_defect_of_pass : List Row → WordFault → Bool
is_defect_of_pass rows =
    is_defect_of_copy (word_in rows (codes "NAME")) (word_in rows (codes "OUT"))

abbrev pub pass_mode : List Row → Mode
pass_mode rows = mode.Pass (word_in rows (codes "NAME")) (word_in rows (codes "OUT"))

abbrev pub is_bad_watch : List Row → Bool
is_bad_watch rows = is_none (readers_in (word_in rows (codes "READERS")))
    || not (is_name (word_in rows (codes "NAME")))

abbrev pub watch_mode : List Row → Mode
watch_mode rows = mode.Watch
    (word_in rows (codes "NAME"))
    (unwrap_or (readers_in (word_in rows (codes "READERS"))) 0)

-- the defects of the files that are joined: none, a bad name, one with the output's name, or too many
abbrev pub is_defect_of_files : Text → List Text → WordFault → Bool
is_defect_of_files out names fault.Missing = length names == 0
is_defect_of_files out names fault.Value = not (is_name out) || not (list_all is_name names)
is_defect_of_files out names fault.Conflict = list_any (overwrites out) names
is_defect_of_files out names fault.TooMany = nat_lt MAX_JOINED_FILES (length names)
is_defect_of_files out names _ = false

abbrev pub is_defect_of_join : List Row → WordFault → Bool
is_defect_of_join rows =
    is_defect_of_files (word_in rows (codes "OUT")) (words_in rows (codes "NAME"))

abbrev pub join_mode : List Row → Mode
join_mode rows = mode.JoinFiles (word_in rows (codes "OUT")) (words_in rows (codes "NAME"))
