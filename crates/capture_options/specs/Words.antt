-- What the program's words ask for, and their defects.
use Rattle.std.specs.Prelude.{◌≡◌, ◌⊎◌, Bool, List, [], ◌∷◌, codes, filter, if◌then◌else◌}
use Rattle.std.specs.Prelude.{Contains, MatchResult, Result}
use Rattle.std.specs.Str.{bytes_eq}
use Rattle.clap.specs.Simple.{matches_of}
use Rattle.capture_options.specs.Givens.{Text, givens}
use Rattle.capture_options.specs.Captures.{capture_mode, is_defect}
use Rattle.capture_options.specs.Arguments.{are_bad_numbers, check_mode, file_command, follow_mode}
use Rattle.capture_options.specs.Arguments.{is_bad_file, is_bad_make, is_bad_watch}
use Rattle.capture_options.specs.Arguments.{is_defect_by, is_defect_of, is_defect_of_join}
use Rattle.capture_options.specs.Arguments.{is_defect_of_pass}
use Rattle.capture_options.specs.Arguments.{join_command, join_mode, make_command, make_mode}
use Rattle.capture_options.specs.Arguments.{pass_command, pass_mode, trial_command, trial_mode}
use Rattle.capture_options.specs.Arguments.{watch_command, watch_mode}
use Rattle.capture_options.specs.declared.mode.Mode.{Mode}
use Rattle.capture_options.specs.declared.mode.WordFault.{WordFault}
use Rattle.capture_options.specs.declared.mode.WordFault.TheVariants as fault

-- the mode that a first word chooses
pub data Kind : Type 0 where
  capture : Kind
  follow : Kind
  check : Kind
  make : Kind
  trial : Kind
  pass : Kind
  watch : Kind
  join : Kind

abbrev pub kind_by : Text → Kind
kind_by word = if bytes_eq word (codes "follow") then follow
    else (if bytes_eq word (codes "check") then check
    else (if bytes_eq word (codes "make") then make
    else (if bytes_eq word (codes "trial") then trial
    else (if bytes_eq word (codes "pass") then pass
    else (if bytes_eq word (codes "watch") then watch
    else (if bytes_eq word (codes "join") then join else capture))))))

abbrev pub kind_of : List Text → Kind
kind_of [] = capture
kind_of (word ∷ words) = kind_by word

abbrev pub mode_in : Kind → List Text → Mode
mode_in capture words = capture_mode (givens words)
mode_in follow words = follow_mode (matches_of file_command words)
mode_in check words = check_mode (matches_of file_command words)
mode_in make words = make_mode (matches_of make_command words)
mode_in trial words = trial_mode (matches_of trial_command words)
mode_in pass words = pass_mode (matches_of pass_command words)
mode_in watch words = watch_mode (matches_of watch_command words)
mode_in join words = join_mode (matches_of join_command words)

abbrev pub is_defect_in : Kind → List Text → WordFault → Bool
is_defect_in capture words = is_defect (givens words)
is_defect_in follow words = is_defect_of file_command words is_bad_file
is_defect_in check words = is_defect_of file_command words is_bad_file
is_defect_in make words = is_defect_of make_command words is_bad_make
is_defect_in trial words = is_defect_of trial_command words are_bad_numbers
is_defect_in pass words = is_defect_by pass_command words is_defect_of_pass
is_defect_in watch words = is_defect_of watch_command words is_bad_watch
is_defect_in join words = is_defect_by join_command words is_defect_of_join

-- what the words ask for, where they have no defect
abbrev pub mode_of : List Text → Mode
mode_of words = mode_in (kind_of words) words

abbrev pub has_defect : List Text → WordFault → Bool
has_defect words = is_defect_in (kind_of words) words

-- the defects of the words
abbrev pub defects : List Text → List WordFault
defects words = filter (has_defect words)
    (fault.Unknown ∷ fault.Missing ∷ fault.Value ∷ fault.Conflict ∷ fault.TooMany ∷ [])

-- exactly words without a defect give their mode, and others one of their defects; memory may run out
abbrev pub IsReading : List Text → Result Mode WordFault → Type 0
IsReading words answer = MatchResult answer
    (λ m. (defects words ≡ []) × (m ≡ mode_of words))
    (λ e. (e ≡ fault.NoMemory) ⊎ Contains (defects words) e)
