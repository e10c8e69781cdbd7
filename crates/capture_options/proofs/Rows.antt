-- The definitions at words that are written out.
use Rattle.std.proofs.Common.{◌≡◌, List, [], ◌∷◌, Some, None, codes, refl, false, replicate, ◌++◌}
use Rattle.clap.proofs.OnLiterals.{clap_on_literals}
use Rattle.cap_base.specs.declared.settings.Settings.{Settings}
use Rattle.capture_options.specs.Givens.{Text}
use Rattle.capture_options.specs.Words.{defects, mode_of}
use Rattle.capture_options.specs.declared.mode.Mode.TheVariants as mode
use Rattle.capture_options.specs.declared.mode.WordFault.TheVariants as fault

abbrev a_to_o : List Text
a_to_o = codes "-i" ∷ codes "a" ∷ codes "-w" ∷ codes "o" ∷ []

-- without an output
row_no_output : defects (codes "-i" ∷ codes "a" ∷ []) ≡ fault.Missing ∷ []
row_no_output = refl

row_keep_alone : defects (a_to_o ++ codes "-b" ∷ codes "files:2" ∷ []) ≡ fault.Conflict ∷ []
row_keep_alone = refl

row_zero_count : defects (a_to_o ++ codes "-c" ∷ codes "0" ∷ []) ≡ fault.Value ∷ []
row_zero_count = refl

row_ends_in_option : defects (codes "-i" ∷ codes "a" ∷ codes "-w" ∷ []) ≡ fault.Missing ∷ []
row_ends_in_option = refl

row_bundle : defects (codes "-ia" ∷ codes "-wo" ∷ codes "-nq" ∷ []) ≡ fault.Unknown ∷ []
row_bundle = refl

row_joined : mode_of (codes "-ia" ∷ codes "-wo" ∷ codes "-c1" ∷ codes "-c" ∷ codes "3" ∷ []) ≡ mode_of (a_to_o ++ codes "-c" ∷ codes "3" ∷ [])
row_joined = refl

row_joined_clean : defects (codes "-ia" ∷ codes "-wo" ∷ codes "-c1" ∷ codes "-c" ∷ codes "3" ∷ []) ≡ []
row_joined_clean = refl

abbrev plain : Settings
plain = record {
  sources = codes "a" ∷ [];
  output = codes "o";
  limits = record { packets = 1000; bytes = Some 1000000 };
  stop = record { packets = None; bytes = None; nanos = None; files = None };
  switch = record { packets = None; bytes = None; nanos = None; interval = None; keep = None };
  sync = false;
  snap = None;
}

row_plain : mode_of a_to_o ≡ mode.Capture plain
row_plain = refl

row_count : mode_of (a_to_o ++ codes "-c" ∷ codes "3" ∷ []) ≡ mode.Capture (record plain { stop = record { packets = Some 3; bytes = None; nanos = None; files = None } })
row_count = refl

-- `-a packets:` holds before a later `-c`
row_precedence : mode_of (a_to_o ++ codes "-a" ∷ codes "packets:7" ∷ codes "-c" ∷ codes "3" ∷ []) ≡ mode.Capture (record plain { stop = record { packets = Some 7; bytes = None; nanos = None; files = None } })
row_precedence = refl

-- a value is judged also where a later one overrides it
row_overridden : defects (a_to_o ++ codes "-c" ∷ codes "0" ∷ codes "-c" ∷ codes "3" ∷ []) ≡ fault.Value ∷ []
row_overridden = refl

row_bytes_alone : mode_of (a_to_o ++ codes "-C" ∷ codes "9" ∷ []) ≡ mode.Capture (record plain { limits = record { packets = 16384; bytes = Some 9 } })
row_bytes_alone = refl

row_packets_alone : mode_of (a_to_o ++ codes "-N" ∷ codes "20000" ∷ []) ≡ mode.Capture (record plain { limits = record { packets = 16384; bytes = None } })
row_packets_alone = refl

row_dash_ring : defects (codes "-i" ∷ codes "a" ∷ codes "-w" ∷ codes "-" ∷ codes "-b" ∷ codes "packets:1" ∷ []) ≡ fault.Conflict ∷ []
row_dash_ring = refl

row_twenty_digits : defects (a_to_o ++ codes "-c" ∷ codes "00000000000000000001" ∷ []) ≡ fault.Value ∷ []
row_twenty_digits = refl

row_interval : mode_of (a_to_o ++ codes "-b" ∷ codes "interval:60" ∷ codes "-b" ∷ codes "files:5" ∷ []) ≡ mode.Capture (record plain { switch = record { packets = None; bytes = None; nanos = None; interval = Some 60000000000; keep = Some 5 } })
row_interval = refl

row_unknown_kind : defects (a_to_o ++ codes "-b" ∷ codes "minutes:5" ∷ codes "-b" ∷ codes "files:2" ∷ []) ≡ fault.Value ∷ fault.Conflict ∷ []
row_unknown_kind = refl

row_snap : defects (a_to_o ++ codes "-s" ∷ codes "262145" ∷ []) ≡ fault.Value ∷ []
row_snap = refl

-- a snap length of 0 cuts nothing
row_snap_none : mode_of (a_to_o ++ codes "-s" ∷ codes "0" ∷ []) ≡ mode.Capture plain
row_snap_none = refl

row_filesize_beside_ring : defects (a_to_o ++ codes "-a" ∷ codes "filesize:1" ∷ codes "-b" ∷ codes "packets:1" ∷ []) ≡ fault.Conflict ∷ []
row_filesize_beside_ring = refl

-- of the outputs the last one counts
row_last_output : defects (codes "-i" ∷ codes "a" ∷ codes "-w" ∷ codes "-" ∷ codes "-w" ∷ codes "o" ∷ codes "-b" ∷ codes "packets:1" ∷ []) ≡ []
row_last_output = refl

-- a word behind an option is its value, whatever it is
row_any_value : mode_of (codes "-i" ∷ codes "-w" ∷ codes "-w" ∷ codes "o" ∷ []) ≡ mode.Capture (record plain { sources = codes "-w" ∷ [] })
row_any_value = refl

row_classic : mode_of (a_to_o ++ codes "-P" ∷ []) ≡ mode.Classic plain
row_classic = refl

row_classic_clean : defects (a_to_o ++ codes "-P" ∷ []) ≡ []
row_classic_clean = refl

row_pcapng : mode_of (a_to_o ++ codes "-n" ∷ []) ≡ mode.Capture plain
row_pcapng = refl

row_both_formats : defects (a_to_o ++ codes "-P" ∷ codes "-n" ∷ []) ≡ fault.Conflict ∷ []
row_both_formats = refl

row_classic_of_two : defects (a_to_o ++ codes "-P" ∷ codes "-i" ∷ codes "b" ∷ []) ≡ fault.Conflict ∷ []
row_classic_of_two = refl

-- an output with the name of a source
row_overwritten : defects (codes "-i" ∷ codes "a" ∷ codes "-i" ∷ codes "b" ∷ codes "-w" ∷ codes "b" ∷ []) ≡ fault.Conflict ∷ []
row_overwritten = refl

row_overwritten_joined : defects (codes "-wa" ∷ codes "-ia" ∷ []) ≡ fault.Conflict ∷ []
row_overwritten_joined = refl

-- of the outputs the last one is written
row_overwritten_by_an_earlier : defects (codes "-i" ∷ codes "a" ∷ codes "-w" ∷ codes "a" ∷ codes "-w" ∷ codes "o" ∷ []) ≡ []
row_overwritten_by_an_earlier = refl

-- the files of a ring have names of their own
row_ring_beside_its_source : defects (codes "-i" ∷ codes "a" ∷ codes "-w" ∷ codes "a" ∷ codes "-b" ∷ codes "packets:1" ∷ []) ≡ []
row_ring_beside_its_source = refl

-- standard input and standard output
row_both_dashes : defects (codes "-i" ∷ codes "-" ∷ codes "-w" ∷ codes "-" ∷ []) ≡ []
row_both_dashes = refl

row_none : defects [] ≡ fault.Missing ∷ []
row_none = refl

row_65 : defects (replicate 65 (codes "-ia") ++ codes "-wo" ∷ []) ≡ fault.TooMany ∷ []
row_65 = refl

-- ---- the modes

row_follow : mode_of (codes "follow" ∷ codes "m" ∷ []) ≡ mode.Follow (codes "m")
unfolding clap_on_literals
row_follow = refl

row_follow_clean : defects (codes "follow" ∷ codes "m" ∷ []) ≡ []
unfolding clap_on_literals
row_follow_clean = refl

row_follow_dash : defects (codes "follow" ∷ codes "-" ∷ []) ≡ []
unfolding clap_on_literals
row_follow_dash = refl

row_follow_nothing : defects (codes "follow" ∷ []) ≡ fault.Missing ∷ []
unfolding clap_on_literals
row_follow_nothing = refl

row_follow_two : defects (codes "follow" ∷ codes "a" ∷ codes "b" ∷ []) ≡ fault.Unknown ∷ []
unfolding clap_on_literals
row_follow_two = refl

row_follow_help : defects (codes "follow" ∷ codes "--help" ∷ codes "b" ∷ []) ≡ fault.Unknown ∷ []
unfolding clap_on_literals
row_follow_help = refl

-- fewer words than arguments, whatever they are
row_check_version : defects (codes "make" ∷ codes "-V" ∷ codes "1" ∷ []) ≡ fault.Missing ∷ []
unfolding clap_on_literals
row_check_version = refl

row_check_past_dashes : mode_of (codes "check" ∷ codes "--" ∷ codes "-x" ∷ []) ≡ mode.Check (codes "-x")
unfolding clap_on_literals
row_check_past_dashes = refl

row_check_empty : defects (codes "check" ∷ [] ∷ []) ≡ fault.Value ∷ []
unfolding clap_on_literals
row_check_empty = refl

row_make : mode_of (codes "make" ∷ codes "1" ∷ codes "2" ∷ codes "3" ∷ codes "m" ∷ []) ≡ mode.Make 1 2 3 (codes "m")
unfolding clap_on_literals
row_make = refl

row_make_negative : defects (codes "make" ∷ codes "-1" ∷ codes "2" ∷ codes "3" ∷ codes "m" ∷ []) ≡ fault.Unknown ∷ []
unfolding clap_on_literals
row_make_negative = refl

row_trial : mode_of (codes "trial" ∷ codes "7" ∷ codes "8" ∷ codes "100000" ∷ []) ≡ mode.Trial 7 8 100000
unfolding clap_on_literals
row_trial = refl

row_trial_65 : defects (codes "trial" ∷ codes "7" ∷ codes "65" ∷ codes "100000" ∷ []) ≡ fault.Value ∷ []
unfolding clap_on_literals
row_trial_65 = refl

row_pass : mode_of (codes "pass" ∷ codes "m" ∷ codes "o" ∷ []) ≡ mode.Pass (codes "m") (codes "o")
unfolding clap_on_literals
row_pass = refl

row_pass_one : defects (codes "pass" ∷ codes "m" ∷ []) ≡ fault.Missing ∷ []
unfolding clap_on_literals
row_pass_one = refl

row_pass_onto_itself : defects (codes "pass" ∷ codes "a" ∷ codes "a" ∷ []) ≡ fault.Conflict ∷ []
unfolding clap_on_literals
row_pass_onto_itself = refl

row_pass_dashes : defects (codes "pass" ∷ codes "-" ∷ codes "-" ∷ []) ≡ []
unfolding clap_on_literals
row_pass_dashes = refl

row_watch : mode_of (codes "watch" ∷ codes "m" ∷ codes "64" ∷ []) ≡ mode.Watch (codes "m") 64
unfolding clap_on_literals
row_watch = refl

row_watch_65 : defects (codes "watch" ∷ codes "m" ∷ codes "65" ∷ []) ≡ fault.Value ∷ []
unfolding clap_on_literals
row_watch_65 = refl

row_join : mode_of (codes "join" ∷ codes "j" ∷ codes "-" ∷ codes "b" ∷ codes "--" ∷ codes "-c" ∷ []) ≡ mode.JoinFiles (codes "j") (codes "-" ∷ codes "b" ∷ codes "-c" ∷ [])
unfolding clap_on_literals
row_join = refl

row_join_clean : defects (codes "join" ∷ codes "j" ∷ codes "a" ∷ []) ≡ []
unfolding clap_on_literals
row_join_clean = refl

row_join_nothing : defects (codes "join" ∷ codes "j" ∷ []) ≡ fault.Missing ∷ []
unfolding clap_on_literals
row_join_nothing = refl

row_join_help : defects (codes "join" ∷ codes "j" ∷ codes "--help" ∷ []) ≡ fault.Unknown ∷ []
unfolding clap_on_literals
row_join_help = refl

row_join_empty_name : defects (codes "join" ∷ codes "j" ∷ codes "a" ∷ [] ∷ []) ≡ fault.Value ∷ []
unfolding clap_on_literals
row_join_empty_name = refl

row_join_onto_one : defects (codes "join" ∷ codes "a" ∷ codes "b" ∷ codes "a" ∷ []) ≡ fault.Conflict ∷ []
unfolding clap_on_literals
row_join_onto_one = refl

row_join_dashes : defects (codes "join" ∷ codes "-" ∷ codes "-" ∷ codes "a" ∷ []) ≡ []
unfolding clap_on_literals
row_join_dashes = refl
