-- Capture words without a defect give lawful settings.
use Rattle.std.proofs.Common.{◌≡◌, ◌≤◌, ◌+◌, ◌∙◌, ◌&&◌, ◌||◌, ℕ, List, [], ◌∷◌, Option, Some, None, Bool, true, false, cond, not, refl, arith, sym, subst, length, nat_lt, filter_map, count_by, is_none, unwrap_or, min, ◌==◌}
use Rattle.std.proofs.lemmas.Bool.Decides.{nat_tests}
use Rattle.std.proofs.lemmas.List.Elements.{All-nil, All-cons, All-head, All-tail}
use Rattle.std.proofs.lemmas.List.Recursion.{is_count_by}
use Rattle.std.specs.List.{All, list_any}
use Rattle.std.specs.Option.{ForSome}
use Rattle.cap_base.specs.declared.settings.Settings.{Settings}
use Rattle.cap_base.specs.declared.limits.TheConstants.{MAX_CAPTURED_LEN, MAX_SOURCES, MAX_STANDING_PACKETS}
use Rattle.cap_base.specs.Lawful.{AreLawful, AreLawfulLimits, IsGivenAbove0, IsLawfulName, IsLawfulSnap}
use Rattle.capture_options.specs.Givens.{Text, givens}
use Rattle.capture_options.specs.Captures.{capture_mode, counts_one_file, cut_at, has_too_many, is_bad, is_classic, is_classic_in_vain, is_defect, is_lacking, is_pcapng, is_source, latest, limits_of, number_for, output_in, overwrites_source, rings_in_vain, settings_of, snap_in, source_in}
use Rattle.capture_options.specs.declared.given.Given.{Given}
use Rattle.capture_options.specs.declared.given.Given.TheVariants as given
use Rattle.capture_options.specs.declared.given.Setting.{Setting}
use Rattle.capture_options.specs.declared.given.Setting.TheVariants as setting
use Rattle.capture_options.specs.Lawful.{IsLawfulMode}
use Rattle.capture_options.specs.declared.mode.Mode.TheVariants as mode
use Rattle.capture_options.specs.declared.mode.WordFault.{WordFault}
use Rattle.capture_options.specs.declared.mode.WordFault.TheVariants as fault
use Rattle.capture_options.proofs.Ranges.{IsInRange, either, each_by, givens_range, kept_above, latest_holds, name_here, none_bad, number_above, output_here, snap_within}

pub sources_lawful : (gs : List Given) → All (λ g. is_bad g ≡ false) gs → All IsLawfulName (filter_map source_in gs)
sources_lawful [] a = All-nil IsLawfulName
sources_lawful (given.Source name ∷ gs) a =
    All-cons IsLawfulName name (filter_map source_in gs) (name_here name (All-head (λ g. is_bad g ≡ false) (given.Source name) gs a)) (sources_lawful gs (All-tail (λ g. is_bad g ≡ false) (given.Source name) gs a))
sources_lawful (g ∷ gs) a = sources_lawful gs (All-tail (λ g. is_bad g ≡ false) g gs a)

one_more : (g : Given) (gs : List Given) → length (filter_map source_in (g ∷ gs)) ≡ cond (is_source g) (1 + length (filter_map source_in gs)) (length (filter_map source_in gs))
one_more (given.Source name) gs = omega arith
one_more g gs = refl

pub sources_counted : (gs : List Given) → length (filter_map source_in gs) ≡ count_by is_source gs
sources_counted gs = is_count_by (λ hs. length (filter_map source_in hs)) is_source refl one_more gs

pub sources_some : (gs : List Given) → list_any is_source gs ≡ true → 1 ≤ length (filter_map source_in gs)
sources_some [] e = cc
sources_some (given.Source name ∷ gs) e = omega arith
sources_some (g ∷ gs) e = sources_some gs e

at_most_sources : (n : ℕ) → nat_lt MAX_SOURCES n ≡ false → n ≤ MAX_SOURCES
at_most_sources n e = grind (arith, nat_tests)

few_sources : (gs : List Given) → has_too_many gs ≡ false → length (filter_map source_in gs) ≤ MAX_SOURCES
few_sources gs e = subst (λ n. n ≤ MAX_SOURCES) (sym (sources_counted gs)) (at_most_sources (count_by is_source gs) e)

-- ---- the parts of the settings

named : (o : Option Text) → is_none o ≡ false → ForSome o IsLawfulName → IsLawfulName (unwrap_or o [])
named None e h = cc
named (Some name) e h = h name refl

output_lawful : (gs : List Given) → is_none (latest output_in gs) ≡ false → All (λ g. is_bad g ≡ false) gs → IsLawfulName (unwrap_or (latest output_in gs) [])
output_lawful gs e a =
    named (latest output_in gs) e
    (latest_holds output_in IsLawfulName gs (each_by (λ g. is_bad g ≡ false) (λ g. ForSome (output_in g) IsLawfulName) gs output_here a))

held : (n : ℕ) → 1 ≤ n → (1 ≤ min n MAX_STANDING_PACKETS) × (min n MAX_STANDING_PACKETS ≤ MAX_STANDING_PACKETS)
held n h = (grind (arith, h), grind arith)

limits_lawful : (packets bytes : Option ℕ) → IsGivenAbove0 packets → AreLawfulLimits (limits_of packets bytes)
limits_lawful None None p = record { some_packets = omega arith; few_packets = omega arith }
limits_lawful None (Some bytes) p = record { some_packets = omega arith; few_packets = omega arith }
limits_lawful (Some packets) bytes p = let h = held packets (p packets refl) in record { some_packets = h.0; few_packets = h.1 }

snap_by : (n : ℕ) → n ≤ MAX_CAPTURED_LEN → (zero_length : Bool) → (n == 0) ≡ zero_length → IsLawfulSnap (cond zero_length None (Some n))
snap_by n few true e = λ m k. cc
snap_by n few false e = λ m k.
    let some : 1 ≤ n = grind (arith, nat_tests) in
    let same : n ≡ m = cc in
    subst (λ x. (1 ≤ x) × (x ≤ MAX_CAPTURED_LEN)) same (some, few)

snap_lawful : (o : Option ℕ) → ForSome o (λ n. n ≤ MAX_CAPTURED_LEN) → IsLawfulSnap (cut_at o)
snap_lawful None h = λ m e. cc
snap_lawful (Some n) h = snap_by n (h n refl) (n == 0) refl

-- ---- all settings

parts : (a b c : Bool) → (a || (not b || c)) ≡ false → (b ≡ true) × (c ≡ false)
parts true b c e = cc
parts false true c e = (refl, e)
parts false false c e = cc

settings_lawful : (words : List Text) → ((e : WordFault) → is_defect (givens words) e ≡ false) → AreLawful (settings_of (givens words))
settings_lawful words h =
    let gs : List Given = givens words in
    let ranges : All IsInRange gs = givens_range None words in
    let good : All (λ g. is_bad g ≡ false) gs = none_bad gs (h fault.Value) in
    let there = parts (list_any is_lacking gs) (list_any is_source gs) (is_none (latest output_in gs)) (h fault.Missing) in
    let above : (s : Setting) → IsGivenAbove0 (latest (number_for s) gs) = λ s. number_above s gs ranges in record {
      some_sources = sources_some gs there.0;
      few_sources = few_sources gs (h fault.TooMany);
      sources = sources_lawful gs good;
      output = output_lawful gs there.1 good;
      limits = limits_lawful (latest (number_for setting.HeldPackets) gs) (latest (number_for setting.HeldBytes) gs) (above setting.HeldPackets);
      stop = record {
        packets = either (λ n. 1 ≤ n) (latest (number_for setting.StopPackets) gs) (latest (number_for setting.Count) gs) (above setting.StopPackets) (above setting.Count);
        bytes = above setting.StopFilesize;
        nanos = above setting.StopDuration;
        files = above setting.StopFiles;
      };
      switch = record {
        packets = above setting.SwitchPackets;
        bytes = above setting.SwitchFilesize;
        nanos = above setting.SwitchDuration;
        interval = above setting.SwitchInterval;
        keep = kept_above gs ranges;
      };
      snap = snap_lawful (latest snap_in gs) (snap_within gs ranges);
    }

-- classic files are of one source
one_source : (classic pcapng several : Bool) (n : ℕ) → (classic && (pcapng || several)) ≡ false → classic ≡ true → nat_lt 1 n ≡ several → 1 ≤ n → n ≡ 1
one_source true true several n e h s some = cc
one_source true false true n e h s some = cc
one_source true false false n e h s some = grind (arith, nat_tests)
one_source false pcapng several n e h s some = cc

by_format : (classic : Bool) (s : Settings) → AreLawful s → (classic ≡ true → length s.sources ≡ 1) → IsLawfulMode (cond classic (mode.Classic s) (mode.Capture s))
by_format true s lawful one = (lawful, one refl)
by_format false s lawful one = lawful

neither_conflict : (a b c d : Bool) → (a || (b || (c || d))) ≡ false → c ≡ false
neither_conflict true b c d e = cc
neither_conflict false true c d e = cc
neither_conflict false false true d e = cc
neither_conflict false false false d e = refl

pub capture_lawful : (words : List Text) → ((e : WordFault) → is_defect (givens words) e ≡ false) → IsLawfulMode (capture_mode (givens words))
capture_lawful words h =
    let gs : List Given = givens words in
    let lawful : AreLawful (settings_of gs) = settings_lawful words h in
    let classic : is_classic_in_vain gs ≡ false = neither_conflict (counts_one_file gs) (rings_in_vain gs) (is_classic_in_vain gs) (overwrites_source gs) (h fault.Conflict) in
    by_format (list_any is_classic gs) (settings_of gs) lawful
    (λ e. sources_counted gs ∙ one_source (list_any is_classic gs) (list_any is_pcapng gs) (nat_lt 1 (count_by is_source gs)) (count_by is_source gs) classic e refl (subst (λ n. 1 ≤ n) (sources_counted gs) lawful.some_sources))
