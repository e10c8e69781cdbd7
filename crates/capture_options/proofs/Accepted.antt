-- Words without a defect ask for a lawful mode.
use Rattle.std.proofs.Common.{◌≡◌, ◌≤◌, ◌==◌, ◌||◌, ℕ, arith, List, [], ◌∷◌, Option, Some, None, Bool, Result, Ok, Err, true, false, cond, not, refl, sym, subst, length, filter, is_none, unwrap_or, codes, nat_lt, MatchResult}
use Rattle.std.proofs.lemmas.Bool.Decides.{nat_tests}
use Rattle.std.proofs.lemmas.List.Elements.{All-nil, All-cons}
use Rattle.std.specs.List.{All, list_all}
use Rattle.std.specs.Option.{ForSome}
use Rattle.clap.specs.Walk.{Row}
use Rattle.clap.specs.Simple.{App, matches_of}
use Rattle.cap_base.specs.declared.limits.TheConstants.{MAX_JOINED_FILES, MAX_READERS, MAX_SOURCES}
use Rattle.cap_base.specs.Lawful.{IsLawfulName}
use Rattle.capture_options.specs.Numbers.{is_name}
use Rattle.capture_options.specs.Givens.{Text}
use Rattle.capture_options.specs.Arguments.{are_bad_numbers, file_command, is_bad_file, is_bad_make, is_bad_watch, is_defect_by, is_defect_of_join, is_defect_of_pass, is_refused, join_command, join_mode, make_command, make_mode, most_packets, most_start, only_value, packets_in, pass_command, pass_mode, readers_in, refusal_at, sources_in, start_in, trial_command, watch_command, watch_mode, word_in, words_in}
use Rattle.capture_options.specs.Words.{Kind, capture, check, follow, has_defect, is_defect_in, join, kind_of, make, mode_in, mode_of, pass, trial, watch}
use Rattle.capture_options.specs.inner.Answers.{IsAnswerBy}
use Rattle.capture_options.specs.Lawful.{AcceptedWordsAreLawful, AreLawfulStreams, IsLawfulMode}
use Rattle.capture_options.specs.declared.mode.Mode.{Mode}
use Rattle.capture_options.specs.declared.mode.WordFault.{WordFault}
use Rattle.capture_options.specs.declared.mode.WordFault.TheVariants as fault
use Rattle.capture_options.proofs.Ranges.{both, name_here, name_of_test, neither, not_bad, number_range}
use Rattle.capture_options.proofs.LawfulSettings.{capture_lawful}

-- ---- the modes with arguments

never_both : {P : Type 0} (b : Bool) → not b ≡ false → b ≡ false → P
never_both true e h = cc
never_both false e h = cc

-- words without a defect are refused by no one, so their values are good
good_by : (refused : Bool) (has : WordFault → Bool) (m n : ℕ) → ((e : WordFault) → cond refused (refusal_at m n e) (has e) ≡ false) → (e : WordFault) → has e ≡ false
good_by true has m n h = never_both (nat_lt m n) (h fault.Missing) (h fault.Unknown)
good_by false has m n h = h

good : (a : App) (words : List Text) (has : List Row → WordFault → Bool) → ((e : WordFault) → is_defect_by a words has e ≡ false) → (e : WordFault) → has (matches_of a words) e ≡ false
good a words has h = good_by (is_refused a words) (has (matches_of a words)) (length a.top.rules) (length words) h

found : (P : ℕ → Type 0) (o : Option ℕ) → is_none o ≡ false → ForSome o P → P (unwrap_or o 0)
found P None e h = cc
found P (Some n) e h = h n refl

streams_lawful : (rows : List Row) → are_bad_numbers rows ≡ false
    → AreLawfulStreams (unwrap_or (start_in (word_in rows (codes "START"))) 0) (unwrap_or (sources_in (word_in rows (codes "SOURCES"))) 0) (unwrap_or (packets_in (word_in rows (codes "PACKETS"))) 0)
streams_lawful rows e =
    let one : Text = word_in rows (codes "START") in
    let two : Text = word_in rows (codes "SOURCES") in
    let three : Text = word_in rows (codes "PACKETS") in
    let first = neither (is_none (start_in one)) (is_none (sources_in two) || is_none (packets_in three)) e in
    let second = neither (is_none (sources_in two)) (is_none (packets_in three)) first.1 in
    let start = found (λ m. (0 ≤ m) × (m ≤ most_start)) (start_in one) first.0 (number_range 0 most_start one) in
    let sources = found (λ m. (1 ≤ m) × (m ≤ MAX_SOURCES)) (sources_in two) second.0 (number_range 1 MAX_SOURCES two) in
    let packets = found (λ m. (1 ≤ m) × (m ≤ most_packets)) (packets_in three) second.1 (number_range 1 most_packets three) in
    record { bounded_start = start.1; some_sources = sources.0; few_sources = sources.1; some_packets = packets.0; few_packets = packets.1 }

name_lawful : (rows : List Row) (id : Text) → not (is_name (word_in rows id)) ≡ false → IsLawfulName (word_in rows id)
name_lawful rows id e = name_here (word_in rows id) e

make_lawful : (rows : List Row) → is_bad_make rows ≡ false → IsLawfulMode (make_mode rows)
make_lawful rows e =
    let n = neither (are_bad_numbers rows) (not (is_name (word_in rows (codes "NAME")))) e in
    (streams_lawful rows n.0, name_lawful rows (codes "NAME") n.1)

pass_lawful : (rows : List Row) → ((e : WordFault) → is_defect_of_pass rows e ≡ false) → IsLawfulMode (pass_mode rows)
pass_lawful rows h =
    let n = neither (not (is_name (word_in rows (codes "NAME")))) (not (is_name (word_in rows (codes "OUT")))) (h fault.Value) in
    (name_lawful rows (codes "NAME") n.0, name_lawful rows (codes "OUT") n.1)

watch_lawful : (rows : List Row) → is_bad_watch rows ≡ false → IsLawfulMode (watch_mode rows)
watch_lawful rows e =
    let text : Text = word_in rows (codes "READERS") in
    let n = neither (is_none (readers_in text)) (not (is_name (word_in rows (codes "NAME")))) e in
    let readers = found (λ m. (1 ≤ m) × (m ≤ MAX_READERS)) (readers_in text) n.0 (number_range 1 MAX_READERS text) in
    (name_lawful rows (codes "NAME") n.1, readers.0, readers.1)

each_name : (names : List Text) → list_all is_name names ≡ true → All IsLawfulName names
each_name [] e = All-nil IsLawfulName
each_name (name ∷ names) e =
    let b = both (is_name name) (list_all is_name names) e in
    All-cons IsLawfulName name names (name_of_test name b.0) (each_name names b.1)

counted : (n : ℕ) → (n == 0) ≡ false → 1 ≤ n
counted n e = grind (arith, nat_tests)

few : (n : ℕ) → nat_lt MAX_JOINED_FILES n ≡ false → n ≤ MAX_JOINED_FILES
few n e = grind (arith, nat_tests)

join_lawful : (rows : List Row) → ((e : WordFault) → is_defect_of_join rows e ≡ false) → IsLawfulMode (join_mode rows)
join_lawful rows h =
    let names : List Text = words_in rows (codes "NAME") in
    let n = neither (not (is_name (word_in rows (codes "OUT")))) (not (list_all is_name names)) (h fault.Value) in (
      name_lawful rows (codes "OUT") n.0,
      record { some = counted (length names) (h fault.Missing); few = few (length names) (h fault.TooMany); each = each_name names (not_bad (list_all is_name names) n.1) },
    )

lawful_in : (k : Kind) (words : List Text) → ((e : WordFault) → is_defect_in k words e ≡ false) → IsLawfulMode (mode_in k words)
lawful_in capture words h = capture_lawful words h
lawful_in follow words h = name_lawful (matches_of file_command words) (codes "NAME") (good file_command words (λ rows. only_value (is_bad_file rows)) h fault.Value)
lawful_in check words h = name_lawful (matches_of file_command words) (codes "NAME") (good file_command words (λ rows. only_value (is_bad_file rows)) h fault.Value)
lawful_in make words h = make_lawful (matches_of make_command words) (good make_command words (λ rows. only_value (is_bad_make rows)) h fault.Value)
lawful_in trial words h = streams_lawful (matches_of trial_command words) (good trial_command words (λ rows. only_value (are_bad_numbers rows)) h fault.Value)
lawful_in pass words h = pass_lawful (matches_of pass_command words) (good pass_command words is_defect_of_pass h)
lawful_in watch words h = watch_lawful (matches_of watch_command words) (good watch_command words (λ rows. only_value (is_bad_watch rows)) h fault.Value)
lawful_in join words h = join_lawful (matches_of join_command words) (good join_command words is_defect_of_join h)

-- ---- the list of defects

neither_way : (b : Bool) → cond b false false ≡ false
neither_way true = refl
neither_way false = refl

pub memory_is_none : (k : Kind) (words : List Text) → is_defect_in k words fault.NoMemory ≡ false
memory_is_none capture words = refl
memory_is_none follow words = neither_way _
memory_is_none check words = neither_way _
memory_is_none make words = neither_way _
memory_is_none trial words = neither_way _
memory_is_none pass words = neither_way _
memory_is_none watch words = neither_way _
memory_is_none join words = neither_way _

left_out : (b : Bool) (x : WordFault) (rest : List WordFault) → cond b (x ∷ rest) rest ≡ [] → (b ≡ false) × (rest ≡ [])
left_out true x rest e = cc
left_out false x rest e = (refl, e)

each : (p : WordFault → Bool) → p fault.Unknown ≡ false → p fault.Missing ≡ false → p fault.Value ≡ false → p fault.Conflict ≡ false → p fault.TooMany ≡ false → p fault.NoMemory ≡ false
    → (e : WordFault) → p e ≡ false
each p a b c d f n fault.Unknown = a
each p a b c d f n fault.Missing = b
each p a b c d f n fault.Value = c
each p a b c d f n fault.Conflict = d
each p a b c d f n fault.TooMany = f
each p a b c d f n fault.NoMemory = n

none_passes : (p : WordFault → Bool) → p fault.NoMemory ≡ false → filter p (fault.Unknown ∷ fault.Missing ∷ fault.Value ∷ fault.Conflict ∷ fault.TooMany ∷ []) ≡ [] → (e : WordFault) → p e ≡ false
none_passes p none h e =
    let a = left_out (p fault.Unknown) fault.Unknown (filter p (fault.Missing ∷ fault.Value ∷ fault.Conflict ∷ fault.TooMany ∷ [])) h in
    let b = left_out (p fault.Missing) fault.Missing (filter p (fault.Value ∷ fault.Conflict ∷ fault.TooMany ∷ [])) a.1 in
    let c = left_out (p fault.Value) fault.Value (filter p (fault.Conflict ∷ fault.TooMany ∷ [])) b.1 in
    let d = left_out (p fault.Conflict) fault.Conflict (filter p (fault.TooMany ∷ [])) c.1 in
    let f = left_out (p fault.TooMany) fault.TooMany [] d.1 in
    each p a.0 b.0 c.0 d.0 f.0 none e

-- ---- the law, and what it says of an answer

pub accepted : AcceptedWordsAreLawful
accepted words e = lawful_in (kind_of words) words (none_passes (has_defect words) (memory_is_none (kind_of words) words) e)

pub answered : (words : List Text) (r : Result Mode WordFault) → IsAnswerBy (mode_of words) (has_defect words) r → MatchResult r IsLawfulMode (λ _. Unit {0})
answered words (Ok m) h = subst IsLawfulMode (sym h.1) (lawful_in (kind_of words) words h.0)
answered words (Err e) h = tt
