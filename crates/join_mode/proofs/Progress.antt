-- Inputs, one after another.
use Rattle.std.proofs.Common.{◌≡◌, ◌<◌, ◌+◌, ◌^◌, ℕ, suc, List, [], ◌∷◌, ◌++◌, length, map, take, drop, get_or, Option, Some, None, Result, Ok, Err, refl, ap, sym, subst, ◌∙◌, append_assoc}
use Rattle.std.specs.Prelude.{All, IsNone, IfSome, IsSomeAnd}
use Rattle.std.specs.List.{flat_map}
use Rattle.std.proofs.lemmas.List.{append-nil, length-append, map-append, take-append-drop, take_more}
use Rattle.cap_base.specs.Effects.{Effect, bytes}
use Rattle.cap_base.proofs.Lines.{flat_map-append}
use Rattle.cap_outside.specs.Causes.{Counts}
use Rattle.cap_outside.specs.Told.{Leads}
use Rattle.cap_outside.specs.declared.opened.Opened.{Opened}
use Rattle.cap_outside.specs.declared.source.Source.{Ghosts as SourceMeaning}
use Rattle.mode_base.specs.declared.unread.Unread.{Unread}
use Rattle.mode_base.specs.declared.unread.Unread.TheVariants as unread
use Rattle.mode_base.specs.Outlets.{DidFront}
use Rattle.mode_base.specs.Reading.{WasRead, StoppedBy}
use Rattle.mode_base.proofs.Doings.{leads_as, leads_both, front_behind, bytes-append}
use Rattle.ring_join.specs.declared.fault.JoinFault.{JoinFault}
use Rattle.ring_join.specs.declared.fault.JoinFault.TheVariants as fault
use Rattle.ring_join.specs.Whole.{WholeBlock, text, texts, descriptions, packets}
use Rattle.ring_join.specs.Joined.{Begins, beyond, further, section_header, last_file, joined_so_far, EachContinues}
use Rattle.ring_join.specs.Adding.{Known, nothing_known, known_of, known_behind_all, addition, Continues, Differs, AddIs, IsFile}
use Rattle.ring_join.proofs.Walks.{text-append}
use Rattle.ring_join.proofs.Joined.{last_known, last_is}
use Rattle.join_mode.specs.declared.stop.Stop.{Stop}
use Rattle.join_mode.specs.declared.stop.Stop.TheVariants as stop
use Rattle.std.proofs.lemmas.List.Elements.{All-append, All-cons, All-nil}
use Rattle.mode_base.specs.Sources.{whole_of}
use Rattle.join_mode.specs.Joining.{name_of, IsRead, IsJoined, AreJoined, Inputs, GivesContent}
use Rattle.join_mode.specs.inner.Parts.{stop_by, stop_of, Stops, OutcomeIs, Progress, Halted}

-- ---- one source

pub read_stops : {S L : Type 0} (read : S → List ℕ → Type 0) (faults : S → ℕ) (stands_for : L → List Effect → Type 0) (file_faults : L → ℕ) (known : Known) (source : S) (l : L) (why : Unread) → StoppedBy 0 (faults source) why → Stops read faults stands_for file_faults known known source l l (stop_by why)
read_stops read faults stands_for file_faults known source l unread.Failed is = (is, refl)
read_stops read faults stands_for file_faults known source l unread.NoMemory is = (is, refl)

pub add_stops : {S L : Type 0} (read : S → List ℕ → Type 0) (faults : S → ℕ) (stands_for : L → List Effect → Type 0) (file_faults : L → ℕ) (known next : Known) (source : S) (content : List ℕ) (l0 l1 : L) (f : JoinFault)
    → read source content → faults source ≡ 0 → (let r : Result ℕ JoinFault = Err f in AddIs stands_for known content l0 l1 next r) → (let r : Result ℕ JoinFault = Err f in Counts (IsFile r) (file_faults l0) (file_faults l1)) → Stops read faults stands_for file_faults known next source l0 l1 (stop_of f)
add_stops read faults stands_for file_faults known next source content l0 l1 (fault.Bad w at) given none is c = (content, given, is.0, is.2)
add_stops read faults stands_for file_faults known next source content l0 l1 (fault.Differ n) given none is c = (content, given, is.0, is.1, is.3)
add_stops read faults stands_for file_faults known next source content l0 l1 fault.File given none is c = (content, given, is, c.rose tt)
add_stops read faults stands_for file_faults known next source content l0 l1 fault.NoMemory given none is c = (none, is.1)

-- ---- one file more

-- the descriptions that are known behind files
known_last : (files : List (List WholeBlock)) → (known_behind_all files).descriptions ≡ last_known [] files
known_last [] = refl
known_last (f ∷ fs) = sym (last_is f fs)

continues_more : (known : List (List ℕ)) (files : List (List WholeBlock)) (file : List WholeBlock) → EachContinues known files → Begins (last_known known files) (texts (descriptions file)) → EachContinues known (files ++ file ∷ [])
continues_more known [] file c b = (b, tt)
continues_more known (f ∷ fs) file c b = (c.0, continues_more (texts (descriptions f)) fs file c.1 b)

pub continued_more : (files : List (List WholeBlock)) (file : List WholeBlock) → EachContinues [] files → Begins (known_behind_all files).descriptions (texts (descriptions file)) → EachContinues [] (files ++ file ∷ [])
continued_more files file c b = continues_more [] files file c (subst (λ (z : List (List ℕ)). Begins z (texts (descriptions file))) (known_last files) b)

last_more : (files : List (List WholeBlock)) (file : List WholeBlock) → last_file (files ++ file ∷ []) ≡ file
last_more [] file = refl
last_more (f ∷ []) file = refl
last_more (f ∷ (g ∷ fs)) file = last_more (g ∷ fs) file

known_more : (files : List (List WholeBlock)) (file : List WholeBlock) → known_behind_all (files ++ file ∷ []) ≡ known_of file
known_more [] file = refl
known_more (f ∷ fs) file = ap known_of (last_more (f ∷ fs) file)

-- how many descriptions are known behind files
abbrev last_count : ℕ → List (List WholeBlock) → ℕ
last_count known [] = known
last_count known (f ∷ fs) = last_count (length (descriptions f)) fs

further_more : (known : ℕ) (files : List (List WholeBlock)) (file : List WholeBlock) → further known (files ++ file ∷ []) ≡ further known files ++ beyond (last_count known files) file
further_more known [] file = append-nil (beyond known file)
further_more known (f ∷ fs) file = ap (λ (z : List WholeBlock). beyond known f ++ z) (further_more (length (descriptions f)) fs file) ∙ sym (append_assoc (beyond known f) (further (length (descriptions f)) fs) (beyond (last_count (length (descriptions f)) fs) file))

count_last : (f : List WholeBlock) (fs : List (List WholeBlock)) → last_count (length (descriptions f)) fs ≡ length (descriptions (last_file (f ∷ fs)))
count_last f [] = refl
count_last f (g ∷ fs) = count_last g fs

so_far_more : (files : List (List WholeBlock)) (file : List WholeBlock) → joined_so_far (files ++ file ∷ []) ≡ joined_so_far files ++ addition (known_behind_all files) file
so_far_more [] file = ap (λ (z : List WholeBlock). section_header ∷ z) (append-nil (beyond 0 file))
so_far_more (f ∷ fs) file =
    let many : length (texts (descriptions (last_file (f ∷ fs)))) ≡ last_count 0 (f ∷ fs) = length-texts (descriptions (last_file (f ∷ fs))) ∙ sym (count_last f fs) in
    ap (λ (z : List WholeBlock). section_header ∷ z) (further_more 0 (f ∷ fs) file ∙ ap (λ (n : ℕ). further 0 (f ∷ fs) ++ beyond n file) (sym many))
  where
    length-texts : (bs : List WholeBlock) → length (texts bs) ≡ length bs
    length-texts [] = refl
    length-texts (b ∷ bs) = ap suc (length-texts bs)

pub text_more : (files : List (List WholeBlock)) (file : List WholeBlock) → text (joined_so_far (files ++ file ∷ [])) ≡ text (joined_so_far files) ++ text (addition (known_behind_all files) file)
text_more files file = ap text (so_far_more files file) ∙ text-append (joined_so_far files) (addition (known_behind_all files) file)

packets_more : (files : List (List WholeBlock)) (file : List WholeBlock) → length (flat_map packets (files ++ file ∷ [])) ≡ length (flat_map packets files) + length (packets file)
packets_more files file = ap (λ (z : List WholeBlock). length z) (flat_map-append packets files (file ∷ []) ∙ ap (λ (z : List WholeBlock). flat_map packets files ++ z) (append-nil (packets file))) ∙ length-append (flat_map packets files) (packets file)

joined_more : {S : Type 0} (read : Opened S → List ℕ → Type 0) (sources : List (Opened S)) (files : List (List WholeBlock)) (s : Opened S) (file : List WholeBlock) → AreJoined read sources files → IsJoined read s file → AreJoined read (sources ++ s ∷ []) (files ++ file ∷ [])
joined_more read [] [] s file a j = (j, tt)
joined_more read (x ∷ sources) (f ∷ files) s file a j = (a.0, joined_more read sources files s file a.1 j)
joined_more read [] (f ∷ files) s file a j = absurd a
joined_more read (x ∷ sources) [] s file a j = absurd a

-- ---- names

-- the names up to the next one, and those behind it
pub names_more : (names items : List (List ℕ)) (i : ℕ) (name : List ℕ) → items ≡ names → i < length items → name ≡ get_or items i name → take (i + 1) names ≡ take i names ++ name ∷ []
names_more names items i name same within is =
    ap (λ (z : List (List ℕ)). take (i + 1) z) (sym same) ∙ take_more items i name within ∙ ap (λ (n : List ℕ). take i items ++ n ∷ []) (sym is) ∙ ap (λ (z : List (List ℕ)). take i z ++ name ∷ []) same

names-append : {S : Type 0} (xs ys : List (Opened S)) → map name_of (xs ++ ys) ≡ map name_of xs ++ map name_of ys
names-append xs ys = map-append name_of xs ys

module _ {S L : Type 0} (meaning : SourceMeaning S) (stands_for : L → List Effect → Type 0) (file_faults : L → ℕ) where
  abbrev given : S → List ℕ → Type 0
  given = WasRead (2 ^ 30) meaning.taken meaning.left meaning.faults meaning.ends

  abbrev read : Opened S → List ℕ → Type 0
  read = IsRead meaning

  pub progress_none : (l : L) (sources : List (Opened S)) (known : Known) → sources ≡ [] → known ≡ nothing_known → Leads stands_for l l [] → Progress read stands_for [] sources l l known 0
  progress_none l sources known none fresh did = record {
    files = [];
    named = ap (map name_of) none;
    each = subst (λ (z : List (Opened S)). AreJoined read z []) (sym none) tt;
    continued = tt;
    known_is = fresh;
    did = did;
    counted = refl;
  }

  -- one input more was joined
  module _ (names : List (List ℕ)) (sources : List (Opened S)) (l0 l1 l2 : L) (known next : Known) (count : ℕ) (p : Progress read stands_for names sources l0 l1 known count) (opened : Opened S) (name : List ℕ) (named : opened.name ≡ name) where
    more_text : (file : List WholeBlock) → bytes (text (joined_so_far (p.files ++ file ∷ []))) ≡ bytes (text (joined_so_far p.files)) ++ bytes (text (addition known file))
    more_text file = ap bytes (text_more p.files file ∙ ap (λ (z : Known). text (joined_so_far p.files) ++ text (addition z file)) (sym p.known_is)) ∙ bytes-append (text (joined_so_far p.files)) (text (addition known file))

    all_named : map name_of (sources ++ opened ∷ []) ≡ names ++ name ∷ []
    all_named = names-append sources (opened ∷ []) ∙ ap (λ (z : List (List ℕ)). z ++ opened.name ∷ []) p.named ∙ ap (λ (z : List ℕ). names ++ z ∷ []) named

    is_joined : (source : S) (content : List ℕ) (file : List WholeBlock) → opened.source ≡ Some source → given source content → Continues known content file → IsJoined read opened file
    is_joined source content file is g c = record { content = content; given = record { source = source; there = is; given = g }; few = c.few; is = c.is }

    more_continued : (content : List ℕ) (file : List WholeBlock) → Continues known content file → EachContinues [] (p.files ++ file ∷ [])
    more_continued content file c = continued_more p.files file p.continued (subst (λ (z : Known). Begins z.descriptions (texts (descriptions file))) p.known_is c.begins)

    progress_by : (source : Option S) (n : ℕ) → opened.source ≡ source → (let r : Result ℕ Stop = Ok n in OutcomeIs given meaning.faults stands_for file_faults known next l1 l2 source r) → Progress read stands_for (names ++ name ∷ []) (sources ++ opened ∷ []) l0 l2 next (count + n)
    progress_by None n is o = absurd o
    progress_by (Some source) n is o =
        let a = o.adds in
        let both = packets_more p.files a.file in
        record {
          files = p.files ++ a.file ∷ [];
          named = all_named;
          each = joined_more read sources p.files opened a.file p.each (is_joined source o.content a.file is o.given a.continues);
          continued = more_continued o.content a.file a.continues;
          known_is = a.behind ∙ sym (known_more p.files a.file);
          did = leads_as stands_for l0 l2 (bytes (text (joined_so_far p.files)) ++ bytes (text (addition known a.file))) (bytes (text (joined_so_far (p.files ++ a.file ∷ [])))) (sym (more_text a.file))
              (leads_both stands_for l0 l1 l2 (bytes (text (joined_so_far p.files))) (bytes (text (addition known a.file))) p.did a.did);
          counted = ap (λ (z : ℕ). z + n) p.counted ∙ ap (λ (z : ℕ). length (flat_map packets p.files) + z) a.counted ∙ sym both;
        }

    pub progress_more : (n : ℕ) → (let r : Result ℕ Stop = Ok n in OutcomeIs given meaning.faults stands_for file_faults known next l1 l2 opened.source r) → Progress read stands_for (names ++ name ∷ []) (sources ++ opened ∷ []) l0 l2 next (count + n)
    progress_more n o = progress_by opened.source n refl o

    -- or the joining stopped at it
    abbrev Did : L → List (List WholeBlock) → Type 0
    Did l files = Leads stands_for l0 l (bytes (text (joined_so_far files)))

    abbrev Broke : L → List (List WholeBlock) → Type 0
    Broke l files = DidFront stands_for l0 l (bytes (text (joined_so_far files)))

    stopped_at : (all rest : List (List ℕ)) → all ≡ (names ++ name ∷ []) ++ rest → Inputs read all (sources ++ opened ∷ []) p.files (Some opened) rest
    stopped_at all rest parts = record { whole = sources; parts = refl; named = parts ∙ ap (λ (z : List (List ℕ)). z ++ rest) (sym all_named); each = p.each; continued = p.continued }

    broken_at : (all rest : List (List ℕ)) (source : S) (content : List ℕ) (file : List WholeBlock) → all ≡ (names ++ name ∷ []) ++ rest → opened.source ≡ Some source → given source content → Continues known content file → Inputs read all (sources ++ opened ∷ []) (p.files ++ file ∷ []) None rest
    broken_at all rest source content file parts is g c = record {
      whole = sources ++ opened ∷ [];
      parts = sym (append-nil (sources ++ opened ∷ []));
      named = parts ∙ ap (λ (z : List (List ℕ)). z ++ rest) (sym all_named);
      each = joined_more read sources p.files opened file p.each (is_joined source content file is g c);
      continued = more_continued content file c;
    }

    unmoved : l2 ≡ l1 → Did l2 p.files
    unmoved same = subst (λ (z : L). Did z p.files) (sym same) p.did

    some_source : (source : S) → opened.source ≡ Some source → (P : S → Type 0) → P source → IsSomeAnd opened.source P
    some_source source is P holds = subst (λ (z : Option S). IsSomeAnd z P) (sym is) holds

    halted_by : (all rest : List (List ℕ)) (source : Option S) (why : Stop) → all ≡ (names ++ name ∷ []) ++ rest → opened.source ≡ source → (let r : Result ℕ Stop = Err why in OutcomeIs given meaning.faults stands_for file_faults known next l1 l2 source r)
        → Halted read meaning.faults (Did l2) (Broke l2) (Did l2) all (sources ++ opened ∷ []) why
    halted_by all rest None stop.Unopened parts is o = record { files = p.files; stopped = Some opened; unopened = rest; inputs = stopped_at all rest parts; halt = (subst IsNone (sym is) refl, unmoved o) }
    halted_by all rest None stop.Unreadable parts is o = absurd o
    halted_by all rest None (stop.Bad w at) parts is o = absurd o
    halted_by all rest None (stop.Differ n) parts is o = absurd o
    halted_by all rest None stop.File parts is o = absurd o
    halted_by all rest None stop.NoMemory parts is o = absurd o
    halted_by all rest (Some source) stop.Unopened parts is o = absurd o
    halted_by all rest (Some source) stop.Unreadable parts is o = record { files = p.files; stopped = Some opened; unopened = rest; inputs = stopped_at all rest parts; halt = (some_source source is (λ s. meaning.faults s ≡ 1) o.0, unmoved o.1) }
    halted_by all rest (Some source) (stop.Bad w at) parts is o = record { files = p.files; stopped = Some opened; unopened = rest; inputs = stopped_at all rest parts; halt = ((o.0, record { source = source; there = is; given = o.1 }, o.2), unmoved o.3) }
    halted_by all rest (Some source) (stop.Differ n) parts is o =
        record { files = p.files; stopped = Some opened; unopened = rest; inputs = stopped_at all rest parts; halt = ((o.0, record { source = source; there = is; given = o.1 }, o.2, subst (λ (z : Known). Differs z o.0 n) p.known_is o.3), unmoved o.4) }
    halted_by all rest (Some source) stop.File parts is o =
        let b = o.2 in
        record {
          files = p.files ++ b.file ∷ [];
          stopped = None;
          unopened = rest;
          inputs = broken_at all rest source o.0 b.file parts is o.1 b.continues;
          halt = (refl, subst (λ (z : List Effect). DidFront stands_for l0 l2 z) (sym (more_text b.file)) (front_behind stands_for l0 l1 l2 (bytes (text (joined_so_far p.files))) (bytes (text (addition known b.file))) p.did b.did));
        }
    halted_by all rest (Some source) stop.NoMemory parts is o = record { files = p.files; stopped = Some opened; unopened = rest; inputs = stopped_at all rest parts; halt = (some_source source is (λ s. meaning.faults s ≡ 0) o.0, unmoved o.1) }

    pub halted_at : (all rest : List (List ℕ)) (why : Stop) → all ≡ (names ++ name ∷ []) ++ rest → (let r : Result ℕ Stop = Err why in OutcomeIs given meaning.faults stands_for file_faults known next l1 l2 opened.source r)
        → Halted read meaning.faults (Did l2) (Broke l2) (Did l2) all (sources ++ opened ∷ []) why
    halted_at all rest why parts o = halted_by all rest opened.source why parts refl o

  -- memory was wanting between two inputs
  pub halted_between : (names rest all : List (List ℕ)) (sources : List (Opened S)) (l0 l1 l2 : L) (known : Known) (count : ℕ) → Progress read stands_for names sources l0 l1 known count → all ≡ names ++ rest → l2 ≡ l1
      → Halted read meaning.faults (λ files. Leads stands_for l0 l2 (bytes (text (joined_so_far files)))) (λ files. DidFront stands_for l0 l2 (bytes (text (joined_so_far files)))) (λ files. Leads stands_for l0 l2 (bytes (text (joined_so_far files)))) all sources stop.NoMemory
  halted_between names rest all sources l0 l1 l2 known count p parts same = record {
    files = p.files;
    stopped = None;
    unopened = rest;
    inputs = record { whole = sources; parts = sym (append-nil sources); named = parts ∙ ap (λ (z : List (List ℕ)). z ++ rest) (sym p.named); each = p.each; continued = p.continued };
    halt = subst (λ (z : L). Leads stands_for l0 z (bytes (text (joined_so_far p.files)))) (sym same) p.did;
  }

-- ---- what the sources give

pub contents_more : {S : Type 0} (content now : List ℕ → Option (List ℕ)) (taken left : S → Option (List ℕ)) (sources all : List (Opened S)) (s : Opened S) → ((other : List ℕ) → now other ≡ content other) → All (GivesContent content taken left) sources → GivesContent now taken left s → all ≡ sources ++ s ∷ [] → All (GivesContent content taken left) all
contents_more content now taken left sources all s same each own is =
    let mine : GivesContent content taken left s = subst (λ (z : Option (List ℕ)). IfSome z (λ b. IfSome s.source (λ source. whole_of (taken source) (left source) ≡ Some b))) (same s.name) own in
    subst (All (GivesContent content taken left)) (sym is) (All-append (GivesContent content taken left) sources (s ∷ []) each (All-cons (GivesContent content taken left) s [] mine (All-nil (GivesContent content taken left))))

-- all names up to the next one, and those behind it
pub names_split : (names items : List (List ℕ)) (i : ℕ) (name : List ℕ) → items ≡ names → i < length items → name ≡ get_or items i name → names ≡ (take i names ++ name ∷ []) ++ drop (i + 1) names
names_split names items i name same within is = sym (take-append-drop (i + 1) names) ∙ ap (λ (z : List (List ℕ)). z ++ drop (i + 1) names) (names_more names items i name same within is)

pub opened_more : {S O : Type 0} (has_opened : O → List (List ℕ) → Type 0) (o0 o1 o2 : O) (sources all : List (Opened S)) (s : Opened S) (name : List ℕ) → s.name ≡ name → all ≡ sources ++ s ∷ [] → Leads has_opened o0 o1 (map name_of sources) → Leads has_opened o1 o2 (name ∷ []) → Leads has_opened o0 o2 (map name_of all)
opened_more has_opened o0 o1 o2 sources all s name named is first second history stands =
    subst (has_opened o2) (append_assoc history (map name_of sources) (name ∷ []) ∙ ap (λ (z : List (List ℕ)). history ++ z) (ap (λ (z : List ℕ). map name_of sources ++ z ∷ []) (sym named) ∙ sym (names-append sources (s ∷ [])) ∙ ap (map name_of) (sym is)))
    (second (history ++ map name_of sources) (first history stands))
