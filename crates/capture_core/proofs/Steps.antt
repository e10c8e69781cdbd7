-- One entry of a replay.
use Rattle.std.proofs.Common.{◌≡◌, ◌≤◌, ◌⊎◌, inl, inr, ℕ, Bool, true, false, if◌then◌else◌, Result, Ok, Err, OnOk, List, [], ◌∷◌, ◌++◌, length, refl, sym, ap, ◌∙◌, subst, arith}
use Rattle.std.proofs.lemmas.List.{length-append}
use Rattle.cap_base.specs.declared.settings.Settings.{Settings}
use Rattle.cap_base.specs.declared.entries.Entry.{Entry}
use Rattle.cap_base.specs.declared.entries.Entry.TheVariants as entry
use Rattle.cap_base.specs.declared.entries.Why.{Why}
use Rattle.cap_base.specs.declared.entries.Why.TheVariants as why
use Rattle.capture_desk.specs.declared.acts.Act.{Act}
use Rattle.capture_desk.specs.declared.acts.Want.{Want}
use Rattle.capture_desk.specs.declared.due.Due.TheVariants as dues
use Rattle.capture_desk.specs.Past.{Past, nothing, ◌▹◌}
use Rattle.capture_desk.specs.Files.{held, begun, capture_start}
use Rattle.capture_desk.specs.Due.{due, file_lost}
use Rattle.capture_desk.specs.Acts.{acts, names, started, file_name, piece, piece_of, last_of}
use Rattle.capture_desk.specs.Laws.{AreMade, last_name}
use Rattle.capture_desk.specs.Made.{Made, made_with, nothing_made}
use Rattle.capture_desk.specs.Orderly.{Follows}
use Rattle.capture_desk.specs.Seen.{Seen, StandsFor}
use Rattle.capture_desk.specs.Told.{Adds, failed_name, files_made, name_or}
use Rattle.capture_desk.proofs.Faults.{stands_memory}
use Rattle.capture_desk.proofs.Making.{piece_makes}
use Rattle.capture_desk.specs.Orderly.{IsAsked}
use Rattle.capture_desk.proofs.Replayed.{asked_stands}
use Rattle.capture_core.specs.inner.Telling.{Gave, Replays, IsTold}

-- where a call succeeded, what it gives
pub on_ok : {T U A B C D E X : Type 0} (r : Result T U) → OnOk r A → OnOk r B → OnOk r C → OnOk r D → OnOk r E → (A → B → C → D → E → X) → OnOk r X
on_ok (Ok x) a b c d e f = f a b c d e
on_ok (Err x) a b c d e f = tt

-- the last of some names
last_is : (made : List (List ℕ)) (first : List ℕ) → 1 ≤ length made → name_or (last_name made) first ≡ last_of made
last_is [] first h = absurd (omega arith)
last_is (x ∷ []) first h = refl
last_is (x ∷ (y ∷ ys)) first h = last_is (y ∷ ys) first (omega arith)

-- the names as they are kept are those of the files
same_files : (d : Seen) (past : Past) → AreMade d.made (names d.settings past) → files_made d past ≡ held (length (names d.settings past))
same_files d past a = by (file_lost past)
  where
    by : (b : Bool) → (if b then d.made.files else held (length (names d.settings past))) ≡ held (length (names d.settings past))
    by true = a.files
    by false = refl

same_name : (d : Seen) (past : Past) → AreMade d.made (names d.settings past) → 1 ≤ length (names d.settings past) → failed_name d past ≡ last_of (names d.settings past)
same_name d past a h = rw a.last (last_is (names d.settings past) (file_name d.settings 1 (capture_start past)) h)

-- where an entry may follow, there is a file behind it
longer : (xs ys : List (List ℕ)) → 1 ≤ length xs → 1 ≤ length (xs ++ ys)
longer xs ys h = rw length-append (omega arith)

pub named_behind : (s : Settings) (past : Past) (e : Entry) → Follows s past e → (begun past ≡ true → 1 ≤ length (names s past)) → 1 ≤ length (names s (past ▹ e))
unfolding due
named_behind s nothing (entry.Take now t) f h = omega arith
named_behind s nothing (entry.Tally now cs) f h = absurd f.0
named_behind s nothing (entry.Stop w lost) f h = absurd (no f.0)
  where
    no : false ≡ true → ⊥
    no e = cc
named_behind s nothing (entry.Join x y z) f h = absurd f
named_behind s nothing (entry.Offer x y z) f h = absurd f
named_behind s nothing (entry.End x y) f h = absurd f
named_behind s (before ▹ x) (entry.Take now t) f h = h refl
named_behind s (before ▹ x) (entry.Tally now cs) f h = longer (names s (before ▹ x)) (started s (before ▹ x) now (due s (before ▹ x))) (h refl)
named_behind s (before ▹ x) (entry.Stop w lost) f h = h refl
named_behind s (before ▹ x) (entry.Join a b c) f h = absurd f
named_behind s (before ▹ x) (entry.Offer a b c) f h = absurd f
named_behind s (before ▹ x) (entry.End a b) f h = absurd f

-- The piece as the desk has it is that of the entry. Only a Stop for a file fault names the last file.
abbrev NamesNone : Entry → Type 0
NamesNone (entry.Stop why.FileFault lost) = ⊥
NamesNone other = Unit {0}

abbrev pub HasName : Seen → Past → Entry → Type 0
HasName d past e = NamesNone e ⊎ (1 ≤ length (names d.settings past))

pub same_piece : (d : Seen) (past : Past) (e : Entry) → AreMade d.made (names d.settings past) → HasName d past e → piece d.settings (failed_name d past) (files_made d past) past e ≡ piece_of d.settings past e
unfolding piece
same_piece d past (entry.Take now t) a h = refl
same_piece d past (entry.Tally now cs) a h = rw (same_files d past a) refl
same_piece d past (entry.Stop why.FileFault lost) a (inl h) = absurd h
same_piece d past (entry.Stop why.FileFault lost) a (inr h) = rw (same_name d past a h) refl
same_piece d past (entry.Stop why.SyncFault lost) a h = refl
same_piece d past (entry.Stop why.NoMemory lost) a h = refl
same_piece d past (entry.Stop why.Packets lost) a h = refl
same_piece d past (entry.Stop why.Filesize lost) a h = refl
same_piece d past (entry.Stop why.Duration lost) a h = refl
same_piece d past (entry.Stop why.Files lost) a h = refl
same_piece d past (entry.Join x y z) a h = refl
same_piece d past (entry.Offer x y z) a h = refl
same_piece d past (entry.End x y) a h = refl

-- a desk told an entry, whose acts are then taken
pub gave_more : (old mid new : Seen) (past : Past) (e : Entry) (want : Want) (left out behind : List Act) → Gave old past out → Follows old.settings past e → HasName old past e → left ≡ [] → Adds left old mid past e want → AreMade mid.made (names old.settings past) → behind ≡ out ++ mid.waiting → new.waiting ≡ [] → new.made ≡ made_with mid.waiting mid.made → new.settings ≡ mid.settings → ((q : Past) → StandsFor mid q → StandsFor new q) → Gave new (past ▹ e) behind
unfolding acts
gave_more old mid new past e want left out behind gave follows has none adds made all none_new made_new same stands =
    let s : Settings = old.settings in
    let settings : new.settings ≡ s = same ∙ adds.settings_same in
    let waiting : mid.waiting ≡ piece_of s past e = adds.waiting_is ∙ (rw none (same_piece old past e gave.made has)) in
    let memory = (stands_memory s old.state past gave.stands.state_stands).0 in
    let makes : AreMade (made_with (piece_of s past e) mid.made) (names s (past ▹ e)) = piece_makes s (last_of (names s past)) (held (length (names s past))) past e mid.made memory made in
    record {
      stands = stands (past ▹ e) adds.stands;
      none = none_new;
      all = subst (λ (q : Settings). behind ≡ acts q (past ▹ e)) (sym settings) (all ∙ (ap (λ (xs : List Act). xs ++ mid.waiting) gave.all ∙ ap (λ (xs : List Act). acts s past ++ xs) waiting));
      made = subst (λ (q : Settings). AreMade new.made (names q (past ▹ e))) (sym settings) (subst (λ (m : Made). AreMade m (names s (past ▹ e))) (sym (made_new ∙ ap (λ (xs : List Act). made_with xs mid.made) waiting)) makes);
      named = λ b. subst (λ (q : Settings). 1 ≤ length (names q (past ▹ e))) (sym settings) (named_behind s past e follows gave.named);
    }

no_more : (xs : List Act) → xs ≡ xs ++ []
no_more [] = refl
no_more (x ∷ xs) = ap (λ (ys : List Act). x ∷ ys) (no_more xs)

-- a Stop that the desk has asked for does nothing
gave_asked_by : (d : Seen) (past : Past) (cause : Why) (lost : ℕ) (out : List Act) → IsAsked cause → Gave d past out → due d.settings past ≡ dues.Stop cause → acts d.settings (past ▹ entry.Stop cause lost) ≡ acts d.settings past ++ [] → begun past ≡ true → Gave d (past ▹ entry.Stop cause lost) out
gave_asked_by d past cause lost out kind gave e same b = record {
  stands = asked_stands d past cause lost kind gave.stands e;
  none = gave.none;
  all = gave.all ∙ (no_more (acts d.settings past) ∙ sym same);
  made = gave.made;
  named = λ t. gave.named b;
}

pub gave_asked : (d : Seen) (past : Past) (cause : Why) (lost : ℕ) (out : List Act) → IsAsked cause → Gave d past out → Follows d.settings past (entry.Stop cause lost) → Gave d (past ▹ entry.Stop cause lost) out
unfolding acts piece
gave_asked d past why.Packets lost out kind gave f = gave_asked_by d past why.Packets lost out kind gave f.2.1 refl f.0
gave_asked d past why.Filesize lost out kind gave f = gave_asked_by d past why.Filesize lost out kind gave f.2.1 refl f.0
gave_asked d past why.Duration lost out kind gave f = gave_asked_by d past why.Duration lost out kind gave f.2.1 refl f.0
gave_asked d past why.Files lost out kind gave f = gave_asked_by d past why.Files lost out kind gave f.2.1 refl f.0
gave_asked d past why.FileFault lost out kind gave f = absurd kind
gave_asked d past why.SyncFault lost out kind gave f = absurd kind
gave_asked d past why.NoMemory lost out kind gave f = absurd kind

pub asked_replays : (d : Seen) (out : List Act) (cause : Why) (lost : ℕ) → IsAsked cause → Replays d out d out (entry.Stop cause lost)
asked_replays d out cause lost kind = record { settings = refl; gave = λ past gave may. gave_asked d past cause lost out kind gave (may refl) }

-- what a call gives holds of each moment or number
pub on_ok_one : {T U A X : Type 0} (r : Result T U) → OnOk r A → (A → X) → OnOk r X
on_ok_one (Ok x) a f = f a
on_ok_one (Err x) a f = tt

pub asked_by_cases : (cause : Why) → IsTold cause → (cause ≡ why.Packets) ⊎ ((cause ≡ why.Filesize) ⊎ ((cause ≡ why.Duration) ⊎ ((cause ≡ why.Files) ⊎ (cause ≡ why.NoMemory)))) → IsAsked cause
asked_by_cases cause told (inl e) = subst IsAsked (sym e) tt
asked_by_cases cause told (inr (inl e)) = subst IsAsked (sym e) tt
asked_by_cases cause told (inr (inr (inl e))) = subst IsAsked (sym e) tt
asked_by_cases cause told (inr (inr (inr (inl e)))) = subst IsAsked (sym e) tt
asked_by_cases cause told (inr (inr (inr (inr e)))) = absurd (subst IsTold e told)

-- before all entries
pub gave_none : (d : Seen) (out : List Act) → StandsFor d nothing → d.waiting ≡ [] → d.made ≡ nothing_made → out ≡ [] → Gave d nothing out
unfolding acts
gave_none d out stands none made e = record {
  stands = stands;
  none = none;
  all = e;
  made = rw made (record { last = refl; files = refl; creating = refl });
  named = λ b. absurd (no b);
}
  where
    no : false ≡ true → ⊥
    no b = cc
