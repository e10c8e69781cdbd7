-- What is said behind a call on a file that failed: it names no file and counts nothing.
use Rattle.std.proofs.Common.{◌≡◌, inl, inr, ℕ, ◌-◌, ◌<◌, nat_lt, Bool, true, false, not, ◌||◌, ◌&&◌, if◌then◌else◌, List, [], ◌∷◌, ◌++◌, length, map, take, drop, refl, sym, ap, ◌∙◌, subst}
use Rattle.std.specs.Prelude.{codes}
use Rattle.std.proofs.lemmas.Bool.{ltb-true}
use Rattle.std.proofs.lemmas.List.{append-nil, take-append-drop, map-append}
use Rattle.cap_base.specs.declared.counts.Counts.{Counts}
use Rattle.cap_base.specs.declared.settings.Settings.{Settings}
use Rattle.cap_base.specs.declared.entries.Why.TheVariants as W
use Rattle.cap_base.specs.declared.entries.Entry.{Entry}
use Rattle.cap_base.specs.declared.entries.Entry.TheVariants as E
use Rattle.sync_pipe.specs.Texts.{message_text}
use Rattle.sync_pipe.specs.declared.said.Said.{Said}
use Rattle.sync_pipe.specs.declared.said.Said.TheVariants as message
use Rattle.capture_desk.specs.declared.acts.Act.{Act}
use Rattle.capture_desk.specs.declared.acts.Act.TheVariants.{Say}
use Rattle.capture_desk.specs.declared.due.Due.{Due}
use Rattle.capture_desk.specs.declared.due.Due.TheVariants as dues
use Rattle.capture_desk.specs.Past.{Past, nothing, ◌▹◌}
use Rattle.capture_desk.specs.Doing.{Place, unsaid}
use Rattle.capture_desk.specs.Files.{ifaces, endings}
use Rattle.capture_desk.specs.Due.{file_lost, listener_lost, memory_lost, due}
use Rattle.capture_desk.specs.Acts.{say, say_message, speaks, take_piece, closing, tally_piece, piece}
use Rattle.capture_report.specs.Messages.{closing_messages}
use Rattle.capture_desk.specs.Cuts.{has_say, heard, plain, silenced, is_silence, said_acts, is_cut, named_at, files_at, up_to_cut, piece_behind}
use Rattle.capture_core.proofs.Announced.{IsQuiet, AreQuiet, quiet_both, quiet_closing}
use Rattle.capture_core.proofs.Cut.{IsNoFile, no_file, the_other, either_way}
use Rattle.capture_core.proofs.Messages.{some_left}
use Rattle.capture_core.proofs.Walked.{QuietSays}
use Rattle.capture_core.proofs.Spoken.{silent_both, silent_piece, silent_unsaid}

or_true : (b : Bool) → b || true ≡ false → ⊥
or_true true e = cc
or_true false e = cc

-- acts that say such messages, and nothing else
abbrev Quietly : List Act → Type 0
Quietly xs = (ms : List Said) × AreQuiet ms × (xs ≡ map say_message ms)

none_quietly : Quietly []
none_quietly = ([], tt, refl)

if_quietly : (b : Bool) (xs : List Act) → (b ≡ true → Quietly xs) → Quietly (if b then xs else [])
if_quietly true xs q = q refl
if_quietly false xs q = none_quietly

unless_quietly : (b : Bool) (xs : List Act) → (b ≡ false → Quietly xs) → Quietly (if b then [] else xs)
unless_quietly true xs q = none_quietly
unless_quietly false xs q = q refl

both_quietly : (xs ys : List Act) → Quietly xs → Quietly ys → Quietly (xs ++ ys)
both_quietly xs ys p q = (p.0 ++ q.0, quiet_both p.0 q.0 p.1 q.1, ap (λ (z : List Act). z ++ ys) p.2 ∙ ap (λ (z : List Act). map say_message p.0 ++ z) q.2 ∙ sym (map-append say_message p.0 q.0))

-- nothing is said of them where none says something
silent_none : (xs : List Act) → Quietly xs → has_say xs ≡ false → xs ≡ []
silent_none xs p e = go p.0 p.2 (sym (ap has_say p.2) ∙ e) where
  go : (ms : List Said) → xs ≡ map say_message ms → has_say (map say_message ms) ≡ false → xs ≡ []
  go [] q e = q
  go (m ∷ ms) q e = cc

quiet_list : (ms : List Said) → AreQuiet ms → QuietSays (map say_message ms)
quiet_list [] q = tt
quiet_list (m ∷ ms) q = inl (m, refl, q.0, quiet_list ms q.1)

quiet_says : (xs : List Act) → Quietly xs → QuietSays xs
quiet_says xs p = subst QuietSays (sym p.2) (quiet_list p.0 p.1)

quiet_front : (ms : List Said) (ys : List Act) → AreQuiet ms → QuietSays ys → QuietSays (map say_message ms ++ ys)
quiet_front [] ys q w = w
quiet_front (m ∷ ms) ys q w = inl (m, refl, q.0, quiet_front ms ys q.1 w)

heard_list : (n : ℕ) (ms : List Said) → AreQuiet ms → QuietSays (heard n (map say_message ms))
heard_list n [] q = tt
heard_list n (m ∷ ms) q = go (nat_lt n (length (message_text m))) refl (heard_list (n - length (message_text m)) ms q.1) where
  go : (b : Bool) → nat_lt n (length (message_text m)) ≡ b → QuietSays (heard (n - length (message_text m)) (map say_message ms)) → QuietSays (if b then Say (take n (message_text m)) ∷ unsaid (map say_message ms) else Say (message_text m) ∷ heard (n - length (message_text m)) (map say_message ms))
  go true e ih = let lt : n < length (message_text m) = ltb-true n (length (message_text m)) e in inr (
    m,
    drop n (message_text m),
    sym (take-append-drop n (message_text m)),
    some_left n (message_text m) lt,
    silent_unsaid (map say_message ms),
  )
  go false e ih = inl (m, refl, q.0, ih)

module _ (s : Settings) (sync : s.sync ≡ true) where
  say_quietly : (on : Bool) (m : Said) → IsQuiet m → Quietly (say on m)
  say_quietly true m q = (m ∷ [], (q, tt), refl)
  say_quietly false m q = none_quietly

  closing_quietly : (files : ℕ) (before : Past) (cs : List Counts) → Quietly (closing s files before cs)
  unfolding closing
  closing_quietly files before cs = unless_quietly (listener_lost before) _ (λ l. rw sync (closing_messages s.sources (ifaces before) (endings before) cs, quiet_closing s.sources (ifaces before) (endings before) cs, refl))

  tally_quietly : (files : ℕ) (before : Past) (now : ℕ) (cs : List Counts) (d : Due) → due s before ≡ d → IsNoFile d → Quietly (tally_piece s files before now cs)
  unfolding tally_piece
  tally_quietly files before now cs dues.SwitchTally e none = absurd none
  tally_quietly files before now cs dues.LastTally e none = absurd none
  tally_quietly files before now cs dues.ClosingTally e none = rw e (closing_quietly files before cs)
  tally_quietly files before now cs dues.Take e none = rw e none_quietly
  tally_quietly files before now cs (dues.Stop w) e none = rw e none_quietly
  tally_quietly files before now cs dues.Over e none = rw e none_quietly

  module _ (place : Place) where
    behind_quietly : (before : Past) (e : Entry) → Quietly (piece_behind s place before e)
    unfolding piece
    behind_quietly before (E.Stop W.FileFault l) = unless_quietly (memory_lost before) _ (λ q. say_quietly (speaks s before) (message.Error (codes "output failed") (named_at place)) tt)
    behind_quietly before (E.Take now t) = if_quietly (is_cut before) _ (λ q. unless_quietly (memory_lost before || file_lost before) (take_piece s before now t) (λ r. let z : true ≡ false = sym (either_way (file_lost before) (memory_lost before) q) ∙ r in cc))
    behind_quietly before (E.Tally now cs) = if_quietly (is_cut before) _ (λ q. unless_quietly (memory_lost before) (tally_piece s (files_at place) before now cs) (λ r. tally_quietly (files_at place) before now cs (due s before) refl (no_file s before (the_other (file_lost before) (memory_lost before) q r))))
    behind_quietly before (E.Stop W.NoMemory l) = if_quietly (is_cut before) [] (λ q. none_quietly)
    behind_quietly before (E.Stop W.SyncFault l) = if_quietly (is_cut before) [] (λ q. none_quietly)
    behind_quietly before (E.Stop W.Packets l) = if_quietly (is_cut before) [] (λ q. none_quietly)
    behind_quietly before (E.Stop W.Filesize l) = if_quietly (is_cut before) [] (λ q. none_quietly)
    behind_quietly before (E.Stop W.Duration l) = if_quietly (is_cut before) [] (λ q. none_quietly)
    behind_quietly before (E.Stop W.Files l) = if_quietly (is_cut before) [] (λ q. none_quietly)
    behind_quietly before (E.Join x y z) = if_quietly (is_cut before) [] (λ q. none_quietly)
    behind_quietly before (E.Offer x y z) = if_quietly (is_cut before) [] (λ q. none_quietly)
    behind_quietly before (E.End x y) = if_quietly (is_cut before) [] (λ q. none_quietly)

    -- behind a message that failed
    if_silent : (b : Bool) (xs : List Act) → (b ≡ true → has_say xs ≡ false) → has_say (if b then xs else []) ≡ false
    if_silent true xs q = q refl
    if_silent false xs q = refl

    behind_silent : (before : Past) (e : Entry) → listener_lost before ≡ true → has_say (piece_behind s place before e) ≡ false
    behind_silent before (E.Stop W.FileFault l) lost = silent_piece s (files_at place) before lost (named_at place) (E.Stop W.FileFault l)
    behind_silent before (E.Take now t) lost = if_silent (is_cut before) _ (λ q. silent_piece s (files_at place) before lost (named_at place) (E.Take now t))
    behind_silent before (E.Tally now cs) lost = if_silent (is_cut before) _ (λ q. silent_piece s (files_at place) before lost (named_at place) (E.Tally now cs))
    behind_silent before (E.Stop W.NoMemory l) lost = if_silent (is_cut before) _ (λ q. silent_piece s (files_at place) before lost (named_at place) (E.Stop W.NoMemory l))
    behind_silent before (E.Stop W.SyncFault l) lost = if_silent (is_cut before) _ (λ q. silent_piece s (files_at place) before lost (named_at place) (E.Stop W.SyncFault l))
    behind_silent before (E.Stop W.Packets l) lost = if_silent (is_cut before) _ (λ q. silent_piece s (files_at place) before lost (named_at place) (E.Stop W.Packets l))
    behind_silent before (E.Stop W.Filesize l) lost = if_silent (is_cut before) _ (λ q. silent_piece s (files_at place) before lost (named_at place) (E.Stop W.Filesize l))
    behind_silent before (E.Stop W.Duration l) lost = if_silent (is_cut before) _ (λ q. silent_piece s (files_at place) before lost (named_at place) (E.Stop W.Duration l))
    behind_silent before (E.Stop W.Files l) lost = if_silent (is_cut before) _ (λ q. silent_piece s (files_at place) before lost (named_at place) (E.Stop W.Files l))
    behind_silent before (E.Join x y z) lost = if_silent (is_cut before) _ (λ q. silent_piece s (files_at place) before lost (named_at place) (E.Join x y z))
    behind_silent before (E.Offer x y z) lost = if_silent (is_cut before) _ (λ q. silent_piece s (files_at place) before lost (named_at place) (E.Offer x y z))
    behind_silent before (E.End x y) lost = if_silent (is_cut before) _ (λ q. silent_piece s (files_at place) before lost (named_at place) (E.End x y))

    -- ---- all of it

    -- where neither a call on a file failed nor memory was wanting, nothing is behind
    not_cut : (before : Past) (e : Entry) → is_cut (before ▹ e) ≡ false → (is_cut before ≡ false) × (piece_behind s place before e ≡ [])
    not_cut before (E.Stop W.FileFault l) q = cc
    not_cut before (E.Stop W.NoMemory l) q = let z : file_lost before || true ≡ false = q in absurd (or_true (file_lost before) z)
    not_cut before (E.Take now t) q = (q, ap (λ (b : Bool). if b then piece s (named_at place) (files_at place) before (E.Take now t) else []) q)
    not_cut before (E.Tally now cs) q = (q, ap (λ (b : Bool). if b then piece s (named_at place) (files_at place) before (E.Tally now cs) else []) q)
    not_cut before (E.Stop W.SyncFault l) q = (q, ap (λ (b : Bool). if b then piece s (named_at place) (files_at place) before (E.Stop W.SyncFault l) else []) q)
    not_cut before (E.Stop W.Packets l) q = (q, ap (λ (b : Bool). if b then piece s (named_at place) (files_at place) before (E.Stop W.Packets l) else []) q)
    not_cut before (E.Stop W.Filesize l) q = (q, ap (λ (b : Bool). if b then piece s (named_at place) (files_at place) before (E.Stop W.Filesize l) else []) q)
    not_cut before (E.Stop W.Duration l) q = (q, ap (λ (b : Bool). if b then piece s (named_at place) (files_at place) before (E.Stop W.Duration l) else []) q)
    not_cut before (E.Stop W.Files l) q = (q, ap (λ (b : Bool). if b then piece s (named_at place) (files_at place) before (E.Stop W.Files l) else []) q)
    not_cut before (E.Join x y z) q = (q, ap (λ (b : Bool). if b then piece s (named_at place) (files_at place) before (E.Join x y z) else []) q)
    not_cut before (E.Offer x y z) q = (q, ap (λ (b : Bool). if b then piece s (named_at place) (files_at place) before (E.Offer x y z) else []) q)
    not_cut before (E.End x y) q = (q, ap (λ (b : Bool). if b then piece s (named_at place) (files_at place) before (E.End x y) else []) q)

    module _ (n : ℕ) where
      plain_quietly : (past : Past) → Quietly (plain (piece_behind s place) past)
      plain_quietly nothing = none_quietly
      plain_quietly (before ▹ e) = both_quietly (plain (piece_behind s place) before) (piece_behind s place before e) (plain_quietly before) (behind_quietly before e)

      silenced_quiet : (past : Past) → QuietSays (silenced (piece_behind s place) n past)
      silenced_quiet nothing = tt
      silenced_quiet (before ▹ e) = go (has_say (piece_behind s place before e)) refl (silenced_quiet before) where
        p : Quietly (plain (piece_behind s place) before)
        p = plain_quietly before

        r : Quietly (piece_behind s place before e)
        r = behind_quietly before e

        go : (b : Bool) → has_say (piece_behind s place before e) ≡ b → QuietSays (silenced (piece_behind s place) n before)
            → QuietSays (if b then plain (piece_behind s place) before ++ heard n (piece_behind s place before e) else silenced (piece_behind s place) n before ++ piece_behind s place before e)
        go true q ih = subst (λ (z : List Act). QuietSays (z ++ heard n (piece_behind s place before e))) (sym p.2) (quiet_front p.0 (heard n (piece_behind s place before e)) p.1 (subst (λ (z : List Act). QuietSays (heard n z)) (sym r.2) (heard_list n r.0 r.1)))
        go false q ih = subst (λ (z : List Act). QuietSays (silenced (piece_behind s place) n before ++ z)) (sym (silent_none (piece_behind s place before e) r q)) (subst QuietSays (sym (append-nil (silenced (piece_behind s place) n before))) ih)

      -- whole messages where none failed
      abbrev SaidQuietly : Past → List Act → Type 0
      SaidQuietly past xs = (listener_lost past ≡ false → Quietly xs) × QuietSays xs

      one_quiet : (before : Past) (e : Entry) → SaidQuietly before (said_acts (piece_behind s place) n before) → SaidQuietly before (said_acts (piece_behind s place) n before ++ piece_behind s place before e)
      one_quiet before e w = go (listener_lost before) refl where
        r : Quietly (piece_behind s place before e)
        r = behind_quietly before e

        go : (b : Bool) → listener_lost before ≡ b → SaidQuietly before (said_acts (piece_behind s place) n before ++ piece_behind s place before e)
        go false l = let v = both_quietly (said_acts (piece_behind s place) n before) (piece_behind s place before e) (w.0 l) r in (λ q. v, quiet_says (said_acts (piece_behind s place) n before ++ piece_behind s place before e) v)
        go true l = (λ q. absurd (cut q), subst (λ (z : List Act). QuietSays (said_acts (piece_behind s place) n before ++ z)) (sym (silent_none (piece_behind s place before e) r (behind_silent before e l))) (subst QuietSays (sym (append-nil (said_acts (piece_behind s place) n before))) w.1)) where
          cut : listener_lost before ≡ false → ⊥
          cut q = let z : true ≡ false = sym l ∙ q in cc

      still_heard : (before : Past) (e : Entry) → listener_lost (before ▹ e) ≡ false → listener_lost before ≡ false
      still_heard before (E.Stop W.SyncFault l) q = cc
      still_heard before (E.Stop W.FileFault l) q = q
      still_heard before (E.Stop W.NoMemory l) q = q
      still_heard before (E.Stop W.Packets l) q = q
      still_heard before (E.Stop W.Filesize l) q = q
      still_heard before (E.Stop W.Duration l) q = q
      still_heard before (E.Stop W.Files l) q = q
      still_heard before (E.Take now t) q = q
      still_heard before (E.Tally now cs) q = q
      still_heard before (E.Join x y z) q = q
      still_heard before (E.Offer x y z) q = q
      still_heard before (E.End x y) q = q

      either_quiet : (b : Bool) (earlier : Past) (e : Entry) (xs ys : List Act) → SaidQuietly earlier xs → SaidQuietly (earlier ▹ e) ys → SaidQuietly (earlier ▹ e) (if b then xs else ys)
      either_quiet true earlier e xs ys p q = (λ l. p.0 (still_heard earlier e l), p.1)
      either_quiet false earlier e xs ys p q = q

      said_quietly : (past : Past) → SaidQuietly past (said_acts (piece_behind s place) n past)
      unfolding said_acts
      said_quietly nothing = (λ q. none_quietly, tt)
      said_quietly (before ▹ E.Stop W.SyncFault l) = (λ q. cc, silenced_quiet before)
      said_quietly (nothing ▹ E.Stop W.NoMemory l) = (λ q. none_quietly, tt)
      said_quietly ((earlier ▹ e) ▹ E.Stop W.NoMemory l) = either_quiet (file_lost (earlier ▹ e) && not (is_silence e)) earlier e (said_acts (piece_behind s place) n earlier) (said_acts (piece_behind s place) n (earlier ▹ e)) (said_quietly earlier) (said_quietly (earlier ▹ e))
      said_quietly (before ▹ E.Stop W.FileFault l) = one_quiet before (E.Stop W.FileFault l) (said_quietly before)
      said_quietly (before ▹ E.Stop W.Packets l) = one_quiet before (E.Stop W.Packets l) (said_quietly before)
      said_quietly (before ▹ E.Stop W.Filesize l) = one_quiet before (E.Stop W.Filesize l) (said_quietly before)
      said_quietly (before ▹ E.Stop W.Duration l) = one_quiet before (E.Stop W.Duration l) (said_quietly before)
      said_quietly (before ▹ E.Stop W.Files l) = one_quiet before (E.Stop W.Files l) (said_quietly before)
      said_quietly (before ▹ E.Take now t) = one_quiet before (E.Take now t) (said_quietly before)
      said_quietly (before ▹ E.Tally now cs) = one_quiet before (E.Tally now cs) (said_quietly before)
      said_quietly (before ▹ E.Join x y z) = one_quiet before (E.Join x y z) (said_quietly before)
      said_quietly (before ▹ E.Offer x y z) = one_quiet before (E.Offer x y z) (said_quietly before)
      said_quietly (before ▹ E.End x y) = one_quiet before (E.End x y) (said_quietly before)

      pub quiet_behind : (past : Past) → QuietSays (said_acts (piece_behind s place) n past)
      quiet_behind past = (said_quietly past).1

      -- ---- where a message failed before it

      abbrev AllMute : Past → Type 0
      AllMute nothing = Unit {0}
      AllMute (before ▹ e) = AllMute before × (has_say (piece_behind s place before e) ≡ false)

      uncut_mute : (past : Past) → is_cut past ≡ false → AllMute past
      uncut_mute nothing q = tt
      uncut_mute (before ▹ e) q = let v = not_cut before e q in (uncut_mute before v.0, ap has_say v.1)

      lost_by : (b : Bool) (before up : Past) → listener_lost (if b then up else before) ≡ true → (listener_lost up ≡ true → listener_lost before ≡ true) → listener_lost before ≡ true
      lost_by true before up q ih = ih q
      lost_by false before up q ih = q

      lost_up : (p : Past) → listener_lost (up_to_cut p) ≡ true → listener_lost p ≡ true
      lost_up nothing q = q
      lost_up (before ▹ E.Stop W.SyncFault l) q = refl
      lost_up (before ▹ E.Stop W.FileFault l) q = lost_by (is_cut before) before (up_to_cut before) q (lost_up before)
      lost_up (before ▹ E.Stop W.NoMemory l) q = lost_by (is_cut before) before (up_to_cut before) q (lost_up before)
      lost_up (before ▹ E.Stop W.Packets l) q = lost_by (is_cut before) (before ▹ E.Stop W.Packets l) (up_to_cut before) q (lost_up before)
      lost_up (before ▹ E.Stop W.Filesize l) q = lost_by (is_cut before) (before ▹ E.Stop W.Filesize l) (up_to_cut before) q (lost_up before)
      lost_up (before ▹ E.Stop W.Duration l) q = lost_by (is_cut before) (before ▹ E.Stop W.Duration l) (up_to_cut before) q (lost_up before)
      lost_up (before ▹ E.Stop W.Files l) q = lost_by (is_cut before) (before ▹ E.Stop W.Files l) (up_to_cut before) q (lost_up before)
      lost_up (before ▹ E.Take now t) q = lost_by (is_cut before) (before ▹ E.Take now t) (up_to_cut before) q (lost_up before)
      lost_up (before ▹ E.Tally now cs) q = lost_by (is_cut before) (before ▹ E.Tally now cs) (up_to_cut before) q (lost_up before)
      lost_up (before ▹ E.Join x y z) q = lost_by (is_cut before) (before ▹ E.Join x y z) (up_to_cut before) q (lost_up before)
      lost_up (before ▹ E.Offer x y z) q = lost_by (is_cut before) (before ▹ E.Offer x y z) (up_to_cut before) q (lost_up before)
      lost_up (before ▹ E.End x y) q = lost_by (is_cut before) (before ▹ E.End x y) (up_to_cut before) q (lost_up before)

      -- behind a fault of a file, or at it
      mute_cut : (before : Past) (e : Entry) (b : Bool) → is_cut before ≡ b → listener_lost (if b then up_to_cut before else before) ≡ true → (listener_lost (up_to_cut before) ≡ true → AllMute before) → AllMute (before ▹ e)
      mute_cut before e true c q ih = (ih q, behind_silent before e (lost_up before q))
      mute_cut before e false c q ih = (uncut_mute before c, behind_silent before e q)

      -- at another entry
      mute_more : (before : Past) (e : Entry) (b : Bool) → is_cut before ≡ b → (is_cut before ≡ false → piece_behind s place before e ≡ []) → listener_lost (if b then up_to_cut before else before ▹ e) ≡ true → (listener_lost (up_to_cut before) ≡ true → AllMute before) → AllMute (before ▹ e)
      mute_more before e true c none q ih = (ih q, behind_silent before e (lost_up before q))
      mute_more before e false c none q ih = (uncut_mute before c, ap has_say (none c))

      all_mute : (past : Past) → listener_lost (up_to_cut past) ≡ true → AllMute past
      all_mute nothing q = tt
      all_mute (before ▹ E.Stop W.FileFault l) q = mute_cut before (E.Stop W.FileFault l) (is_cut before) refl q (all_mute before)
      all_mute (before ▹ E.Stop W.NoMemory l) q = mute_cut before (E.Stop W.NoMemory l) (is_cut before) refl q (all_mute before)
      all_mute (before ▹ E.Stop W.SyncFault l) q = mute_more before (E.Stop W.SyncFault l) (is_cut before) refl (λ c. (not_cut before (E.Stop W.SyncFault l) c).1) q (all_mute before)
      all_mute (before ▹ E.Stop W.Packets l) q = mute_more before (E.Stop W.Packets l) (is_cut before) refl (λ c. (not_cut before (E.Stop W.Packets l) c).1) q (all_mute before)
      all_mute (before ▹ E.Stop W.Filesize l) q = mute_more before (E.Stop W.Filesize l) (is_cut before) refl (λ c. (not_cut before (E.Stop W.Filesize l) c).1) q (all_mute before)
      all_mute (before ▹ E.Stop W.Duration l) q = mute_more before (E.Stop W.Duration l) (is_cut before) refl (λ c. (not_cut before (E.Stop W.Duration l) c).1) q (all_mute before)
      all_mute (before ▹ E.Stop W.Files l) q = mute_more before (E.Stop W.Files l) (is_cut before) refl (λ c. (not_cut before (E.Stop W.Files l) c).1) q (all_mute before)
      all_mute (before ▹ E.Take now t) q = mute_more before (E.Take now t) (is_cut before) refl (λ c. (not_cut before (E.Take now t) c).1) q (all_mute before)
      all_mute (before ▹ E.Tally now cs) q = mute_more before (E.Tally now cs) (is_cut before) refl (λ c. (not_cut before (E.Tally now cs) c).1) q (all_mute before)
      all_mute (before ▹ E.Join x y z) q = mute_more before (E.Join x y z) (is_cut before) refl (λ c. (not_cut before (E.Join x y z) c).1) q (all_mute before)
      all_mute (before ▹ E.Offer x y z) q = mute_more before (E.Offer x y z) (is_cut before) refl (λ c. (not_cut before (E.Offer x y z) c).1) q (all_mute before)
      all_mute (before ▹ E.End x y) q = mute_more before (E.End x y) (is_cut before) refl (λ c. (not_cut before (E.End x y) c).1) q (all_mute before)

      mute_silenced : (past : Past) → AllMute past → has_say (silenced (piece_behind s place) n past) ≡ false
      mute_silenced nothing w = refl
      mute_silenced (before ▹ e) w = rw w.1 (silent_both (silenced (piece_behind s place) n before) (piece_behind s place before e) (mute_silenced before w.0) w.1)

      either_mute : (b : Bool) (xs ys : List Act) → has_say xs ≡ false → has_say ys ≡ false → has_say (if b then xs else ys) ≡ false
      either_mute true xs ys p q = p
      either_mute false xs ys p q = q

      mute_said : (past : Past) → AllMute past → has_say (said_acts (piece_behind s place) n past) ≡ false
      unfolding said_acts
      mute_said nothing w = refl
      mute_said (before ▹ E.Stop W.SyncFault l) w = mute_silenced before w.0
      mute_said (nothing ▹ E.Stop W.NoMemory l) w = refl
      mute_said ((earlier ▹ e) ▹ E.Stop W.NoMemory l) w = either_mute (file_lost (earlier ▹ e) && not (is_silence e)) (said_acts (piece_behind s place) n earlier) (said_acts (piece_behind s place) n (earlier ▹ e)) (mute_said earlier w.0.0) (mute_said (earlier ▹ e) w.0)
      mute_said (before ▹ E.Stop W.FileFault l) w = silent_both (said_acts (piece_behind s place) n before) (piece_behind s place before (E.Stop W.FileFault l)) (mute_said before w.0) w.1
      mute_said (before ▹ E.Stop W.Packets l) w = silent_both (said_acts (piece_behind s place) n before) (piece_behind s place before (E.Stop W.Packets l)) (mute_said before w.0) w.1
      mute_said (before ▹ E.Stop W.Filesize l) w = silent_both (said_acts (piece_behind s place) n before) (piece_behind s place before (E.Stop W.Filesize l)) (mute_said before w.0) w.1
      mute_said (before ▹ E.Stop W.Duration l) w = silent_both (said_acts (piece_behind s place) n before) (piece_behind s place before (E.Stop W.Duration l)) (mute_said before w.0) w.1
      mute_said (before ▹ E.Stop W.Files l) w = silent_both (said_acts (piece_behind s place) n before) (piece_behind s place before (E.Stop W.Files l)) (mute_said before w.0) w.1
      mute_said (before ▹ E.Take now t) w = silent_both (said_acts (piece_behind s place) n before) (piece_behind s place before (E.Take now t)) (mute_said before w.0) w.1
      mute_said (before ▹ E.Tally now cs) w = silent_both (said_acts (piece_behind s place) n before) (piece_behind s place before (E.Tally now cs)) (mute_said before w.0) w.1
      mute_said (before ▹ E.Join x y z) w = silent_both (said_acts (piece_behind s place) n before) (piece_behind s place before (E.Join x y z)) (mute_said before w.0) w.1
      mute_said (before ▹ E.Offer x y z) w = silent_both (said_acts (piece_behind s place) n before) (piece_behind s place before (E.Offer x y z)) (mute_said before w.0) w.1
      mute_said (before ▹ E.End x y) w = silent_both (said_acts (piece_behind s place) n before) (piece_behind s place before (E.End x y)) (mute_said before w.0) w.1

      -- where a message had failed before the file's call none is said
      pub mute_behind : (past : Past) → listener_lost (up_to_cut past) ≡ true → has_say (said_acts (piece_behind s place) n past) ≡ false
      mute_behind past q = mute_said past (all_mute past q)
