-- What the writer does in a trial: nothing stops it, and it writes one file.
use Rattle.std.proofs.Common.{◌≡◌, ◌⊎◌, inl, inr, ℕ, zero, suc, Bool, true, false, ◌||◌, if◌then◌else◌, List, [], ◌∷◌, ◌++◌, length, map, refl, sym, ap, ◌∙◌, subst}
use Rattle.std.specs.List.{list_any}
use Rattle.std.proofs.lemmas.List.{append-nil}
use Rattle.cap_base.specs.Legal.{stops_for}
use Rattle.cap_base.specs.declared.counts.Counts.{Counts}
use Rattle.cap_base.specs.declared.entries.Entry.{Entry}
use Rattle.cap_base.specs.declared.entries.Entry.TheVariants as E
use Rattle.cap_base.specs.declared.entries.Item.TheVariants as I
use Rattle.cap_base.specs.declared.entries.Taken.{Taken}
use Rattle.cap_base.specs.declared.entries.Taken.TheVariants as T
use Rattle.cap_base.specs.declared.entries.Why.{Why}
use Rattle.cap_base.specs.declared.entries.Why.TheVariants as W
use Rattle.pcapng_blocks.specs.declared.block.Block.{Block}
use Rattle.stop_conditions.specs.Conditions.{after_packet, at_moment}
use Rattle.stop_conditions.specs.declared.next.Next.{Next}
use Rattle.stop_conditions.specs.declared.next.Next.TheVariants as next
use Rattle.capture_desk.specs.declared.acts.Act.{Act}
use Rattle.capture_desk.specs.declared.acts.Act.TheVariants.{Create, Put, Finish, Say}
use Rattle.capture_desk.specs.declared.due.Due.{Due}
use Rattle.capture_desk.specs.declared.due.Due.TheVariants as dues
use Rattle.capture_desk.specs.Past.{Past, nothing, ◌▹◌, past_from}
use Rattle.capture_desk.specs.Doing.{puts}
use Rattle.capture_report.specs.Report.{report_lines}
use Rattle.capture_desk.specs.Files.{blocks, block_of, endings, head, held, ifaces}
use Rattle.capture_desk.specs.Due.{stopped, file_lost, listener_lost, memory_lost, is_done, says, next_after, next_at, due_by, due_done, after_tally, after_file_fault, after_no_memory, after_stop, count_at, due}
use Rattle.capture_desk.specs.Acts.{say_count, start_file, take_acts, take_piece, rest_count, tail, closing, tally_piece, piece, piece_of, names, acts}
use Rattle.capture_desk.specs.Orderly.{IsOrderlySoFar}
use Rattle.trial_mode.specs.Streams.{output_name, source_names, trial_settings}

-- ---- nothing stops the writer

-- no Stop is due, and no Tally between two files
abbrev pub IsQuiet : Due → Type 0
IsQuiet dues.SwitchTally = ⊥
IsQuiet (dues.Stop w) = ⊥
IsQuiet other = Unit {0}

moment_stays : (n : ℕ) (past : Past) (now : ℕ) (t : Taken) → next_at (trial_settings n) past now t ≡ next.Stay
unfolding after_packet at_moment
moment_stays n past now (T.Item (I.Packet p)) = refl
moment_stays n past now (T.Item (I.Iface k i)) = refl
moment_stays n past now (T.Item (I.Ended k how)) = refl
moment_stays n past now T.Empty = refl
moment_stays n past now T.Done = refl

stays : (n : ℕ) (before : Past) (now : ℕ) (t : Taken) → next_after (trial_settings n) before now t ≡ next.Stay
unfolding next_after
stays n before now t = go (is_done t || stopped before) where
  go : (b : Bool) → (if b then next.Stay else next_at (trial_settings n) (before ▹ E.Take now t) now t) ≡ next.Stay
  go true = refl
  go false = moment_stays n (before ▹ E.Take now t) now t

quiet_done : (memory file : Bool) → IsQuiet (if memory then dues.Over else if file then dues.ClosingTally else dues.LastTally)
quiet_done true file = tt
quiet_done false true = tt
quiet_done false false = tt

quiet_tally : (d : Due) → IsQuiet (after_tally d)
quiet_tally dues.Take = tt
quiet_tally (dues.Stop w) = tt
quiet_tally dues.SwitchTally = tt
quiet_tally dues.LastTally = tt
quiet_tally dues.ClosingTally = tt
quiet_tally dues.Over = tt

quiet_file : (d : Due) → IsQuiet (after_file_fault d)
quiet_file dues.Take = tt
quiet_file (dues.Stop w) = tt
quiet_file dues.SwitchTally = tt
quiet_file dues.LastTally = tt
quiet_file dues.ClosingTally = tt
quiet_file dues.Over = tt

quiet_memory : (d : Due) → IsQuiet (after_no_memory d)
quiet_memory dues.Take = tt
quiet_memory (dues.Stop w) = tt
quiet_memory dues.SwitchTally = tt
quiet_memory dues.LastTally = tt
quiet_memory dues.ClosingTally = tt
quiet_memory dues.Over = tt

quiet_silence : (said : Bool) (d : Due) → IsQuiet d → IsQuiet (if said then dues.Take else d)
quiet_silence true d q = tt
quiet_silence false d q = q

quiet_stop : (why : Why) (said : Bool) (d : Due) → IsQuiet d → IsQuiet (after_stop why said d)
quiet_stop W.FileFault said d q = quiet_file d
quiet_stop W.NoMemory said d q = quiet_memory d
quiet_stop W.SyncFault said d q = quiet_silence said d q
quiet_stop W.Packets said d q = tt
quiet_stop W.Filesize said d q = tt
quiet_stop W.Duration said d q = tt
quiet_stop W.Files said d q = tt

pub quiet : (n : ℕ) (past : Past) → IsQuiet (due (trial_settings n) past)
unfolding due
quiet n nothing = tt
quiet n (before ▹ E.Take now t) = go (is_done t) where
  go : (b : Bool) → IsQuiet (if b then due_done before else due_by (next_after (trial_settings n) before now t))
  go true = quiet_done (memory_lost before) (file_lost before)
  go false = subst (λ (x : Next). IsQuiet (due_by x)) (sym (stays n before now t)) tt
quiet n (before ▹ E.Tally now cs) = quiet_tally (due (trial_settings n) before)
quiet n (before ▹ E.Stop why l) = quiet_stop why (says (trial_settings n) before) (due (trial_settings n) before) (quiet n before)
quiet n (before ▹ E.Join x y z) = quiet n before
quiet n (before ▹ E.Offer x y z) = quiet n before
quiet n (before ▹ E.End x y) = quiet n before

not_asked : (n : ℕ) (past : Past) (why : Why) → due (trial_settings n) past ≡ dues.Stop why → ⊥
not_asked n past why q = let w = quiet n past in subst IsQuiet q w

-- ---- no Stop stands

file_none : (start : Past) (es : List Entry) → file_lost start ≡ false → list_any (stops_for W.FileFault) es ≡ false → file_lost (past_from start es) ≡ false
file_none start [] s q = s
file_none start (E.Take now t ∷ es) s q = file_none (start ▹ E.Take now t) es s q
file_none start (E.Tally now cs ∷ es) s q = file_none (start ▹ E.Tally now cs) es s q
file_none start (E.Stop W.Packets l ∷ es) s q = file_none (start ▹ E.Stop W.Packets l) es s q
file_none start (E.Stop W.Filesize l ∷ es) s q = file_none (start ▹ E.Stop W.Filesize l) es s q
file_none start (E.Stop W.Duration l ∷ es) s q = file_none (start ▹ E.Stop W.Duration l) es s q
file_none start (E.Stop W.Files l ∷ es) s q = file_none (start ▹ E.Stop W.Files l) es s q
file_none start (E.Stop W.FileFault l ∷ es) s q = cc
file_none start (E.Stop W.SyncFault l ∷ es) s q = file_none (start ▹ E.Stop W.SyncFault l) es s q
file_none start (E.Stop W.NoMemory l ∷ es) s q = file_none (start ▹ E.Stop W.NoMemory l) es s q
file_none start (E.Join x y z ∷ es) s q = file_none start es s q
file_none start (E.Offer x y z ∷ es) s q = file_none start es s q
file_none start (E.End x y ∷ es) s q = file_none start es s q

say_none : (start : Past) (es : List Entry) → listener_lost start ≡ false → list_any (stops_for W.SyncFault) es ≡ false → listener_lost (past_from start es) ≡ false
say_none start [] s q = s
say_none start (E.Take now t ∷ es) s q = say_none (start ▹ E.Take now t) es s q
say_none start (E.Tally now cs ∷ es) s q = say_none (start ▹ E.Tally now cs) es s q
say_none start (E.Stop W.Packets l ∷ es) s q = say_none (start ▹ E.Stop W.Packets l) es s q
say_none start (E.Stop W.Filesize l ∷ es) s q = say_none (start ▹ E.Stop W.Filesize l) es s q
say_none start (E.Stop W.Duration l ∷ es) s q = say_none (start ▹ E.Stop W.Duration l) es s q
say_none start (E.Stop W.Files l ∷ es) s q = say_none (start ▹ E.Stop W.Files l) es s q
say_none start (E.Stop W.FileFault l ∷ es) s q = say_none (start ▹ E.Stop W.FileFault l) es s q
say_none start (E.Stop W.SyncFault l ∷ es) s q = cc
say_none start (E.Stop W.NoMemory l ∷ es) s q = say_none (start ▹ E.Stop W.NoMemory l) es s q
say_none start (E.Join x y z ∷ es) s q = say_none start es s q
say_none start (E.Offer x y z ∷ es) s q = say_none start es s q
say_none start (E.End x y ∷ es) s q = say_none start es s q

memory_none : (start : Past) (es : List Entry) → memory_lost start ≡ false → list_any (stops_for W.NoMemory) es ≡ false → memory_lost (past_from start es) ≡ false
memory_none start [] s q = s
memory_none start (E.Take now t ∷ es) s q = memory_none (start ▹ E.Take now t) es s q
memory_none start (E.Tally now cs ∷ es) s q = memory_none (start ▹ E.Tally now cs) es s q
memory_none start (E.Stop W.Packets l ∷ es) s q = memory_none (start ▹ E.Stop W.Packets l) es s q
memory_none start (E.Stop W.Filesize l ∷ es) s q = memory_none (start ▹ E.Stop W.Filesize l) es s q
memory_none start (E.Stop W.Duration l ∷ es) s q = memory_none (start ▹ E.Stop W.Duration l) es s q
memory_none start (E.Stop W.Files l ∷ es) s q = memory_none (start ▹ E.Stop W.Files l) es s q
memory_none start (E.Stop W.FileFault l ∷ es) s q = memory_none (start ▹ E.Stop W.FileFault l) es s q
memory_none start (E.Stop W.SyncFault l ∷ es) s q = memory_none (start ▹ E.Stop W.SyncFault l) es s q
memory_none start (E.Stop W.NoMemory l ∷ es) s q = cc
memory_none start (E.Join x y z ∷ es) s q = memory_none start es s q
memory_none start (E.Offer x y z ∷ es) s q = memory_none start es s q
memory_none start (E.End x y ∷ es) s q = memory_none start es s q

-- no call failed, and memory was enough
pub record Unfailed (past : Past) : Type 0 where
  pub file : file_lost past ≡ false
  pub said : listener_lost past ≡ false
  pub memory : memory_lost past ≡ false

pub unfailed : (es : List Entry) → list_any (stops_for W.FileFault) es ≡ false → list_any (stops_for W.SyncFault) es ≡ false → list_any (stops_for W.NoMemory) es ≡ false → Unfailed (past_from nothing es)
unfailed es f s m = record { file = file_none nothing es refl f; said = say_none nothing es refl s; memory = memory_none nothing es refl m }

pub never_stopped : (n : ℕ) (past : Past) → IsOrderlySoFar (trial_settings n) past → Unfailed past → stopped past ≡ false
never_stopped n nothing o u = refl
never_stopped n (before ▹ E.Take now t) o u = never_stopped n before o.0 (record { file = u.file; said = u.said; memory = u.memory })
never_stopped n (before ▹ E.Tally now cs) o u = never_stopped n before o.0 (record { file = u.file; said = u.said; memory = u.memory })
never_stopped n (before ▹ E.Stop W.Packets l) o u = absurd (not_asked n before W.Packets o.1.2.1)
never_stopped n (before ▹ E.Stop W.Filesize l) o u = absurd (not_asked n before W.Filesize o.1.2.1)
never_stopped n (before ▹ E.Stop W.Duration l) o u = absurd (not_asked n before W.Duration o.1.2.1)
never_stopped n (before ▹ E.Stop W.Files l) o u = absurd (not_asked n before W.Files o.1.2.1)
never_stopped n (before ▹ E.Stop W.FileFault l) o u = let z : true ≡ false = u.file in cc
never_stopped n (before ▹ E.Stop W.SyncFault l) o u = let z : true ≡ false = u.said in cc
never_stopped n (before ▹ E.Stop W.NoMemory l) o u = let z : true ≡ false = u.memory in cc
never_stopped n (before ▹ E.Join x y z) o u = absurd o.1
never_stopped n (before ▹ E.Offer x y z) o u = absurd o.1
never_stopped n (before ▹ E.End x y) o u = absurd o.1

-- behind entries without a Stop none stood before them
stopped_stays : (start : Past) (es : List Entry) → stopped start ≡ true → stopped (past_from start es) ≡ true
stopped_stays start [] q = q
stopped_stays start (E.Take now t ∷ es) q = stopped_stays (start ▹ E.Take now t) es q
stopped_stays start (E.Tally now cs ∷ es) q = stopped_stays (start ▹ E.Tally now cs) es q
stopped_stays start (E.Stop why l ∷ es) q = stopped_stays (start ▹ E.Stop why l) es refl
stopped_stays start (E.Join x y z ∷ es) q = stopped_stays start es q
stopped_stays start (E.Offer x y z ∷ es) q = stopped_stays start es q
stopped_stays start (E.End x y ∷ es) q = stopped_stays start es q

pub stopped_before : (start : Past) (es : List Entry) → stopped (past_from start es) ≡ false → stopped start ≡ false
stopped_before start es q = go (stopped start) refl where
  go : (b : Bool) → stopped start ≡ b → b ≡ false
  go false e = refl
  go true e = let z : stopped (past_from start es) ≡ true = stopped_stays start es e in cc

pub no_stop_next : (start : Past) (why : Why) (l : ℕ) (es : List Entry) → stopped (past_from (start ▹ E.Stop why l) es) ≡ false → ⊥
no_stop_next start why l es q = let z : stopped (past_from (start ▹ E.Stop why l) es) ≡ true = stopped_stays (start ▹ E.Stop why l) es refl in cc

-- nothing is lost before the first Stop
pub unstopped : (past : Past) → stopped past ≡ false → Unfailed past
unstopped nothing q = record { file = refl; said = refl; memory = refl }
unstopped (before ▹ E.Take now t) q = let u = unstopped before q in record { file = u.file; said = u.said; memory = u.memory }
unstopped (before ▹ E.Tally now cs) q = let u = unstopped before q in record { file = u.file; said = u.said; memory = u.memory }
unstopped (before ▹ E.Stop why l) q = cc
unstopped (before ▹ E.Join x y z) q = let u = unstopped before q in record { file = u.file; said = u.said; memory = u.memory }
unstopped (before ▹ E.Offer x y z) q = let u = unstopped before q in record { file = u.file; said = u.said; memory = u.memory }
unstopped (before ▹ E.End x y) q = let u = unstopped before q in record { file = u.file; said = u.said; memory = u.memory }

-- ---- one file is written

-- its name, and its blocks so far
abbrev pub opened_with : List Block → List Act
opened_with bs = Create output_name ∷ puts bs

pub puts_both : (xs ys : List Block) → puts (xs ++ ys) ≡ puts xs ++ puts ys
puts_both [] ys = refl
puts_both (x ∷ xs) ys = ap (λ (z : List Act). Put x ∷ z) (puts_both xs ys)

silent : (k : ℕ) → say_count false k ≡ []
silent zero = refl
silent (suc k) = refl

first_acts : (n now : ℕ) (bs : List Block) (k j : ℕ) → take_acts (trial_settings n) false false now bs k j ≡ opened_with (head [] ++ bs)
unfolding take_acts start_file
first_acts n now bs k j = ap (λ (z : List Act). opened_with (head []) ++ (puts bs ++ (z ++ say_count false j))) (silent k) ∙ ap (λ (z : List Act). opened_with (head []) ++ (puts bs ++ z)) (silent j)
    ∙ ap (λ (z : List Act). opened_with (head []) ++ z) (append-nil (puts bs)) ∙ ap (λ (z : List Act). Create output_name ∷ z) (sym (puts_both (head []) bs))

next_acts : (n now : ℕ) (bs : List Block) (k j : ℕ) → take_acts (trial_settings n) true false now bs k j ≡ puts bs
unfolding take_acts
next_acts n now bs k j = ap (λ (z : List Act). puts bs ++ (z ++ say_count false j)) (silent k) ∙ ap (λ (z : List Act). puts bs ++ z) (silent j) ∙ append-nil (puts bs)

-- nothing yet, or a file with its blocks so far
abbrev pub IsOneFile : ℕ → Past → Type 0
IsOneFile n past = (past ≡ nothing) ⊎ (acts (trial_settings n) past ≡ opened_with (blocks past))

unless : (b : Bool) (xs ys : List Act) → b ≡ false → (if b then xs else ys) ≡ ys
unless true xs ys q = cc
unless false xs ys q = refl

or_none : (a b : Bool) → a ≡ false → b ≡ false → a || b ≡ false
or_none true b p q = cc
or_none false b p q = q

pub take_adds : (n : ℕ) (before : Past) (now : ℕ) (t : Taken) → Unfailed before → IsOneFile n before → acts (trial_settings n) (before ▹ E.Take now t) ≡ opened_with (blocks (before ▹ E.Take now t))
unfolding acts piece
take_adds n nothing now t u w = first_acts n now (block_of t) (count_at nothing t) (rest_count (trial_settings n) nothing now t)
take_adds n (b ▹ e) now t u (inl q) = cc
take_adds n (b ▹ e) now t u (inr q) =
    let before : Past = b ▹ e in
    ap (λ (z : List Act). acts (trial_settings n) before ++ z) (unless (memory_lost before || file_lost before) [] (take_piece (trial_settings n) before now t) (or_none (memory_lost before) (file_lost before) u.memory u.file)
    ∙ next_acts n now (block_of t) (count_at before t) (rest_count (trial_settings n) before now t))
    ∙ ap (λ (z : List Act). z ++ puts (block_of t)) q ∙ ap (λ (z : List Act). Create output_name ∷ z) (sym (puts_both (blocks before) (block_of t)))

not_take : (d : Due) → after_tally d ≡ dues.Take → IsQuiet d → ⊥
not_take dues.Take q k = cc
not_take (dues.Stop w) q k = k
not_take dues.SwitchTally q k = k
not_take dues.LastTally q k = cc
not_take dues.ClosingTally q k = cc
not_take dues.Over q k = cc

pub one_file : (n : ℕ) (past : Past) → IsOrderlySoFar (trial_settings n) past → stopped past ≡ false → due (trial_settings n) past ≡ dues.Take → IsOneFile n past
unfolding due
one_file n nothing o s q = inl refl
one_file n (before ▹ E.Take now t) o s q = inr (take_adds n before now t (unstopped before s) (one_file n before o.0 s o.1))
one_file n (before ▹ E.Tally now cs) o s q = absurd (not_take (due (trial_settings n) before) q (quiet n before))
one_file n (before ▹ E.Stop why l) o s q = cc
one_file n (before ▹ E.Join x y z) o s q = absurd o.1
one_file n (before ▹ E.Offer x y z) o s q = absurd o.1
one_file n (before ▹ E.End x y) o s q = absurd o.1

-- ---- the end

pub last_tally : (n : ℕ) (before : Past) (now : ℕ) (cs : List Counts) → Unfailed before → due (trial_settings n) before ≡ dues.LastTally → piece_of (trial_settings n) before (E.Tally now cs) ≡ puts (tail (ifaces before) now cs) ++ Finish ∷ []
unfolding piece tally_piece
last_tally n before now cs u q = rw u.memory (rw q refl)

pub closing_tally : (n : ℕ) (before : Past) (now : ℕ) (cs : List Counts) → Unfailed before → due (trial_settings n) before ≡ dues.ClosingTally → (lines : List (List ℕ)) × (piece_of (trial_settings n) before (E.Tally now cs) ≡ map Say lines)
unfolding piece tally_piece closing
closing_tally n before now cs u q = (report_lines (source_names n) (ifaces before) (endings before) cs (file_lost before) (held (length (names (trial_settings n) before))), rw u.memory (rw q (rw u.said refl)))
