-- The packets that the writer was answered.
use Rattle.std.proofs.Common.{◌≡◌, ◌+◌, List, [], ◌∷◌, ◌++◌, length, refl, sym, ap, ◌∙◌, arith, length-append, append_assoc}
use Rattle.std.specs.List.{flat_map, sum_by}
use Rattle.std.proofs.lemmas.List.{append-nil}
use Rattle.std.proofs.lemmas.List.Sums.{sum_by-cons}
use Rattle.cap_base.specs.Callers.{own}
use Rattle.cap_base.specs.declared.packet.Packet.{Packet}
use Rattle.cap_base.specs.declared.settings.Settings.{Settings}
use Rattle.cap_base.specs.declared.entries.Item.TheVariants as I
use Rattle.cap_base.specs.declared.entries.Taken.TheVariants as T
use Rattle.cap_base.specs.declared.entries.Entry.{Entry}
use Rattle.cap_base.specs.declared.entries.Entry.TheVariants as E
use Rattle.cap_base.specs.Histories.{History, answer_of, packets}
use Rattle.cap_base.specs.Fates.{taken, lost, lost_of}
use Rattle.cap_base.specs.Legal.{Legal}
use Rattle.cap_base.proofs.Written.{answers_line}
use Rattle.capture_desk.specs.Past.{Past, nothing, ◌▹◌, past_from}
use Rattle.capture_desk.specs.Cuts as cuts
use Rattle.capture_desk.specs.Files as files
use Rattle.capture_desk.specs.Laws.{packets_taken}
use Rattle.capture_core.specs.Writers.{writers_past}

taken_from : (start : Past) (es : List Entry) → packets_taken (past_from start es) ≡ packets_taken start ++ packets (flat_map answer_of es)
taken_from start [] = sym (append-nil (packets_taken start))
taken_from start (E.Join s i n ∷ es) = taken_from start es
taken_from start (E.Offer s p v ∷ es) = taken_from start es
taken_from start (E.End s how ∷ es) = taken_from start es
taken_from start (E.Take now (T.Item (I.Packet p)) ∷ es) = taken_from (start ▹ E.Take now (T.Item (I.Packet p))) es ∙ append_assoc (packets_taken start) (p ∷ []) (packets (flat_map answer_of es))
taken_from start (E.Take now (T.Item (I.Iface n i)) ∷ es) = taken_from (start ▹ E.Take now (T.Item (I.Iface n i))) es
taken_from start (E.Take now (T.Item (I.Ended s how)) ∷ es) = taken_from (start ▹ E.Take now (T.Item (I.Ended s how))) es
taken_from start (E.Take now T.Empty ∷ es) = taken_from (start ▹ E.Take now T.Empty) es
taken_from start (E.Take now T.Done ∷ es) = taken_from (start ▹ E.Take now T.Done) es
taken_from start (E.Tally now cs ∷ es) = taken_from (start ▹ E.Tally now cs) es
taken_from start (E.Stop why l ∷ es) = taken_from (start ▹ E.Stop why l) es

lost_from : (start : Past) (es : List Entry) → cuts.lost_of (past_from start es) ≡ cuts.lost_of start + sum_by lost_of es
lost_from start [] = omega arith
lost_from start (E.Join s i n ∷ es) = let c : sum_by lost_of (E.Join s i n ∷ es) ≡ lost_of (E.Join s i n) + sum_by lost_of es = sum_by-cons lost_of (E.Join s i n) es in let a : cuts.lost_of (past_from start es) ≡ cuts.lost_of start + sum_by lost_of es = lost_from start es in omega arith
lost_from start (E.Offer s p v ∷ es) = let c : sum_by lost_of (E.Offer s p v ∷ es) ≡ lost_of (E.Offer s p v) + sum_by lost_of es = sum_by-cons lost_of (E.Offer s p v) es in let a : cuts.lost_of (past_from start es) ≡ cuts.lost_of start + sum_by lost_of es = lost_from start es in omega arith
lost_from start (E.End s how ∷ es) = let c : sum_by lost_of (E.End s how ∷ es) ≡ lost_of (E.End s how) + sum_by lost_of es = sum_by-cons lost_of (E.End s how) es in let a : cuts.lost_of (past_from start es) ≡ cuts.lost_of start + sum_by lost_of es = lost_from start es in omega arith
lost_from start (E.Take now t ∷ es) = let c : sum_by lost_of (E.Take now t ∷ es) ≡ lost_of (E.Take now t) + sum_by lost_of es = sum_by-cons lost_of (E.Take now t) es in let a : cuts.lost_of (past_from (start ▹ E.Take now t) es) ≡ cuts.lost_of start + sum_by lost_of es = lost_from (start ▹ E.Take now t) es in omega arith
lost_from start (E.Tally now cs ∷ es) = let c : sum_by lost_of (E.Tally now cs ∷ es) ≡ lost_of (E.Tally now cs) + sum_by lost_of es = sum_by-cons lost_of (E.Tally now cs) es in let a : cuts.lost_of (past_from (start ▹ E.Tally now cs) es) ≡ cuts.lost_of start + sum_by lost_of es = lost_from (start ▹ E.Tally now cs) es in omega arith
lost_from start (E.Stop why l ∷ es) = let c : sum_by lost_of (E.Stop why l ∷ es) ≡ lost_of (E.Stop why l) + sum_by lost_of es = sum_by-cons lost_of (E.Stop why l) es in let a : cuts.lost_of (past_from (start ▹ E.Stop why l) es) ≡ (cuts.lost_of start + l) + sum_by lost_of es = lost_from (start ▹ E.Stop why l) es in omega arith

pub taken_is : (s : Settings) (h : History) → Legal s.limits (length s.sources) h → packets_taken (writers_past (length s.sources) h) ≡ taken h
taken_is s h legal = taken_from nothing (own (length s.sources) h) ∙ ap packets ((answers_line s.limits (length s.sources) h legal).answers)

pub lost_is : (s : Settings) (h : History) → Legal s.limits (length s.sources) h → cuts.lost_of (writers_past (length s.sources) h) ≡ lost h
lost_is s h legal = lost_from nothing (own (length s.sources) h) ∙ (let a : sum_by lost_of (own (length s.sources) h) ≡ lost h = (answers_line s.limits (length s.sources) h legal).losses in omega arith)

-- their number
pub count_is : (p : Past) → files.packets p ≡ length (packets_taken p)
count_is nothing = refl
count_is (before ▹ E.Take now (T.Item (I.Packet p))) = more (packets_taken before) p (count_is before) where
  more : (ps : List Packet) (p : Packet) → files.packets before ≡ length ps → files.packets before + 1 ≡ length (ps ++ p ∷ [])
  more ps p e = let a : length (ps ++ p ∷ []) ≡ length ps + 1 = length-append ps (p ∷ []) in omega arith
count_is (before ▹ E.Take now (T.Item (I.Iface n i))) = count_is before
count_is (before ▹ E.Take now (T.Item (I.Ended s how))) = count_is before
count_is (before ▹ E.Take now T.Empty) = count_is before
count_is (before ▹ E.Take now T.Done) = count_is before
count_is (before ▹ E.Tally now cs) = count_is before
count_is (before ▹ E.Stop why l) = count_is before
count_is (before ▹ E.Join s i n) = count_is before
count_is (before ▹ E.Offer s p v) = count_is before
count_is (before ▹ E.End s how) = count_is before
