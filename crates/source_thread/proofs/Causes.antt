-- Why a source ended.
use Rattle.std.proofs.Common.{◌≡◌, ℕ, ◌+◌, ◌<◌, ◌≤◌, ◌^◌, Bool, true, false, cond, List, [], ◌∷◌, ◌++◌, length, map, Option, refl, sym, ap, ◌∙◌, subst, arith, length-append}
use Rattle.std.specs.List.{list_any}
use Rattle.std.proofs.lemmas.List.{append-nil}
use Rattle.cap_base.specs.Events.{Event, packet}
use Rattle.cap_base.specs.declared.packet.Packet.{Packet}
use Rattle.cap_base.specs.declared.endings.How.{How}
use Rattle.cap_base.specs.declared.endings.How.TheVariants as how
use Rattle.cap_base.specs.declared.entries.Entry.{Entry}
use Rattle.cap_outside.specs.Causes.{one_higher}
use Rattle.cap_outside.specs.Told.{Tells}
use Rattle.turn_cell.specs.Passes.{low, made}
use Rattle.cap_base.specs.Callers.{own}
use Rattle.packet_queue.specs.Ends.{QueueCell, QueuePass, HadNoTurn, mine, port_numbers, joined_numbers}
use Rattle.source_thread.specs.declared.sender.Sender.{Sender}
use Rattle.source_thread.specs.Told.{AreEntriesOf, Entered, IsCauseOf, AllEntered, ReadToEnd, ReadsNoFurther, SourceFacts, is_flushed, is_refused, is_defect, end_entry}
use Rattle.source_thread.specs.Sources.{not_opened, whole_of, may_be_at_end, SourceTold}
use Rattle.source_thread.specs.inner.Readers.{State, IsEnd, IsOpen, IsBad, EndsAs, ending_of_rest, events, ending, fed_count, name_of}
use Rattle.source_thread.specs.inner.Sending.{IsSender, AllNumbered, Reads, ReadsFront, SourceEntered, IsBreak, entries_of, number_of, waiting}
use Rattle.source_thread.proofs.Readers.{no_defect, no_events, fed_is}
use Rattle.source_thread.proofs.Pieces.{given_entered, grows_none}
use Rattle.cap_base.specs.declared.entries.Entry.TheVariants as E

-- ---- a source that was read, and what it came to

module _ (c : QueueCell) (r : State) (s : Sender) (name : List ℕ) (snap : Option ℕ) (n : ℕ) (old new : SourceFacts) (is : IsSender c s) (number : number_of s ≡ n) (named : name_of r ≡ name) (cut : r.snap ≡ snap) where
  -- all events have entries, and for the bytes there is a cause
  pub whole_entered : (h : How) (x : Reads old.taken new.taken r s) → fed_count r ≤ 2 ^ 62 → (P : How → Type 0) → EndsAs r P → waiting s ≡ [] → IsCauseOf h (ending (name_of r) x.b) (length x.b) [] (entries_of s) old new → Entered n name snap x.b h old new (entries_of s)
  whole_entered h x few P d none cause =
      let g = given_entered r s x.b P d none x.sends in
      record {
        few = (let l : length x.b ≡ fed_count r = (fed_is r x.b x.sends.given x.sends.stands) in omega arith);
        front = x.sends.given;
        behind = [];
        parts = ap (λ (m : List ℕ). events m snap x.b) (sym named) ∙ ap (λ (m : Option ℕ). events (name_of r) m x.b) (sym cut) ∙ g.0 ∙ sym (append-nil x.sends.given);
        each = subst (λ (m : ℕ). AreEntriesOf m (joined_numbers (entries_of s)) x.sends.given (entries_of s)) number (subst (λ (ns : List ℕ). AreEntriesOf (number_of s) ns x.sends.given (entries_of s)) is.port.numbers g.1);
        cause = subst (λ (m : List ℕ). IsCauseOf h (ending m x.b) (length x.b) [] (entries_of s) old new) named cause;
        no_further = subst (λ (m : List ℕ). ReadsNoFurther m snap x.b (entries_of s)) named (subst (λ (m : Option ℕ). ReadsNoFurther (name_of r) m x.b (entries_of s)) cut x.no_further);
      }

  -- the first events have entries
  pub front_entered : (h : How) (x : ReadsFront (name_of r) r.snap old.taken new.taken s) → waiting s ≡ [] → IsCauseOf h (ending (name_of r) x.b) (length x.b) x.behind (entries_of s) old new → Entered n name snap x.b h old new (entries_of s)
  front_entered h x none cause =
      let parts = x.holds.parts ∙ ap (λ (z : List Packet). x.holds.entered ++ map packet z) none ∙ append-nil x.holds.entered in
      let each = subst (λ (z : List Event). AreEntriesOf (number_of s) (port_numbers s.port) z (entries_of s)) (sym parts) x.holds.each in
      record {
        few = x.few;
        front = x.front;
        behind = x.behind;
        parts = ap (λ (m : List ℕ). events m snap x.b) (sym named) ∙ ap (λ (m : Option ℕ). events (name_of r) m x.b) (sym cut) ∙ x.parts;
        each = subst (λ (m : ℕ). AreEntriesOf m (joined_numbers (entries_of s)) x.front (entries_of s)) number (subst (λ (ns : List ℕ). AreEntriesOf (number_of s) ns x.front (entries_of s)) is.port.numbers each);
        cause = subst (λ (m : List ℕ). IsCauseOf h (ending m x.b) (length x.b) x.behind (entries_of s) old new) named cause;
        no_further = subst (λ (m : List ℕ). ReadsNoFurther m snap x.b (entries_of s)) named (subst (λ (m : Option ℕ). ReadsNoFurther (name_of r) m x.b (entries_of s)) cut x.no_further);
      }

  module _ (same : new.opened ≡ old.opened) (opened : old.opened ≡ true) (content : whole_of new.taken new.left ≡ whole_of old.taken old.left) where
    not_unopened : (h : Bool) → old.opened ≡ false → h ≡ true
    not_unopened h e = absurd (let q : true ≡ false = sym opened ∙ e in cc)

    -- nothing ended it but the end of what may be read, or a flushed packet
    pub stopped : (x : Reads old.taken new.taken r s) → EndsAs r IsOpen → waiting s ≡ [] → AllNumbered s → s.flushed ≡ true → fed_count r < 2 ^ 62 → new.ends ≡ old.ends → new.faults ≡ old.faults → SourceEntered n name snap how.Stopped old new (entries_of s)
    stopped x d none all flushed short ends faults = record {
      b = x.b;
      gave = x.gave;
      entered = whole_entered how.Stopped x (omega arith) IsOpen d none (sym is.flushed ∙ flushed, (let l : length x.b ≡ fed_count r = (fed_is r x.b x.sends.given x.sends.stands) in omega arith), record { all = refl; all_numbered = all; no_defect = no_defect r x.b x.sends.given d x.sends.stands });
      same = same;
      content = content;
      at_end = λ e. ends;
      failed = λ e. faults;
      unopened = not_unopened _;
    }

    pub too_long : (x : Reads old.taken new.taken r s) → EndsAs r IsOpen → waiting s ≡ [] → AllNumbered s → fed_count r ≡ 2 ^ 62 → new.ends ≡ old.ends → new.faults ≡ old.faults → SourceEntered n name snap how.TooLong old new (entries_of s)
    too_long x d none all full ends faults = record {
      b = x.b;
      gave = x.gave;
      entered = whole_entered how.TooLong x (omega arith) IsOpen d none ((fed_is r x.b x.sends.given x.sends.stands) ∙ full, record { all = refl; all_numbered = all; no_defect = no_defect r x.b x.sends.given d x.sends.stands });
      same = same;
      content = content;
      at_end = λ e. ends;
      failed = λ e. faults;
      unopened = not_unopened _;
    }

    -- a read failed
    pub read_failed : (x : Reads old.taken new.taken r s) → fed_count r ≤ 2 ^ 62 → EndsAs r IsOpen → waiting s ≡ [] → AllNumbered s → list_any is_flushed (entries_of s) ≡ false → new.faults ≡ one_higher old.faults → new.ends ≡ old.ends → SourceEntered n name snap how.ReadFault old new (entries_of s)
    read_failed x few d none all quiet rose ends = record {
      b = x.b;
      gave = x.gave;
      entered = whole_entered how.ReadFault x few IsOpen d none (rose, record { all = refl; all_numbered = all; no_defect = no_defect r x.b x.sends.given d x.sends.stands }, quiet);
      same = same;
      content = content;
      at_end = λ e. ends;
      failed = λ e. absurd cc;
      unopened = not_unopened _;
    }

    -- the source gave nothing
    pub at_its_end : (h : How) → IsEnd h → EndsAs r (λ e. e ≡ h) → (x : Reads old.taken new.taken r s) → EndsAs r IsOpen → waiting s ≡ [] → AllNumbered s → fed_count r < 2 ^ 62 → new.ends ≡ one_higher old.ends → Tells new.left [] → list_any is_flushed (entries_of s) ≡ false → new.faults ≡ old.faults → SourceEntered n name snap h old new (entries_of s)
    at_its_end h e ends x d none all short rose left quiet faults = record {
      b = x.b;
      gave = x.gave;
      entered = whole_entered h x (omega arith) IsOpen d none (cause h e is_h whole);
      same = same;
      content = content;
      at_end = at_end h e is_h whole.no_defect;
      failed = λ q. faults;
      unopened = not_unopened _;
    } where
      is_h : ending (name_of r) x.b ≡ h
      is_h = (ends x.b x.sends.given x.sends.stands).1

      end : ReadToEnd (length x.b) old new (entries_of s)
      end = record { short = (let l : length x.b ≡ fed_count r = (fed_is r x.b x.sends.given x.sends.stands) in omega arith); gave_nothing = rose; none_left = left; none_flushed = quiet }

      whole : AllEntered (ending (name_of r) x.b) [] (entries_of s)
      whole = record { all = refl; all_numbered = all; no_defect = no_defect r x.b x.sends.given d x.sends.stands }

      cause : (h : How) → IsEnd h → ending (name_of r) x.b ≡ h → AllEntered (ending (name_of r) x.b) [] (entries_of s) → IsCauseOf h (ending (name_of r) x.b) (length x.b) [] (entries_of s) old new
      cause how.Clean e is_h whole = (is_h, whole, end)
      cause (how.Cut at) e is_h whole = (is_h, whole, end)
      cause (how.Bad code at) e is_h whole = (is_h, refl, all)
      cause how.Stopped e is_h whole = absurd e
      cause how.ReadFault e is_h whole = absurd e
      cause how.OpenFault e is_h whole = absurd e
      cause how.TooMany e is_h whole = absurd e
      cause how.TooLong e is_h whole = absurd e
      cause how.NoMemory e is_h whole = absurd e
      cause how.Worn e is_h whole = absurd e

      at_end : (h : How) → IsEnd h → ending (name_of r) x.b ≡ h → is_defect (ending (name_of r) x.b) ≡ false → may_be_at_end h ≡ false → new.ends ≡ old.ends
      at_end how.Clean e is_h whole q = absurd cc
      at_end (how.Cut at) e is_h whole q = absurd cc
      at_end (how.Bad code at) e is_h whole q = absurd (let z : true ≡ false = sym (ap is_defect is_h) ∙ whole in cc)
      at_end how.Stopped e is_h whole q = absurd e
      at_end how.ReadFault e is_h whole q = absurd e
      at_end how.OpenFault e is_h whole q = absurd e
      at_end how.TooMany e is_h whole q = absurd e
      at_end how.TooLong e is_h whole q = absurd e
      at_end how.NoMemory e is_h whole q = absurd e
      at_end how.Worn e is_h whole q = absurd e

    -- the bytes have a defect
    pub broken : (h : How) → IsEnd h → h ≡ ending_of_rest r → IsBad (ending_of_rest r) → EndsAs r (λ e. e ≡ h) → (x : Reads old.taken new.taken r s) → fed_count r ≤ 2 ^ 62 → waiting s ≡ [] → AllNumbered s → new.ends ≡ old.ends → new.faults ≡ old.faults → SourceEntered n name snap h old new (entries_of s)
    broken h e rest bad ends x few none all same_ends same_faults = record {
      b = x.b;
      gave = x.gave;
      entered = whole_entered h x few (λ e. e ≡ h) ends none (cause h (subst IsBad (sym rest) bad) ((ends x.b x.sends.given x.sends.stands).1));
      same = same;
      content = content;
      at_end = λ q. same_ends;
      failed = λ q. same_faults;
      unopened = not_unopened _;
    } where
      cause : (h : How) → IsBad h → ending (name_of r) x.b ≡ h → IsCauseOf h (ending (name_of r) x.b) (length x.b) [] (entries_of s) old new
      cause (how.Bad code at) b is_h = (is_h, refl, all)
      cause how.Clean b is_h = absurd b
      cause (how.Cut at) b is_h = absurd b
      cause how.Stopped b is_h = absurd b
      cause how.ReadFault b is_h = absurd b
      cause how.OpenFault b is_h = absurd b
      cause how.TooMany b is_h = absurd b
      cause how.TooLong b is_h = absurd b
      cause how.NoMemory b is_h = absurd b
      cause how.Worn b is_h = absurd b

    -- the entering broke off
    pub broke_off : (h : How) → IsBreak h s → (x : ReadsFront (name_of r) r.snap old.taken new.taken s) → waiting s ≡ [] → new.ends ≡ old.ends → new.faults ≡ old.faults → SourceEntered n name snap h old new (entries_of s)
    broke_off h k x none same_ends same_faults = record {
      b = x.b;
      gave = x.gave;
      entered = front_entered h x none (cause h k);
      same = same;
      content = content;
      at_end = λ q. same_ends;
      failed = λ q. same_faults;
      unopened = not_unopened _;
    } where
      cause : (h : How) → IsBreak h s → IsCauseOf h (ending (name_of r) x.b) (length x.b) x.behind (entries_of s) old new
      cause how.NoMemory k = k
      cause how.TooMany k = k.0
      cause how.Worn k = tt
      cause how.Clean k = absurd k
      cause (how.Cut at) k = absurd k
      cause (how.Bad code at) k = absurd k
      cause how.Stopped k = absurd k
      cause how.ReadFault k = absurd k
      cause how.OpenFault k = absurd k
      cause how.TooLong k = absurd k

-- ---- nothing was read

-- nothing was entered
pub nothing_entered : (n : ℕ) (name : List ℕ) (snap : Option ℕ) (h : How) (old new : SourceFacts) (es : List Entry) → es ≡ [] → IsCauseOf h (ending name []) 0 [] es old new → Entered n name snap [] h old new es
nothing_entered n name snap h old new es none cause = record {
  few = omega arith;
  front = [];
  behind = [];
  parts = no_events name snap;
  each = subst (λ (z : List Entry). AreEntriesOf n (joined_numbers z) [] z) (sym none) tt;
  cause = cause;
  no_further = λ front last parts long. absurd (let far : 65536 ≤ length last = long in let e : length (front ++ last) ≡ length front + length last = length-append front last in let z : 0 ≡ length (front ++ last) = ap length parts in omega arith);
}

-- there was no memory to begin
pub could_not_begin : (n : ℕ) (name : List ℕ) (snap : Option ℕ) (f : SourceFacts) (es : List Entry) → f.opened ≡ true → es ≡ [] → SourceEntered n name snap how.NoMemory f f es
could_not_begin n name snap f es opened none = record {
  b = [];
  gave = grows_none f.taken;
  entered = nothing_entered n name snap how.NoMemory f f es none (ap (list_any is_refused) none);
  same = refl;
  content = refl;
  at_end = λ q. refl;
  failed = λ q. refl;
  unopened = λ e. absurd (let q : true ≡ false = sym opened ∙ e in cc);
}

-- there was no source
pub had_none : (n : ℕ) (name : List ℕ) (snap : Option ℕ) (es : List Entry) → es ≡ [] → SourceEntered n name snap how.OpenFault not_opened not_opened es
had_none n name snap es none = record {
  b = [];
  gave = refl;
  entered = nothing_entered n name snap how.OpenFault not_opened not_opened es none (refl, none);
  same = refl;
  content = refl;
  at_end = λ q. refl;
  failed = λ q. refl;
  unopened = λ e. refl;
}

-- ---- the End

end_is : (s : ℕ) (h : How) → (h ≡ how.Worn → ⊥) → end_entry s h ≡ E.End s h ∷ []
end_is s how.Clean n = refl
end_is s (how.Cut at) n = refl
end_is s (how.Bad code at) n = refl
end_is s how.Stopped n = refl
end_is s how.ReadFault n = refl
end_is s how.OpenFault n = refl
end_is s how.TooMany n = refl
end_is s how.TooLong n = refl
end_is s how.NoMemory n = refl
end_is s how.Worn n = absurd (n refl)

pub with_end : (s : ℕ) (name : List ℕ) (snap : Option ℕ) (h : How) (old new : SourceFacts) (es all : List Entry) → (h ≡ how.Worn → ⊥) → all ≡ es ++ E.End s h ∷ [] → SourceEntered s name snap h old new es → SourceTold s name snap h old new all
with_end s name snap h old new es all n e x = record {
  b = x.b;
  gave = x.gave;
  told = record { entries = es; parts = e ∙ ap (λ (z : List Entry). es ++ z) (sym (end_is s h n)); entered = x.entered };
  same = x.same;
  content = x.content;
  at_end = x.at_end;
  failed = x.failed;
  unopened = x.unopened;
}

pub without_end : (s : ℕ) (name : List ℕ) (snap : Option ℕ) (h : How) (old new : SourceFacts) (es all : List Entry) → all ≡ es → SourceEntered s name snap h old new es → SourceTold s name snap how.Worn old new all
without_end s name snap h old new es all e x = record {
  b = x.b;
  gave = x.gave;
  told = record {
    entries = es;
    parts = e ∙ sym (append-nil es);
    entered = record { few = x.entered.few; front = x.entered.front; behind = x.entered.behind; parts = x.entered.parts; each = x.entered.each; cause = tt; no_further = x.entered.no_further };
  };
  same = x.same;
  content = x.content;
  at_end = λ q. absurd cc;
  failed = λ q. absurd cc;
  unopened = λ q. refl;
}

-- the End was made, or the turns were spent
pub ended : (s m : ℕ) → m ≡ s → (name : List ℕ) (snap : Option ℕ) (h : How) (old new : SourceFacts) (es all : List Entry) (made : Bool)
    → (made ≡ true → all ≡ es ++ E.End m h ∷ []) → (made ≡ false → all ≡ es) → (made ≡ true → h ≡ how.Worn → ⊥) → SourceEntered s name snap h old new es → SourceTold s name snap (cond made h how.Worn) old new all
ended s m number name snap h old new es all true a b n x = with_end s name snap h old new es all (n refl) (a refl ∙ ap (λ (k : ℕ). es ++ E.End k h ∷ []) number) x
ended s m number name snap h old new es all false a b n x = without_end s name snap h old new es all (b refl) x

pub same_mine : (p q : QueuePass) → HadNoTurn p q → low q ≡ low p → mine q ≡ mine p
same_mine p q w l = ap (λ (n : ℕ). own n (made q)) l ∙ ap (own (low p)) w.2

pub not_both : {b : Bool} → b ≡ true → b ≡ false → ⊥
not_both {b} t f = let q : true ≡ false = sym t ∙ f in cc
