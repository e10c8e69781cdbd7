-- What a capture did with its sources.
use Rattle.std.specs.Prelude.{ℕ, ◌≡◌, ◌+◌, Bool, true, false, List, [], ◌∷◌, ◌++◌, Option, Some, None}
use Rattle.cap_base.specs.declared.endings.How.{How}
use Rattle.cap_base.specs.declared.endings.How.TheVariants.{Clean, Cut, ReadFault, OpenFault, Worn}
use Rattle.cap_base.specs.declared.entries.Entry.{Entry}
use Rattle.cap_outside.specs.Told.{Grows}
use Rattle.cap_outside.specs.declared.opened.Opened.{Opened}
use Rattle.source_thread.specs.declared.ended.Ended.{Ended}
use Rattle.source_thread.specs.Told.{SourceFacts, Told}

-- what a source gives in all, where it tells what it gave and what is left
abbrev pub whole_of : Option (List ℕ) → Option (List ℕ) → Option (List ℕ)
whole_of None left = None
whole_of (Some taken) None = None
whole_of (Some taken) (Some left) = Some (taken ++ left)

-- a source that was opened
abbrev pub source_facts : Option (List ℕ) → Option (List ℕ) → ℕ → ℕ → SourceFacts
source_facts taken left ends faults = record { opened = true; taken = taken; left = left; ends = ends; faults = faults }

-- a source that couldn't be opened has given nothing
abbrev pub not_opened : SourceFacts
not_opened = record { opened = false; taken = Some []; left = Some []; ends = 0; faults = 0 }

abbrev pub facts_of : {S : Type 0} → (S → Option (List ℕ)) → (S → Option (List ℕ)) → (S → ℕ) → (S → ℕ) → Option S → SourceFacts
facts_of taken left ends faults None = not_opened
facts_of taken left ends faults (Some s) = source_facts (taken s) (left s) (ends s) (faults s)

-- endings behind a read that gave nothing, behind a read that failed, and without a source; with spent turns nothing is said
abbrev pub may_be_at_end : How → Bool
may_be_at_end Clean = true
may_be_at_end (Cut at) = true
may_be_at_end Worn = true
may_be_at_end other = false

abbrev pub may_have_failed : How → Bool
may_have_failed ReadFault = true
may_have_failed Worn = true
may_have_failed other = false

abbrev pub may_be_unopened : How → Bool
may_be_unopened OpenFault = true
may_be_unopened Worn = true
may_be_unopened other = false

-- What was done with a source in a call: its number, its name, the snap length, how it ended, what is known of it before and after, and
-- its entries.
pub record SourceTold (s : ℕ) (name : List ℕ) (snap : Option ℕ) (how : How) (old new : SourceFacts) (all : List Entry) : Type 0 where
  -- the bytes that it gave
  pub b : List ℕ
  pub gave : Grows old.taken new.taken b
  pub told : Told s name snap b how old new all
  -- it is the same source, and gives the same in all
  pub same : new.opened ≡ old.opened
  pub content : whole_of new.taken new.left ≡ whole_of old.taken old.left
  -- reads gave nothing, failed, or there was no source, only where the ending says so
  pub at_end : may_be_at_end how ≡ false → new.ends ≡ old.ends
  pub failed : may_have_failed how ≡ false → new.faults ≡ old.faults
  pub unopened : old.opened ≡ false → may_be_unopened how ≡ true

-- The same for a source that came back with its name.
pub record WasRead {S : Type 0} (facts : Option S → SourceFacts) (snap : Option ℕ) (s : ℕ) (before : Opened S) (after : Ended S) (all : List Entry) : Type 0 where
  pub name : after.name ≡ before.name
  pub ran : SourceTold s before.name snap after.how (facts before.source) (facts after.source) all

-- and for each of several sources, whose numbers begin with s
abbrev pub EachWasRead : {S : Type 0} → (Option S → SourceFacts) → Option ℕ → ℕ → List (Opened S) → List (Ended S) → (ℕ → List Entry) → Type 0
EachWasRead facts snap s [] [] entries = Unit {0}
EachWasRead facts snap s (before ∷ befores) (after ∷ afters) entries = WasRead facts snap s before after (entries s) × EachWasRead facts snap (s + 1) befores afters entries
EachWasRead facts snap s befores afters entries = ⊥
