-- The places of a capture's sources, before their threads and behind them.
use Rattle.std.specs.Prelude.{ℕ, ◌≡◌, ◌≤◌, ◌+◌, ◌↔◌, true, List, [], ◌∷◌, length, Option}
use Rattle.cap_base.specs.declared.endings.How.TheVariants as how
use Rattle.turn_cell.specs.Passes.{IsPassOf, low, high, is_worn}
use Rattle.packet_queue.specs.Ends.{QueueCell, QueuePass, IsPortOf, mine, port_pass, port_source}
use Rattle.packet_queue.specs.declared.port.Port.{Port}
use Rattle.cap_outside.specs.declared.opened.Opened.{Opened}
use Rattle.source_thread.specs.declared.ended.Ended.{Ended}
use Rattle.capture_threads.specs.declared.place.Place.{Place}
use Rattle.capture_threads.specs.declared.place.Place.TheVariants.{Ready, Over}
use Rattle.source_thread.specs.Told.{SourceFacts}
use Rattle.source_thread.specs.Sources.{WasRead}

-- what a source's thread begins with
pub record CanBegin {S : Type 0} (c : QueueCell) (p : Port) (opened : Opened S) : Type 0 where
  pub port : IsPortOf c p
  pub fresh : mine (port_pass p) ≡ []
  pub name : length opened.name ≤ 4096

-- what it leaves: the pass of the source's number, with its entries
pub record HasRun {S : Type 0} (facts : Option S → SourceFacts) (snap : Option ℕ) (c : QueueCell) (n : ℕ) (before : Opened S) (after : Ended S) (q : QueuePass) : Type 0 where
  pub pass : IsPassOf c q
  pub numbers : (low q ≡ n) × (high q ≡ n + 1)
  pub ran : WasRead facts snap n before after (mine q)
  pub worn : (after.how ≡ how.Worn) ↔ (is_worn q ≡ true)

-- a source's thread can begin, under this number
abbrev pub IsPlaced : {S : Type 0} → QueueCell → ℕ → Opened S → Place S → Type 0
IsPlaced c n before (Ready port opened) = CanBegin c port opened × (port_source port ≡ n) × (opened ≡ before)
IsPlaced c n before other = ⊥

-- so can those of several sources, whose numbers begin with n
abbrev pub ArePlaced : {S : Type 0} → QueueCell → ℕ → List (Opened S) → List (Place S) → Type 0
ArePlaced c n [] [] = Unit {0}
ArePlaced c n (before ∷ befores) (place ∷ places) = IsPlaced c n before place × ArePlaced c (n + 1) befores places
ArePlaced c n befores places = ⊥

-- a source's thread has run, under this number
abbrev pub IsRun : {S : Type 0} → (Option S → SourceFacts) → Option ℕ → QueueCell → ℕ → Opened S → Place S → Type 0
IsRun facts snap c n before (Over after pass) = HasRun facts snap c n before after pass
IsRun facts snap c n before other = ⊥

-- so have those of several sources, whose numbers begin with n
abbrev pub AreRun : {S : Type 0} → (Option S → SourceFacts) → Option ℕ → QueueCell → ℕ → List (Opened S) → List (Place S) → Type 0
AreRun facts snap c n [] [] = Unit {0}
AreRun facts snap c n (before ∷ befores) (place ∷ places) = IsRun facts snap c n before place × AreRun facts snap c (n + 1) befores places
AreRun facts snap c n befores places = ⊥
