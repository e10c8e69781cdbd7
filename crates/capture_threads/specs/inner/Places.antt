-- Places whose threads run, without their numbers, and their passes in one.
use Rattle.std.specs.Prelude.{ℕ, ◌≡◌, ◌+◌, ◌||◌, List, [], ◌∷◌, ◌++◌, length, Option}
use Rattle.std.specs.List.{list_any}
use Rattle.cap_base.specs.Callers.{own}
use Rattle.turn_cell.specs.Passes.{IsPassOf, Has, low, high, made, is_worn}
use Rattle.packet_queue.specs.Ends.{QueueCell, QueuePass, IsPortOf, mine, port_pass, port_source}
use Rattle.packet_queue.specs.declared.port.Port.{Port}
use Rattle.cap_outside.specs.declared.opened.Opened.{Opened}
use Rattle.source_thread.specs.declared.ended.Ended.{Ended}
use Rattle.capture_threads.specs.declared.place.Place.{Place}
use Rattle.capture_threads.specs.declared.place.Place.TheVariants.{Ready, Over}
use Rattle.source_thread.specs.Told.{SourceFacts}
use Rattle.source_thread.specs.Sources.{EachWasRead}
use Rattle.capture_threads.specs.Captures.{ends_worn}
use Rattle.capture_threads.specs.Places.{CanBegin, HasRun, AreRun}

-- a port under this number, which made no call
pub record IsFreshPort (c : QueueCell) (n : ℕ) (p : Port) : Type 0 where
  pub port : IsPortOf c p
  pub fresh : mine (port_pass p) ≡ []
  pub source : port_source p ≡ n

-- so are several, whose numbers begin with n
abbrev pub AreFreshPorts : QueueCell → ℕ → List Port → Type 0
AreFreshPorts c n [] = Unit {0}
AreFreshPorts c n (p ∷ ps) = IsFreshPort c n p × AreFreshPorts c (n + 1) ps

-- the places of sources with their ports
abbrev pub paired : {S : Type 0} → List Port → List (Opened S) → List (Place S)
paired [] opened = []
paired (p ∷ ports) [] = []
paired (p ∷ ports) (o ∷ opened) = Ready p o ∷ paired ports opened

abbrev pub IsReady : {S : Type 0} → QueueCell → Place S → Type 0
IsReady c (Ready port opened) = CanBegin c port opened
IsReady c other = ⊥

abbrev pub IsOver : {S : Type 0} → (Option S → SourceFacts) → Option ℕ → QueueCell → Place S → Place S → Type 0
IsOver facts snap c (Ready port before) (Over after pass) = HasRun facts snap c (port_source port) before after pass
IsOver facts snap c old new = ⊥

abbrev pub AreReady : {S : Type 0} → QueueCell → List (Place S) → Type 0
AreReady c [] = Unit {0}
AreReady c (place ∷ places) = IsReady c place × AreReady c places

abbrev pub AreOver : {S : Type 0} → (Option S → SourceFacts) → Option ℕ → QueueCell → List (Place S) → List (Place S) → Type 0
AreOver facts snap c [] [] = Unit {0}
AreOver facts snap c (old ∷ olds) (new ∷ news) = IsOver facts snap c old new × AreOver facts snap c olds news
AreOver facts snap c olds news = ⊥

-- What was left in places whose numbers begin with n, gathered in front of the numbers of another pass.
pub record IsGathered {S : Type 0} (facts : Option S → SourceFacts) (snap : Option ℕ) (c : QueueCell) (n : ℕ) (befores : List (Opened S)) (afters : List (Ended S)) (last q : QueuePass) : Type 0 where
  pub pass : IsPassOf c q
  pub numbers : (low q ≡ n) × (high q ≡ high last)
  pub ran : EachWasRead facts snap n befores afters (λ k. own k (made q))
  pub rest : (k : ℕ) → Has last k → own k (made q) ≡ own k (made last)
  pub worn : is_worn q ≡ list_any ends_worn afters || is_worn last

-- the places were run, and the numbers of the other pass are behind theirs
abbrev pub CanGather : {S : Type 0} → (Option S → SourceFacts) → Option ℕ → QueueCell → List (Place S) → QueuePass → Type 0
CanGather {S} facts snap c places last = IsPassOf c last × ((n : ℕ) × (befores : List (Opened S)) × AreRun facts snap c n befores places × (low last ≡ n + length places))

-- whatever the sources were, they were gathered
abbrev pub Gathers : {S : Type 0} → (Option S → SourceFacts) → Option ℕ → QueueCell → List (Place S) → List (Ended S) → List (Ended S) → QueuePass → QueuePass → Type 0
Gathers {S} facts snap c places old new last q =
    (n : ℕ) (befores : List (Opened S)) → AreRun facts snap c n befores places → low last ≡ n + length places
    → (afters : List (Ended S)) × (new ≡ old ++ afters) × IsGathered facts snap c n befores afters last q
