-- The rule of the table, which each step keeps.
-- Word 0 counts the turns drawn, word 1 the turns passed. The slot has the object; for a turn it is lent to the seat whose
-- turn it is, and stays in its place.
use Rattle.std.specs.Prelude.{◌≡◌, ℕ, zero, suc, ◌+◌, ◌^◌, ◌<◌, ◌≤◌, Bool, true, false, List, [], ◌∷◌, Some}
use mathlib.Core.Option.{none, some}
use lib.ListN.{get_elem?}
use Rattle.atomic_table.specs.Table.{State}
use Rattle.turn_cell.specs.declared.key.Key.{Key}
use Rattle.turn_cell.specs.declared.view.View.{View}
use Rattle.turn_cell.specs.declared.view.Stage.{Stage}
use Rattle.turn_cell.specs.declared.view.Stage.TheVariants.{Idle, Waiting, Holding, Worn, Closing}
use Rattle.turn_cell.specs.History.{own, StartsWith}

-- where the object is: in the slot, or with a seat
pub data Place (X : Type 0) : Type 0 where
  stored : X → Place X
  held : ℕ → Place X

-- a seat at this stage has this ticket
abbrev pub Ticket : Stage → ℕ → Type 0
Ticket (Waiting u) t = u ≡ t
Ticket (Holding u) t = u ≡ t
Ticket Idle t = ⊥
Ticket Worn t = ⊥
Ticket (Closing b) t = ⊥

-- a seat at this stage is worn
abbrev pub is_worn_stage : Stage → Bool
is_worn_stage Worn = true
is_worn_stage Idle = false
is_worn_stage (Waiting t) = false
is_worn_stage (Holding t) = false
is_worn_stage (Closing b) = b

-- how many of the first numbers are so
abbrev pub bit : Bool → ℕ
bit true = 1
bit false = 0

abbrev pub count : ℕ → (ℕ → Bool) → ℕ
count zero f = 0
count (suc n) f = count n f + bit (f n)

module _ {X E : Type 0} where
  -- a number of the seat
  abbrev pub HasNumber : View X E → ℕ → Type 0
  HasNumber v n = (v.low ≤ n) × (n < v.high)

  module _ (k : Key X) (history : List (ℕ × E)) (drawn passed : ℕ) (holder : ℕ → ℕ) (place : Place X) (j : ℕ) (v : View X E) where
    -- the seat has drawn the ticket, and its turn has not passed
    abbrev pub Holds : ℕ → Type 0
    Holds t = (v.low < v.high) × (passed ≤ t) × (t < drawn) × (t < k.turns) × (holder t ≡ j)

    -- what the stage of a seat says: where it holds the object, its turn has come and it has seen the whole history
    abbrev pub InStage : Stage → Type 0
    InStage Idle = Unit {0}
    InStage (Waiting t) = Holds t
    InStage (Holding t) = Holds t × (t ≡ passed) × (history ≡ v.seen) × (place ≡ held j)
    InStage Worn = k.turns < drawn
    InStage (Closing b) = (v.low ≡ 0) × (v.high ≡ k.callers) × (0 < k.callers) × (history ≡ v.seen) × (b ≡ true → k.turns < drawn)

  -- what the rule says of one seat
  pub record SeatInvariant (k : Key X) (history : List (ℕ × E)) (drawn passed : ℕ) (holder owner : ℕ → ℕ) (worn : ℕ → Bool) (place : Place X) (j : ℕ) (v : View X E) : Type 0 where
    pub key : v.low < v.high → v.key ≡ Some k
    -- its ticket, if it has one, is its own (parts 2 and 3)
    pub stage : InStage k history drawn passed holder place j v v.stage
    -- its numbers are its own, and their entries are its entries (part 4)
    pub owned : (n : ℕ) → HasNumber v n → owner n ≡ j
    pub made : (n : ℕ) → HasNumber v n → own n history ≡ own n v.made
    pub within : v.high ≤ k.callers
    -- what it has seen is a beginning of the history (part 5)
    pub seen : StartsWith history v.seen
    pub other_seen : StartsWith history v.other_seen
    -- its numbers are worn if it is (part 6)
    pub worn_same : (n : ℕ) → HasNumber v n → worn n ≡ is_worn_stage v.stage

  module _ (stands_for : X → X → List (ℕ × E) → Type 0) (k : Key X) (s : State X (View X E)) (history : List (ℕ × E)) (passed : ℕ) where
    -- the object in the slot stands for the history; else the seat that has it out is at its turn
    abbrev pub InPlace : Place X → Type 0
    InPlace (stored x) = (s.homes ≡ some x ∷ []) × stands_for k.start.value x history
    InPlace (held j) = (s.homes ≡ none ∷ []) × ((v : View X E) × (get_elem? s.views j ≡ some v) × (v.stage ≡ Holding passed))

  pub record Invariant (stands_for : X → X → List (ℕ × E) → Type 0) (turned : ℕ → X → ℕ → List (ℕ × E) → Type 0) (k : Key X) (s : State X (View X E)) : Type 0 where
    pub history : List (ℕ × E)
    pub drawn : ℕ
    pub passed : ℕ
    pub words : s.words ≡ drawn ∷ passed ∷ []
    pub few : k.turns ≤ 2 ^ 56
    pub small : k.callers < 2 ^ 32
    -- the seat that drew a ticket, the seat that has a number, whether a number is worn, and where the object is
    pub holder : ℕ → ℕ
    pub owner : ℕ → ℕ
    pub worn : ℕ → Bool
    pub place : Place X
    -- 1. The history was made by as many turns as have passed.
    pub made_by : turned k.callers k.start.value passed history
    -- 2. Each ticket that was drawn and not passed is with one seat, which drew it.
    pub behind : passed ≤ drawn
    pub within : passed ≤ k.turns
    pub each_ticket : (t : ℕ) → passed ≤ t → t < drawn → t < k.turns → (v : View X E) × (get_elem? s.views (holder t) ≡ some v) × Ticket v.stage t
    -- 3. The object stands for the history, or is with the seat whose turn it is.
    pub object : InPlace stands_for k s history passed place
    -- 4. A number is with one seat at most, and its entries are those of that seat.
    -- 5. Each seat has seen a beginning of the history, and the seat whose turn it is has seen all of it.
    pub each_seat : (j : ℕ) (v : View X E) → get_elem? s.views j ≡ some v → SeatInvariant k history drawn passed holder owner worn place j v
    -- 6. No more tickets were drawn than there are turns and worn numbers.
    pub over : drawn ≤ k.turns + count k.callers worn
