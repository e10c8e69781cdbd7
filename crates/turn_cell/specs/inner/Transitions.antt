-- What each kind of step tells the seat that makes it, in the order of a turn; then how views are made, split and joined.
use Rattle.std.specs.Prelude.{◌≡◌, ◌≢◌, ℕ, ◌<◌, ◌≤◌, ◌||◌, cond, min, max, List, [], ◌∷◌, ◌++◌, Some, None}
use Rattle.atomic_table.specs.Table.{Me, Step, rest}
use Rattle.turn_cell.specs.declared.key.Key.{Key}
use Rattle.turn_cell.specs.declared.view.View.{View}
use Rattle.turn_cell.specs.declared.view.Stage.TheVariants.{Idle, Waiting, Holding, Worn, Closing}
use Rattle.turn_cell.specs.History.{own, tag, StartsWith}
use Rattle.turn_cell.specs.inner.Ranges.{below, above, longer}
use Rattle.turn_cell.specs.inner.Invariant.{HasNumber, is_worn_stage}

module _ {X E : Type 0} where
  -- draw: the number found is the seat's ticket, or all turns were drawn and the seat is worn
  abbrev pub Draws : Step X → Me X (View X E) → ℕ → Me X (View X E) → Type 0
  Draws s m n w = (w.1 ≡ m.1) × ((k : Key X) → m.0.key ≡ Some k → (n < k.turns → w.0 ≡ record m.0 { stage = Waiting n }) × (k.turns ≤ n → w.0 ≡ record m.0 { stage = Worn }))

  -- the seat has its turn: it has seen the whole history, and has taken the object, which stands for it
  pub record HasTurn (stands_for : X → X → List (ℕ × E) → Type 0) (turned : ℕ → X → ℕ → List (ℕ × E) → Type 0) (m : Me X (View X E)) (t : ℕ) (w : Me X (View X E)) : Type 0 where
    pub between : List (ℕ × E)
    pub object : X
    pub view : w.0 ≡ record m.0 { seen = m.0.seen ++ between; stage = Holding t }
    pub slot : w.1 ≡ (0, object) ∷ m.1
    pub made_by : (k : Key X) → m.0.key ≡ Some k → turned k.callers k.start.value t (m.0.seen ++ between)
    pub stands : (k : Key X) → m.0.key ≡ Some k → stands_for k.start.value object (m.0.seen ++ between)
    pub once : (n : ℕ) → HasNumber m.0 n → own n (m.0.seen ++ between) ≡ own n m.0.made
    pub within : (k : Key X) → m.0.key ≡ Some k → m.0.high ≤ k.callers

  -- look: where the number found is its ticket the seat has its turn, else nothing has changed
  abbrev pub Finds : (X → X → List (ℕ × E) → Type 0) → (ℕ → X → ℕ → List (ℕ × E) → Type 0) → Step X → Me X (View X E) → ℕ → Me X (View X E) → Type 0
  Finds stands_for turned s m n w = (t : ℕ) → m.0.stage ≡ Waiting t → (n ≡ t → HasTurn stands_for turned m t w) × (n ≢ t → w ≡ m)

  -- a view after a turn with these entries
  abbrev pub after_turn : View X E → List E → View X E
  after_turn v es = record v { seen = v.seen ++ tag v.low es; made = v.made ++ tag v.low es; stage = Idle }

  -- pass: these are the entries of the turn, and the object is back
  abbrev pub Passes : List E → Step X → Me X (View X E) → ℕ → Me X (View X E) → Type 0
  Passes es s m n w = (w.0 ≡ after_turn m.0 es) × (w.1 ≡ rest m.1)

  -- merge: the seat has seen the longer of two beginnings, which begins with the other
  pub record Merges (s : Step X) (m : Me X (View X E)) (n : ℕ) (w : Me X (View X E)) : Type 0 where
    pub view : w.0 ≡ record m.0 { seen = longer m.0.seen m.0.other_seen; other_seen = [] }
    pub slots : w.1 ≡ m.1
    pub first : StartsWith (longer m.0.seen m.0.other_seen) m.0.seen
    pub second : StartsWith (longer m.0.seen m.0.other_seen) m.0.other_seen

  -- end: the last seat has seen the whole history
  pub record Ends (s : Step X) (m : Me X (View X E)) (n : ℕ) (w : Me X (View X E)) : Type 0 where
    pub between : List (ℕ × E)
    pub view : w.0 ≡ record m.0 { seen = m.0.seen ++ between; stage = Closing (is_worn_stage m.0.stage) }
    pub slots : w.1 ≡ m.1
    pub once : (i : ℕ) → HasNumber m.0 i → own i (m.0.seen ++ between) ≡ own i m.0.made

  -- the view that a cell begins with: all numbers, and nothing seen
  abbrev pub first_view : Key X → View X E
  first_view k = record { key = Some k; low = 0; high = k.callers; seen = []; other_seen = []; made = []; stage = Idle }

  -- a view split at a number: the numbers below it, and the others
  abbrev pub lower : ℕ → View X E → View X E
  lower at v = record v { high = at; made = below at v.made }

  abbrev pub upper : ℕ → View X E → View X E
  upper at v = record v { low = at; made = above at v.made }

  -- a view that has taken in another one, and what is left of that
  abbrev pub joined : View X E → View X E → View X E
  joined v w = record v { low = min v.low w.low; high = max v.high w.high; other_seen = w.seen; made = v.made ++ w.made; stage = cond (is_worn_stage v.stage || is_worn_stage w.stage) Worn Idle }

  abbrev pub emptied : View X E
  emptied = record { key = None; low = 0; high = 0; seen = []; other_seen = []; made = []; stage = Idle }
