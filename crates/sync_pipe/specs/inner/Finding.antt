-- What stands at the front of some bytes, whatever follows them.
use Rattle.std.specs.Prelude.{◌≡◌, ℕ, ◌+◌, ◌≤◌, true, Some, List, [], ◌∷◌, ◌++◌, length, drop, slice_index}
use Rattle.sync_pipe.specs.Bodies.{is_known}
use Rattle.sync_pipe.specs.declared.finding.Found.{Found}
use Rattle.sync_pipe.specs.declared.finding.Found.TheVariants as found
use Rattle.sync_pipe.specs.declared.frame.Frame.{Frame}
use Rattle.sync_pipe.specs.declared.frame.Frame.TheVariants as shape
use Rattle.cap_base.specs.Feeding.{with_front}
use Rattle.sync_pipe.specs.Heard.{heard_at, frame}

-- a whole message is there, of a known type or not; where none is, there are fewer bytes than the longest one has
abbrev pub IsWithin : List ℕ → Frame → Type 0
IsWithin text shape.Cut = length text ≤ 65539
IsWithin text shape.TooLong = 4 ≤ length text
IsWithin text (shape.Known n) = (4 + n ≤ length text) × (is_known (slice_index text 0) ≡ true)
IsWithin text (shape.Unknown n) = 4 + n ≤ length text

-- the first n bytes say nothing, and have no defect
pub record Passes (text : List ℕ) (n : ℕ) : Type 0 where
  pub goes : (at : ℕ) (more : List ℕ) → heard_at at (text ++ more) ≡ heard_at (at + n) (drop n text ++ more)

-- no whole message of another type
abbrev pub IsNext : Frame → Type 0
IsNext (shape.Unknown n) = ⊥
IsNext other = Unit {0}

-- what was found holds however the bytes go on
abbrev pub Finds : List ℕ → Found → Type 0
Finds text (found.Said said n) = (n ≤ length text) × ((at : ℕ) (more : List ℕ) → heard_at at (text ++ more) ≡ with_front (said ∷ []) (heard_at (at + n) (drop n text ++ more)))
Finds text (found.Cut n) = (n ≤ length text) × Passes text n × (frame (drop n text) ≡ shape.Cut) × (length (drop n text) ≤ 65539)
Finds text (found.Bad n) = (n ≤ length text) × ((at : ℕ) (more : List ℕ) → heard_at at (text ++ more) ≡ ([], Some (at + n)))
