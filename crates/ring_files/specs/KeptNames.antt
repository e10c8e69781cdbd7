-- Which of the names that a ring was given are kept.
use Rattle.std.specs.Prelude.{◌≡◌, ℕ, ◌-◌, nat_le, if◌then◌else◌, Option, Some, None, List, [], length, drop, slice_get}

-- what is seen of a ring: how many names it keeps at most, and those that it keeps, the oldest first
pub record KeptNames : Type 0 where
  pub keep : Option ℕ
  pub names : List (List ℕ)

-- the last `keep` of all names, and none where no number is given
unfoldable pub last_of : Option ℕ → List (List ℕ) → List (List ℕ)
last_of None given = []
last_of (Some keep) given = drop (length given - keep) given

-- the name that leaves where another follows all these: the oldest of the last `keep`, where there are so many
unfoldable pub leaving : Option ℕ → List (List ℕ) → Option (List ℕ)
leaving None given = None
leaving (Some keep) given = if nat_le keep (length given) then slice_get given (length given - keep) else None

-- the ring was given these names
pub record WasGiven (ring : KeptNames) (given : List (List ℕ)) : Type 0 where
  pub last : ring.names ≡ last_of ring.keep given
