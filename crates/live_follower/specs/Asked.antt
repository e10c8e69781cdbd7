-- What a call asked of a view: whether a file is there, once, and then for its bytes, each place once.
use Rattle.std.specs.Prelude.{ℕ, ◌≡◌, ◌<◌, ◌+◌, ◌⊎◌, List, [], ◌∷◌, ◌++◌, Option, Some, None, Result, Ok, Err}
use Rattle.cap_outside.specs.Told.{Leads}
use Rattle.cap_outside.specs.declared.view_call.ViewCall.{ViewCall}
use Rattle.cap_outside.specs.declared.view_call.ViewCall.TheVariants.{Find, ReadAt}
use Rattle.live_follower.specs.declared.fault.FollowFault.{FollowFault}
use Rattle.live_follower.specs.declared.fault.FollowFault.TheVariants as fault

-- Reads that took a file from one place to another: each gave bytes, and the next reads at the place behind all of them.
abbrev pub ReadsInTurn : List ℕ → ℕ → ℕ → List ViewCall → Type 0
ReadsInTurn name at to [] = to ≡ at
ReadsInTurn name at to (ReadAt read place gave ∷ more) = (read ≡ name) × (place ≡ at) × (count : ℕ) × (gave ≡ Some count) × (0 < count) × ReadsInTurn name (at + count) to more
ReadsInTurn name at to (Find found ∷ more) = ⊥

-- What the last read of a call gave, and its answer: the read gave nothing, failed, or gave bytes for which there was no
-- memory.
abbrev pub ReadsInVain : {T : Type 0} → Option ℕ → Result T FollowFault → Type 0
ReadsInVain gave (Ok x) = ⊥
ReadsInVain gave (Err fault.NoFile) = ⊥
ReadsInVain gave (Err (fault.Gone name)) = ⊥
ReadsInVain gave (Err (fault.Behind at)) = gave ≡ Some 0
ReadsInVain gave (Err (fault.Bad at)) = ⊥
ReadsInVain gave (Err fault.ViewFault) = gave ≡ None
ReadsInVain gave (Err fault.NoMemory) = (count : ℕ) × (gave ≡ Some count) × (0 < count)

-- The file was read on from one place to another, each place once. One read more, at the last place, may have given
-- nothing that was kept.
pub record ReadsOnce {T : Type 0} (name : List ℕ) (at to : ℕ) (result : Result T FollowFault) (calls : List ViewCall) : Type 0 where
  pub reads : List ViewCall
  pub last : List ViewCall
  pub are : calls ≡ reads ++ last
  pub turns : ReadsInTurn name at to reads
  pub vain : (last ≡ []) ⊎ ((gave : Option ℕ) × (last ≡ ReadAt name to gave ∷ []) × ReadsInVain gave result)

-- The view was asked nothing and nothing was read, or it was asked once for the file, which was then read on.
abbrev pub LooksOnce : {T : Type 0} → List ℕ → ℕ → ℕ → Result T FollowFault → List ViewCall → Type 0
LooksOnce name at to result calls = ((calls ≡ []) × (to ≡ at)) ⊎ ((reads : List ViewCall) × (calls ≡ Find name ∷ reads) × ReadsOnce name at to result reads)

-- the calls that a view had, which are such calls
pub record Asks {W : Type 0} (asked : W → List ViewCall → Type 0) (old new : W) (are : List ViewCall → Type 0) : Type 0 where
  pub calls : List ViewCall
  pub made : Leads asked old new calls
  pub such : are calls
