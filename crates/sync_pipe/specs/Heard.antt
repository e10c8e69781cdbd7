-- The messages of a text, and its first defect.
use Rattle.std.specs.Prelude.{ℕ, zero, suc, ◌+◌, nat_lt, if◌then◌else◌, Option, Some, None, List, [], ◌∷◌, length, take, drop, slice_index}
use Rattle.cap_base.specs.Feeding as feeding
use Rattle.cap_base.specs.Feeding.{with_front}
use Rattle.sync_pipe.specs.declared.said.Said.{Said}
use Rattle.sync_pipe.specs.declared.frame.Frame.{Frame}
use Rattle.sync_pipe.specs.declared.frame.Frame.TheVariants.{Cut, TooLong, Known, Unknown}
use Rattle.sync_pipe.specs.Format.{most_body}
use Rattle.sync_pipe.specs.Bodies.{body_length, is_known, said_of}

-- what stands at a message's place: the length is looked at as soon as it is there
unfoldable pub frame : List ℕ → Frame
frame text =
    if nat_lt (length text) 4 then Cut else
    if nat_lt most_body (body_length text) then TooLong else
    if nat_lt (length text) (4 + body_length text) then Cut else
    if is_known (slice_index text 0) then Known (body_length text) else Unknown (body_length text)

-- messages, and the place of a defect
abbrev pub Hearing : Type 0
Hearing = feeding.Reading Said (Option ℕ)

-- a message of a known type at a place, or a defect there
abbrev pub said_then : Option Said → ℕ → Hearing → Hearing
said_then None at behind = ([], Some at)
said_then (Some said) at behind = with_front (said ∷ []) behind

-- what is decided at a place; a message of another type is passed over
abbrev pub decided : Frame → ℕ → List ℕ → (ℕ → Hearing) → Hearing
decided Cut at text behind = ([], None)
decided TooLong at text behind = ([], Some at)
decided (Known n) at text behind = said_then (said_of (slice_index text 0) (take n (drop 4 text))) at (behind (4 + n))
decided (Unknown n) at text behind = behind (4 + n)

-- what is heard of the first n messages of a text that stands at a place, those of other types counted too
unfoldable pub heard_from : ℕ → ℕ → List ℕ → Hearing
heard_from zero at text = ([], None)
heard_from (suc n) at text = decided (frame text) at text (λ len. heard_from n (at + len) (drop len text))

-- what is heard of all messages of a text that stands at a place: each takes a byte at least
unfoldable pub heard_at : ℕ → List ℕ → Hearing
heard_at at text = heard_from (suc (length text)) at text

-- what is heard of a whole text
abbrev pub heard : List ℕ → Hearing
heard text = heard_at 0 text
