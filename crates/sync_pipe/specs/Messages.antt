-- Messages as a relation on the whole text: whole messages without a defect, one after another, and a rest that begins
-- with no such message.
use Rattle.std.specs.Prelude.{◌≡◌, ℕ, ◌+◌, ◌≤◌, ◌<◌, true, Bool, Option, Some, None, List, [], ◌∷◌, ◌++◌, length, drop, slice_index, if◌then◌else◌}
use Rattle.std.specs.List.{flat_map, All}
use Rattle.std.specs.Option.{IsSome}
use Rattle.sync_pipe.specs.declared.said.Said.{Said}
use Rattle.sync_pipe.specs.Format.{most_body}
use Rattle.sync_pipe.specs.Bodies.{body_length, is_known, said_of}

-- a whole message of any type: a type byte, the length of the body, and the body
pub record IsMessage (text : List ℕ) : Type 0 where
  pub head : 4 ≤ length text
  pub small : body_length text ≤ most_body
  pub whole : length text ≡ 4 + body_length text

-- its type is one of the four
abbrev pub is_of_known_type : List ℕ → Bool
is_of_known_type message = is_known (slice_index message 0)

-- what the body of a message of a known type says
abbrev pub said_by : List ℕ → Option Said
said_by message = said_of (slice_index message 0) (drop 4 message)

-- a whole message without a defect: where its type is known, its body says something
pub record IsSound (message : List ℕ) : Type 0 where
  pub whole : IsMessage message
  pub says : is_of_known_type message ≡ true → IsSome (said_by message)

abbrev pub as_list : Option Said → List Said
as_list None = []
as_list (Some said) = said ∷ []

-- what a message says; one of another type says nothing
abbrev pub says : List ℕ → List Said
says message = if is_of_known_type message then as_list (said_by message) else []

-- begins with no whole message without a defect
abbrev pub BeginsWithNone : List ℕ → Type 0
BeginsWithNone text = (first more : List ℕ) → text ≡ first ++ more → IsSound first → ⊥

-- messages one after another
abbrev pub joined : List (List ℕ) → List ℕ
joined messages = flat_map (λ message. message) messages

-- the text is these messages, none with a defect, and this rest
pub record Splits (text : List ℕ) (messages : List (List ℕ)) (rest : List ℕ) : Type 0 where
  pub whole : text ≡ joined messages ++ rest
  pub sound : All IsSound messages
  pub partial : BeginsWithNone rest

-- less than a whole message, and no length that is too large
abbrev pub IsCut : List ℕ → Type 0
IsCut text = 4 ≤ length text → (body_length text ≤ most_body) × (length text < 4 + body_length text)

-- What a rest that stands at a place decides: it has a defect where it begins with a length that is too large or with a
-- whole message, whose body then has one; and none where it is cut.
pub record DefectBy (place : ℕ) (rest : List ℕ) (defect : Option ℕ) : Type 0 where
  pub cut : IsCut rest → defect ≡ None
  pub too_long : 4 ≤ length rest → most_body < body_length rest → defect ≡ Some place
  pub body : (first more : List ℕ) → rest ≡ first ++ more → IsMessage first → defect ≡ Some place
