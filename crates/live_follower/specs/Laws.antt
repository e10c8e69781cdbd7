-- What holds of followers.
use Rattle.std.specs.Prelude.{ℕ, ◌≡◌, ◌≤◌, ◌⊎◌, List, ◌∷◌, ◌++◌, length, take, Option, Some, IsSome, Result, Ok, Err}
use Rattle.cap_base.specs.declared.packet.Packet.{Packet}
use Rattle.sync_pipe.specs.declared.said.Said.{Said}
use Rattle.pcapng_pipe.specs.Pipe.{fed_count}
use Rattle.live_follower.specs.declared.progress.Progress.{Progress}
use Rattle.live_follower.specs.declared.progress.Progress.TheVariants as progress
use Rattle.live_follower.specs.declared.fault.FollowFault.{FollowFault}
use Rattle.live_follower.specs.declared.fault.FollowFault.TheVariants as fault
use Rattle.live_follower.specs.Packets.{packets, ending}
use Rattle.live_follower.specs.Messages.{announced, counted, last_file}
use Rattle.live_follower.specs.Seen.{Seen, Rises}
use Rattle.live_follower.specs.Following.{Following, StandsFor, ReadsOn, Answers, Wants, packets_given}
use Rattle.live_follower.specs.Faults.{IsBadAt}

-- the packets given are the first ones of those of the bytes read, and no more than announced
pub record AreFirst (f : Following) (messages : List Said) (bytes : List ℕ) (given : List Packet) : Type 0 where
  pub rest : List Packet
  pub first : packets bytes ≡ given ++ rest
  pub count : length bytes ≡ fed_count f.pipe
  pub few : length given ≤ announced messages

abbrev pub GivenAreFirst : Type 0
GivenAreFirst = (f : Following) (messages : List Said) (bytes : List ℕ) (given : List Packet) → StandsFor f messages bytes given → AreFirst f messages bytes given

-- The view shows the file on from the bytes that were read, and all packets in it that were announced.
pub record ShowsAnnounced (messages : List Said) (bytes : List ℕ) (shown : List ℕ) : Type 0 where
  pub file : IsSome (last_file messages)
  pub later : List ℕ
  pub grows : shown ≡ bytes ++ later
  pub enough : counted messages ≤ length (packets shown)

-- a packet, all announced ones were given, as much was read as may be, or memory is wanting
abbrev pub IsCalm : Result Progress FollowFault → Type 0
IsCalm (Ok progress) = Unit {0}
IsCalm (Err fault.NoMemory) = Unit {0}
IsCalm (Err other) = ⊥

-- An answer over such a view is one of these, where no call of the view failed.
abbrev pub HonestViewsSuffice : Type 0
HonestViewsSuffice = (budget : ℕ) (s : Seen) (old new : Following) (result : Result Progress FollowFault) (messages : List Said) (bytes : List ℕ) (given : List Packet) (shown : List ℕ)
    → StandsFor old messages bytes given → ReadsOn s.shown old new (packets_given result) → Answers budget s old new result
    → s.shown ≡ Some (Some shown) → ShowsAnnounced messages bytes shown → (Rises s.faults → ⊥) → IsCalm result

-- What was read stays a front of what is shown, so that the next call meets such a view again while the file grows.
abbrev pub ReadingStaysShown : Type 0
ReadingStaysShown = (told : Option (Option (List ℕ))) (old new : Following) (messages : List Said) (bytes : List ℕ) (given packets_now : List Packet) (shown later : List ℕ)
    → StandsFor old messages bytes given → told ≡ Some (Some shown) → shown ≡ bytes ++ later → (r : ReadsOn told old new packets_now) → (rest : List ℕ) × (shown ≡ (bytes ++ r.more) ++ rest)

-- Where all announced packets were given, they are the first ones of the file, as far as any view shows it on.
abbrev pub ReachedIsFirst : Type 0
ReachedIsFirst = (f : Following) (messages : List Said) (bytes : List ℕ) (given : List Packet) (shown later : List ℕ)
    → StandsFor f messages bytes given → f.given ≡ f.announced → shown ≡ bytes ++ later → given ≡ take (announced messages) (packets shown)

-- ---- what an answer must be

-- Where the bytes read hold a further packet of those announced, the answer is this packet.
abbrev pub PacketIsGiven : Type 0
PacketIsGiven = (budget : ℕ) (s : Seen) (old new : Following) (result : Result Progress FollowFault) (messages : List Said) (bytes : List ℕ) (given : List Packet) (p : Packet) (rest : List Packet)
    → StandsFor old messages bytes given → ReadsOn s.shown old new (packets_given result) → Answers budget s old new result
    → Wants old → packets bytes ≡ given ++ p ∷ rest → (result ≡ Ok (progress.Packet p)) ⊎ (result ≡ Err fault.NoMemory)

-- Where all packets of the bytes read were given, fewer than announced, and the bytes end with a defect, the answer is this
-- defect, each time.
abbrev pub DefectIsAnswered : Type 0
DefectIsAnswered = (budget : ℕ) (s : Seen) (old new : Following) (result : Result Progress FollowFault) (messages : List Said) (bytes : List ℕ) (given : List Packet) (at : ℕ)
    → StandsFor old messages bytes given → ReadsOn s.shown old new (packets_given result) → Answers budget s old new result
    → Wants old → packets bytes ≡ given → IsBadAt at (ending bytes) → (result ≡ Err (fault.Bad at)) ⊎ (result ≡ Err fault.NoMemory)
