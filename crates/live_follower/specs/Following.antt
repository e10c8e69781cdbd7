-- What a follower heard, read and gave, and what it answers.
use Rattle.std.specs.Prelude.{ℕ, ◌≡◌, ◌≤◌, ◌<◌, List, [], ◌∷◌, ◌++◌, length, take, drop, Option, None, IfSome, IsSome, Result, Ok, Err}
use Rattle.std.specs.Option.{unwrap_or}
use Rattle.cap_base.specs.Endings.{IsOpen}
use Rattle.cap_base.specs.declared.packet.Packet.{Packet}
use Rattle.cap_outside.specs.Shown.{bytes_shown}
use Rattle.sync_pipe.specs.declared.said.Said.{Said}
use Rattle.pcapng_pipe.specs.Pipe.{Pipe, fed_count}
use Rattle.live_follower.specs.declared.progress.Progress.{Progress}
use Rattle.live_follower.specs.declared.progress.Progress.TheVariants as progress
use Rattle.live_follower.specs.declared.fault.FollowFault.{FollowFault}
use Rattle.live_follower.specs.declared.fault.FollowFault.TheVariants as fault
use Rattle.live_follower.specs.Packets.{Holds, AllGiven}
use Rattle.live_follower.specs.Messages.{announced, last_file, kept_after}
use Rattle.live_follower.specs.Seen.{Seen, Quiet}
use Rattle.live_follower.specs.Faults.{IsBadAt, reading_end, FaultCause}

pub record Following : Type 0 where
  -- the name of the current file, where one was heard
  pub file : Option (List ℕ)
  -- how many packets of it were announced
  pub announced : ℕ
  -- how many were given
  pub given : ℕ
  -- the pipe that reads it
  pub pipe : Pipe

abbrev pub name_of : Following → List ℕ
name_of f = unwrap_or f.file []

-- The follower heard these messages, read these bytes of the file that they name last, and gave these packets of it.
pub record StandsFor (f : Following) (messages : List Said) (bytes : List ℕ) (given : List Packet) : Type 0 where
  pub file : f.file ≡ last_file messages
  pub announced : f.announced ≡ announced messages
  pub count : f.given ≡ length given
  pub within : f.given ≤ f.announced
  pub holds : Holds f.pipe bytes given

-- a message was heard
abbrev pub Hears : Said → Following → Following → Type 0
Hears said old new = (messages : List Said) (bytes : List ℕ) (given : List Packet) → StandsFor old messages bytes given
    → StandsFor new (messages ++ said ∷ []) (kept_after bytes said) (kept_after given said)

-- The next bytes of the file were read, those that are shown behind the bytes read before, and these packets given.
pub record ReadsOn (shown : Option (Option (List ℕ))) (old new : Following) (packets : List Packet) : Type 0 where
  pub more : List ℕ
  pub as_shown : IfSome shown (λ file. more ≡ take (length more) (drop (fed_count old.pipe) (bytes_shown file)))
  pub stands : (messages : List Said) (bytes : List ℕ) (given : List Packet) → StandsFor old messages bytes given
      → StandsFor new messages (bytes ++ more) (given ++ packets)

abbrev pub packets_given : Result Progress FollowFault → List Packet
packets_given (Ok (progress.Packet p)) = p ∷ []
packets_given other = []

-- a file was heard, and fewer packets of it were given than announced
pub record Wants (f : Following) : Type 0 where
  pub file : IsSome f.file
  pub fewer : f.given < f.announced

-- Why a follower answers what it answers. It may read so many bytes in the call.
abbrev pub Answers : ℕ → Seen → Following → Following → Result Progress FollowFault → Type 0
Answers budget s old new (Ok (progress.Packet p)) = Wants old × Quiet s × (fed_count new.pipe ≤ reading_end budget old.pipe)
Answers budget s old new (Ok progress.Reached) = (old.given ≡ old.announced) × (new ≡ old)
Answers budget s old new (Ok progress.More) = Wants old × Quiet s × (fed_count new.pipe ≡ reading_end budget old.pipe) × AllGiven new.pipe IsOpen
Answers budget s old new (Err fault.NoFile) = (old.file ≡ None) × (old.given < old.announced) × (new ≡ old)
Answers budget s old new (Err (fault.Bad at)) = Wants old × Quiet s × (fed_count new.pipe ≤ reading_end budget old.pipe) × AllGiven new.pipe (IsBadAt at)
Answers budget s old new (Err other) = Wants old × (fed_count new.pipe ≤ reading_end budget old.pipe) × FaultCause (reading_end budget old.pipe) s new.pipe other
