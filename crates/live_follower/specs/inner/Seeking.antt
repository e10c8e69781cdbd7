-- What a search for the next packet of a file comes to.
use Rattle.std.specs.Prelude.{ℕ, ◌≡◌, ◌<◌, ◌+◌, List, [], ◌∷◌, ◌++◌, length, take, drop, Option, None, IfSome, Result, Ok, Err, true}
use Rattle.cap_base.specs.Endings.{IsOpen}
use Rattle.cap_base.specs.Events.{Event}
use Rattle.cap_base.specs.declared.packet.Packet.{Packet}
use Rattle.cap_outside.specs.Shown.{bytes_shown}
use Rattle.pcapng_pipe.specs.Pipe as pcapng
use Rattle.pcapng_pipe.specs.Pipe.{Pipe, is_reading, fed_count}
use Rattle.live_follower.specs.declared.found.Found.{Found}
use Rattle.live_follower.specs.declared.found.Found.TheVariants as found
use Rattle.live_follower.specs.declared.fault.FollowFault.{FollowFault}
use Rattle.live_follower.specs.declared.fault.FollowFault.TheVariants as fault
use Rattle.live_follower.specs.Packets.{packet_events, AllGiven}
use Rattle.live_follower.specs.Seen.{Seen, Rises, Stays}
use Rattle.live_follower.specs.Faults.{IsBadAt}

-- the pipe gave events, these packets among them
pub record GivesPackets (old new : Pipe) (given : List Packet) : Type 0 where
  pub events : List Event
  pub are : packet_events events ≡ given
  pub name : new.name ≡ old.name
  pub gives : pcapng.Gives old new events

-- all packets of the bytes read were given, and there is room for a piece
pub record Waits (pipe : Pipe) : Type 0 where
  pub kept : length pipe.kept < 16777216
  pub reading : is_reading pipe ≡ true
  pub all : AllGiven pipe IsOpen

-- how a pipe stands behind what was found
abbrev pub FoundIs : Pipe → Found → Type 0
FoundIs pipe (found.Packet p) = Unit {0}
FoundIs pipe found.More = Waits pipe
FoundIs pipe (found.Bad at) = AllGiven pipe (IsBadAt at)

abbrev pub found_packets : Found → List Packet
found_packets (found.Packet p) = p ∷ []
found_packets other = []

abbrev pub packets_found : Result Found FollowFault → List Packet
packets_found (Ok f) = found_packets f
packets_found (Err e) = []

-- the next bytes of the file were read, and these packets given
pub record Reads (shown : Option (Option (List ℕ))) (old new : Pipe) (given : List Packet) : Type 0 where
  pub bytes : List ℕ
  pub events : List Event
  pub are : packet_events events ≡ given
  pub name : new.name ≡ old.name
  pub count : fed_count new ≡ fed_count old + length bytes
  pub as_shown : IfSome shown (λ file. bytes ≡ take (length bytes) (drop (fed_count old) (bytes_shown file)))
  pub runs : (fed : List ℕ) (es : List Event) → pcapng.StandsFor old fed es → pcapng.StandsFor new (fed ++ bytes) (es ++ events)

-- the same before the first read
abbrev pub LookCause : Seen → FollowFault → Type 0
LookCause s fault.NoFile = ⊥
LookCause s (fault.Gone name) = (name ≡ s.name) × Rises s.absent × Stays s.ends × Stays s.faults × IfSome s.shown (λ file. file ≡ None)
LookCause s (fault.Behind at) = ⊥
LookCause s (fault.Bad at) = ⊥
LookCause s fault.ViewFault = Stays s.absent × Stays s.ends × Rises s.faults
LookCause s fault.NoMemory = Stays s.ends × Stays s.faults
