-- What stands behind a fault of a follower.
use Rattle.std.specs.Prelude.{ℕ, ◌≡◌, ◌<◌, ◌+◌, ◌^◌, min, [], drop, None, IfSome, Result, Err}
use Rattle.cap_base.specs.Endings.{IsOpen}
use Rattle.cap_base.specs.declared.endings.How.{How}
use Rattle.cap_base.specs.declared.endings.How.TheVariants as how
use Rattle.cap_outside.specs.Shown.{bytes_shown}
use Rattle.pcapng_pipe.specs.Pipe.{Pipe, fed_count}
use Rattle.live_follower.specs.declared.fault.FollowFault.{FollowFault}
use Rattle.live_follower.specs.declared.fault.FollowFault.TheVariants as fault
use Rattle.live_follower.specs.Packets.{AllGiven}
use Rattle.live_follower.specs.Seen.{Seen, Rises, Stays}

-- a defect in what begins at this place
abbrev pub IsBadAt : ℕ → How → Type 0
IsBadAt at (how.Bad code place) = place ≡ at
IsBadAt at other = ⊥

-- up to where a call reads that may read so many bytes
abbrev pub reading_end : ℕ → Pipe → ℕ
reading_end budget old = min (fed_count old + budget) (2 ^ 62)

-- All packets of the bytes read were given, and the call could read on.
pub record CouldReadOn (most : ℕ) (new : Pipe) : Type 0 where
  pub all : AllGiven new IsOpen
  pub less : fed_count new < most

-- the cause of a fault of a call that reads up to a place
abbrev pub FaultCause : ℕ → Seen → Pipe → FollowFault → Type 0
FaultCause most s new fault.NoFile = ⊥
FaultCause most s new (fault.Gone name) = (name ≡ s.name) × Rises s.absent × Stays s.ends × Stays s.faults × IfSome s.shown (λ file. file ≡ None) × CouldReadOn most new
FaultCause most s new (fault.Behind at) = (at ≡ fed_count new) × Stays s.absent × Rises s.ends × Stays s.faults × IfSome s.shown (λ file. drop at (bytes_shown file) ≡ []) × CouldReadOn most new
FaultCause most s new (fault.Bad at) = ⊥
FaultCause most s new fault.ViewFault = Stays s.absent × Stays s.ends × Rises s.faults × CouldReadOn most new
FaultCause most s new fault.NoMemory = Stays s.ends × Stays s.faults

-- the file was found to show no more
abbrev pub IsBehind : {T : Type 0} → Result T FollowFault → Type 0
IsBehind (Err (fault.Behind at)) = Unit {0}
IsBehind other = ⊥
