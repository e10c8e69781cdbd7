-- The calls of the queue: the entry that each adds, when it may be made, and what its reply says beyond its entry.
use Rattle.std.specs.Prelude.{◌≡◌, ℕ, ◌≤◌, List, [], ◌∷◌, length, Some}
use Rattle.std.specs.List.{All}
use Rattle.cap_base.specs.declared.limits.TheConstants.{MAX_BATCH_PACKETS}
use Rattle.cap_base.specs.declared.packet.Packet.{Packet}
use Rattle.cap_base.specs.declared.entries.Verdict.{Verdict}
use Rattle.cap_base.specs.declared.entries.Entry.{Entry}
use Rattle.cap_base.specs.declared.entries.Entry.TheVariants as E
use Rattle.cap_base.specs.Histories.{History, standing, body_sum}
use Rattle.cap_base.specs.Carried.{IsFitInterface, IsFitPacket}
use Rattle.cap_base.specs.Legal.{MaySource, MayStop}
use Rattle.packet_queue.specs.declared.batch.Standing.{Standing}
use Rattle.packet_queue.specs.declared.calls.Call.{Call}
use Rattle.packet_queue.specs.declared.calls.Call.TheVariants as C
use Rattle.packet_queue.specs.declared.calls.Reply.{Reply}
use Rattle.packet_queue.specs.declared.calls.Reply.TheVariants as R
use Rattle.packet_queue.specs.declared.queue.Queue.{Queue}
use Rattle.packet_queue.specs.Batches.{Contents, NotOffered, back_of, not_accepted}
use Rattle.packet_queue.specs.Queue.{sources_of}

-- the entries of offers of these packets with these verdicts
abbrev pub offers : ℕ → List Packet → List Verdict → List Entry
offers s (p ∷ ps) (v ∷ vs) = E.Offer s p v ∷ offers s ps vs
offers s ps vs = []

-- the entries of a call and its reply
abbrev pub entries_of : Call → Reply → List Entry
entries_of (C.Join s i) (R.Joined n) = E.Join s i n ∷ []
entries_of (C.Offer s p) (R.Offered v back) = E.Offer s p v ∷ []
entries_of (C.Offers s b) (R.OfferedAll c) = offers s b.packets c.verdicts
entries_of (C.End s how) R.Ended = E.End s how ∷ []
entries_of (C.Take now) (R.Took t) = E.Take now t ∷ []
entries_of (C.Tally now room) (R.Told cs) = E.Tally now cs ∷ []
entries_of (C.Stop why lost) R.Stopped = E.Stop why lost ∷ []
entries_of call other = []

-- a batch that may be offered
pub record MayOffer (b : Contents) : Type 0 where
  pub number : (1 ≤ length b.packets) × (length b.packets ≤ MAX_BATCH_PACKETS)
  pub fresh : NotOffered b

-- a caller with these entries so far may make the call
abbrev pub Admits : Queue → ℕ → List Entry → Call → Type 0
Admits q by mine (C.Join s i) = MaySource (sources_of q) by s × IsFitInterface i
Admits q by mine (C.Offer s p) = MaySource (sources_of q) by s × IsFitPacket p
Admits q by mine (C.Offers s b) = MaySource (sources_of q) by s × All IsFitPacket b.packets × MayOffer b
Admits q by mine (C.End s how) = MaySource (sources_of q) by s
Admits q by mine (C.Take now) = by ≡ sources_of q
Admits q by mine (C.Tally now room) = by ≡ sources_of q
Admits q by mine (C.Stop why lost) = (by ≡ sources_of q) × MayStop mine why lost

-- what stands in a queue after a history
abbrev pub standing_after : History → Standing
standing_after h = record { packets = length (standing h); bytes = body_sum (standing h) }

-- the batch c is the batch b offered, in the last entries of the history
pub record IsOffered (h : History) (b c : Contents) : Type 0 where
  pub each : length c.verdicts ≡ length b.packets
  pub refused : c.packets ≡ not_accepted b.packets c.verdicts
  pub stands : c.standing ≡ Some (standing_after h)

-- what a reply says beyond its entries, with the history that ends with them
abbrev pub IsReplyTo : History → Call → Reply → Type 0
IsReplyTo h (C.Offer s p) (R.Offered v back) = back ≡ back_of v p
IsReplyTo h (C.Offers s b) (R.OfferedAll c) = IsOffered h b c
IsReplyTo h call other = Unit {0}
