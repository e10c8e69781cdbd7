use Rattle.std.proofs.Common.{◌≡◌, ◌+◌, ◌^◌, length, []}
use Rattle.source_thread.specs.inner.Readers.{fed_count, name_of, IsDrained, IsWaiting}
use Rattle.source_thread.specs.Sources.{whole_of}
use Rattle.source_thread.specs.inner.Sending.{IsSender, AllNumbered, Reads, number_of, waiting}
use Rattle.source_thread.proofs.reading.read_pieces.Given as goal

abbrev pub invariant-pieces : goal.invariant-pieces
invariant-pieces g l = record {
  sender : IsSender l.cell l.sender;
  numbered : AllNumbered l.sender;
  empty : waiting l.sender ≡ [];
  number : number_of l.sender ≡ number_of l.fn.sender;
  reads : Reads (g.S.Source.taken l.fn.source) (g.S.Source.taken l.source) l.reader l.sender;
  waits : IsWaiting l.reader;
  drained : IsDrained l.reader;
  name : name_of l.reader ≡ name_of l.fn.reader;
  snap : l.reader.snap ≡ l.fn.reader.snap;
  fed : fed_count l.reader + l.room ≡ 2 ^ 62;
  piece : length l.piece ≡ 65536;
  content : whole_of (g.S.Source.taken l.source) (g.S.Source.left l.source) ≡ whole_of (g.S.Source.taken l.fn.source) (g.S.Source.left l.fn.source);
  ends : g.S.Source.ends l.source ≡ g.S.Source.ends l.fn.source;
  faults : g.S.Source.faults l.source ≡ g.S.Source.faults l.fn.source;
}

abbrev pub decreases-pieces : goal.decreases-pieces
decreases-pieces g l = l.room
