use Rattle.std.proofs.Common.{◌≡◌, length}
use Rattle.source_thread.specs.inner.Readers.{fed_count, kept_of, name_of}
use Rattle.source_thread.specs.inner.Sending.{IsSender, AllNumbered, IsGiven, Keeps, Passed}
use Rattle.source_thread.proofs.entering.enter_kept.Given as goal

abbrev pub invariant-events : goal.invariant-events
invariant-events g l = record {
  sender : IsSender l.cell l.sender;
  numbered : AllNumbered l.sender;
  given : IsGiven l.reader l.sender;
  keeps : Keeps l.fn.sender l.sender;
  passed : Passed l.fn.reader l.reader l.fn.sender l.sender;
  name : name_of l.reader ≡ name_of l.fn.reader;
  snap : l.reader.snap ≡ l.fn.reader.snap;
  fed : fed_count l.reader ≡ fed_count l.fn.reader;
}

abbrev pub decreases-events : goal.decreases-events
decreases-events g l = length (kept_of l.reader)
