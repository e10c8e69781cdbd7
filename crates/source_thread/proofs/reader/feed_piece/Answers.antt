use Rattle.std.proofs.Common.{ℕ, List, length, take, ap, ◌∙◌, subst}
use Rattle.std.proofs.Math.Seq.{take-length}
use Rattle.source_thread.specs.inner.Readers.{Feeds}
use Rattle.source_thread.proofs.Readers.{room_is}
use Rattle.source_thread.proofs.reader.feed_piece.Goals as goal

pub returns-clause-fed : goal.returns-clause-fed
returns-clause-fed c =
    let count = c.in_ok-feed.ensures.count ∙ room_is c.args.reader.now (length c.args.bytes.now) c.requires.short c.requires.waits in
    subst (λ (b : List ℕ). Feeds c.args.reader.now c.feed.new.self b) (ap (λ (n : ℕ). take n c.args.bytes.now) count ∙ take-length c.args.bytes.now) c.in_ok-feed.ensures.fed
