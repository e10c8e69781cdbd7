use Rattle.std.proofs.Common.{◌≡◌, ap, ◌∙◌, rules}
use Rattle.turn_cell.specs.Passes.{start}
use Rattle.packet_queue.specs.Queue.{limits_of, sources_of}
use Rattle.capture_threads.proofs.Capturing.{fresh_drain}
use Rattle.capture_threads.proofs.capture.prepare.Goals as goal

pub returns : goal.returns
returns g c =
    let sources : sources_of (start c.in_ok-cell.cell) ≡ c.args.sources = ap sources_of c.in_ok-cell.ensures.start ∙ c.in_ok-queue.ensures.sources in
    let made = c.in_ok-ports.ensures in
    let drain = fresh_drain c.in_ok-cell.cell c.in_ok-ports.rest c.new-3.result c.args.sources sources made.pass made.numbers made.fresh c.new-3.ensures.drain c.new-3.ensures.pass in
    record {
      limits = ap limits_of c.in_ok-cell.ensures.start ∙ c.in_ok-queue.ensures.limits;
      sources = sources;
      counts = search rules;
      ports = made.ports.0;
      as_many = made.ports.1;
      drain = drain.0;
      fresh = drain.1;
      none_placed = c.in_ok-places.ensures.items;
      room = search rules;
      none_ended = c.in_ok-ended.ensures.items;
      room_ended = search rules;
    }
