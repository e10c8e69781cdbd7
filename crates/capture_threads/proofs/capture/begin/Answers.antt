use Rattle.std.proofs.Common.{◌≡◌, ◌+◌, ◌∙◌, ap, subst, sym, rules, arith, length, vec_len, List}
use Rattle.capture_threads.specs.declared.place.Place.{Place}
use Rattle.capture_threads.specs.Places.{ArePlaced}
use Rattle.capture_threads.proofs.Placing.{are_placed}
use Rattle.capture_threads.proofs.capture.begin.Goals as goal

pub returns-clause-begun : goal.returns-clause-begun
returns-clause-begun g c =
    let p = c.in-Ok.ensures in
    let b = c.in-Ok.prepared in
    let whole : vec_len c.args.opened ≡ length c.args.opened.items = search rules in
    let count = c.len.ensures ∙ whole in
    record {
      limits = p.limits;
      sources = p.sources ∙ count;
      counts = (p.counts.0 ∙ ap (λ n. n + 1) count, p.counts.1);
      placed = subst (λ (z : List (Place g.row.S.Denot)). ArePlaced b.cell 0 c.args.opened.items z) (sym c.place_sources-places.ensures) (are_placed b.cell 0 b.ports.items c.args.opened.items p.ports (p.as_many ∙ count) c.requires.names);
      drain = p.drain;
      fresh = p.fresh;
      none_ended = p.none_ended;
      room = omega (arith, p.room_ended, count);
    }
