use Rattle.std.proofs.Common.{List, sym, subst, rules}
use Rattle.source_thread.specs.Sources.{facts_of}
use Rattle.capture_threads.specs.declared.place.Place.{Place}
use Rattle.capture_threads.specs.inner.Places.{AreReady}
use Rattle.capture_threads.proofs.Capturing.{are_ready, places_run}
use Rattle.capture_threads.proofs.capture.read_places.Goals as goal

pub read_each-requires-after_bounds : goal.read_each-requires-after_bounds
read_each-requires-after_bounds g c κs within = subst (λ (z : List (Place g.row.S.Denot)). AreReady c.args.cell.now z) (sym c.deref_mut.ensures.value) (are_ready c.args.cell.now 0 c.requires.placed.0 c.args.places.now.items c.requires.placed.1)

pub returns : goal.returns
returns g c = record {
  run = λ befores placed. places_run (facts_of g.S.Source.taken g.S.Source.left g.S.Source.ends g.S.Source.faults) c.args.snap c.args.cell.now befores c.args.places.now.items c.deref_mut.result.now c.read_each.new.places c.args.places.now.len (search rules) c.deref_mut.ensures.value placed c.read_each.ensures;
}
