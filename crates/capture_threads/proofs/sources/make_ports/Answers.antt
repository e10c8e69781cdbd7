use Rattle.std.proofs.Common.{◌∷◌, [], length, ap, ◌∙◌, arith, rules, length-append}
use Rattle.cap_base.specs.Callers.{own}
use Rattle.capture_threads.proofs.Placing.{none_fresh, one_more_fresh}
use Rattle.capture_threads.proofs.sources.make_ports.Goals as goal

pub ports-init : goal.ports-init
ports-init c = record {
  pass = c.requires.pass;
  numbers = c.requires.numbers;
  fresh = λ n has. ap (own n) c.requires.fresh;
  made = none_fresh c.args.cell.now c.in_ok-ports.ports.items c.in_ok-ports.ensures.items;
  count = ap length c.in_ok-ports.ensures.items;
  within = search rules;
  room = search rules;
}

pub ports-preserved : goal.ports-preserved
ports-preserved c =
    let i = c.ports.invariant in
    let e = c.in_ok-port.ensures in
    record {
      pass = e.pass;
      numbers = (e.numbers.0, e.numbers.1 ∙ i.numbers.1);
      fresh = e.fresh;
      made = one_more_fresh c.args.cell.now c.ports.ports.items c.push_reserved.new.self.items c.ports.number c.in_ok-port.port i.count i.made e.port c.push_reserved.ensures.items;
      count = omega (arith, i.count, ap length c.push_reserved.ensures.items, length-append c.ports.ports.items (c.in_ok-port.port ∷ []));
      within = search rules;
      room = search rules;
    }
