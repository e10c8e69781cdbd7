use Rattle.std.proofs.Common.{refl, sym, ◌∙◌, subst}
use Rattle.cap_base.specs.declared.endings.How.{How}
use Rattle.packet_queue.specs.Ends.{port_source, port_pass, mine}
use Rattle.source_thread.specs.Sources.{facts_of, SourceTold}
use Rattle.source_thread.proofs.Causes.{ended, same_mine, not_both}
use Rattle.source_thread.proofs.source.read_paced.Goals as goal

pub returns-clause-ran : goal.returns-clause-ran
returns-clause-ran g c =
    let e = c.read_opened-how.ensures in
    let f = facts_of g.S.Source.taken g.S.Source.left g.S.Source.ends g.S.Source.faults in
    let h : How = c.read_opened-how.result.0 in
    let port = c.read_opened-how.result.1 in
    let pass = c.end-pass.result.0 in
    let n = port_source c.args.port in
    record {
      name = refl;
      ran = subst (λ (z : How). SourceTold n c.args.opened.name c.args.snap z (f c.args.opened.source) (f c.read_opened-how.new.source) (mine pass)) (sym c.ending_of-how.ensures)
          (ended n (port_source port) e.number c.args.opened.name c.args.snap h (f c.args.opened.source) (f c.read_opened-how.new.source) (mine (port_pass port)) (mine pass) c.end-pass.result.1
          c.end-pass.ensures.added
          (λ w. same_mine (port_pass port) pass (c.end-pass.ensures.worn w) (c.end-pass.ensures.only.0 ∙ sym e.port.only.0))
          (λ made worn. not_both (e.worn worn) (c.end-pass.ensures.not_worn made).0)
          e.entered);
    }
