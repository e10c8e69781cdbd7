use Rattle.std.proofs.Common.{sym, ◌∙◌}
use Rattle.source_thread.specs.Sources.{facts_of}
use Rattle.capture_threads.proofs.Gathering.{must_be_over, can_gather_rest, passes_of, first_gathered, none_gathered, none_there}
use Rattle.capture_threads.proofs.sources.+gather.Goals as goal

pub returns-in_default-clause-gathered : goal.returns-in_default-clause-gathered
returns-in_default-clause-gathered g t c = none_gathered (facts_of g.S.Source.taken g.S.Source.left g.S.Source.ends g.S.Source.faults) c.args.snap c.args.cell.now c.args.places.now c.args.ended.now.items c.args.last (none_there c.args.places.now c.in_default.ensures.cases) c.requires.places.0

pub unreachable-requires : goal.unreachable-requires
unreachable-requires g t c = must_be_over (facts_of g.S.Source.taken g.S.Source.left g.S.Source.ends g.S.Source.faults) c.args.snap c.args.cell.now c.args.places.now c.in-Some.rest.now c.in-Some.first.now c.args.last c.in-Some.ensures.cases.0 c.requires.places (λ after pass e. c.in_default-replace.not-Over after pass (c.replace.ensures.value ∙ e))

pub gather-others-requires-clause-places : goal.gather-others-requires-clause-places
gather-others-requires-clause-places g t c = λ _ _. can_gather_rest (facts_of g.S.Source.taken g.S.Source.left g.S.Source.ends g.S.Source.faults) c.args.snap c.args.cell.now c.args.places.now c.in-Some.rest.now c.in-Some.first.now c.args.last c.in-Some.ensures.cases.0 c.requires.places

pub join-requires-clause-passes : goal.join-requires-clause-passes
join-requires-clause-passes g t c = λ _. (passes_of (facts_of g.S.Source.taken g.S.Source.left g.S.Source.ends g.S.Source.faults) c.args.snap c.args.cell.now c.args.places.now c.in-Some.rest.now c.in-Some.first.now c.args.last c.in-Some.ensures.cases.0 c.in-Over.source c.in-Over.pass (sym c.replace.ensures.value ∙ c.in-Over.is) c.push_reserved.new.self.items c.gather-others.new.ended.items c.gather-others.result c.requires.places c.gather-others.ensures.gathered).0

pub join-requires-clause-adjoin : goal.join-requires-clause-adjoin
join-requires-clause-adjoin g t c = λ _. (passes_of (facts_of g.S.Source.taken g.S.Source.left g.S.Source.ends g.S.Source.faults) c.args.snap c.args.cell.now c.args.places.now c.in-Some.rest.now c.in-Some.first.now c.args.last c.in-Some.ensures.cases.0 c.in-Over.source c.in-Over.pass (sym c.replace.ensures.value ∙ c.in-Over.is) c.push_reserved.new.self.items c.gather-others.new.ended.items c.gather-others.result c.requires.places c.gather-others.ensures.gathered).1

pub returns-clause-gathered : goal.returns-clause-gathered
returns-clause-gathered g t c = first_gathered (facts_of g.S.Source.taken g.S.Source.left g.S.Source.ends g.S.Source.faults) c.args.snap c.args.cell.now c.args.places.now c.in-Some.rest.now c.in-Some.first.now c.args.last c.in-Some.ensures.cases.0 c.in-Over.source c.in-Over.pass (sym c.replace.ensures.value ∙ c.in-Over.is) c.args.ended.now.items c.push_reserved.new.self.items c.gather-others.new.ended.items c.gather-others.result c.join.result c.push_reserved.ensures.items c.gather-others.ensures.gathered c.join.ensures
