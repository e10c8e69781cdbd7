use Rattle.std.proofs.Common.{◌≡◌, ◌≤◌, ◌∙◌, ap, arith, length, refl, rules, subst, sym, List, vec_capacity}
use Rattle.cap_outside.specs.declared.opened.Opened.{Opened}
use Rattle.source_thread.specs.Sources.{facts_of}
use Rattle.source_thread.specs.declared.ended.Ended.{Ended}
use Rattle.capture_run.specs.Exits.{exit_by}
use Rattle.capture_run.proofs.Command.{gives}
use Rattle.capture_mode.specs.inner.Opened.{SomeWereOpened}
use Rattle.capture_mode.proofs.Endings.{contents_kept, exit_is, names_few, names_kept, never_begun, rose_by_lost}
use Rattle.capture_mode.proofs.Openings.{all_are_some, came_back, contents_back, none_of, opened_length, some_length}
use Rattle.capture_mode.proofs.running.run_capture.Goals as goal

pub returns-in_default-clause-captured : goal.returns-in_default-clause-captured
returns-in_default-clause-captured g c =
    let facts = facts_of g.O.Source.Source.taken g.O.Source.Source.left g.O.Source.Source.ends g.O.Source.Source.faults in
    never_begun _ c.unbegun.result.front c.unbegun.ensures.front (record {
      number = c.unbegun.ensures.exit;
      opener = came_back g.O.Opener.opened (g.O.Opener.content c.args.opener.now) facts c.args.settings.now.sources c.new.result.items c.unbegun.result.sources.items c.args.opener.now c.args.opener.now (g.O.Opener.faults c.args.opener.now) (g.O.Opener.faults c.args.opener.now) c.unbegun.ensures.sources (none_of g.O.Opener.opened (g.O.Opener.content c.args.opener.now) facts c.args.settings.now.sources c.new.result.items c.args.opener.now (g.O.Opener.faults c.args.opener.now) c.new.ensures.items);
      outlet = refl;
      clock = refl;
    })

pub unbegun-requires-in-Err-clause-room : goal.unbegun-requires-in-Err-clause-room
unbegun-requires-in-Err-clause-room g c =
    let facts = facts_of g.O.Source.Source.taken g.O.Source.Source.left g.O.Source.Source.ends g.O.Source.Source.faults in
    let room : vec_capacity c.in-Ok.room ≡ length c.args.settings.now.sources = search rules in
    omega (arith, room, some_length g.O.Opener.opened (g.O.Opener.content c.args.opener.now) facts c.args.settings.now.sources c.in-Err.opened.items c.args.opener.now c.open_sources.new.opener (g.O.Opener.faults c.args.opener.now) (g.O.Opener.faults c.open_sources.new.opener) c.in-Err.ensures.some)

pub returns-in-Err-clause-captured : goal.returns-in-Err-clause-captured
returns-in-Err-clause-captured g c =
    let facts = facts_of g.O.Source.Source.taken g.O.Source.Source.left g.O.Source.Source.ends g.O.Source.Source.faults in
    never_begun _ c.unbegun-in-Err.result.front c.unbegun-in-Err.ensures.front (record {
      number = c.unbegun-in-Err.ensures.exit;
      opener = came_back g.O.Opener.opened (g.O.Opener.content c.args.opener.now) facts c.args.settings.now.sources c.in-Err.opened.items c.unbegun-in-Err.result.sources.items c.args.opener.now c.open_sources.new.opener (g.O.Opener.faults c.args.opener.now) (g.O.Opener.faults c.open_sources.new.opener) c.unbegun-in-Err.ensures.sources c.in-Err.ensures.some;
      outlet = refl;
      clock = refl;
    })

pub returns-in-Err-clause-content : goal.returns-in-Err-clause-content
returns-in-Err-clause-content g c =
    let facts = facts_of g.O.Source.Source.taken g.O.Source.Source.left g.O.Source.Source.ends g.O.Source.Source.faults in
    let back = came_back g.O.Opener.opened (g.O.Opener.content c.args.opener.now) facts c.args.settings.now.sources c.in-Err.opened.items c.unbegun-in-Err.result.sources.items c.args.opener.now c.open_sources.new.opener (g.O.Opener.faults c.args.opener.now) (g.O.Opener.faults c.open_sources.new.opener) c.unbegun-in-Err.ensures.sources c.in-Err.ensures.some in
    contents_back g.O.Source.Source.taken g.O.Source.Source.left g.O.Source.Source.ends g.O.Source.Source.faults (g.O.Opener.content c.args.opener.now) back.front c.unbegun-in-Err.result.sources.items back.came_back

pub capture-requires-clause-sources : goal.capture-requires-clause-sources
capture-requires-clause-sources g c κs within =
    let facts = facts_of g.O.Source.Source.taken g.O.Source.Source.left g.O.Source.Source.ends g.O.Source.Source.faults in
    opened_length facts (g.O.Opener.content c.args.opener.now) c.args.settings.now.sources c.in-Ok-open_sources.opened.items c.in-Ok-open_sources.ensures.opened.are

pub capture-requires-clause-names : goal.capture-requires-clause-names
capture-requires-clause-names g c κs within =
    let facts = facts_of g.O.Source.Source.taken g.O.Source.Source.left g.O.Source.Source.ends g.O.Source.Source.faults in
    names_few facts (g.O.Opener.content c.args.opener.now) c.args.settings.now.sources c.in-Ok-open_sources.opened.items c.in-Ok-open_sources.ensures.opened.are c.requires.settings.sources

pub unbegun-requires-in-Err-capture-clause-room : goal.unbegun-requires-in-Err-capture-clause-room
unbegun-requires-in-Err-capture-clause-room g c =
    let facts = facts_of g.O.Source.Source.taken g.O.Source.Source.left g.O.Source.Source.ends g.O.Source.Source.faults in
    let room : vec_capacity c.in-Ok.room ≡ length c.args.settings.now.sources = search rules in
    omega (arith, room, ap length c.in-Err-capture.ensures.back, opened_length facts (g.O.Opener.content c.args.opener.now) c.args.settings.now.sources c.in-Ok-open_sources.opened.items c.in-Ok-open_sources.ensures.opened.are)

pub returns-in-Err-capture-clause-captured : goal.returns-in-Err-capture-clause-captured
returns-in-Err-capture-clause-captured g c =
    let facts = facts_of g.O.Source.Source.taken g.O.Source.Source.left g.O.Source.Source.ends g.O.Source.Source.faults in
    never_begun _ c.unbegun-in-Err-capture.result.front c.unbegun-in-Err-capture.ensures.front (record {
      number = c.unbegun-in-Err-capture.ensures.exit;
      opener = came_back g.O.Opener.opened (g.O.Opener.content c.args.opener.now) facts c.args.settings.now.sources c.in-Err-capture.opened.items c.unbegun-in-Err-capture.result.sources.items c.args.opener.now c.open_sources.new.opener (g.O.Opener.faults c.args.opener.now) (g.O.Opener.faults c.open_sources.new.opener) c.unbegun-in-Err-capture.ensures.sources (subst (λ (z : List (Opened g.row.O-Source.Denot)). SomeWereOpened g.O.Opener.opened (g.O.Opener.content c.args.opener.now) facts c.args.settings.now.sources z c.args.opener.now c.open_sources.new.opener (g.O.Opener.faults c.args.opener.now) (g.O.Opener.faults c.open_sources.new.opener)) (sym c.in-Err-capture.ensures.back) (all_are_some g.O.Opener.opened (g.O.Opener.content c.args.opener.now) facts c.args.settings.now.sources c.in-Ok-open_sources.opened.items c.args.opener.now c.open_sources.new.opener (g.O.Opener.faults c.args.opener.now) (g.O.Opener.faults c.open_sources.new.opener) c.in-Ok-open_sources.ensures.opened));
      outlet = c.in-Err-capture.ensures.none.0;
      clock = c.in-Err-capture.ensures.none.1;
    })

pub returns-in-Err-capture-clause-content : goal.returns-in-Err-capture-clause-content
returns-in-Err-capture-clause-content g c =
    let facts = facts_of g.O.Source.Source.taken g.O.Source.Source.left g.O.Source.Source.ends g.O.Source.Source.faults in
    let back = came_back g.O.Opener.opened (g.O.Opener.content c.args.opener.now) facts c.args.settings.now.sources c.in-Err-capture.opened.items c.unbegun-in-Err-capture.result.sources.items c.args.opener.now c.open_sources.new.opener (g.O.Opener.faults c.args.opener.now) (g.O.Opener.faults c.open_sources.new.opener) c.unbegun-in-Err-capture.ensures.sources (subst (λ (z : List (Opened g.row.O-Source.Denot)). SomeWereOpened g.O.Opener.opened (g.O.Opener.content c.args.opener.now) facts c.args.settings.now.sources z c.args.opener.now c.open_sources.new.opener (g.O.Opener.faults c.args.opener.now) (g.O.Opener.faults c.open_sources.new.opener)) (sym c.in-Err-capture.ensures.back) (all_are_some g.O.Opener.opened (g.O.Opener.content c.args.opener.now) facts c.args.settings.now.sources c.in-Ok-open_sources.opened.items c.args.opener.now c.open_sources.new.opener (g.O.Opener.faults c.args.opener.now) (g.O.Opener.faults c.open_sources.new.opener) c.in-Ok-open_sources.ensures.opened)) in
    contents_back g.O.Source.Source.taken g.O.Source.Source.left g.O.Source.Source.ends g.O.Source.Source.faults (g.O.Opener.content c.args.opener.now) back.front c.unbegun-in-Err-capture.result.sources.items back.came_back

pub returns-in-Ok-capture-clause-captured : goal.returns-in-Ok-capture-clause-captured
returns-in-Ok-capture-clause-captured g c =
    let facts = facts_of g.O.Source.Source.taken g.O.Source.Source.left g.O.Source.Source.ends g.O.Source.Source.faults in
    let opened = c.in-Ok-open_sources.ensures.opened in
    let k = c.in-Ok-capture.captured in
    let exit : c.exit_of.result ≡ exit_by k.sources.items k.writer = c.exit_of.ensures ∙ ap (λ (z : List (Ended g.row.O-Source.Denot)). exit_by z k.writer) c.deref.ensures.value in
    gives g.O.Opener.opened facts g.L.Outlet.stands_for g.C.Clock.has_read (g.O.Opener.content c.args.opener.now) c.args.settings.now c.exit_of.result c.in-Ok-open_sources.opened.items k.sources.items k.writer k.front
    c.args.opener.now c.open_sources.new.opener c.args.outlet.now c.capture.new.outlet c.args.clock.now c.capture.new.clock
    (g.O.Opener.faults c.args.opener.now) (g.O.Opener.faults c.open_sources.new.opener) (g.L.Outlet.file_faults c.args.outlet.now) (g.L.Outlet.file_faults c.capture.new.outlet) (g.L.Outlet.say_faults c.args.outlet.now) (g.L.Outlet.say_faults c.capture.new.outlet)
    opened.once opened.are opened.missing c.in-Ok-capture.ensures.captured exit

pub returns-in-Ok-capture-clause-exits : goal.returns-in-Ok-capture-clause-exits
returns-in-Ok-capture-clause-exits g c =
    let k = c.in-Ok-capture.captured in
    exit_is k.sources.items k.writer c.exit_of.result (c.exit_of.ensures ∙ ap (λ (z : List (Ended g.row.O-Source.Denot)). exit_by z k.writer) c.deref.ensures.value)

pub returns-in-Ok-capture-clause-opens : goal.returns-in-Ok-capture-clause-opens
returns-in-Ok-capture-clause-opens g c =
    let k = c.in-Ok-capture.captured in
    rose_by_lost g.O.Source.Source.taken g.O.Source.Source.left g.O.Source.Source.ends g.O.Source.Source.faults (g.O.Opener.content c.args.opener.now) c.args.settings.now.snap 0 c.in-Ok-open_sources.opened.items k.sources.items _ (g.O.Opener.faults c.args.opener.now) (g.O.Opener.faults c.open_sources.new.opener) c.in-Ok-capture.ensures.captured.sources_are c.in-Ok-open_sources.ensures.opened.missing

pub returns-in-Ok-capture-clause-content : goal.returns-in-Ok-capture-clause-content
returns-in-Ok-capture-clause-content g c =
    let k = c.in-Ok-capture.captured in
    contents_kept g.O.Source.Source.taken g.O.Source.Source.left g.O.Source.Source.ends g.O.Source.Source.faults (g.O.Opener.content c.args.opener.now) c.args.settings.now.snap 0 c.args.settings.now.sources c.in-Ok-open_sources.opened.items k.sources.items _ c.in-Ok-open_sources.ensures.opened.are c.in-Ok-capture.ensures.captured.sources_are

pub returns-in-Ok-capture-clause-names : goal.returns-in-Ok-capture-clause-names
returns-in-Ok-capture-clause-names g c =
    let k = c.in-Ok-capture.captured in
    names_kept g.O.Source.Source.taken g.O.Source.Source.left g.O.Source.Source.ends g.O.Source.Source.faults (g.O.Opener.content c.args.opener.now) c.args.settings.now.snap 0 c.args.settings.now.sources c.in-Ok-open_sources.opened.items k.sources.items _ c.in-Ok-open_sources.ensures.opened.are c.in-Ok-capture.ensures.captured.sources_are
