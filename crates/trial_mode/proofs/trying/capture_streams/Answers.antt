use Rattle.std.proofs.Common.{◌∙◌, length, ap, sym, subst, arith}
use Rattle.cap_base.specs.Lawful.{AreLawful}
use Rattle.cap_base.specs.declared.settings.Settings.{Settings}
use Rattle.trial_mode.specs.Streams.{streams_from}
use Rattle.trial_mode.proofs.Lawfulness.{lawful, length_names, short_names}
use Rattle.trial_mode.proofs.Readings.{were_captured}
use Rattle.trial_mode.proofs.trying.capture_streams.Goals as goal

pub capture-requires-clause-settings : goal.capture-requires-clause-settings
capture-requires-clause-settings g c κs within = subst AreLawful (sym c.in_ok-settings.ensures) (lawful c.args.sources c.requires.sources c.requires.few_sources)

pub capture-requires-clause-sources : goal.capture-requires-clause-sources
capture-requires-clause-sources g c κs within = c.in_ok-opened.ensures.all ∙ sym (ap (λ (s : Settings). length s.sources) c.in_ok-settings.ensures ∙ length_names c.args.sources)

pub capture-requires-clause-names : goal.capture-requires-clause-names
capture-requires-clause-names g c κs within = short_names (streams_from c.args.start c.args.sources c.args.packets) 0 c.in_ok-opened.opened.items (omega (arith, c.in_ok-opened.ensures.all, c.requires.few_sources)) c.in_ok-opened.ensures.opened

pub returns : goal.returns
returns g c =
    let captured = c.in-Ok.captured in
    were_captured (streams_from c.args.start c.args.sources c.args.packets) captured.sources.items captured.writer captured.front c.in_ok-opened.opened.items c.in_ok-settings.settings c.args.outlet.now c.capture.new.outlet c.new-clock.result c.capture.new.clock _ _ _ _
    c.in_ok-opened.ensures.opened c.in_ok-opened.ensures.all c.requires.fresh c.in_ok-settings.ensures c.in-Ok.ensures.captured
