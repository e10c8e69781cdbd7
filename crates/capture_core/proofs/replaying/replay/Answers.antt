use Rattle.std.proofs.Common.{◌≡◌, ℕ, suc, ◌+◌, refl, sym, ap, ◌∙◌, subst, take, arith}
use Rattle.std.proofs.lemmas.Option.{slice_get_read}
use Rattle.cap_base.specs.declared.settings.Settings.{Settings}
use Rattle.capture_desk.specs.Acts.{acts}
use Rattle.capture_desk.specs.Orderly.{Follows}
use Rattle.capture_desk.specs.Past.{Past, nothing, past}
use Rattle.capture_core.specs.inner.Telling.{Gave, with_own}
use Rattle.capture_core.proofs.Lists.{follows_at, past_step, silent_at}
use Rattle.capture_core.proofs.Steps.{gave_none}
use Rattle.capture_core.proofs.replaying.replay.Goals as goal

pub entries-init : goal.entries-init
entries-init c = record {
  settings = c.in_ok-desk.ensures.settings;
  gave = gave_none c.in_ok-desk.desk c.new-acts.result.items c.in_ok-desk.ensures.stands c.in_ok-desk.ensures.waiting c.in_ok-desk.ensures.made c.new-acts.ensures.items;
}

pub returns-then-is_silence : goal.returns-then-is_silence
returns-then-is_silence c =
    let s = c.args.settings.now in
    let es = c.args.entries.now in
    let k = c.entries.entry-index in
    c.entries.invariant.gave.all ∙ (ap (λ (q : Settings). acts q (past (take k es))) c.entries.invariant.settings ∙ sym (silent_at s nothing es k c.entry-item.result (slice_get_read es _ k c.entry-item.result refl c.entries-test.true c.entry-item.is) (sym c.is_silence.ensures ∙ c.if-is_silence.true)))

pub entries-preserved : goal.entries-preserved
entries-preserved c =
    let s = c.args.settings.now in
    let es = c.args.entries.now in
    let k = c.entries.entry-index in
    let e = c.entry-item.result in
    let got = slice_get_read es _ k e refl c.entries-test.true c.entry-item.is in
    let more : k + 1 ≡ suc k = omega arith in
    let step : past (take (k + 1) es) ≡ with_own (past (take k es)) e = ap (λ (j : ℕ). past (take j es)) more ∙ past_step nothing es k e got in
    record {
      settings = c.in_ok-tell.ensures.settings ∙ c.entries.invariant.settings;
      gave = subst (λ (p : Past). Gave c.tell.new.desk p c.tell.new.acts.items) (sym step)
          (c.in_ok-tell.ensures.gave (past (take k es)) c.entries.invariant.gave (λ own. subst (λ (q : Settings). Follows q (past (take k es)) e) (sym c.entries.invariant.settings) (follows_at s nothing es k e got c.requires.orderly own)));
    }
