use Rattle.std.proofs.Common.{◌≡◌, ◌≤◌, ◌+◌, ◌++◌, ◌∷◌, [], ℕ, List, length, take, drop, sym, subst, ap, ◌∙◌, arith, Result}
use Rattle.std.specs.Prelude.{IfOk, ◌^◌, ◌*◌}
use Rattle.std.proofs.lemmas.Result.{err_from_is_err_and}
use Rattle.std.proofs.lemmas.List.{length-append, take-append-drop}
use Rattle.cap_base.specs.Effects.{bytes}
use Rattle.cap_outside.specs.Told.{Leads}
use Rattle.cap_outside.specs.declared.opened.Opened.{Opened}
use Rattle.mode_base.specs.Outlets.{DidFront}
use Rattle.mode_base.specs.Reading.{WasRead}
use Rattle.ring_join.specs.Whole.{WholeBlock, text}
use Rattle.ring_join.specs.Joined.{joined_so_far}
use Rattle.join_mode.specs.declared.stop.Stop.{Stop}
use Rattle.join_mode.specs.Joining.{IsRead}
use Rattle.join_mode.specs.inner.Parts.{Halted, OutcomeIs, OpenCause, FileCause, Progress}
use Rattle.join_mode.proofs.Progress.{halted_between, halted_at, progress_more, contents_more, names_split, names_more, opened_more}
use Rattle.join_mode.proofs.joining.join_inputs.Goals as goal

pub returns-in_err-opened-clause-stopped : goal.returns-in_err-opened-clause-stopped
returns-in_err-opened-clause-stopped g c =
    let p = err_from_is_err_and c.from_residual.result c.from_residual.ensures.1 in
    let read = IsRead g.O.Source.Source in
    let did : List (List WholeBlock) → Type 0 = λ files. Leads g.L.Outlet.stands_for c.args.outlet.now c.try_to_join.new.outlet (bytes (text (joined_so_far files))) in
    let broke : List (List WholeBlock) → Type 0 = λ files. DidFront g.L.Outlet.stands_for c.args.outlet.now c.try_to_join.new.outlet (bytes (text (joined_so_far files))) in
    rw p.1 (subst (λ (w : Stop). Halted read g.O.Source.Source.faults did broke did c.args.names.now c.names.sources.items w) (sym p.2)
    (halted_between g.O.Source.Source g.L.Outlet.stands_for g.L.Outlet.file_faults (take c.names.name-index c.args.names.now) (drop c.names.name-index c.args.names.now) c.args.names.now c.names.sources.items
    c.args.outlet.now c.names.outlet c.try_to_join.new.outlet c.names.joiner c.names.packets c.names.invariant.progress (sym (take-append-drop c.names.name-index c.args.names.now)) c.in_err-opened.ensures.nothing))

pub returns-in_err-packets-clause-stopped : goal.returns-in_err-packets-clause-stopped
returns-in_err-packets-clause-stopped g c =
    let items : c.push_reserved.new.self.items ≡ c.names.sources.items ++ c.in_ok-opened.field-0.opened ∷ [] = c.push_reserved.ensures.items in
    let p = err_from_is_err_and c.from_residual-in_err-packets.result c.from_residual-in_err-packets.ensures.1 in
    let read = IsRead g.O.Source.Source in
    let did : List (List WholeBlock) → Type 0 = λ files. Leads g.L.Outlet.stands_for c.args.outlet.now c.try_to_join.new.outlet (bytes (text (joined_so_far files))) in
    let broke : List (List WholeBlock) → Type 0 = λ files. DidFront g.L.Outlet.stands_for c.args.outlet.now c.try_to_join.new.outlet (bytes (text (joined_so_far files))) in
    let i = c.names.name-index in
    let names = c.args.names.now in
    let outcome = subst (λ (r : Result ℕ Stop). OutcomeIs (WasRead (2 ^ 30) g.O.Source.Source.taken g.O.Source.Source.left g.O.Source.Source.faults g.O.Source.Source.ends) g.O.Source.Source.faults g.L.Outlet.stands_for g.L.Outlet.file_faults c.names.joiner c.try_to_join.new.joiner c.names.outlet c.try_to_join.new.outlet c.in_ok-opened.field-0.opened.source r) c.in_err-packets.was c.in_ok-opened.ensures.outcome in
    rw p.1 (subst (λ (w : Stop). Halted read g.O.Source.Source.faults did broke did names c.push_reserved.new.self.items w) (sym p.2)
    (subst (λ (z : List (Opened g.row.O-Source.Denot)). Halted read g.O.Source.Source.faults did broke did names z c.in_err-packets.field-0.0) (sym items)
    (halted_at g.O.Source.Source g.L.Outlet.stands_for g.L.Outlet.file_faults (take i names) c.names.sources.items c.args.outlet.now c.names.outlet c.try_to_join.new.outlet c.names.joiner c.try_to_join.new.joiner c.names.packets
    c.names.invariant.progress c.in_ok-opened.field-0.opened c.name-item.result c.in_ok-opened.ensures.named names (drop (i + 1) names) c.in_err-packets.field-0.0 (names_split names c.as_slice-name-items.result.now i c.name-item.result c.as_slice-name-items.ensures c.names-test.true c.name-item.is) outcome)))

pub returns-in_err-packets-clause-contents : goal.returns-in_err-packets-clause-contents
returns-in_err-packets-clause-contents g c =
    let items : c.push_reserved.new.self.items ≡ c.names.sources.items ++ c.in_ok-opened.field-0.opened ∷ [] = c.push_reserved.ensures.items in
    contents_more (g.O.Opener.content c.args.opener.now) (g.O.Opener.content c.names.opener) g.O.Source.Source.taken g.O.Source.Source.left c.names.sources.items c.push_reserved.new.self.items c.in_ok-opened.field-0.opened c.names.invariant.same c.names.invariant.contents c.in_ok-opened.ensures.content items

pub names-preserved : goal.names-preserved
names-preserved g c =
    let items : c.push_reserved.new.self.items ≡ c.names.sources.items ++ c.in_ok-opened.field-0.opened ∷ [] = c.push_reserved.ensures.items in
    let i = c.names.name-index in
    let names = c.args.names.now in
    let v = c.names.invariant in
    let read = IsRead g.O.Source.Source in
    let outcome = subst (λ (r : Result ℕ Stop). OutcomeIs (WasRead (2 ^ 30) g.O.Source.Source.taken g.O.Source.Source.left g.O.Source.Source.faults g.O.Source.Source.ends) g.O.Source.Source.faults g.L.Outlet.stands_for g.L.Outlet.file_faults c.names.joiner c.try_to_join.new.joiner c.names.outlet c.try_to_join.new.outlet c.in_ok-opened.field-0.opened.source r) c.in_ok-packets.was c.in_ok-opened.ensures.outcome in
    let opens = subst (λ (r : Result ℕ Stop). OpenCause (g.O.Opener.faults c.names.opener) (g.O.Opener.faults c.try_to_join.new.opener) r) c.in_ok-packets.was c.in_ok-opened.ensures.opens in
    let files = subst (λ (r : Result ℕ Stop). FileCause (g.L.Outlet.file_faults c.names.outlet) (g.L.Outlet.file_faults c.try_to_join.new.outlet) r) c.in_ok-packets.was c.in_ok-opened.ensures.files in
    let few : c.in_ok-packets.field-0 ≤ 2 ^ 30 = subst (λ (r : Result ℕ Stop). IfOk r (λ n. n ≤ 2 ^ 30)) c.in_ok-packets.was c.in_ok-opened.ensures.few in
    let more = names_more names c.as_slice-name-items.result.now i c.name-item.result c.as_slice-name-items.ensures c.names-test.true c.name-item.is in
    record {
      room = c.push_reserved.ensures.capacity ∙ v.room;
      count = omega (arith, v.count, ap length items, length-append c.names.sources.items (c.in_ok-opened.field-0.opened ∷ []));
      progress = subst (λ (z : List (List ℕ)). Progress read g.L.Outlet.stands_for z c.push_reserved.new.self.items c.args.outlet.now c.try_to_join.new.outlet c.try_to_join.new.joiner (c.names.packets + c.in_ok-packets.field-0)) (sym more)
          (subst (λ (z : List (Opened g.row.O-Source.Denot)). Progress read g.L.Outlet.stands_for (take i names ++ c.name-item.result ∷ []) z c.args.outlet.now c.try_to_join.new.outlet c.try_to_join.new.joiner (c.names.packets + c.in_ok-packets.field-0)) (sym items)
          (progress_more g.O.Source.Source g.L.Outlet.stands_for g.L.Outlet.file_faults (take i names) c.names.sources.items c.args.outlet.now c.names.outlet c.try_to_join.new.outlet c.names.joiner c.try_to_join.new.joiner c.names.packets
          v.progress c.in_ok-opened.field-0.opened c.name-item.result c.in_ok-opened.ensures.named c.in_ok-packets.field-0 outcome));
      few = let a : c.names.packets ≤ i * 2 ^ 30 = v.few in omega arith;
      piece = c.try_to_join.auto.piece ∙ v.piece;
      opened = opened_more g.O.Opener.opened c.args.opener.now c.names.opener c.try_to_join.new.opener c.names.sources.items c.push_reserved.new.self.items c.in_ok-opened.field-0.opened c.name-item.result c.in_ok-opened.ensures.named items v.opened c.in_ok-opened.ensures.opened;
      opens = opens ∙ v.opens;
      contents = contents_more (g.O.Opener.content c.args.opener.now) (g.O.Opener.content c.names.opener) g.O.Source.Source.taken g.O.Source.Source.left c.names.sources.items c.push_reserved.new.self.items c.in_ok-opened.field-0.opened v.same v.contents c.in_ok-opened.ensures.content items;
      same = λ other. c.in_ok-opened.ensures.same other ∙ v.same other;
      files = files ∙ v.files;
      file = c.in_ok-opened.ensures.file;
      other = c.in_ok-opened.ensures.other ∙ v.other;
    }
