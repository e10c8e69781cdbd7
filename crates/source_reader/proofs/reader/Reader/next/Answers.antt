use Rattle.std.proofs.Common.{◌≡◌, ◌∙◌, [], ap, sym, subst, length, ◌<◌, ◌≤◌}
use Rattle.cap_base.specs.Carried.{IsFitStep}
use Rattle.cap_base.specs.declared.steps.Step.{Step}
use Rattle.cap_base.specs.declared.steps.Step.TheVariants as step
use Rattle.source_reader.specs.State.{State, Steps}
use Rattle.source_reader.specs.inner.Stages.{IsKept}
use Rattle.source_reader.specs.declared.stage.Stage.{Stage}
use Rattle.source_reader.specs.declared.stage.Stage.TheVariants.{Choosing, Classic, Pcapng}
use Rattle.source_reader.proofs.Steps.{in_choosing, in_classic, in_pcapng, state_is, choosing_steps, classic_steps, pcapng_steps, step_by, no_step, kept_by, no_error, classic_stays, pcapng_gives, classic_fits, cut_fits, fit_by, no_fit}
use Rattle.source_reader.proofs.reader.Reader.next.Goals as goal
use Rattle.source_reader.proofs.reader.Reader.next.Goals.{in-Choosing, in-Classic+in-Ok, in-Classic+in-Err, in-Pcapng+in-Ok-next, in-Pcapng+in-Err-next}

pub returns-clause-step : goal.returns-clause-step
returns-clause-step c =
    let snap = c.self.inside.snap in
    let stage = c.self.inside.stage in
    let now = c.args.self.now in
    let view : State = record { snap = c.match-self.self-inside.snap; stage = c.match-self.self-inside.stage } in
    elim c.match-self.branch [
      | in-Choosing w ↦
          let old = in_choosing snap w.in-Choosing.name w.in-Choosing.head in
          let few : length w.in-Choosing.head < 4 = (subst IsKept w.in-Choosing.is c.self.invariant).0 in
          let there : view ≡ old = ap (λ i. let s : State = record { snap = i.snap; stage = i.stage } in s) w.self-inside-is ∙ ap (λ (x : Stage). let s : State = record { snap = snap; stage = x } in s) w.in-Choosing.is in
          step_by old now old view c.match-self.result step.More w.result-is there (state_is snap stage (Choosing w.in-Choosing.name w.in-Choosing.head) now w.in-Choosing.is c.self.view_is) (choosing_steps snap w.in-Choosing.name w.in-Choosing.head few)
      | in-Classic+in-Ok w ↦
          let old = in_classic snap w.in-Classic.pipe in
          let new = in_classic snap w.next.new.self in
          let steps : Steps old new w.cut_step.result = subst (λ (s : Step). Steps old new s) (sym w.cut_step.ensures) (classic_steps snap w.in-Classic.pipe w.next.new.self w.in-Ok.step w.in-Ok.ensures.step) in
          step_by old now new view c.match-self.result w.cut_step.result w.result-is (ap (λ i. let s : State = record { snap = i.snap; stage = i.stage } in s) w.self-inside-is) (state_is snap stage (Classic w.in-Classic.pipe) now w.in-Classic.is c.self.view_is) steps
      | in-Classic+in-Err w ↦ no_step now view c.match-self.result _ w.result-is
      | in-Pcapng+in-Ok-next w ↦
          let old = in_pcapng snap w.in-Pcapng.pipe in
          let new = in_pcapng snap w.next-in-Pcapng.new.self in
          let steps : Steps old new w.cut_step-in-Ok-next.result = subst (λ (s : Step). Steps old new s) (sym w.cut_step-in-Ok-next.ensures) (pcapng_steps snap w.in-Pcapng.pipe w.next-in-Pcapng.new.self w.in-Ok-next.step w.in-Ok-next.ensures.step) in
          step_by old now new view c.match-self.result w.cut_step-in-Ok-next.result w.result-is (ap (λ i. let s : State = record { snap = i.snap; stage = i.stage } in s) w.self-inside-is) (state_is snap stage (Pcapng w.in-Pcapng.pipe) now w.in-Pcapng.is c.self.view_is) steps
      | in-Pcapng+in-Err-next w ↦ no_step now view c.match-self.result _ w.result-is
    ]

pub returns-clause-err : goal.returns-clause-err
returns-clause-err c =
    let snap = c.self.inside.snap in
    let stage = c.self.inside.stage in
    let now = c.args.self.now in
    let view : State = record { snap = c.match-self.self-inside.snap; stage = c.match-self.self-inside.stage } in
    elim c.match-self.branch [
      | in-Choosing w ↦ no_error c.match-self.result _ _ w.result-is
      | in-Classic+in-Ok w ↦ no_error c.match-self.result _ _ w.result-is
      | in-Classic+in-Err w ↦ kept_by (in_classic snap w.in-Classic.pipe) now (in_classic snap w.next.new.self) view c.match-self.result (ap (λ i. let s : State = record { snap = i.snap; stage = i.stage } in s) w.self-inside-is) (state_is snap stage (Classic w.in-Classic.pipe) now w.in-Classic.is c.self.view_is) (classic_stays snap w.in-Classic.pipe w.next.new.self w.in-Err.ensures.err)
      | in-Pcapng+in-Ok-next w ↦ no_error c.match-self.result _ _ w.result-is
      | in-Pcapng+in-Err-next w ↦ kept_by (in_pcapng snap w.in-Pcapng.pipe) now (in_pcapng snap w.next-in-Pcapng.new.self) view c.match-self.result (ap (λ i. let s : State = record { snap = i.snap; stage = i.stage } in s) w.self-inside-is) (state_is snap stage (Pcapng w.in-Pcapng.pipe) now w.in-Pcapng.is c.self.view_is) (pcapng_gives snap w.in-Pcapng.pipe w.next-in-Pcapng.new.self [] w.in-Err-next.ensures.err)
    ]

pub returns-clause-fit : goal.returns-clause-fit
returns-clause-fit c =
    let snap = c.self.inside.snap in
    let r = c.match-self.result in
    elim c.match-self.branch [
      | in-Choosing w ↦ fit_by r step.More w.result-is tt
      | in-Classic+in-Ok w ↦
          let few : length w.in-Classic.pipe.name ≤ 65535 = subst IsKept w.in-Classic.is c.self.invariant in
          fit_by r w.cut_step.result w.result-is (subst IsFitStep (sym w.cut_step.ensures) (cut_fits snap w.in-Ok.step (classic_fits w.in-Classic.pipe w.next.new.self w.in-Ok.step w.in-Ok.ensures.lawful few)))
      | in-Classic+in-Err w ↦ no_fit r _ w.result-is
      | in-Pcapng+in-Ok-next w ↦ fit_by r w.cut_step-in-Ok-next.result w.result-is (subst IsFitStep (sym w.cut_step-in-Ok-next.ensures) (cut_fits snap w.in-Ok-next.step w.in-Ok-next.ensures.fit))
      | in-Pcapng+in-Err-next w ↦ no_fit r _ w.result-is
    ]
