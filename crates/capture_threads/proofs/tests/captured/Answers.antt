use Rattle.std.proofs.Common.{◌≡◌, ◌<◌, ℕ, Bool, true, false, ◌||◌, ◌^◌, refl, sym, ap, ◌∙◌, arith}
use Rattle.std.specs.List.{list_any}
use Rattle.turn_cell.specs.Passes.{turns_made}
use Rattle.turn_cell.specs.Passes.{is_worn as worn_pass}
use Rattle.capture_threads.specs.Captures.{ends_worn}
use Rattle.capture_threads.proofs.tests.captured.Goals as goal

-- with fewer turns than all the writer's were not spent
not_worn : (others worn : Bool) (made most : ℕ) → (others || worn ≡ true → made ≡ most) → made < most → worn ≡ false
not_worn others false made most spent few = refl
not_worn true true made most spent few = absurd (let e : made ≡ most = spent refl in omega arith)
not_worn false true made most spent few = absurd (let e : made ≡ most = spent refl in omega arith)

pub returns : goal.returns
returns g c few =
    let front = c.finish-sources.result.1 in
    let captured = c.finish-sources.ensures.captured c.args.opened.items (c.read_and_take.ensures.run c.args.opened.items c.in-Ok.ensures.begun.placed) in
    c.read_and_take.ensures.done (ap worn_pass (sym c.into_pass.ensures) ∙ not_worn (list_any ends_worn c.finish-sources.result.0.items) (worn_pass c.into_pass.result) (turns_made front) (2 ^ 56) captured.spent few)
