-- Sources that are opened one after another.
use Rattle.std.proofs.Common.{◌≡◌, ℕ, ◌+◌, List, [], ◌∷◌, ◌++◌, length, subst, arith}
use Rattle.cap_outside.specs.declared.source.SureSource.{SureSource}
use Rattle.cap_outside.specs.declared.opened.Opened.{Opened}
use Rattle.trial_mode.specs.Streams.{Streams}
use Rattle.trial_mode.specs.inner.Opened.{IsOpened, AreOpened}

pub open_more : (streams : Streams) (from : ℕ) (os : List (Opened SureSource)) (which : ℕ) (o : Opened SureSource) → which ≡ from + length os → AreOpened streams from os → IsOpened streams which o → AreOpened streams from (os ++ o ∷ [])
open_more streams from [] which o q w v = (subst (λ (z : ℕ). IsOpened streams z o) (let e : which ≡ from = omega arith in e) v, tt)
open_more streams from (x ∷ os) which o q w v = (w.0, open_more streams (from + 1) os which o (omega arith) w.1 v)
