-- What is heard of a text only grows with it.
use Rattle.std.proofs.Common.{◌≡◌, ℕ, zero, suc, ◌+◌, ◌<◌, ◌≤◌, List, [], ◌∷◌, ◌++◌, length, take, drop, get_or, Option, Some, None, refl, sym, ap, arith}
use Rattle.std.proofs.lemmas.List.{length-drop, append-nil}
use Rattle.sync_pipe.specs.declared.said.Said.{Said}
use Rattle.sync_pipe.specs.declared.frame.Frame.{Frame}
use Rattle.sync_pipe.specs.declared.frame.Frame.TheVariants.{Cut, TooLong, Known, Unknown}
use Rattle.sync_pipe.specs.Bodies.{said_of}
use Rattle.cap_base.specs.Feeding.{with_front}
use Rattle.sync_pipe.specs.Heard.{frame, Hearing, said_then, heard_at}
use Rattle.sync_pipe.proofs.Frames.{frame_within}
use Rattle.sync_pipe.proofs.Hearings.{heard_step, heard_too_long, heard_unknown, heard_known}

-- of two hearings the first goes further, unless the second has a defect
pub record Grows (long short : Hearing) : Type 0 where
  pub further : List Said
  pub longer : long.0 ≡ short.0 ++ further
  pub stays : (at : ℕ) → short.1 ≡ Some at → long ≡ short

same_grows : (h : Hearing) → Grows h h
same_grows h = record { further = []; longer = sym (append-nil h.0); stays = λ at e. refl }

none_grows : (h : Hearing) → Grows h ([], None)
none_grows h = record { further = h.0; longer = refl; stays = λ at e. absurd (none_some at e) }
  where
    none_some : (at : ℕ) → None ≡ Some at → ⊥
    none_some at e = cc

said_grows : (said : Said) (long short : Hearing) → Grows long short → Grows (with_front (said ∷ []) long) (with_front (said ∷ []) short)
said_grows said long short g = record { further = g.further; longer = ap (λ l. said ∷ l) g.longer; stays = λ at e. ap (with_front (said ∷ [])) (g.stays at e) }

then_grows : (o : Option Said) (at : ℕ) (long short : Hearing) → Grows long short → Grows (said_then o at long) (said_then o at short)
then_grows None at long short g = same_grows ([], Some at)
then_grows (Some said) at long short g = said_grows said long short g

along : (long long' short short' : Hearing) → long ≡ long' → short ≡ short' → Grows long' short' → Grows long short
along long long' short short' a b g = rw (a, b) g

pub grows : (n at : ℕ) (text more : List ℕ) → length text < n → Grows (heard_at at (text ++ more)) (heard_at at text)
grows zero at text more few = absurd (omega arith)
grows (suc n) at text more few = by_frame (λ k within. grows n (at + (4 + k)) (drop (4 + k) text) more (omega (arith, length-drop (4 + k) text))) (frame text) refl
  where
    by_frame : ((k : ℕ) → 4 + k ≤ length text → Grows (heard_at (at + (4 + k)) (drop (4 + k) text ++ more)) (heard_at (at + (4 + k)) (drop (4 + k) text))) → (f : Frame) → frame text ≡ f → Grows (heard_at at (text ++ more)) (heard_at at text)
    by_frame behind Cut is = along _ _ _ _ refl (heard_step at text Cut is) (none_grows (heard_at at (text ++ more)))
    by_frame behind TooLong is = along _ _ _ _ (heard_too_long text is at more) (heard_step at text TooLong is) (same_grows ([], Some at))
    by_frame behind (Unknown k) is = along _ _ _ _ (heard_unknown text k is at more) (heard_step at text (Unknown k) is) (behind k (frame_within text (Unknown k) is))
    by_frame behind (Known k) is = along _ _ _ _ (heard_known text k is at more) (heard_step at text (Known k) is) (then_grows (said_of (get_or text 0 0) (take k (drop 4 text))) at _ _ (behind k (frame_within text (Known k) is).0))

-- the whole text
pub heard_longer : (text more : List ℕ) → Grows (heard_at 0 (text ++ more)) (heard_at 0 text)
heard_longer text more = grows (suc (length text)) 0 text more (omega arith)
