-- How the messages of a text follow from what stands at its front.
use Rattle.std.proofs.Common.{◌≡◌, ℕ, zero, suc, ◌+◌, ◌-◌, ◌<◌, ◌≤◌, List, [], ◌∷◌, ◌++◌, length, take, drop, get_or, Some, None, refl, sym, ap, ◌∙◌, arith}
use Rattle.std.proofs.lemmas.List.{take-append-le, drop-append-le, length-drop, drop-drop, get_or_append_left}
use Rattle.sync_pipe.specs.declared.said.Said.{Said}
use Rattle.sync_pipe.specs.declared.frame.Frame.{Frame}
use Rattle.sync_pipe.specs.declared.frame.Frame.TheVariants.{Cut, TooLong, Known, Unknown}
use Rattle.sync_pipe.specs.Bodies.{said_of}
use Rattle.cap_base.specs.Feeding.{with_front}
use Rattle.sync_pipe.specs.Heard.{frame, said_then, decided, heard_from, heard_at}
use Rattle.sync_pipe.specs.inner.Finding.{Passes}
use Rattle.sync_pipe.proofs.Frames.{frame_within, frame-append}

-- the count of steps doesn't matter where it is above the length
pub enough : (n m at : ℕ) (text : List ℕ) → length text < n → length text < m → heard_from n at text ≡ heard_from m at text
unfolding heard_from
enough zero m at text few many = absurd (omega arith)
enough (suc n) zero at text few many = absurd (omega arith)
enough (suc n) (suc m) at text few many = by_frame (λ k within. enough n m (at + (4 + k)) (drop (4 + k) text) (omega (arith, length-drop (4 + k) text)) (omega (arith, length-drop (4 + k) text))) (frame text) refl
  where
    by_frame : ((k : ℕ) → 4 + k ≤ length text → heard_from n (at + (4 + k)) (drop (4 + k) text) ≡ heard_from m (at + (4 + k)) (drop (4 + k) text))
        → (f : Frame) → frame text ≡ f → decided f at text (λ len. heard_from n (at + len) (drop len text)) ≡ decided f at text (λ len. heard_from m (at + len) (drop len text))
    by_frame behind Cut is = refl
    by_frame behind TooLong is = refl
    by_frame behind (Known k) is = ap (said_then (said_of (get_or text 0 0) (take k (drop 4 text))) at) (behind k (frame_within text (Known k) is).0)
    by_frame behind (Unknown k) is = behind k (frame_within text (Unknown k) is)

-- the first message and those behind it
pub heard_step : (at : ℕ) (text : List ℕ) (f : Frame) → frame text ≡ f → heard_at at text ≡ decided f at text (λ len. heard_at (at + len) (drop len text))
unfolding heard_at heard_from
heard_step at text Cut is = ap (λ f. decided f at text (λ len. heard_from (length text) (at + len) (drop len text))) is
heard_step at text TooLong is = ap (λ f. decided f at text (λ len. heard_from (length text) (at + len) (drop len text))) is
heard_step at text (Known k) is =
    let within : 4 + k ≤ length text = (frame_within text (Known k) is).0 in
    ap (λ f. decided f at text (λ len. heard_from (length text) (at + len) (drop len text))) is
    ∙ ap (said_then (said_of (get_or text 0 0) (take k (drop 4 text))) at) (enough (length text) (suc (length (drop (4 + k) text))) (at + (4 + k)) (drop (4 + k) text) (omega (arith, length-drop (4 + k) text)) (omega arith))
heard_step at text (Unknown k) is =
    let within : 4 + k ≤ length text = frame_within text (Unknown k) is in
    ap (λ f. decided f at text (λ len. heard_from (length text) (at + len) (drop len text))) is
    ∙ enough (length text) (suc (length (drop (4 + k) text))) (at + (4 + k)) (drop (4 + k) text) (omega (arith, length-drop (4 + k) text)) (omega arith)

-- a length that is too long, however the text goes on
pub heard_too_long : (text : List ℕ) → frame text ≡ TooLong → (at : ℕ) (more : List ℕ) → heard_at at (text ++ more) ≡ ([], Some at)
heard_too_long text is at more = heard_step at (text ++ more) TooLong (frame-append text more (λ e. absurd (apart (sym is ∙ e))) ∙ is)
  where
    apart : TooLong ≡ Cut → ⊥
    apart e = cc

-- a message of another type
pub heard_unknown : (text : List ℕ) (k : ℕ) → frame text ≡ Unknown k → (at : ℕ) (more : List ℕ) → heard_at at (text ++ more) ≡ heard_at (at + (4 + k)) (drop (4 + k) text ++ more)
heard_unknown text k is at more =
    let within : 4 + k ≤ length text = frame_within text (Unknown k) is in
    heard_step at (text ++ more) (Unknown k) (frame-append text more (λ e. absurd (apart (sym is ∙ e))) ∙ is)
    ∙ ap (heard_at (at + (4 + k))) (drop-append-le (4 + k) text more within)
  where
    apart : Unknown k ≡ Cut → ⊥
    apart e = cc

-- a message of a known type
pub heard_known : (text : List ℕ) (k : ℕ) → frame text ≡ Known k → (at : ℕ) (more : List ℕ) → heard_at at (text ++ more) ≡ said_then (said_of (get_or text 0 0) (take k (drop 4 text))) at (heard_at (at + (4 + k)) (drop (4 + k) text ++ more))
heard_known text k is at more =
    let within : 4 + k ≤ length text = (frame_within text (Known k) is).0 in
    let some : 4 ≤ length text = omega arith in
    let inside : k ≤ length (drop 4 text) = omega (arith, length-drop 4 text) in
    let kind : get_or (text ++ more) 0 0 ≡ get_or text 0 0 = get_or_append_left text more 0 0 (omega arith) in
    let body : take k (drop 4 (text ++ more)) ≡ take k (drop 4 text) = ap (take k) (drop-append-le 4 text more some) ∙ take-append-le k (drop 4 text) more inside in
    heard_step at (text ++ more) (Known k) (frame-append text more (λ e. absurd (apart (sym is ∙ e))) ∙ is)
    ∙ ap (λ b. said_then (said_of b (take k (drop 4 (text ++ more)))) at (heard_at (at + (4 + k)) (drop (4 + k) (text ++ more)))) kind
    ∙ ap (λ b. said_then (said_of (get_or text 0 0) b) at (heard_at (at + (4 + k)) (drop (4 + k) (text ++ more)))) body
    ∙ ap (λ rest. said_then (said_of (get_or text 0 0) (take k (drop 4 text))) at (heard_at (at + (4 + k)) rest)) (drop-append-le (4 + k) text more within)
  where
    apart : Known k ≡ Cut → ⊥
    apart e = cc

-- nothing is passed over
pub passes_none : (text : List ℕ) → Passes text 0
passes_none text = record { goes = λ at more. ap (λ n. heard_at n (text ++ more)) (omega arith) }

-- one message more is passed over
pub passes_more : (text : List ℕ) (n k : ℕ) → n ≤ length text → Passes text n → frame (drop n text) ≡ Unknown k → Passes text (n + (4 + k))
passes_more text n k within passes is = record {
  goes = λ at more.
      passes.goes at more ∙ heard_unknown (drop n text) k is (at + n) more
      ∙ ap (λ place. heard_at place (drop (4 + k) (drop n text) ++ more)) (omega arith)
      ∙ ap (λ rest. heard_at (at + (n + (4 + k))) (rest ++ more)) (drop-drop (4 + k) n text);
}

-- the first message that says something
pub found_said : (text rest : List ℕ) (n k : ℕ) (said : Said) → n ≤ length text → Passes text n → rest ≡ drop n text → frame rest ≡ Known k → said_of (get_or rest 0 0) (take k (drop 4 rest)) ≡ Some said
    → (n + 4 + k ≤ length text) × ((at : ℕ) (more : List ℕ) → heard_at at (text ++ more) ≡ with_front (said ∷ []) (heard_at (at + (n + 4 + k)) (drop (n + 4 + k) text ++ more)))
found_said text rest n k said within passes rest-is is says =
    let whole : 4 + k ≤ length rest = (frame_within rest (Known k) is).0 in
    let count : length rest ≡ length text - n = ap length rest-is ∙ length-drop n text in
    let behind : drop (4 + k) rest ≡ drop (n + 4 + k) text = ap (drop (4 + k)) rest-is ∙ drop-drop (4 + k) n text ∙ ap (λ m. drop m text) (omega arith) in (
      omega arith,
      λ at more.
          passes.goes at more ∙ ap (λ r. heard_at (at + n) (r ++ more)) (sym rest-is) ∙ heard_known rest k is (at + n) more
          ∙ ap (λ o. said_then o (at + n) (heard_at (at + n + (4 + k)) (drop (4 + k) rest ++ more))) says
          ∙ ap (λ r. with_front (said ∷ []) (heard_at (at + n + (4 + k)) (r ++ more))) behind
          ∙ ap (λ place. with_front (said ∷ []) (heard_at place (drop (n + 4 + k) text ++ more))) (omega arith),
    )

-- a body with a defect
pub found_bad : (text rest : List ℕ) (n k : ℕ) → n ≤ length text → Passes text n → rest ≡ drop n text → frame rest ≡ Known k → said_of (get_or rest 0 0) (take k (drop 4 rest)) ≡ None
    → (n ≤ length text) × ((at : ℕ) (more : List ℕ) → heard_at at (text ++ more) ≡ ([], Some (at + n)))
found_bad text rest n k within passes rest-is is says = (
  within,
  λ at more.
      passes.goes at more ∙ ap (λ r. heard_at (at + n) (r ++ more)) (sym rest-is) ∙ heard_known rest k is (at + n) more
      ∙ ap (λ o. said_then o (at + n) (heard_at (at + n + (4 + k)) (drop (4 + k) rest ++ more))) says,
)

-- a length that is too long
pub found_too_long : (text rest : List ℕ) (n : ℕ) → n ≤ length text → Passes text n → rest ≡ drop n text → frame rest ≡ TooLong
    → (n ≤ length text) × ((at : ℕ) (more : List ℕ) → heard_at at (text ++ more) ≡ ([], Some (at + n)))
found_too_long text rest n within passes rest-is is = (
  within,
  λ at more.
      passes.goes at more ∙ ap (λ r. heard_at (at + n) (r ++ more)) (sym rest-is) ∙ heard_too_long rest is (at + n) more,
)
