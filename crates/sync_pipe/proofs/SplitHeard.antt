-- What is heard of a text is what its messages say, and what its rest decides.
use Rattle.std.proofs.Common.{◌≡◌, ℕ, ◌+◌, ◌≤◌, Bool, true, false, ltb, List, [], ◌∷◌, ◌++◌, length, take, drop, get_or, Option, Some, None, refl, sym, ap, subst, ◌∙◌, arith}
use Rattle.std.proofs.lemmas.Bool.{ltb-true, ltb-false}
use Rattle.std.proofs.lemmas.List.{append-nil, append_assoc, length-append, length-drop, take-append-drop}
use Rattle.std.proofs.lemmas.List.Elements.{All-tail}
use Rattle.std.proofs.Math.ListN.{drop_of_length-le}
use Rattle.std.proofs.Math.Seq.{take-length}
use Rattle.std.specs.List.{All, flat_map}
use Rattle.std.specs.Option.{IsSome}
use Rattle.cap_base.specs.Feeding.{with_front}
use Rattle.sync_pipe.specs.declared.said.Said.{Said}
use Rattle.sync_pipe.specs.declared.frame.Frame.TheVariants.{Cut, TooLong, Known}
use Rattle.sync_pipe.specs.Bodies.{body_length, is_known, said_of}
use Rattle.sync_pipe.specs.Heard.{Hearing, said_then, heard, heard_at}
use Rattle.sync_pipe.specs.Messages.{IsMessage, IsSound, said_by, says, BeginsWithNone, joined, Splits}
use Rattle.sync_pipe.specs.Laws.{MessagesAreOfSplitting, DefectIsOfRest}
use Rattle.sync_pipe.proofs.Frames.{frame_known, frame_unknown, frame_too_long, frame_few, frame_part, frame_cut}
use Rattle.sync_pipe.proofs.Hearings.{heard_step, heard_known, heard_unknown}
use Rattle.sync_pipe.proofs.Splitting.{front_is, first_is_message, first_kind, first_says}

-- a sound message is heard first, and then what follows it
pub sound_front : (m more : List ℕ) (at : ℕ) → IsSound m → heard_at at (m ++ more) ≡ with_front (says m) (heard_at (at + length m) more)
sound_front m more at sound = by (is_known (get_or m 0 0)) refl (said_by m) refl
  where
    whole : length m ≡ 4 + body_length m
    whole = sound.whole.whole

    fits : 4 + body_length m ≤ length m
    fits = omega (arith, whole)

    all : drop (4 + body_length m) m ≡ []
    all = drop_of_length-le m (omega (arith, whole))

    body : take (body_length m) (drop 4 m) ≡ drop 4 m
    body = ap (λ n. take n (drop 4 m)) (omega (arith, whole, length-drop 4 m)) ∙ take-length (drop 4 m)

    behind : heard_at (at + (4 + body_length m)) (drop (4 + body_length m) m ++ more) ≡ heard_at (at + length m) more
    behind = ap (λ t. heard_at (at + (4 + body_length m)) (t ++ more)) all ∙ ap (λ n. heard_at (at + n) more) (sym whole)

    by : (k : Bool) → is_known (get_or m 0 0) ≡ k → (o : Option Said) → said_by m ≡ o → heard_at at (m ++ more) ≡ with_front (says m) (heard_at (at + length m) more)
    by false known o is = heard_unknown m (body_length m) (frame_unknown m fits sound.whole.small known) at more ∙ behind ∙ rw known refl
    by true known (Some said) is =
        heard_known m (body_length m) (frame_known m fits sound.whole.small known) at more
        ∙ ap (λ b. said_then (said_of (get_or m 0 0) b) at (heard_at (at + (4 + body_length m)) (drop (4 + body_length m) m ++ more))) body
        ∙ ap (λ o. said_then o at (heard_at (at + (4 + body_length m)) (drop (4 + body_length m) m ++ more))) is
        ∙ ap (with_front (said ∷ [])) behind
        ∙ rw (known, is) refl
    by true known None is = absurd (none_is_some (subst (λ (o : Option Said). IsSome o) is (sound.says known)))
      where
        none_is_some : (let none : Option Said = None in IsSome none) → ⊥
        none_is_some e = cc

-- a front of a front
front_twice : (a b : List Said) (h : Hearing) → with_front a (with_front b h) ≡ with_front (a ++ b) h
front_twice a b h = let e = sym (append_assoc a b h.0) in ap (λ l. let r : Hearing = (l, h.1) in r) e

-- messages one after another
pub heard_joined : (ms : List (List ℕ)) (rest : List ℕ) (at : ℕ) → All IsSound ms → heard_at at (joined ms ++ rest) ≡ with_front (flat_map says ms) (heard_at (at + length (joined ms)) rest)
heard_joined [] rest at sound = ap (λ n. heard_at n rest) (omega arith)
heard_joined (m ∷ ms) rest at sound =
    let behind = heard_joined ms rest (at + length m) (All-tail IsSound m ms sound) in
    let place : at + length m + length (joined ms) ≡ at + length (m ++ joined ms) = omega (arith, length-append m (joined ms)) in
    ap (heard_at at) (append_assoc m (joined ms) rest)
    ∙ sound_front m (joined ms ++ rest) at (sound 0 m (omega arith))
    ∙ ap (with_front (says m)) (behind ∙ ap (λ n. with_front (flat_map says ms) (heard_at n rest)) place)
    ∙ front_twice (says m) (flat_map says ms) (heard_at (at + length (m ++ joined ms)) rest)

-- a rest that begins with no sound message, but with a whole one
rest_has_defect : (rest first more : List ℕ) (at : ℕ) → rest ≡ first ++ more → IsMessage first → BeginsWithNone rest → heard_at at rest ≡ ([], Some at)
rest_has_defect rest first more at e message none =
    let front = front_is rest first more e message in
    by front.fits (omega (arith, front.len, message.small)) (is_known (get_or rest 0 0)) refl (said_of (get_or rest 0 0) (take (body_length rest) (drop 4 rest))) refl
  where
    sound_is_none : 4 + body_length rest ≤ length rest → IsSound (take (4 + body_length rest) rest) → ⊥
    sound_is_none fits sound = none (take (4 + body_length rest) rest) (drop (4 + body_length rest) rest) (sym (take-append-drop (4 + body_length rest) rest)) sound

    apart : false ≡ true → ⊥
    apart e = cc

    by : 4 + body_length rest ≤ length rest → body_length rest ≤ 65536 → (k : Bool) → is_known (get_or rest 0 0) ≡ k → (o : Option Said) → said_of (get_or rest 0 0) (take (body_length rest) (drop 4 rest)) ≡ o → heard_at at rest ≡ ([], Some at)
    by fits small false known o is = absurd (sound_is_none fits (record { whole = first_is_message rest small fits; says = λ e. absurd (apart (sym known ∙ sym (ap is_known (first_kind rest fits)) ∙ e)) }))
    by fits small true known (Some said) is = absurd (sound_is_none fits (record { whole = first_is_message rest small fits; says = λ e. rw (first_says rest fits, is) refl }))
    by fits small true known None is = heard_step at rest (Known (body_length rest)) (frame_known rest fits small known) ∙ ap (λ o. said_then o at (heard_at (at + (4 + body_length rest)) (drop (4 + body_length rest) rest))) is

-- nothing is heard of a rest
rest_says_none : (rest : List ℕ) (at : ℕ) → BeginsWithNone rest → (heard_at at rest).0 ≡ []
rest_says_none rest at none = by (ltb (length rest) 4) (ltb 65536 (body_length rest)) (ltb (length rest) (4 + body_length rest)) refl refl refl
  where
    by : (a b c : Bool) → ltb (length rest) 4 ≡ a → ltb 65536 (body_length rest) ≡ b → ltb (length rest) (4 + body_length rest) ≡ c → (heard_at at rest).0 ≡ []
    by true b c ea eb ec = ap (λ (h : Hearing). h.0) (heard_step at rest Cut (frame_few rest (ltb-true _ _ ea)))
    by false true c ea eb ec = ap (λ (h : Hearing). h.0) (heard_step at rest TooLong (frame_too_long rest (ltb-false _ _ ea) (ltb-true _ _ eb)))
    by false false true ea eb ec = ap (λ (h : Hearing). h.0) (heard_step at rest Cut (frame_part rest (ltb-false _ _ ea) (ltb-false _ _ eb) (ltb-true _ _ ec)))
    by false false false ea eb ec =
        let fits : 4 + body_length rest ≤ length rest = ltb-false _ _ ec in
        ap (λ (h : Hearing). h.0) (rest_has_defect rest (take (4 + body_length rest) rest) (drop (4 + body_length rest) rest) at (sym (take-append-drop (4 + body_length rest) rest)) (first_is_message rest (ltb-false _ _ eb) fits) none)

heard_split : (text : List ℕ) (ms : List (List ℕ)) (rest : List ℕ) → Splits text ms rest → heard text ≡ with_front (flat_map says ms) (heard_at (length (joined ms)) rest)
heard_split text ms rest splits = ap (heard_at 0) splits.whole ∙ heard_joined ms rest 0 splits.sound ∙ ap (λ n. with_front (flat_map says ms) (heard_at n rest)) (omega arith)

pub messages_are_of_splitting : MessagesAreOfSplitting
messages_are_of_splitting text ms rest splits =
    ap (λ (h : Hearing). h.0) (heard_split text ms rest splits) ∙ ap (λ (l : List Said). flat_map says ms ++ l) (rest_says_none rest (length (joined ms)) splits.partial) ∙ append-nil (flat_map says ms)

pub defect_is_of_rest : DefectIsOfRest
defect_is_of_rest text ms rest place splits count =
    let len : length text ≡ length (joined ms) + length rest = ap length splits.whole ∙ length-append (joined ms) rest in
    let there : length (joined ms) ≡ place = omega arith in
    let is : (heard text).1 ≡ (heard_at place rest).1 = ap (λ (h : Hearing). h.1) (heard_split text ms rest splits) ∙ ap (λ n. (heard_at n rest).1) there in
    record {
      cut = λ cut. is ∙ ap (λ (h : Hearing). h.1) (heard_step place rest Cut (frame_cut rest cut));
      too_long = λ some long. is ∙ ap (λ (h : Hearing). h.1) (heard_step place rest TooLong (frame_too_long rest some long));
      body = λ first more e message. is ∙ ap (λ (h : Hearing). h.1) (rest_has_defect rest first more place e message splits.partial);
    }
