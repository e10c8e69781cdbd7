-- A text is messages and a rest, in one way.
use Rattle.std.proofs.Common.{◌≡◌, ℕ, zero, suc, ◌+◌, ◌<◌, ◌≤◌, Bool, true, false, ltb, List, [], ◌∷◌, ◌++◌, length, take, drop, get_or, Option, Some, None, refl, sym, ap, subst, ◌∙◌, arith}
use Rattle.std.proofs.lemmas.Bool.{ltb-true, ltb-false}
use Rattle.std.proofs.lemmas.List.{append_assoc, length-append, length-drop, length-take-le, take-append-drop, drop-take}
use Rattle.std.proofs.lemmas.List.Elements.{All-nil, All-cons, All-tail}
use Rattle.std.proofs.Math.Seq.{take-append_seam, drop-append_seam}
use Rattle.std.specs.List.{All}
use Rattle.std.specs.Option.{IsSome}
use Rattle.sync_pipe.specs.declared.said.Said.{Said}
use Rattle.sync_pipe.specs.Bodies.{body_length, is_known, said_of}
use Rattle.sync_pipe.specs.Messages.{IsMessage, IsSound, said_by, BeginsWithNone, joined, Splits}
use Rattle.sync_pipe.specs.Laws.{EachTextSplits, SplitsOnce}
use Rattle.sync_pipe.proofs.Frames.{byte-append}

-- a message at the front of a text
pub record IsFront (text first more : List ℕ) : Type 0 where
  pub len : body_length text ≡ body_length first
  pub kind : get_or text 0 0 ≡ get_or first 0 0
  pub is : first ≡ take (4 + body_length text) text
  pub behind : more ≡ drop (4 + body_length text) text
  pub fits : 4 + body_length text ≤ length text

front_of_both : (first more : List ℕ) → IsMessage first → IsFront (first ++ more) first more
front_of_both first more message =
    let head = message.head in
    let whole = message.whole in
    let len : body_length (first ++ more) ≡ body_length first = rw (byte-append first more 1 (omega arith), byte-append first more 2 (omega arith), byte-append first more 3 (omega arith)) refl in
    let count : 4 + body_length (first ++ more) ≡ length first = omega arith in
    record {
      len = len;
      kind = byte-append first more 0 (omega arith);
      is = sym (ap (λ n. take n (first ++ more)) count ∙ take-append_seam first more);
      behind = sym (ap (λ n. drop n (first ++ more)) count ∙ drop-append_seam first more);
      fits = rw length-append (omega arith);
    }

pub front_is : (text first more : List ℕ) → text ≡ first ++ more → IsMessage first → IsFront text first more
front_is text first more e message = subst (λ (t : List ℕ). IsFront t first more) (sym e) (front_of_both first more message)

-- the message that a text begins with
pub first_length : (text : List ℕ) → 4 + body_length text ≤ length text → length (take (4 + body_length text) text) ≡ 4 + body_length text
first_length text fits = length-take-le (4 + body_length text) text fits

pub first_body_length : (text : List ℕ) → 4 + body_length text ≤ length text → body_length (take (4 + body_length text) text) ≡ body_length text
first_body_length text fits =
    let len = first_length text fits in
    let back = take-append-drop (4 + body_length text) text in
    let first = take (4 + body_length text) text in
    let rest = drop (4 + body_length text) text in
    let same : body_length (first ++ rest) ≡ body_length first = rw (byte-append first rest 1 (omega arith), byte-append first rest 2 (omega arith), byte-append first rest 3 (omega arith)) refl in
    sym same ∙ ap body_length back

pub first_kind : (text : List ℕ) → 4 + body_length text ≤ length text → get_or (take (4 + body_length text) text) 0 0 ≡ get_or text 0 0
first_kind text fits =
    let len = first_length text fits in
    let back = take-append-drop (4 + body_length text) text in
    let first = take (4 + body_length text) text in
    let rest = drop (4 + body_length text) text in
    let same : get_or (first ++ rest) 0 0 ≡ get_or first 0 0 = byte-append first rest 0 (omega arith) in
    sym same ∙ ap (λ (t : List ℕ). get_or t 0 0) back

pub first_is_message : (text : List ℕ) → body_length text ≤ 65536 → 4 + body_length text ≤ length text → IsMessage (take (4 + body_length text) text)
first_is_message text small fits =
    let len = first_length text fits in
    let same = first_body_length text fits in
    record { head = omega arith; small = omega arith; whole = omega arith }

-- what the first message says is what stands at the text's front
pub first_says : (text : List ℕ) → 4 + body_length text ≤ length text → said_by (take (4 + body_length text) text) ≡ said_of (get_or text 0 0) (take (body_length text) (drop 4 text))
first_says text fits = ap (λ k. said_of k (drop 4 (take (4 + body_length text) text))) (first_kind text fits) ∙ ap (said_of (get_or text 0 0)) (drop-take 4 (body_length text) text)

-- a text that is split
abbrev pub Split : List ℕ → Type 0
Split text = (messages : List (List ℕ)) × (rest : List ℕ) × Splits text messages rest

none_splits : (text : List ℕ) → BeginsWithNone text → Split text
none_splits text none = ([], text, record { whole = refl; sound = All-nil IsSound; partial = none })

-- one message more in front
one_more_splits : (text first behind : List ℕ) → text ≡ first ++ behind → IsSound first → Split behind → Split text
one_more_splits text first behind e sound split = (
  first ∷ split.0,
  split.1,
  record {
    whole = e ∙ ap (λ t. first ++ t) split.2.whole ∙ sym (append_assoc first (joined split.0) split.1);
    sound = All-cons IsSound first split.0 sound split.2.sound;
    partial = split.2.partial;
  },
)

none_is_some : (let none : Option Said = None in IsSome none) → ⊥
none_is_some is = cc

splits_by : (n : ℕ) (text : List ℕ) → length text < n → Split text
splits_by zero text few = absurd (omega arith)
splits_by (suc n) text few = by_tests (λ some. splits_by n (drop (4 + body_length text) text) (omega (arith, length-drop (4 + body_length text) text))) (ltb (length text) 4) (ltb 65536 (body_length text)) (ltb (length text) (4 + body_length text)) refl refl refl
  where
    by_body : 4 + body_length text ≤ length text → body_length text ≤ 65536 → Split (drop (4 + body_length text) text) → (k : Bool) → is_known (get_or text 0 0) ≡ k → (o : Option Said) → said_of (get_or text 0 0) (take (body_length text) (drop 4 text)) ≡ o → Split text
    by_body fits small behind k known o says = by k known o says
      where
        more : IsSound (take (4 + body_length text) text) → Split text
        more sound = one_more_splits text (take (4 + body_length text) text) (drop (4 + body_length text) text) (sym (take-append-drop (4 + body_length text) text)) sound behind

        apart : false ≡ true → ⊥
        apart e = cc

        by : (k : Bool) → is_known (get_or text 0 0) ≡ k → (o : Option Said) → said_of (get_or text 0 0) (take (body_length text) (drop 4 text)) ≡ o → Split text
        by false known o says = more (record { whole = first_is_message text small fits; says = λ is. absurd (apart (sym known ∙ sym (ap is_known (first_kind text fits)) ∙ is)) })
        by true known (Some said) says = more (record { whole = first_is_message text small fits; says = λ is. rw (first_says text fits, says) refl })
        by true known None says = none_splits text (λ first rest e sound.
            let front = front_is text first rest e sound.whole in
            let kind : is_known (get_or first 0 0) ≡ true = ap is_known (sym front.kind) ∙ known in
            none_is_some (subst (λ (o : Option Said). IsSome o) (ap said_by front.is ∙ first_says text fits ∙ says) (sound.says kind)))

    by_tests : (0 < length text → Split (drop (4 + body_length text) text)) → (a b c : Bool) → ltb (length text) 4 ≡ a → ltb 65536 (body_length text) ≡ b → ltb (length text) (4 + body_length text) ≡ c → Split text
    by_tests behind true b c ea eb ec = none_splits text (λ first rest e sound.
        let front = front_is text first rest e sound.whole in
        let few : length text < 4 = ltb-true _ _ ea in
        absurd (omega (arith, front.fits)))
    by_tests behind false true c ea eb ec = none_splits text (λ first rest e sound.
        let front = front_is text first rest e sound.whole in
        let long : 65536 < body_length text = ltb-true _ _ eb in
        absurd (omega (arith, front.len, sound.whole.small)))
    by_tests behind false false true ea eb ec = none_splits text (λ first rest e sound.
        let front = front_is text first rest e sound.whole in
        let few : length text < 4 + body_length text = ltb-true _ _ ec in
        absurd (omega (arith, front.fits)))
    by_tests behind false false false ea eb ec =
        let some : 4 ≤ length text = ltb-false _ _ ea in
        by_body (ltb-false _ _ ec) (ltb-false _ _ eb) (behind (omega arith)) (is_known (get_or text 0 0)) refl (said_of (get_or text 0 0) (take (body_length text) (drop 4 text))) refl

pub each_text_splits : EachTextSplits
each_text_splits text = splits_by (suc (length text)) text (omega arith)

-- the first message and those behind it
head_of : (m : List ℕ) (ms : List (List ℕ)) → All IsSound (m ∷ ms) → IsSound m
head_of m ms sound = sound 0 m (omega arith)

once : (text : List ℕ) (m1 m2 : List (List ℕ)) (r1 r2 : List ℕ) → text ≡ joined m1 ++ r1 → text ≡ joined m2 ++ r2 → All IsSound m1 → All IsSound m2 → BeginsWithNone r1 → BeginsWithNone r2 → (m1 ≡ m2) × (r1 ≡ r2)
once text [] [] r1 r2 e1 e2 s1 s2 n1 n2 = (refl, sym e1 ∙ e2)
once text [] (m ∷ ms) r1 r2 e1 e2 s1 s2 n1 n2 = absurd (n1 m (joined ms ++ r2) (sym e1 ∙ e2 ∙ append_assoc m (joined ms) r2) (head_of m ms s2))
once text (m ∷ ms) [] r1 r2 e1 e2 s1 s2 n1 n2 = absurd (n2 m (joined ms ++ r1) (sym e2 ∙ e1 ∙ append_assoc m (joined ms) r1) (head_of m ms s1))
once text (m ∷ ms) (k ∷ ks) r1 r2 e1 e2 s1 s2 n1 n2 =
    let f1 = front_is text m (joined ms ++ r1) (e1 ∙ append_assoc m (joined ms) r1) (head_of m ms s1).whole in
    let f2 = front_is text k (joined ks ++ r2) (e2 ∙ append_assoc k (joined ks) r2) (head_of k ks s2).whole in
    let behind = once (drop (4 + body_length text) text) ms ks r1 r2 (sym f1.behind) (sym f2.behind) (All-tail IsSound m ms s1) (All-tail IsSound k ks s2) n1 n2 in
    let first : m ≡ k = f1.is ∙ sym f2.is in
    (λ i. first i ∷ behind.0 i, behind.1)

pub splits_once : SplitsOnce
splits_once text m1 m2 r1 r2 s1 s2 = once text m1 m2 r1 r2 s1.whole s2.whole s1.sound s2.sound s1.partial s2.partial
