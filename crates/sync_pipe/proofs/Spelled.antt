-- What is spelled is heard as it was said.
use Rattle.std.proofs.Common.{◌≡◌, ℕ, suc, ◌+◌, ◌-◌, ◌^◌, ◌<◌, ◌≤◌, ◌==◌, true, false, List, [], ◌∷◌, ◌++◌, length, take, drop, get_or, Some, None, refl, sym, ap, ◌∙◌, arith}
use Rattle.std.proofs.lemmas.Bool.{lt-ltb, le-leb, ne_eqb, eq-eqb}
use Rattle.std.proofs.lemmas.List.{append-nil, length-append, get_or_append_left}
use Rattle.std.proofs.lemmas.List.Elements.{All-tail}
use Rattle.std.proofs.lemmas.List.Sums.{position_or_len_is}
use Rattle.std.proofs.lemmas.Fmt.{digits_decimal, digits_value-decimal, decimal_nonempty, length-decimal-le}
use Rattle.std.proofs.Math.Seq.{take-append_seam, drop-append_seam, drop-append-add, get_or-append_seam}
use Rattle.std.specs.List.{All, flat_map, list_all, position, position_or_len}
use Rattle.std.specs.Fmt.{decimal}
use Rattle.std.specs.Str.Parse.{digits_value}
use Rattle.cap_base.specs.Feeding.{with_front}
use Rattle.sync_pipe.specs.declared.said.Said.{Said}
use Rattle.sync_pipe.specs.declared.said.Said.TheVariants.{File, Count, Drops, Error}
use Rattle.sync_pipe.specs.Bodies.{body_length, is_digit, is_known, text_of, number_of, file_of, counted, count_of, dropped, split_drops, drops_of, inner_text, first_text, second_text, error_of, said_of}
use Rattle.sync_pipe.specs.Texts.{ended, framed, kind_of, body_text, message_text, IsSayable}
use Rattle.sync_pipe.specs.Heard.{heard_at}
use Rattle.sync_pipe.specs.Messages.{IsMessage, IsSound, is_of_known_type, said_by, says}
use Rattle.sync_pipe.specs.Laws.{MessageIsHeard, MessagesAreHeard}
use Rattle.sync_pipe.proofs.Digits.{AreDigits, own_digits, digit_at}
use Rattle.sync_pipe.specs.declared.frame.Frame.TheVariants.{Cut}
use Rattle.sync_pipe.proofs.Hearings.{heard_step}
use Rattle.sync_pipe.proofs.Frames.{frame_few}
use Rattle.sync_pipe.proofs.SplitHeard.{sound_front}

-- ---- the parts of a message that was spelled

-- the length of a body is spelled
framed_length : (kind : ℕ) (body more : List ℕ) → length body < 2 ^ 24 → body_length (framed kind body ++ more) ≡ length body
unfolding framed
framed_length kind body more small = omega arith

framed_len : (kind : ℕ) (body : List ℕ) → length (framed kind body) ≡ 4 + length body
unfolding framed
framed_len kind body = omega arith

-- a text and a zero
text_of_ended : (text : List ℕ) → text_of (ended text) ≡ Some text
unfolding text_of ended
text_of_ended text =
    let count : length (text ++ 0 ∷ []) ≡ length text + 1 = length-append text (0 ∷ []) in
    let last : length (text ++ 0 ∷ []) - 1 ≡ length text = omega arith in
    rw (lt-ltb 0 (length (text ++ 0 ∷ [])) (omega arith), last, get_or-append_seam text 0 [] 0, take-append_seam text (0 ∷ [])) refl

-- a whole message
framed_is_message : (kind : ℕ) (body : List ℕ) → length body ≤ 65536 → IsMessage (framed kind body)
framed_is_message kind body small =
    let len = framed_len kind body in
    let count : body_length (framed kind body) ≡ length body = ap body_length (sym (append-nil (framed kind body))) ∙ framed_length kind body [] (omega arith) in
    record { head = omega arith; small = omega arith; whole = omega arith }

-- ---- counts

-- a count within its bound has few digits
number_of_decimal : (digits most n : ℕ) → 0 < digits → n < 10 ^ digits → n ≤ most → n < 2 ^ 64 → number_of digits most (decimal n) ≡ Some n
unfolding number_of
number_of_decimal digits most n some short small fits =
    let are : list_all is_digit (decimal n) ≡ true = digits_decimal own_digits n fits in
    let value : digits_value 10 (decimal n) ≡ n = digits_value-decimal own_digits n fits in
    rw (lt-ltb 0 (length (decimal n)) (decimal_nonempty n fits), le-leb (length (decimal n)) digits (length-decimal-le digits n some short fits), are, value, le-leb n most small) refl

-- the colon comes first behind the digits
colon_behind : (ds name : List ℕ) → AreDigits ds → position (λ b. b == 58) (ds ++ 58 ∷ name) ≡ Some (length ds)
colon_behind ds name are =
    let count : length (ds ++ 58 ∷ name) ≡ length ds + suc (length name) = length-append ds (58 ∷ name) in
    let place : position_or_len (λ b. b == 58) (ds ++ 58 ∷ name) ≡ length ds = position_or_len_is (λ b. b == 58) (ds ++ 58 ∷ name) (length ds) 0 (omega arith) fails (λ inside. ap (λ b. b == 58) (get_or-append_seam ds 58 name 0)) in
    rw (place, lt-ltb (length ds) (length (ds ++ 58 ∷ name)) (omega arith)) refl
  where
    fails : (k : ℕ) → k < length ds → (get_or (ds ++ 58 ∷ name) k 0 == 58) ≡ false
    fails k inside = let digit = digit_at ds k are inside in ap (λ b. b == 58) (get_or_append_left ds (58 ∷ name) 0 k inside) ∙ ne_eqb (get_or ds k 0) 58 (λ e. absurd (omega arith))

drops_says : (n : ℕ) (name : List ℕ) → n ≤ 2 ^ 62 → drops_of (Some (decimal n ++ 58 ∷ name)) ≡ Some (Drops n name)
unfolding drops_of
drops_says n name small =
    let fits : n < 2 ^ 64 = omega arith in
    let ds = decimal n in
    let text = decimal n ++ 58 ∷ name in
    let are : AreDigits (decimal n) = digits_decimal own_digits n fits in
    let behind : drop (length ds + 1) text ≡ name = drop-append-add ds (58 ∷ name) 1 in
    ap (λ o. split_drops o text) (colon_behind ds name are)
    ∙ ap (λ t. dropped (number_of 19 (2 ^ 62) t) (drop (length ds + 1) text)) (take-append_seam ds (58 ∷ name))
    ∙ ap (λ o. dropped o (drop (length ds + 1) text)) (number_of_decimal 19 (2 ^ 62) n (omega arith) (omega arith) small fits)
    ∙ ap (λ t. Some (Drops n t)) behind

-- ---- the two messages in an error

inner_by : (text body : List ℕ) → 4 ≤ length text → get_or text 0 0 ≡ 69 → 4 + body_length text ≤ length text → take (body_length text) (drop 4 text) ≡ body → inner_text text ≡ text_of body
unfolding inner_text
inner_by text body some kind fits is = rw (le-leb 4 (length text) some, kind, le-leb (4 + body_length text) (length text) fits) (ap text_of is)

framed_first : (kind : ℕ) (body more : List ℕ) → get_or (framed kind body ++ more) 0 0 ≡ kind
unfolding framed
framed_first kind body more = refl

framed_body : (kind : ℕ) (body more : List ℕ) → take (length body) (drop 4 (framed kind body ++ more)) ≡ body
unfolding framed
framed_body kind body more = take-append_seam body more

inner_says : (body more : List ℕ) → length body ≤ 65536 → inner_text (framed 69 body ++ more) ≡ text_of body
inner_says body more small =
    let len : body_length (framed 69 body ++ more) ≡ length body = framed_length 69 body more (omega arith) in
    let count : length (framed 69 body ++ more) ≡ length (framed 69 body) + length more = length-append (framed 69 body) more in
    let whole = framed_len 69 body in
    inner_by (framed 69 body ++ more) body (omega arith) (framed_first 69 body more) (omega arith) (ap (λ n. take n (drop 4 (framed 69 body ++ more))) len ∙ framed_body 69 body more)

error_says : (primary secondary : List ℕ) → length (framed 69 (ended primary) ++ framed 69 (ended secondary)) ≤ 65536 → error_of (framed 69 (ended primary) ++ framed 69 (ended secondary)) ≡ Some (Error primary secondary)
unfolding error_of
error_says primary secondary small =
    let f1 = framed 69 (ended primary) in
    let f2 = framed 69 (ended secondary) in
    let l1 : length f1 ≡ 4 + length (ended primary) = framed_len 69 (ended primary) in
    let l2 : length f2 ≡ 4 + length (ended secondary) = framed_len 69 (ended secondary) in
    let both : length (f1 ++ f2) ≡ length f1 + length f2 = length-append f1 f2 in
    let e1 : inner_text (f1 ++ f2) ≡ Some primary = inner_says (ended primary) f2 (omega arith) ∙ text_of_ended primary in
    let n1 : body_length (f1 ++ f2) ≡ length (ended primary) = framed_length 69 (ended primary) f2 (omega arith) in
    let place : 4 + body_length (f1 ++ f2) ≡ length f1 = omega arith in
    let behind : drop (4 + body_length (f1 ++ f2)) (f1 ++ f2) ≡ f2 = ap (λ n. drop n (f1 ++ f2)) place ∙ drop-append_seam f1 f2 in
    let e2 : inner_text f2 ≡ Some secondary = ap inner_text (sym (append-nil f2)) ∙ inner_says (ended secondary) [] (omega arith) ∙ text_of_ended secondary in
    let n2 : body_length f2 ≡ length (ended secondary) = ap body_length (sym (append-nil f2)) ∙ framed_length 69 (ended secondary) [] (omega arith) in
    ap (λ o. first_text o (drop (4 + body_length (f1 ++ f2)) (f1 ++ f2))) e1
    ∙ ap (first_text (Some primary)) behind
    ∙ ap (λ o. second_text primary o f2) e2
    ∙ rw (eq-eqb (length f2) (4 + body_length f2) (omega arith)) refl

-- ---- a message

body_says : (said : Said) → IsSayable said → said_of (kind_of said) (body_text said) ≡ Some said
unfolding said_of body_text file_of count_of
body_says (File name) is = ap file_of (text_of_ended name) ∙ rw (lt-ltb 0 (length name) is.parts.0, is.parts.2, is.parts.1) refl
body_says (Count n) is =
    let small : n ≤ 1000000000000 = is.parts in
    ap count_of (text_of_ended (decimal n)) ∙ ap counted (number_of_decimal 13 1000000000000 n (omega arith) (omega arith) small (omega arith))
body_says (Drops n name) is = ap drops_of (text_of_ended (decimal n ++ 58 ∷ name)) ∙ drops_says n name is.parts.0
body_says (Error primary secondary) is = error_says primary secondary is.small

kind_is_known : (said : Said) → is_known (kind_of said) ≡ true
kind_is_known (File name) = refl
kind_is_known (Count n) = refl
kind_is_known (Drops n name) = refl
kind_is_known (Error primary secondary) = refl

framed_says : (kind : ℕ) (body : List ℕ) → said_by (framed kind body) ≡ said_of kind body
unfolding framed
framed_says kind body = refl

framed_kind : (kind : ℕ) (body : List ℕ) → get_or (framed kind body) 0 0 ≡ kind
unfolding framed
framed_kind kind body = refl

message_says : (said : Said) → IsSayable said → said_by (message_text said) ≡ Some said
unfolding message_text
message_says said is = framed_says (kind_of said) (body_text said) ∙ body_says said is

message_is_known : (said : Said) → is_of_known_type (message_text said) ≡ true
unfolding message_text
message_is_known said = ap is_known (framed_kind (kind_of said) (body_text said)) ∙ kind_is_known said

message_is_sound : (said : Said) → IsSayable said → IsSound (message_text said)
unfolding message_text
message_is_sound said is = record { whole = framed_is_message (kind_of said) (body_text said) is.small; says = λ known. rw (message_says said is) refl }

message_front : (said : Said) (more : List ℕ) (at : ℕ) → IsSayable said → heard_at at (message_text said ++ more) ≡ with_front (said ∷ []) (heard_at (at + length (message_text said)) more)
message_front said more at is = sound_front (message_text said) more at (message_is_sound said is) ∙ ap (λ l. with_front l (heard_at (at + length (message_text said)) more)) alone
  where
    alone : says (message_text said) ≡ said ∷ []
    alone = rw (message_is_known said, message_says said is) refl

pub message_is_heard : MessageIsHeard
message_is_heard said more is = message_front said more 0 is ∙ ap (λ n. with_front (said ∷ []) (heard_at n more)) (omega arith)

all_heard : (saids : List Said) (at : ℕ) → All IsSayable saids → heard_at at (flat_map message_text saids) ≡ (saids, None)
all_heard [] at all = heard_step at [] Cut (frame_few [] (omega arith))
all_heard (said ∷ saids) at all =
    message_front said (flat_map message_text saids) at (all 0 said (omega arith))
    ∙ ap (with_front (said ∷ [])) (all_heard saids (at + length (message_text said)) (All-tail IsSayable said saids all))

pub messages_are_heard : MessagesAreHeard
messages_are_heard saids all = all_heard saids 0 all
