-- A list of options that was spelled is read back.
use Rattle.std.proofs.Common.{◌≡◌, ℕ, ◌+◌, ◌^◌, ◌<◌, ◌≤◌, inr, inl, List, [], ◌∷◌, ◌++◌, length, get_or, take, drop, replicate, refl, sym, ap, ◌∙◌, arith, append_assoc, append-nil, drop-cons, add-one, lit≤, lit<}
use Rattle.std.proofs.Math.Seq.{drop-length}
use Rattle.std.specs.List.{All}
use Rattle.std.specs.Int.{w16}
use Rattle.std.proofs.lemmas.Nat.{from_le_bytes-to_le_bytes_2}
use Rattle.std.proofs.lemmas.List.{take_at}
use Rattle.std.proofs.lemmas.List.Elements.{All-head, All-tail}
use Rattle.cap_base.specs.Numbers.{field, padding}
use Rattle.cap_base.specs.declared.numbers.Order.TheVariants.{Little}
use Rattle.cap_base.specs.declared.notes.Note.{Note}
use Rattle.pcapng_options.specs.Options.{IsOption, BeginsWith, IsEnd}
use Rattle.pcapng_options.specs.Spelling.{u16, u32, padded_bytes, option, notes_text, end_mark, options_text}
use Rattle.pcapng_options.specs.Laws.{CanSpell, SpelledIsRead}
use Rattle.pcapng_options.proofs.Lengths.{length-option}
use Rattle.pcapng_options.proofs.Lists.{options_are_read}

option_code : (code : ℕ) (body : List ℕ) → code < 2 ^ 16 → field Little w16 (option code body) 0 ≡ code
unfolding option u16
option_code code body lt = from_le_bytes-to_le_bytes_2 code lt

option_value_len : (code : ℕ) (body : List ℕ) → length body < 2 ^ 16 → field Little w16 (option code body) 2 ≡ length body
unfolding option u16
option_value_len code body lt = from_le_bytes-to_le_bytes_2 (length body) lt

option_value : (code : ℕ) (body : List ℕ) → take (length body) (drop 4 (option code body)) ≡ body
unfolding option u16 padded_bytes
option_value code body = take_at body (replicate (padding (length body)) 0) (length body) refl

pub spelled_option : (n : Note) → CanSpell n → IsOption Little (option n.code n.body) n
spelled_option n c =
    let small : length n.body ≤ 65535 = c.body in
    record {
      len = length-option n.code n.body;
      code = sym (option_code n.code n.body c.code);
      not_end = c.not_end;
      value_len = sym (option_value_len n.code n.body (omega arith));
      value = sym (option_value n.code n.body);
    }

notes_cons : (n : Note) (ns : List Note) → notes_text (n ∷ ns) ≡ option n.code n.body ++ notes_text ns
unfolding notes_text
notes_cons n ns = refl

notes_nil : notes_text [] ≡ []
unfolding notes_text
notes_nil = refl

begins : (ns : List Note) (rest : List ℕ) → All CanSpell ns → BeginsWith Little (notes_text ns ++ rest) ns rest
begins [] rest all = rw notes_nil refl
begins (n ∷ ns) rest all = (
  option n.code n.body,
  notes_text ns ++ rest,
  ap (λ (t : List ℕ). t ++ rest) (notes_cons n ns) ∙ append_assoc (option n.code n.body) (notes_text ns) rest,
  spelled_option n (All-head CanSpell n ns all),
  begins ns rest (All-tail CanSpell n ns all),
)

ends : IsEnd Little end_mark
unfolding end_mark u32
ends = inr (lit≤ tt, refl)

pub spelled_is_read : SpelledIsRead
spelled_is_read [] all = options_are_read Little [] [] (record { rest = []; begins = refl; ends = inl (lit< tt) })
spelled_is_read (n ∷ ns) all = options_are_read Little (options_text (n ∷ ns)) (n ∷ ns) (record { rest = end_mark; begins = begins (n ∷ ns) end_mark all; ends = ends })

-- ---- the writer's loop

-- the first of the notes were written
abbrev pub HasWritten : List Note → ℕ → List ℕ → Type 0
HasWritten ns i text = text ++ notes_text (drop i ns) ≡ notes_text ns

pub written_none : (ns : List Note) (text : List ℕ) → text ≡ [] → HasWritten ns 0 text
written_none ns text e = rw e refl

pub written_more : (ns : List Note) (i : ℕ) (d : Note) (text new : List ℕ) → i < length ns → HasWritten ns i text → new ≡ text ++ option (get_or ns i d).code (get_or ns i d).body → HasWritten ns (i + 1) new
written_more ns i d text new lt had is =
    let n = get_or ns i d in
    let here : notes_text (drop i ns) ≡ option n.code n.body ++ notes_text (drop (i + 1) ns) = ap notes_text (drop-cons ns i d lt ∙ ap (λ (k : ℕ). n ∷ drop k ns) (sym (add-one i))) ∙ notes_cons n (drop (i + 1) ns) in
    ap (λ (t : List ℕ). t ++ notes_text (drop (i + 1) ns)) is ∙ append_assoc text (option n.code n.body) (notes_text (drop (i + 1) ns)) ∙ ap (λ (t : List ℕ). text ++ t) (sym here) ∙ had

pub written_all : (ns : List Note) (i : ℕ) (text : List ℕ) → i ≡ length ns → HasWritten ns i text → text ≡ notes_text ns
written_all ns i text e had =
    let none : notes_text (drop i ns) ≡ [] = ap (λ (k : ℕ). notes_text (drop k ns)) e ∙ ap notes_text (drop-length ns) ∙ notes_nil in
    sym (append-nil text) ∙ ap (λ (t : List ℕ). text ++ t) (sym none) ∙ had

pub text_of_some : (ns : List Note) → 0 < length ns → options_text ns ≡ notes_text ns ++ end_mark
text_of_some [] lt = absurd (omega arith)
text_of_some (n ∷ ns) lt = refl

pub text_of_none : (ns : List Note) → length ns ≡ 0 → options_text ns ≡ []
text_of_none [] e = refl
text_of_none (n ∷ ns) e = absurd cc

pub end_mark_is : end_mark ≡ 0 ∷ 0 ∷ 0 ∷ 0 ∷ []
unfolding end_mark u32
end_mark_is = refl
