-- What the writer was answered, and which packets are written.
use Rattle.std.proofs.Common.{◌≡◌, ◌≢◌, ℕ, zero, suc, ◌+◌, ◌-◌, ◌<◌, ◌≤◌, Bool, true, false, cond, eqb, List, [], ◌∷◌, ◌++◌, length, take, drop, refl, sym, ap, ◌∙◌, subst, ⊎_elim, arith, length-append, append_assoc}
use Rattle.std.specs.List.{filter, flat_map, sum_by}
use Rattle.std.proofs.lemmas.List.{append-nil, take-append-drop}
use Rattle.std.proofs.lemmas.List.Elements.{filter-append}
use Rattle.std.proofs.lemmas.List.Sums.{sum_by_push}
use Rattle.std.proofs.lemmas.Bool.{cases_eq}
use Rattle.cap_base.specs.Callers.{own, tag}
use Rattle.cap_base.specs.declared.packet.Packet.{Packet}
use Rattle.cap_base.specs.declared.limits.Limits.{Limits}
use Rattle.cap_base.specs.declared.entries.Item.{Item}
use Rattle.cap_base.specs.declared.entries.Item.TheVariants as I
use Rattle.cap_base.specs.declared.entries.Entry.{Entry}
use Rattle.cap_base.specs.declared.entries.Entry.TheVariants as E
use Rattle.cap_base.specs.Histories.{History, has_stop, before_stop, items, answer_of, answered, is_no_packet, packets, line, standing}
use Rattle.cap_base.specs.Fates.{belongs, owns, owners, written, taken, lost, lost_of}
use Rattle.cap_base.specs.Legal.{Admitted, Legal}
use Rattle.cap_base.specs.Laws.{AnswersAreTheLine}
use Rattle.cap_base.proofs.Callers.{own_here, own_else}
use Rattle.cap_base.proofs.Lines.{flat_map-push, packets-append, line_going, line_stopped}
use Rattle.cap_base.proofs.Sounds.{Sound, sound}
use Rattle.cap_base.proofs.Ordered.{in_order}

-- ---- what was lost was taken

abbrev answers_in : List Entry → List Packet
answers_in es = packets (flat_map answer_of es)

abbrev Covered : List Entry → Type 0
Covered es = sum_by lost_of es ≤ length (answers_in es)

answers_push : (es : List Entry) (e : Entry) → length (answers_in (es ++ e ∷ [])) ≡ length (answers_in es) + length (packets (answer_of e))
answers_push es e = ap (λ (z : List Item). length (packets z)) (flat_map-push answer_of es e) ∙ ap length (packets-append (flat_map answer_of es) (answer_of e)) ∙ length-append (answers_in es) (packets (answer_of e))

covered_push : (es : List Entry) (e : Entry) → lost_of e ≡ 0 → Covered es → Covered (es ++ e ∷ [])
covered_push es e none w = let a : sum_by lost_of (es ++ e ∷ []) ≡ sum_by lost_of es + lost_of e = sum_by_push lost_of es e in
    let b : length (answers_in (es ++ e ∷ [])) ≡ length (answers_in es) + length (packets (answer_of e)) = answers_push es e in omega arith

covered_stop : (es : List Entry) (e : Entry) → lost_of e ≤ length (answers_in es) → (0 < lost_of e → sum_by lost_of es ≡ 0) → Covered es → Covered (es ++ e ∷ [])
covered_stop es e few once w = let a : sum_by lost_of (es ++ e ∷ []) ≡ sum_by lost_of es + lost_of e = sum_by_push lost_of es e in
    let b : length (answers_in (es ++ e ∷ [])) ≡ length (answers_in es) + length (packets (answer_of e)) = answers_push es e in go (lost_of e) refl a b where
      go : (n : ℕ) → lost_of e ≡ n → sum_by lost_of (es ++ e ∷ []) ≡ sum_by lost_of es + lost_of e → length (answers_in (es ++ e ∷ [])) ≡ length (answers_in es) + length (packets (answer_of e)) → Covered (es ++ e ∷ [])
      go zero q a b = omega arith
      go (suc n) q a b = let z : sum_by lost_of es ≡ 0 = once (omega arith) in omega arith

covered_more : (sources by : ℕ) (mine : List Entry) (e : Entry) → Admitted sources by mine e → Covered mine → Covered (mine ++ e ∷ [])
covered_more sources by mine (E.Join s i n) a w = covered_push mine (E.Join s i n) refl w
covered_more sources by mine (E.Offer s p v) a w = covered_push mine (E.Offer s p v) refl w
covered_more sources by mine (E.End s how) a w = covered_push mine (E.End s how) refl w
covered_more sources by mine (E.Take now t) a w = covered_push mine (E.Take now t) refl w
covered_more sources by mine (E.Tally now cs) a w = covered_push mine (E.Tally now cs) refl w
covered_more sources by mine (E.Stop why l) a w = covered_stop mine (E.Stop why l) a.1.taken a.1.once w

covered : (limits : Limits) (sources : ℕ) (h : History) → Legal limits sources h → Covered (own sources h)
covered limits sources h legal = go [] h (omega arith) legal where
  go : (f t : History) → Covered (own sources f) → Legal limits sources (f ++ t) → Covered (own sources (f ++ t))
  go f [] w l = subst (λ (z : History). Covered (own sources z)) (sym (append-nil f)) w
  go f (x ∷ t) w l = let is : (f ++ x ∷ []) ++ t ≡ f ++ x ∷ t = append_assoc f (x ∷ []) t in subst (λ (z : History). Covered (own sources z)) is
      (go (f ++ x ∷ []) t (⊎_elim (λ (q : x.0 ≡ sources). mine q) (λ (ne : x.0 ≢ sources). subst Covered (sym (own_else sources x.0 f x.1 ne)) w) (cases_eq x.0 sources)) (subst (Legal limits sources) (sym is) l)) where
        a : Admitted sources x.0 (own x.0 f) x.1
        a = (l f x.0 x.1 t (sym (append_assoc f (x ∷ []) t))).0

        mine : x.0 ≡ sources → Covered (own sources (f ++ x ∷ []))
        mine q = subst (λ (z : ℕ). Covered (own sources (f ++ (z, x.1) ∷ []))) (sym q) (subst Covered (sym (own_here sources f x.1)) (covered_more sources sources (own sources f) x.1 (subst (λ (z : ℕ). Admitted sources z (own z f) x.1) q a) w))

-- ---- the line

pub answers_line : (limits : Limits) (sources : ℕ) (h : History) → Legal limits sources h → AnswersAreTheLine sources h
answers_line limits sources h legal = record {
  within = w.line.within;
  answers = all;
  losses = w.lost_own;
  few = let a : sum_by lost_of (own sources h) ≤ length (answers_in (own sources h)) = covered limits sources h legal in let b : sum_by lost_of (own sources h) ≡ lost h = w.lost_own in
      let c : length (answers_in (own sources h)) ≡ length (taken h) = ap (λ (z : List Item). length (packets z)) all in omega arith;
} where
  w : Sound limits sources h
  w = sound limits sources h legal

  all : flat_map answer_of (own sources h) ≡ take (answered h) (line h)
  all = w.wrote ∙ w.line.answers

pub within_limit : (limits : Limits) (sources : ℕ) (h : History) → Legal limits sources h → length (standing h) ≤ limits.packets
within_limit limits sources h legal = (sound limits sources h legal).few

-- ---- the first of those that were accepted

-- one list begins with the other
abbrev Begins : List Packet → List Packet → Type 0
Begins xs front = (later : List Packet) × (xs ≡ front ++ later)

begins_take : (n : ℕ) (xs : List Packet) → Begins xs (take n xs)
begins_take n xs = (drop n xs, sym (take-append-drop n xs))

begins_more : (xs ys zs : List Packet) → Begins xs ys → Begins ys zs → Begins xs zs
begins_more xs ys zs a b = (b.0 ++ a.0, a.1 ∙ ap (λ (z : List Packet). z ++ a.0) b.1 ∙ append_assoc zs b.0 a.0)

begins_items : (n : ℕ) (is : List Item) → Begins (packets is) (packets (take n is))
begins_items n is = (packets (drop n is), ap packets (sym (take-append-drop n is)) ∙ packets-append (take n is) (drop n is))

-- behind the items without packets no more of them are taken
take_struck : (a : ℕ) (xs ys : List Item) → packets (take a (xs ++ filter is_no_packet ys)) ≡ packets (take a xs)
take_struck a [] ys = none a ys where
  none : (a : ℕ) (ys : List Item) → packets (take a (filter is_no_packet ys)) ≡ packets (take a [])
  none zero ys = refl
  none (suc a) [] = refl
  none (suc a) (I.Packet p ∷ ys) = none (suc a) ys
  none (suc a) (I.Iface n i ∷ ys) = none a ys ∙ empty a where
    empty : (a : ℕ) → packets (take a []) ≡ []
    empty zero = refl
    empty (suc a) = refl
  none (suc a) (I.Ended s how ∷ ys) = none a ys ∙ empty a where
    empty : (a : ℕ) → packets (take a []) ≡ []
    empty zero = refl
    empty (suc a) = refl
take_struck zero (x ∷ xs) ys = refl
take_struck (suc a) (I.Packet p ∷ xs) ys = ap (λ (z : List Packet). p ∷ z) (take_struck a xs ys)
take_struck (suc a) (I.Iface n i ∷ xs) ys = take_struck a xs ys
take_struck (suc a) (I.Ended s how ∷ xs) ys = take_struck a xs ys

begins_taken : (h : History) → Begins (packets (items h)) (taken h)
begins_taken h = go (has_stop h) refl where
  go : (b : Bool) → has_stop h ≡ b → Begins (packets (items h)) (taken h)
  go false q = subst (λ (z : List Item). Begins (packets (items h)) (packets (take (answered h) z))) (sym (line_going h q)) (begins_items (answered h) (items h))
  go true q = let n : ℕ = answered (before_stop h) in
      subst (λ (z : List Item). Begins (packets (items h)) (packets (take (answered h) z))) (sym (line_stopped h q))
      (subst (Begins (packets (items h))) (sym (take_struck (answered h) (take n (items h)) (drop n (items h))))
      (begins_more (packets (items h)) (packets (take n (items h))) _ (begins_items n (items h)) (begins_items (answered h) (take n (items h)))))

pub begins_written : (h : History) → Begins (packets (items h)) (written h)
begins_written h = begins_more (packets (items h)) (taken h) (written h) (begins_taken h) (begins_take (length (taken h) - lost h) (taken h))

-- ---- of one source

abbrev pub owned : List ℕ → ℕ → List Packet → List Packet
owned os s ps = filter (λ p. owns os s p.iface) ps

pub packets_owned : (os : List ℕ) (s : ℕ) (is : List Item) → packets (filter (belongs os s) is) ≡ owned os s (packets is)
packets_owned os s [] = refl
packets_owned os s (I.Packet p ∷ is) = step (owns os s p.iface) (packets_owned os s is) where
  step : (b : Bool) → packets (filter (belongs os s) is) ≡ owned os s (packets is) → packets (cond b (I.Packet p ∷ filter (belongs os s) is) (filter (belongs os s) is)) ≡ cond b (p ∷ owned os s (packets is)) (owned os s (packets is))
  step true e = ap (λ (z : List Packet). p ∷ z) e
  step false e = e
packets_owned os s (I.Iface n i ∷ is) = step (owns os s n) ∙ packets_owned os s is where
  step : (b : Bool) → packets (cond b (I.Iface n i ∷ filter (belongs os s) is) (filter (belongs os s) is)) ≡ packets (filter (belongs os s) is)
  step true = refl
  step false = refl
packets_owned os s (I.Ended t how ∷ is) = step (eqb t s) ∙ packets_owned os s is where
  step : (b : Bool) → packets (cond b (I.Ended t how ∷ filter (belongs os s) is) (filter (belongs os s) is)) ≡ packets (filter (belongs os s) is)
  step true = refl
  step false = refl

pub begins_own : (limits : Limits) (sources : ℕ) (h : History) (s : ℕ) → Legal limits sources h → Begins (packets (items (tag s (own s h)))) (filter (λ p. owns (owners h) s p.iface) (written h))
begins_own limits sources h s legal = let w = begins_written h in (
  owned (owners h) s w.0,
  ap packets (sym (in_order limits sources h s legal)) ∙ packets_owned (owners h) s (items h) ∙ ap (owned (owners h) s) w.1 ∙ filter-append (λ (p : Packet). owns (owners h) s p.iface) (written h) w.0,
)
