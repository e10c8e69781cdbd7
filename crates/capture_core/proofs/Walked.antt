-- The messages in what was done.
use Rattle.std.proofs.Common.{◌≡◌, ◌⊎◌, inl, inr, ℕ, ◌+◌, ◌<◌, ◌≤◌, false, Option, Some, None, List, [], ◌∷◌, ◌++◌, length, refl, sym, ap, ◌∙◌, subst, arith, length-append, append_assoc}
use Rattle.std.specs.List.{All, flat_map}
use Rattle.std.proofs.lemmas.List.{append-nil}
use Rattle.std.proofs.lemmas.List.Elements.{All-head, All-tail}
use Rattle.cap_base.specs.Effects.{Effect, created, byte, finished, removed, said, bytes, saying}
use Rattle.pcapng_blocks.specs.Spelling.{spell}
use Rattle.sync_pipe.specs.Texts.{IsSayable, kind_of, message_text}
use Rattle.sync_pipe.specs.declared.said.Said.{Said}
use Rattle.sync_pipe.specs.declared.said.Said.TheVariants as message
use Rattle.capture_desk.specs.declared.acts.Act.{Act}
use Rattle.capture_desk.specs.declared.acts.Act.TheVariants.{Create, Put, Finish, Remove, Say}
use Rattle.capture_desk.specs.Doing.{packet_of, effects_of_acts}
use Rattle.capture_core.specs.Views.{Known, after_creation, after_block, after_message, count_after, counted_behind, file_after, file_behind, IsTrueOf, said_bytes}
use Rattle.capture_desk.specs.Cuts.{has_say}
use Rattle.capture_core.proofs.Announced.{IsQuiet, AreQuiet}
use Rattle.capture_core.proofs.Messages.{AreAlike, IsSmall, texts, some_text, alike, small_sayable}
use Rattle.capture_core.proofs.Reached.{put_now, created_now, within}

-- ---- lists of effects

abbrev pub Ends : List Effect → Type 0
Ends es = (front : List Effect) × (b : ℕ) × (es ≡ front ++ said b ∷ [])

heads : (x y : Effect) (xs ys : List Effect) → x ∷ xs ≡ y ∷ ys → (x ≡ y) × (xs ≡ ys)
heads x y xs ys e = (cc, cc)

pub said_both : (xs ys : List Effect) → said_bytes (xs ++ ys) ≡ said_bytes xs ++ said_bytes ys
said_both [] ys = refl
said_both (created name ∷ xs) ys = said_both xs ys
said_both (byte b ∷ xs) ys = said_both xs ys
said_both (finished ∷ xs) ys = said_both xs ys
said_both (removed name ∷ xs) ys = said_both xs ys
said_both (said b ∷ xs) ys = ap (λ (z : List ℕ). b ∷ z) (said_both xs ys)

pub none_put : (t : List ℕ) → said_bytes (bytes t) ≡ []
none_put [] = refl
none_put (b ∷ t) = none_put t

all_said : (t : List ℕ) → said_bytes (saying t) ≡ t
all_said [] = refl
all_said (b ∷ t) = ap (λ (z : List ℕ). b ∷ z) (all_said t)

-- where a byte was said last, some were said
pub ends_some : (es : List Effect) → Ends es → 0 < length (said_bytes es)
ends_some es w = let a : length (said_bytes es) ≡ length (said_bytes w.0) + length (said_bytes (said w.1 ∷ [])) = ap (λ (z : List Effect). length (said_bytes z)) w.2 ∙ ap length (said_both w.0 (said w.1 ∷ [])) ∙ length-append (said_bytes w.0) (said_bytes (said w.1 ∷ [])) in
    let b : length (said_bytes (said w.1 ∷ [])) ≡ 1 = omega arith in omega arith

pub no_end : (es : List Effect) → said_bytes es ≡ [] → Ends es → ⊥
no_end es e w = let a : 0 < length (said_bytes es) = ends_some es w in let b : length (said_bytes es) ≡ 0 = ap length e in absurd (omega arith)

none_both : (xs ys : List ℕ) → xs ++ ys ≡ [] → (xs ≡ []) × (ys ≡ [])
none_both [] ys e = (refl, e)
none_both (x ∷ xs) ys e = cc

no_effect : (xs ys : List Effect) → xs ++ ys ≡ [] → ys ≡ []
no_effect [] ys e = e
no_effect (x ∷ xs) ys e = cc

-- the last byte is said in the second part, unless that is empty
ends_more : (xs more front : List Effect) (b : ℕ) → xs ++ more ≡ front ++ said b ∷ [] → (more ≡ []) ⊎ Ends more
ends_more [] more front b e = inr (front, b, e)
ends_more (x ∷ xs) more [] b e = inl (no_effect xs more (heads x (said b) (xs ++ more) [] e).1)
ends_more (x ∷ xs) more (y ∷ front) b e = ends_more xs more front b (heads x y (xs ++ more) (front ++ said b ∷ []) e).1

-- one list begins the other
abbrev Cuts : List Effect → List Effect → List Effect → List Effect → Type 0
Cuts xs ys before rest = ((left : List Effect) × (xs ≡ before ++ left)) ⊎ ((more : List Effect) × (before ≡ xs ++ more) × (ys ≡ more ++ rest))

cuts : (xs ys before rest : List Effect) → xs ++ ys ≡ before ++ rest → Cuts xs ys before rest
cuts [] ys before rest e = inr (before, refl, e)
cuts (x ∷ xs) ys [] rest e = inl (x ∷ xs, refl)
cuts (x ∷ xs) ys (y ∷ before) rest e = go (cuts xs ys before rest h.1) where
  h : (x ≡ y) × (xs ++ ys ≡ before ++ rest)
  h = heads x y (xs ++ ys) (before ++ rest) e

  go : Cuts xs ys before rest → Cuts (x ∷ xs) ys (y ∷ before) rest
  go (inl w) = inl (w.0, ap (λ (z : Effect). z ∷ xs) h.0 ∙ ap (λ (z : List Effect). y ∷ z) w.1)
  go (inr w) = inr (w.0, ap (λ (z : Effect). z ∷ before) (sym h.0) ∙ ap (λ (z : List Effect). x ∷ z) w.1, w.2)

-- behind effects of which none is said
pub record Skips (es ys before rest : List Effect) : Type 0 where
  pub more : List Effect
  pub is : before ≡ es ++ more
  pub goes : ys ≡ more ++ rest
  pub ends : Ends more
  pub same : said_bytes more ≡ said_bytes before

pub skips : (es ys before rest : List Effect) → said_bytes es ≡ [] → es ++ ys ≡ before ++ rest → Ends before → Skips es ys before rest
skips es ys before rest none e ends = go (cuts es ys before rest e) where
  go : Cuts es ys before rest → Skips es ys before rest
  go (inl w) = let a : said_bytes before ++ said_bytes w.0 ≡ [] = sym (said_both before w.0) ∙ ap said_bytes (sym w.1) ∙ none in absurd (no_end before (none_both (said_bytes before) (said_bytes w.0) a).0 ends)
  go (inr w) = by (ends_more es w.0 ends.0 ends.1 (sym w.1 ∙ ends.2)) where
    same_said : said_bytes w.0 ≡ said_bytes before
    same_said = sym (ap said_bytes w.1 ∙ said_both es w.0 ∙ ap (λ (z : List ℕ). z ++ said_bytes w.0) none)

    by : (w.0 ≡ []) ⊎ Ends w.0 → Skips es ys before rest
    by (inl n) = absurd (no_end before (sym same_said ∙ ap said_bytes n) ends)
    by (inr m) = record { more = w.0; is = w.1; goes = w.2; ends = m; same = same_said }

-- ---- acts that say messages

-- what is known while messages go out; none where no more go out
abbrev pub Mode : Type 0
Mode = Option Known

abbrev pub created_mode : Mode → List ℕ → Mode
created_mode None name = None
created_mode (Some k) name = Some (after_creation k name)

abbrev pub put_mode : Mode → ℕ → Mode
put_mode None n = None
put_mode (Some k) n = Some (after_block k n)

-- a message is said whole, or only its first bytes, and then none any more
abbrev pub Speaks : Mode → List ℕ → (Mode → Type 0) → Type 0
Speaks None bytes next = ⊥
Speaks (Some k) bytes next = ((m : Said) × (bytes ≡ message_text m) × IsTrueOf k m × next (Some (after_message k m))) ⊎ ((m : Said) × (left : List ℕ) × (message_text m ≡ bytes ++ left) × (0 < length left) × next None)

abbrev pub Tells : Mode → List Act → Mode → Type 0
Tells st [] st' = st ≡ st'
Tells st (Create name ∷ more) st' = Tells (created_mode st name) more st'
Tells st (Put b ∷ more) st' = Tells (put_mode st (length (packet_of (Put b)))) more st'
Tells st (Say bytes ∷ more) st' = Speaks st bytes (λ next. Tells next more st')
Tells st (Finish ∷ more) st' = Tells st more st'
Tells st (Remove name ∷ more) st' = Tells st more st'

pub tells_both : (st : Mode) (xs : List Act) (st' : Mode) (ys : List Act) (st'' : Mode) → Tells st xs st' → Tells st' ys st'' → Tells st (xs ++ ys) st''
tells_both st [] st' ys st'' w v = subst (λ (z : Mode). Tells z ys st'') (sym w) v
tells_both st (Create name ∷ xs) st' ys st'' w v = tells_both (created_mode st name) xs st' ys st'' w v
tells_both st (Put b ∷ xs) st' ys st'' w v = tells_both (put_mode st (length (packet_of (Put b)))) xs st' ys st'' w v
tells_both st (Finish ∷ xs) st' ys st'' w v = tells_both st xs st' ys st'' w v
tells_both st (Remove name ∷ xs) st' ys st'' w v = tells_both st xs st' ys st'' w v
tells_both None (Say b ∷ xs) st' ys st'' w v = absurd w
tells_both (Some k) (Say b ∷ xs) st' ys st'' (inl w) v = inl (w.0, w.1, w.2, tells_both (Some (after_message k w.0)) xs st' ys st'' w.3 v)
tells_both (Some k) (Say b ∷ xs) st' ys st'' (inr w) v = inr (w.0, w.1, w.2, w.3, tells_both None xs st' ys st'' w.4 v)

pub tells_front : (st : Mode) (xs ys : List Act) (st'' : Mode) → Tells st (xs ++ ys) st'' → (st' : Mode) × Tells st xs st'
tells_front st [] ys st'' w = (st, refl)
tells_front st (Create name ∷ xs) ys st'' w = tells_front (created_mode st name) xs ys st'' w
tells_front st (Put b ∷ xs) ys st'' w = tells_front (put_mode st (length (packet_of (Put b)))) xs ys st'' w
tells_front st (Finish ∷ xs) ys st'' w = tells_front st xs ys st'' w
tells_front st (Remove name ∷ xs) ys st'' w = tells_front st xs ys st'' w
tells_front None (Say b ∷ xs) ys st'' w = absurd w
tells_front (Some k) (Say b ∷ xs) ys st'' (inl w) = let v = tells_front (Some (after_message k w.0)) xs ys st'' w.3 in (v.0, inl (w.0, w.1, w.2, v.1))
tells_front (Some k) (Say b ∷ xs) ys st'' (inr w) = let v = tells_front None xs ys st'' w.4 in (v.0, inr (w.0, w.1, w.2, w.3, v.1))

-- where no more go out, none does
mute : (xs : List Act) (st : Mode) → Tells None xs st → (st ≡ None) × (said_bytes (effects_of_acts xs) ≡ [])
mute [] st w = (sym w, refl)
mute (Create name ∷ xs) st w = mute xs st w
mute (Put b ∷ xs) st w = let v = mute xs st w in (v.0, said_both (bytes (spell b)) (effects_of_acts xs) ∙ ap (λ (z : List ℕ). z ++ said_bytes (effects_of_acts xs)) (none_put (spell b)) ∙ v.1)
mute (Finish ∷ xs) st w = mute xs st w
mute (Remove name ∷ xs) st w = mute xs st w
mute (Say b ∷ xs) st w = absurd w

small_true : (k : Known) (m : Said) → IsTrueOf k m → IsSmall m
small_true k (message.File name) t = tt
small_true k (message.Count n) t = let a : n ≤ 64 = t.2 in omega arith
small_true k (message.Drops n name) t = tt
small_true k (message.Error a b) t = tt

-- ---- the messages heard

-- these effects are all of the first acts, and the messages so far name the file created last and count no more than was put
pub record Found (k : Known) (xs : List Act) (before : List Effect) (messages : List Said) : Type 0 where
  pub front : List Act
  pub rest : List Act
  pub split : xs ≡ front ++ rest
  pub is : before ≡ effects_of_acts front
  pub few : counted_behind k.counted messages ≤ put_now k.put front
  pub last : file_behind k.named messages ≡ created_now k.created front

-- they go on behind all these acts
pub record Passed (tl rest : List Effect) (messages : List Said) : Type 0 where
  pub more : List Effect
  pub goes : tl ≡ more ++ rest
  pub ends : Ends more
  pub heard : List Said
  pub left : List Said
  pub parts : messages ≡ heard ++ left
  pub said_is : said_bytes more ≡ flat_map message_text left

abbrev pub Walked : Known → List Act → List Effect → List Effect → List Effect → List Said → Type 0
Walked k xs tl before rest messages = Found k xs before messages ⊎ Passed tl rest messages

-- messages without a text are none
no_text : (ms : List Said) → flat_map message_text ms ≡ [] → ms ≡ []
no_text [] e = refl
no_text (m ∷ ms) e = let a = none_both (message_text m) (flat_map message_text ms) e in let b : 0 < length (message_text m) = some_text m in let c : length (message_text m) ≡ 0 = ap length a.0 in absurd (omega arith)

-- effects that stand behind others of a text that is said are of it
rest_said : (t : List ℕ) (before left : List Effect) → saying t ≡ before ++ left → left ≡ saying (said_bytes left)
rest_said t [] left e = go t left e where
  go : (t : List ℕ) (left : List Effect) → saying t ≡ left → left ≡ saying (said_bytes left)
  go t left e = sym e ∙ ap saying (sym (all_said t)) ∙ ap (λ (z : List Effect). saying (said_bytes z)) e
rest_said [] (x ∷ before) left e = cc
rest_said (b ∷ t) (x ∷ before) left e = rest_said t before left (heads (said b) x (saying t) (before ++ left) e).1

-- one act more in front
create_more : (k : Known) (name : List ℕ) (xs : List Act) (before more : List Effect) (messages : List Said) → before ≡ created name ∷ more → Found (after_creation k name) xs more messages → Found k (Create name ∷ xs) before messages
create_more k name xs before more messages e w = record { front = Create name ∷ w.front; rest = w.rest; split = ap (λ (z : List Act). Create name ∷ z) w.split; is = e ∙ ap (λ (z : List Effect). created name ∷ z) w.is; few = w.few; last = w.last }

pub walk : (k : Known) (xs : List Act) (st : Mode) (tl before rest : List Effect) (messages : List Said) → Tells (Some k) xs st → (st ≡ None → said_bytes tl ≡ []) → effects_of_acts xs ++ tl ≡ before ++ rest → Ends before → All IsSayable messages
    → said_bytes before ≡ flat_map message_text messages → Walked k xs tl before rest messages
walk k [] st tl before rest messages w q e ends s is = inr (record { more = before; goes = e; ends = ends; heard = []; left = messages; parts = refl; said_is = is })
walk k (Create name ∷ xs) st tl before rest messages w q e ends s is = go (walk (after_creation k name) xs st tl v.more rest messages w q v.goes v.ends s (v.same ∙ is)) where
  v : Skips (created name ∷ []) (effects_of_acts xs ++ tl) before rest
  v = skips (created name ∷ []) (effects_of_acts xs ++ tl) before rest refl e ends

  go : Walked (after_creation k name) xs tl v.more rest messages → Walked k (Create name ∷ xs) tl before rest messages
  go (inl f) = inl (create_more k name xs before v.more messages v.is f)
  go (inr p) = inr p
walk k (Put b ∷ xs) st tl before rest messages w q e ends s is = go (walk (after_block k (length (packet_of (Put b)))) xs st tl v.more rest messages w q v.goes v.ends s (v.same ∙ is)) where
  v : Skips (bytes (spell b)) (effects_of_acts xs ++ tl) before rest
  v = skips (bytes (spell b)) (effects_of_acts xs ++ tl) before rest (none_put (spell b)) (sym (append_assoc (bytes (spell b)) (effects_of_acts xs) tl) ∙ e) ends

  go : Walked (after_block k (length (packet_of (Put b)))) xs tl v.more rest messages → Walked k (Put b ∷ xs) tl before rest messages
  go (inl f) = inl (record { front = Put b ∷ f.front; rest = f.rest; split = ap (λ (z : List Act). Put b ∷ z) f.split; is = v.is ∙ ap (λ (z : List Effect). bytes (spell b) ++ z) f.is; few = f.few; last = f.last })
  go (inr p) = inr p
walk k (Finish ∷ xs) st tl before rest messages w q e ends s is = go (walk k xs st tl v.more rest messages w q v.goes v.ends s (v.same ∙ is)) where
  v : Skips (finished ∷ []) (effects_of_acts xs ++ tl) before rest
  v = skips (finished ∷ []) (effects_of_acts xs ++ tl) before rest refl e ends

  go : Walked k xs tl v.more rest messages → Walked k (Finish ∷ xs) tl before rest messages
  go (inl f) = inl (record { front = Finish ∷ f.front; rest = f.rest; split = ap (λ (z : List Act). Finish ∷ z) f.split; is = v.is ∙ ap (λ (z : List Effect). finished ∷ z) f.is; few = f.few; last = f.last })
  go (inr p) = inr p
walk k (Remove name ∷ xs) st tl before rest messages w q e ends s is = go (walk k xs st tl v.more rest messages w q v.goes v.ends s (v.same ∙ is)) where
  v : Skips (removed name ∷ []) (effects_of_acts xs ++ tl) before rest
  v = skips (removed name ∷ []) (effects_of_acts xs ++ tl) before rest refl e ends

  go : Walked k xs tl v.more rest messages → Walked k (Remove name ∷ xs) tl before rest messages
  go (inl f) = inl (record { front = Remove name ∷ f.front; rest = f.rest; split = ap (λ (z : List Act). Remove name ∷ z) f.split; is = v.is ∙ ap (λ (z : List Effect). removed name ∷ z) f.is; few = f.few; last = f.last })
  go (inr p) = inr p
walk k (Say b ∷ xs) st tl before rest [] w q e ends s is = absurd (no_end before is ends)
walk k (Say b ∷ xs) st tl before rest (m ∷ ms) (inl w) q e ends s is = go (λ more f n t. walk (after_message k w.0) xs st tl more rest ms w.3 q f n (All-tail IsSayable m ms s) t) (cuts (saying b) (effects_of_acts xs ++ tl) before rest (sym (append_assoc (saying b) (effects_of_acts xs) tl) ∙ e)) where
  -- the message that is said is the one that was heard
  same : AreAlike m w.0 → (count_after k.counted m ≤ k.put) × (file_after k.named m ≡ k.created)
  same a = let v = within k w.0 w.2 in (subst (λ (z : ℕ). z ≤ k.put) (sym (a.count k.counted)) v.0, a.file k.named ∙ v.1)

  here : AreAlike m w.0 → ms ≡ [] → before ≡ saying b → Walked k (Say b ∷ xs) tl before rest (m ∷ ms)
  here a none is_all = inl (record {
    front = Say b ∷ [];
    rest = xs;
    split = refl;
    is = is_all ∙ sym (append-nil (saying b));
    few = subst (λ (z : List Said). counted_behind k.counted (m ∷ z) ≤ k.put) (sym none) (same a).0;
    last = ap (λ (z : List Said). file_behind k.named (m ∷ z)) none ∙ (same a).1;
  })

  further : AreAlike m w.0 → (c : List Effect) → before ≡ saying b ++ c → Walked (after_message k w.0) xs tl c rest ms → Walked k (Say b ∷ xs) tl before rest (m ∷ ms)
  further a c is_all (inl f) = inl (record {
    front = Say b ∷ f.front;
    rest = f.rest;
    split = ap (λ (z : List Act). Say b ∷ z) f.split;
    is = is_all ∙ ap (λ (z : List Effect). saying b ++ z) f.is;
    few = subst (λ (z : ℕ). counted_behind z ms ≤ put_now k.put f.front) (sym (a.count k.counted)) f.few;
    last = ap (λ (z : Option (List ℕ)). file_behind z ms) (a.file k.named) ∙ f.last;
  })
  further a c is_all (inr p) = inr (record { more = p.more; goes = p.goes; ends = p.ends; heard = m ∷ p.heard; left = p.left; parts = ap (λ (z : List Said). m ∷ z) p.parts; said_is = p.said_is })

  by : ((more : List Effect) → effects_of_acts xs ++ tl ≡ more ++ rest → Ends more → said_bytes more ≡ flat_map message_text ms → Walked (after_message k w.0) xs tl more rest ms) → AreAlike m w.0 → (c : List Effect) → before ≡ saying b ++ c → effects_of_acts xs ++ tl ≡ c ++ rest → flat_map message_text ms ≡ said_bytes c → (c ≡ []) ⊎ Ends c
      → Walked k (Say b ∷ xs) tl before rest (m ∷ ms)
  by on a c is_all f t (inl n) = here a (no_text ms (t ∙ ap said_bytes n)) (is_all ∙ ap (λ (z : List Effect). saying b ++ z) n ∙ append-nil (saying b))
  by on a c is_all f t (inr n) = further a c is_all (on c f n (sym t))

  go : ((more : List Effect) → effects_of_acts xs ++ tl ≡ more ++ rest → Ends more → said_bytes more ≡ flat_map message_text ms → Walked (after_message k w.0) xs tl more rest ms) → Cuts (saying b) (effects_of_acts xs ++ tl) before rest → Walked k (Say b ∷ xs) tl before rest (m ∷ ms)
  go on (inl c) = let left : List ℕ = said_bytes c.0 in
      let text : message_text m ++ (flat_map message_text ms ++ left) ≡ message_text w.0 ++ [] = sym (append_assoc (message_text m) (flat_map message_text ms) left) ∙ ap (λ (z : List ℕ). z ++ left) (sym is) ∙ sym (said_both before c.0) ∙ ap said_bytes (sym c.1) ∙ all_said b ∙ w.1 ∙ sym (append-nil (message_text w.0)) in
      let t = texts m w.0 (flat_map message_text ms ++ left) [] text in let n = none_both (flat_map message_text ms) left t.2 in
      here (alike m w.0 (small_sayable m (All-head IsSayable m ms s)) (small_true k w.0 w.2) t.0 t.1) (no_text ms n.0)
      (sym (c.1 ∙ ap (λ (z : List Effect). before ++ z) (rest_said b before c.0 c.1 ∙ ap saying n.1) ∙ append-nil before))
  go on (inr c) = let text : message_text m ++ flat_map message_text ms ≡ message_text w.0 ++ said_bytes c.0 = sym is ∙ ap said_bytes c.1 ∙ said_both (saying b) c.0 ∙ ap (λ (z : List ℕ). z ++ said_bytes c.0) (all_said b ∙ w.1) in
      let t = texts m w.0 (flat_map message_text ms) (said_bytes c.0) text in
      by on (alike m w.0 (small_sayable m (All-head IsSayable m ms s)) (small_true k w.0 w.2) t.0 t.1) c.0 c.1 c.2 t.2 (ends_more (saying b) c.0 ends.0 ends.1 (sym c.1 ∙ ends.2))
walk k (Say b ∷ xs) st tl before rest (m ∷ ms) (inr w) q e ends s is = go (cuts (saying b) (effects_of_acts xs ++ tl) before rest (sym (append_assoc (saying b) (effects_of_acts xs) tl) ∙ e)) where
  -- no whole message stands in the first bytes of another
  never : (rest_of : List ℕ) → message_text m ++ rest_of ≡ b → ⊥
  never rest_of f = let text : message_text m ++ (rest_of ++ w.1) ≡ message_text w.0 ++ [] = sym (append_assoc (message_text m) rest_of w.1) ∙ ap (λ (z : List ℕ). z ++ w.1) f ∙ sym w.2 ∙ sym (append-nil (message_text w.0)) in
      let n = none_both rest_of w.1 (texts m w.0 (rest_of ++ w.1) [] text).2 in let l : length w.1 ≡ 0 = ap length n.1 in let lt : 0 < length w.1 = w.3 in absurd (omega arith)

  go : Cuts (saying b) (effects_of_acts xs ++ tl) before rest → Walked k (Say b ∷ xs) tl before rest (m ∷ ms)
  go (inl c) = absurd (never (flat_map message_text ms ++ said_bytes c.0) (sym (append_assoc (message_text m) (flat_map message_text ms) (said_bytes c.0)) ∙ ap (λ (z : List ℕ). z ++ said_bytes c.0) (sym is) ∙ sym (said_both before c.0) ∙ ap said_bytes (sym c.1) ∙ all_said b))
  go (inr c) = let v = mute xs st w.4 in let quiet : said_bytes (effects_of_acts xs ++ tl) ≡ [] = said_both (effects_of_acts xs) tl ∙ ap (λ (z : List ℕ). z ++ said_bytes tl) v.1 ∙ q v.0 in
      let none = none_both (said_bytes c.0) (said_bytes rest) (sym (said_both c.0 rest) ∙ ap said_bytes (sym c.2) ∙ quiet) in
      absurd (never (flat_map message_text ms) (sym is ∙ ap said_bytes c.1 ∙ said_both (saying b) c.0 ∙ ap (λ (z : List ℕ). said_bytes (saying b) ++ z) none.0 ∙ append-nil (said_bytes (saying b)) ∙ all_said b))

-- ---- messages that name nothing and count nothing

-- each message is such a one, or only its first bytes are said, and then none any more
abbrev pub QuietSays : List Act → Type 0
QuietSays [] = Unit {0}
QuietSays (Say bytes ∷ more) = ((m : Said) × (bytes ≡ message_text m) × IsQuiet m × QuietSays more) ⊎ ((m : Said) × (left : List ℕ) × (message_text m ≡ bytes ++ left) × (0 < length left) × (has_say more ≡ false))
QuietSays (Create name ∷ more) = QuietSays more
QuietSays (Put b ∷ more) = QuietSays more
QuietSays (Finish ∷ more) = QuietSays more
QuietSays (Remove name ∷ more) = QuietSays more

-- the type tells whether it is one
quiet_kind : (m n : Said) → IsQuiet n → kind_of m ≡ kind_of n → IsQuiet m
quiet_kind (message.Drops a b) n q e = tt
quiet_kind (message.Error a b) n q e = tt
quiet_kind (message.File a) (message.File b) q e = absurd q
quiet_kind (message.File a) (message.Count b) q e = absurd q
quiet_kind (message.File a) (message.Drops b c) q e = absurd (omega arith)
quiet_kind (message.File a) (message.Error b c) q e = absurd (omega arith)
quiet_kind (message.Count a) (message.File b) q e = absurd q
quiet_kind (message.Count a) (message.Count b) q e = absurd q
quiet_kind (message.Count a) (message.Drops b c) q e = absurd (omega arith)
quiet_kind (message.Count a) (message.Error b c) q e = absurd (omega arith)

pub silent_effects : (xs : List Act) → has_say xs ≡ false → said_bytes (effects_of_acts xs) ≡ []
silent_effects [] e = refl
silent_effects (Say m ∷ xs) e = cc
silent_effects (Create name ∷ xs) e = silent_effects xs e
silent_effects (Put b ∷ xs) e = said_both (bytes (spell b)) (effects_of_acts xs) ∙ ap (λ (z : List ℕ). z ++ said_bytes (effects_of_acts xs)) (none_put (spell b)) ∙ silent_effects xs e
silent_effects (Finish ∷ xs) e = silent_effects xs e
silent_effects (Remove name ∷ xs) e = silent_effects xs e

pub all_quiet : (xs : List Act) (before rest : List Effect) (messages : List Said) → QuietSays xs → effects_of_acts xs ≡ before ++ rest → Ends before → said_bytes before ≡ flat_map message_text messages → AreQuiet messages
all_quiet [] before rest messages w e ends is = absurd (no_end before (ap said_bytes (none before rest (sym e))) ends) where
  none : (xs ys : List Effect) → xs ++ ys ≡ [] → xs ≡ []
  none [] ys e = refl
  none (x ∷ xs) ys e = cc
all_quiet (Create name ∷ xs) before rest messages w e ends is = let v = skips (created name ∷ []) (effects_of_acts xs) before rest refl e ends in all_quiet xs v.more rest messages w v.goes v.ends (v.same ∙ is)
all_quiet (Put b ∷ xs) before rest messages w e ends is = let v = skips (bytes (spell b)) (effects_of_acts xs) before rest (none_put (spell b)) e ends in all_quiet xs v.more rest messages w v.goes v.ends (v.same ∙ is)
all_quiet (Finish ∷ xs) before rest messages w e ends is = let v = skips (finished ∷ []) (effects_of_acts xs) before rest refl e ends in all_quiet xs v.more rest messages w v.goes v.ends (v.same ∙ is)
all_quiet (Remove name ∷ xs) before rest messages w e ends is = let v = skips (removed name ∷ []) (effects_of_acts xs) before rest refl e ends in all_quiet xs v.more rest messages w v.goes v.ends (v.same ∙ is)
all_quiet (Say b ∷ xs) before rest [] w e ends is = absurd (no_end before is ends)
all_quiet (Say b ∷ xs) before rest (m ∷ ms) (inl w) e ends is = go (λ more f n t. all_quiet xs more rest ms w.3 f n t) (cuts (saying b) (effects_of_acts xs) before rest e) where
  by : ((more : List Effect) → effects_of_acts xs ≡ more ++ rest → Ends more → said_bytes more ≡ flat_map message_text ms → AreQuiet ms) → (c : List Effect) → effects_of_acts xs ≡ c ++ rest → flat_map message_text ms ≡ said_bytes c → (c ≡ []) ⊎ Ends c → AreQuiet ms
  by on c f t (inl n) = subst AreQuiet (sym (no_text ms (t ∙ ap said_bytes n))) tt
  by on c f t (inr n) = on c f n (sym t)

  go : ((more : List Effect) → effects_of_acts xs ≡ more ++ rest → Ends more → said_bytes more ≡ flat_map message_text ms → AreQuiet ms) → Cuts (saying b) (effects_of_acts xs) before rest → AreQuiet (m ∷ ms)
  go on (inl c) = let left : List ℕ = said_bytes c.0 in
      let text : message_text m ++ (flat_map message_text ms ++ left) ≡ message_text w.0 ++ [] = sym (append_assoc (message_text m) (flat_map message_text ms) left) ∙ ap (λ (z : List ℕ). z ++ left) (sym is) ∙ sym (said_both before c.0) ∙ ap said_bytes (sym c.1) ∙ all_said b ∙ w.1 ∙ sym (append-nil (message_text w.0)) in
      let t = texts m w.0 (flat_map message_text ms ++ left) [] text in
      subst (λ (z : List Said). AreQuiet (m ∷ z)) (sym (no_text ms (none_both (flat_map message_text ms) left t.2).0)) (quiet_kind m w.0 w.2 t.0, tt)
  go on (inr c) = let text : message_text m ++ flat_map message_text ms ≡ message_text w.0 ++ said_bytes c.0 = sym is ∙ ap said_bytes c.1 ∙ said_both (saying b) c.0 ∙ ap (λ (z : List ℕ). z ++ said_bytes c.0) (all_said b ∙ w.1) in
      let t = texts m w.0 (flat_map message_text ms) (said_bytes c.0) text in
      (quiet_kind m w.0 w.2 t.0, by on c.0 c.2 t.2 (ends_more (saying b) c.0 ends.0 ends.1 (sym c.1 ∙ ends.2)))
all_quiet (Say b ∷ xs) before rest (m ∷ ms) (inr w) e ends is = absurd (never (flat_map message_text ms ++ said_bytes rest) whole) where
  never : (rest_of : List ℕ) → message_text m ++ rest_of ≡ b → ⊥
  never rest_of f = let text : message_text m ++ (rest_of ++ w.1) ≡ message_text w.0 ++ [] = sym (append_assoc (message_text m) rest_of w.1) ∙ ap (λ (z : List ℕ). z ++ w.1) f ∙ sym w.2 ∙ sym (append-nil (message_text w.0)) in
      let n = none_both rest_of w.1 (texts m w.0 (rest_of ++ w.1) [] text).2 in let l : length w.1 ≡ 0 = ap length n.1 in let lt : 0 < length w.1 = w.3 in absurd (omega arith)

  whole : message_text m ++ (flat_map message_text ms ++ said_bytes rest) ≡ b
  whole = sym (append_assoc (message_text m) (flat_map message_text ms) (said_bytes rest)) ∙ ap (λ (z : List ℕ). z ++ said_bytes rest) (sym is) ∙ sym (said_both before rest) ∙ ap said_bytes (sym e) ∙ said_both (saying b) (effects_of_acts xs)
      ∙ ap (λ (z : List ℕ). said_bytes (saying b) ++ z) (silent_effects xs w.4) ∙ append-nil (said_bytes (saying b)) ∙ all_said b
