-- The writer's entries of the first entries of a list.
use Rattle.std.proofs.Common.{◌≡◌, ℕ, zero, suc, Bool, true, false, if◌then◌else◌, Some, None, List, [], ◌∷◌, ◌++◌, take, slice_get, refl, ap, ◌∙◌, subst}
use Rattle.cap_base.specs.declared.settings.Settings.{Settings}
use Rattle.cap_base.specs.declared.entries.Entry.{Entry}
use Rattle.cap_base.specs.declared.entries.Entry.TheVariants as entry
use Rattle.cap_base.specs.declared.entries.Why.TheVariants as why
use Rattle.capture_desk.specs.declared.acts.Act.{Act}
use Rattle.capture_desk.specs.Past.{Past, ◌▹◌, past_from, is_own}
use Rattle.capture_desk.specs.Due.{memory_lost}
use Rattle.capture_desk.specs.Acts.{acts, piece, piece_of}
use Rattle.capture_desk.specs.Orderly.{Follows, IsOrderlySoFar}
use Rattle.capture_core.specs.inner.Telling.{with_own, is_silence}

some_same : {A : Type 0} (x y : A) → Some x ≡ Some y → x ≡ y
some_same x y e = cc

orderly_front_by : (s : Settings) (start : Past) (e : Entry) (own : Bool) → IsOrderlySoFar s (if own then start ▹ e else start) → IsOrderlySoFar s start
orderly_front_by s start e true o = o.0
orderly_front_by s start e false o = o

orderly_front : (s : Settings) (start : Past) (es : List Entry) → IsOrderlySoFar s (past_from start es) → IsOrderlySoFar s start
orderly_front s start [] o = o
orderly_front s start (e ∷ es) o = orderly_front_by s start e (is_own e) (orderly_front s (if is_own e then start ▹ e else start) es o)

-- an entry of an orderly list follows those before it
pub follows_at : (s : Settings) (start : Past) (es : List Entry) (k : ℕ) (e : Entry) → slice_get es k ≡ Some e → IsOrderlySoFar s (past_from start es) → is_own e ≡ true → Follows s (past_from start (take k es)) e
follows_at s start [] k e g o own = absurd (none g)
  where
    none : None ≡ Some e → ⊥
    none g = cc
follows_at s start (x ∷ es) zero e g o own =
    let same : x ≡ e = some_same x e g in
    let front : IsOrderlySoFar s (if is_own x then start ▹ x else start) = orderly_front s (if is_own x then start ▹ x else start) es o in
    let own_x : is_own x ≡ true = ap is_own same ∙ own in
    let P : Bool → Type 0 = λ b. IsOrderlySoFar s (if b then start ▹ x else start) in
    subst (λ (y : Entry). Follows s start y) same (subst P own_x front).1
follows_at s start (x ∷ es) (suc k) e g o own = follows_at s (if is_own x then start ▹ x else start) es k e g o own

-- one entry more
pub past_step : (start : Past) (es : List Entry) (k : ℕ) (e : Entry) → slice_get es k ≡ Some e → past_from start (take (suc k) es) ≡ with_own (past_from start (take k es)) e
past_step start [] k e g = absurd (none g)
  where
    none : None ≡ Some e → ⊥
    none g = cc
past_step start (x ∷ es) zero e g = ap (λ (y : Entry). if is_own y then start ▹ y else start) (some_same x e g)
past_step start (x ∷ es) (suc k) e g = past_step (if is_own x then start ▹ x else start) es k e g

no_more : (xs : List Act) → xs ++ [] ≡ xs
no_more [] = refl
no_more (x ∷ xs) = ap (λ (ys : List Act). x ∷ ys) (no_more xs)

nothing_more : (xs ys : List Act) → ys ≡ [] → xs ++ ys ≡ xs
nothing_more xs ys e = rw e (no_more xs)

-- behind want of memory nothing is done
silent_piece : (s : Settings) (last : List ℕ) (files : ℕ) (before : Past) (e : Entry) → memory_lost before ≡ true → piece s last files before e ≡ []
unfolding piece
silent_piece s last files before (entry.Take now t) m = rw m refl
silent_piece s last files before (entry.Tally now cs) m = rw m refl
silent_piece s last files before (entry.Stop why.FileFault lost) m = rw m refl
silent_piece s last files before (entry.Stop why.SyncFault lost) m = refl
silent_piece s last files before (entry.Stop why.NoMemory lost) m = refl
silent_piece s last files before (entry.Stop why.Packets lost) m = refl
silent_piece s last files before (entry.Stop why.Filesize lost) m = refl
silent_piece s last files before (entry.Stop why.Duration lost) m = refl
silent_piece s last files before (entry.Stop why.Files lost) m = refl
silent_piece s last files before (entry.Join x y z) m = refl
silent_piece s last files before (entry.Offer x y z) m = refl
silent_piece s last files before (entry.End x y) m = refl

still_lost : (before : Past) (e : Entry) → memory_lost before ≡ true → memory_lost (before ▹ e) ≡ true
still_lost before (entry.Take now t) m = m
still_lost before (entry.Tally now cs) m = m
still_lost before (entry.Stop why.FileFault lost) m = m
still_lost before (entry.Stop why.SyncFault lost) m = m
still_lost before (entry.Stop why.NoMemory lost) m = refl
still_lost before (entry.Stop why.Packets lost) m = m
still_lost before (entry.Stop why.Filesize lost) m = m
still_lost before (entry.Stop why.Duration lost) m = m
still_lost before (entry.Stop why.Files lost) m = m
still_lost before (entry.Join x y z) m = m
still_lost before (entry.Offer x y z) m = m
still_lost before (entry.End x y) m = m

silent_step : (s : Settings) (before : Past) (e : Entry) → memory_lost before ≡ true → acts s (before ▹ e) ≡ acts s before
unfolding acts
silent_step s before e m = nothing_more (acts s before) (piece_of s before e) (silent_piece s _ _ before e m)

silent_by : (s : Settings) (start : Past) (e : Entry) (es : List Entry) (own : Bool) → memory_lost start ≡ true → ((q : Past) → memory_lost q ≡ true → acts s (past_from q es) ≡ acts s q) → acts s (past_from (if own then start ▹ e else start) es) ≡ acts s start
silent_by s start e es true m go = go (start ▹ e) (still_lost start e m) ∙ silent_step s start e m
silent_by s start e es false m go = go start m

silent_from : (s : Settings) (start : Past) (es : List Entry) → memory_lost start ≡ true → acts s (past_from start es) ≡ acts s start
silent_from s start [] m = refl
silent_from s start (e ∷ es) m = silent_by s start e es (is_own e) m (λ q n. silent_from s q es n)

silent_stop : (s : Settings) (start : Past) (e : Entry) (es : List Entry) → is_silence e ≡ true → acts s (past_from start (e ∷ es)) ≡ acts s start
unfolding acts piece
silent_stop s start (entry.Stop why.NoMemory lost) es i = silent_from s (start ▹ entry.Stop why.NoMemory lost) es refl ∙ no_more (acts s start)
silent_stop s start (entry.Stop why.FileFault lost) es i = absurd (no i)
  where
    no : false ≡ true → ⊥
    no i = cc
silent_stop s start (entry.Stop why.SyncFault lost) es i = absurd (no i)
  where
    no : false ≡ true → ⊥
    no i = cc
silent_stop s start (entry.Stop why.Packets lost) es i = absurd (no i)
  where
    no : false ≡ true → ⊥
    no i = cc
silent_stop s start (entry.Stop why.Filesize lost) es i = absurd (no i)
  where
    no : false ≡ true → ⊥
    no i = cc
silent_stop s start (entry.Stop why.Duration lost) es i = absurd (no i)
  where
    no : false ≡ true → ⊥
    no i = cc
silent_stop s start (entry.Stop why.Files lost) es i = absurd (no i)
  where
    no : false ≡ true → ⊥
    no i = cc
silent_stop s start (entry.Take now t) es i = absurd (no i)
  where
    no : false ≡ true → ⊥
    no i = cc
silent_stop s start (entry.Tally now cs) es i = absurd (no i)
  where
    no : false ≡ true → ⊥
    no i = cc
silent_stop s start (entry.Join x y z) es i = absurd (no i)
  where
    no : false ≡ true → ⊥
    no i = cc
silent_stop s start (entry.Offer x y z) es i = absurd (no i)
  where
    no : false ≡ true → ⊥
    no i = cc
silent_stop s start (entry.End x y) es i = absurd (no i)
  where
    no : false ≡ true → ⊥
    no i = cc

-- at a Stop for want of memory all acts are those of the entries before it
pub silent_at : (s : Settings) (start : Past) (es : List Entry) (k : ℕ) (e : Entry) → slice_get es k ≡ Some e → is_silence e ≡ true → acts s (past_from start es) ≡ acts s (past_from start (take k es))
silent_at s start [] k e g i = absurd (none g)
  where
    none : None ≡ Some e → ⊥
    none g = cc
silent_at s start (x ∷ es) zero e g i = silent_stop s start x es (ap is_silence (some_same x e g) ∙ i)
silent_at s start (x ∷ es) (suc k) e g i = silent_at s (if is_own x then start ▹ x else start) es k e g i
