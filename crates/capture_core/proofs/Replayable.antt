-- A legal history can be replayed.
use Rattle.std.proofs.Common.{◌≡◌, ℕ, ◌+◌, Bool, true, false, if◌then◌else◌, cond, List, [], ◌∷◌, ◌++◌, length, map, eqb, eq-eqb, refl, sym, ap, ◌∙◌, append_assoc}
use Rattle.std.specs.List.{All, flat_map}
use Rattle.std.proofs.lemmas.List.Elements.{All-cons, All-head, All-nil, All-tail}
use Rattle.cap_base.specs.Callers.{own}
use Rattle.cap_base.specs.Histories.{History, answer_of}
use Rattle.cap_base.specs.Legal.{Legal, Admitted}
use Rattle.cap_base.specs.Laws.{AreDescribed}
use Rattle.cap_base.proofs.Described.{takes_described}
use Rattle.cap_base.specs.declared.limits.Limits.{Limits}
use Rattle.cap_base.specs.declared.settings.Settings.{Settings}
use Rattle.cap_base.specs.declared.entries.Item.TheVariants as I
use Rattle.cap_base.specs.declared.entries.Taken.TheVariants as T
use Rattle.cap_base.specs.declared.entries.Entry.{Entry}
use Rattle.cap_base.specs.declared.entries.Entry.TheVariants as E
use Rattle.capture_desk.specs.Past.{Past, nothing, ◌▹◌, is_own, past_from}
use Rattle.capture_core.specs.Replaying.{CanTell}
use Rattle.capture_core.specs.Laws.{CanBeReplayed}

-- what is described can be written
told : (n : ℕ) (es : List Entry) → AreDescribed n (flat_map answer_of es) → All CanTell es
told n [] d = All-nil CanTell
told n (E.Take now (T.Item (I.Iface k i)) ∷ es) d = All-cons CanTell (E.Take now (T.Item (I.Iface k i))) es (d.2.notes.few, d.2.name) (told (n + 1) es d.3)
told n (E.Take now (T.Item (I.Packet p)) ∷ es) d = All-cons CanTell (E.Take now (T.Item (I.Packet p))) es (d.1.notes.few, d.1.body) (told n es d.2)
told n (E.Take now (T.Item (I.Ended s how)) ∷ es) d = All-cons CanTell (E.Take now (T.Item (I.Ended s how))) es tt (told n es d)
told n (E.Take now T.Empty ∷ es) d = All-cons CanTell (E.Take now T.Empty) es tt (told n es d)
told n (E.Take now T.Done ∷ es) d = All-cons CanTell (E.Take now T.Done) es tt (told n es d)
told n (E.Tally now cs ∷ es) d = All-cons CanTell (E.Tally now cs) es tt (told n es d)
told n (E.Stop why l ∷ es) d = All-cons CanTell (E.Stop why l) es tt (told n es d)
told n (E.Join s i m ∷ es) d = All-cons CanTell (E.Join s i m) es tt (told n es d)
told n (E.Offer s p v ∷ es) d = All-cons CanTell (E.Offer s p v) es tt (told n es d)
told n (E.End s how ∷ es) d = All-cons CanTell (E.End s how) es tt (told n es d)

-- an entry of another caller isn't the writer's
not_own : (n by : ℕ) (mine : List Entry) (e : Entry) → (by ≡ n → ⊥) → Admitted n by mine e → is_own e ≡ false
not_own n by mine (E.Take now t) ne a = absurd (ne a)
not_own n by mine (E.Tally now cs) ne a = absurd (ne a)
not_own n by mine (E.Stop why l) ne a = absurd (ne a.0)
not_own n by mine (E.Join s i m) ne a = refl
not_own n by mine (E.Offer s p v) ne a = refl
not_own n by mine (E.End s how) ne a = refl

others_tell : (e : Entry) → is_own e ≡ false → CanTell e
others_tell (E.Take now t) o = cc
others_tell (E.Tally now cs) o = tt
others_tell (E.Stop why l) o = tt
others_tell (E.Join s i m) o = tt
others_tell (E.Offer s p v) o = tt
others_tell (E.End s how) o = tt

abbrev entries : History → List Entry
entries h = map (λ (x : ℕ × Entry). x.1) h

module _ (limits : Limits) (n : ℕ) (h : History) (legal : Legal limits n h) where
  other : (f t : History) (x : ℕ × Entry) → h ≡ f ++ x ∷ t → eqb x.0 n ≡ false → is_own x.1 ≡ false
  other f t x q ne = not_own n x.0 (own x.0 f) x.1 (λ e. absurd (differ e)) ((legal f x.0 x.1 t (q ∙ sym (append_assoc f (x ∷ []) t))).0) where
    differ : x.0 ≡ n → ⊥
    differ e = let z : true ≡ false = sym (eq-eqb x.0 n e) ∙ ne in cc

  all_tell : (f t : History) → h ≡ f ++ t → All CanTell (own n t) → All CanTell (entries t)
  all_tell f [] q a = All-nil CanTell
  all_tell f (x ∷ t) q a = go (eqb x.0 n) refl a (λ b. all_tell (f ++ x ∷ []) t (q ∙ sym (append_assoc f (x ∷ []) t)) b) where
    go : (b : Bool) → eqb x.0 n ≡ b → All CanTell (cond b (x.1 ∷ own n t) (own n t)) → (All CanTell (own n t) → All CanTell (entries t)) → All CanTell (entries (x ∷ t))
    go true e b more = All-cons CanTell x.1 (entries t) (All-head CanTell x.1 (own n t) b) (more (All-tail CanTell x.1 (own n t) b))
    go false e b more = All-cons CanTell x.1 (entries t) (others_tell x.1 (other f t x q e)) (more b)

  same_past : (f t : History) (start : Past) → h ≡ f ++ t → past_from start (entries t) ≡ past_from start (own n t)
  same_past f [] start q = refl
  same_past f (x ∷ t) start q = go (eqb x.0 n) refl (λ from. same_past (f ++ x ∷ []) t from (q ∙ sym (append_assoc f (x ∷ []) t))) where
    go : (b : Bool) → eqb x.0 n ≡ b → ((from : Past) → past_from from (entries t) ≡ past_from from (own n t)) → past_from start (entries (x ∷ t)) ≡ past_from start (cond b (x.1 ∷ own n t) (own n t))
    go true e next = next (if is_own x.1 then start ▹ x.1 else start)
    go false e next = ap (λ (b : Bool). past_from (if b then start ▹ x.1 else start) (entries t)) (other f t x q e) ∙ next start

pub can_be_replayed : (s : Settings) (h : History) → Legal s.limits (length s.sources) h → CanBeReplayed s h
can_be_replayed s h legal = let own_write : All CanTell (own (length s.sources) h) = told 0 (own (length s.sources) h) (takes_described s.limits (length s.sources) h legal) in record {
  write = all_tell s.limits (length s.sources) h legal [] h refl own_write;
  own_write = own_write;
  same = same_past s.limits (length s.sources) h legal [] h nothing refl;
}
