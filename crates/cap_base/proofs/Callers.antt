-- The entries of one caller, in a history that grows or is cut by callers.
use Rattle.std.proofs.Common.{◌≡◌, ◌≢◌, ℕ, Bool, true, false, cond, eqb, List, [], ◌∷◌, ◌++◌, refl, ap, ◌∙◌, eq-eqb, ne_eqb}
use Rattle.std.proofs.lemmas.List.{append-nil}
use Rattle.cap_base.specs.Callers.{own, tag}

module _ {E : Type 0} where
  -- a list that may have one more in front, and more behind
  cond_append : (b : Bool) (x : E) (xs ys : List E) → cond b (x ∷ xs ++ ys) (xs ++ ys) ≡ cond b (x ∷ xs) xs ++ ys
  cond_append true x xs ys = refl
  cond_append false x xs ys = refl

  -- the entries of a caller in two parts
  pub own-append : (n : ℕ) (xs ys : List (ℕ × E)) → own n (xs ++ ys) ≡ own n xs ++ own n ys
  own-append n [] ys = refl
  own-append n (x ∷ xs) ys = ap (λ (zs : List E). cond (eqb x.0 n) (x.1 ∷ zs) zs) (own-append n xs ys) ∙ cond_append (eqb x.0 n) x.1 (own n xs) (own n ys)

  -- entries with one number are all of that caller
  pub own-tag : (n : ℕ) (es : List E) → own n (tag n es) ≡ es
  own-tag n [] = refl
  own-tag n (e ∷ es) = ap (λ (b : Bool). cond b (e ∷ own n (tag n es)) (own n (tag n es))) (eq-eqb n n refl) ∙ ap (λ (zs : List E). e ∷ zs) (own-tag n es)

  -- and none of another
  pub own-tag_other : (n m : ℕ) (es : List E) → m ≢ n → own n (tag m es) ≡ []
  own-tag_other n m [] ne = refl
  own-tag_other n m (e ∷ es) ne = ap (λ (b : Bool). cond b (e ∷ own n (tag m es)) (own n (tag m es))) (ne_eqb m n ne) ∙ own-tag_other n m es ne

  -- a history that ends with entries of the caller
  pub own_here_all : (n : ℕ) (h : List (ℕ × E)) (es : List E) → own n (h ++ tag n es) ≡ own n h ++ es
  own_here_all n h es = own-append n h (tag n es) ∙ ap (λ (zs : List E). own n h ++ zs) (own-tag n es)

  -- with entries of another
  pub own_else_all : (n m : ℕ) (h : List (ℕ × E)) (es : List E) → m ≢ n → own n (h ++ tag m es) ≡ own n h
  own_else_all n m h es ne = own-append n h (tag m es) ∙ ap (λ (zs : List E). own n h ++ zs) (own-tag_other n m es ne) ∙ append-nil (own n h)

  -- with one entry of the caller
  pub own_here : (n : ℕ) (h : List (ℕ × E)) (e : E) → own n (h ++ (n, e) ∷ []) ≡ own n h ++ e ∷ []
  own_here n h e = own_here_all n h (e ∷ [])

  -- with one entry of another
  pub own_else : (n m : ℕ) (h : List (ℕ × E)) (e : E) → m ≢ n → own n (h ++ (m, e) ∷ []) ≡ own n h
  own_else n m h e ne = own_else_all n m h (e ∷ []) ne

  -- one entry more of one caller
  pub tag-push : (n : ℕ) (es : List E) (e : E) → tag n (es ++ e ∷ []) ≡ tag n es ++ (n, e) ∷ []
  tag-push n [] e = refl
  tag-push n (x ∷ es) e = ap (λ (z : List (ℕ × E)). (n, x) ∷ z) (tag-push n es e)
