-- The calls that a view had.
use Rattle.std.proofs.Common.{◌≡◌, ◌<◌, ◌+◌, ◌⊎◌, inl, inr, ℕ, List, [], ◌∷◌, ◌++◌, Option, Some, Result, Ok, refl, sym, ap, subst, ◌∙◌, append_assoc}
use Rattle.std.proofs.lemmas.List.{append-nil}
use Rattle.std.specs.Option.{unwrap_or}
use Rattle.cap_outside.specs.Told.{Leads}
use Rattle.cap_outside.specs.declared.view_call.ViewCall.{ViewCall}
use Rattle.cap_outside.specs.declared.view_call.ViewCall.TheVariants.{Find, ReadAt}
use Rattle.pcapng_pipe.specs.Pipe.{fed_count}
use Rattle.live_follower.specs.declared.fault.FollowFault.{FollowFault}
use Rattle.live_follower.specs.Asked.{ReadsInTurn, ReadsInVain, ReadsOnce, LooksOnce, Asks}
use Rattle.live_follower.specs.Following.{Following, name_of}

leads_none : {W : Type 0} (asked : W → List ViewCall → Type 0) (v : W) → Leads asked v v []
leads_none asked v = λ history h. subst (λ (l : List ViewCall). asked v l) (sym (append-nil history)) h

leads_both : {W : Type 0} (asked : W → List ViewCall → Type 0) (a b c : W) (xs ys : List ViewCall) → Leads asked a b xs → Leads asked b c ys → Leads asked a c (xs ++ ys)
leads_both asked a b c xs ys x y = λ history h. subst (λ (l : List ViewCall). asked c l) (append_assoc history xs ys) (y (history ++ xs) (x history h))

turns_both : (name : List ℕ) (a b c : ℕ) (xs ys : List ViewCall) → ReadsInTurn name a b xs → ReadsInTurn name b c ys → ReadsInTurn name a c (xs ++ ys)
turns_both name a b c [] ys x y = subst (λ (n : ℕ). ReadsInTurn name n c ys) x y
turns_both name a b c (ReadAt read place gave ∷ xs) ys x y = (x.0, x.1, x.2, x.3, x.4, turns_both name (a + x.2) b c xs ys x.5 y)
turns_both name a b c (Find found ∷ xs) ys x y = absurd x

-- ---- reads

-- nothing was read yet
pub no_reads : {W : Type 0} (asked : W → List ViewCall → Type 0) (v : W) (name : List ℕ) (at : ℕ) → Asks asked v v (ReadsInTurn name at at)
no_reads asked v name at = record { calls = []; made = leads_none asked v; such = refl }

-- one read, whose bytes were all kept
pub read_kept : {W T : Type 0} (asked : W → List ViewCall → Type 0) (a b : W) (name : List ℕ) (at place count to : ℕ) (result : Result T FollowFault) → place ≡ at
    → Leads asked a b (ReadAt name place (Some count) ∷ []) → 0 < count → to ≡ at + count → Asks asked a b (ReadsOnce name at to result)
read_kept asked a b name at place count to result here made some is = record {
  calls = ReadAt name place (Some count) ∷ [];
  made = made;
  such = record { reads = ReadAt name place (Some count) ∷ []; last = []; are = refl; turns = (refl, here, count, refl, some, is); vain = inl refl };
}

-- one read, of which nothing was kept
pub read_lost : {W T : Type 0} (asked : W → List ViewCall → Type 0) (a b : W) (name : List ℕ) (at place to : ℕ) (gave : Option ℕ) (result : Result T FollowFault) → place ≡ at
    → to ≡ at → Leads asked a b (ReadAt name place gave ∷ []) → ReadsInVain gave result → Asks asked a b (ReadsOnce name at to result)
read_lost asked a b name at place to gave result here same made vain = record {
  calls = ReadAt name place gave ∷ [];
  made = made;
  such = record {
    reads = [];
    last = ReadAt name place gave ∷ [];
    are = refl;
    turns = same;
    vain = inr (gave, ap (λ (n : ℕ). ReadAt name n gave ∷ []) (here ∙ sym same), vain);
  };
}

-- reads in turn, and those that came then
pub reads_both : {W T : Type 0} (asked : W → List ViewCall → Type 0) (a b c : W) (name : List ℕ) (at mid to : ℕ) (result : Result T FollowFault)
    → Asks asked a b (ReadsInTurn name at mid) → Asks asked b c (ReadsOnce name mid to result) → Asks asked a c (ReadsOnce name at to result)
reads_both asked a b c name at mid to result x y = record {
  calls = x.calls ++ y.calls;
  made = leads_both asked a b c x.calls y.calls x.made y.made;
  such = record {
    reads = x.calls ++ y.such.reads;
    last = y.such.last;
    are = ap (λ (l : List ViewCall). x.calls ++ l) y.such.are ∙ sym (append_assoc x.calls y.such.reads y.such.last);
    turns = turns_both name at mid to x.calls y.such.reads x.such y.such.turns;
    vain = y.such.vain;
  };
}

all_turns : {T : Type 0} (name : List ℕ) (at to : ℕ) (found : T) (calls : List ViewCall) → (let r : Result T FollowFault = Ok found in ReadsOnce name at to r calls) → ReadsInTurn name at to calls
all_turns name at to found calls x = elim x.vain [
  | inl none ↦ subst (ReadsInTurn name at to) (sym (x.are ∙ ap (λ (l : List ViewCall). x.reads ++ l) none ∙ append-nil x.reads)) x.turns
  | inr vain ↦ absurd vain.2
]

-- where the answer is no fault, all reads are in turn
pub reads_found : {W T : Type 0} (asked : W → List ViewCall → Type 0) (a b : W) (name : List ℕ) (at to : ℕ) (found : T)
    → (let r : Result T FollowFault = Ok found in Asks asked a b (ReadsOnce name at to r)) → Asks asked a b (ReadsInTurn name at to)
reads_found asked a b name at to found x = record { calls = x.calls; made = x.made; such = all_turns name at to found x.calls x.such }

-- the reads of a call that is over
pub reads_end : {W T : Type 0} (asked : W → List ViewCall → Type 0) (a b : W) (name : List ℕ) (at to : ℕ) (result : Result T FollowFault)
    → Asks asked a b (ReadsInTurn name at to) → Asks asked a b (ReadsOnce name at to result)
reads_end asked a b name at to result x = record {
  calls = x.calls;
  made = x.made;
  such = record { reads = x.calls; last = []; are = sym (append-nil x.calls); turns = x.such; vain = inl refl };
}

-- ---- looks

-- the view was asked nothing
pub no_look : {W T : Type 0} (asked : W → List ViewCall → Type 0) (v : W) (name : List ℕ) (at to : ℕ) (result : Result T FollowFault) → to ≡ at → Asks asked v v (LooksOnce name at to result)
no_look asked v name at to result same = record { calls = []; made = leads_none asked v; such = inl (refl, same) }

-- the file was looked for, and nothing was read
pub look_alone : {W T : Type 0} (asked : W → List ViewCall → Type 0) (a b : W) (name : List ℕ) (at : ℕ) (result : Result T FollowFault) → Leads asked a b (Find name ∷ [])
    → Asks asked a b (LooksOnce name at at result)
look_alone asked a b name at result look = record {
  calls = Find name ∷ [];
  made = look;
  such = inr ([], refl, record { reads = []; last = []; are = refl; turns = refl; vain = inl refl });
}

-- the file was looked for, and then read on
pub look_then : {W T : Type 0} (asked : W → List ViewCall → Type 0) (a b c : W) (name : List ℕ) (at to : ℕ) (result : Result T FollowFault) → Leads asked a b (Find name ∷ [])
    → Asks asked b c (ReadsOnce name at to result) → Asks asked a c (LooksOnce name at to result)
look_then asked a b c name at to result look x = record {
  calls = Find name ∷ x.calls;
  made = leads_both asked a b c (Find name ∷ []) x.calls look x.made;
  such = inr (x.calls, refl, x.such);
}

-- ---- a follower

reads_answered : {T U : Type 0} (name : List ℕ) (at to : ℕ) (r : Result T FollowFault) (q : Result U FollowFault) (calls : List ViewCall) → ((gave : Option ℕ) → ReadsInVain gave r → ReadsInVain gave q)
    → ReadsOnce name at to r calls → ReadsOnce name at to q calls
reads_answered name at to r q calls on x = record {
  reads = x.reads;
  last = x.last;
  are = x.are;
  turns = x.turns;
  vain = elim x.vain [ inl none ↦ inl none | inr vain ↦ inr (vain.0, vain.1, on vain.0 vain.2) ];
}

looks_answered : {T U : Type 0} (name : List ℕ) (at to : ℕ) (r : Result T FollowFault) (q : Result U FollowFault) (calls : List ViewCall) → ((gave : Option ℕ) → ReadsInVain gave r → ReadsInVain gave q)
    → LooksOnce name at to r calls → LooksOnce name at to q calls
looks_answered name at to r q calls on (inl none) = inl none
looks_answered name at to r q calls on (inr x) = inr (x.0, x.1, reads_answered name at to r q x.0 on x.2)

-- the calls of a search are those of the follower that is seen from inside
pub asks_inside : {W T U : Type 0} (asked : W → List ViewCall → Type 0) (a b : W) (inside old : Following) (name : List ℕ) (to : ℕ) (r : Result T FollowFault) (q : Result U FollowFault)
    → inside ≡ old → inside.file ≡ Some name → ((gave : Option ℕ) → ReadsInVain gave r → ReadsInVain gave q)
    → Asks asked a b (LooksOnce name (fed_count inside.pipe) to r) → Asks asked a b (LooksOnce (name_of old) (fed_count old.pipe) to q)
asks_inside asked a b inside old name to r q is there on x =
    let named : name_of inside ≡ name = ap (λ (f : Option (List ℕ)). unwrap_or f []) there in
    let such : LooksOnce (name_of inside) (fed_count inside.pipe) to q x.calls = subst (λ (n : List ℕ). LooksOnce n (fed_count inside.pipe) to q x.calls) (sym named) (looks_answered name (fed_count inside.pipe) to r q x.calls on x.such) in
    record { calls = x.calls; made = x.made; such = subst (λ (o : Following). LooksOnce (name_of o) (fed_count o.pipe) to q x.calls) is such }
