-- From the steps of a turn to its contract.
use Rattle.std.proofs.Common.{◌≡◌, ℕ, suc, ◌-◌, ◌^◌, ◌<◌, ◌≤◌, Bool, false, cond, List, [], ◌∷◌, ◌++◌, length, get_or, refl, sym, ap, ap₂, ◌∙◌, subst, arith}
use mathlib.Core.Option.{none}
use Rattle.atomic_table.specs.Table.{Me, step, rest}
use Rattle.turn_cell.specs.declared.cell.Cell.{Cell}
use Rattle.turn_cell.specs.declared.pass.Pass.{Pass}
use Rattle.turn_cell.specs.declared.view.View.{View}
use Rattle.turn_cell.specs.declared.key.Key.{Key}
use Rattle.turn_cell.specs.declared.view.Stage.TheVariants.{Idle, Waiting, Holding, Worn}
use Rattle.turn_cell.specs.History.{own, tag, Turned}
use Rattle.turn_cell.specs.inner.Transitions.{Draws, HasTurn, after_turn}
use Rattle.turn_cell.specs.inner.Fields.{pass_low, pass_high, pass_made, pass_seen}
use Rattle.turn_cell.specs.Passes.{IsTurn, start, callers, turns, low, high, made, seen}
use Rattle.turn_cell.proofs.Seats.{Seated}
use Rattle.cap_base.proofs.Callers.{own-append, own-tag_other}
use Rattle.turn_cell.proofs.HistoryLength.{room}

module _ {O C R E : Type 0} (stands_for : O → O → List (ℕ × E) → Type 0) (entries : C → R → List E) (admits : O → ℕ → List E → C → Type 0) (c : Cell O C R E) where
  abbrev M : Type 0
  M = Me O (View O E)

  abbrev V : Type 0
  V = View O E

  abbrev k : Key O
  k = c.table.shared.key

  -- made by so many turns
  abbrev pub turned : ℕ → O → ℕ → List (ℕ × E) → Type 0
  turned = Turned entries admits

  -- The pass has its turn, at the ticket t, and the seat has the object x: what the call may rest on
  pub record Ready (p : Pass O C R E) (t : ℕ) (call : C) (x : O) (w : M) : Type 0 where
    pub between : List (ℕ × E)
    pub view : w.0 ≡ record p.seat.me.0 { seen = pass_seen p ++ between; stage = Holding t }
    pub slot : w.1 ≡ (0, x) ∷ []
    pub stands : stands_for k.start.value x (pass_seen p ++ between)
    pub made_by : turned k.callers k.start.value t (pass_seen p ++ between)
    pub once : (n : ℕ) → (pass_low p ≤ n) × (n < pass_high p) → own n (pass_seen p ++ between) ≡ own n (pass_made p)
    pub short : length (pass_seen p ++ between) ≤ 2 ^ 62 - 64
    pub admitted : admits k.start.value (pass_low p) (own (pass_low p) (pass_seen p ++ between)) call
    pub few : t < k.turns
    pub known : pass_low p < k.callers

  -- m is the seat after the draw, with a ticket below the cell's turns
  pub waiting : (p : Pass O C R E) (t : ℕ) (m : M) → Seated c p → Draws (step 1 0 1 0 none) p.seat.me t m → t < c.turns → m.0.stage ≡ Waiting t
  waiting p t m i d lt = ap (λ (v : V). v.stage) ((d.1 k i.seat.key).0 (subst (λ (z : ℕ). t < z) (sym c.sized.2) lt))

  -- m is the seat after the draw, w the seat after it has found its turn with the object y, which is x
  pub ready : (p : Pass O C R E) (t : ℕ) (call : C) (x : O) (m w : M) → Seated c p → admits k.start.value (pass_low p) (own (pass_low p) (pass_made p)) call → Draws (step 1 0 1 0 none) p.seat.me t m → t < c.turns → HasTurn stands_for turned m t w
      → w.1 ≡ (0, x) ∷ rest w.1 → Ready p t call x w
  ready p t call x m w i allowed d lt found slot = record {
    between = tk.between;
    view = tk.view;
    slot = out;
    stands = subst (λ (z : O). stands_for k.start.value z (pass_seen p ++ tk.between)) same (tk.stands k i.seat.key);
    made_by = tk.made_by k i.seat.key;
    once = tk.once;
    short = room entries admits k.callers k.start.value k.turns t (pass_seen p ++ tk.between) (tk.made_by k i.seat.key) few (subst (λ (z : ℕ). z ≤ 2 ^ 56) (sym c.sized.2) c.sized.3);
    admitted = subst (λ (es : List E). admits k.start.value (pass_low p) es call) (sym (tk.once (pass_low p) (let a : pass_low p ≤ pass_low p = omega arith in a, i.some_number))) allowed;
    few = few;
    known = let a : pass_low p < pass_high p = i.some_number in let b : pass_high p ≤ k.callers = tk.within k i.seat.key in omega arith;
  } where
    few : t < k.turns
    few = subst (λ (z : ℕ). t < z) (sym c.sized.2) lt

    waits : M
    waits = (record p.seat.me.0 { stage = Waiting t }, [])

    is : m ≡ waits
    is = λ j. ((d.1 k i.seat.key).0 few j, (d.0 ∙ i.seat.no_object) j)

    tk : HasTurn stands_for turned waits t w
    tk = subst (λ (z : M). HasTurn stands_for turned z t w) is found

    out : w.1 ≡ (0, x) ∷ []
    out = slot ∙ ap (λ (l : List (ℕ × O)). (0, x) ∷ rest l) tk.slot

    same : tk.object ≡ x
    same = ap (λ (l : List (ℕ × O)). (get_or l 0 (0, x)).1) (sym tk.slot ∙ out)

  module _ (p : Pass O C R E) (t : ℕ) (call : C) (x : O) (w : M) (h : Ready p t call x w) (reply : R) where
    abbrev es : List E
    es = entries call reply

    abbrev pub Few : Type 0
    Few = (0 < length es) × (length es ≤ 64)

    -- the history with the entries of this turn
    made_one : Few → turned k.callers k.start.value (suc t) ((pass_seen p ++ h.between) ++ tag (pass_low p) es)
    made_one few = (pass_seen p ++ h.between, pass_low p, call, reply, h.made_by, h.known, h.admitted, few.0, few.1, refl)

    -- the same, as the seat has it
    pub made_after : Few → turned k.callers k.start.value (suc t) (w.0.seen ++ tag w.0.low es)
    made_after few = subst (λ (z : V). turned k.callers k.start.value (suc t) (z.seen ++ tag z.low es)) (sym h.view) (made_one few)

    -- the object after the call stands for it
    pub stands_after : (y : O) → stands_for k.start.value y ((pass_seen p ++ h.between) ++ tag (pass_low p) es) → stands_for k.start.value y (w.0.seen ++ tag w.0.low es)
    stands_after y g = subst (λ (z : V). stands_for k.start.value y (z.seen ++ tag z.low es)) (sym h.view) g

    -- the view after the turn
    abbrev now : V
    now = record p.seat.me.0 { seen = (pass_seen p ++ h.between) ++ tag (pass_low p) es; made = pass_made p ++ tag (pass_low p) es; stage = Idle }

    -- the view that the pass has then
    now_is : (q : Pass O C R E) → q.seat.me ≡ (after_turn w.0 es, []) → q.seat.me.0 ≡ now
    now_is q e = ap (λ (z : M). z.0) e ∙ ap (λ (z : V). after_turn z es) h.view

    -- the history that it has seen then
    pub seen_after : (q : Pass O C R E) → q.seat.me ≡ (after_turn w.0 es, []) → pass_seen q ≡ (pass_seen p ++ h.between) ++ tag (pass_low p) es
    seen_after q e = ap (λ (z : V). z.seen) (now_is q e)

    -- what the turn ensures of the history
    pub is_turn : (q : Pass O C R E) (y : O) → Few → stands_for k.start.value y ((pass_seen p ++ h.between) ++ tag (pass_low p) es) → q.seat.me ≡ (after_turn w.0 es, []) → IsTurn stands_for turned c p q es
    unfolding start callers turns low high made seen
    is_turn q y few g e = record {
      number = few;
      between = h.between;
      seen_now = ap (λ (z : V). z.seen) is;
      made_now = ap (λ (z : V). z.made) is;
      once_before = h.once;
      once = λ n has. ap (λ (z : V). own n z.seen) is ∙ own-append n (pass_seen p ++ h.between) T ∙ ap (λ (z : List E). z ++ own n T) (h.once n has) ∙ sym (own-append n (pass_made p) T) ∙ sym (ap (λ (z : V). own n z.made) is);
      legal = (y, subst (stands_for k.start.value y) (sym (ap (λ (z : V). z.seen) is)) g);
      turn = suc t;
      made_by = subst (turned k.callers k.start.value (suc t)) (sym (ap (λ (z : V). z.seen) is)) (made_one few);
      few = h.few;
    } where
      T : List (ℕ × E)
      T = tag (pass_low p) es

      is : q.seat.me.0 ≡ now
      is = now_is q e

    -- the pass is between two turns again
    pub pass_after : (q : Pass O C R E) → Seated c p → q.seat.table_id ≡ p.seat.table_id → q.worn ≡ false → q.seat.me ≡ (after_turn w.0 es, []) → Seated c q × (pass_low q ≡ pass_low p) × (pass_high q ≡ pass_high p)
    pass_after q i tab fresh e = (
      record {
        some_number = subst (λ (z : V). z.low < z.high) (sym is) i.some_number;
        below = λ n lt. let b : n < pass_low p = subst (λ (z : V). n < z.low) is lt in others n (λ y. let y' : pass_low p ≡ n = y in omega arith) (i.below n b);
        above = λ n le. let a : pass_high p ≤ n = subst (λ (z : V). z.high ≤ n) is le in let s : pass_low p < pass_high p = i.some_number in others n (λ y. let y' : pass_low p ≡ n = y in omega arith) (i.above n a);
        seat = record {
          table = tab ∙ i.seat.table;
          key = ap (λ (z : V). z.key) is ∙ i.seat.key;
          no_object = ap (λ (z : M). z.1) e;
          merged = ap (λ (z : V). z.other_seen) is ∙ i.seat.merged;
          stage = ap (λ (z : V). z.stage) is ∙ sym (ap (λ (b : Bool). cond b Worn Idle) fresh);
        };
      },
      ap (λ (z : V). z.low) is,
      ap (λ (z : V). z.high) is,
    ) where
      is : q.seat.me.0 ≡ now
      is = now_is q e

      others : (n : ℕ) → (pass_low p ≡ n → ⊥) → own n (pass_made p) ≡ [] → own n q.seat.me.0.made ≡ []
      others n ne g = ap (λ (z : V). own n z.made) is ∙ own-append n (pass_made p) (tag (pass_low p) es) ∙ ap₂ (λ (a b : List E). a ++ b) g (own-tag_other n (pass_low p) es ne)
