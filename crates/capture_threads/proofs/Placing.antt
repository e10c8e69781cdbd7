-- Ports that are made one after another, and the places of sources with them.
use Rattle.std.proofs.Common.{◌≡◌, ℕ, ◌+◌, ◌≤◌, List, [], ◌∷◌, ◌++◌, length, All, refl, sym, ◌∙◌, subst, arith}
use Rattle.std.proofs.lemmas.List.Elements.{All-head, All-tail}
use Rattle.packet_queue.specs.Ends.{QueueCell}
use Rattle.packet_queue.specs.declared.port.Port.{Port}
use Rattle.cap_outside.specs.declared.opened.Opened.{Opened}
use Rattle.capture_threads.specs.Places.{ArePlaced}
use Rattle.capture_threads.specs.inner.Places.{IsFreshPort, AreFreshPorts, paired}

-- ---- ports

pub none_fresh : (c : QueueCell) (ports : List Port) → ports ≡ [] → AreFreshPorts c 0 ports
none_fresh c ports e = subst (λ (ps : List Port). AreFreshPorts c 0 ps) (sym e) tt

fresh_more : (c : QueueCell) (n : ℕ) (ps : List Port) (p : Port) → AreFreshPorts c n ps → IsFreshPort c (n + length ps) p → AreFreshPorts c n (ps ++ p ∷ [])
fresh_more c n [] p a i = (subst (λ (m : ℕ). IsFreshPort c m p) (omega arith) i, tt)
fresh_more c n (q ∷ ps) p a i = (a.0, fresh_more c (n + 1) ps p a.1 (subst (λ (m : ℕ). IsFreshPort c m p) (let e : n + length (q ∷ ps) ≡ (n + 1) + length ps = omega arith in e) i))

-- one more
pub one_more_fresh : (c : QueueCell) (ps now : List Port) (n : ℕ) (p : Port) → length ps ≡ n → AreFreshPorts c 0 ps → IsFreshPort c n p → now ≡ ps ++ p ∷ [] → AreFreshPorts c 0 now
one_more_fresh c ps now n p len a i is = subst (λ (z : List Port). AreFreshPorts c 0 z) (sym is) (fresh_more c 0 ps p a (subst (λ (m : ℕ). IsFreshPort c m p) (sym (let z : 0 + length ps ≡ length ps = omega arith in z ∙ len)) i))

-- ---- places

-- a source with a port can begin
pub are_placed : {S : Type 0} (c : QueueCell) (n : ℕ) (ports : List Port) (opened : List (Opened S)) → AreFreshPorts c n ports → length ports ≡ length opened → All (λ (o : Opened S). length o.name ≤ 4096) opened → ArePlaced c n opened (paired ports opened)
are_placed c n [] [] a e names = tt
are_placed {S} c n (p ∷ ports) (o ∷ opened) a e names = (
  (record { port = a.0.port; fresh = a.0.fresh; name = All-head (λ (x : Opened S). length x.name ≤ 4096) o opened names }, a.0.source, refl),
  are_placed c (n + 1) ports opened a.1 (omega arith) (All-tail (λ (x : Opened S). length x.name ≤ 4096) o opened names),
)
are_placed c n [] (o ∷ opened) a e names = absurd (omega arith)
are_placed c n (p ∷ ports) [] a e names = absurd (omega arith)
