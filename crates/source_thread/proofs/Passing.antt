-- What the reader gave, and the sender received.
use Rattle.std.proofs.Common.{◌≡◌, ◌+◌, ◌<◌, List, [], ◌∷◌, ◌++◌, length, map, refl, sym, ap, ◌∙◌, subst, append_assoc, arith}
use Rattle.std.proofs.lemmas.List.{append-nil}
use Rattle.cap_base.specs.Events.{Event, interface, packet}
use Rattle.cap_base.specs.declared.packet.Packet.{Packet}
use Rattle.packet_queue.specs.Ends.{QueueCell, port_numbers}
use Rattle.source_thread.specs.declared.sender.Sender.{Sender}
use Rattle.source_thread.specs.inner.Readers.{State, StandsFor, Gives, interfaces}
use Rattle.source_thread.specs.inner.Sending.{IsSender, AllNumbered, IsGiven, Receives, ReceivesFront, Keeps, Passed, PassedFront, number_of, entries_of, waiting}
use Rattle.source_thread.proofs.Entries.{as_many}
use Rattle.source_thread.proofs.Readers.{described}
use Rattle.source_thread.proofs.Batches.{received_none, received_both, front_both, front_all}

pub gives_nothing : (r0 r1 : State) → r1 ≡ r0 → Gives r0 r1 []
gives_nothing r0 r1 e fed given s = subst (λ (l : List Event). StandsFor r1 fed l) (sym (append-nil given)) (subst (λ (r : State). StandsFor r fed given) (sym e) s)

pub gives_both : (r0 r1 r2 : State) (x y : List Event) → Gives r0 r1 x → Gives r1 r2 y → Gives r0 r2 (x ++ y)
gives_both r0 r1 r2 x y p q fed given s = subst (λ (l : List Event). StandsFor r2 fed l) (append_assoc given x y) (q fed (given ++ x) (p fed given s))

pub passed_none : (r0 r1 : State) (s : Sender) → Gives r0 r1 [] → Passed r0 r1 s s
passed_none r0 r1 s g = record { more = []; gives = g; receives = received_none s }

pub passed_both : {r0 r1 r2 : State} {s0 s1 s2 : Sender} → Passed r0 r1 s0 s1 → Passed r1 r2 s1 s2 → Passed r0 r2 s0 s2
passed_both {r0} {r1} {r2} {s0} {s1} {s2} x y = record { more = x.more ++ y.more; gives = gives_both r0 r1 r2 x.more y.more x.gives y.gives; receives = received_both s0 s1 s2 x.more y.more x.receives y.receives }

pub passed_front : {r0 r1 r2 : State} {s0 s1 s2 : Sender} → Passed r0 r1 s0 s1 → PassedFront r1 r2 s1 s2 → PassedFront r0 r2 s0 s2
passed_front {r0} {r1} {r2} {s0} {s1} {s2} x y = record { more = x.more ++ y.more; gives = gives_both r0 r1 r2 x.more y.more x.gives y.gives; receives = front_both s0 s1 s2 x.more y.more x.receives y.receives }

pub none_passed : (r0 r1 : State) (s : Sender) → Gives r0 r1 [] → PassedFront r0 r1 s s
none_passed r0 r1 s g = record { more = []; gives = g; receives = front_all s s [] (received_none s) }

-- the packets that waited were offered behind the events
pub passed_out : (r0 r1 : State) (s0 s1 s2 : Sender) → Passed r0 r1 s0 s1 → Receives s1 s2 [] → Passed r0 r1 s0 s2
passed_out r0 r1 s0 s1 s2 x p = record { more = x.more; gives = x.gives; receives = subst (λ (l : List Event). Receives s0 s2 l) (append-nil x.more) (received_both s0 s1 s2 x.more [] x.receives p) }

pub passed_out_front : (r0 r1 : State) (s0 s1 s2 : Sender) → Passed r0 r1 s0 s1 → ReceivesFront s1 s2 [] → PassedFront r0 r1 s0 s2
passed_out_front r0 r1 s0 s1 s2 x p = record { more = x.more; gives = x.gives; receives = subst (λ (l : List Event). ReceivesFront s0 s2 l) (append-nil x.more) (front_both s0 s1 s2 x.more [] x.receives p) }

-- or as far as they were received
pub front_out : (r0 r1 : State) (s0 s1 s2 : Sender) → PassedFront r0 r1 s0 s1 → ReceivesFront s1 s2 [] → PassedFront r0 r1 s0 s2
front_out r0 r1 s0 s1 s2 x p = record {
  more = x.more;
  gives = x.gives;
  receives = λ given h. let f = x.receives given h in let k = p f.front f.holds in
      record { front = k.front; lost = k.lost ++ f.lost; parts = f.parts ∙ ap (λ (z : List Event). z ++ f.lost) (sym (append-nil f.front) ∙ k.parts) ∙ append_assoc k.front k.lost f.lost; holds = k.holds };
}

pub given_after : (r0 r1 : State) (s0 s1 : Sender) → IsGiven r0 s0 → Passed r0 r1 s0 s1 → IsGiven r1 s1
given_after r0 r1 s0 s1 g x = (g.0, record { given = g.1.given ++ x.more; stands = x.gives g.0 g.1.given g.1.stands; holds = x.receives g.1.given g.1.holds })

pub keeps_both : (a b c : Sender) → Keeps a b → Keeps b c → Keeps a c
keeps_both a b c p q = record { number = q.number ∙ p.number; grown = (p.grown.0 ++ q.grown.0, q.grown.1 ∙ ap (λ z. z ++ q.grown.0) p.grown.1 ∙ append_assoc (entries_of a) p.grown.0 q.grown.0) }

waiting_none : (ps : List Packet) → interfaces (map packet ps) ≡ 0
waiting_none [] = refl
waiting_none (p ∷ ps) = waiting_none ps

count-append : (xs ys : List Event) → interfaces (xs ++ ys) ≡ interfaces xs + interfaces ys
count-append [] ys = omega arith
count-append (interface i ∷ xs) ys = let r : interfaces (xs ++ ys) ≡ interfaces xs + interfaces ys = count-append xs ys in omega arith
count-append (packet p ∷ xs) ys = count-append xs ys

-- the interface of a packet that the reader gives was joined
pub joined_before : (c : QueueCell) (r0 r1 : State) (s : Sender) (p : Packet) → IsSender c s → AllNumbered s → IsGiven r0 s → Gives r0 r1 (packet p ∷ []) → p.iface < length (port_numbers s.port)
joined_before c r0 r1 s p is all g gives =
    let x = g.1 in
    let d : p.iface < interfaces x.given = described r1 g.0 x.given p (gives g.0 x.given x.stands) in
    let h = x.holds in
    let n : length (port_numbers s.port) ≡ interfaces h.entered = ap length is.port.numbers ∙ as_many (number_of s) (port_numbers s.port) h.entered (entries_of s) h.each all in
    let k : interfaces x.given ≡ interfaces h.entered + interfaces (map packet (waiting s)) = ap interfaces h.parts ∙ count-append h.entered (map packet (waiting s)) in
    let w : interfaces (map packet (waiting s)) ≡ 0 = waiting_none (waiting s) in
    omega arith
