-- The bytes that were read decide the answer, where they hold a packet or a defect.
use Rattle.std.proofs.Common.{◌≡◌, inl, inr, ℕ, List, [], ◌∷◌, ◌++◌, length, Option, Result, Ok, Err, refl, sym, ap, subst, ◌∙◌, arith, append_assoc, true≢false}
use Rattle.std.specs.Prelude.{is_some}
use Rattle.std.proofs.lemmas.List.{append-nil, length-append}
use Rattle.cap_base.specs.Endings.{IsOpen}
use Rattle.cap_base.specs.declared.packet.Packet.{Packet}
use Rattle.cap_base.specs.declared.endings.How.{How}
use Rattle.cap_base.specs.declared.endings.How.TheVariants as how
use Rattle.sync_pipe.specs.declared.said.Said.{Said}
use Rattle.pcapng_pipe.specs.Reading.{reading, Reading}
use Rattle.pcapng_pipe.proofs.Texts.{bad_stays, events_grow}
use Rattle.live_follower.specs.declared.progress.Progress.{Progress}
use Rattle.live_follower.specs.declared.progress.Progress.TheVariants as progress
use Rattle.live_follower.specs.declared.fault.FollowFault.{FollowFault}
use Rattle.live_follower.specs.declared.fault.FollowFault.TheVariants as fault
use Rattle.live_follower.specs.Packets.{packet_events, packets, ending, own_name, AllGiven}
use Rattle.live_follower.specs.Faults.{IsBadAt}
use Rattle.live_follower.specs.Following.{Following, StandsFor, ReadsOn}
use Rattle.live_follower.specs.Laws.{PacketIsGiven, DefectIsAnswered}
use Rattle.live_follower.proofs.Readings.{packet_events_append}
use Rattle.live_follower.proofs.Honest.{given_first, is_bad}

-- ---- lists

first_or : Packet → List Packet → Packet
first_or p [] = p
first_or p (x ∷ xs) = x

behind_first : List Packet → List Packet
behind_first [] = []
behind_first (x ∷ xs) = xs

-- behind the same elements comes the same one
next_is : (xs : List Packet) (p q : Packet) (ys zs : List Packet) → xs ++ p ∷ ys ≡ (xs ++ q ∷ []) ++ zs → q ≡ p
unfolding first_or behind_first
next_is [] p q ys zs e = sym (ap (first_or p) e)
next_is (x ∷ xs) p q ys zs e = next_is xs p q ys zs (ap behind_first e)

-- ---- a packet

packets_grow : (bytes more : List ℕ) → (later : List Packet) × (packets (bytes ++ more) ≡ packets bytes ++ later)
packets_grow bytes more =
    let on = events_grow own_name bytes more in
    (packet_events on.0, ap packet_events on.1 ∙ packet_events_append (reading own_name bytes).0 on.0)

-- where a packet wasn't given, not all were
not_all : (told : Option (Option (List ℕ))) (old new : Following) (messages : List Said) (bytes : List ℕ) (given : List Packet) (p : Packet) (rest : List Packet) (P : How → Type 0)
    → StandsFor old messages bytes given → ReadsOn told old new [] → packets bytes ≡ given ++ p ∷ rest → AllGiven new.pipe P → ⊥
not_all told old new messages bytes given p rest P st r has all =
    let after = r.stands messages bytes given st in
    let a = all (bytes ++ r.more) (given ++ []) after.holds in
    let on = packets_grow bytes r.more in
    let whole : (given ++ p ∷ rest) ++ on.0 ≡ given = sym (on.1 ∙ ap (λ (l : List Packet). l ++ on.0) has) ∙ a.0 ∙ append-nil given in
    omega (arith, ap (λ (l : List Packet). length l) whole, length-append (given ++ p ∷ rest) on.0, length-append given (p ∷ rest))

pub packet_given : PacketIsGiven
packet_given budget s old new (Ok (progress.Packet q)) messages bytes given p rest st r a wants has =
    let after = given_first new messages (bytes ++ r.more) (given ++ q ∷ []) (r.stands messages bytes given st) in
    let on = packets_grow bytes r.more in
    let whole : given ++ p ∷ (rest ++ on.0) ≡ (given ++ q ∷ []) ++ after.rest = sym (append_assoc given (p ∷ rest) on.0) ∙ sym (on.1 ∙ ap (λ (l : List Packet). l ++ on.0) has) ∙ after.first in
    inl (ap (λ (x : Packet). let r : Result Progress FollowFault = Ok (progress.Packet x) in r) (next_is given p q (rest ++ on.0) after.rest whole))
packet_given budget s old new (Ok progress.Reached) messages bytes given p rest st r a wants has = absurd (let no : ⊥ = omega (arith, a.0, wants.fewer) in no)
packet_given budget s old new (Ok progress.More) messages bytes given p rest st r a wants has = absurd (not_all s.shown old new messages bytes given p rest IsOpen st r has a.3)
packet_given budget s old new (Err fault.NoFile) messages bytes given p rest st r a wants has = absurd (true≢false (sym wants.file ∙ ap is_some a.0))
packet_given budget s old new (Err (fault.Gone name)) messages bytes given p rest st r a wants has = absurd (not_all s.shown old new messages bytes given p rest IsOpen st r has a.2.5.all)
packet_given budget s old new (Err (fault.Behind at)) messages bytes given p rest st r a wants has = absurd (not_all s.shown old new messages bytes given p rest IsOpen st r has a.2.5.all)
packet_given budget s old new (Err (fault.Bad at)) messages bytes given p rest st r a wants has = absurd (not_all s.shown old new messages bytes given p rest (IsBadAt at) st r has a.3)
packet_given budget s old new (Err fault.ViewFault) messages bytes given p rest st r a wants has = absurd (not_all s.shown old new messages bytes given p rest IsOpen st r has a.2.3.all)
packet_given budget s old new (Err fault.NoMemory) messages bytes given p rest st r a wants has = inr refl

-- ---- a defect

-- the same bytes and packets behind a defect
stays_bad : (bytes more : List ℕ) (at : ℕ) → IsBadAt at (ending bytes) → reading own_name (bytes ++ more) ≡ reading own_name bytes
stays_bad bytes more at bad = bad_stays own_name bytes more (is_bad at (ending bytes) bad)

not_open : (at : ℕ) (h : How) → IsBadAt at h → IsOpen h → ⊥
not_open at (how.Bad code place) bad waits = waits
not_open at h bad waits = absurd bad

same_place : (at other : ℕ) (h : How) → IsBadAt at h → IsBadAt other h → other ≡ at
same_place at other (how.Bad code place) a b = sym b ∙ a
same_place at other h a b = absurd a

not_waiting : (told : Option (Option (List ℕ))) (old new : Following) (messages : List Said) (bytes : List ℕ) (given : List Packet) (at : ℕ)
    → StandsFor old messages bytes given → ReadsOn told old new [] → IsBadAt at (ending bytes) → AllGiven new.pipe IsOpen → ⊥
not_waiting told old new messages bytes given at st r bad all =
    let after = r.stands messages bytes given st in
    let a = all (bytes ++ r.more) (given ++ []) after.holds in
    not_open at (ending bytes) bad (subst (λ (x : Reading). IsOpen x.1) (stays_bad bytes r.more at bad) a.1)

pub defect_answered : DefectIsAnswered
defect_answered budget s old new (Ok (progress.Packet q)) messages bytes given at st r a wants all bad =
    let after = given_first new messages (bytes ++ r.more) (given ++ q ∷ []) (r.stands messages bytes given st) in
    let same : given ≡ (given ++ q ∷ []) ++ after.rest = sym all ∙ sym (ap (λ (x : Reading). packet_events x.0) (stays_bad bytes r.more at bad)) ∙ after.first in
    absurd (let no : ⊥ = omega (arith, ap (λ (l : List Packet). length l) same, length-append (given ++ q ∷ []) after.rest, length-append given (q ∷ [])) in no)
defect_answered budget s old new (Ok progress.Reached) messages bytes given at st r a wants all bad = absurd (let no : ⊥ = omega (arith, a.0, wants.fewer) in no)
defect_answered budget s old new (Ok progress.More) messages bytes given at st r a wants all bad = absurd (not_waiting s.shown old new messages bytes given at st r bad a.3)
defect_answered budget s old new (Err fault.NoFile) messages bytes given at st r a wants all bad = absurd (true≢false (sym wants.file ∙ ap is_some a.0))
defect_answered budget s old new (Err (fault.Gone name)) messages bytes given at st r a wants all bad = absurd (not_waiting s.shown old new messages bytes given at st r bad a.2.5.all)
defect_answered budget s old new (Err (fault.Behind place)) messages bytes given at st r a wants all bad = absurd (not_waiting s.shown old new messages bytes given at st r bad a.2.5.all)
defect_answered budget s old new (Err (fault.Bad place)) messages bytes given at st r a wants all bad =
    let after = r.stands messages bytes given st in
    let x = a.3 (bytes ++ r.more) (given ++ []) after.holds in
    let there : IsBadAt place (ending bytes) = subst (λ (y : Reading). IsBadAt place y.1) (stays_bad bytes r.more at bad) x.1 in
    inl (ap (λ (n : ℕ). let r : Result Progress FollowFault = Err (fault.Bad n) in r) (same_place at place (ending bytes) bad there))
defect_answered budget s old new (Err fault.ViewFault) messages bytes given at st r a wants all bad = absurd (not_waiting s.shown old new messages bytes given at st r bad a.2.3.all)
defect_answered budget s old new (Err fault.NoMemory) messages bytes given at st r a wants all bad = inr refl
