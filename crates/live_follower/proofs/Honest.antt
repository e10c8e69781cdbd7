-- Over a view that shows what was announced, a follower comes to it.
use Rattle.std.proofs.Common.{◌≡◌, ◌≤◌, ◌<◌, ◌^◌, ℕ, min, List, [], ◌∷◌, ◌++◌, length, take, drop, Option, Some, None, IfSome, Ok, Err, refl, sym, ap, true≢false, subst, ◌∙◌, arith, append_assoc}
use Rattle.std.specs.Prelude.{IsSome}
use Rattle.std.proofs.lemmas.List.{append-nil, take-append-drop}
use Rattle.cap_base.specs.Endings.{IsBad, IsOpen}
use Rattle.cap_base.specs.Feeding as feeding
use Rattle.cap_base.specs.declared.packet.Packet.{Packet}
use Rattle.cap_base.specs.declared.endings.How.{How}
use Rattle.cap_base.specs.declared.endings.How.TheVariants as how
use Rattle.cap_outside.specs.Shown.{bytes_shown}
use Rattle.sync_pipe.specs.declared.said.Said.{Said}
use Rattle.pcapng_pipe.specs.Pipe as pcapng
use Rattle.pcapng_pipe.specs.Pipe.{fed_count}
use Rattle.pcapng_pipe.specs.Reading.{reading, Reading}
use Rattle.pcapng_pipe.proofs.Texts.{bad_stays, events_grow}
use Rattle.live_follower.specs.declared.fault.FollowFault.TheVariants as fault
use Rattle.live_follower.specs.Packets.{packet_events, packets, ending, own_name, AllGiven}
use Rattle.live_follower.specs.Messages.{announced, counted, last_file}
use Rattle.live_follower.specs.Seen.{Seen}
use Rattle.live_follower.specs.Faults.{IsBadAt}
use Rattle.live_follower.specs.Following.{Following, StandsFor, ReadsOn, Wants}
use Rattle.live_follower.specs.Laws.{GivenAreFirst, ShowsAnnounced, HonestViewsSuffice, ReadingStaysShown, ReachedIsFirst}
use Rattle.live_follower.proofs.Readings.{packet_events_append}

pub given_first : GivenAreFirst
given_first f messages bytes given s =
    let h = s.holds in
    let position = pcapng.position f.pipe in
    let behind = position.onward (position.kept ++ []) in
    let all : position.reading (bytes ++ []) ≡ feeding.with_front h.events behind = h.stands.goes [] in
    let whole : reading f.pipe.name bytes ≡ feeding.with_front h.events behind = ap (λ (l : List ℕ). reading f.pipe.name l) (sym (append-nil bytes)) ∙ all in
    let own : (reading own_name bytes).0 ≡ h.events ++ behind.0 = ap (λ (n : List ℕ). (reading n bytes).0) (sym h.name) ∙ ap (λ (r : Reading). r.0) whole in
    record {
      rest = packet_events behind.0;
      first = ap packet_events own ∙ packet_events_append h.events behind.0 ∙ ap (λ (l : List Packet). l ++ packet_events behind.0) h.are;
      count = h.stands.count;
      few = omega (arith, s.count, s.within, s.announced);
    }

drop_front : (xs ys : List ℕ) → drop (length xs) (xs ++ ys) ≡ ys
drop_front [] ys = refl
drop_front (x ∷ xs) ys = drop_front xs ys

-- the bytes read are the first ones of those shown
shown_front : (bytes later shown more : List ℕ) → shown ≡ bytes ++ later → more ≡ take (length more) (drop (length bytes) shown) → (rest : List ℕ) × (shown ≡ (bytes ++ more) ++ rest)
shown_front bytes later shown more grows is =
    let behind : drop (length bytes) shown ≡ later = ap (drop (length bytes)) grows ∙ drop_front bytes later in
    let first : more ≡ take (length more) later = is ∙ ap (take (length more)) behind in
    let whole : later ≡ more ++ drop (length more) later = sym (take-append-drop (length more) later) ∙ ap (λ (l : List ℕ). l ++ drop (length more) later) (sym first) in
    (drop (length more) later, grows ∙ ap (λ (l : List ℕ). bytes ++ l) whole ∙ sym (append_assoc bytes more (drop (length more) later)))

-- what is known of a call over such a view, behind which all packets of the bytes read were given
record Stuck (messages : List Said) (given : List Packet) (shown : List ℕ) : Type 0 where
  text : List ℕ
  rest : List ℕ
  front : shown ≡ text ++ rest
  all : packets text ≡ given
  fewer : length given < announced messages

-- it can't be that nothing comes behind these bytes, or no packet
no_more : (messages : List Said) (given : List Packet) (shown : List ℕ) (s : Stuck messages given shown) → counted messages ≤ length (packets shown) → reading own_name shown ≡ reading own_name s.text → ⊥
no_more messages given shown s enough same =
    let count : length (packets shown) ≡ length given = ap (λ (r : Reading). length (packet_events r.0)) same ∙ ap (λ (l : List Packet). length l) s.all in
    let fewer : length given < min (counted messages) (2 ^ 62) = s.fewer in
    omega (arith, count, fewer, enough)

stuck : (told : Option (Option (List ℕ))) (old new : Following) (messages : List Said) (bytes : List ℕ) (given : List Packet) (shown : List ℕ) (P : How → Type 0)
    → StandsFor old messages bytes given → ReadsOn told old new [] → told ≡ Some (Some shown) → ShowsAnnounced messages bytes shown → Wants old → AllGiven new.pipe P
    → (s : Stuck messages given shown) × (length s.text ≡ fed_count new.pipe) × P (ending s.text)
stuck told old new messages bytes given shown P st r is honest wants all =
    let after = r.stands messages bytes given st in
    let seen : r.more ≡ take (length r.more) (drop (fed_count old.pipe) shown) = subst (λ (t : Option (Option (List ℕ))). IfSome t (λ file. r.more ≡ take (length r.more) (drop (fed_count old.pipe) (bytes_shown file)))) is r.as_shown in
    let there : fed_count old.pipe ≡ length bytes = sym st.holds.stands.count in
    let placed : r.more ≡ take (length r.more) (drop (length bytes) shown) = seen ∙ ap (λ (k : ℕ). take (length r.more) (drop k shown)) there in
    let front = shown_front bytes honest.later shown r.more honest.grows placed in
    let a = all (bytes ++ r.more) (given ++ []) after.holds in
    let fewer : length given < announced messages = omega (arith, st.count, wants.fewer, st.announced) in
    (record { text = bytes ++ r.more; rest = front.0; front = front.1; all = a.0 ∙ append-nil given; fewer = fewer }, after.holds.stands.count, a.1)

pub is_bad : (at : ℕ) (h : How) → IsBadAt at h → IsBad h
is_bad at (how.Bad code place) e = tt
is_bad at h e = absurd e

honest_bad : (s : Seen) (old new : Following) (messages : List Said) (bytes : List ℕ) (given : List Packet) (shown : List ℕ) (at : ℕ)
    → StandsFor old messages bytes given → ReadsOn s.shown old new [] → s.shown ≡ Some (Some shown) → ShowsAnnounced messages bytes shown → Wants old → AllGiven new.pipe (IsBadAt at) → ⊥
honest_bad s old new messages bytes given shown at st r is honest wants all =
    let k = stuck s.shown old new messages bytes given shown (IsBadAt at) st r is honest wants all in
    no_more messages given shown k.0 honest.enough (ap (reading own_name) k.0.front ∙ bad_stays own_name k.0.text k.0.rest (is_bad at (ending k.0.text) k.2))

honest_behind : (s : Seen) (old new : Following) (messages : List Said) (bytes : List ℕ) (given : List Packet) (shown : List ℕ) (at : ℕ)
    → StandsFor old messages bytes given → ReadsOn s.shown old new [] → s.shown ≡ Some (Some shown) → ShowsAnnounced messages bytes shown → Wants old → AllGiven new.pipe IsOpen
    → at ≡ fed_count new.pipe → IfSome s.shown (λ file. drop at (bytes_shown file) ≡ []) → ⊥
honest_behind s old new messages bytes given shown at st r is honest wants all place none =
    let k = stuck s.shown old new messages bytes given shown IsOpen st r is honest wants all in
    let text = k.0.text in
    let nothing : drop at shown ≡ [] = subst (λ (t : Option (Option (List ℕ))). IfSome t (λ file. drop at (bytes_shown file) ≡ [])) is none in
    let here : at ≡ length text = place ∙ sym k.1 in
    let rest : k.0.rest ≡ [] = sym (drop_front text k.0.rest) ∙ ap (drop (length text)) (sym k.0.front) ∙ ap (λ (n : ℕ). drop n shown) (sym here) ∙ nothing in
    let same : shown ≡ text = k.0.front ∙ ap (λ (l : List ℕ). text ++ l) rest ∙ append-nil text in
    no_more messages given shown k.0 honest.enough (ap (reading own_name) same)

none_is_none : (let none : Option (List ℕ) = None in IsSome none) → ⊥
none_is_none some = true≢false (sym some)

not_there : (told : Option (Option (List ℕ))) (shown : List ℕ) → told ≡ Some (Some shown) → IfSome told (λ file. file ≡ None) → ⊥
not_there told shown is none =
    let e : Some shown ≡ None = subst (λ (t : Option (Option (List ℕ))). IfSome t (λ file. file ≡ None)) is none in
    none_is_none (subst (λ (o : Option (List ℕ)). IsSome o) e refl)

not_named : (file : Option (List ℕ)) (messages : List Said) → file ≡ last_file messages → IsSome (last_file messages) → file ≡ None → ⊥
not_named file messages is some none = none_is_none (subst (λ (o : Option (List ℕ)). IsSome o) (sym is ∙ none) some)

pub honest : HonestViewsSuffice
honest budget s old new (Ok p) messages bytes given shown st r a is h quiet = tt
honest budget s old new (Err fault.NoFile) messages bytes given shown st r a is h quiet = absurd (not_named old.file messages st.file h.file a.0)
honest budget s old new (Err (fault.Gone name)) messages bytes given shown st r a is h quiet = absurd (not_there s.shown shown is a.2.4)
honest budget s old new (Err (fault.Behind at)) messages bytes given shown st r a is h quiet = absurd (honest_behind s old new messages bytes given shown at st r is h a.0 a.2.5.all a.2.0 a.2.4)
honest budget s old new (Err (fault.Bad at)) messages bytes given shown st r a is h quiet = absurd (honest_bad s old new messages bytes given shown at st r is h a.0 a.3)
honest budget s old new (Err fault.ViewFault) messages bytes given shown st r a is h quiet = absurd (quiet a.2.2)
honest budget s old new (Err fault.NoMemory) messages bytes given shown st r a is h quiet = tt

pub stays_shown : ReadingStaysShown
stays_shown told old new messages bytes given packets_now shown later st is grows r =
    let seen : r.more ≡ take (length r.more) (drop (fed_count old.pipe) shown) = subst (λ (t : Option (Option (List ℕ))). IfSome t (λ file. r.more ≡ take (length r.more) (drop (fed_count old.pipe) (bytes_shown file)))) is r.as_shown in
    let there : fed_count old.pipe ≡ length bytes = sym st.holds.stands.count in
    shown_front bytes later shown r.more grows (seen ∙ ap (λ (k : ℕ). take (length r.more) (drop k shown)) there)

take_front : (xs ys : List Packet) → take (length xs) (xs ++ ys) ≡ xs
take_front [] ys = refl
take_front (x ∷ xs) ys = ap (λ (l : List Packet). x ∷ l) (take_front xs ys)

pub reached_first : ReachedIsFirst
reached_first f messages bytes given shown later st reached grows =
    let first = given_first f messages bytes given st in
    let on = events_grow own_name bytes later in
    let whole : packets shown ≡ given ++ (first.rest ++ packet_events on.0) =
    ap packets grows ∙ ap packet_events on.1 ∙ packet_events_append (reading own_name bytes).0 on.0 ∙ ap (λ (l : List Packet). l ++ packet_events on.0) first.first ∙ append_assoc given first.rest (packet_events on.0) in
    let count : announced messages ≡ length given = sym st.announced ∙ sym reached ∙ st.count in
    sym (take_front given (first.rest ++ packet_events on.0)) ∙ ap (λ (n : ℕ). take n (given ++ (first.rest ++ packet_events on.0))) (sym count) ∙ ap (take (announced messages)) (sym whole)
