-- What a pipe was fed of a file, and the packets that it gave.
use Rattle.std.proofs.Common.{◌≡◌, ◌≤◌, ◌+◌, ℕ, List, [], ◌∷◌, ◌++◌, length, take, drop, Option, Some, None, IfSome, Result, Ok, Err, refl, sym, ap, subst, ◌∙◌, arith, append_assoc}
use Rattle.std.proofs.lemmas.List.{append-nil, length-append, length-take-le, drop-drop}
use Rattle.std.proofs.Math.Seq.{take-add}
use Rattle.cap_base.specs.Events.{Event, interface, packet}
use Rattle.cap_base.specs.declared.packet.Packet.{Packet}
use Rattle.cap_base.specs.declared.endings.Code.{Code}
use Rattle.cap_base.specs.declared.failures.Failed.{Failed}
use Rattle.cap_base.specs.declared.endings.How.{How}
use Rattle.cap_base.specs.declared.endings.How.TheVariants as how
use Rattle.cap_base.proofs.Feedings as feedings
use Rattle.cap_outside.specs.Shown.{bytes_shown, ReadsShown}
use Rattle.pcapng_pipe.specs.Pipe as pcapng
use Rattle.pcapng_pipe.specs.Pipe.{Pipe, fed_count, with_kept}
use Rattle.pcapng_pipe.specs.Reading.{reading}
use Rattle.live_follower.specs.declared.found.Found.{Found}
use Rattle.live_follower.specs.declared.found.Found.TheVariants as found
use Rattle.live_follower.specs.declared.fault.FollowFault.{FollowFault}
use Rattle.live_follower.specs.Packets.{packet_events, AllGiven}
use Rattle.live_follower.specs.Faults.{IsBadAt, IsBehind}
use Rattle.live_follower.specs.inner.Seeking.{GivesPackets, Reads, LookCause}
use Rattle.live_follower.specs.Seen.{Seen}
use Rattle.live_follower.specs.declared.fault.FollowFault.TheVariants as fault

pub packet_events_append : (xs ys : List Event) → packet_events (xs ++ ys) ≡ packet_events xs ++ packet_events ys
packet_events_append [] ys = refl
packet_events_append (interface i ∷ xs) ys = packet_events_append xs ys
packet_events_append (packet p ∷ xs) ys = ap (λ (l : List Packet). p ∷ l) (packet_events_append xs ys)

-- ---- events of a pipe

pub gives_none : (p : Pipe) → GivesPackets p p []
gives_none p = record { events = []; are = refl; name = refl; gives = feedings.stays (pcapng.position p) }

pub gives_then : (a b c : Pipe) (ps : List Packet) → GivesPackets a b [] → GivesPackets b c ps → GivesPackets a c ps
gives_then a b c ps x y = record {
  events = x.events ++ y.events;
  are = packet_events_append x.events y.events ∙ ap (λ (l : List Packet). l ++ packet_events y.events) x.are ∙ y.are;
  name = y.name ∙ x.name;
  gives = feedings.gives_both (pcapng.position a) (pcapng.position b) (pcapng.position c) x.events y.events x.gives y.gives;
}

pub gives_events : (a b : Pipe) (es : List Event) → b.name ≡ a.name → pcapng.Gives a b es → GivesPackets a b (packet_events es)
gives_events a b es name gives = record { events = es; are = refl; name = name; gives = gives }

-- where all events were given, so were all packets
pub all_given : (pipe : Pipe) (P Q : How → Type 0) → ((h : How) → P h → Q h) → pcapng.EndsAs pipe P → AllGiven pipe Q
all_given pipe P Q to ends bytes given h =
    let e = ends bytes h.events h.stands in (
      ap (λ (n : List ℕ). packet_events (reading n bytes).0) (sym h.name) ∙ ap packet_events e.0 ∙ h.are,
      subst (λ (n : List ℕ). Q (reading n bytes).1) h.name (to (reading pipe.name bytes).1 e.1),
    )

pub bad_at : (code : Code) (at : ℕ) (h : How) → h ≡ how.Bad code at → IsBadAt at h
bad_at code at h is = subst (IsBadAt at) (sym is) refl

-- ---- bytes of a file

pub shown_none : (shown : Option (Option (List ℕ))) (at : ℕ) → IfSome shown (λ file. [] ≡ take 0 (drop at (bytes_shown file)))
shown_none None at = tt
shown_none (Some file) at = refl

pub shown_both : (shown : Option (Option (List ℕ))) (at next : ℕ) (xs ys : List ℕ) → next ≡ at + length xs
    → IfSome shown (λ file. xs ≡ take (length xs) (drop at (bytes_shown file)))
    → IfSome shown (λ file. ys ≡ take (length ys) (drop next (bytes_shown file)))
    → IfSome shown (λ file. xs ++ ys ≡ take (length (xs ++ ys)) (drop at (bytes_shown file)))
shown_both None at next xs ys is x y = tt
shown_both (Some file) at next xs ys is x y =
    let text = bytes_shown file in
    let parts : take (length xs + length ys) (drop at text) ≡ take (length xs) (drop at text) ++ take (length ys) (drop (length xs) (drop at text)) = take-add (length xs) (length ys) (drop at text) in
    let behind : drop next text ≡ drop (length xs) (drop at text) = ap (λ (n : ℕ). drop n text) is ∙ sym (drop-drop (length xs) at text) in
    let second : ys ≡ take (length ys) (drop (length xs) (drop at text)) = y ∙ ap (take (length ys)) behind in
    ap (λ (l : List ℕ). l ++ ys) x ∙ ap (λ (l : List ℕ). take (length xs) (drop at text) ++ l) second ∙ sym parts ∙ ap (λ (n : ℕ). take n (drop at text)) (sym (length-append xs ys))

pub shown_read : (E : Type 0) (shown : Option (Option (List ℕ))) (at n : ℕ) (into : List ℕ) → n ≤ length into → (let r : Result ℕ E = Ok n in ReadsShown shown at r into)
    → IfSome shown (λ file. take n into ≡ take (length (take n into)) (drop at (bytes_shown file)))
shown_read E None at n into within s = tt
shown_read E (Some file) at n into within s = s.0 ∙ ap (λ (k : ℕ). take k (drop at (bytes_shown file))) (sym (length-take-le n into within))

pub reads_gives : (shown : Option (Option (List ℕ))) (a b : Pipe) (ps : List Packet) → fed_count b ≡ fed_count a → GivesPackets a b ps → Reads shown a b ps
reads_gives shown a b ps same x = record {
  bytes = [];
  events = x.events;
  are = x.are;
  name = x.name;
  count = same ∙ omega arith;
  as_shown = shown_none shown (fed_count a);
  runs = λ fed es stands. subst (λ (l : List ℕ). pcapng.StandsFor b l (es ++ x.events)) (sym (append-nil fed)) (x.gives fed es stands);
}

pub reads_none : (shown : Option (Option (List ℕ))) (p : Pipe) → Reads shown p p []
reads_none shown p = reads_gives shown p p [] refl (gives_none p)

pub reads_fed : (shown : Option (Option (List ℕ))) (a b : Pipe) (bytes : List ℕ) → pcapng.Feeds a b bytes → b ≡ with_kept a bytes
    → IfSome shown (λ file. bytes ≡ take (length bytes) (drop (fed_count a) (bytes_shown file))) → Reads shown a b []
reads_fed shown a b bytes feeds is seen = record {
  bytes = bytes;
  events = [];
  are = refl;
  name = ap (λ (p : Pipe). p.name) is;
  count = ap fed_count is ∙ omega (arith, length-append a.kept bytes);
  as_shown = seen;
  runs = λ fed es stands. subst (λ (l : List Event). pcapng.StandsFor b (fed ++ bytes) l) (sym (append-nil es)) (feeds fed es stands);
}

pub reads_then : (shown : Option (Option (List ℕ))) (a b c : Pipe) (ps : List Packet) → Reads shown a b [] → Reads shown b c ps → Reads shown a c ps
reads_then shown a b c ps x y = record {
  bytes = x.bytes ++ y.bytes;
  events = x.events ++ y.events;
  are = packet_events_append x.events y.events ∙ ap (λ (l : List Packet). l ++ packet_events y.events) x.are ∙ y.are;
  name = y.name ∙ x.name;
  count = omega (arith, x.count, y.count, length-append x.bytes y.bytes);
  as_shown = shown_both shown (fed_count a) (fed_count b) x.bytes y.bytes x.count x.as_shown y.as_shown;
  runs = λ fed es stands.
      let both = y.runs (fed ++ x.bytes) (es ++ x.events) (x.runs fed es stands) in
      let left : pcapng.StandsFor c (fed ++ (x.bytes ++ y.bytes)) ((es ++ x.events) ++ y.events) = subst (λ (l : List ℕ). pcapng.StandsFor c l ((es ++ x.events) ++ y.events)) (append_assoc fed x.bytes y.bytes) both in
      subst (λ (l : List Event). pcapng.StandsFor c (fed ++ (x.bytes ++ y.bytes)) l) (append_assoc es x.events y.events) left;
}

-- a piece was fed whole
pub fed_whole : (a b c : Pipe) (n : ℕ) (into : List ℕ) → n ≤ length into → b ≡ with_kept a (take n into) → fed_count c ≡ fed_count b → fed_count c ≡ fed_count a + n
fed_whole a b c n into within is same =
    let fed : fed_count b ≡ fed_count a + length (take n into) = ap fed_count is ∙ omega (arith, length-append a.kept (take n into)) in
    omega (arith, same, fed, length-take-le n into within)

-- a piece was read and fed, and events were given
pub piece_read : (shown : Option (Option (List ℕ))) (a b c : Pipe) (at n : ℕ) (into : List ℕ) (ps : List Packet) → at ≡ fed_count a → n ≤ length into
    → (let r : Result ℕ Failed = Ok n in ReadsShown shown at r into) → pcapng.Feeds a b (take n into) → b ≡ with_kept a (take n into)
    → fed_count c ≡ fed_count b → GivesPackets b c ps → Reads shown a c ps
piece_read shown a b c at n into ps here within s feeds is same gives =
    let seen = subst (λ (k : ℕ). IfSome shown (λ file. take n into ≡ take (length (take n into)) (drop k (bytes_shown file)))) here (shown_read Failed shown at n into within s) in
    reads_then shown a b c ps (reads_fed shown a b (take n into) feeds is seen) (reads_gives shown b c ps same gives)

-- the same of a view that shows the same
pub reads_on : (shown other : Option (Option (List ℕ))) (a b c : Pipe) (ps : List Packet) → other ≡ shown → Reads shown a b [] → Reads other b c ps → Reads shown a c ps
reads_on shown other a b c ps same x y = reads_then shown a b c ps x (subst (λ (o : Option (Option (List ℕ))). Reads o b c ps) same y)

found_in : Found → Result Found FollowFault → Found
found_in f (Ok x) = x
found_in f (Err e) = f

-- what was found is something else than that more is needed
pub found_other : (f : Found) (P : Type 0) → (f ≡ found.More → ⊥) → (let r : Result Found FollowFault = Ok f in r ≡ Ok found.More) → P
unfolding found_in
found_other f P not is = absurd (not (ap (found_in f) is))

-- all packets were given before, where none was given since
pub all_before : (a b : Pipe) (P : How → Type 0) → GivesPackets a b [] → AllGiven b P → AllGiven a P
all_before a b P x all = λ bytes given h.
    let are : packet_events (h.events ++ x.events) ≡ given = packet_events_append h.events x.events ∙ ap (λ (l : List Packet). l ++ packet_events x.events) h.are ∙ ap (λ (l : List Packet). given ++ l) x.are ∙ append-nil given in
    all bytes given (record { name = x.name ∙ h.name; events = h.events ++ x.events; are = are; stands = x.gives bytes h.events h.stands })

-- before the first read a view isn't behind
pub look_not_behind : (s : Seen) (e : FollowFault) → LookCause s e → (let r : Result Found FollowFault = Err e in IsBehind r) → ⊥
look_not_behind s fault.NoFile c b = b
look_not_behind s (fault.Gone name) c b = b
look_not_behind s (fault.Behind at) c b = c
look_not_behind s (fault.Bad at) c b = b
look_not_behind s fault.ViewFault c b = b
look_not_behind s fault.NoMemory c b = b
