-- What the crate knows of its reader besides the contracts of its calls. The same has to be shown of another reader.
use Rattle.std.proofs.Common.{◌≡◌, ℕ, ◌≤◌, ◌-◌, min, true, false, List, [], ◌++◌, ◌<◌, ◌∷◌, length, map, Option, refl, ap, append_assoc, ◌∙◌, arith}
use Rattle.std.proofs.lemmas.List.{append-nil}
use Rattle.cap_base.specs.Events.{Event, packet}
use Rattle.cap_base.specs.declared.packet.Packet.{Packet}
use Rattle.cap_base.specs.declared.endings.How.{How}
use Rattle.cap_base.specs.declared.endings.How.TheVariants as how
use Rattle.source_reader.specs.declared.stage.Stage.{Stage}
use Rattle.source_reader.specs.declared.stage.Stage.TheVariants.{Choosing, Classic, Pcapng}
use Rattle.source_reader.specs.Reading.{Reading, cut_event, reading}
use Rattle.source_reader.specs.State.{room_for}
use Rattle.source_reader.proofs.Wholes.{whole_short, whole_classic, whole_pcapng, events_grow}
use Rattle.source_reader.proofs.Steps.{given_are_front, choosing_steps}
use Rattle.source_reader.proofs.Numbers.{packet_is_of_given}
use Rattle.source_thread.specs.Told.{is_defect}
use Rattle.source_thread.specs.inner.Readers.{State, StandsFor, IsDrained, EndsAs, IsOpen, IsWaiting, is_reading, events, ending, fed_count, kept_of, name_of, interfaces}

-- ---- events of the bytes fed

-- more bytes only add events
pub events_front : (name : List ℕ) (snap : Option ℕ) (front last : List ℕ) → (others : List Event) × (events name snap (front ++ last) ≡ events name snap front ++ others)
events_front name snap front last = events_grow name snap front last

-- the events given are a front of those of the bytes fed, however they go on
pub front_given : (r : State) (fed : List ℕ) (given : List Event) (more : List ℕ) → StandsFor r fed given → (others : List Event) × (events (name_of r) r.snap (fed ++ more) ≡ given ++ others)
front_given r fed given more s =
    let f = given_are_front r fed given s in
    let g = events_front (name_of r) r.snap fed more in
    (f.0 ++ g.0, g.1 ∙ ap (λ (l : List Event). l ++ g.0) f.1 ∙ append_assoc given f.0 g.0)

-- where nothing is to come, they are all of them
pub all_given : (r : State) (P : How → Type 0) (fed : List ℕ) (given : List Event) → EndsAs r P → StandsFor r fed given → events (name_of r) r.snap fed ≡ given
all_given r P fed given e s = (e fed given s).0

-- no bytes hold no events
pub no_events : (name : List ℕ) (snap : Option ℕ) → events name snap [] ≡ []
no_events name snap = ap (λ (r : Reading). map (cut_event snap) r.0) (whole_short name [] (omega arith))

-- ---- the bytes fed

fed_by : (snap : Option ℕ) (stage : Stage) (fed : List ℕ) (given : List Event) → (let s : State = record { snap = snap; stage = stage } in StandsFor s fed given) → (let s : State = record { snap = snap; stage = stage } in length fed ≡ fed_count s)
fed_by snap (Choosing name head) fed given s = ap length s.0
fed_by snap (Classic pipe) fed given s = s.4.count
fed_by snap (Pcapng pipe) fed given s = s.4.count

pub fed_is : (r : State) (fed : List ℕ) (given : List Event) → StandsFor r fed given → length fed ≡ fed_count r
fed_is r fed given s = fed_by r.snap r.stage fed given s

-- ---- a reader that waits

-- it takes a whole piece
room_by : (snap : Option ℕ) (stage : Stage) (len : ℕ) → len ≤ 65536 → (let s : State = record { snap = snap; stage = stage } in length (kept_of s) ≤ 16777216) → (let s : State = record { snap = snap; stage = stage } in is_reading s ≡ true) → (let s : State = record { snap = snap; stage = stage } in room_for s len ≡ len)
room_by snap (Choosing name head) len short kept is = omega arith
room_by snap (Classic pipe) len short kept is = rw is (omega arith)
room_by snap (Pcapng pipe) len short kept is = rw is (omega arith)

pub room_is : (r : State) (len : ℕ) → len ≤ 65536 → IsWaiting r → room_for r len ≡ len
room_is r len short w = room_by r.snap r.stage len short w.kept w.reading

open_is_none : (h : How) → IsOpen h → is_defect h ≡ false
open_is_none how.Clean i = refl
open_is_none (how.Cut at) i = refl
open_is_none (how.Bad code at) i = absurd i
open_is_none how.Stopped i = absurd i
open_is_none how.ReadFault i = absurd i
open_is_none how.OpenFault i = absurd i
open_is_none how.TooMany i = absurd i
open_is_none how.TooLong i = absurd i
open_is_none how.NoMemory i = absurd i
open_is_none how.Worn i = absurd i

-- the bytes have no defect
pub no_defect : (r : State) (b : List ℕ) (given : List Event) → EndsAs r IsOpen → StandsFor r b given → is_defect (ending (name_of r) b) ≡ false
no_defect r b given e s = open_is_none _ (e b given s).1

-- before it was fed anything
pub fresh_is_sound : (name : List ℕ) (snap : Option ℕ) → (let s : State = record { snap = snap; stage = Choosing name [] } in EndsAs s IsOpen)
fresh_is_sound name snap = (choosing_steps snap name [] (omega arith)).2

-- ---- a packet's interface is described before it

pub described : (r : State) (b : List ℕ) (given : List Event) (p : Packet) → StandsFor r b (given ++ packet p ∷ []) → p.iface < interfaces given
described r b given p s = packet_is_of_given r b given p s
