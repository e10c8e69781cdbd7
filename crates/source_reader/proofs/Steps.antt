-- What a step of a pipe is for the reader that keeps it.
use Rattle.std.proofs.Common.{◌≡◌, ℕ, ◌<◌, ◌≤◌, Bool, Some, None, List, [], ◌∷◌, ◌++◌, length, map, Option, Result, Ok, Err, refl, sym, ap, subst, ◌∙◌, arith, append-nil}
use Rattle.std.specs.Prelude.{IfOk, OnErr}
use Rattle.cap_base.specs.declared.failures.NoMemory.{NoMemory}
use Rattle.std.proofs.lemmas.List.{map-append, length-take}
use Rattle.cap_base.specs.Endings.{IsOpen}
use Rattle.cap_base.specs.Events.{Event, interface, packet}
use Rattle.cap_base.specs.Feeding as feeding
use Rattle.cap_base.specs.Carried.{is_interface_option, is_packet_option, AreCarried, IsFitStep}
use Rattle.cap_base.specs.declared.endings.How.{How}
use Rattle.cap_base.specs.declared.endings.How.TheVariants as how
use Rattle.cap_base.specs.declared.steps.Step.{Step}
use Rattle.cap_base.specs.declared.steps.Step.TheVariants as step
use Rattle.pcap_pipe.specs.Pipe as classic
use Rattle.pcap_pipe.proofs.Going as classic_going
use Rattle.pcapng_pipe.specs.Pipe as pcapng
use Rattle.source_reader.specs.declared.stage.Stage.{Stage}
use Rattle.source_reader.specs.declared.stage.Stage.TheVariants.{Choosing, Classic, Pcapng}
use Rattle.source_reader.specs.Reading.{Reading, cut_event, events}
use Rattle.source_reader.specs.State.{State, StandsFor, Gives, EndsAs, Steps, name_of}
use Rattle.source_reader.specs.inner.Cutting.{cut_step}
use Rattle.source_reader.specs.Laws.{GivenAreFront}
use Rattle.source_reader.proofs.Wholes.{whole_short, whole_classic, whole_pcapng}

abbrev pub in_choosing : Option ℕ → List ℕ → List ℕ → State
in_choosing snap name head = record { snap = snap; stage = Choosing name head }

abbrev pub in_classic : Option ℕ → classic.Pipe → State
in_classic snap pipe = record { snap = snap; stage = Classic pipe }

abbrev pub in_pcapng : Option ℕ → pcapng.Pipe → State
in_pcapng snap pipe = record { snap = snap; stage = Pcapng pipe }

-- ---- classic pcap

pub classic_ends : (snap : Option ℕ) (pipe : classic.Pipe) (P : How → Type 0) → classic.EndsAs pipe P → EndsAs (in_classic snap pipe) P
classic_ends snap pipe P ends = λ fed given s.
    let e = ends fed s.2 s.4 in
    let w = whole_classic pipe.name fed s.0 s.1 in
    (ap (λ (r : Reading). map (cut_event snap) r.0) w ∙ ap (map (cut_event snap)) e.0 ∙ sym s.3, subst (λ (r : Reading). P r.1) (sym w) e.1)

pub classic_gives : (snap : Option ℕ) (old new : classic.Pipe) (es : List Event) → classic.Gives old new es → Gives (in_classic snap old) (in_classic snap new) (map (cut_event snap) es)
classic_gives snap old new es gives = λ fed given s.
    (s.0, s.1, s.2 ++ es, ap (λ (l : List Event). l ++ map (cut_event snap) es) s.3 ∙ sym (map-append (cut_event snap) s.2 es), gives fed s.2 s.4)

pub classic_steps : (snap : Option ℕ) (old new : classic.Pipe) (s : Step) → classic.Steps old new s → Steps (in_classic snap old) (in_classic snap new) (cut_step snap s)
classic_steps snap old new (step.Iface i) steps = classic_gives snap old new (interface i ∷ []) steps
classic_steps snap old new (step.Packet p) steps = classic_gives snap old new (packet p ∷ []) steps
classic_steps snap old new step.More steps =
    let stays : classic.Gives old new [] = subst (λ (p : classic.Pipe). classic.Gives old p []) (sym steps.0) (classic_going.stays old) in
    (classic_gives snap old new [] stays, steps.1, classic_ends snap new IsOpen steps.2)
classic_steps snap old new (step.Bad code at) steps = (classic_gives snap old new [] steps.0, steps.1, classic_ends snap new (λ e. e ≡ how.Bad code at) steps.2)

-- ---- pcapng

pub pcapng_ends : (snap : Option ℕ) (pipe : pcapng.Pipe) (P : How → Type 0) → pcapng.EndsAs pipe P → EndsAs (in_pcapng snap pipe) P
pcapng_ends snap pipe P ends = λ fed given s.
    let e = ends fed s.2 s.4 in
    let w = whole_pcapng pipe.name fed s.0 s.1 in
    (ap (λ (r : Reading). map (cut_event snap) r.0) w ∙ ap (map (cut_event snap)) e.0 ∙ sym s.3, subst (λ (r : Reading). P r.1) (sym w) e.1)

pub pcapng_gives : (snap : Option ℕ) (old new : pcapng.Pipe) (es : List Event) → pcapng.Gives old new es → Gives (in_pcapng snap old) (in_pcapng snap new) (map (cut_event snap) es)
pcapng_gives snap old new es gives = λ fed given s.
    (s.0, s.1, s.2 ++ es, ap (λ (l : List Event). l ++ map (cut_event snap) es) s.3 ∙ sym (map-append (cut_event snap) s.2 es), gives fed s.2 s.4)

pub pcapng_steps : (snap : Option ℕ) (old new : pcapng.Pipe) (s : Step) → pcapng.Steps old new s → Steps (in_pcapng snap old) (in_pcapng snap new) (cut_step snap s)
pcapng_steps snap old new (step.Iface i) steps = pcapng_gives snap old new (interface i ∷ []) steps
pcapng_steps snap old new (step.Packet p) steps = pcapng_gives snap old new (packet p ∷ []) steps
pcapng_steps snap old new step.More steps = (pcapng_gives snap old new [] steps.0, steps.1, pcapng_ends snap new IsOpen steps.2)
pcapng_steps snap old new (step.Bad code at) steps = (pcapng_gives snap old new [] steps.0, steps.1, pcapng_ends snap new (λ e. e ≡ how.Bad code at) steps.2)

-- ---- what was given

front_of : (p : feeding.Position Event How) (fed : List ℕ) (given : List Event) → feeding.StandsFor p fed given → (es : List Event) × ((p.reading fed).0 ≡ given ++ es)
front_of p fed given stands =
    let all : p.reading fed ≡ feeding.with_front given (p.onward p.kept) = simp append-nil at (stands.goes []) in
    ((p.onward p.kept).0, ap (λ (r : Reading). r.0) all)

given_by : (snap : Option ℕ) (stage : Stage) (fed : List ℕ) (given : List Event) → (let s : State = record { snap = snap; stage = stage } in StandsFor s fed given)
    → (es : List Event) × (let s : State = record { snap = snap; stage = stage } in events (name_of s) snap fed ≡ given ++ es)
given_by snap (Choosing name head) fed given s = ([], ap (λ (r : Reading). map (cut_event snap) r.0) (whole_short name fed s.2) ∙ sym (ap (λ (l : List Event). l ++ []) s.1))
given_by snap (Classic pipe) fed given s =
    let f = front_of (classic.position pipe) fed s.2 s.4 in
    (map (cut_event snap) f.0, ap (λ (r : Reading). map (cut_event snap) r.0) (whole_classic pipe.name fed s.0 s.1) ∙ ap (map (cut_event snap)) f.1 ∙ map-append (cut_event snap) s.2 f.0 ∙ ap (λ (l : List Event). l ++ map (cut_event snap) f.0) (sym s.3))
given_by snap (Pcapng pipe) fed given s =
    let f = front_of (pcapng.position pipe) fed s.2 s.4 in
    (map (cut_event snap) f.0, ap (λ (r : Reading). map (cut_event snap) r.0) (whole_pcapng pipe.name fed s.0 s.1) ∙ ap (map (cut_event snap)) f.1 ∙ map-append (cut_event snap) s.2 f.0 ∙ ap (λ (l : List Event). l ++ map (cut_event snap) f.0) (sym s.3))

pub given_are_front : GivenAreFront
given_are_front s fed given stands = given_by s.snap s.stage fed given stands

pub on_err : {T E : Type 0} → (r : Result T E) (P : Type 0) → P → OnErr r P
on_err (Ok x) P p = tt
on_err (Err e) P p = p

-- where a reader stands in a stage
pub state_is : (snap : Option ℕ) (stage other : Stage) (now : State) → stage ≡ other → (let s : State = record { snap = snap; stage = stage } in s) ≡ now → (let s : State = record { snap = snap; stage = other } in s) ≡ now
state_is snap stage other now e is = sym (ap (λ (x : Stage). let s : State = record { snap = snap; stage = x } in s) e) ∙ is

-- before the format is known nothing is given
pub choosing_steps : (snap : Option ℕ) (name head : List ℕ) → length head < 4 → Steps (in_choosing snap name head) (in_choosing snap name head) step.More
choosing_steps snap name head few = (
  λ fed given s. (s.0, ap (λ (l : List Event). l ++ []) s.1, s.2),
  few,
  λ fed given s.
      let w = whole_short name fed s.2 in
      (ap (λ (r : Reading). map (cut_event snap) r.0) w ∙ sym s.1, subst (λ (r : Reading). IsOpen r.1) (sym w) tt),
)

-- the same of a reader in a stage
pub steps_from : (old now new : State) (s : Step) → old ≡ now → Steps old new s → Steps now new s
steps_from old now new s is steps = subst (λ (o : State). Steps o new s) is steps

pub gives_from : (old now new : State) (es : List Event) → old ≡ now → Gives old new es → Gives now new es
gives_from old now new es is gives = subst (λ (o : State). Gives o new es) is gives

pub classic_stays : (snap : Option ℕ) (old new : classic.Pipe) → new ≡ old → Gives (in_classic snap old) (in_classic snap new) []
classic_stays snap old new same = classic_gives snap old new [] (subst (λ (p : classic.Pipe). classic.Gives old p []) (sym same) (classic_going.stays old))

-- an answer's step, and a refusal
pub step_by : (old now new view : State) (r : Result Step NoMemory) (s : Step) → r ≡ Ok s → view ≡ new → old ≡ now → Steps old new s → IfOk r (λ x. Steps now view x)
step_by old now new view r s answered there here steps = rw answered (subst (λ (v : State). Steps now v s) (sym there) (subst (λ (o : State). Steps o new s) here steps))

pub no_step : (now view : State) (r : Result Step NoMemory) (e : NoMemory) → r ≡ Err e → IfOk r (λ x. Steps now view x)
no_step now view r e answered = rw answered tt

pub kept_by : (old now new view : State) (r : Result Step NoMemory) → view ≡ new → old ≡ now → Gives old new [] → OnErr r (Gives now view [])
kept_by old now new view r there here gives = on_err r _ (subst (λ (v : State). Gives now v []) (sym there) (subst (λ (o : State). Gives o new []) here gives))

pub no_error : (r : Result Step NoMemory) (s : Step) (P : Type 0) → r ≡ Ok s → OnErr r P
no_error r s P answered = rw answered tt

-- ---- what is given is such as the output may hold

none_carried : (P : ℕ → ℕ → Bool) → AreCarried P []
none_carried P = record { each = refl; few = omega arith }

pub classic_fits : (old new : classic.Pipe) (s : Step) → classic.IsLawful old new s → length old.name ≤ 65535 → IsFitStep s
classic_fits old new (step.Iface i) l few = record {
  name = subst (λ (n : List ℕ). length n ≤ 65535) (sym l.1) few;
  notes = subst (AreCarried is_interface_option) (sym l.2) (none_carried is_interface_option);
}
classic_fits old new (step.Packet p) l few = record { body = l.2; notes = subst (AreCarried is_packet_option) (sym l.1) (none_carried is_packet_option) }
classic_fits old new step.More l few = tt
classic_fits old new (step.Bad code at) l few = tt

pub cut_fits : (snap : Option ℕ) (s : Step) → IsFitStep s → IsFitStep (cut_step snap s)
cut_fits None (step.Iface i) f = f
cut_fits (Some most) (step.Iface i) f = record { name = f.name; notes = f.notes }
cut_fits None (step.Packet p) f = f
cut_fits (Some most) (step.Packet p) f =
    let few : length p.body ≤ 262144 = f.body in
    record { body = omega (arith, length-take most p.body); notes = f.notes }
cut_fits snap step.More f = tt
cut_fits snap (step.Bad code at) f = tt

pub fit_by : (r : Result Step NoMemory) (s : Step) → r ≡ Ok s → IsFitStep s → IfOk r (λ x. IsFitStep x)
fit_by r s answered fits = rw answered fits

pub no_fit : (r : Result Step NoMemory) (e : NoMemory) → r ≡ Err e → IfOk r (λ x. IsFitStep x)
no_fit r e answered = rw answered tt
