-- What a command line did, by the mode that its words ask for.
use Rattle.std.specs.Prelude.{ℕ, ◌≡◌, ◌⊎◌, List, [], ◌∷◌, Result, Ok, Err}
use Rattle.cap_outside.specs.declared.clock.Clock.{Ghosts as ClockMeaning}
use Rattle.cap_outside.specs.declared.opener.Opener.{Ghosts as OpenerMeaning}
use Rattle.cap_outside.specs.declared.outlet.Outlet.{Ghosts as OutletMeaning}
use Rattle.cap_outside.specs.declared.sink.Sink.{Ghosts as SinkMeaning}
use Rattle.cap_outside.specs.declared.source.Source.{Ghosts as SourceMeaning}
use Rattle.cap_outside.specs.declared.view.View.{Ghosts as ViewMeaning}
use Rattle.capture_options.specs.declared.mode.Mode.{Mode}
use Rattle.capture_options.specs.declared.mode.Mode.TheVariants.{Capture, Check, Classic, Follow, JoinFiles, Make, Pass, Trial, Watch}
use Rattle.capture_options.specs.declared.mode.WordFault.{WordFault}
use Rattle.capture_options.specs.declared.mode.WordFault.TheVariants.{Unknown}
use Rattle.capture_mode.specs.Outcomes.{Captures, objects as capture_objects}
use Rattle.capture_mode.specs.declared.outcome.Outcome.{Outcome}
use Rattle.make_mode.specs.Making.{ordered}
use Rattle.trial_mode.specs.Streams.{streams_from}
use Rattle.dumpcap_main.specs.Command.{CheckIs, FollowIs, JoinsIs, MakeIs, PassIs, TrialIs, WatchesIs, IsAccounted, IsStarved}
use Rattle.dumpcap_main.specs.Refusals.{SaysDefect}

-- ---- the objects of a command

-- what their traits tell of them
pub record Meanings (O S L K C V : Type 0) : Type 1 where
  pub opener : OpenerMeaning O S
  pub source : SourceMeaning S
  pub outlet : OutletMeaning L
  pub note : SinkMeaning K
  pub clock : ClockMeaning C
  pub view : ViewMeaning V

abbrev pub meanings : {O S L K C V : Type 0} → OpenerMeaning O S → SourceMeaning S → OutletMeaning L → SinkMeaning K → ClockMeaning C → ViewMeaning V → Meanings O S L K C V
meanings opener source outlet note clock view = record { opener = opener; source = source; outlet = outlet; note = note; clock = clock; view = view }

-- the objects at a moment
pub record Objects (O L K C V : Type 0) : Type 0 where
  pub opener : O
  pub outlet : L
  pub note : K
  pub clock : C
  pub view : V

abbrev pub objects : {O L K C V : Type 0} → O → L → K → C → V → Objects O L K C V
objects opener outlet note clock view = record { opener = opener; outlet = outlet; note = note; clock = clock; view = view }

-- ---- what was done

-- Refused words: the line of one of these defects was said, and nothing else was done.
abbrev pub Refuses : {O S L K C V : Type 0} → Meanings O S L K C V → List WordFault → Outcome S → Objects O L K C V → Objects O L K C V → Type 0
Refuses m defects outcome a b = (b.opener ≡ a.opener) × (b.note ≡ a.note) × (b.clock ≡ a.clock) × (b.view ≡ a.view)
    × (outcome.exit ≡ 1) × (outcome.sources.items ≡ []) × SaysDefect m.outlet a.outlet b.outlet defects

-- For each mode: which objects were left as they were, and what was done with the others. Classic files aren't written, so
-- words that ask for them are refused as unknown.
abbrev pub DoesMode : {O S L K C V : Type 0} → Meanings O S L K C V → Result Mode (List WordFault) → Outcome S → Objects O L K C V → Objects O L K C V → Type 0
DoesMode m (Ok (Capture settings)) outcome a b = (b.note ≡ a.note) × (b.view ≡ a.view)
    × Captures m.opener m.source m.outlet m.clock settings outcome (capture_objects a.opener a.outlet a.clock) (capture_objects b.opener b.outlet b.clock)
    × IsAccounted m.opener m.outlet settings outcome a.opener b.opener a.outlet b.outlet
DoesMode m (Ok (Check name)) outcome a b = (b.outlet ≡ a.outlet) × (b.clock ≡ a.clock) × (b.view ≡ a.view)
    × CheckIs m.opener m.source m.note name outcome a.opener b.opener a.note b.note
DoesMode m (Ok (Follow name)) outcome a b = (b.outlet ≡ a.outlet) × (b.clock ≡ a.clock)
    × FollowIs m.opener m.source m.note m.view name outcome a.opener b.opener a.note b.note a.view b.view
DoesMode m (Ok (Make start sources packets name)) outcome a b = (b.opener ≡ a.opener) × (b.clock ≡ a.clock) × (b.view ≡ a.view)
    × MakeIs m.outlet m.note (ordered start sources packets name) outcome a.outlet b.outlet a.note b.note
DoesMode m (Ok (Trial start sources packets)) outcome a b = (b.opener ≡ a.opener) × (b.outlet ≡ a.outlet) × (b.clock ≡ a.clock) × (b.view ≡ a.view)
    × TrialIs m.note (streams_from start sources packets) outcome a.note b.note
DoesMode m (Ok (Pass name out)) outcome a b = (b.clock ≡ a.clock) × (b.view ≡ a.view)
    × PassIs m.opener m.source m.outlet m.note name out outcome a.opener b.opener a.outlet b.outlet a.note b.note
DoesMode m (Ok (JoinFiles out names)) outcome a b = (b.clock ≡ a.clock) × (b.view ≡ a.view)
    × JoinsIs m.opener m.source m.outlet m.note out names outcome a.opener b.opener a.outlet b.outlet a.note b.note
DoesMode m (Ok (Watch name readers)) outcome a b = (b.outlet ≡ a.outlet) × (b.clock ≡ a.clock)
    × WatchesIs m.opener m.source m.note m.view name readers outcome a.opener b.opener a.note b.note a.view b.view
DoesMode m (Ok (Classic settings)) outcome a b = Refuses m (Unknown ∷ []) outcome a b
DoesMode m (Err defects) outcome a b = Refuses m defects outcome a b

-- either memory was wanting before anything was done, or it is what the words ask for
abbrev pub Does : {O S L K C V : Type 0} → Meanings O S L K C V → Result Mode (List WordFault) → Outcome S → Objects O L K C V → Objects O L K C V → Type 0
Does m asks outcome a b = IsStarved outcome a b ⊎ DoesMode m asks outcome a b
