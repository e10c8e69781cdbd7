-- What watching a capture did, by the bytes that its source gave and by what a view shows.
use Rattle.std.specs.Prelude.{ℕ, ◌≡◌, ◌⊎◌, ◌↔◌, List, ◌∷◌, [], Option, IfSome, IsNone, IsSome, Ok, Err, Some}
use Rattle.cap_outside.specs.Causes.{one_higher}
use Rattle.cap_outside.specs.Told.{Leads}
use Rattle.cap_outside.specs.declared.opener.Opener.{Ghosts as OpenerMeaning}
use Rattle.cap_outside.specs.declared.sink.Sink.{Ghosts as SinkMeaning}
use Rattle.cap_outside.specs.declared.source.Source.{Ghosts as SourceMeaning}
use Rattle.cap_outside.specs.declared.view.View.{Ghosts as ViewMeaning}
use Rattle.live_board.specs.Totals.{totals}
use Rattle.mode_base.specs.Written.{WroteWhole, WrotePrefix, Wrote}
use Rattle.mode_base.specs.Sources.{WasUnreadable, open_failed_line, read_failed_line, whole_of}
use Rattle.mode_base.specs.declared.reported.Reported.{Reported}
use Rattle.follow_mode.specs.declared.stop.Stop.TheVariants as stop
use Rattle.follow_mode.specs.Causes.{Watched, watched_by}
use Rattle.follow_mode.specs.Following.{End, SourceFacts, RanWhole, RanToFailure, RanOut, RanStuck, IsFollowExit, facts_by}
use Rattle.watch_mode.specs.Ops.{ops_of}
use Rattle.watch_mode.specs.Lines.{totals_lines}

-- lines were written whole, with exit 0; or a prefix of them, with exit 4; or memory was wanting for them
abbrev pub SaidTotals : {K : Type 0} → (K → Option (List ℕ)) → (K → ℕ) → K → K → ℕ → List ℕ → Type 0
SaidTotals written faults k0 k1 exit lines =
    ((exit ≡ 0) × WroteWhole written faults k0 k1 lines) ⊎ (((exit ≡ 4) × WrotePrefix written faults k0 k1 lines) ⊎ ((exit ≡ 5) × (k1 ≡ k0)))

-- What was done by a run that ended so. Where all messages of the bytes were followed, the lines of their totals were
-- written; else only the line that says why they weren't all followed, as far as no write failed.
abbrev pub WatchedTo : {K : Type 0} → (K → Option (List ℕ)) → (K → ℕ) → List ℕ → ℕ → Watched → SourceFacts → K → K → ℕ → End → Type 0
WatchedTo written faults name readers w source k0 k1 exit (Ok done) =
    RanWhole w source (λ messages. SaidTotals written faults k0 k1 exit (totals_lines (totals (ops_of messages)) readers)) (λ lines. Unit {0})
WatchedTo written faults name readers w source k0 k1 exit (Err stop.Unreadable) = (exit ≡ 2) × RanToFailure w source (λ lines line. Wrote written faults k0 k1 line) (read_failed_line name)
WatchedTo written faults name readers w source k0 k1 exit (Err stop.Unwritten) = ⊥
WatchedTo written faults name readers w source k0 k1 exit (Err stop.NoMemory) = (exit ≡ 5) × (k1 ≡ k0) × RanOut w source (λ lines. Unit {0})
WatchedTo written faults name readers w source k0 k1 exit (Err (stop.Stuck why)) = (exit ≡ 8) × RanStuck w source (λ lines line. Wrote written faults k0 k1 line) why

-- What a run did whose source was opened.
pub record WatchedSource {K : Type 0} (written : K → Option (List ℕ)) (faults : K → ℕ) (name : List ℕ) (readers : ℕ) (w : Watched) (source : SourceFacts) (k0 k1 : K) (exit : ℕ) : Type 0 where
  pub end : End
  pub ran : WatchedTo written faults name readers w source k0 k1 exit end

-- what is seen of a source, of the lines and of the view
abbrev pub WatchedBy : {S K V : Type 0} → SourceMeaning S → SinkMeaning K → ViewMeaning V → List ℕ → ℕ → S → K → K → V → V → ℕ → Type 0
WatchedBy source note view name readers s k0 k1 v0 v1 exit =
    WatchedSource note.written note.faults name readers (watched_by view.shown view.absent view.ends view.faults v0 v1) (facts_by source.taken source.left source.ends source.faults s) k0 k1 exit

-- The watching of the capture whose messages the source of this name has, by so many readers.
pub record WatchIs {O S K V : Type 0} (opener : OpenerMeaning O S) (source : SourceMeaning S) (note : SinkMeaning K) (view : ViewMeaning V) (name : List ℕ) (readers : ℕ) (reported : Reported S) (o0 o1 : O) (k0 k1 : K) (v0 v1 : V) : Type 0 where
  pub exits : IsFollowExit reported.exit
  -- it was opened once, and a failed call is the only one
  pub opened : Leads opener.opened o0 o1 (name ∷ [])
  pub missing : IsNone reported.source → opener.faults o1 ≡ one_higher (opener.faults o0)
  pub there : IsSome reported.source → opener.faults o1 ≡ opener.faults o0
  -- the source has what the opener tells
  pub given : IfSome (opener.content o0 name) (λ bytes. IfSome reported.source (λ s. whole_of (source.taken s) (source.left s) ≡ Some bytes))
  pub two : (reported.exit ≡ 2) ↔ WasUnreadable source.faults reported.source
  pub unopened : IsNone reported.source → Wrote note.written note.faults k0 k1 (open_failed_line name)
  pub unseen : IsNone reported.source → v1 ≡ v0
  pub watched : IfSome reported.source (λ s. WatchedBy source note view name readers s k0 k1 v0 v1 reported.exit)
