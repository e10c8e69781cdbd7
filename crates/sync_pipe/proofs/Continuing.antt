-- A reader goes on.
use Rattle.std.proofs.Common.{◌≡◌, ℕ, ◌+◌, ◌≤◌, true, false, Option, Some, None, List, [], ◌∷◌, ◌++◌, length, drop, refl, sym, ap, ◌∙◌, arith}
use Rattle.std.proofs.lemmas.List.{length-drop}
use Rattle.sync_pipe.specs.declared.said.Said.{Said}
use Rattle.sync_pipe.specs.declared.frame.Frame.TheVariants.{Cut}
use Rattle.cap_base.specs.Feeding.{with_front}
use Rattle.sync_pipe.specs.Heard.{Hearing, heard_at, frame}
use Rattle.sync_pipe.specs.declared.finding.Found.TheVariants as found
use Rattle.sync_pipe.specs.declared.reader.Heard.TheVariants as answer
use Rattle.sync_pipe.specs.inner.Finding.{Finds}
use Rattle.cap_base.proofs.Feedings as feeding
use Rattle.sync_pipe.specs.Reader.{Reader, position, fed_count, StandsFor, continues, Feeds, Gives, EndsAs, Answers, IsDrained, IsBroken}
use Rattle.sync_pipe.proofs.Frames.{frame_cut, cut_frame}
use Rattle.sync_pipe.proofs.Hearings.{heard_step}

-- what a good reader is going to hear
good_is : (r : Reader) (text : List ℕ) → r.broken ≡ false → continues r text ≡ heard_at r.place text
unfolding continues
good_is r text good = rw good refl

broken_is : (r : Reader) (text : List ℕ) → r.broken ≡ true → continues r text ≡ ([], Some r.place)
unfolding continues
broken_is r text broken = rw broken refl

pub fresh_stands : (r : Reader) → r.place ≡ 0 → r.broken ≡ false → r.kept ≡ [] → StandsFor r [] []
fresh_stands r first good none = record {
  count = rw (first, none) refl;
  goes = λ more. sym (good_is r (r.kept ++ more) good ∙ ap (λ n. heard_at n (r.kept ++ more)) first ∙ ap (λ l. heard_at 0 (l ++ more)) none);
}

-- more is kept
pub feeds : (old new : Reader) (bytes : List ℕ) → new.place ≡ old.place → new.broken ≡ old.broken → new.kept ≡ old.kept ++ bytes → Feeds old new bytes
unfolding continues
feeds old new bytes place broken kept = feeding.feeds_by (position old) (position new) bytes (ap position (is old new bytes place broken kept))
  where
    is : (old new : Reader) (bytes : List ℕ) → new.place ≡ old.place → new.broken ≡ old.broken → new.kept ≡ old.kept ++ bytes → new ≡ record old { kept = old.kept ++ bytes }
    is old new bytes place broken kept = λ k. record { place = place k; broken = broken k; kept = kept k }

count_is : (old new : Reader) (n : ℕ) → new.place ≡ old.place + n → new.kept ≡ drop n old.kept → n ≤ length old.kept → fed_count new ≡ fed_count old
count_is old new n place-is kept-is within = omega (arith, place-is, within, ap (λ (l : List ℕ). length l) kept-is, length-drop n old.kept)

-- a reader passed some bytes, and they say this
pub gives_by : (old new : Reader) (n : ℕ) (says : List Said) → old.broken ≡ false → new.broken ≡ false → new.place ≡ old.place + n → new.kept ≡ drop n old.kept → n ≤ length old.kept
    → ((at : ℕ) (more : List ℕ) → heard_at at (old.kept ++ more) ≡ with_front says (heard_at (at + n) (drop n old.kept ++ more))) → Gives old new says
gives_by old new n says old-good new-good place-is kept-is within goes = feeding.gives_by (position old) (position new) says (λ text. refl) (count_is old new n place-is kept-is within) (λ more.
    let there : continues new (new.kept ++ more) ≡ heard_at (old.place + n) (drop n old.kept ++ more) = good_is new (new.kept ++ more) new-good ∙ ap (λ place. heard_at place (new.kept ++ more)) place-is ∙ ap (λ l. heard_at (old.place + n) (l ++ more)) kept-is in
    good_is old (old.kept ++ more) old-good ∙ goes old.place more ∙ ap (with_front says) (sym there))

-- nothing was given
pub gives_none : (reader : Reader) → Gives reader reader []
gives_none reader = feeding.stays (position reader)

-- a reader met a defect
pub gives_bad : (old new : Reader) (n : ℕ) → old.broken ≡ false → new.broken ≡ true → new.place ≡ old.place + n → new.kept ≡ drop n old.kept → n ≤ length old.kept
    → ((at : ℕ) (more : List ℕ) → heard_at at (old.kept ++ more) ≡ ([], Some (at + n))) → Gives old new []
gives_bad old new n old-good new-broken place-is kept-is within goes = feeding.gives_by (position old) (position new) [] (λ text. refl) (count_is old new n place-is kept-is within) (λ more.
    let there : continues new (new.kept ++ more) ≡ ([], Some (old.place + n)) = broken_is new (new.kept ++ more) new-broken ∙ ap (λ place. let r : Hearing = ([], Some place) in r) place-is in
    good_is old (old.kept ++ more) old-good ∙ goes old.place more ∙ sym there)

-- how the bytes fed end, by what the reader is going to hear of those that it keeps
ends_by : (r : Reader) (defect : Option ℕ) → continues r r.kept ≡ ([], defect) → EndsAs r defect
ends_by r defect e = feeding.ends_by (position r) defect (λ d. d ≡ defect) e refl

pub drained_ends : (r : Reader) → IsDrained r → EndsAs r None
drained_ends r drained = ends_by r None (good_is r r.kept drained.good ∙ heard_step r.place r.kept Cut (frame_cut r.kept drained.cut))

pub broken_ends : (r : Reader) (at : ℕ) → IsBroken r at → EndsAs r (Some at)
broken_ends r at is = ends_by r (Some at) (broken_is r r.kept is.broken ∙ ap (λ place. let h : Hearing = ([], Some place) in h) is.place)

-- a reader passed so many bytes
pub record Moves (old new : Reader) (n : ℕ) : Type 0 where
  pub place : new.place ≡ old.place + n
  pub kept : new.kept ≡ drop n old.kept

pub said_answers : (old new : Reader) (n : ℕ) (said : Said) → Moves old new n → old.broken ≡ false → new.broken ≡ false → Finds old.kept (found.Said said n) → Answers old new (answer.Said said)
said_answers old new n said moves old-good new-good finds = gives_by old new n (said ∷ []) old-good new-good moves.place moves.kept finds.0 finds.1

pub cut_answers : (old new : Reader) (n : ℕ) → Moves old new n → old.broken ≡ false → new.broken ≡ false → Finds old.kept (found.Cut n) → Answers old new answer.More
cut_answers old new n moves old-good new-good finds =
    let drained : IsDrained new = record { good = new-good; cut = cut_frame new.kept (ap frame moves.kept ∙ finds.2); few = omega (arith, ap length moves.kept, finds.3) } in
    (gives_by old new n [] old-good new-good moves.place moves.kept finds.0 finds.1.goes, drained, drained_ends new drained)

pub bad_answers : (old new : Reader) (n : ℕ) → Moves old new n → old.broken ≡ false → new.broken ≡ true → Finds old.kept (found.Bad n) → Answers old new (answer.Bad new.place)
bad_answers old new n moves old-good new-broken finds =
    let broken : IsBroken new new.place = record { broken = new-broken; place = refl } in
    (gives_bad old new n old-good new-broken moves.place moves.kept finds.0 finds.1, broken, broken_ends new new.place broken)

pub broken_answers : (reader : Reader) (at : ℕ) → reader.broken ≡ true → reader.place ≡ at → Answers reader reader (answer.Bad at)
broken_answers reader at broken place =
    let is : IsBroken reader at = record { broken = broken; place = place } in
    (gives_none reader, is, broken_ends reader at is)
