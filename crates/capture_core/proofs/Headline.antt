-- The headline follows from what was recorded.
use Rattle.std.proofs.Common.{◌≡◌, ℕ, Bool, true, false, List, length, ap, ◌∙◌}
use Rattle.cap_base.specs.Effects.{Effect}
use Rattle.cap_base.specs.Histories.{History}
use Rattle.cap_base.specs.declared.settings.Settings.{Settings}
use Rattle.cap_base.proofs.Written.{begins_own}
use Rattle.capture_desk.specs.Past.{Past}
use Rattle.capture_desk.specs.Doing.{effects_of_acts}
use Rattle.capture_desk.specs.Due.{file_lost, memory_lost, listener_lost}
use Rattle.capture_desk.specs.Acts.{acts, piece_of}
use Rattle.capture_desk.specs.Cuts.{is_cut, said_acts, DidCut, Which, IsDoneFor}
use Rattle.capture_desk.proofs.Replayed.{said_all}
use Rattle.capture_core.specs.Writers.{writers_past}
use Rattle.capture_core.specs.Headline.{IsRecorded, Headline, is_faulted}
use Rattle.capture_core.proofs.Cut.{parts_false}
use Rattle.capture_core.proofs.Done.{final}
use Rattle.capture_core.proofs.Statistics.{statistics}
use Rattle.capture_core.proofs.Grammar.{finished, files_hold_written}
use Rattle.capture_core.proofs.Listened.{reached}

-- where no call failed the outlet did all acts
pub all_done : (s : Settings) (past : Past) (done : List Effect) → is_faulted past ≡ false → IsDoneFor s past done → done ≡ effects_of_acts (acts s past)
all_done s past done q w = let k = parts_false (is_cut past) (listener_lost past) q in let m = parts_false (file_lost past) (memory_lost past) k.0 in
    go (is_cut past) k.0 w.did ∙ ap effects_of_acts (said_all s w.heard_bytes past k.1 m.1) where
      go : (b : Bool) → b ≡ false → Which b (DidCut s w.heard_bytes w.place past done) (done ≡ effects_of_acts (said_acts (piece_of s) w.heard_bytes past)) → done ≡ effects_of_acts (said_acts (piece_of s) w.heard_bytes past)
      go true q d = cc
      go false q d = d

pub headline : (s : Settings) (readings : List ℕ) (h : History) (done : List Effect) → IsRecorded s readings h done → Headline s readings h done
headline s readings h done r = record {
  recorded = r;
  one_fate = final s h r.legal r.done_comes;
  written_once = files_hold_written s h done r.legal r.orderly.each r.did;
  in_order = λ source. begins_own s.limits (length s.sources) h source r.legal;
  grammatical = finished s h done r.legal r.orderly.each r.did;
  statistics = statistics s h done r.legal r.orderly.each r.did;
  followers = λ sync events reads before rest messages e w. reached s h r.legal sync r.orderly.each events reads done r.did before rest messages e w;
  all_done = λ q. all_done s (writers_past (length s.sources) h) done q r.did;
}
