-- A packet's Take that asks for the packet's block alone.
use Rattle.std.proofs.Common.{◌≡◌, ℕ, Bool, true, false, Some, None, List, [], ◌∷◌, ◌++◌, refl, sym, ap, ◌∙◌, subst}
use Rattle.std.proofs.lemmas.List.{append-nil}
use Rattle.cap_base.specs.Effects.{Effect}
use Rattle.cap_base.specs.declared.settings.Settings.{Settings}
use Rattle.cap_base.specs.declared.packet.Packet.{Packet}
use Rattle.cap_base.specs.declared.entries.Entry.TheVariants as entry
use Rattle.cap_base.specs.declared.entries.Taken.TheVariants as taken
use Rattle.cap_base.specs.declared.entries.Item.TheVariants as item
use Rattle.pcapng_blocks.specs.declared.block.Block.TheVariants as block
use Rattle.capture_desk.specs.declared.acts.Act.{Act}
use Rattle.capture_desk.specs.declared.acts.Act.TheVariants.{Put}
use Rattle.capture_desk.specs.declared.acts.Want.TheVariants as wants
use Rattle.capture_desk.specs.Made.{Made, made_after}
use Rattle.capture_desk.specs.Past.{Past}
use Rattle.capture_desk.specs.Seen.{Seen, StandsFor}
use Rattle.capture_desk.specs.Told.{TellsAlone as SeenTellsAlone, want_of}
use Rattle.block_writer.specs.declared.fault.OutFault.{OutFault}
use Rattle.block_writer.specs.declared.fault.OutFault.TheVariants as fault
use Rattle.block_writer.specs.Kept.{Kept}
use Rattle.block_writer.specs.Writing.{Written, CutAt, Performs, Breaks}
use Rattle.writer_thread.specs.inner.Deciding.{TellsAlone}
use Rattle.writer_thread.specs.inner.Performing.{Gave}
use Rattle.writer_thread.specs.inner.Running.{MayRun, file_behind}
use Rattle.writer_thread.specs.inner.Stepping.{ToldDone, ToldFailed}

-- the desk meets what the writer asks of one that decides: with the act as one that waits it is the desk before that was given
pub tells_alone : (old new : Seen) (now : ℕ) (p : Packet) → old.waiting ≡ [] → new.settings ≡ old.settings → new.waiting ≡ old.waiting → new.made ≡ made_after (Some (Put (block.Enhanced p))) old.made → SeenTellsAlone old new now p
    → TellsAlone (λ (d : Seen). d.settings) (λ (d : Seen). d.waiting) (λ (d : Seen). d.made) (λ (d : Seen) (past : Past). StandsFor d past) old new now p
tells_alone old new now p none same waits made tells = record {
  between = record new { waiting = Put (block.Enhanced p) ∷ []; made = old.made };
  told = λ past stands follows.
      let a = tells past stands follows in
      record {
        settings_same = same;
        waiting_is = rw none (sym a.piece_is);
        want_is = rw a.due_is refl;
        stands = record { state_stands = a.stands.state_stands; interfaces_are = a.stands.interfaces_are; ended_are = a.stands.ended_are; keep_is = a.stands.keep_is; ring_is = a.stands.ring_is };
        made_is = refl;
      };
  waits = refl;
  gives = record {
    settings_same = refl;
    waits = ap (λ (xs : List Act). Put (block.Enhanced p) ∷ xs) (sym (waits ∙ none));
    none = tt;
    made_is = made;
    stands_same = λ past s. record { state_stands = s.state_stands; interfaces_are = s.interfaces_are; ended_are = s.ended_are; keep_is = s.keep_is; ring_is = s.ring_is };
  };
  none = waits ∙ none;
}

module _ {D L : Type 0} (settings : D → Settings) (waiting : D → List Act) (made : D → Made) (desk_stands : D → Past → Type 0) (stands_for : L → List Effect → Type 0) where
  gave_alone : (old new : D) (now : ℕ) (p : Packet) (t : TellsAlone settings waiting made desk_stands old new now p) → Gave settings waiting made desk_stands t.between new (Put (block.Enhanced p) ∷ [])
  gave_alone old new now p t = record { settings_same = t.gives.settings_same; split = t.gives.waits; made_is = t.gives.made_is; stands_same = t.gives.stands_same }

  -- the block was put
  pub put_done : (file_old file : Bool) (old new : D) (a b : L) (kept later : Kept) (now : ℕ) (p : Packet) → TellsAlone settings waiting made desk_stands old new now p
      → Performs stands_for a b kept later (Put (block.Enhanced p)) → file_old ≡ true → file ≡ true → later.lost ≡ None
      → ToldDone settings waiting made desk_stands stands_for file_old file old new a b kept later (entry.Take now (taken.Item (item.Packet p))) wants.Nothing
  put_done file_old file old new a b kept later now p t did one two going = record {
    told = t.between;
    tells = t.told;
    done = record {
      runs = λ first acts w. subst (λ (xs : List Act). Written stands_for first b later (acts ++ xs)) (sym t.waits) (did first acts w);
      gave = subst (λ (xs : List Act). Gave settings waiting made desk_stands t.between new xs) (sym t.waits) (gave_alone old new now p t);
      none = t.none;
      file_is = two ∙ sym one ∙ ap (λ (xs : List Act). file_behind xs file_old) (sym t.waits);
      empty = λ e. absurd (clash (sym two ∙ e));
      going = going;
    };
  }
    where
      clash : true ≡ false → ⊥
      clash e = cc

  -- a call failed while it was put
  pub put_failed : (file_old file : Bool) (old new : D) (a b : L) (kept later : Kept) (now : ℕ) (p : Packet) → TellsAlone settings waiting made desk_stands old new now p
      → Breaks stands_for a b kept later (Put (block.Enhanced p) ∷ [])
      → ToldFailed settings waiting made desk_stands stands_for fault.File file_old file old new a b kept later (entry.Take now (taken.Item (item.Packet p)))
  put_failed file_old file old new a b kept later now p t broke = record {
    told = t.between;
    want = wants.Nothing;
    tells = t.told;
    fails = record {
      before = [];
      last = Put (block.Enhanced p) ∷ [];
      split = t.gives.waits;
      some = λ e. absurd (no_acts e);
      cut = broke;
    };
    gave = (Put (block.Enhanced p) ∷ [], gave_alone old new now p t);
    silent = λ e. absurd (not_say e);
  }
    where
      not_say : fault.File ≡ fault.Say → ⊥
      not_say e = cc

      no_acts : Put (block.Enhanced p) ∷ [] ≡ [] → ⊥
      no_acts e = cc

  -- a file is current where the block may be put
  pub file_there : (file : Bool) (old new : D) (now : ℕ) (p : Packet) (t : TellsAlone settings waiting made desk_stands old new now p) → MayRun file (waiting t.between) → file ≡ true
  file_there file old new now p t may = (subst (λ (xs : List Act). MayRun file xs) t.waits may).0

-- a call that fails where no message is said fails at a file
pub only_file : (P : OutFault → Type 0) (f : OutFault) → (f ≡ fault.File → P fault.File) → (f ≡ fault.Say → ⊥) → P f
only_file P fault.File file say = file refl
only_file P fault.Say file say = absurd (say refl)
