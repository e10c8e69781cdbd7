-- What a follower stands for behind a message, and behind a search of its file.
use Rattle.std.proofs.Common.{◌⊎◌, inl, inr, OnOk, ◌≡◌, ◌≤◌, ◌<◌, ◌+◌, ◌^◌, ℕ, min, List, [], ◌∷◌, ◌++◌, length, Option, Some, None, Result, Ok, Err, refl, sym, ap, subst, ◌∙◌, arith}
use Rattle.std.proofs.lemmas.List.{length-append}
use Rattle.std.specs.Option.{unwrap_or}
use Rattle.cap_base.specs.declared.packet.Packet.{Packet}
use Rattle.sync_pipe.specs.declared.said.Said.{Said}
use Rattle.sync_pipe.specs.declared.said.Said.TheVariants.{File, Count, Drops, Error}
use Rattle.pcapng_pipe.specs.Pipe.{Pipe}
use Rattle.live_follower.specs.Packets.{packet_events, Holds, AllGiven}
use Rattle.std.specs.Prelude.{is_some}
use Rattle.cap_base.specs.Endings.{IsOpen}
use Rattle.live_follower.specs.Messages.{after_message, counted_behind, counted, file_after, file_behind, last_file}
use Rattle.live_follower.specs.inner.Seeking.{Reads}
use Rattle.live_follower.specs.Following.{Following, name_of, StandsFor, Hears, ReadsOn, Wants}
use Rattle.live_follower.proofs.Readings.{packet_events_append}

-- ---- messages

counted_snoc : (n : ℕ) (ms : List Said) (m : Said) → counted_behind n (ms ++ m ∷ []) ≡ after_message (counted_behind n ms) m
counted_snoc n [] m = refl
counted_snoc n (x ∷ ms) m = counted_snoc (after_message n x) ms m

file_snoc : (f : Option (List ℕ)) (ms : List Said) (m : Said) → file_behind f (ms ++ m ∷ []) ≡ file_after (file_behind f ms) m
file_snoc f [] m = refl
file_snoc f (x ∷ ms) m = file_snoc (file_after f x) ms m

pub heard_file : (old new : Following) (name : List ℕ) → new.file ≡ Some name → new.announced ≡ 0 → new.given ≡ 0 → Holds new.pipe [] [] → Hears (File name) old new
heard_file old new name file none given holds = λ messages bytes packets s. record {
  file = file ∙ sym (file_snoc None messages (File name));
  announced = none ∙ ap (λ (n : ℕ). min n (2 ^ 62)) (sym (counted_snoc 0 messages (File name)));
  count = given;
  within = omega (arith, given);
  holds = holds;
}

pub heard_count : (old new : Following) (n : ℕ) → new.file ≡ old.file → new.announced ≡ min (old.announced + n) (2 ^ 62) → old.announced ≤ 2 ^ 62 → new.given ≡ old.given → new.pipe ≡ old.pipe → Hears (Count n) old new
heard_count old new n file more most given pipe = λ messages bytes packets s.
    let before : old.announced ≡ min (counted messages) (2 ^ 62) = s.announced in
    let now : counted (messages ++ Count n ∷ []) ≡ counted messages + n = counted_snoc 0 messages (Count n) in
    record {
      file = file ∙ s.file ∙ sym (file_snoc None messages (Count n));
      announced = omega (arith, more, before, now);
      count = given ∙ s.count;
      within = omega (arith, more, most, given, s.within);
      holds = subst (λ (p : Pipe). Holds p bytes packets) (sym pipe) s.holds;
    }

heard_same : (f : Following) (messages : List Said) (m : Said) (bytes : List ℕ) (packets : List Packet) → after_message (counted messages) m ≡ counted messages → file_after (last_file messages) m ≡ last_file messages
    → StandsFor f messages bytes packets → StandsFor f (messages ++ m ∷ []) bytes packets
heard_same f messages m bytes packets count file s = record {
  file = s.file ∙ sym file ∙ sym (file_snoc None messages m);
  announced = s.announced ∙ ap (λ (n : ℕ). min n (2 ^ 62)) (sym (counted_snoc 0 messages m ∙ count));
  count = s.count;
  within = s.within;
  holds = s.holds;
}

pub heard_drops : (f : Following) (n : ℕ) (name : List ℕ) → Hears (Drops n name) f f
heard_drops f n name = λ messages bytes packets s. heard_same f messages (Drops n name) bytes packets refl refl s

pub heard_error : (f : Following) (primary secondary : List ℕ) → Hears (Error primary secondary) f f
heard_error f primary secondary = λ messages bytes packets s. heard_same f messages (Error primary secondary) bytes packets refl refl s

pub heard_other : (f : Following) (m : Said) → ((n : ℕ) × (name : List ℕ) × (m ≡ Drops n name)) ⊎ ((primary : List ℕ) × (secondary : List ℕ) × (m ≡ Error primary secondary)) → Hears m f f
heard_other f m (inl d) = subst (λ (x : Said). Hears x f f) (sym d.2) (heard_drops f d.0 d.1)
heard_other f m (inr e) = subst (λ (x : Said). Hears x f f) (sym e.2) (heard_error f e.0 e.1)

pub on_ok : {T E : Type 0} → (r : Result T E) (P Q : Type 0) → (P → Q) → OnOk r P → OnOk r Q
on_ok (Ok x) P Q to p = to p
on_ok (Err e) P Q to p = tt

-- ---- a file

pub reads_follower : (shown : Option (Option (List ℕ))) (old new : Following) (ps : List Packet) → new.file ≡ old.file → new.announced ≡ old.announced → new.given ≡ old.given + length ps → new.given ≤ new.announced
    → Reads shown old.pipe new.pipe ps → ReadsOn shown old new ps
reads_follower shown old new ps file same given within r = record {
  more = r.bytes;
  as_shown = r.as_shown;
  stands = λ messages bytes packets s.
      let h = s.holds in
      record {
        file = file ∙ s.file;
        announced = same ∙ s.announced;
        count = omega (arith, given, s.count, length-append packets ps);
        within = within;
        holds = record {
          name = r.name ∙ h.name;
          events = h.events ++ r.events;
          are = packet_events_append h.events r.events ∙ ap (λ (l : List Packet). l ++ packet_events r.events) h.are ∙ ap (λ (l : List Packet). packets ++ l) r.are;
          stands = r.runs bytes h.events h.stands;
        };
      };
}

-- the same where the file's name is known, and the follower is seen from inside
pub reads_inside : (shown : List ℕ → Option (Option (List ℕ))) (inside old new : Following) (name : List ℕ) (ps : List Packet) → inside ≡ old → inside.file ≡ Some name
    → new.file ≡ inside.file → new.announced ≡ inside.announced → new.given ≡ inside.given + length ps → new.given ≤ new.announced
    → Reads (shown name) inside.pipe new.pipe ps → ReadsOn (shown (name_of old)) old new ps
reads_inside shown inside old new name ps is there file same given within r =
    let named : name_of inside ≡ name = ap (λ (f : Option (List ℕ)). unwrap_or f []) there in
    let reads = subst (λ (n : List ℕ). Reads (shown n) inside.pipe new.pipe ps) (sym named) r in
    subst (λ (o : Following). ReadsOn (shown (name_of o)) o new ps) is (reads_follower (shown (name_of inside)) inside new ps file same given within reads)

-- the view was looked at only where packets were wanted
pub looks_inside : (X : Type 0) (inside old : Following) (name : List ℕ) → inside ≡ old → inside.file ≡ Some name → inside.given < inside.announced
    → X ⊎ AllGiven inside.pipe IsOpen → X ⊎ (Wants old × AllGiven old.pipe IsOpen)
looks_inside X inside old name is there fewer (inl x) = inl x
looks_inside X inside old name is there fewer (inr all) =
    let wants : Wants inside = record { file = ap is_some there; fewer = fewer } in
    inr (subst (λ (o : Following). Wants o × AllGiven o.pipe IsOpen) is (wants, all))
