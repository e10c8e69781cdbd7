-- Views reach what is announced.
use Rattle.std.proofs.Common.{◌≡◌, ℕ, ◌+◌, ◌≤◌, true, Option, Some, None, List, [], ◌∷◌, ◌++◌, length, map, refl, sym, ap, ◌∙◌, subst, arith, append_assoc, length-append}
use Rattle.std.proofs.lemmas.List.{append-nil}
use Rattle.cap_base.specs.Effects.{Effect, bytes, saying}
use Rattle.cap_base.specs.Events.{Event, interface, packet}
use Rattle.cap_base.specs.declared.packet.Packet.{Packet}
use Rattle.cap_base.specs.declared.settings.Settings.{Settings}
use Rattle.cap_base.proofs.Lines.{flat_map-push}
use Rattle.pcapng_blocks.specs.declared.block.Block.{Block}
use Rattle.pcapng_blocks.specs.Spelling.{spell}
use Rattle.sync_pipe.specs.declared.said.Said.{Said}
use Rattle.sync_pipe.specs.declared.said.Said.TheVariants.{File, Count, Drops, Error}
use Rattle.capture_desk.specs.declared.acts.Act.{Act}
use Rattle.capture_desk.specs.declared.acts.Act.TheVariants.{Create, Put, Finish, Remove, Say}
use Rattle.capture_desk.specs.Past.{Past}
use Rattle.capture_desk.specs.Doing.{created_names, packet_of, effects_of_acts}
use Rattle.capture_desk.specs.Files.{text}
use Rattle.capture_desk.specs.Acts.{acts}
use Rattle.capture_desk.specs.Orderly.{IsOrderlySoFar}
use Rattle.capture_desk.specs.Laws.{last_name}
use Rattle.capture_core.specs.Made.{bytes_put, block_packets}
use Rattle.capture_core.specs.Views.{AreBytes, Known, nothing_known, after_creation, after_block, after_message, count_after, counted_behind, counted, file_after, file_behind, IsTrueOf, MessagesAreTrue, AreSaid, bytes_now, IsHonest, packet_events, ReadsFiles, Reaches, ViewsReach}
use Rattle.capture_core.proofs.Blocks.{blocks_now}
use Rattle.capture_core.proofs.Announced.{said_is_true}
use Rattle.capture_core.proofs.Fitted.{fitted, text_fitted, packets_fitted, MayBegin}

front_true : (k : Known) (xs ys : List Act) → MessagesAreTrue k (xs ++ ys) → MessagesAreTrue k xs
front_true k [] ys w = tt
front_true k (Create name ∷ xs) ys w = front_true (after_creation k name) xs ys w
front_true k (Put b ∷ xs) ys w = front_true (after_block k (length (packet_of (Put b)))) xs ys w
front_true k (Say b ∷ xs) ys w = (w.0, w.1, w.2, front_true (after_message k w.0) xs ys w.3)
front_true k (Finish ∷ xs) ys w = front_true k xs ys w
front_true k (Remove name ∷ xs) ys w = front_true k xs ys w

-- how many packets are put into the current file
abbrev pub put_now : ℕ → List Act → ℕ
put_now p [] = p
put_now p (Create name ∷ more) = put_now 0 more
put_now p (Put b ∷ more) = put_now (p + length (packet_of (Put b))) more
put_now p (Finish ∷ more) = put_now p more
put_now p (Remove name ∷ more) = put_now p more
put_now p (Say m ∷ more) = put_now p more

-- the file that is created last
abbrev pub created_now : Option (List ℕ) → List Act → Option (List ℕ)
created_now name [] = name
created_now name (Create next ∷ more) = created_now (Some next) more
created_now name (other ∷ more) = created_now name more

-- the messages so far, which name the file created last and count no more than was put
pub record SaidSoFar (k : Known) (xs : List Act) : Type 0 where
  pub messages : List Said
  pub are : AreSaid messages xs
  pub few : counted_behind k.counted messages ≤ put_now k.put xs
  pub last : file_behind k.named messages ≡ created_now k.created xs

pub within : (k : Known) (m : Said) → IsTrueOf k m → (count_after k.counted m ≤ k.put) × (file_after k.named m ≡ k.created)
within k (File name) t = (omega arith, sym t.0)
within k (Count n) t = let e : k.counted + n ≡ k.put = t.1 in (omega arith, t.0)
within k (Drops n name) t = (t.1, t.0)
within k (Error a b) t = (t.1, t.0)

said_so_far : (k : Known) (xs : List Act) (b : List ℕ) → MessagesAreTrue k (xs ++ Say b ∷ []) → SaidSoFar k (xs ++ Say b ∷ [])
said_so_far k [] b w = let v = within k w.0 w.2 in record { messages = w.0 ∷ []; are = (w.0, [], refl, w.1, refl); few = v.0; last = v.1 }
said_so_far k (Create name ∷ xs) b w = let v = said_so_far (after_creation k name) xs b w in record { messages = v.messages; are = v.are; few = v.few; last = v.last }
said_so_far k (Put c ∷ xs) b w = let v = said_so_far (after_block k (length (packet_of (Put c)))) xs b w in record { messages = v.messages; are = v.are; few = v.few; last = v.last }
said_so_far k (Say c ∷ xs) b w = let v = said_so_far (after_message k w.0) xs b w.3 in record { messages = w.0 ∷ v.messages; are = (w.0, v.messages, refl, w.1, v.are); few = v.few; last = v.last }
said_so_far k (Finish ∷ xs) b w = let v = said_so_far k xs b w in record { messages = v.messages; are = v.are; few = v.few; last = v.last }
said_so_far k (Remove name ∷ xs) b w = let v = said_so_far k xs b w in record { messages = v.messages; are = v.are; few = v.few; last = v.last }

-- it is the last of the names that are created
last_is : (xs : List Act) (name : List ℕ) → created_now (Some name) xs ≡ last_name (name ∷ created_names xs)
last_is [] name = refl
last_is (Create next ∷ xs) name = last_is xs next
last_is (Put b ∷ xs) name = last_is xs name
last_is (Finish ∷ xs) name = last_is xs name
last_is (Remove other ∷ xs) name = last_is xs name
last_is (Say m ∷ xs) name = last_is xs name

pub created_last : (xs : List Act) → created_now None xs ≡ last_name (created_names xs)
created_last [] = refl
created_last (Create name ∷ xs) = last_is xs name
created_last (Put b ∷ xs) = created_last xs
created_last (Finish ∷ xs) = created_last xs
created_last (Remove name ∷ xs) = created_last xs
created_last (Say m ∷ xs) = created_last xs

-- ---- the current file

packets_both : (xs ys : List Block) → block_packets (xs ++ ys) ≡ block_packets xs ++ block_packets ys
packets_both [] ys = refl
packets_both (x ∷ xs) ys = ap (λ (z : List Packet). packet_of (Put x) ++ z) (packets_both xs ys) ∙ sym (append_assoc (packet_of (Put x)) (block_packets xs) (block_packets ys))

one_more : (bs : List Block) (b : Block) → length (block_packets bs) + length (packet_of (Put b)) ≡ length (block_packets (bs ++ b ∷ []))
one_more bs b = let a : length (block_packets (bs ++ b ∷ [])) ≡ length (block_packets bs) + length (block_packets (b ∷ [])) = ap length (packets_both bs (b ∷ [])) ∙ length-append (block_packets bs) (block_packets (b ∷ [])) in
    let c : length (block_packets (b ∷ [])) ≡ length (packet_of (Put b)) + 0 = length-append (packet_of (Put b)) [] in omega arith

put_is : (bs : List Block) (xs : List Act) → put_now (length (block_packets bs)) xs ≡ length (block_packets (blocks_now bs xs))
put_is bs [] = refl
put_is bs (Create name ∷ xs) = put_is [] xs
put_is bs (Put b ∷ xs) = ap (λ (z : ℕ). put_now z xs) (one_more bs b) ∙ put_is (bs ++ b ∷ []) xs
put_is bs (Finish ∷ xs) = put_is bs xs
put_is bs (Remove name ∷ xs) = put_is bs xs
put_is bs (Say m ∷ xs) = put_is bs xs

now_bytes : (b xs : List ℕ) (es : List Effect) → bytes_now b (bytes xs ++ es) ≡ bytes_now (b ++ xs) es
now_bytes b [] es = ap (λ (z : List ℕ). bytes_now z es) (sym (append-nil b))
now_bytes b (x ∷ xs) es = now_bytes (b ++ x ∷ []) xs es ∙ ap (λ (z : List ℕ). bytes_now z es) (append_assoc b (x ∷ []) xs)

now_said : (b xs : List ℕ) (es : List Effect) → bytes_now b (saying xs ++ es) ≡ bytes_now b es
now_said b [] es = refl
now_said b (x ∷ xs) es = now_said b xs es

text_now : (bs : List Block) (xs : List Act) → bytes_now (text bs) (effects_of_acts xs) ≡ text (blocks_now bs xs)
unfolding text
text_now bs [] = refl
text_now bs (Create name ∷ xs) = text_now [] xs
text_now bs (Put b ∷ xs) = now_bytes (text bs) (spell b) (effects_of_acts xs) ∙ ap (λ (z : List ℕ). bytes_now z (effects_of_acts xs)) (sym (flat_map-push spell bs b)) ∙ text_now (bs ++ b ∷ []) xs
text_now bs (Finish ∷ xs) = text_now bs xs
text_now bs (Remove name ∷ xs) = text_now bs xs
text_now bs (Say m ∷ xs) = now_said (text bs) m (effects_of_acts xs) ∙ text_now bs xs

text_here : (xs : List Act) → bytes_now [] (effects_of_acts xs) ≡ text (blocks_now [] xs)
unfolding text
text_here xs = text_now [] xs

-- ---- events

events_both : (xs ys : List Event) → packet_events (xs ++ ys) ≡ packet_events xs ++ packet_events ys
events_both [] ys = refl
events_both (interface i ∷ xs) ys = events_both xs ys
events_both (packet p ∷ xs) ys = ap (λ (z : List Packet). p ∷ z) (events_both xs ys)

-- every honest view behind a front of acts reaches a number of packets that were put
pub reach_by : (events : List ℕ → List Event) → ReadsFiles events → (front : List Act) (n : ℕ) → n ≤ put_now 0 front → MayBegin (blocks_now [] front) → (rest : List Effect) → AreBytes (bytes_now [] (effects_of_acts front)) → (shown : List ℕ)
    → IsHonest (effects_of_acts front) rest shown → Reaches events n (bytes_now [] (effects_of_acts front) ++ bytes_put rest) shown
reach_by events reads front n few readable rest real shown h = let file = reads.grows shown h.hidden in let more = reads.grows (text (blocks_now [] front)) h.early in record {
  later = file.0;
  first = ap events h.no_other ∙ file.1;
  enough = let b : length (packet_events (events (text (blocks_now [] front)))) ≡ put_now 0 front = put in
      let c : length (packet_events (events shown)) ≡ length (packet_events (events (text (blocks_now [] front)))) + length (packet_events more.0) = ap (λ (z : List Event). length (packet_events z))
      (ap events (h.no_less ∙ ap (λ (z : List ℕ). z ++ h.early) (text_here front)) ∙ more.1) ∙ ap length (events_both (events (text (blocks_now [] front))) more.0)
      ∙ length-append (packet_events (events (text (blocks_now [] front)))) (packet_events more.0) in omega arith;
} where
  put : length (packet_events (events (text (blocks_now [] front)))) ≡ put_now 0 front
  put = let bs : List Block = blocks_now [] front in ap (λ (t : List ℕ). length (packet_events (events t))) (sym (text_fitted bs)) ∙ reads.packets (map fitted bs) readable (subst AreBytes (text_here front ∙ sym (text_fitted bs)) real) ∙ ap length (packets_fitted bs) ∙ sym (put_is [] front)

pub reach : (s : Settings) (past : Past) (events : List ℕ → List Event) → s.sync ≡ true → IsOrderlySoFar s past → ReadsFiles events
    → (before behind : List Act) (message : List ℕ) → acts s past ≡ (before ++ Say message ∷ []) ++ behind → MayBegin (blocks_now [] (before ++ Say message ∷ []))
    → (rest : List Effect) → ViewsReach events (before ++ Say message ∷ []) rest
reach s past events sync o reads before behind message q readable rest = record {
  messages = w.messages;
  are_said = w.are;
  named = w.last ∙ created_last (before ++ Say message ∷ []);
  reach = reach_by events reads (before ++ Say message ∷ []) (counted w.messages) w.few readable rest;
} where
  w : SaidSoFar nothing_known (before ++ Say message ∷ [])
  w = said_so_far nothing_known before message (front_true nothing_known (before ++ Say message ∷ []) behind (subst (MessagesAreTrue nothing_known) q (said_is_true s past sync o)))
