-- The packets and the beginning of all acts.
use Rattle.std.proofs.Common.{◌≡◌, ℕ, zero, suc, ◌+◌, Bool, true, false, if◌then◌else◌, List, [], ◌∷◌, ◌++◌, map, refl, ap}
use Rattle.std.specs.Prelude.{length}
use Rattle.cap_base.specs.declared.interface.Iface.{Iface}
use Rattle.cap_base.specs.declared.counts.Counts.{Counts}
use Rattle.cap_base.specs.declared.settings.Settings.{Settings}
use Rattle.cap_base.specs.declared.entries.Entry.TheVariants as E
use Rattle.pcapng_blocks.specs.declared.block.Block.{Block}
use Rattle.sync_pipe.specs.declared.said.Said.{Said}
use Rattle.capture_desk.specs.declared.acts.Act.{Act}
use Rattle.capture_desk.specs.declared.acts.Act.TheVariants.{Create, Put, Finish, Remove, Say}
use Rattle.capture_desk.specs.Past.{Past, nothing, ◌▹◌}
use Rattle.capture_desk.specs.Doing.{puts, packets_put, unsaid}
use Rattle.capture_desk.specs.Files.{begun}
use Rattle.capture_desk.specs.Due.{listener_lost, due}
use Rattle.capture_desk.specs.Acts.{say, say_count, say_message, start_file, take_acts, tail_from, tail, closing, piece, acts}
use Rattle.capture_desk.specs.Orderly.{IsOrderlySoFar}

-- ---- without messages

pub unsaid_say : (on : Bool) (m : Said) → unsaid (say on m) ≡ []
unsaid_say true m = refl
unsaid_say false m = refl

pub unsaid_count : (on : Bool) (n : ℕ) → unsaid (say_count on n) ≡ []
unsaid_count on zero = refl
unsaid_count on (suc n) = unsaid_say on _

pub unsaid_lines : (ls : List (List ℕ)) → unsaid (map Say ls) ≡ []
unsaid_lines [] = refl
unsaid_lines (l ∷ ls) = unsaid_lines ls

pub unsaid_messages : (ms : List Said) → unsaid (map say_message ms) ≡ []
unsaid_messages [] = refl
unsaid_messages (m ∷ ms) = unsaid_messages ms

pub unsaid_puts : (bs : List Block) → unsaid (puts bs) ≡ puts bs
unsaid_puts [] = refl
unsaid_puts (b ∷ bs) = ap (λ (z : List Act). Put b ∷ z) (unsaid_puts bs)

closing_by : (lost sync : Bool) (ms : List Said) (ls : List (List ℕ)) → unsaid (if lost then [] else if sync then map say_message ms else map Say ls) ≡ []
closing_by true sync ms ls = refl
closing_by false true ms ls = unsaid_messages ms
closing_by false false ms ls = unsaid_lines ls

pub unsaid_closing : (s : Settings) (files : ℕ) (before : Past) (cs : List Counts) → unsaid (closing s files before cs) ≡ []
unfolding closing
unsaid_closing s files before cs = closing_by (listener_lost before) s.sync _ _

-- ---- blocks without packets

no_tail : (n now : ℕ) (is : List Iface) (cs : List Counts) → packets_put (puts (tail_from n now is cs)) ≡ []
no_tail n now [] cs = refl
no_tail n now (i ∷ is) [] = refl
no_tail n now (i ∷ is) (c ∷ cs) = no_tail (n + 1) now is cs

pub no_tail_packets : (is : List Iface) (now : ℕ) (cs : List Counts) → length (packets_put (puts (tail is now cs))) ≡ 0
unfolding tail
no_tail_packets is now cs = ap length (no_tail 0 now is cs)

-- ---- the first act creates a file

abbrev pub StartsCreating : List Act → Type 0
StartsCreating (Create name ∷ more) = Unit {0}
StartsCreating other = ⊥

starts_both : (xs ys : List Act) → StartsCreating xs → StartsCreating (xs ++ ys)
starts_both [] ys p = absurd p
starts_both (Create name ∷ xs) ys p = tt
starts_both (Put b ∷ xs) ys p = absurd p
starts_both (Finish ∷ xs) ys p = absurd p
starts_both (Remove name ∷ xs) ys p = absurd p
starts_both (Say m ∷ xs) ys p = absurd p

pub begins : (s : Settings) (past : Past) → IsOrderlySoFar s past → begun past ≡ true → StartsCreating (acts s past)
unfolding acts piece take_acts start_file due
begins s nothing o b = cc
begins s (nothing ▹ E.Take now t) o b = tt
begins s (nothing ▹ E.Tally now cs) o b = absurd o.1.0
begins s (nothing ▹ E.Stop why l) o b = let z : false ≡ true = o.1.0 in cc
begins s (nothing ▹ E.Join x y z) o b = absurd o.1
begins s (nothing ▹ E.Offer x y z) o b = absurd o.1
begins s (nothing ▹ E.End x y) o b = absurd o.1
begins s ((earlier ▹ d) ▹ e) o b = starts_both (acts s (earlier ▹ d)) _ (begins s (earlier ▹ d) o.0 refl)
