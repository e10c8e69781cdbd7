-- All packets are accounted for.
use Rattle.std.proofs.Common.{◌≡◌, inl, inr, ℕ, ◌%◌, ◌<◌, ◌≤◌, ◌==◌, ◌^◌, List, [], ◌∷◌, ◌++◌, length, map, Some, refl, sym, ap, ◌∙◌, subst, arith, append_assoc}
use Rattle.std.specs.List.{All, filter, range_with_len}
use Rattle.std.proofs.lemmas.List.Elements.{All-cons, All-head, All-nil, All-tail}
use Rattle.std.proofs.lemmas.Grind.{flat_map-append}
use Rattle.std.proofs.lemmas.List.{append-nil}
use Rattle.cap_base.specs.Callers.{own}
use Rattle.cap_base.specs.Effects.{Effect}
use Rattle.cap_base.specs.Fates.{counts, received, received_of, taken as taken_packets}
use Rattle.cap_base.proofs.Described.{takes_described}
use Rattle.cap_base.proofs.Written.{answers_line}
use Rattle.cap_base.specs.Histories.{History, due, packets as due_packets}
use Rattle.cap_base.specs.Laws.{IsWriters}
use Rattle.cap_base.proofs.Legals.{legal_front, none_left}
use Rattle.cap_base.specs.declared.packet.Packet.{Packet}
use Rattle.cap_base.specs.Legal.{Admitted, Legal}
use Rattle.cap_base.specs.declared.entries.Entry.{Entry}
use Rattle.cap_base.specs.declared.entries.Entry.TheVariants as E
use Rattle.cap_base.specs.declared.limits.Limits.{Limits}
use Rattle.cap_outside.specs.Files.{file_in}
use Rattle.pcapng_grammar.specs.Files.{HasFacts}
use Rattle.pcapng_grammar.specs.declared.facts.FileFacts.{FileFacts}
use Rattle.pcapng_blocks.specs.declared.block.Block.{Block}
use Rattle.capture_desk.specs.declared.acts.Act.{Act}
use Rattle.capture_desk.specs.declared.acts.Act.TheVariants.{Create, Put, Finish, Say}
use Rattle.capture_desk.specs.Doing.{puts, unsaid}
use Rattle.capture_desk.specs.Files.{ifaces, packets as taken_count, text}
use Rattle.capture_desk.specs.Past.{Past}
use Rattle.capture_core.proofs.Blocks.{blocks_now}
use Rattle.capture_core.proofs.Counted.{all_taken}
use Rattle.capture_core.proofs.Fitted.{MayBegin}
use Rattle.capture_core.proofs.Grammar.{unsaid_begins}
use Rattle.capture_core.proofs.Puts.{unsaid_lines}
use Rattle.capture_core.proofs.Taken.{count_is, taken_is}
use Rattle.capture_core.specs.Writers.{writers_past}
use Rattle.trial_mode.specs.Streams.{Streams, output_name, source_names, trial_settings}
use Rattle.trial_mode.specs.Sums.{accounted_in}
use Rattle.trial_mode.specs.Trials.{AreCaptured}
use Rattle.trial_mode.specs.inner.Checked.{counted_in}
use Rattle.trial_mode.proofs.Facts.{facts_account}
use Rattle.trial_mode.proofs.Files.{its_text}
use Rattle.trial_mode.proofs.Finish.{WroteOne, blocks_at_end, history_to_done, past_is_done, past_to_done}
use Rattle.trial_mode.proofs.Lawfulness.{length_names}
use Rattle.trial_mode.proofs.Lengths.{IsFine, IsSmall, all_is_short, fine_past}
use Rattle.trial_mode.proofs.Offers.{offered_by, offered_small}
use Rattle.trial_mode.proofs.Smalls.{Within, received_small, taken_within}
use Rattle.trial_mode.proofs.Totals.{IsOfSome, accounted_are_received, all_remainders, by_source, received_from, total_same}

-- each entry of a legal history is of one of its sources, or offers no packet
of_some : (limits : Limits) (n : ℕ) (h : History) → Legal limits n h → All (IsOfSome n) h
of_some limits n h legal = go [] h refl where
  one : (by : ℕ) (mine : List Entry) (e : Entry) → Admitted n by mine e → IsOfSome n (by, e)
  one by mine (E.Offer s p v) a = inl (subst (λ (z : ℕ). z < n) (sym a.0.0) a.0.1)
  one by mine (E.Join s i k) a = inr refl
  one by mine (E.End s how) a = inr refl
  one by mine (E.Take now t) a = inr refl
  one by mine (E.Tally now cs) a = inr refl
  one by mine (E.Stop why l) a = inr refl

  go : (f t : History) → h ≡ f ++ t → All (IsOfSome n) t
  go f [] q = All-nil (IsOfSome n)
  go f (x ∷ t) q = All-cons (IsOfSome n) x t (one x.0 (own x.0 f) x.1 (legal f x.0 x.1 t (q ∙ sym (append_assoc f (x ∷ []) t))).0) (go (f ++ x ∷ []) t (q ∙ sym (append_assoc f (x ∷ []) t)))

-- the writer's entries offer no packet
none_received : (t : History) → All IsWriters t → received t ≡ []
none_received [] w = refl
none_received (x ∷ t) w = ap (λ (z : List Packet). z ++ received t) (one x.1 (All-head IsWriters x t w)) ∙ none_received t (All-tail IsWriters x t w) where
  one : (e : Entry) → IsWriters (x.0, e) → received_of e ≡ []
  one (E.Take now a) k = refl
  one (E.Tally now cs) k = refl
  one (E.Stop why l) k = refl
  one (E.Join a b c) k = absurd k
  one (E.Offer a b c) k = absurd k
  one (E.End a b) k = absurd k

unsaid_end : (bs : List Block) (lines : List (List ℕ)) → unsaid (puts bs ++ (Finish ∷ map Say lines)) ≡ puts bs ++ (Finish ∷ [])
unsaid_end [] lines = ap (λ (z : List Act). Finish ∷ z) (unsaid_lines lines)
unsaid_end (b ∷ bs) lines = ap (λ (z : List Act). Put b ∷ z) (unsaid_end bs lines)

now_are : (before bs : List Block) → blocks_now before (puts bs) ≡ before ++ bs
now_are before [] = sym (append-nil before)
now_are before (b ∷ bs) = now_are (before ++ b ∷ []) bs ∙ append_assoc before (b ∷ []) bs

module _ (streams : Streams) (h : History) (done : List Effect) (all : AreCaptured streams h done) (some : 1 ≤ streams.sources) (few : streams.sources ≤ 64) (packets : streams.packets ≤ 1000000) where
  legal : Legal (trial_settings streams.sources).limits streams.sources h
  legal = subst (λ (n : ℕ). Legal (trial_settings streams.sources).limits n h) (length_names streams.sources) all.headline.recorded.legal

  -- as many packets were offered as were made
  pub received_all : length (received h) ≡ streams.packets
  received_all = sym (by_source streams.sources h (of_some (trial_settings streams.sources).limits streams.sources h legal))
      ∙ total_same (received_from h) (λ s. length (filter (λ (k : ℕ). k % streams.sources == s) (range_with_len 0 streams.packets))) 0 streams.sources (λ s lo hi. offered_by streams h s packets (all.told s (let lt : s < streams.sources = omega arith in lt)))
      ∙ all_remainders streams.sources streams.packets some

  pub accounted_whole : accounted_in (counts h) ≡ streams.packets
  accounted_whole = accounted_are_received (trial_settings streams.sources).limits streams.sources h legal all.headline.one_fate.none_stands ∙ received_all

  module _ (wrote : WroteOne streams.sources (length (source_names streams.sources)) h done) where
    abbrev n : ℕ
    n = length (source_names streams.sources)

    abbrev limits : Limits
    limits = (trial_settings streams.sources).limits

    abbrev to_done : History
    to_done = history_to_done wrote.ends

    abbrev behind : History
    behind = (n, E.Tally wrote.ends.moment (counts to_done)) ∷ wrote.ends.behind

    parts : h ≡ to_done ++ behind
    parts = wrote.ends.parts ∙ append_assoc to_done ((n, E.Tally wrote.ends.moment (counts to_done)) ∷ []) wrote.ends.behind

    legal_to_done : Legal limits n to_done
    legal_to_done = legal_front limits n to_done behind (subst (Legal limits n) parts all.headline.recorded.legal)

    none_due : due to_done ≡ []
    none_due = subst (λ (z : History). due z ≡ []) (append-nil to_done) (none_left limits n wrote.ends.before n wrote.ends.now [] (All-nil IsWriters) (subst (Legal limits n) (sym (append-nil to_done)) legal_to_done))

    received_same : received h ≡ received to_done
    received_same = ap received parts ∙ flat_map-append (λ (x : ℕ × Entry). received_of x.1) to_done behind ∙ ap (λ (z : List Packet). received to_done ++ z) (none_received wrote.ends.behind wrote.ends.writers) ∙ append-nil (received to_done)

    accounted_to_done : accounted_in (counts to_done) ≡ streams.packets
    accounted_to_done = accounted_are_received limits n to_done legal_to_done (ap due_packets none_due) ∙ sym (ap length received_same) ∙ received_all

    begins : MayBegin (blocks_at_end wrote.ends)
    begins = subst MayBegin (now_are [] (blocks_at_end wrote.ends)) (unsaid_begins (trial_settings streams.sources) h all.headline.recorded.legal all.headline.recorded.orderly.each (Create output_name ∷ puts (blocks_at_end wrote.ends)) (Finish ∷ [])
        (ap unsaid wrote.acts_are ∙ ap (λ (z : List Act). Create output_name ∷ z) (unsaid_end (blocks_at_end wrote.ends) wrote.lines)))

    its_file : (file : List ℕ) → file_in output_name done ≡ Some file → file ≡ text (blocks_at_end wrote.ends)
    its_file file q = let is : file_in output_name done ≡ Some (text (blocks_at_end wrote.ends)) = ap (file_in output_name) wrote.done_is ∙ its_text (text (blocks_at_end wrote.ends)) wrote.lines in cc

    taken : length (ifaces (past_to_done wrote.ends)) ≡ length (counts to_done)
    taken = sym (ap (λ (z : Past). length (ifaces z)) (past_is_done n wrote.ends.before wrote.ends.now)) ∙ all_taken limits n to_done legal_to_done none_due

    within : Within (taken_packets to_done) (received to_done)
    within = taken_within to_done

    fine : IsFine (past_to_done wrote.ends)
    fine = subst IsFine (past_is_done n wrote.ends.before wrote.ends.now) (fine_past (own n to_done) (takes_described limits n to_done legal_to_done)
        (subst (All IsSmall) (sym (ap due_packets ((answers_line limits n to_done legal_to_done).answers))) (within.small (subst (All IsSmall) received_same
        (received_small streams.sources h (of_some limits streams.sources h legal) (λ s lt. offered_small streams h s packets (all.told s lt)))))))

    few_taken : taken_count (past_to_done wrote.ends) ≤ 1000000
    few_taken = let a : taken_count (past_to_done wrote.ends) ≡ length (taken_packets to_done) = sym (ap taken_count (past_is_done n wrote.ends.before wrote.ends.now)) ∙ count_is (writers_past n to_done) ∙ ap length (taken_is (trial_settings streams.sources) to_done legal_to_done) in
        let b : length (taken_packets to_done) ≤ length (received to_done) = within.few in let c : length (received to_done) ≡ streams.packets = sym (ap length received_same) ∙ received_all in omega arith

    -- a check reads all of the file
    pub its_short : (file : List ℕ) → file_in output_name done ≡ Some file → length file ≤ 2 ^ 32
    its_short file q = subst (λ (z : List ℕ). length z ≤ 2 ^ 32) (sym (its_file file q)) (all_is_short (past_to_done wrote.ends) wrote.ends.moment (counts to_done) fine few_taken)

    pub counted_whole : (file : List ℕ) (facts : FileFacts) → file_in output_name done ≡ Some file → HasFacts file facts → counted_in facts.counts ≡ streams.packets
    counted_whole file facts q f = facts_account (past_to_done wrote.ends) wrote.ends.moment (counts to_done) taken (let e : accounted_in (counts to_done) ≡ streams.packets = accounted_to_done in omega arith) begins file facts (its_file file q) (its_short file q) f ∙ accounted_to_done
