use Rattle.std.proofs.Common.{ℕ, ◌≡◌, [], refl, inl, inr, subst, arith}
use Rattle.std.proofs.lemmas.Result.{err_from_is_err_and}
use Rattle.pcapng_pipe.specs.Pipe.{fed_count}
use Rattle.live_follower.specs.declared.found.Found.{Found}
use Rattle.live_follower.specs.Faults.{reading_end}
use Rattle.live_follower.specs.inner.Seeking.{GivesPackets, FoundIs, Waits, found_packets, packets_found}
use Rattle.live_follower.proofs.Readings.{reads_gives, reads_then, found_other, all_before}
use Rattle.cap_base.specs.Endings.{IsOpen}
use Rattle.live_follower.specs.Asked.{Asks, LooksOnce}
use Rattle.live_follower.proofs.Askings.{no_look}
use Rattle.live_follower.proofs.reading.seek.Goals as goal

pub returns-in_err-found-clause-reads : goal.returns-in_err-found-clause-reads
returns-in_err-found-clause-reads g c =
    let p = err_from_is_err_and c.from_residual.result c.from_residual.ensures.1 in
    rw p.1 (reads_gives (g.V.View.shown c.args.view.now c.args.name.now) c.args.pipe.now c.next_packet.new.pipe [] c.next_packet.ensures.same c.in_err-found.ensures.err)

pub returns-then-fed-eq-MOST_READ-clause-reads : goal.returns-then-fed-eq-MOST_READ-clause-reads
returns-then-fed-eq-MOST_READ-clause-reads g c =
    let gives = subst (λ (f : Found). GivesPackets c.args.pipe.now c.next_packet.new.pipe (found_packets f)) c.in-More.is c.in_ok-found.ensures.gives in
    reads_gives (g.V.View.shown c.args.view.now c.args.name.now) c.args.pipe.now c.next_packet.new.pipe [] c.next_packet.ensures.same gives

pub returns-else-fed-eq-MOST_READ-clause-reads : goal.returns-else-fed-eq-MOST_READ-clause-reads
returns-else-fed-eq-MOST_READ-clause-reads g c =
    let shown = g.V.View.shown c.args.view.now c.args.name.now in
    let gives = subst (λ (f : Found). GivesPackets c.args.pipe.now c.next_packet.new.pipe (found_packets f)) c.in-More.is c.in_ok-found.ensures.gives in
    reads_then shown c.args.pipe.now c.next_packet.new.pipe c.look_and_read.new.pipe (packets_found c.look_and_read.result) (reads_gives shown c.args.pipe.now c.next_packet.new.pipe [] c.next_packet.ensures.same gives) c.look_and_read.ensures.reads

pub returns-else-fed-eq-MOST_READ-clause-looks : goal.returns-else-fed-eq-MOST_READ-clause-looks
returns-else-fed-eq-MOST_READ-clause-looks g c =
    let gives = subst (λ (f : Found). GivesPackets c.args.pipe.now c.next_packet.new.pipe (found_packets f)) c.in-More.is c.in_ok-found.ensures.gives in
    let waits : Waits c.next_packet.new.pipe = subst (λ (f : Found). FoundIs c.next_packet.new.pipe f) c.in-More.is c.in_ok-found.ensures.found in
    inr (all_before c.args.pipe.now c.next_packet.new.pipe IsOpen gives waits.all)

pub returns-in_default : goal.returns-in_default
returns-in_default g c =
    let same : fed_count c.next_packet.new.pipe ≡ fed_count c.args.pipe.now = c.next_packet.ensures.same in
    record {
      reads = reads_gives (g.V.View.shown c.args.view.now c.args.name.now) c.args.pipe.now c.next_packet.new.pipe (found_packets c.in_ok-found.found) same c.in_ok-found.ensures.gives;
      found = c.in_ok-found.ensures.found;
      more = found_other c.in_ok-found.found (fed_count c.next_packet.new.pipe ≡ reading_end c.args.budget c.args.pipe.now) c.in_default.not-More;
      most = omega (arith, same, c.requires.fits);
      there = λ some. elim some [ inl less ↦ absurd (let no : ⊥ = omega (arith, less, same) in no) | inr none ↦ absurd none ];
      looks = inl refl;
      quiet = record { absent = refl; ends = refl; faults = refl };
      fault = tt;
      same = λ other. refl;
      asked = no_look g.V.View.asked c.args.view.now c.args.name.now (fed_count c.args.pipe.now) (fed_count c.next_packet.new.pipe) _ same;
    }

pub returns-in_err-found-clause-asked : goal.returns-in_err-found-clause-asked
returns-in_err-found-clause-asked g c = no_look g.V.View.asked c.args.view.now c.args.name.now (fed_count c.args.pipe.now) (fed_count c.next_packet.new.pipe) _ c.next_packet.ensures.same

pub returns-then-fed-eq-MOST_READ-clause-asked : goal.returns-then-fed-eq-MOST_READ-clause-asked
returns-then-fed-eq-MOST_READ-clause-asked g c = no_look g.V.View.asked c.args.view.now c.args.name.now (fed_count c.args.pipe.now) (fed_count c.next_packet.new.pipe) _ c.next_packet.ensures.same

pub returns-else-fed-eq-MOST_READ-clause-asked : goal.returns-else-fed-eq-MOST_READ-clause-asked
returns-else-fed-eq-MOST_READ-clause-asked g c =
    subst (λ (at : ℕ). Asks g.V.View.asked c.args.view.now c.look_and_read.new.view (LooksOnce c.args.name.now at (fed_count c.look_and_read.new.pipe) c.look_and_read.result)) c.next_packet.ensures.same c.look_and_read.ensures.asked
