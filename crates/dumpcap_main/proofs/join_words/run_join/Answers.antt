use Rattle.std.proofs.Common.{◌≡◌, ◌≤◌, ◌++◌, ℕ, List, length, map, inr, refl, ap, ◌∙◌, arith, length-append}
use Rattle.std.proofs.lemmas.List.{length-map}
use Rattle.join_mode.specs.Joining.{name_of}
use Rattle.cap_outside.specs.declared.opened.Opened.{Opened}
use Rattle.dumpcap_main.proofs.Outcomes.{asked_content}
use Rattle.dumpcap_main.proofs.join_words.run_join.Goals as goal

-- no more sources were asked for than there are names
few : {S : Type 0} (names unopened : List (List ℕ)) (files : List (Opened S)) → names ≡ map name_of files ++ unopened → length files ≤ length names
few names unopened files e = omega (arith, ap length e, length-append (map name_of files) unopened, length-map files name_of)

pub asked_for-requires-clause-room : goal.asked_for-requires-clause-room
asked_for-requires-clause-room g c =
    let joined = c.join_files-joined.ensures.joined in
    omega (arith, few c.args.names joined.unopened c.join_files-joined.result.sources.items joined.inputs.named, c.in-Ok.ensures.capacity, c.len.ensures)

pub returns-clause-joined : goal.returns-clause-joined
returns-clause-joined g c = inr (record { result = c.join_files-joined.result; number = refl; back = c.asked_for.ensures; joined = c.join_files-joined.ensures.joined })

pub returns-clause-content : goal.returns-clause-content
returns-clause-content g c = rw c.asked_for.ensures (asked_content (g.O.Opener.content c.args.opener.now) _ _ c.join_files-joined.result.sources.items c.join_files-joined.ensures.content)
