use Rattle.std.proofs.Common.{◌≡◌, ◌≤◌, ℕ, List, length, drop, sym, subst, ◌∙◌, arith, inl, inr, Ok, Err}
use Rattle.std.proofs.lemmas.List.{length-drop}
use Rattle.std.specs.Prelude.{slice_index}
use Rattle.pcapng_grammar.specs.declared.facts.FileFacts.{FileFacts}
use Rattle.pcapng_grammar.specs.Defects.{block_in_order}
use Rattle.pcapng_grammar.proofs.Steps.{GoesOn, too_long, walked_none, few_packets, walked_more, walked_defect, walked_missing, walked_all}
use Rattle.pcapng_grammar.proofs.check.read_file.Goals as goal
use Rattle.pcapng_grammar.proofs.check.read_file.Goals.{then-at-eq0, else-at-eq0+then-at-bytes}

pub returns-then-bytes-gt-MAX_FILE_LEN : goal.returns-then-bytes-gt-MAX_FILE_LEN
returns-then-bytes-gt-MAX_FILE_LEN c = too_long c.args.bytes.now c.if-bytes-gt-MAX_FILE_LEN.true

pub blocks-2-init : goal.blocks-2-init
blocks-2-init c = record { within = omega arith; most = omega arith; walked = rw (c.new.ensures, c.new-2.ensures) (walked_none c.args.bytes.now (omega arith)) }

pub add-requires-clause-room : goal.add-requires-clause-room
add-requires-clause-room c k =
    let w = c.blocks-2.invariant.walked in
    let few : slice_index c.blocks-2.facts.packets k ≤ length w.before = rw w.packets_are (few_packets w.before k) in
    let most : length w.before ≤ c.blocks-2.at = w.few in
    omega arith

pub blocks-2-preserved : goal.blocks-2-preserved
blocks-2-preserved c =
    let bytes = c.args.bytes.now in
    let at = c.blocks-2.at in
    let rest : c.bytes_from-rest.result.now ≡ drop at bytes = c.bytes_from-rest.ensures in
    let facts : FileFacts = record { packets = c.blocks-2.facts.packets; counts = c.blocks-2.facts.counts } in
    let on : GoesOn at (drop at bytes) = elim c.if-at-eq0.branch [ then-at-eq0 w ↦ inl w.if-at-eq0.true | else-at-eq0+then-at-bytes w ↦ inr (omega (arith, length-drop at bytes)) ] in
    let within : c.in-Ok.len ≤ length (drop at bytes) = subst (λ (l : List ℕ). c.in-Ok.len ≤ length l) rest c.in-Ok.ensures.within.1 in
    let is : block_in_order (length facts.packets) (length facts.counts) at (drop at bytes) ≡ Ok (c.in-Ok.block, c.in-Ok.len) = rw (sym rest, sym c.len.ensures, sym c.len-in-blocks-2.ensures) (sym c.in-Ok.ensures.block) in
    let more = walked_more bytes at facts c.in-Ok.block c.in-Ok.len c.blocks-2.invariant.walked on is c.in-Ok.ensures.within.0 within in
    record {
      within = omega (arith, length-drop at bytes);
      most = c.blocks-2.invariant.most;
      walked = rw c.in-Ok-add.ensures more;
    }

pub returns-in-Err : goal.returns-in-Err
returns-in-Err c =
    let bytes = c.args.bytes.now in
    let at = c.blocks-2.at in
    let rest : c.bytes_from-rest.result.now ≡ drop at bytes = c.bytes_from-rest.ensures in
    let on : GoesOn at (drop at bytes) = elim c.if-at-eq0.branch [ then-at-eq0 w ↦ inl w.if-at-eq0.true | else-at-eq0+then-at-bytes w ↦ inr (omega (arith, length-drop at bytes)) ] in
    let is : block_in_order (length c.blocks-2.facts.packets) (length c.blocks-2.facts.counts) at (drop at bytes) ≡ Err c.in-Err.what = rw (sym rest, sym c.len.ensures, sym c.len-in-blocks-2.ensures) (sym c.in-Err.ensures.block) in
    walked_defect bytes at c.blocks-2.facts.packets c.blocks-2.facts.counts c.in-Err.what c.blocks-2.invariant.walked on is

pub returns-then-len : goal.returns-then-len
returns-then-len c =
    let bytes = c.args.bytes.now in
    let at = c.blocks-2.at in
    walked_missing bytes at c.blocks-2.facts.packets c.blocks-2.facts.counts c.blocks-2.invariant.walked (omega arith) (omega (arith, length-drop at bytes)) (λ e. c.if-len.true (c.len-2.ensures ∙ e ∙ sym c.len-3.ensures))

pub returns : goal.returns
returns c =
    let bytes = c.args.bytes.now in
    let at = c.blocks-2.at in
    walked_all bytes at (record { packets = c.blocks-2.facts.packets; counts = c.blocks-2.facts.counts }) c.blocks-2.invariant.walked (omega arith) (omega (arith, length-drop at bytes)) (sym c.len-2.ensures ∙ c.if-len.false ∙ c.len-3.ensures)
