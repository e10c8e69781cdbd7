-- The file of a trial, by what its outlet did.
use Rattle.std.proofs.Common.{◌≡◌, ℕ, ◌+◌, Bool, true, false, if◌then◌else◌, List, [], ◌∷◌, ◌++◌, map, Some, refl, sym, ap, ◌∙◌, subst, arith, append_assoc}
use Rattle.std.proofs.lemmas.List.{append-nil}
use Rattle.cap_base.specs.Effects.{Effect, created, finished, bytes, saying}
use Rattle.cap_outside.specs.Files.{bytes_up_to_end, file_in, touches}
use Rattle.pcapng_grammar.specs.Files.{Grammatical}
use Rattle.capture_desk.specs.declared.acts.Act.TheVariants.{Say}
use Rattle.capture_desk.specs.Doing.{effects_of_acts}
use Rattle.capture_core.specs.Statistics.{AtEachFinish}
use Rattle.trial_mode.specs.Streams.{output_name}
use Rattle.trial_mode.specs.Sums.{files_in}
use Rattle.trial_mode.specs.Trials.{MadeOneFile}
use Rattle.trial_mode.proofs.Countings.{files_both, no_files_in_bytes, no_files_in_saying}

-- lines that are said
abbrev pub said_lines : List (List ℕ) → List Effect
said_lines lines = effects_of_acts (map Say lines)

no_files_said : (lines : List (List ℕ)) → files_in (said_lines lines) ≡ 0
no_files_said [] = refl
no_files_said (l ∷ lines) = let a : files_in (saying l ++ said_lines lines) ≡ files_in (saying l) + files_in (said_lines lines) = files_both (saying l) (said_lines lines) in
    let b : files_in (saying l) ≡ 0 = no_files_in_saying l in let c : files_in (said_lines lines) ≡ 0 = no_files_said lines in omega arith

touches_bytes : (name xs : List ℕ) (es : List Effect) → touches name (bytes xs ++ es) ≡ touches name es
touches_bytes name [] es = refl
touches_bytes name (x ∷ xs) es = touches_bytes name xs es

touches_saying : (name xs : List ℕ) (es : List Effect) → touches name (saying xs ++ es) ≡ touches name es
touches_saying name [] es = refl
touches_saying name (x ∷ xs) es = touches_saying name xs es

touches_none : (name : List ℕ) (lines : List (List ℕ)) → touches name (said_lines lines) ≡ false
touches_none name [] = refl
touches_none name (l ∷ lines) = touches_saying name l (said_lines lines) ∙ touches_none name lines

bytes_to_end : (xs : List ℕ) (es : List Effect) → bytes_up_to_end (bytes xs ++ (finished ∷ es)) ≡ xs
bytes_to_end [] es = refl
bytes_to_end (x ∷ xs) es = ap (λ (z : List ℕ). x ∷ z) (bytes_to_end xs es)

at_bytes : (P : List ℕ → Type 0) (b xs : List ℕ) (es : List Effect) → AtEachFinish P b (bytes xs ++ es) → AtEachFinish P (b ++ xs) es
at_bytes P b [] es w = subst (λ (z : List ℕ). AtEachFinish P z es) (sym (append-nil b)) w
at_bytes P b (x ∷ xs) es w = subst (λ (z : List ℕ). AtEachFinish P z es) (append_assoc b (x ∷ []) xs) (at_bytes P (b ++ x ∷ []) xs es w)

module _ (text : List ℕ) (lines : List (List ℕ)) where
  -- a file with this text, and these lines behind it
  abbrev pub one_file_done : List Effect
  one_file_done = created output_name ∷ (bytes text ++ (finished ∷ said_lines lines))

  one : files_in one_file_done ≡ 1
  one = let a : files_in (bytes text ++ (finished ∷ said_lines lines)) ≡ files_in (bytes text) + files_in (said_lines lines) = files_both (bytes text) (finished ∷ said_lines lines) in
      let b : files_in (bytes text) ≡ 0 = no_files_in_bytes text in let c : files_in (said_lines lines) ≡ 0 = no_files_said lines in omega arith

  pub its_text : file_in output_name one_file_done ≡ Some text
  its_text = go (touches output_name (bytes text ++ (finished ∷ said_lines lines))) (touches_bytes output_name text (finished ∷ said_lines lines) ∙ touches_none output_name lines) where
    go : (b : Bool) → b ≡ false → (if b then file_in output_name (bytes text ++ (finished ∷ said_lines lines)) else Some (bytes_up_to_end (bytes text ++ (finished ∷ said_lines lines)))) ≡ Some text
    go true q = cc
    go false q = ap Some (bytes_to_end text (said_lines lines))

  pub at_its_end : (P : List ℕ → Type 0) → AtEachFinish P [] one_file_done → P text
  at_its_end P w = let v = at_bytes P [] text (finished ∷ said_lines lines) w in v.0

  made : AtEachFinish Grammatical [] one_file_done → MadeOneFile one_file_done
  made w = record { one = one; text = text; file = its_text; grammatical = at_its_end Grammatical w }

pub made_one : (text : List ℕ) (lines : List (List ℕ)) (done : List Effect) → done ≡ one_file_done text lines → AtEachFinish Grammatical [] done → MadeOneFile done
made_one text lines done q w = subst MadeOneFile (sym q) (made text lines (subst (AtEachFinish Grammatical []) q w))
