-- What the file of a trial comes to when it is checked.
use Rattle.std.specs.Prelude.{ℕ, ◌+◌, ◌^◌, ◌≡◌, ◌≤◌, Bool, true, false, List, length, Option, Some, None}
use Rattle.std.specs.List.{sum_by}
use Rattle.cap_base.specs.declared.done.Done.{Done}
use Rattle.cap_base.specs.declared.done.Done.TheVariants.{Created}
use Rattle.pcapng_grammar.specs.declared.facts.Counted.{Counted}
use Rattle.pcapng_grammar.specs.declared.facts.FileFacts.{FileFacts}
use Rattle.pcapng_grammar.specs.Files.{HasFacts, Grammatical}

-- the packets of an interface that its statistics count as written, or as dropped or flushed
abbrev pub counted_by : Counted → ℕ
counted_by c = c.delivered + c.drop

-- those of all interfaces
abbrev pub counted_in : List Counted → ℕ
counted_in counts = sum_by counted_by counts

abbrev pub is_created : Done → Bool
is_created (Created name) = true
is_created other = false

-- The packets that the statistics of a file account for. There are none where there is no file, or where it isn't grammatical.
abbrev pub IsCounted : Option (List ℕ) → Option ℕ → Type 0
IsCounted None accounted = accounted ≡ None
IsCounted (Some text) (Some n) = (facts : FileFacts) × HasFacts text facts × (n ≡ counted_in facts.counts)
IsCounted (Some text) None = Grammatical text → length text ≤ 2 ^ 32 → ⊥
