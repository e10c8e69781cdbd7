-- Of which sources and interfaces something is said.
use Rattle.std.specs.Prelude.{ℕ, ◌+◌, ◌==◌, Bool, true, false, if◌then◌else◌, Option, Some, None, List, [], ◌∷◌, ◌++◌}
use Rattle.cap_base.specs.declared.counts.Counts.{Counts}
use Rattle.cap_base.specs.declared.endings.How.{How}
use Rattle.cap_base.specs.declared.endings.How.TheVariants as hows
use Rattle.cap_base.specs.declared.interface.Iface.{Iface}
use Rattle.capture_report.specs.declared.endings.SourceEnd.{SourceEnd}

-- otherwise than at the end of its input or by a stop
abbrev pub is_early : How → Bool
is_early hows.Clean = false
is_early hows.Stopped = false
is_early other = true

-- the first ending of a source
abbrev pub ending_of : ℕ → List SourceEnd → Option How
ending_of source [] = None
ending_of source (e ∷ es) = if e.source == source then Some e.how else ending_of source es

-- what is said of a source, by its name and ending, where it ended early
abbrev pub of_early : {A : Type 0} → (List ℕ → How → A) → List ℕ → Option How → List A
of_early say name None = []
of_early say name (Some how) = if is_early how then say name how ∷ [] else []

-- what is said of each source that ended early, in order, from a number on
abbrev pub of_sources : {A : Type 0} → (List ℕ → How → A) → ℕ → List (List ℕ) → List SourceEnd → List A
of_sources say n [] ends = []
of_sources say n (name ∷ names) ends = of_early say name (ending_of n ends) ++ of_sources say (n + 1) names ends

-- what is said of each interface, by its number, itself and its counts, in order, from a number on
abbrev pub of_interfaces : {A : Type 0} → (ℕ → Iface → Counts → A) → ℕ → List Iface → List Counts → List A
of_interfaces say n [] counts = []
of_interfaces say n (i ∷ is) [] = []
of_interfaces say n (i ∷ is) (c ∷ counts) = say n i c ∷ of_interfaces say (n + 1) is counts
