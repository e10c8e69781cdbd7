-- Counts by interface number, and how one packet changes them.
use Rattle.std.specs.Prelude.{ℕ, ◌+◌, ◌-◌, List, [], ◌∷◌, set, get_or}
use Rattle.cap_base.specs.declared.counts.Counts.{Counts}

abbrev pub no_counts : Counts
no_counts = record { recv = 0; drop = 0; flush = 0; written = 0 }

-- one packet more was received, dropped, flushed or written

abbrev pub one_received : Counts → Counts
one_received c = record { recv = c.recv + 1; drop = c.drop; flush = c.flush; written = c.written }

abbrev pub one_dropped : Counts → Counts
one_dropped c = record { recv = c.recv; drop = c.drop + 1; flush = c.flush; written = c.written }

abbrev pub one_flushed : Counts → Counts
one_flushed c = record { recv = c.recv; drop = c.drop; flush = c.flush + 1; written = c.written }

abbrev pub one_written : Counts → Counts
one_written c = record { recv = c.recv; drop = c.drop; flush = c.flush; written = c.written + 1 }

-- one of the written packets is flushed
abbrev pub one_unwritten : Counts → Counts
one_unwritten c = record { recv = c.recv; drop = c.drop; flush = c.flush + 1; written = c.written - 1 }

-- the counts of an interface number
abbrev pub counts_at : List Counts → ℕ → Counts
counts_at cs k = get_or cs k no_counts

-- the same counts but for those of number k, which are changed by f
abbrev pub update : (Counts → Counts) → ℕ → List Counts → List Counts
update f k cs = set cs k (f (counts_at cs k))

-- this for each number of a list
abbrev pub update_each : (Counts → Counts) → List ℕ → List Counts → List Counts
update_each f [] cs = cs
update_each f (k ∷ ks) cs = update_each f ks (update f k cs)
