-- The interfaces of an output: each numbered Join is the next one, and its source's.
use Rattle.std.specs.Prelude.{ℕ, ◌==◌, ◌&&◌, nat_lt, get_or, Bool, List, [], ◌∷◌, length, Some}
use Rattle.std.specs.List.{count_by, flat_map}
use Rattle.cap_base.specs.declared.packet.Packet.{Packet}
use Rattle.cap_base.specs.declared.entries.Item.{Item}
use Rattle.cap_base.specs.declared.entries.Item.TheVariants as I
use Rattle.cap_base.specs.declared.entries.Entry.{Entry}
use Rattle.cap_base.specs.declared.entries.Entry.TheVariants as E
use Rattle.cap_base.specs.Histories.{History}

-- the source of a numbered Join
abbrev pub owner_of : Entry → List ℕ
owner_of (E.Join s i (Some n)) = s ∷ []
owner_of other = []

-- the sources of the numbered interfaces, by number
abbrev pub owners : History → List ℕ
owners h = flat_map (λ x. owner_of x.1) h

-- number n is that source's
abbrev pub owns : List ℕ → ℕ → ℕ → Bool
owns os s n = nat_lt n (length os) && (get_or os n 0 == s)

-- the item is that source's: an interface or a packet by its number, an ending by its source
abbrev pub belongs : List ℕ → ℕ → Item → Bool
belongs os s (I.Iface n i) = owns os s n
belongs os s (I.Packet p) = owns os s p.iface
belongs os s (I.Ended t how) = t == s

-- how many of the packets are of that number
abbrev pub of : ℕ → List Packet → ℕ
of k ps = count_by (λ p. p.iface == k) ps
