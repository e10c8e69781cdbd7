use Rattle.std.proofs.Common.{◌≡◌, ◌≤◌, ◌*◌, ◌^◌, ℕ, List, length, map, take, true, vec_capacity}
use Rattle.std.specs.Prelude.{All}
use Rattle.cap_outside.specs.Told.{Leads}
use Rattle.join_mode.specs.Joining.{name_of, IsRead, GivesContent}
use Rattle.join_mode.specs.inner.Parts.{Progress}
use Rattle.join_mode.proofs.joining.join_inputs.Given as goal

-- the files of the first names were joined
abbrev pub invariant-names : goal.invariant-names
invariant-names g l = record {
  room : vec_capacity l.sources ≡ length l.names;
  count : length l.sources.items ≡ l.name-index;
  progress : Progress (IsRead g.O.Source.Source) g.L.Outlet.stands_for (take l.name-index l.names) l.sources.items l.fn.outlet l.outlet l.joiner l.packets;
  few : l.packets ≤ l.name-index * 2 ^ 30;
  piece : length l.piece ≡ 65536;
  opened : Leads g.O.Opener.opened l.fn.opener l.opener (map name_of l.sources.items);
  opens : g.O.Opener.faults l.opener ≡ g.O.Opener.faults l.fn.opener;
  contents : All (GivesContent (g.O.Opener.content l.fn.opener) g.O.Source.Source.taken g.O.Source.Source.left) l.sources.items;
  same : (other : List ℕ) → g.O.Opener.content l.opener other ≡ g.O.Opener.content l.fn.opener other;
  files : g.L.Outlet.file_faults l.outlet ≡ g.L.Outlet.file_faults l.fn.outlet;
  file : g.L.Outlet.has_file l.outlet ≡ true;
  other : g.L.Outlet.say_faults l.outlet ≡ g.L.Outlet.say_faults l.fn.outlet;
}
