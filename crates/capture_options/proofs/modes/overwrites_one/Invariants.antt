use Rattle.std.proofs.Common.{◌≡◌, drop, map}
use Rattle.std.specs.List.{list_any}
use Rattle.capture_options.specs.Numbers.{overwrites}
use Rattle.capture_options.proofs.modes.overwrites_one.Given as goal

-- no file so far is overwritten
abbrev pub invariant-loop-name : goal.invariant-loop-name
invariant-loop-name l =
    list_any (overwrites l.out) (map (λ t. t.now) (drop l.name-index l.names)) ≡ list_any (overwrites l.out) (map (λ t. t.now) l.names)
