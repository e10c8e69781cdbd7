-- Where a cell, a pass and a front keep what the public words of `Passes` say of them.
use Rattle.std.specs.Prelude.{◌≡◌, ℕ, Bool, cond, List, [], Some}
use Rattle.turn_cell.specs.declared.pass.Pass.{Pass}
use Rattle.turn_cell.specs.declared.cell.Cell.{Cell}
use Rattle.turn_cell.specs.declared.front.Front.{Front}
use Rattle.turn_cell.specs.declared.view.Stage.TheVariants.{Idle, Worn}

module _ {O C R E : Type 0} where
  abbrev pub cell_start : Cell O C R E → O
  cell_start c = c.table.shared.key.start.value

  abbrev pub cell_callers : Cell O C R E → ℕ
  cell_callers c = c.table.shared.key.callers

  abbrev pub cell_turns : Cell O C R E → ℕ
  cell_turns c = c.table.shared.key.turns

  abbrev pub pass_low : Pass O C R E → ℕ
  pass_low p = p.seat.me.0.low

  abbrev pub pass_high : Pass O C R E → ℕ
  pass_high p = p.seat.me.0.high

  abbrev pub pass_seen : Pass O C R E → List (ℕ × E)
  pass_seen p = p.seat.me.0.seen

  abbrev pub pass_made : Pass O C R E → List (ℕ × E)
  pass_made p = p.seat.me.0.made

  abbrev pub pass_worn : Pass O C R E → Bool
  pass_worn p = p.worn

  abbrev pub front_history : Front O C R E → List (ℕ × E)
  front_history f = f.last.value.me.0.seen

  abbrev pub front_turns : Front O C R E → ℕ
  front_turns f = f.turns

  -- The pass has a seat at the cell's table that waits for no turn and has no object. Where the pass is worn its seat is,
  -- and by the table's rule a seat is worn only where all turns were drawn.
  pub record SeatOf (c : Cell O C R E) (p : Pass O C R E) : Type 0 where
    pub table : p.seat.table_id ≡ c.table.shared.table_id
    pub key : p.seat.me.0.key ≡ Some c.table.shared.key
    pub no_object : p.seat.me.1 ≡ []
    pub merged : p.seat.me.0.other_seen ≡ []
    pub stage : p.seat.me.0.stage ≡ cond p.worn Worn Idle
