-- What is known of a pass, by the fields of its seat.
use Rattle.std.proofs.Common.{◌≡◌, ℕ, ◌<◌, ◌≤◌, []}
use Rattle.turn_cell.specs.declared.pass.Pass.{Pass}
use Rattle.turn_cell.specs.declared.cell.Cell.{Cell}
use Rattle.turn_cell.specs.History.{own}
use Rattle.turn_cell.specs.inner.Fields.{pass_low, pass_high, pass_made, SeatOf}
use Rattle.turn_cell.specs.Passes.{low, high, made, IsMadeBy, IsPassOf}

module _ {O C R E : Type 0} where
  pub record Seated (c : Cell O C R E) (p : Pass O C R E) : Type 0 where
    pub some_number : pass_low p < pass_high p
    pub below : (n : ℕ) → n < pass_low p → own n (pass_made p) ≡ []
    pub above : (n : ℕ) → pass_high p ≤ n → own n (pass_made p) ≡ []
    pub seat : SeatOf c p

  pub seated : (c : Cell O C R E) (p : Pass O C R E) → IsPassOf c p → Seated c p
  unfolding low high made IsMadeBy
  seated c p i = record { some_number = i.some_number; below = i.below; above = i.above; seat = i.made_by }

  pub is_pass : (c : Cell O C R E) (p : Pass O C R E) → Seated c p → IsPassOf c p
  unfolding low high made IsMadeBy
  is_pass c p s = record { some_number = s.some_number; below = s.below; above = s.above; made_by = s.seat }
