-- Which texts a message has room for.
use Rattle.std.specs.Prelude.{◌≡◌, ℕ, ◌≤◌, false, List, length}
use Rattle.sync_pipe.specs.Texts.{has_zero}

-- 1 to 5,000 bytes, and none of them 0
pub record HasRoom (text : List ℕ) : Type 0 where
  pub some : 1 ≤ length text
  pub few : length text ≤ 5000
  pub without_zero : has_zero text ≡ false
