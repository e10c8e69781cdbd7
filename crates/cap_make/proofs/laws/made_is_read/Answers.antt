use Rattle.cap_make.proofs.Readings.{even_is_classic}
use Rattle.cap_make.proofs.Blocks.{odd_is_pcapng}
use Rattle.cap_make.proofs.laws.made_is_read.Goals as goal

pub returns-clause-even : goal.returns-clause-even
returns-clause-even c = even_is_classic

pub returns-clause-odd : goal.returns-clause-odd
returns-clause-odd c = odd_is_pcapng
