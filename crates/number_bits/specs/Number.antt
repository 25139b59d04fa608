-- Numbers of at most 64 bits.
-- Assumes nothing.
use Rattle.std.specs.Prelude.{ℕ, ◌+◌, ◌*◌, leb, Option, Some, None}
use Rattle.program.specs.Choice.{pick}
use Rattle.records.specs.Limits.{number_limit}

-- a number, or that 64 bits do not hold it
unfoldable pub capped : ℕ → Option ℕ
capped a = pick (leb a number_limit) (Some a) None

-- one digit more
unfoldable pub shifted : Option ℕ → ℕ → Option ℕ
shifted (Some v) d = capped (v * 10 + d)
shifted None d = None
