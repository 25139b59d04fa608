-- Whole numbers of 128 bits. 01, question 7: "an integer within signed 128 bits"; "two words, two's complement of 128 bits, high first".
-- Assumes nothing.
use Rattle.std.specs.Prelude.{Bool, ℕ, ◌+◌, ◌*◌, ◌^◌, leb, Option, Some, None}
use Rattle.program.specs.Choice.{pick}
use Rattle.grammar.specs.Numbers.{largest, twos}

-- a number as it is held
unfoldable pub magnitude_of : ℕ → Option ℕ
magnitude_of v = pick (leb (2 ^ 128) v) None (Some v)

-- a digit more
unfoldable pub pushed : Option ℕ → ℕ → Option ℕ
pushed None d = None
pushed (Some v) d = magnitude_of (v * 10 + d)

-- the sign, and question 7
unfoldable pub signed_of : Bool → Option ℕ → Option ℕ
signed_of neg None = None
signed_of neg (Some v) = pick (leb v (largest neg)) (Some (twos neg v)) None
