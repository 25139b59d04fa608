-- A number in decimal.
-- Assumes nothing.
use Rattle.std.specs.Prelude.{List, [], ◌∷◌, ℕ, zero, suc, ◌+◌, ◌/◌, ◌%◌, ltb}
use Rattle.program.specs.Bytes.{byte}
use Rattle.program.specs.Choice.{test}

-- of at most u digits more, in front of what is there
unfoldable pub digits_in : ℕ → ℕ → List ℕ → List ℕ
digits_in zero n acc = acc
digits_in (suc u) n acc = test (ltb n 10) (λ _. (byte "0" + n) ∷ acc) (λ _. digits_in u (n / 10) ((byte "0" + n % 10) ∷ acc))

-- a number of 64 bits has at most 20 digits
unfoldable pub decimal : ℕ → List ℕ
decimal n = digits_in 20 n []
