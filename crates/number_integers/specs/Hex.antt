-- The bits of floats from hex digits. 01: "`0x` or `0X` takes 1 to 16 hex digits as bits; `f0x` exactly 8 (binary32 widened) or 16."
-- Assumes nothing.
use Rattle.std.specs.Prelude.{Bool, true, ◌&&◌, List, [], ◌∷◌, ℕ, ◌+◌, ◌*◌, ◌%◌, ◌^◌, ltb, Option, Some, None}
use Rattle.program.specs.Choice.{pick}
use Rattle.program.specs.Class.{class_of, is_hex}
use Rattle.number_integers.specs.declared.hex.Hex.{Hex}

-- a number of n digits as it is held; none where they are more than 16
unfoldable pub hex_held : ℕ → ℕ → Option Hex
hex_held v n = pick (ltb n 17) (Some (record { bits = v; count = n })) None

-- a digit more
unfoldable pub hex_pushed : Option Hex → ℕ → Option Hex
hex_pushed None d = None
hex_pushed (Some h) d = pick (ltb h.count 16) (Some (record { bits = h.bits % 2 ^ 60 * 16 + d % 16; count = h.count + 1 })) None

-- digits folded one by one
unfoldable pub hex_folded : Option Hex → List ℕ → Option Hex
hex_folded h [] = h
hex_folded h (x ∷ r) = hex_folded (hex_pushed h (class_of x)) r

unfoldable pub all_hex : List ℕ → Bool
all_hex [] = true
all_hex (x ∷ r) = is_hex x && all_hex r
