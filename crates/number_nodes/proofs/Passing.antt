-- A number that is read takes a byte at least, which pays for its words (`val_paid`).
-- Assumes nothing.
use mathlib.Core.Path.{◌≡◌}
use mathlib.Core.List.{List, []}
use mathlib.Core.Bool.{Bool, true, false}
use mathlib.Core.Option.{Option}
use Prim.Native.Nat.{ℕ, zero, suc, ◌+◌, ◌≤◌}
use native.Mathlib.Omega.{arith}
use lib.ListN.{take, drop}
use Rattle.program.specs.Prog.{Prog, eat, scan, run, ok, byte_at, scan_len, ◌>>=◌}
use Rattle.grammar.specs.Lexer.{is_byte, byte_if}
use Rattle.grammar.specs.Numbers.{digits, read_numeric, behind_point, literal_of, is_float, integer_of, parse_numeral, parse_hex_float, parse_f0x}
use Rattle.lexer.proofs.Laws.{Passes}
use Rattle.lexer_names.proofs.Passed.{passes_any, passes_refuse, passes_eat}

-- where the automaton passes nothing, the rest does
passes_behind : {A : Type 0} (f : ℕ → ℕ → Option ℕ) (q : ℕ) (k : List ℕ → Prog A) → Passes 1 (k []) → Passes 1 (scan f q k)
unfolding run
passes_behind {A} f q k p = record { over = λ i j s a e. go i j (scan_len f q s) s a e }
  where
    go : (i j n : ℕ) (s : List ℕ) (a : A) → run (k (take n s)) (i + n) (drop n s) ≡ ok a j → i + 1 ≤ j
    go i j zero s a e = omega (arith, p.over (i + 0) j s a e)
    go i j (suc n) s a e = omega (arith, (passes_any (k (take (suc n) s))).over (i + suc n) j (drop (suc n) s) a e)

passes_byte_then : {A B : Type 0} (b : ℕ) (f g : Prog A) (h : A → Prog B) → Passes 1 (g >>= h) → Passes 1 (byte_if b f g >>= h)
unfolding byte_if ◌>>=◌ run
passes_byte_then {A} {B} b f g h p = record { over = λ i j s a e. go i j s a (is_byte b (byte_at s)) e }
  where
    go : (i j : ℕ) (s : List ℕ) (a : B) (z : Bool) → run (elim z [ true ↦ eat f | false ↦ g ] >>= h) i s ≡ ok a j → i + 1 ≤ j
    go i j s a true e = (passes_eat 0 (passes_any (f >>= h))).over i j s a e
    go i j s a false e = p.over i j s a e

-- a numeral has a digit, a point or an exponent
pub passes_numeral : (neg : Bool) → Passes 1 (parse_numeral neg)
unfolding parse_numeral read_numeric digits behind_point literal_of is_float integer_of ◌>>=◌
passes_numeral neg = passes_behind _ _ _ (passes_byte_then 46 _ _ (literal_of neg) (passes_byte_then 101 _ _ (literal_of neg) (passes_byte_then 69 _ _ (literal_of neg) (passes_refuse 1 7))))

-- the bits of a float have a digit
pub passes_hex : Passes 1 parse_hex_float
unfolding parse_hex_float
passes_hex = passes_behind _ _ _ (passes_refuse 1 7)

pub passes_f0x : Passes 1 parse_f0x
unfolding parse_f0x
passes_f0x = passes_behind _ _ _ (passes_refuse 1 7)
