-- Exponent 255, 0 or another: one law for each.
-- Assumes nothing.
use mathlib.Core.Path.{refl, ap, ◌∙◌}
use Prim.Native.Nat.{ℕ, ◌+◌, ◌*◌, ◌^◌, ◌<◌}
use native.Mathlib.Omega.{arith}
use Rattle.grammar.specs.Numbers.{special_bits}
use Rattle.number_integers.proofs.Widen.{special_case, zero_case, subnormal_case, normal_case}
use Rattle.number_integers.proofs.hex.widen_bits.Goals as goal

fits_all : (s e f : ℕ) → s < 2 → e < 256 → f < 8388608 → s * 9223372036854775808 + ((e + 896) * 4503599627370496 + f * 536870912) < 2 ^ 64
fits_all s e f p q r = omega arith

pub returns-then-e-eq-TOP32 : goal.returns-then-e-eq-TOP32
returns-then-e-eq-TOP32 c =
    special_case c.args.b c.from-s.result c.from-e.result _ c.from-s.ensures c.from-e.ensures refl c.special.result c.if-e-eq-TOP32.true
    (c.special.ensures.0 ∙ ap special_bits c.from.ensures)

pub returns-then-f-eq0 : goal.returns-then-f-eq0
returns-then-f-eq0 c =
    zero_case c.args.b c.from-s.result c.from-e.result _ c.from-s.ensures c.from-e.ensures refl c.if-e-eq0.true c.if-f-eq0.true

pub returns-then-e-eq0 : goal.returns-then-e-eq0
returns-then-e-eq0 c =
    subnormal_case c.args.b c.from-s.result c.from-e.result _ c.from-s.ensures c.from-e.ensures refl c.subnormal.result c.if-e-eq0.true c.if-f-eq0.false c.subnormal.ensures.0

pub overflow_add-result-4 : goal.overflow_add-result-4
overflow_add-result-4 c = record { fits = fits_all c.from-s.result c.from-e.result c.from-2.result (omega arith) (omega arith) (omega arith) }

pub returns : goal.returns
returns c =
    normal_case c.args.b c.from-s.result c.from-e.result c.from-2.result c.from-s.ensures c.from-e.ensures c.from-2.ensures c.if-e-eq-TOP32.false c.if-e-eq0.false
