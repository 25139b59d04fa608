-- m times five to the k in halves of 52 bits, and n more bits: `up_is`.
-- Assumes nothing.
use mathlib.Core.Path.{◌≡◌, sym, ap, ◌∙◌, subst}
use Prim.Native.Nat.{ℕ, ◌+◌, ◌-◌, ◌*◌, ◌^◌, ◌<◌, ◌≤◌}
use native.Mathlib.Nat.{mul-pos, lt_of_lt_of_le}
use native.Mathlib.Omega.{arith}
use lib.Dec.{lit≤}
use borrow.Author.Rules.{rules}
use Rattle.grammar.specs.Numbers.{rounded, nearest}
use Rattle.number_decimals.specs.Decimals.{Scaled}
use Rattle.number_decimals.specs.declared.Significand.{Significand}
use Rattle.number_decimals.proofs.Nearest.{fives_small, fives_pos, up_is}
use Rattle.number_decimals.proofs.nearest_up.Goals as goal

bits : (m k d v x : ℕ) (s : Significand) → k < 23 → d ≡ 5 ^ k → v ≡ m * d → Scaled v (2 ^ 52) s → x ≡ rounded s.parts.q s.parts.rest (2 ^ 52) → x ≤ 2 ^ 53 →
    ((1126 + k - s.n) * 4503599627370496 + x ≡ nearest (m * 10 ^ k) 1) × ((1126 + k - s.n) * 4503599627370496 + x < 2 ^ 63)
bits m k d v x s small e f h p l =
    let g : Scaled (m * 5 ^ k) (2 ^ 52) s = subst (λ (y : ℕ). Scaled y (2 ^ 52) s) (f ∙ ap (λ (y : ℕ). m * y) e) h in (
      ap (λ (y : ℕ). (1126 + k - s.n) * 4503599627370496 + y) p
          ∙ sym (up_is m k s.parts.q s.parts.rest s.n g.value g.left g.long g.short g.few small),
      omega arith,
    )

above : (c : goal.After-five) → 0 < c.five.result
above c = rw c.five.ensures (fives_pos c.args.k)

pub product-requires : goal.product-requires
product-requires c = (
  lt_of_lt_of_le c.requires.1 (lit≤ tt),
  rw c.five.ensures
      (fives_small c.args.k c.requires.2),
)

pub scaled-s-requires : goal.scaled-s-requires
scaled-s-requires c = (
  subst (λ (x : ℕ). 0 < x) (sym c.product.ensures.value)
      (mul-pos c.requires.0 (above c.before)),
  search rules,
  c.product.ensures.left,
  lit≤ tt,
)

pub returns : goal.returns
returns c =
    bits c.args.m c.args.k c.five.result _ c.rounded.result c.scaled-s.result c.requires.2 c.five.ensures c.product.ensures.value c.scaled-s.ensures c.rounded.ensures.0 c.rounded.ensures.1
