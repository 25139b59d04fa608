-- m and its n more bits, divided by five to the k: `down_is`.
-- Assumes nothing.
use mathlib.Core.Path.{◌≡◌, sym, ap, ◌∙◌, subst}
use Prim.Native.Nat.{ℕ, ◌+◌, ◌-◌, ◌*◌, ◌/◌, ◌%◌, ◌^◌, ◌<◌, ◌≤◌}
use native.Mathlib.Nat.{mod-lt, div-le_self, div-add-mod', lt_of_le_of_lt, lt_of_lt_of_le, le_of_lt}
use native.Mathlib.Omega.{arith}
use lib.Dec.{lit≤}
use Rattle.grammar.specs.Numbers.{rounded, nearest}
use Rattle.number_decimals.specs.Decimals.{Scaled}
use Rattle.number_decimals.specs.declared.Significand.{Significand}
use Rattle.number_decimals.proofs.Nearest.{fives_small, fives_pos, down_is}
use Rattle.number_decimals.proofs.nearest_down.Goals as goal

bits : (m k d x : ℕ) (s : Significand) → k < 23 → d ≡ 5 ^ k → Scaled (m / d * d + m % d) d s → x ≡ rounded s.parts.q s.parts.rest d → x ≤ 2 ^ 53 →
    ((1074 - k - s.n) * 4503599627370496 + x ≡ nearest m (10 ^ k)) × ((1074 - k - s.n) * 4503599627370496 + x < 2 ^ 63)
bits m k d x s small e h p l =
    let g : Scaled m (5 ^ k) s = subst (λ (v : ℕ). Scaled v (5 ^ k) s) (div-add-mod' m (5 ^ k)) (subst (λ (v : ℕ). Scaled (m / v * v + m % v) v s) e h) in (
      ap (λ (y : ℕ). (1074 - k - s.n) * 4503599627370496 + y) (p ∙ ap (rounded s.parts.q s.parts.rest) e)
          ∙ sym (down_is m k s.parts.q s.parts.rest s.n g.value g.left g.long g.short g.few small),
      omega arith,
    )

above : (k d : ℕ) → d ≡ 5 ^ k → 0 < d
above k d e = rw e (fives_pos k)

below : (k d : ℕ) → d ≡ 5 ^ k → k < 23 → d < 2 ^ 52
below k d e h = rw e (fives_small k h)

pub nonzero_div-start : goal.nonzero_div-start
nonzero_div-start c = above _ _ c.five-d.ensures

pub nonzero_rem-start : goal.nonzero_rem-start
nonzero_rem-start c = above _ _ c.five-d.ensures

pub scaled-s-requires : goal.scaled-s-requires
scaled-s-requires c =
    let m = c.args.m in
    let d = c.five-d.result in
    (subst (λ (x : ℕ). 0 < x) (sym (div-add-mod' m d)) c.requires.0, lt_of_le_of_lt (div-le_self m d) (lt_of_lt_of_le c.requires.1 (lit≤ tt)), mod-lt m (above _ _ c.five-d.ensures), le_of_lt (below _ _ c.five-d.ensures c.requires.2))

pub rounded-requires : goal.rounded-requires
rounded-requires c = (c.scaled-s.ensures.short, (let k = below _ _ c.five-d.ensures c.requires.2 in let h = c.scaled-s.ensures.left in omega arith))

pub returns : goal.returns
returns c =
    bits c.args.m c.args.k c.five-d.result c.rounded.result c.scaled-s.result c.requires.2 c.five-d.ensures c.scaled-s.ensures c.rounded.ensures.0 c.rounded.ensures.1
