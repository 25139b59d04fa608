-- Ten to the k is five to the k times two to the k.
-- Assumes nothing.
use mathlib.Core.Path.{sym, ap, ◌∙◌}
use Prim.Native.Nat.{ℕ, ◌*◌, ◌%◌, ◌^◌}
use native.Mathlib.Nat.{mod-eq_of_lt}
use Rattle.number_decimals.proofs.Nearest.{tens}
use Rattle.number_decimals.proofs.Scale.{tens_small}
use Rattle.number_decimals.proofs.mantissa.ten.Goals as goal

pub returns : goal.returns
returns c =
    ap (λ (x : ℕ). x * 2 ^ c.args.k % 2 ^ 64) c.five.ensures ∙ ap (λ (x : ℕ). x % 2 ^ 64) (sym (tens c.args.k)) ∙ mod-eq_of_lt
    (tens_small c.args.k c.requires)
