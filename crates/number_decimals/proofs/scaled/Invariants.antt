-- Each turn gives a bit more of the quotient. The invariant: q times d and what is left are the number with n more bits. While q is below 2^52,
-- those are below 2^104, and so n is below 104.
-- Assumes nothing.
use mathlib.Core.Path.{◌≡◌}
use Prim.Native.Nat.{◌+◌, ◌-◌, ◌*◌, ◌^◌, ◌<◌, ◌≤◌}
use Rattle.number_decimals.proofs.scaled.Given as goal

abbrev pub invariant-loop-parts : goal.invariant-loop-parts
invariant-loop-parts l =
    record {
      value : l.parts.q * l.d + l.parts.rest ≡ (l.fn.start.q * l.d + l.fn.start.rest) * 2 ^ l.n;
      left : l.parts.rest < l.d;
      short : l.parts.q < 2 ^ 53;
      few : l.n ≤ 104;
    }

abbrev pub decreases-loop-parts : goal.decreases-loop-parts
decreases-loop-parts l = 104 - l.n
