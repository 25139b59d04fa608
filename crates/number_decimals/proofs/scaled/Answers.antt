use mathlib.Core.Path.{sym}
use Prim.Native.Nat.{◌+◌, ◌*◌, ◌<◌}
use native.Mathlib.Nat.{mul-one}
use native.Mathlib.Omega.{arith}
use borrow.Author.Rules.{rules}
use Rattle.number_decimals.proofs.Bits.{few_bits, next_bit}
use Rattle.number_decimals.proofs.scaled.Goals as goal

few : (c : goal.After-doubled-parts) → c.loop-parts.n < 104
few c =
    let l = c.loop-parts in
    few_bits (c.args.start.q * c.args.d + c.args.start.rest) c.args.d l.parts.q l.parts.rest l.n c.requires.0 l.invariant.value c.loop-parts-test.true l.invariant.left c.requires.3

pub loop-parts-init : goal.loop-parts-init
loop-parts-init c = record { value = sym (mul-one _); left = search rules; short = search rules; few = search rules }

pub loop-parts-smaller : goal.loop-parts-smaller
loop-parts-smaller c = (let k = few c in omega arith)

pub loop-parts-preserved : goal.loop-parts-preserved
loop-parts-preserved c =
    let l = c.loop-parts in
    let k = few c in
    record {
      value = next_bit (c.args.start.q * c.args.d + c.args.start.rest) c.args.d l.parts.q l.parts.rest _ _ l.n l.invariant.value c.doubled-parts.ensures.value;
      left = c.doubled-parts.ensures.left;
      short = c.doubled-parts.ensures.short;
      few = omega arith;
    }

pub returns : goal.returns
returns c =
    let i = c.loop-parts.invariant in record { value = i.value; left = i.left; long = c.loop-parts-test.false; short = i.short; few = i.few }
