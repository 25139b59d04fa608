-- The value, or its two's complement of 128 bits.
use mathlib.Core.Path.{◌≡◌, ◌∙◌}
use native.Mathlib.Omega.{arith}
use Rattle.grammar.specs.Numbers.{twos}
use Rattle.number_numerals.proofs.NumeralLaws.{twos_minus, twos_plus}
use Rattle.number_nodes.proofs.nodes.short_node.Goals as goal

pub returns-then-neg : goal.returns-then-neg
returns-then-neg c = λ text.
    let e : c.wrapping_neg.result ≡ twos c.args.neg c.args.v =
    twos_minus _ _ _ c.if-neg.true (omega arith) (omega arith) (rw c.from-n.ensures at c.wrapping_neg.ensures) in
    rw e at (c.int_node.ensures text)

pub returns : goal.returns
returns c = λ text.
    let e : c.from-n.result ≡ twos c.args.neg c.args.v = c.from-n.ensures ∙ twos_plus _ _ c.if-neg.false in
    rw e at (c.int_node-2.ensures text)
