use mathlib.Core.Path.{◌≡◌, refl, ◌∙◌}
use mathlib.Core.List.{[]}
use native.Mathlib.Omega.{arith}
use lib.ListN.{drop}
use Rattle.grammar.specs.Lexer.{unescape}
use Rattle.lexer_names.specs.Names.{spelled_of}
use Rattle.buffer.specs.Stored.{stored, placed}
use Rattle.buffer.specs.Laws.{went_on}
use Rattle.map_spec.specs.Drawing.{letters}
use Rattle.map_dot.proofs.quoted.put_unescaped.Goals as goal

pub loop-x-init : goal.loop-x-init
loop-x-init c = (refl, refl, refl)

pub loop-x-smaller : goal.loop-x-smaller
loop-x-smaller c = omega (arith, c.in-Some.ensures.on, c.in-Some.ensures.within)

pub loop-x-preserved : goal.loop-x-preserved
unfolding spelled_of letters
loop-x-preserved c =
    let e : unescape 0 0 (drop c.loop-x.i c.args.inner.now) ≡ _ = c.in-Some.ensures.some in
    let w = went_on (letters (unescape 0 0 (drop c.in-Some.x.next c.args.inner.now))) c.put_letter-k.ensures (rw e at c.loop-x.invariant.0) (rw e at c.loop-x.invariant.1) in
    (w.0, w.1, c.put_letter-k.auto.out ∙ c.loop-x.invariant.2)

pub returns : goal.returns
unfolding spelled_of letters placed stored
returns c =
    let e : unescape 0 0 (drop c.loop-x.i c.args.inner.now) ≡ [] = c.in_default.ensures in
    record { place = rw e at c.loop-x.invariant.0; buffer = rw e at c.loop-x.invariant.1 }
