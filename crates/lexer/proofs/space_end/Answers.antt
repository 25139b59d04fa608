-- Behind white space alone the automaton is in its first state, so it goes on from there as from `at`.
use mathlib.Core.Path.{sym, ◌∙◌}
use Rattle.grammar.specs.Lexer.{space_step}
use Rattle.lexer.proofs.Scan.{scan_out, end_at, space_more, space_stop}
use Rattle.lexer.proofs.space_end.Goals as goal

pub returns-then-b-eq59 : goal.returns-then-b-eq59
returns-then-b-eq59 c = sym (c.loop-i.invariant ∙ sym ((c.scan_text.ensures space_step (λ q b r l h e. e)).place))

pub returns-then-class-ne-SPACE : goal.returns-then-class-ne-SPACE
returns-then-class-ne-SPACE c =
    sym
    (c.loop-i.invariant ∙ space_stop _ _ _ c.loop-i-test.true c.class.ensures c.if-class-ne-SPACE.true c.if-b-eq59.false)

pub loop-i-preserved : goal.loop-i-preserved
loop-i-preserved c = c.loop-i.invariant ∙ space_more _ _ _ c.loop-i-test.true c.class.ensures c.if-class-ne-SPACE.false

pub returns : goal.returns
returns c =
    let e : _ = c.loop-i.invariant ∙ scan_out space_step _ _ _ c.loop-i-test.false in
    end_at space_step 0 _ c.loop-i.auto.i c.loop-i-test.false c.max.ensures e ∙ sym e
