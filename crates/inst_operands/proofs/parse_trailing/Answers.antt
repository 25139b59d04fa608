use Rattle.std.proofs.lemmas.Bool.{not-false, not-true}
use Rattle.grammar.specs.Instructions.{clauses_in, parse_trailing}
use Rattle.lexer.proofs.Laws.{g_done, g_stay, g_on, g_then, g_more, g_no_more}
use Rattle.inst_operands.specs.Trailing.{align_of, trailing}
use Rattle.inst_operands.proofs.parse_trailing.Goals as goal

pub loop-left-init : goal.loop-left-init
unfolding align_of
loop-left-init c = g_stay

pub loop-left-preserved : goal.loop-left-preserved
loop-left-preserved c =
    g_on c.loop-left.invariant
    (g_more (λ u. trailing u (align_of c.loop-left.align)) c.loop-left._left c.loop-left-test.true
    (c.trail_step-s.ensures.again (not-false _ c.if-not-s.false) _))

pub returns-then-not-s : goal.returns-then-not-s
unfolding parse_trailing
returns-then-not-s c =
    g_then _
    (g_on c.loop-left.invariant
    (g_more (λ u. trailing u (align_of c.loop-left.align)) c.loop-left._left c.loop-left-test.true
    (c.trail_step-s.ensures.over (not-true _ c.if-not-s.true) _)))
    g_done

pub returns : goal.returns
unfolding parse_trailing clauses_in
returns c =
    g_then _
    (g_on c.loop-left.invariant
    (g_no_more (λ u. trailing u
    (align_of c.loop-left.align)) c.loop-left._left c.loop-left-test.false g_done))
    g_done
