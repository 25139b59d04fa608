use Rattle.std.proofs.lemmas.Bool.{not-false, not-true}
use Rattle.grammar.specs.Values.{parse_gep_flags}
use Rattle.lexer.proofs.Laws.{g_done, g_stay, g_on, g_more, g_no_more}
use Rattle.value_leaves.proofs.parse_gep_flags.Goals as goal

pub loop-left-init : goal.loop-left-init
loop-left-init c = g_stay

pub loop-left-preserved : goal.loop-left-preserved
loop-left-preserved c =
    g_on c.loop-left.invariant
    (g_more (λ u. parse_gep_flags u c.loop-left.v) c.loop-left._left c.loop-left-test.true
    (c.gep_flag-f.ensures.again (not-false _ c.if-not-f.false) _))

pub returns-then-not-f : goal.returns-then-not-f
returns-then-not-f c =
    g_on c.loop-left.invariant
    (g_more (λ u. parse_gep_flags u c.loop-left.v) c.loop-left._left c.loop-left-test.true
    (c.gep_flag-f.ensures.over (not-true _ c.if-not-f.true) _))

pub returns : goal.returns
unfolding parse_gep_flags
returns c =
    g_on c.loop-left.invariant
    (g_no_more (λ u. parse_gep_flags u c.loop-left.v) c.loop-left._left c.loop-left-test.false g_done)
