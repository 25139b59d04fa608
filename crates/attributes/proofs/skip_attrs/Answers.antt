use Rattle.std.proofs.lemmas.Bool.{not-false, not-true}
use Rattle.grammar.specs.Attributes.{skip_attrs_in, skip_attrs}
use Rattle.lexer.proofs.Laws.{g_done, g_stay, g_on, g_more, g_no_more}
use Rattle.attributes.proofs.skip_attrs.Goals as goal

pub loop-left-init : goal.loop-left-init
loop-left-init c = g_stay

pub loop-left-preserved : goal.loop-left-preserved
loop-left-preserved c =
    g_on c.loop-left.invariant
    (g_more skip_attrs_in c.loop-left._left c.loop-left-test.true
    (c.attr_step-s.ensures.again (not-false _ c.if-not-s.false) _))

pub returns-then-not-s : goal.returns-then-not-s
unfolding skip_attrs
returns-then-not-s c =
    g_on c.loop-left.invariant
    (g_more skip_attrs_in c.loop-left._left c.loop-left-test.true
    (c.attr_step-s.ensures.over (not-true _ c.if-not-s.true) _))

pub returns : goal.returns
unfolding skip_attrs skip_attrs_in
returns c =
    g_on c.loop-left.invariant
    (g_no_more skip_attrs_in c.loop-left._left c.loop-left-test.false g_done)
