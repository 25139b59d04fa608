use mathlib.Core.Path.{sym, ◌∙◌}
use Rattle.lexer_keywords.proofs.Ranks.{lead_more, lead_stop, lead_out, lead_end}
use Rattle.lexer_keywords.proofs.word_end.Goals as goal

pub returns-then-class-gt-WORD : goal.returns-then-class-gt-WORD
returns-then-class-gt-WORD c =
    sym
    (c.loop-i.invariant ∙ lead_stop _ _ _ c.loop-i-test.true c.class.ensures c.if-class-gt-WORD.true)

pub loop-i-preserved : goal.loop-i-preserved
loop-i-preserved c = c.loop-i.invariant ∙ lead_more _ _ _ c.loop-i-test.true c.class.ensures c.if-class-gt-WORD.false

pub returns : goal.returns
returns c =
    let e = c.loop-i.invariant ∙ lead_out _ _ c.loop-i-test.false in
    lead_end _ c.loop-i.auto.i c.loop-i-test.false c.max.ensures e ∙ sym e
