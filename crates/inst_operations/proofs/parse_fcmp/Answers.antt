-- The code's calls are the definition's steps in the same order; the predicate's rank is kept for the header, which is written last.
use borrow.Author.Rules.{rules}
use mathlib.Core.Path.{refl}
use Rattle.lexer.proofs.Laws.{val, handed_on}
use Rattle.node_words.proofs.Laws.{begin_then}
use Rattle.grammar.specs.Instructions.{parse_fcmp, fcmp_preds}
use Rattle.inst_operations.proofs.parse_fcmp.Goals as goal

pub returns-in_err-c : goal.returns-in_err-c
unfolding parse_fcmp fcmp_preds
returns-in_err-c c =
    begin_then _ c.begin-q.ensures
    (val _ c.skip_fast_math_flags-q1.ensures
    (val _ (c.in_err-c.ensures 0)
    (handed_on refl (search rules))))

pub returns : goal.returns
unfolding parse_fcmp fcmp_preds
returns c =
    begin_then _ c.begin-q.ensures
    (val _ c.skip_fast_math_flags-q1.ensures
    (val _ c.in_ok-c.ensures
    (c.binary.ensures _)))
