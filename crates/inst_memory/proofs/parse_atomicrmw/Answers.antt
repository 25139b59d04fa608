-- The code's calls are the definition's steps in the same order; the operation's rank is kept for the header, which is written last.
use borrow.Author.Rules.{rules}
use Rattle.inst_operands.proofs.RichLaws.{enrich, then_rich}
use Rattle.grammar.specs.Instructions.{parse_atomicrmw}
use native.Mathlib.Omega.{arith}
use Rattle.lexer.proofs.Laws.{val, spare, handed_on}
use Rattle.node_words.proofs.Laws.{begin_then}
use mathlib.Core.Path.{refl, ◌∙◌}
use Rattle.inst_memory.proofs.parse_atomicrmw.Goals as goal

pub returns-in_err-c : goal.returns-in_err-c
unfolding parse_atomicrmw
returns-in_err-c c =
    begin_then _ c.begin-q.ensures
    (val _ c.skip_keyword-q.ensures
    (val _ (c.in_err-c.ensures 0)
    (handed_on refl (search rules))))

pub shape_of-words : goal.shape_of-words
shape_of-words c =
    c.end.auto.words ∙ c.pointer_then_value-q.auto.words ∙ c.begin-q.auto.words

pub returns : goal.returns
unfolding parse_atomicrmw
returns c =
    begin_then _ c.begin-q.ensures
    (val _ c.skip_keyword-q.ensures
    (val _ c.in_ok-c.ensures
    (then_rich 0 _ {c = 1} c.pointer_then_value-q.ensures
    (λ x. val _ c.skip_atomic_ordering-q.ensures
    (enrich (spare 0 (omega arith) (c.end.ensures _)))))))
