-- The count is tested against the limit as in the definition: below it the label's slot is the word behind the header's, at it and past it the
-- answer is 19, at the place that the definition names.
use mathlib.Core.Path.{refl}
use mathlib.Core.List.{[], ◌∷◌}
use Rattle.node_words.proofs.Laws.{patch_then, close_then}
use Rattle.lexer.proofs.Laws.{fail_at, fail_is, done, turn}
use Rattle.piece_close.proofs.FinishLaws.{finish_in, finish_over, finish_full}
use Rattle.piece_close.proofs.finish_block.Goals as goal

pub returns-then-n-lt-CHILDREN : goal.returns-then-n-lt-CHILDREN
returns-then-n-lt-CHILDREN c =
    λ d text acc term. turn (finish_in _ _ _ _ _ _ c.if-n-lt-CHILDREN.true)
    (patch_then 1 _ (0 ∷ []) 0 _ refl c.patch-p1.ensures (close_then _ _ _ _ c.close.ensures done))

pub returns-then-n-gt-CHILDREN : goal.returns-then-n-gt-CHILDREN
returns-then-n-gt-CHILDREN c = λ d text acc term. turn (finish_over _ _ _ _ _ _ c.if-n-gt-CHILDREN.true) (fail_at _ _ c.refuse_at.ensures)

pub returns : goal.returns
returns c = λ d text acc term. turn (finish_full _ _ _ _ _ _ c.if-n-lt-CHILDREN.false c.if-n-gt-CHILDREN.false) (fail_is _ c.refuse.ensures)
