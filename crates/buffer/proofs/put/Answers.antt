-- To store behind the end changes nothing, and past all that a text may have nothing is stored.
use mathlib.Core.Path.{sym, ◌∙◌}
use native.Mathlib.Omega.{arith}
use lib.Seq.{set_out}
use Rattle.buffer.specs.Laws.{below, over, with_below, with_over}
use Rattle.buffer.proofs.put.Goals as goal
use Rattle.buffer.proofs.put.Goals.{then-at-out, else-at-out}

pub returns-then-at-ge-TEXT_LIMIT : goal.returns-then-at-ge-TEXT_LIMIT
returns-then-at-ge-TEXT_LIMIT c = (sym (over _ c.if-at-ge-TEXT_LIMIT.true), sym (with_over _ _ _ c.if-at-ge-TEXT_LIMIT.true))

pub returns : goal.returns
returns c = (
  omega (arith, below c.args.at c.if-at-ge-TEXT_LIMIT.false),
  elim c.if-at-out.branch [
    | then-at-out w ↦ w.out-is ∙ sym (with_below _ _ _ c.if-at-ge-TEXT_LIMIT.false)
    | else-at-out w ↦ w.out-is ∙ sym (with_below _ _ _ c.if-at-ge-TEXT_LIMIT.false ∙ set_out _ _ _ w.if-at-out.false)
  ],
)
