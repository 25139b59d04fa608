use mathlib.Core.Path.{◌≡◌, refl, ◌∙◌}
use Prim.Native.Nat.{◌+◌}
use native.Mathlib.Omega.{arith}
use lib.ListN.{get_or, length-set}
use Rattle.inst_calls.specs.Copy.{copied}
use Rattle.inst_calls.proofs.CopyLaws.{copied_more, copied_out}
use Rattle.inst_calls.proofs.copy.Goals as goal

pub returns-then-to-from : goal.returns-then-to-from
returns-then-to-from c = λ h. absurd (omega arith)

pub loop-k-init : goal.loop-k-init
unfolding copied
loop-k-init c = (omega arith, refl, refl)

pub shape_of-words-then-room-k : goal.shape_of-words-then-room-k
shape_of-words-then-room-k c = c.loop-k.invariant.2

pub returns-then-room-k : goal.returns-then-room-k
returns-then-room-k c =
    λ h. c.loop-k.invariant.1 ∙ copied_out _ _ _ _ _ c.loop-k.invariant.0
    (omega (arith, c.saturating_sub-room.ensures))

pub loop-k-preserved : goal.loop-k-preserved
loop-k-preserved c = (
  omega arith,
  rw c.loop-k.invariant.1 (copied_more c.loop-k.k c.args.from c.args.to c.args.words.now),
  length-set c.loop-k.words (c.args.to + c.loop-k.k) (get_or c.loop-k.words (c.args.from + c.loop-k.k) 0) ∙ c.loop-k.invariant.2,
)

pub shape_of-words : goal.shape_of-words
shape_of-words c = c.loop-k.invariant.2

pub returns : goal.returns
returns c = λ h. let e : c.loop-k.k ≡ c.args.n = omega arith in rw (← e) c.loop-k.invariant.1
