use mathlib.Core.Path.{◌≡◌, sym, ◌∙◌}
use native.Mathlib.Omega.{arith}
use lib.ListN.{length}
use Rattle.reread_kept.proofs.Front.{searching_first, searching_more, found, found_end}
use Rattle.reread_kept.proofs.word_end.Goals as goal

pub loop-i-init : goal.loop-i-init
loop-i-init c = searching_first c.args.text.now c.args.from c.requires

pub returns-then-not-is_word : goal.returns-then-not-is_word
returns-then-not-is_word c = found c.args.text.now c.args.from c.loop-i.i c.loop-i.invariant (sym c.is_word.ensures ∙ c.if-not-is_word.true)

pub loop-i-preserved : goal.loop-i-preserved
loop-i-preserved c = searching_more c.args.text.now c.args.from c.loop-i.i c.loop-i.invariant (omega arith) (sym c.is_word.ensures ∙ c.if-not-is_word.false)

pub returns : goal.returns
returns c =
    let e : c.loop-i.i ≡ length c.args.text.now = omega arith in
    rw e at (found_end c.args.text.now c.args.from c.loop-i.i c.loop-i.invariant (omega arith))
