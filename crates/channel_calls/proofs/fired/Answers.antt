use mathlib.Core.Path.{◌≡◌, sym, ◌∙◌}
use Prim.Native.Nat.{◌+◌, ◌-◌, ◌*◌}
use native.Mathlib.Omega.{arith}
use lib.ListN.{drop}
use Rattle.records.specs.Limits.{entry_words}
use Rattle.channel_spec.specs.Fires.{word_fires}
use Rattle.channel_calls.proofs.Seeks.{blocks_turn, blocks_over, blocks_done}
use Rattle.channel_calls.proofs.fired.Goals as goal

pub loop-i-init : goal.loop-i-init
unfolding word_fires
loop-i-init c = let z : c.args.entries - 1 - 1 ≡ c.args.entries - 2 = omega arith in rw (z, c.behind_node-w.ensures)

pub returns-then-directory-i : goal.returns-then-directory-i
returns-then-directory-i c =
    sym (blocks_over c.loop-i.more (c.args.entries - 1 - c.loop-i.i) c.args.text.now (drop c.loop-i.w c.args.words.now) c.args.directory.now c.loop-i.i c.if-directory-i.true) ∙ c.loop-i.invariant

pub returns-in-Break : goal.returns-in-Break
returns-in-Break c =
    sym (blocks_turn c.loop-i.more (c.args.entries - 1 - c.loop-i.i) c.args.text.now (drop c.loop-i.w c.args.words.now) c.args.directory.now c.loop-i.i _ _ _ (omega arith) (omega arith) c.piece_text-piece.ensures c.node_at.ensures
    (sym c.seek_in.ensures ∙ c.in-Break.is)) ∙ c.loop-i.invariant

pub loop-i-preserved : goal.loop-i-preserved
loop-i-preserved c =
    let z : c.args.entries - 1 - (c.loop-i.i + 1) ≡ c.args.entries - 1 - c.loop-i.i - 1 = omega arith in
    rw (z, c.behind_node-w-in-loop-i.ensures)
    (sym (blocks_turn c.loop-i.more (c.args.entries - 1 - c.loop-i.i) c.args.text.now (drop c.loop-i.w c.args.words.now) c.args.directory.now c.loop-i.i _ _ _ (omega arith) (omega arith) c.piece_text-piece.ensures c.node_at.ensures (sym c.seek_in.ensures ∙ c.in-Continue.is)) ∙ c.loop-i.invariant)

pub returns : goal.returns
returns c =
    sym (blocks_done c.loop-i.more (c.args.entries - 1 - c.loop-i.i) c.args.text.now (drop c.loop-i.w c.args.words.now) (drop (c.loop-i.i * entry_words) c.args.directory.now) (omega arith)) ∙ c.loop-i.invariant
