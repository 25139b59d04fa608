use mathlib.Core.Path.{◌≡◌, sym, ◌∙◌}
use Prim.Native.Nat.{◌+◌, ◌-◌, ◌*◌, max}
use native.Mathlib.Omega.{arith}
use lib.ListN.{get_or}
use Rattle.records.specs.Limits.{entry_words}
use Rattle.records.specs.Words.{lo}
use Rattle.reread_kept.proofs.Front.{none_kept, head_kept, block_out, block_word, block_addrspace, block_kept, tail_out, tail_kept, word_before, max_is}
use Rattle.reread_kept.proofs.front_count.Goals as goal

pub returns-then-a-pos : goal.returns-then-a-pos
returns-then-a-pos c = none_kept c.args.text.now c.args.entries c.args.directory.now c.requires.two c.requires.joined.inside (omega arith)

pub loop-i-init : goal.loop-i-init
loop-i-init c = rw c.entry-pos.ensures.bytes (head_kept c.args.text.now c.args.entries c.args.directory.now c.requires.two c.requires.joined.inside (omega arith))

pub overflow_sub-a : goal.overflow_sub-a
overflow_sub-a c = omega (arith, c.loop-i.invariant.below)

pub returns-then-a-pos-2 : goal.returns-then-a-pos-2
returns-then-a-pos-2 c = block_out c.args.text.now c.args.entries c.args.directory.now c.requires.two c.requires.joined.inside c.loop-i.i c.loop-i.pos c.loop-i.w c.loop-i.invariant (omega arith) (omega arith)

pub returns-then-a-w : goal.returns-then-a-w
returns-then-a-w c =
    let m : c.max.result ≡ max c.loop-i.w (c.loop-i.pos + c.entry-bytes.result.size.bytes) = c.max.ensures ∙ max_is _ _ in
    block_word c.args.text.now c.args.entries c.args.directory.now c.requires.two c.requires.joined.inside c.loop-i.i c.loop-i.pos c.loop-i.w c.loop-i.invariant (omega arith) c.word_end-w.result (rw c.entry-bytes.ensures.bytes at (word_before c.args.text.now c.loop-i.pos (c.loop-i.pos + c.entry-bytes.result.size.bytes) c.loop-i.w c.word_end-w.result (omega arith) c.loop-i.invariant.wordy (rw m at c.word_end-w.ensures))) (omega arith)

pub returns-then-addrspace_at : goal.returns-then-addrspace_at
returns-then-addrspace_at c = block_addrspace c.args.text.now c.args.entries c.args.directory.now c.requires.two c.requires.joined.inside c.loop-i.i c.loop-i.pos c.loop-i.w c.loop-i.invariant (omega arith) (rw c.entry-bytes.ensures.bytes at (sym c.addrspace_at.ensures ∙ c.if-addrspace_at.true))

pub loop-i-preserved : goal.loop-i-preserved
loop-i-preserved c =
    let m : c.max.result ≡ max c.loop-i.w (c.loop-i.pos + c.entry-bytes.result.size.bytes) = c.max.ensures ∙ max_is _ _ in
    rw c.entry-bytes.ensures.bytes
    (block_kept c.args.text.now c.args.entries c.args.directory.now c.requires.two c.requires.joined.inside c.loop-i.i c.loop-i.pos c.loop-i.w c.loop-i.invariant (omega arith) c.word_end-w.result (rw c.entry-bytes.ensures.bytes at (word_before c.args.text.now c.loop-i.pos (c.loop-i.pos + c.entry-bytes.result.size.bytes) c.loop-i.w c.word_end-w.result (omega arith) c.loop-i.invariant.wordy (rw m at c.word_end-w.ensures))) (omega arith) (rw c.entry-bytes.ensures.bytes at (sym c.addrspace_at.ensures ∙ c.if-addrspace_at.false)))

pub returns-then-a-pos-3 : goal.returns-then-a-pos-3
returns-then-a-pos-3 c =
    let e : c.loop-i.i ≡ c.args.entries - 1 = omega arith in
    let t : c.entry-tail.result.size.bytes ≡ lo (get_or c.args.directory.now (c.loop-i.i * entry_words) 0) = rw e c.entry-tail.ensures.bytes in
    rw (← e) (tail_out c.args.text.now c.args.entries c.args.directory.now c.requires.two c.requires.joined.inside c.loop-i.i c.loop-i.pos c.loop-i.w c.loop-i.invariant (omega arith) (omega arith))

pub returns : goal.returns
returns c =
    let e : c.loop-i.i ≡ c.args.entries - 1 = omega arith in
    let t : c.entry-tail.result.size.bytes ≡ lo (get_or c.args.directory.now (c.loop-i.i * entry_words) 0) = rw e c.entry-tail.ensures.bytes in
    let n : c.args.entries ≡ c.loop-i.i + 1 = omega arith in
    n ∙ tail_kept c.args.text.now c.args.entries c.args.directory.now c.requires.two c.requires.joined.inside c.loop-i.i c.loop-i.pos c.loop-i.w c.loop-i.invariant (omega arith) (omega arith)
