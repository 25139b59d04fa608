-- The word stands in front, and the byte behind it is the tenth.
use mathlib.Core.Path.{◌≡◌, sym, ap, ◌∙◌}
use mathlib.Core.Bool.{true, not}
use mathlib.Core.List.{List}
use Prim.Native.Nat.{ℕ, ◌-◌, ◌<◌, ◌≤◌}
use native.Mathlib.Omega.{arith}
use lib.Dec.{eqb}
use lib.ListN.{length, take, drop, length-drop}
use lib.Pointwise.{pointwise}
use lib.Seq.{take_all, get_or-drop}
use borrow.Author.Tests.{le-ltb}
use Rattle.program.specs.Class.{is_word}
use Rattle.records.specs.Pieces.{addrspace}
use Rattle.reread_kept.proofs.Front.{leads_front, leads_other, leads_end, leads_none}
use Rattle.reread_kept.proofs.addrspace_at.Goals as goal

pub returns-then-not-starts_with : goal.returns-then-not-starts_with
unfolding addrspace
returns-then-not-starts_with c =
    let s : List ℕ = drop c.args.p c.args.text.now in
    let t : take (length c.args.text.now - c.args.p) s ≡ s = take_all (length c.args.text.now - c.args.p) s (omega (arith, length-drop c.args.p c.args.text.now)) in
    sym (leads_other addrspace s (rw t at (sym c.starts_with.ensures.value ∙ c.if-not-starts_with.true)))

pub returns-then-rest-gt9 : goal.returns-then-rest-gt9
unfolding addrspace
returns-then-rest-gt9 c =
    let s : List ℕ = drop c.args.p c.args.text.now in
    let t : take (length c.args.text.now - c.args.p) s ≡ s = take_all (length c.args.text.now - c.args.p) s (omega (arith, length-drop c.args.p c.args.text.now)) in
    let h : pointwise eqb addrspace (take 9 s) ≡ true = rw t at (sym c.starts_with.ensures.value ∙ c.if-not-starts_with.false) in
    let l : 9 < length s = rw t at c.if-rest-gt9.true in
    ap not (rw t at c.is_word.ensures ∙ ap is_word (sym (get_or-drop 9 s 0 0))) ∙ sym (leads_front addrspace s h ∙ leads_end (drop 9 s) (omega (arith, length-drop 9 s)))

pub returns-else-rest-gt9 : goal.returns-else-rest-gt9
unfolding addrspace
returns-else-rest-gt9 c =
    let s : List ℕ = drop c.args.p c.args.text.now in
    let t : take (length c.args.text.now - c.args.p) s ≡ s = take_all (length c.args.text.now - c.args.p) s (omega (arith, length-drop c.args.p c.args.text.now)) in
    let h : pointwise eqb addrspace (take 9 s) ≡ true = rw t at (sym c.starts_with.ensures.value ∙ c.if-not-starts_with.false) in
    let l : length s ≤ 9 = rw t at c.if-rest-gt9.false in
    le-ltb _ _ c.if-rest-gt9.false ∙ sym (leads_front addrspace s h ∙ leads_none (drop 9 s) (omega (arith, length-drop 9 s)))
