-- Where no `a` stands the word `addrspace` does not stand either, so the answer is the cursor; else it is that of `addrspace`.
use Rattle.type_leaves.proofs.LeafLaws.{anew_is, not_addrspace}
use Rattle.type_leaves.proofs.opt_addrspace.Goals as goal

pub returns-then-looks : goal.returns-then-looks
returns-then-looks c = anew_is c.anew.ensures c.addrspace-q.ensures

pub returns : goal.returns
returns c = not_addrspace c.looks.ensures c.if-looks.false
