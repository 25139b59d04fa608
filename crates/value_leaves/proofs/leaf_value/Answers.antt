-- The answer is that of `any_leaf`, made anew.
use Rattle.value_leaves.proofs.LeafLaws.{tried_anew}
use Rattle.value_leaves.proofs.leaf_value.Goals as goal

pub returns-in-Some : goal.returns-in-Some
returns-in-Some c = tried_anew c.anew.ensures c.in-Some.ensures
