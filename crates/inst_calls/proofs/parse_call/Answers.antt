-- It is the call's node; whether it is void does not matter here.
use Rattle.inst_calls.proofs.parse_call.Goals as goal

pub shape_of-words : goal.shape_of-words
shape_of-words c = c.call_node.auto.words

pub returns : goal.returns
returns c = c.call_node.ensures.0
