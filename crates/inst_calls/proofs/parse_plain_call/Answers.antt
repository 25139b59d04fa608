-- What comes behind the call is known by its type, and the call itself is read as any other.
use mathlib.Core.Path.{refl, subst}
use Rattle.inst_calls.specs.Void.{Voids}
use Rattle.inst_calls.proofs.VoidLaws.{plain_call, behind_void, behind_next}
use Rattle.inst_calls.proofs.parse_plain_call.Goals as goal

pub shape_of-words-then-r : goal.shape_of-words-then-r
shape_of-words-then-r c = c.call_node-r.auto.words

pub returns-then-r : goal.returns-then-r
returns-then-r c = plain_call _ _ (subst (Voids _ _) c.if-r.true (c.call_node-r.ensures.1 refl)) c.call_node-r.ensures.0 (λ ws. behind_void _)

pub shape_of-words : goal.shape_of-words
shape_of-words c = c.call_node-r.auto.words

pub returns : goal.returns
returns c = plain_call _ _ (subst (Voids _ _) c.if-r.false (c.call_node-r.ensures.1 refl)) c.call_node-r.ensures.0
    (λ ws. behind_next _ _ _ c.place.ensures (c.take_next.ensures _))
