-- Where all three cursors are there the words between the first two are copied behind the third; where one was refused nothing is held, so nothing
-- is asked.
use Rattle.inst_calls.proofs.CopyLaws.{again_is, again_not}
use Rattle.lexer.proofs.Laws.{no_ok}
use mathlib.Core.Path.{refl, sym, ◌∙◌}
use native.Mathlib.Omega.{arith}
use Rattle.inst_calls.proofs.again.Goals as goal

pub returns-in-Ok-Ok : goal.returns-in-Ok-Ok
returns-in-Ok-Ok c =
    λ text t H. again_is _ _ _ _ _ c.in_ok-c.was c.in-Ok-Ok.is-0 c.in-Ok-Ok.is-1 c.saturating_sub-n.ensures c.copy.ensures (λ l. omega (arith, c.saturating_add-w.ensures)) H

pub returns-in_default : goal.returns-in_default
returns-in_default c =
    λ text t H. again_not refl
    (λ d i. no_ok (H.there d i).last _ _ (sym (H.there d i).to ∙ c.in_default.is-1))

pub returns-in_default-2 : goal.returns-in_default-2
returns-in_default-2 c =
    λ text t H. again_not refl
    (λ d i. no_ok (H.there d i).first _ _ (sym (H.there d i).from ∙ c.in_default.is-0))
