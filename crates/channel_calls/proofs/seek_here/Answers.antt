-- The tests of the code are those of the definition, in its order.
use mathlib.Core.Path.{sym, ap, ◌∙◌}
use native.Mathlib.Omega.{arith}
use Rattle.std.specs.declared.ops.ControlFlow.TheVariants.{Break}
use Rattle.channel_calls.proofs.Nodes.{callee_small}
use Rattle.channel_calls.proofs.Seeks.{not_call, not_fire, fire_passed, fire_found}
use Rattle.channel_calls.proofs.seek_here.Goals as goal

pub returns-then-kind_in-ne-K_CALL : goal.returns-then-kind_in-ne-K_CALL
returns-then-kind_in-ne-K_CALL c =
    not_call c.args.k c.args.piece.now c.args.node.now _ c.word_at-header.ensures
    (λ z. c.if-kind_in-ne-K_CALL.true (c.kind_in.ensures ∙ z))

pub returns-then-not-calls_fire_at : goal.returns-then-not-calls_fire_at
returns-then-not-calls_fire_at c =
    not_fire c.args.k c.args.piece.now c.args.node.now _ c.word_at-header.ensures (sym c.kind_in.ensures ∙ c.if-kind_in-ne-K_CALL.false)
    (rw (← c.detail_in.ensures, ← c.callee_place-callee.ensures, ← c.child_at.ensures, ← c.calls_fire_at.ensures) (c.if-not-calls_fire_at.true))

pub returns-then-k-gt0 : goal.returns-then-k-gt0
returns-then-k-gt0 c =
    fire_passed c.args.k c.args.piece.now c.args.node.now _ c.word_at-header.ensures (sym c.kind_in.ensures ∙ c.if-kind_in-ne-K_CALL.false)
    (rw (← c.detail_in.ensures, ← c.callee_place-callee.ensures, ← c.child_at.ensures, ← c.calls_fire_at.ensures) (c.if-not-calls_fire_at.false))
    c.if-k-gt0.true

pub overflow_add-callee : goal.overflow_add-callee
overflow_add-callee c =
    record {
      fits = omega
          (arith, c.callee_place-callee.ensures, callee_small c.detail_in.result);
    }

pub returns : goal.returns
returns c =
    ap Break (c.constant_at.ensures ∙ rw (c.child_at-2.ensures, c.callee_place-callee.ensures, c.detail_in.ensures))
    ∙ fire_found c.args.k c.args.piece.now c.args.node.now _ c.word_at-header.ensures (sym c.kind_in.ensures ∙ c.if-kind_in-ne-K_CALL.false)
    (rw (← c.detail_in.ensures, ← c.callee_place-callee.ensures, ← c.child_at.ensures, ← c.calls_fire_at.ensures) (c.if-not-calls_fire_at.false))
    c.if-k-gt0.false
