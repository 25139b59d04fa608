-- The part lies inside the piece, so that it can be cut out of it.
use native.Mathlib.Omega.{arith}
use Rattle.record_steps.proofs.NameLaws.{inside_piece, text_there, no_text}
use Rattle.record_steps.proofs.names.text_in.Goals as goal

pub overflow_add-end : goal.overflow_add-end
overflow_add-end c =
    record {
      fits = omega
          (arith, inside_piece c.args.piece.now _ _ c.part.ensures _ c.in-Some.is);
    }

pub slice_bounds-result-end : goal.slice_bounds-result-end
slice_bounds-result-end c =
    omega
    (arith, inside_piece c.args.piece.now _ _ c.part.ensures _ c.in-Some.is)

pub returns-in-Some : goal.returns-in-Some
returns-in-Some c = text_there c.args.piece.now _ _ c.part.ensures _ c.in-Some.is

pub returns-in-None : goal.returns-in-None
returns-in-None c = no_text c.args.piece.now _ _ c.part.ensures c.in-None.is
