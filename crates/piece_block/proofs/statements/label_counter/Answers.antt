-- Behind an instruction no label may stand; before the first its name is judged.
use Rattle.piece_block.proofs.StatementLaws.{labelled_first, labelled_late}
use Rattle.piece_block.proofs.statements.label_counter.Goals as goal

pub returns-then-b-eq0 : goal.returns-then-b-eq0
returns-then-b-eq0 c = labelled_first _ _ _ _ _ c.if-b-eq0.true c.name_counter.ensures

pub returns : goal.returns
returns c = labelled_late _ _ _ _ _ c.if-b-eq0.false c.refuse_at-q.ensures
