-- The word at the cursor ends where `word_end` says, so its rank is that of the bytes up to there.
use mathlib.Core.Path.{refl, sym}
use Rattle.lexer_keywords.proofs.Ranks.{ranks_in, ranks_out, words_length}
use Rattle.lexer_keywords.proofs.match_rank.Goals as goal

pub returns-then-r-table : goal.returns-then-r-table
returns-then-r-table c =
    rw c.in-Ok.is
    (ranks_in _ _ _ _ _ c.word_end-i.ensures c.rank_of-r.ensures c.if-r-table.true)

pub returns-else-r-table : goal.returns-else-r-table
returns-else-r-table c =
    rw c.in-Ok.is
    (ranks_out _ _ _ c.word_end-i.result _ c.word_end-i.ensures c.rank_of-r.ensures c.if-r-table.false)

pub returns-in-Err : goal.returns-in-Err
returns-in-Err c =
    rw c.in-Err.is (sym (words_length c.args.table.now), refl)
