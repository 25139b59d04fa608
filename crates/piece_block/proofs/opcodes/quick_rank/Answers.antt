-- A word that spells the likely one has its rank, which the caller gives. Else a rank is at most the table's length, and fits a byte in so short a table.
use Rattle.std.proofs.Common.{MatchOption, arith}
use Rattle.std.specs.Prelude.{⊤}
use mathlib.Core.Path.{◌≡◌, subst, sym}
use Prim.Native.Nat.{ℕ, ◌<◌}
use lib.ListN.{length-map}
use Rattle.grammar.specs.Lexer.{rank}
use Rattle.lexer.specs.Table.{keywords_of}
use Rattle.piece_block.proofs.OpcodeLaws.{rank_small}
use Rattle.piece_block.proofs.StatementLaws.{rank_same}
use Rattle.piece_block.proofs.opcodes.quick_rank.Goals as goal

pub overflow_cast-result : goal.overflow_cast-result
overflow_cast-result c =
    let s = rank_small _ _ c.spelled_rank.ensures (subst (λ (n : ℕ). n < 256) (sym (length-map c.args.table.now _)) c.requires.short) in
    omega arith

pub returns-in-Some : goal.returns-in-Some
returns-in-Some c =
    rank_same _ _ _ (subst (λ o. MatchOption o ⊤ (λ l. l.1 ≡ rank l.0.now (keywords_of c.args.table.now))) c.in-Some.is c.requires.ranked) c.spells.ensures c.if-spells.true
