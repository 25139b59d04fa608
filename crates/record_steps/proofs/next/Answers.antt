-- The place behind the node is its own and its extent; a sum that wraps is behind every end.
use mathlib.Core.Path.{◌≡◌}
use Prim.Native.Nat.{◌+◌, ◌%◌}
use native.Mathlib.Omega.{arith}
use Rattle.records.specs.Limits.{half_limit}
use borrow.Author.Tests.{lt-ltb, le-ltb}
use Rattle.trees.specs.Steps.{next_of}
use Rattle.record_steps.proofs.next.Goals as goal

pub returns-then-not-is_header : goal.returns-then-not-is_header
unfolding next_of
returns-then-not-is_header c =
    simp
    (next_of, ← c.word_at-header.ensures, ← c.is_header.ensures, c.if-not-is_header.true)

pub returns-in_err-behind : goal.returns-in_err-behind
unfolding next_of
returns-in_err-behind c =
    simp
    (next_of, ← c.word_at-header.ensures, ← c.is_header.ensures, c.if-not-is_header.false, le-ltb (c.args.at + c.word_at-header.result % half_limit) c.args.end (omega (arith, c.in_err-behind.ensures)), c.from_residual.ensures)

pub returns-then-behind-end : goal.returns-then-behind-end
unfolding next_of
returns-then-behind-end c =
    let sum : c.in_ok-behind.behind ≡ c.args.at + c.word_at-header.result % half_limit = omega (arith, c.in_ok-behind.ensures) in
    let there = rw sum at c.step_to.ensures in
    simp
    (next_of, ← c.word_at-header.ensures, ← c.is_header.ensures, c.if-not-is_header.false, lt-ltb (c.args.at + c.word_at-header.result % half_limit) c.args.end (omega (arith, c.in_ok-behind.ensures)), ← there)

pub returns : goal.returns
unfolding next_of
returns c =
    simp
    (next_of, ← c.word_at-header.ensures, ← c.is_header.ensures, c.if-not-is_header.false, le-ltb (c.args.at + c.word_at-header.result % half_limit) c.args.end (omega (arith, c.in_ok-behind.ensures)))
