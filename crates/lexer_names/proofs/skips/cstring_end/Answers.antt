-- What stands for itself leaves the automaton in state 0; a byte that is no digit behind a `\`, or two digits, bring it there again.
use mathlib.Core.Path.{sym, ◌∙◌}
use native.Mathlib.Omega.{arith}
use Rattle.lexer.proofs.Scan.{going_start, passed_none, passed_some}
use Rattle.lexer_names.proofs.Strings.{between, between_stops, escape_0, escape_1, escape_2, digit_none, step_none}
use Rattle.lexer_names.proofs.skips.cstring_end.Goals as goal

pub loop-at-init : goal.loop-at-init
loop-at-init c = between _ _ _ _ (going_start _ _ _) c.plain_end-i.ensures

pub overflow_add-i : goal.overflow_add-i
overflow_add-i c =
    let a = escape_0 _ _ _ (sym c.at_byte.ensures ∙ c.loop-at-test.true) c.loop-at.invariant in
    omega (arith, a.0)

pub overflow_add-result : goal.overflow_add-result
overflow_add-result c =
    let a = escape_0 _ _ _ (sym c.at_byte.ensures ∙ c.loop-at-test.true) c.loop-at.invariant in
    omega (arith, a.0)

pub returns-in-None : goal.returns-in-None
returns-in-None c =
    let a = escape_0 _ _ _ (sym c.at_byte.ensures ∙ c.loop-at-test.true) c.loop-at.invariant in
    step_none _ _ _ _ _ a.1 (passed_none c.in-None.ensures)

pub overflow_add-i-in-Some-eq0 : goal.overflow_add-i-in-Some-eq0
overflow_add-i-in-Some-eq0 c =
    let a = escape_1 _ _ _ (sym c.at_byte.ensures ∙ c.loop-at-test.true) c.loop-at.invariant _ (passed_some c.in-Some-eq0.ensures) in
    omega (arith, a.0)

pub loop-at-smaller-in-Some-eq0 : goal.loop-at-smaller-in-Some-eq0
loop-at-smaller-in-Some-eq0 c =
    let a = escape_1 _ _ _ (sym c.at_byte.ensures ∙ c.loop-at-test.true) c.loop-at.invariant _ (passed_some c.in-Some-eq0.ensures) in
    omega (arith, a.0, c.plain_end-i-in-Some-eq0.ensures)

pub loop-at-preserved-in-Some-eq0 : goal.loop-at-preserved-in-Some-eq0
loop-at-preserved-in-Some-eq0 c =
    let a = escape_1 _ _ _ (sym c.at_byte.ensures ∙ c.loop-at-test.true) c.loop-at.invariant _ (passed_some c.in-Some-eq0.ensures) in
    between _ _ _ _ (rw c.in-Some-eq0.field-0-test at a.1) c.plain_end-i-in-Some-eq0.ensures

pub overflow_add-i-in-Some : goal.overflow_add-i-in-Some
overflow_add-i-in-Some c =
    let a = escape_1 _ _ _ (sym c.at_byte.ensures ∙ c.loop-at-test.true) c.loop-at.invariant _ (passed_some c.in-Some.ensures) in
    omega (arith, a.0)

pub overflow_add-result-in-None-step_at : goal.overflow_add-result-in-None-step_at
overflow_add-result-in-None-step_at c =
    let a = escape_1 _ _ _ (sym c.at_byte.ensures ∙ c.loop-at-test.true) c.loop-at.invariant _ (passed_some c.in-Some.ensures) in
    omega (arith, a.0)

pub returns-in-None-step_at : goal.returns-in-None-step_at
returns-in-None-step_at c = digit_none _ _ _ (sym c.at_byte.ensures ∙ c.loop-at-test.true) c.loop-at.invariant _ (passed_some c.in-Some.ensures) c.in-Some.field-0-test.1 (passed_none c.in-None-step_at.ensures)

pub overflow_add-i-in-Some-step_at : goal.overflow_add-i-in-Some-step_at
overflow_add-i-in-Some-step_at c =
    let a = escape_2 _ _ _ (sym c.at_byte.ensures ∙ c.loop-at-test.true) c.loop-at.invariant _ (passed_some c.in-Some.ensures) c.in-Some.field-0-test.1 _ (passed_some c.in-Some-step_at.ensures) in
    omega (arith, a.0)

pub loop-at-smaller : goal.loop-at-smaller
loop-at-smaller c =
    let a = escape_2 _ _ _ (sym c.at_byte.ensures ∙ c.loop-at-test.true) c.loop-at.invariant _ (passed_some c.in-Some.ensures) c.in-Some.field-0-test.1 _ (passed_some c.in-Some-step_at.ensures) in
    omega (arith, a.0, c.plain_end-i-in-Some-step_at.ensures)

pub loop-at-preserved : goal.loop-at-preserved
loop-at-preserved c =
    let a = escape_2 _ _ _ (sym c.at_byte.ensures ∙ c.loop-at-test.true) c.loop-at.invariant _ (passed_some c.in-Some.ensures) c.in-Some.field-0-test.1 _ (passed_some c.in-Some-step_at.ensures) in
    between _ _ _ _ a.1 c.plain_end-i-in-Some-step_at.ensures

pub returns : goal.returns
returns c = between_stops _ _ _ (sym c.at_byte.ensures ∙ c.loop-at-test.false) c.loop-at.invariant
