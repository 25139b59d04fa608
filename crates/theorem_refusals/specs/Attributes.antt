-- Each program that drops attributes refuses inside the text.
-- Assumes nothing.
use Rattle.std.specs.Prelude.{ℕ, zero, suc, ◌≤◌, Bool, true, false, eqb}
use Rattle.std.proofs.Common.{arith}
use Rattle.program.specs.Choice.{pick}
use Rattle.program.specs.Prog.{Prog}
use Rattle.records.specs.Limits.{turns}
use Rattle.records.specs.Details.{no_linkage}
use Rattle.grammar.specs.Attributes.{linkages, arith_flags, fast_math_flags, dead_on_return, attr_parens, skip_attrs_in, skip_attrs, parse_linkage, skip_call_cconv, skip_arith_flags, skip_fast_math_flags}
use Rattle.theorem_refusals.specs.Inside.{Scope, Inside, gives, scans, Any, then, done}
use Rattle.theorem_refusals.specs.Lexer.{in_refuse, in_eat_ws, in_byte_if, in_byte_at_if, in_word_if, in_rank_if, in_skip_all, in_skip_parens}
use Rattle.theorem_refusals.specs.Numbers.{in_parse_int}

in_pick : {n : Scope} (t : Bool) {f g : Prog (Unit {0})} → Inside n Any f → Inside n Any g → Inside n Any (pick t f g)
in_pick true h k = h
in_pick false h k = k

in_attr_parens : {n : Scope} (r : ℕ) → Inside n Any (attr_parens r)
unfolding attr_parens
in_attr_parens r = in_pick (eqb r dead_on_return) (then in_eat_ws λ _. in_byte_at_if 40 in_skip_parens done) in_skip_parens

in_skip_attrs_in : {n : Scope} (u : ℕ) → Inside n Any (skip_attrs_in u)
unfolding skip_attrs_in
in_skip_attrs_in zero = done
in_skip_attrs_in (suc u) =
    then in_eat_ws λ _.
    in_byte_if _ (scans λ w. in_skip_attrs_in u)
    (in_byte_at_if 34 (in_refuse 18 tt)
    (in_rank_if _ (λ r _. then (in_attr_parens r) λ _. in_skip_attrs_in u)
    (in_word_if _ (then in_eat_ws λ _. then (in_parse_int _ _) λ _. in_skip_attrs_in u)
    (in_rank_if _ (λ r _. in_skip_attrs_in u) done))))

pub in_skip_attrs : {n : Scope} → Inside n Any skip_attrs
unfolding skip_attrs
in_skip_attrs = in_skip_attrs_in turns

pub in_parse_linkage : {n : Scope} → Inside n (λ r. r ≤ no_linkage) parse_linkage
unfolding parse_linkage linkages
in_parse_linkage = then in_eat_ws λ _. in_rank_if linkages (λ r l. gives (omega arith)) (gives (omega arith))

pub in_skip_call_cconv : {n : Scope} → Inside n Any skip_call_cconv
unfolding skip_call_cconv
in_skip_call_cconv =
    then in_eat_ws λ _.
    in_rank_if _ (λ r _. done)
    (in_word_if _ (then in_eat_ws λ _. then (in_parse_int _ _) λ _. done) done)

pub in_skip_arith_flags : {n : Scope} → Inside n Any skip_arith_flags
unfolding skip_arith_flags
in_skip_arith_flags = in_skip_all turns arith_flags

pub in_skip_fast_math_flags : {n : Scope} → Inside n Any skip_fast_math_flags
unfolding skip_fast_math_flags
in_skip_fast_math_flags = in_skip_all turns fast_math_flags
