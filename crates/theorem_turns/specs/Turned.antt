-- A program whose loops are given other numbers of turns, wherever in it they stand.
-- Assumes nothing.
use Rattle.std.specs.Prelude.{List, ℕ, ◌≤◌}
use Rattle.std.proofs.Math.Option.{Option}
use Rattle.program.specs.Prog.{Prog, look, eat, here, lead, scan, last, ◌>>=◌}
use Rattle.grammar.specs.Lexer.{skip_all}
use Rattle.grammar.specs.Attributes.{skip_attrs_in}
use Rattle.grammar.specs.Types.{TypeOut, Listed, comma_list, dots_list, suffixes}
use Rattle.grammar.specs.Values.{parse_gep_flags, gep_indices}
use Rattle.grammar.specs.Instructions.{Clauses, clauses_in, gep_inst_indices, phi_items, Cases, switch_cases}
use Rattle.grammar.specs.Counter.{Counted}
use Rattle.grammar.specs.Body.{parse_body, parse_params}
use Rattle.theorem_turns.specs.Same as Same
use Rattle.theorem_turns.specs.Lists.{Asks, Enough, same_comma_list, same_dots_list, same_parse_params, same_gep_indices, same_phi_items, same_switch_cases}
use Rattle.theorem_turns.specs.Loops.{same_skip_all, same_skip_attrs_in, same_suffixes, same_parse_gep_flags, same_clauses_in, same_gep_inst_indices, same_parse_body}

-- g is f but for numbers of turns, none of which is less than n, or for a list less than it has children.
pub data Turned (n : ℕ) : (A : Type 0) (f g : Prog A) → Type 1 where
  as_is : {A : Type 0} {f : Prog A} → Turned n A f f
  further : {A : Type 0} {f g h : Prog A} → Turned n A f g → Turned n A g h → Turned n A f h
  looks : {A : Type 0} {f g : ℕ → Prog A} → ((b : ℕ) → Turned n A (f b) (g b)) → Turned n A (look f) (look g)
  eats : {A : Type 0} {f g : Prog A} → Turned n A f g → Turned n A (eat f) (eat g)
  asks : {A : Type 0} {f g : ℕ → Prog A} → ((i : ℕ) → Turned n A (f i) (g i)) → Turned n A (here f) (here g)
  leads : {A : Type 0} {f g : List ℕ → Prog A} → ((w : List ℕ) → Turned n A (f w) (g w)) → Turned n A (lead f) (lead g)
  scans : {A : Type 0} {t : ℕ → ℕ → Option ℕ} {q : ℕ} {f g : List ℕ → Prog A} → ((w : List ℕ) → Turned n A (f w) (g w)) → Turned n A (scan t q f) (scan t q g)
  ends : {A : Type 0} {b : ℕ} {ws : List ℕ} {f g : Prog A} → Turned n A f g → Turned n A (last b ws f) (last b ws g)
  binds : {A B : Type 0} {f g : Prog A} {h k : A → Prog B} → Turned n A f g → ((a : A) → Turned n B (h a) (k a)) → Turned n B (f >>= h) (g >>= k)
  at_skip_all : (u v : ℕ) (table : List (List ℕ)) → Same.Full table → n ≤ u → n ≤ v → Turned n (Unit {0}) (skip_all u table) (skip_all v table)
  at_skip_attrs_in : (u v : ℕ) → n ≤ u → n ≤ v → Turned n (Unit {0}) (skip_attrs_in u) (skip_attrs_in v)
  at_suffixes : (u v bad : ℕ) (elem : Prog TypeOut) (t : List ℕ) → n ≤ u → n ≤ v → Turned n TypeOut (suffixes u bad elem t) (suffixes v bad elem t)
  at_parse_gep_flags : (u v inbounds : ℕ) → n ≤ u → n ≤ v → Turned n ℕ (parse_gep_flags u inbounds) (parse_gep_flags v inbounds)
  at_clauses_in : (u v : ℕ) (more : Prog (List ℕ)) (count : Option (List ℕ)) (align : List ℕ) → n ≤ u → n ≤ v → Turned n Clauses (clauses_in u more count align) (clauses_in v more count align)
  at_gep_inst_indices : (u v k : ℕ) (acc : List ℕ) → n ≤ u → n ≤ v → Turned n Listed (gep_inst_indices u k acc) (gep_inst_indices v k acc)
  at_parse_body : (u v c l k over : ℕ) (acc : List ℕ) → n ≤ u → n ≤ v → Turned n (List ℕ) (parse_body u c l k over acc) (parse_body v c l k over acc)
  at_comma_list : (u v k end m : ℕ) (elem : ℕ → Prog (List ℕ)) (acc : List ℕ) → Asks elem → 1 ≤ k → Enough m u → Enough m v → Turned n Listed (comma_list u k end elem m acc) (comma_list v k end elem m acc)
  at_dots_list : (u v k dots bad m : ℕ) (elem : ℕ → Prog (List ℕ)) (acc : List ℕ) → Asks elem → 1 ≤ k → Enough m u → Enough m v → Turned n Listed (dots_list u k dots bad elem m acc) (dots_list v k dots bad elem m acc)
  at_parse_params : (u v c m : ℕ) (acc : List ℕ) → Enough m u → Enough m v → Turned n (Counted Listed) (parse_params u c m acc) (parse_params v c m acc)
  at_gep_indices : (u v : ℕ) (type : Prog TypeOut) (value : Prog (List ℕ)) (m : ℕ) (acc : List ℕ) → Enough m u → Enough m v → Turned n Listed (gep_indices u type value m acc) (gep_indices v type value m acc)
  at_phi_items : (u v m : ℕ) (acc : List ℕ) → Enough m u → Enough m v → Turned n Listed (phi_items u m acc) (phi_items v m acc)
  at_switch_cases : (u v m : ℕ) (ints labels : List ℕ) → Enough m u → Enough m v → Turned n Cases (switch_cases u m ints labels) (switch_cases v m ints labels)

pub turned_same : {n : ℕ} {A : Type 0} {f g : Prog A} → Turned n A f g → Same.Same n f g
turned_same as_is = Same.alike
turned_same (further d e) = Same.as_well (turned_same d) (turned_same e)
turned_same (looks h) = Same.looks λ b. turned_same (h b)
turned_same (eats h) = Same.shorter (Same.eats (turned_same h))
turned_same (asks h) = Same.asks λ i. turned_same (h i)
turned_same (leads h) = Same.leads λ w. turned_same (h w)
turned_same (scans h) = Same.scans λ w. turned_same (h w)
turned_same (ends h) = Same.ends (turned_same h)
turned_same (binds d e) = Same.both (turned_same d) λ a. turned_same (e a)
turned_same {n = n} (at_skip_all u v table f a b) = same_skip_all n u v table f a b
turned_same {n = n} (at_skip_attrs_in u v a b) = same_skip_attrs_in n u v a b
turned_same {n = n} (at_suffixes u v bad elem t a b) = same_suffixes n u v bad elem t a b
turned_same {n = n} (at_parse_gep_flags u v inbounds a b) = same_parse_gep_flags n u v inbounds a b
turned_same {n = n} (at_clauses_in u v more count align a b) = same_clauses_in n u v more count align a b
turned_same {n = n} (at_gep_inst_indices u v k acc a b) = same_gep_inst_indices n u v k acc a b
turned_same {n = n} (at_parse_body u v c l k over acc a b) = same_parse_body n u v c l k over acc a b
turned_same (at_comma_list u v k end m elem acc h one a b) = same_comma_list u v k end m elem acc h one a b
turned_same (at_dots_list u v k dots bad m elem acc h one a b) = same_dots_list u v k dots bad m elem acc h one a b
turned_same (at_parse_params u v c m acc a b) = same_parse_params u v c m acc a b
turned_same (at_gep_indices u v type value m acc a b) = same_gep_indices u v type value m acc a b
turned_same (at_phi_items u v m acc a b) = same_phi_items u v m acc a b
turned_same (at_switch_cases u v m ints labels a b) = same_switch_cases u v m ints labels a b
