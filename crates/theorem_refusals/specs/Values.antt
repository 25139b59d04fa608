-- Each program that reads a value refuses inside the text; what it gives are the words of a value.
-- Assumes nothing.
use Rattle.std.specs.Prelude.{◌≡◌, Bool, true, false, eqb, length}
use Rattle.std.proofs.Math.Path.{refl}
use mathlib.Core.List.{List, [], ◌∷◌, ◌++◌}
use Prim.Native.Nat.{ℕ, zero, suc, ◌+◌, ◌≤◌, ◌<◌}
use native.Mathlib.Omega.{arith}
use Rattle.std.proofs.Common.{le→leb}
use Rattle.program.specs.Class.{class_of, is_digit}
use Rattle.program.specs.Prog.{Prog, ◌>>=◌}
use Rattle.records.specs.Words.{node}
use Rattle.records.specs.Kinds.{kind, Local, Global, IntConst, FloatConst, Null, Undef, Poison, ZeroInit, CStr, ArrayConst, StructConst, GepExpr, ConvExpr, BinExpr}
use Rattle.records.specs.Limits.{turns, child_limit, list_turns}
use Rattle.records.specs.Details.{d_none, d_inbounds}
use Rattle.grammar.specs.Lexer.{place, is_byte, byte_if, starts_with}
use Rattle.grammar.specs.Types.{Listed, count_of, words_of, TypeOut}
use Rattle.grammar.specs.Values.{conv_ops, bin_ops, prefix_if, float_node, numeral, digit_if, numeric_or, cstring, leaf_values, pair_with, pair_child, pair_list, aggregate, packed_const, parse_gep_flags, gep_indices, parse_ce_gep, parse_ce_conv, parse_ce_bin, const_exprs, value_with, parse_value, parse_typed_val}
use Rattle.trees.specs.Forms.{type, value, sort_of, form_of, Laid}
use Rattle.theorem_refusals.specs.Inside.{Scope, and_right, Held, Inside, more, gives, looks, eats, asks, leads, anywhere, asks_at, eats_at, looks_at, then_at, then, then_with, fails}
use Rattle.theorem_refusals.specs.Trees.{joined, over, leaf, Grouped, grouped, no_group, one_more, Lists}
use Rattle.theorem_refusals.specs.Lexer.{end_no_byte, in_refuse, in_place, in_eat_ws, in_byte_if, in_eat_n, in_word_if, in_word_at_if, in_rank_if, in_expect_token, in_expect_keyword, in_skip_keyword, cstring_at_lem, in_skip_parens}
use Rattle.theorem_refusals.specs.Numbers.{in_parse_numeral, in_parse_hex_float, in_parse_f0x}
use Rattle.theorem_refusals.specs.Attributes.{in_skip_arith_flags}
use Rattle.theorem_refusals.specs.Types.{Opens, NextOf, in_whole, in_child, in_type_child, in_comma_or, in_comma_list, in_name_node, in_parse_type}

starts_length : (w v : List ℕ) → starts_with w v ≡ true → length w ≤ length v
unfolding starts_with
starts_length [] v e = omega arith
starts_length (x ∷ w) [] e = let z : ◌≡◌ {A = ℕ} 0 1 = cc in absurd (omega arith)
starts_length (x ∷ w) (y ∷ v) e = omega (arith, starts_length w v (and_right (eqb x y) (starts_with w v) e))

in_prefix_if : {A : Type 0} {P : A → Type 0} {n : Scope} {f g : Prog A} (w : List ℕ) → Inside n P f → Inside n P g → Inside n P (prefix_if w f g)
unfolding prefix_if
in_prefix_if w h k = leads (starts_with w) (λ v e. more (starts_length w v e) (in_eat_n (length w) h)) k

abbrev pub Value : ℕ → List ℕ → Type 0
Value n = Laid n (value ∷ [])

in_float_node : {n : Scope} (b : ℕ) → Inside n (Value n.limit) (float_node b)
unfolding float_node sort_of form_of
in_float_node b = gives (leaf FloatConst tt (b ∷ []) tt (tt, tt) refl)

in_numeral : {n : Scope} (neg : Bool) → Inside n (Value n.limit) (numeral neg)
unfolding numeral
in_numeral neg = then_with (in_parse_numeral neg) λ l h. gives h

end_no_digit : is_digit 256 ≡ false
unfolding is_digit class_of
end_no_digit = refl

in_digit_if : {A : Type 0} {P : A → Type 0} {n : Scope} {f g : Prog A} → Inside n P f → Inside n P g → Inside n P (digit_if f g)
unfolding digit_if
in_digit_if h k = looks is_digit end_no_digit (more (omega arith) h) k

in_numeric_or : {n : Scope} {g : Prog (List ℕ)} → Inside n (Value n.limit) g → Inside n (Value n.limit) (numeric_or g)
unfolding numeric_or
in_numeric_or h =
    in_byte_if _
    (in_prefix_if _ (in_float_node _)
    (in_prefix_if _ (in_float_node _)
    (in_numeral false)))
    (in_byte_if _
    (in_prefix_if _ (in_float_node _)
    (in_numeral true))
    (in_digit_if
    (in_prefix_if _ (then in_parse_hex_float in_float_node)
    (in_prefix_if _ (then in_parse_hex_float in_float_node)
    (in_numeral false)))
    h))

-- it takes the `c`, so it is held where that is left
in_cstring : {n : Scope} → Held n 1 (Value n.limit) cstring
unfolding cstring place ◌>>=◌ byte_if sort_of form_of
in_cstring =
    asks λ i l. eats (asks_at λ j m.
    looks_at (is_byte 34) (end_no_byte 34) (eats_at (then_at (cstring_at_lem j) λ x h. gives (leaf CStr tt (x ∷ []) tt (h, tt) refl))) (anywhere (fails 6 i tt l)))

in_leaf_values : {n : Scope} {g : Prog (List ℕ)} → Inside n (Value n.limit) g → Inside n (Value n.limit) (leaf_values g)
unfolding leaf_values sort_of form_of
in_leaf_values h =
    in_byte_if _ (in_name_node Local tt tt refl refl)
    (in_byte_if _ (in_name_node Global tt tt refl refl)
    (in_numeric_or
    (in_word_if _ (gives (leaf IntConst tt (0 ∷ 1 ∷ []) tt (tt, (tt, tt)) refl))
    (in_word_if _ (gives (leaf IntConst tt (0 ∷ 0 ∷ []) tt (tt, (tt, tt)) refl))
    (in_word_if _ (gives (leaf Null tt [] tt tt refl))
    (in_word_if _ (gives (leaf Undef tt [] tt tt refl))
    (in_word_if _ (gives (leaf Poison tt [] tt tt refl))
    (in_word_if _ (gives (leaf ZeroInit tt [] tt tt refl))
    (in_word_at_if _ in_cstring
    (in_prefix_if _ (then in_parse_f0x in_float_node)
    h))))))))))

-- one bit, and it is in the detail
in_parse_gep_flags : {n : Scope} (u inbounds : ℕ) → inbounds ≤ d_inbounds → Inside n (λ d. d ≤ d_inbounds) (parse_gep_flags u inbounds)
unfolding parse_gep_flags
in_parse_gep_flags zero inbounds b = gives b
in_parse_gep_flags (suc u) inbounds b =
    then in_eat_ws λ _.
    in_word_if _ (in_parse_gep_flags u d_inbounds (omega arith))
    (in_word_if _ (in_parse_gep_flags u inbounds b)
    (in_word_if _ (in_parse_gep_flags u inbounds b)
    (in_word_if _ (then in_skip_parens λ _. in_parse_gep_flags u inbounds b)
    (gives b))))

pub in_gep_flags : {n : Scope} → Inside n (λ d. d ≤ d_inbounds) (parse_gep_flags turns d_none)
in_gep_flags = in_parse_gep_flags turns d_none (omega arith)

-- a typed value
abbrev pub Pair : ℕ → List ℕ → Type 0
Pair n = Laid n (type ∷ value ∷ [])

-- typed values in a list; those of an array or a struct are its children
abbrev pub Pairs : ℕ → ℕ → Listed → Type 0
Pairs n base = Lists n base (type ∷ value ∷ [])

module _ {n : Scope} {ty : Prog TypeOut} {val : Prog (List ℕ)} (t : Inside n (Opens n) ty) (v : Inside n (Value n.limit) val) where
  in_pair_with : Inside n (Pair n.limit) (pair_with ty val)
  unfolding pair_with
  in_pair_with = then_with (in_whole 6 tt t) λ x h. then_with v λ y k. gives (joined h k)

  pub in_pair_child : (k : ℕ) → Inside n (NextOf n.limit (type ∷ value ∷ []) k) (pair_child ty val k)
  unfolding pair_child
  in_pair_child k = then_with (in_type_child k 6 tt t) λ x h. then_with (in_child (k + 1) v) λ y i. gives (joined h.0 i.0, omega (arith, i.1))

  in_pair_list : (end : ℕ) → Inside n (Pairs n.limit 0) (pair_list end ty val)
  unfolding pair_list
  in_pair_list end =
      then in_eat_ws λ _.
      in_byte_if _ (gives (no_group, (omega arith, omega arith))) (in_comma_list 0 (type ∷ value ∷ []) in_pair_child list_turns end 0 [] no_group)

  array : (l : Listed) → Pairs n.limit 0 l → Value n.limit (node (kind ArrayConst) 0 (count_of l) (words_of l))
  unfolding sort_of form_of
  array l (grouped m e h, r) = over ArrayConst tt 0 m [] tt tt (omega arith) refl (omega arith) r.0 h

  struct : (l : Listed) → Pairs n.limit 0 l → Value n.limit (node (kind StructConst) 0 (count_of l) (words_of l))
  unfolding sort_of form_of
  struct l (grouped m e h, r) = over StructConst tt 0 m [] tt tt (omega arith) refl (omega arith) r.0 h

  in_aggregate : (k end : ℕ) → ((l : Listed) → Pairs n.limit 0 l → Value n.limit (node k 0 (count_of l) (words_of l))) → Inside n (Value n.limit) (aggregate k end ty val)
  unfolding aggregate
  in_aggregate k end f = then_with (in_pair_list end) λ l h. gives (f l h)

  in_packed_const : (i : ℕ) → i ≤ n.size → Inside n (Value n.limit) (packed_const i ty val)
  unfolding packed_const
  in_packed_const i l = in_byte_if _ (then_with (in_pair_list _) λ x h. then (in_expect_token _) λ _. gives (struct x h)) (fails 6 i tt l)

  in_gep_indices : (u k : ℕ) (acc : List ℕ) → k ≤ child_limit → Grouped n.limit 3 (type ∷ value ∷ []) k acc → Inside n (Pairs n.limit 3) (gep_indices u ty val k acc)
  unfolding gep_indices
  in_gep_indices zero k acc b h = in_refuse 19 tt
  in_gep_indices (suc u) k acc b h =
      in_comma_or _ (then (in_skip_keyword _) λ _. then_with (in_pair_child k) λ x y. in_gep_indices u (k + 2) (acc ++ x) y.1 (one_more h y.0))
      (gives (h, (b, omega arith)))

  gep : (d : ℕ) (x y : List ℕ) (l : Listed) → d ≤ d_inbounds → Laid n.limit (type ∷ []) x → Pair n.limit y → Pairs n.limit 3 l → Value n.limit (node (kind GepExpr) d (count_of l) ((x ++ y) ++ words_of l))
  unfolding sort_of form_of
  gep d x y l b h k (grouped m e i, r) = over GepExpr tt d m [] (le→leb d 1 b) tt (omega arith) refl (omega arith) r.0 (joined (joined h k) i)

  in_parse_ce_gep : Inside n (Value n.limit) (parse_ce_gep ty val)
  unfolding parse_ce_gep
  in_parse_ce_gep =
      then_with in_gep_flags λ d b. then (in_expect_token _) λ _. then_with (in_whole 3 tt t) λ x h. then (in_expect_token _) λ _. then_with in_pair_with λ y k.
      then_with (in_gep_indices list_turns 3 [] (omega arith) no_group) λ l i. gives (gep d x y l b h k i)

  in_parse_ce_conv : (op : ℕ) → op < length conv_ops → Inside n (Value n.limit) (parse_ce_conv op ty val)
  unfolding parse_ce_conv conv_ops sort_of form_of
  in_parse_ce_conv op b =
      then (in_expect_token _) λ _. then_with in_pair_with λ x h. then (in_expect_keyword _) λ _. then_with (in_whole 3 tt t) λ y k. then (in_expect_token _) λ _.
      gives (over ConvExpr tt op 0 [] (le→leb (suc op) (length conv_ops) b) tt (omega arith) refl refl (omega arith) (joined h k))

  in_parse_ce_bin : (op : ℕ) → op < length bin_ops → Inside n (Value n.limit) (parse_ce_bin op ty val)
  unfolding parse_ce_bin bin_ops sort_of form_of
  in_parse_ce_bin op b =
      then in_skip_arith_flags λ _. then (in_expect_token _) λ _. then_with in_pair_with λ x h. then (in_expect_token _) λ _. then_with in_pair_with λ y k.
      then (in_expect_token _) λ _. gives (over BinExpr tt op 0 [] (le→leb (suc op) (length bin_ops) b) tt (omega arith) refl refl (omega arith) (joined h k))

  in_const_exprs : Inside n (Value n.limit) (const_exprs ty val)
  unfolding const_exprs
  in_const_exprs =
      in_word_if _ in_parse_ce_gep
      (in_rank_if _ in_parse_ce_conv
      (in_rank_if _ in_parse_ce_bin
      (in_refuse 6 tt)))

  in_value_with : Inside n (Value n.limit) (value_with ty val)
  unfolding value_with
  in_value_with =
      then in_eat_ws λ _. then_with in_place λ i l.
      in_leaf_values
      (in_byte_if _ (in_aggregate _ _ array)
      (in_byte_if _ (in_aggregate _ _ struct)
      (in_byte_if _ (in_packed_const i l)
      in_const_exprs)))

pub in_parse_value : {n : Scope} (d : ℕ) → Inside n (Value n.limit) (parse_value d)
unfolding parse_value
in_parse_value zero = then in_eat_ws λ _. in_refuse 16 tt
in_parse_value (suc d) = in_value_with (in_parse_type d) (in_parse_value d)

pub in_parse_typed_val : {n : Scope} (d : ℕ) → Inside n (Pair n.limit) (parse_typed_val d)
unfolding parse_typed_val
in_parse_typed_val d = in_pair_with (in_parse_type d) (in_parse_value d)
