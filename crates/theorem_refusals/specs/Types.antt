-- Each program that reads a type refuses inside the text, and so does what refuses at the `(` behind one; what it gives are the words of a type.
-- Assumes nothing.
use Rattle.std.specs.Prelude.{◌≡◌, Bool, true, false, not, T, ltb, eqb}
use Rattle.std.proofs.Math.Path.{refl}
use Rattle.std.proofs.Common.{sym, le→leb, ltb-true}
use mathlib.Core.List.{List, [], ◌∷◌, ◌++◌}
use Prim.Native.Nat.{ℕ, zero, suc, ◌+◌, ◌≤◌}
use native.Mathlib.Omega.{arith}
use Rattle.std.proofs.Math.ListN.{length}
use Rattle.program.specs.Choice.{pick}
use Rattle.program.specs.Prog.{Prog}
use Rattle.records.specs.Words.{node}
use Rattle.records.specs.Kinds.{Kind, kind, Void, Int, Float, Double, Ptr, Array, Named, Struct, Label, Metadata, Call}
use Rattle.records.specs.Limits.{turns, child_limit, list_turns}
use Rattle.grammar.specs.Types.{Listed, count_of, words_of, TypeOut, plain, opened, room, child, whole_of, whole, behind, type_child, comma_or, comma_list, dots_list, struct_fields, type_item, parse_type_list, ptr_words, int_type, name_node, opt_addrspace, ptr_type, leaf_types, array_type, struct_type, packed_type, parse_base_type, suffixes, type_with, no_type, parse_type}
use Rattle.trees.specs.Forms.{Sort, type, sort_of, named, detail_of, payload_of, children_of, form_of, Laid}
use Rattle.theorem_refusals.specs.Inside.{Scope, asked, Inside, gives, weaker, Any, then, then_with, done, fails, either_with}
use Rattle.theorem_refusals.specs.Trees.{over, leaf, Grouped, grouped, no_group, one_more, Lists}
use Rattle.theorem_refusals.specs.Lexer.{in_refuse, in_place, in_eat_ws, in_byte_if, in_word_if, in_token_if, in_expect_token, in_expect_keyword, in_dots_if, in_name_word, in_skip_parens}
use Rattle.theorem_refusals.specs.Numbers.{in_parse_int}
use Rattle.theorem_refusals.specs.Attributes.{in_skip_attrs}

-- A type's words; of a list behind it those of types, and the place of its `(`, which is in the text.
abbrev pub Opens : Scope → TypeOut → Type 0
Opens n (plain t) = Laid n.limit (type ∷ []) t
Opens n (opened t l j) = Laid n.limit (type ∷ []) t × (Lists n.limit 1 (type ∷ []) l × (j ≤ n.size))

in_whole_of : {n : Scope} (q : ℕ) → T (asked q) → (t : TypeOut) → Opens n t → Inside n (Laid n.limit (type ∷ [])) (whole_of q t)
unfolding whole_of
in_whole_of q s (plain t) o = gives o
in_whole_of q s (opened t l j) o = fails q j s o.1.1

pub in_whole : {n : Scope} {f : Prog TypeOut} (q : ℕ) → T (asked q) → Inside n (Opens n) f → Inside n (Laid n.limit (type ∷ [])) (whole q f)
unfolding whole
in_whole q s h = then_with h (in_whole_of q s)

-- what is the next child after k, where there may be one more
abbrev pub Next : {A : Type 0} → (A → Type 0) → ℕ → A → Type 0
Next P k a = P a × (suc k ≤ child_limit)

pub in_child : {A : Type 0} {P : A → Type 0} {n : Scope} {p : Prog A} (k : ℕ) → Inside n P p → Inside n (Next P k) (child k p)
unfolding child room
in_child k h = then_with h λ a x. either_with (ltb k child_limit) (λ e. gives (x, ltb-true k child_limit e)) (λ _. in_refuse 19 tt)

pub asked_behind : (k q : ℕ) → T (asked q) → T (asked (behind k q))
unfolding behind
asked_behind k q s = go (ltb k child_limit)
  where
    go : (b : Bool) → T (asked (pick b q 19))
    go true = s
    go false = tt

pub in_type_child : {n : Scope} {f : Prog TypeOut} (k q : ℕ) → T (asked q) → Inside n (Opens n) f → Inside n (Next (Laid n.limit (type ∷ [])) k) (type_child k q f)
unfolding type_child
in_type_child k q s h = in_child k (in_whole (behind k q) (asked_behind k q s) h)

pub in_comma_or : {A : Type 0} {P : A → Type 0} {n : Scope} {f g : Prog A} (end : ℕ) → Inside n P f → Inside n P g → Inside n P (comma_or end f g)
unfolding comma_or
in_comma_or end h k = in_token_if _ h (in_byte_if _ k (in_refuse 3 tt))

-- the next children after k: a group of these sorts, where there may be so many more
abbrev pub NextOf : ℕ → List Sort → ℕ → List ℕ → Type 0
NextOf n g k x = Laid n g x × (k + length g ≤ child_limit)

module _ {n : Scope} {elem : ℕ → Prog (List ℕ)} (base : ℕ) (g : List Sort) (inside : (k : ℕ) → Inside n (NextOf n.limit g k) (elem k)) where
  pub in_comma_list : (u end k : ℕ) (acc : List ℕ) → Grouped n.limit base g k acc → Inside n (Lists n.limit base g) (comma_list u (length g) end elem k acc)
  unfolding comma_list
  in_comma_list zero end k acc h = in_refuse 19 tt
  in_comma_list (suc u) end k acc h =
      then_with (inside k) λ x y.
      in_comma_or end (in_comma_list u end (k + length g) (acc ++ x) (one_more h y.0)) (gives (one_more h y.0, (y.1, omega arith)))

  pub in_dots_list : (u v bad : ℕ) → v ≤ 1 → T (asked bad) → (k : ℕ) (acc : List ℕ) → k ≤ child_limit → Grouped n.limit base g k acc → Inside n (Lists n.limit base g) (dots_list u (length g) v bad elem k acc)
  unfolding dots_list
  in_dots_list zero v bad d b k acc l h = in_refuse 19 tt
  in_dots_list (suc u) v bad d b k acc l h =
      then in_eat_ws λ _.
      in_dots_if bad b (then (in_expect_token _) λ _. gives (h, (l, d)))
      (then_with (inside k) λ x y.
      in_comma_or _ (in_dots_list u v bad d b (k + length g) (acc ++ x) y.1 (one_more h y.0)) (gives (one_more h y.0, (y.1, omega arith))))

-- a child alone is a group
alone : {n : ℕ} {s : Sort} (k : ℕ) (x : List ℕ) → Next (Laid n (s ∷ [])) k x → NextOf n (s ∷ []) k x
alone k x h = (h.0, omega (arith, h.1))

module _ {n : Scope} {elem : Prog TypeOut} (inside : Inside n (Opens n) elem) where
  in_struct_fields : Inside n (Lists n.limit 0 (type ∷ [])) (struct_fields elem)
  unfolding struct_fields
  in_struct_fields =
      then in_eat_ws λ _.
      in_byte_if _ (gives (no_group, (omega arith, omega arith)))
      (in_comma_list 0 (type ∷ []) (λ k. weaker (alone k) (in_type_child k 3 tt inside)) list_turns _ 0 [] no_group)

  in_type_item : (k : ℕ) → Inside n (NextOf n.limit (type ∷ []) k) (type_item elem k)
  unfolding type_item
  in_type_item k = then_with (in_type_child k 3 tt inside) λ t h. then in_skip_attrs λ _. gives (alone k t h)

  pub in_parse_type_list : (bad : ℕ) → T (asked bad) → Inside n (Lists n.limit 1 (type ∷ [])) (parse_type_list bad elem)
  unfolding parse_type_list
  in_parse_type_list bad b =
      then in_eat_ws λ _.
      in_byte_if _ (gives (no_group, (omega arith, omega arith))) (in_dots_list 1 (type ∷ []) in_type_item list_turns 1 bad (omega arith) b 1 [] (omega arith) no_group)

-- a node that has nothing but its header; one with a number or a name
in_int_type : {n : Scope} → Inside n (Laid n.limit (type ∷ [])) int_type
unfolding int_type sort_of form_of
in_int_type = then_with (in_parse_int _ _) λ v h. gives (leaf Int tt (v ∷ []) tt (h, tt) refl)

pub in_name_node : {n : Scope} (k : Kind) → T (not (eqb (kind k) (kind Call))) → T (detail_of (form_of k 0 0)) → named ∷ [] ≡ payload_of (form_of k 0 0) → [] ≡ children_of (form_of k 0 0) → Inside n (Laid n.limit (sort_of k ∷ [])) (name_node (kind k))
unfolding name_node
in_name_node k y t p e = then_with in_name_word λ x h. gives (leaf k y (x ∷ []) t (rw (sym p) (h, tt)) e)

in_opt_addrspace : {n : Scope} → Inside n Any opt_addrspace
unfolding opt_addrspace
in_opt_addrspace = in_word_if _ in_skip_parens done

in_ptr_type : {n : Scope} → Inside n (Laid n.limit (type ∷ [])) ptr_type
unfolding ptr_type sort_of form_of
in_ptr_type = then in_eat_ws λ _. then in_opt_addrspace λ _. gives (leaf Ptr tt [] tt tt refl)

in_leaf_types : {n : Scope} {g : Prog (List ℕ)} → Inside n (Laid n.limit (type ∷ [])) g → Inside n (Laid n.limit (type ∷ [])) (leaf_types g)
unfolding leaf_types sort_of form_of
in_leaf_types h =
    in_word_if _ (gives (leaf Void tt [] tt tt refl))
    (in_word_if _ (gives (leaf Float tt [] tt tt refl))
    (in_word_if _ (gives (leaf Double tt [] tt tt refl))
    (in_word_if _ in_ptr_type
    (in_word_if _ (gives (leaf Label tt [] tt tt refl))
    (in_word_if _ (gives (leaf Metadata tt [] tt tt refl))
    (in_byte_if _ in_int_type
    (in_byte_if _ (in_name_node Named tt tt refl refl)
    h)))))))

-- a struct over its fields
struct : {n : ℕ} (d : ℕ) (l : Listed) → d ≤ 1 → Lists n 0 (type ∷ []) l → Laid n (type ∷ []) (node (kind Struct) d (count_of l) (words_of l))
unfolding sort_of form_of
struct d l b (grouped m e h, r) = over Struct tt d m [] (le→leb d 1 b) tt (omega arith) refl (omega arith) r.0 h

module _ {n : Scope} {elem : Prog TypeOut} (inside : Inside n (Opens n) elem) where
  in_array_type : (packed end : ℕ) → packed ≤ 1 → Inside n (Laid n.limit (type ∷ [])) (array_type packed end elem)
  unfolding array_type sort_of form_of
  in_array_type packed end b =
      then in_eat_ws λ _. then_with (in_parse_int _ _) λ v h. then (in_expect_keyword _) λ _. then_with (in_whole 3 tt inside) λ t k.
      then (in_expect_token end) λ _. gives (over Array tt packed 0 (v ∷ []) (le→leb packed 1 b) (h, tt) (omega arith) refl refl (omega arith) k)

  in_struct_type : Inside n (Laid n.limit (type ∷ [])) (struct_type elem)
  unfolding struct_type
  in_struct_type = then_with (in_struct_fields inside) λ l h. gives (struct 0 l (omega arith) h)

  in_packed_type : Inside n (Laid n.limit (type ∷ [])) (packed_type elem)
  unfolding packed_type
  in_packed_type = in_byte_if _ (then_with (in_struct_fields inside) λ l h. then (in_expect_token _) λ _. gives (struct 1 l (omega arith) h)) (in_array_type 1 _ (omega arith))

  in_parse_base_type : Inside n (Laid n.limit (type ∷ [])) (parse_base_type elem)
  unfolding parse_base_type
  in_parse_base_type =
      in_leaf_types
      (in_byte_if _ (in_array_type 0 _ (omega arith))
      (in_byte_if _ in_struct_type
      (in_byte_if _ in_packed_type
      (in_refuse 5 tt))))

  ptr_laid : Laid n.limit (type ∷ []) ptr_words
  unfolding node sort_of form_of
  ptr_laid = leaf Ptr tt [] tt tt refl

  in_suffixes : (u bad : ℕ) → T (asked bad) → (t : List ℕ) → Laid n.limit (type ∷ []) t → Inside n (Opens n) (suffixes u bad elem t)
  unfolding suffixes
  in_suffixes zero bad b t h = gives h
  in_suffixes (suc u) bad b t h =
      then in_eat_ws λ _. then_with in_place λ j l.
      in_byte_if _
      (then_with (in_parse_type_list inside bad b) λ r k. then in_eat_ws λ _.
      in_byte_if _ (in_suffixes u bad b ptr_words ptr_laid) (gives (h, (k, l))))
      (then in_opt_addrspace λ _. in_byte_if _ (in_suffixes u bad b ptr_words ptr_laid) (gives h))

  in_type_with : (bad : ℕ) → T (asked bad) → Inside n (Opens n) (type_with bad elem)
  unfolding type_with
  in_type_with bad b = then in_eat_ws λ _. then_with in_parse_base_type λ t h. in_suffixes turns bad b t h

no_type_lem : (d : ℕ) → T (asked (no_type d))
unfolding no_type
no_type_lem zero = tt
no_type_lem (suc d) = tt

pub in_parse_type : {n : Scope} (d : ℕ) → Inside n (Opens n) (parse_type d)
unfolding parse_type
in_parse_type zero = then in_eat_ws λ _. in_refuse 16 tt
in_parse_type (suc d) = in_type_with (in_parse_type d) (no_type d) (no_type_lem d)
