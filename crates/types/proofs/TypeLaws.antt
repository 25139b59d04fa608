-- The laws of the types' programs: at a parenthesis behind a type whatever may come next refuses, and no two words stand at one place.
-- Assumes nothing.
use mathlib.Core.Path.{◌≡◌, refl, sym, ap, ◌∙◌, subst}
use mathlib.Core.List.{List, [], ◌∷◌, ◌++◌}
use mathlib.Core.Bool.{Bool, true, false, ◌&&◌}
use Prim.Native.Nat.{ℕ, zero, suc, ◌+◌, ◌-◌, ◌≤◌, ◌<◌}
use native.Mathlib.Omega.{arith}
use native.Mathlib.Nat.{add-zero}
use lib.ListN.{length, drop, length-drop}
use lib.Dec.{ltb, eqb}
use borrow.Author.Tests.{ne_eqb, eqb-true}
use Rattle.program.specs.Choice.{pick}
use Rattle.program.specs.Class.{class_of, is_space, is_word}
use Rattle.program.specs.Prog.{Prog, ret, eat, Res, ok, closed, no_at, run, ◌>>=◌, byte_at, lead_word, scan_len}
use Rattle.program.specs.Local.{next, run_bind}
use Rattle.grammar.specs.Lexer.{space_step, eat_ws, refuse, place, is_byte, byte_if, byte_at_if, eat_n, word_if, rank_if, rank, same_word, token_if, expect_token, three_dots}
use Rattle.grammar.specs.Attributes.{paren_attrs, flag_attrs, skip_attrs_in, skip_attrs}
use Rattle.grammar.specs.Types.{Listed, listed, TypeOut, plain, opened, room, child, whole_of, whole, behind, type_child, comma_or, comma_list, dots_list, type_item, parse_type_list, ptr_words, int_type, name_node, array_type, struct_type, packed_type, leaf_types, opt_addrspace, parse_base_type, suffixes, type_with, no_type, parse_type}
use Rattle.lexer.specs.Step.{looks_p, passed, refused, counted_p}
use Rattle.node_words.specs.Writes.{replaced, replaces, back_to}
use Rattle.lexer.specs.Reads.{Budget, At, Ends, at, out, Leads, Goal, made, reach, same, Gives, Comes}
use Rattle.lexer.specs.declared.Cursor.{Cursor}
use Rattle.lexer.specs.Parsed.{Parsed, Ok, Refused}
use Rattle.node_words.proofs.Words.{front}
use Rattle.lexer.proofs.Laws.{more, no_more, word_no, after, bind_at, at_less, at_place, at_part, at_whole, run_eat, done, stay, then, val, byte_yes, byte_no, fail_is, dots_yes, dots_no, place_then, pass_in}
use Rattle.node_words.proofs.Laws.{replace_then}
use Rattle.lexer.proofs.Children.{assoc, nest, g_room, in_room, comma_yes, comma_no}
use Rattle.type_leaves.specs.Leaf.{word_types}
use Rattle.type_leaves.proofs.LeafLaws.{word_other}
use Rattle.types.specs.Reading.{spaced, TypeEnds, read, back, none, typed, list_of, Types}

-- ---- a type that must be whole, then the rest
-- at a parenthesis what comes next refuses with q
abbrev pub Stuck : {B : Type 0} → ℕ → (List ℕ → Prog B) → Type 0
Stuck q h = (t : List ℕ) (i : ℕ) (s : List ℕ) → byte_at s ≡ 40 → run (h t) i s ≡ no_at q i

pub type_then : {B : Type 0} {f : Prog TypeOut} {g : Prog Listed} (q : ℕ) (h : List ℕ → Prog B) {c : ℕ} {mid : List ℕ} {E : Goal B} {text : List ℕ} {p0 p p1 p' : Parsed} {w w1 w' : List ℕ} → Leads f 0 [] (typed g text p) text p p w p1 w1 → Stuck q h → ((ws : List ℕ) → Leads (h ws) c (mid ++ ws) E text p0 p1 w1 p' w') → Leads (whole q f >>= h) c mid E text p0 p w p' w'
unfolding after whole whole_of run
type_then {B} {f} {g} q h {c} {mid} {E} {text} {p0} {p} {p1} {p'} {w} {w1} {w'} r st s = record {
  runs = λ b low k cur e a. subst (λ (z : Res B). E.ends b k low z p' w') (sym (bind_at (whole q f) h text cur.at ∙ ap (after h text) (bind_at f (whole_of q) text cur.at))) (go b low k a s (r.runs b (low ++ mid) (c + k) cur e (at_less (0 + (c + k)) (omega arith) (at_part e a))));
  hands = λ e x i. (s []).hands e x (r.hands e x i);
}
  where
    go : (b : Budget) (low : List ℕ) (k : ℕ) {cur : Cursor} → At b text p0 (c + k) low mid cur w → {y : Parsed} {v : List ℕ} → ((ws : List ℕ) → Leads (h ws) c (mid ++ ws) E text p0 y v p' w') → {z : Res TypeOut} → TypeEnds g b text p (c + k) (low ++ mid) z y v → E.ends b k low (after h text (after (whole_of q) text z)) p' w'
    go b low k a t (read {t = ws} {cur = cur} i) = (t ws).runs b low k cur refl (at_whole a i)
    go b low k a t (back {t = ws} {cur = cur} i x l) = subst (λ (z : Res B). E.ends b k low z p' w') (st ws cur.at (drop cur.at text) x) ((t ws).runs b low k cur refl (at_whole a i))
    go b low k a t (none {e = e} {q = x}) = rw ((t []).hands e x refl) (E.outs b k low e x w')

-- a type called where nothing has been written yet
pub type_call : {f : Prog TypeOut} {g : Prog Listed} {c : ℕ} {text : List ℕ} {p0 p p' : Parsed} {w w' : List ℕ} → Leads f 0 [] (typed g text p) text p p w p' w' → Leads f c [] (typed g text p0) text p0 p w p' w'
type_call {f} {g} {c} {text} {p0} {p} {p'} {w} {w'} r = record {
  runs = λ b low k cur e a. go b low k a (r.runs b (low ++ []) k cur e (at_less (0 + k) (omega arith) (at_part e a)));
  hands = r.hands;
}
  where
    go : (b : Budget) (low : List ℕ) (k : ℕ) {cur : Cursor} → At b text p0 (c + k) low [] cur w → {y : Parsed} {v : List ℕ} {z : Res TypeOut} → TypeEnds g b text p k (low ++ []) z y v → TypeEnds g b text p0 k low z y v
    go b low k a (read i) = read (at_whole a i)
    go b low k a (back i x l) = back (at_whole a i) x l
    go b low k a none = none

pub plain_here : {g : Prog Listed} {c : ℕ} {t : List ℕ} {text : List ℕ} {p0 p : Parsed} {w : List ℕ} → Leads (ret (plain t)) c t (typed g text p0) text p0 p w p w
unfolding run
plain_here {g} {c} {t} {text} {p0} {w = w} = record {
  runs = λ b low k cur e a. subst (λ (z : Parsed). TypeEnds g b text p0 k low (ok (plain t) cur.at) z w) (sym e) (read (at_less k (omega arith) a));
  hands = λ e q h. h;
}

-- ---- at a parenthesis other tokens are refused
not_there : (b : ℕ) (s : List ℕ) → (b ≡ 40 → ⊥) → byte_at s ≡ 40 → is_byte b (byte_at s) ≡ false
unfolding is_byte
not_there b s n e = let m : (40 ≡ b → ⊥) = λ z. n (sym z) in rw (e, ne_eqb _ _ m) (and_false (ltb b 256))
  where
    and_false : (z : Bool) → (z && false) ≡ false
    and_false true = refl
    and_false false = refl

no_space : (i : ℕ) (s : List ℕ) → byte_at s ≡ 40 → scan_len space_step 0 s ≡ 0
unfolding scan_len byte_at space_step is_space class_of
no_space i [] e = refl
no_space i (x ∷ s) e = rw (scan_len, e)

pub space_run : {A : Type 0} (h : Unit {0} → Prog A) (i : ℕ) (s : List ℕ) → byte_at s ≡ 40 → run (eat_ws >>= h) i s ≡ run (h tt) i s
unfolding run eat_ws ◌>>=◌
space_run h i s e = rw (no_space i s e, add-zero i)

pub byte_run_no : {A : Type 0} (b : ℕ) (f g : Prog A) (i : ℕ) (s : List ℕ) → (b ≡ 40 → ⊥) → byte_at s ≡ 40 → run (byte_if b f g) i s ≡ run g i s
unfolding run byte_if
byte_run_no b f g i s n e = ap (λ (y : Bool). run (elim y [ true ↦ eat f | false ↦ g ]) i s) (not_there b s n e)

no_word : (s : List ℕ) → byte_at s ≡ 40 → lead_word s ≡ []
unfolding lead_word byte_at is_word class_of
no_word [] e = refl
no_word (x ∷ s) e = rw (lead_word, e)

pub fail_run : {A : Type 0} (q i : ℕ) (s : List ℕ) → run (refuse {A = A} q) i s ≡ no_at q i
unfolding run refuse
fail_run q i s = refl

quote_run_no : {A : Type 0} (b : ℕ) (f g : Prog A) (i : ℕ) (s : List ℕ) → (b ≡ 40 → ⊥) → byte_at s ≡ 40 → run (byte_at_if b f g) i s ≡ run g i s
unfolding run byte_at_if
quote_run_no b f g i s n e = ap (λ (y : Bool). run (elim y [ true ↦ f | false ↦ g ]) i s) (not_there b s n e)

pub word_run_no : {A : Type 0} (kw : List ℕ) (f g : Prog A) (i : ℕ) (s : List ℕ) → same_word [] kw ≡ false → byte_at s ≡ 40 → run (word_if kw f g) i s ≡ run g i s
unfolding run word_if
word_run_no kw f g i s n e = ap (λ (y : Bool). run (elim y [ true ↦ eat_n (length kw) f | false ↦ g ]) i s) (ap (λ (l : List ℕ). same_word l kw) (no_word s e) ∙ n)

pub rank_run_no : {A : Type 0} (table : List (List ℕ)) (f : ℕ → Prog A) (g : Prog A) (i : ℕ) (s : List ℕ) → ltb (rank [] table) (length table) ≡ false → byte_at s ≡ 40 → run (rank_if table f g) i s ≡ run g i s
unfolding run rank_if
rank_run_no table f g i s n e =
    ap (λ (w : List ℕ). run (elim (ltb (rank w table) (length table)) [ true ↦ eat_n (length w) (f (rank w table)) | false ↦ g ]) i s) (no_word s e) ∙
    ap (λ (y : Bool). run (elim y [ true ↦ eat_n 0 (f (rank [] table)) | false ↦ g ]) i s) n

-- no attribute begins there
attrs_in : (u i : ℕ) (s : List ℕ) → byte_at s ≡ 40 → run (skip_attrs_in (suc u)) i s ≡ ok tt i
unfolding skip_attrs_in run rank same_word paren_attrs flag_attrs
attrs_in u i s e =
    space_run _ i s e ∙ byte_run_no 35 _ _ i s (λ z. omega arith) e ∙ quote_run_no 34 _ _ i s (λ z. omega arith) e ∙
    rank_run_no paren_attrs _ _ i s refl e ∙ word_run_no _ _ _ i s refl e ∙ rank_run_no flag_attrs _ _ i s refl e

pub attrs_run : {A : Type 0} (h : Unit {0} → Prog A) (i : ℕ) (s : List ℕ) → byte_at s ≡ 40 → run (skip_attrs >>= h) i s ≡ run (h tt) i s
unfolding skip_attrs next
attrs_run h i s e = run_bind skip_attrs h i s ∙ ap (next h i s) (attrs_in 16777216 i s e) ∙ (let z : i - i ≡ 0 = omega arith in rw z)

pub stuck_token : {B : Type 0} (b : ℕ) (h : List ℕ → Unit {0} → Prog B) → (b ≡ 40 → ⊥) → Stuck 3 (λ t. expect_token b >>= h t)
unfolding next expect_token
stuck_token {B} b h n t i s e = run_bind (expect_token b) (h t) i s ∙ ap (next (h t) i s) (space_run (λ u. byte_if b (ret tt) (refuse 3)) i s e ∙ byte_run_no b (ret tt) (refuse 3) i s n e ∙ fail_run 3 i s)

-- white space, a comma or a closing byte
pub stuck_comma : {B : Type 0} (end : ℕ) (x y : List ℕ → Prog B) → (end ≡ 40 → ⊥) → Stuck 3 (λ t. comma_or end (x t) (y t))
unfolding comma_or token_if
stuck_comma end x y ne t i s e = space_run (λ _. byte_if 44 (x t) (byte_if end (y t) (refuse 3))) i s e ∙ byte_run_no 44 (x t) (byte_if end (y t) (refuse 3)) i s (λ z. omega arith) e ∙ byte_run_no end (y t) (refuse 3) i s ne e ∙ fail_run 3 i s

-- ---- a type as a child of a list, then the rest
pub stuck_room : {A B : Type 0} (n q : ℕ) (mk : List ℕ → A) (h : A → Prog B) → Stuck q (λ t. h (mk t)) → Stuck (behind n q) (λ t. room n (mk t) >>= h)
unfolding behind room refuse run ◌>>=◌
stuck_room {A} {B} n q mk h st t i s e = go (ltb n 65535)
  where
    go : (b : Bool) → run {A = B} (elim b [ true ↦ ret (mk t) | false ↦ refuse 19 ] >>= h) i s ≡ no_at (pick b q 19) i
    go true = st t i s e
    go false = refl

pub type_child_lem : {B : Type 0} {f : Prog TypeOut} {g : Prog Listed} (n q : ℕ) (h : List ℕ → Prog B) {c : ℕ} {mid : List ℕ} {E : Goal B} {text : List ℕ} {p0 p p1 q1 p' : Parsed} {w w1 w' : List ℕ} → Leads f 0 [] (typed g text p) text p p w p1 w1 → q1 ≡ counted_p n p1 → Stuck q h → ((e i : ℕ) → q1 ≡ Refused e i → p' ≡ Refused e i) → ((ws : List ℕ) → n < 65535 → Leads (h ws) c (mid ++ ws) E text p0 q1 w1 p' w') → Leads (type_child n q f >>= h) c mid E text p0 p w p' w'
unfolding type_child child
type_child_lem n q h {p1 = p1} r x st hd s = nest _ _ h (type_then (behind n q) _ r (stuck_room n q same h st) (λ t. val _ (g_room n x) (in_room n p1 x hd (s t))))

-- ---- lists behind commas
-- behind an element
module _ (end : ℕ) {text : List ℕ} {q q3 : Parsed} {b : Bool} (cm : (x y : Prog Listed) → Comes (comma_or end x y) (pick b x y) text q q3) {p0 : Parsed} {w : List ℕ} (j m : ℕ) (e : m ≡ j) (ws : List ℕ) where
  pub comma_again : (F : ℕ → List ℕ → Prog Listed) (g : Prog Listed) → b ≡ true → Leads (comma_or end (F j ws) g) 0 ws (reach (F m) text p0) text p0 q w q3 w
  comma_again F g y = comma_yes end cm _ _ y (subst (λ (i : ℕ). Leads (F i ws) 0 ws (reach (F m) text p0) text p0 q3 w q3 w) e (stay (F m)))

  pub comma_stop : (f : Prog Listed) → b ≡ false → Leads (comma_or end f (ret (listed j 0 ws))) 0 ws (made (listed m 0) text p0) text p0 q w q3 w
  comma_stop f y = comma_no end cm _ _ y (subst (λ (i : ℕ). Leads (ret (listed i 0 ws)) 0 ws (made (listed m 0) text p0) text p0 q3 w q3 w) e done)

-- a turn begins with an element; the turns do not run out
module _ (u k end n : ℕ) (elem : ℕ → Prog (List ℕ)) (ws : List ℕ) {E : Goal Listed} {text : List ℕ} {p0 q q4 : Parsed} {w w4 : List ℕ} where
  pub comma_turn : 0 < u → Leads (elem n >>= λ x. comma_or end (comma_list (u - 1) k end elem (n + k) (ws ++ x)) (ret (listed (n + k) 0 (ws ++ x)))) 0 ws E text p0 q w q4 w4 → Leads (comma_list u k end elem n ws) 0 ws E text p0 q w q4 w4
  unfolding comma_list
  comma_turn pos r = more (λ z. comma_list z k end elem n ws) u pos r

  pub comma_out : u ≤ 0 → q4 ≡ refused 19 q → Leads (comma_list u k end elem n ws) 0 ws E text p0 q w q4 w4
  unfolding comma_list
  comma_out l x = no_more (λ z. comma_list z k end elem n ws) u l (fail_is _ x)

module _ (u k d bad n : ℕ) (elem : ℕ → Prog (List ℕ)) (ws : List ℕ) {c : ℕ} {text : List ℕ} {p0 q : Parsed} {w : List ℕ} where
  module _ {q1 : Parsed} (pos : 0 < u) (gw : Gives eat_ws tt text q q1) {z : Bool} (l : z ≡ looks_p text q1 46) where
    pub dots_here : {q2 q3 : Parsed} → z ≡ true → Gives (three_dots bad) tt text q1 q2 → Gives (expect_token 41) tt text q2 q3 → Leads (dots_list u k d bad elem n ws) c ws (made (listed n d) text p0) text p0 q w q3 w
    unfolding dots_list
    dots_here y t x = more (λ z. dots_list z k d bad elem n ws) u pos (val _ gw (dots_yes bad _ l y t (val _ x done)))

    pub dots_turn : {E : Goal Listed} {q4 : Parsed} {w4 : List ℕ} → z ≡ false → Leads (elem n >>= λ x. comma_or 41 (dots_list (u - 1) k d bad elem (n + k) (ws ++ x)) (ret (listed (n + k) 0 (ws ++ x)))) c ws E text p0 q1 w q4 w4 → Leads (dots_list u k d bad elem n ws) c ws E text p0 q w q4 w4
    unfolding dots_list
    dots_turn y r = more (λ z. dots_list z k d bad elem n ws) u pos (val _ gw (dots_no bad _ l y r))

  pub dots_out : {E : Goal Listed} {q4 : Parsed} {w4 : List ℕ} → u ≤ 0 → q4 ≡ refused 19 q → Leads (dots_list u k d bad elem n ws) c ws E text p0 q w q4 w4
  unfolding dots_list
  dots_out l x = no_more (λ z. dots_list z k d bad elem n ws) u l (fail_is _ x)

-- ---- fields of a struct
abbrev pub fields_of : ℕ → ℕ → Prog TypeOut → ℕ → List ℕ → Prog Listed
fields_of u end f n ws = comma_list u 1 end (λ n. type_child n 3 f) n ws

module _ (f : Prog TypeOut) {g : Prog Listed} {text : List ℕ} {p0 q q1 q2 q3 : Parsed} {v v1 : List ℕ} (u end n m : ℕ) (ne : end ≡ 40 → ⊥) (pos : 0 < u) (r : Leads f 0 [] (typed g text q) text q q v q1 v1) (x : q2 ≡ counted_p n q1) (e : n < 65535 → m ≡ n + 1) (ws : List ℕ) where
  turn : {E : Goal Listed} → ((i j : ℕ) → q2 ≡ Refused i j → q3 ≡ Refused i j) → ((t : List ℕ) → n < 65535 → Leads (comma_or end (fields_of (u - 1) end f (n + 1) (ws ++ t)) (ret (listed (n + 1) 0 (ws ++ t)))) 0 (ws ++ t) E text p0 q2 v1 q3 v1) → Leads (fields_of u end f n ws) 0 ws E text p0 q v q3 v1
  turn hd k = comma_turn u 1 end n (λ n. type_child n 3 f) ws pos (type_child_lem n 3 _ r x (stuck_comma end _ _ ne) hd k)

  pub items_more : {b : Bool} → ((x y : Prog Listed) → Comes (comma_or end x y) (pick b x y) text q2 q3) → b ≡ true → Leads (fields_of u end f n ws) 0 ws (reach (fields_of (u - 1) end f m) text p0) text p0 q v q3 v1
  items_more cm y = turn (cm (refuse 3) (refuse 3)).hands (λ t lt. comma_again end cm _ m (e lt) (ws ++ t) (fields_of (u - 1) end f) _ y)

  pub items_end : {b : Bool} → ((x y : Prog Listed) → Comes (comma_or end x y) (pick b x y) text q2 q3) → b ≡ false → Leads (fields_of u end f n ws) 0 ws (made (listed m 0) text p0) text p0 q v q3 v1
  items_end cm y = turn (cm (refuse 3) (refuse 3)).hands (λ t lt. comma_stop end cm _ m (e lt) (ws ++ t) _ y)

-- ---- types in parentheses, with attributes
stuck_item : {B : Type 0} (h : List ℕ → Prog B) → Stuck 3 h → Stuck 3 (λ t. (skip_attrs >>= λ _. ret t) >>= h)
unfolding ◌>>=◌
stuck_item h st t i s e = assoc skip_attrs (λ _. ret t) h i s ∙ attrs_run (λ _. h t) i s e ∙ st t i s e

pub ret_then : {A B : Type 0} {a : A} (h : A → Prog B) {c : ℕ} {mid : List ℕ} {E : Goal B} {text : List ℕ} {p0 p p' : Parsed} {w w' : List ℕ} → Leads (h a) c mid E text p0 p w p' w' → Leads (ret a >>= h) c mid E text p0 p w p' w'
unfolding ◌>>=◌
ret_then h r = r

pub item_then : {B : Type 0} {f : Prog TypeOut} {g : Prog Listed} (n : ℕ) (h : List ℕ → Prog B) {c : ℕ} {mid : List ℕ} {E : Goal B} {text : List ℕ} {p0 p p1 q1 q2 p' : Parsed} {w w1 w' : List ℕ} → Leads f 0 [] (typed g text p) text p p w p1 w1 → q1 ≡ counted_p n p1 → Gives skip_attrs tt text q1 q2 → Stuck 3 h → ((e i : ℕ) → q2 ≡ Refused e i → p' ≡ Refused e i) → ((ws : List ℕ) → n < 65535 → Leads (h ws) c (mid ++ ws) E text p0 q2 w1 p' w') → Leads (type_item f n >>= h) c mid E text p0 p w p' w'
unfolding type_item
item_then {f = f} n h r x ga st hd s = nest (type_child n 3 f) (λ t. skip_attrs >>= λ _. ret t) h (type_child_lem n 3 _ r x (stuck_item h st) (λ i j z. hd i j (ga.hands i j z)) (λ t lt. nest skip_attrs (λ _. ret t) h (val _ ga (ret_then h (s t lt)))))

abbrev pub types_of : ℕ → ℕ → Prog TypeOut → ℕ → List ℕ → Prog Listed
types_of u bad f n ws = dots_list u 1 1 bad (type_item f) n ws

module _ (f : Prog TypeOut) {g : Prog Listed} {text : List ℕ} {p0 q q1 q2 q3 q4 q5 : Parsed} {v v1 : List ℕ} (u bad n m : ℕ) (pos : 0 < u) (gw : Gives eat_ws tt text q q1) {z : Bool} (l : z ≡ looks_p text q1 46) (y : z ≡ false) (r : Leads f 0 [] (typed g text q1) text q1 q1 v q2 v1) (x : q3 ≡ counted_p n q2) (ga : Gives skip_attrs tt text q3 q4) (e : n < 65535 → m ≡ n + 1) (ws : List ℕ) where
  list_turn : {E : Goal Listed} → ((i j : ℕ) → q4 ≡ Refused i j → q5 ≡ Refused i j) → ((t : List ℕ) → n < 65535 → Leads (comma_or 41 (types_of (u - 1) bad f (n + 1) (ws ++ t)) (ret (listed (n + 1) 0 (ws ++ t)))) 0 (ws ++ t) E text p0 q4 v1 q5 v1) → Leads (types_of u bad f n ws) 0 ws E text p0 q v q5 v1
  list_turn hd k = dots_turn u 1 1 bad n (type_item f) ws pos gw l y (item_then n _ r x ga (stuck_comma 41 _ _ (λ z. omega arith)) hd k)

  pub list_more : {b : Bool} → ((x y : Prog Listed) → Comes (comma_or 41 x y) (pick b x y) text q4 q5) → b ≡ true → Leads (types_of u bad f n ws) 0 ws (reach (types_of (u - 1) bad f m) text p0) text p0 q v q5 v1
  list_more cm o = list_turn (cm (refuse 3) (refuse 3)).hands (λ t lt. comma_again 41 cm _ m (e lt) (ws ++ t) (types_of (u - 1) bad f) _ o)

  pub list_end : {b : Bool} → ((x y : Prog Listed) → Comes (comma_or 41 x y) (pick b x y) text q4 q5) → b ≡ false → Leads (types_of u bad f n ws) 0 ws (made (listed m 0) text p0) text p0 q v q5 v1
  list_end cm o = list_turn (cm (refuse 3) (refuse 3)).hands (λ t lt. comma_stop 41 cm _ m (e lt) (ws ++ t) _ o)

-- ---- what stands behind a type
is_forty : (s : List ℕ) → is_byte 40 (byte_at s) ≡ true → byte_at s ≡ 40
unfolding is_byte
is_forty s e = eqb-true _ _ e

-- the words of the list are not kept
back_at : {b : Budget} {text : List ℕ} {p0 : Parsed} {t : List ℕ} (ws : List ℕ) {k : ℕ} (c : ℕ) {low : List ℕ} {cur cur2 : Cursor} {v v2 : List ℕ} {p1 : Parsed} → At b text p0 (c + k) low t cur v → At b text p1 k (low ++ t) ws cur2 v2 → At b text p0 k low t cur v2
back_at {b} {text} {p0} {t} ws {k} c {low} {cur} {cur2} {v} {v2} a i = record {
  from = a.from;
  was = a.was;
  base = a.base;
  small = a.small;
  lid = a.lid;
  inside = a.inside;
  count = a.count;
  paid = omega (arith, a.paid);
  stands = front (low ++ t) ws v2 i.stands;
}

-- the list, the space behind it, and no `*`
opened_run : (g : Prog Listed) (x : Prog TypeOut) (t : List ℕ) (j i e : ℕ) (l : Listed) (text : List ℕ) → run (spaced g) i (drop i text) ≡ ok l e → is_byte 42 (byte_at (drop e text)) ≡ false → run (g >>= λ l. eat_ws >>= λ _. byte_if 42 x (ret (opened t l j))) i (drop i text) ≡ ok (opened t l j) e
unfolding spaced after run byte_if
opened_run g x t j i e l text h n = bind_at g (λ l. eat_ws >>= λ _. byte_if 42 x (ret (opened t l j))) text i ∙ go (run g i (drop i text)) (sym (bind_at g (λ l. eat_ws >>= λ _. ret l) text i) ∙ h)
  where
    go2 : (m : Listed) (y : ℕ) (r : Res (Unit {0})) → after (λ _. ret m) text r ≡ ok l e → after (λ _. byte_if 42 x (ret (opened t m j))) text r ≡ ok (opened t l j) e
    go2 m y (ok u d) w =
        let d1 : d ≡ e = cc in
        let nd : is_byte 42 (byte_at (drop d text)) ≡ false = ap (λ (z : ℕ). is_byte 42 (byte_at (drop z text))) d1 ∙ n in
        let y : run (byte_if 42 x (ret (opened t m j))) d (drop d text) ≡ ok (opened t m j) d = ap (λ (z : Bool). run (elim z [ true ↦ eat x | false ↦ ret (opened t m j) ]) d (drop d text)) nd in
        let m1 : m ≡ l = cc in
        y ∙ cc
    go2 m y (closed ws d) w = absurd (let z : ◌≡◌ {A = ℕ} 0 1 = cc in omega arith)
    go2 m y (no_at a d) w = absurd (let z : ◌≡◌ {A = ℕ} 0 1 = cc in omega arith)

    go : (r : Res Listed) → after (λ l. eat_ws >>= λ _. ret l) text r ≡ ok l e → after (λ l. eat_ws >>= λ _. byte_if 42 x (ret (opened t l j))) text r ≡ ok (opened t l j) e
    go (ok m y) w = bind_at eat_ws (λ _. byte_if 42 x (ret (opened t m j))) text y ∙ go2 m y (run eat_ws y (drop y text)) (sym (bind_at eat_ws (λ _. ret m) text y) ∙ w)
    go (closed ws y) w = absurd (let z : ◌≡◌ {A = ℕ} 0 1 = cc in omega arith)
    go (no_at a y) w = absurd (let z : ◌≡◌ {A = ℕ} 0 1 = cc in omega arith)

-- a list that is refused
refused_run : (g : Prog Listed) (x : Prog TypeOut) (t : List ℕ) (j i e q : ℕ) (text : List ℕ) → run (spaced g) i (drop i text) ≡ no_at e q → run (g >>= λ l. eat_ws >>= λ _. byte_if 42 x (ret (opened t l j))) i (drop i text) ≡ no_at e q
unfolding spaced after run eat_ws ◌>>=◌
refused_run g x t j i e q text h = bind_at g (λ l. eat_ws >>= λ _. byte_if 42 x (ret (opened t l j))) text i ∙ go (run g i (drop i text)) (sym (bind_at g (λ l. eat_ws >>= λ _. ret l) text i) ∙ h)
  where
    go : (r : Res Listed) → after (λ l. eat_ws >>= λ _. ret l) text r ≡ no_at e q → after (λ l. eat_ws >>= λ _. byte_if 42 x (ret (opened t l j))) text r ≡ no_at e q
    go (ok m y) w = absurd (let z : ◌≡◌ {A = ℕ} 0 1 = cc in omega arith)
    go (closed ws y) w = absurd (let z : ◌≡◌ {A = ℕ} 0 1 = cc in omega arith)
    go (no_at a y) w = cc

spaced_list : (g : Prog Listed) {text : List ℕ} {r1 r2 r3 : Parsed} {v v2 : List ℕ} (n d : ℕ) → Leads g 0 [] (made (listed n d) text r1) text r1 r1 v r2 v2 → Gives eat_ws tt text r2 r3 → Leads (spaced g) 0 [] (made (listed n d) text r1) text r1 r1 v r3 v2
unfolding spaced
spaced_list g n d i gv = then _ i (λ ws. val _ gv done)

byte_run : {A : Type 0} (b : ℕ) (f g : Prog A) (text : List ℕ) (i : ℕ) (z : Bool) → is_byte b (byte_at (drop i text)) ≡ z → run (byte_if b f g) i (drop i text) ≡ run (elim z [ true ↦ eat f | false ↦ g ]) i (drop i text)
unfolding run byte_if
byte_run b f g text i z e = ap (λ (y : Bool). run (elim y [ true ↦ eat f | false ↦ g ]) i (drop i text)) e

some_forty : (s : List ℕ) → byte_at s ≡ 40 → 1 ≤ length s
unfolding byte_at
some_forty [] e = absurd (omega arith)
some_forty (x ∷ s) e = omega arith

module _ (f : Prog TypeOut) (bad : ℕ) {text : List ℕ} {p0 q q1 : Parsed} {v : List ℕ} (u : ℕ) (pos : 0 < u) (gw : Gives eat_ws tt text q q1) (t : List ℕ) where
  from_here : {E : Goal TypeOut} {q3 : Parsed} {v3 : List ℕ} → ((j : ℕ) → Leads (byte_if 40 (parse_type_list bad f >>= λ l. eat_ws >>= λ _. byte_if 42 (suffixes (u - 1) bad f ptr_words) (ret (opened t l j))) (opt_addrspace >>= λ _. byte_if 42 (suffixes (u - 1) bad f ptr_words) (ret (plain t)))) 0 t E text p0 q1 v q3 v3) → Leads (suffixes u bad f t) 0 t E text p0 q v q3 v3
  unfolding suffixes
  from_here k = more (λ z. suffixes z bad f t) u pos (val _ gw (place_then _ k))

  pub suffix_star : {q2 q3 q4 : Parsed} {v4 : List ℕ} {z z2 : Bool} → z ≡ looks_p text q1 40 → z ≡ false → Gives opt_addrspace tt text q1 q2 → z2 ≡ looks_p text q2 42 → z2 ≡ true → q3 ≡ passed text 1 q2 → (q4 ≡ replaced p0 q3) × (v4 ≡ replaces 360287970189639681 p0 q3 v) → Leads (suffixes u bad f t) 0 t (reach (suffixes (u - 1) bad f) text p0) text p0 q v q4 v4
  suffix_star l y a l2 y2 x o = from_here (λ j. byte_no _ _ l y (val _ a (byte_yes _ _ l2 y2 x (replace_then _ o (stay (suffixes (u - 1) bad f))))))

  pub suffix_none : {g : Prog Listed} {q2 : Parsed} {z z2 : Bool} → z ≡ looks_p text q1 40 → z ≡ false → Gives opt_addrspace tt text q1 q2 → z2 ≡ looks_p text q2 42 → z2 ≡ false → Leads (suffixes u bad f t) 0 t (typed g text p0) text p0 q v q2 v
  suffix_none l y a l2 y2 = from_here (λ j. byte_no _ _ l y (val _ a (byte_no _ _ l2 y2 plain_here)))

  module _ {r1 r2 r3 : Parsed} {v2 : List ℕ} {z : Bool} (n d : ℕ) (l : z ≡ looks_p text q1 40) (y : z ≡ true) (x : r1 ≡ passed text 1 q1) (i : Leads (parse_type_list bad f) 0 [] (made (listed n d) text r1) text r1 r1 v r2 v2) (gv : Gives eat_ws tt text r2 r3) where
    pub suffix_fun : {r4 q4 : Parsed} {v4 : List ℕ} {z2 : Bool} → z2 ≡ looks_p text r3 42 → z2 ≡ true → r4 ≡ passed text 1 r3 → (q4 ≡ replaced p0 r4) × (v4 ≡ replaces 360287970189639681 p0 r4 v2) → Leads (suffixes u bad f t) 0 t (reach (suffixes (u - 1) bad f) text p0) text p0 q v q4 v4
    suffix_fun l2 y2 x2 o = from_here (λ j. byte_yes _ _ l y x (then _ i (λ ws. val _ gv (byte_yes _ _ l2 y2 x2 (replace_then _ o (stay (suffixes (u - 1) bad f)))))))

    pub suffix_back : {r4 : Parsed} {z2 : Bool} → z2 ≡ looks_p text r3 42 → z2 ≡ false → r4 ≡ back_to q1 r3 → Leads (suffixes u bad f t) 0 t (typed (parse_type_list bad f) text p0) text p0 q v r4 v2
    unfolding suffixes place run ◌>>=◌ byte_if
    suffix_back {r4} {z2} l2 y2 o = more (λ z. suffixes z bad f t) u pos (val _ gw ends)
      where
        body : ℕ → Prog TypeOut
        body j = byte_if 40 (parse_type_list bad f >>= λ l. eat_ws >>= λ _. byte_if 42 (suffixes (u - 1) bad f ptr_words) (ret (opened t l j))) (opt_addrspace >>= λ _. byte_if 42 (suffixes (u - 1) bad f ptr_words) (ret (plain t)))

        inner : ℕ → Prog TypeOut
        inner j = parse_type_list bad f >>= λ l. eat_ws >>= λ _. byte_if 42 (suffixes (u - 1) bad f ptr_words) (ret (opened t l j))

        some : (cur : Cursor) → q1 ≡ Ok cur → is_byte 40 (byte_at (drop cur.at text)) ≡ true
        some cur e = ap (λ (z : Parsed). looks_p text z 40) (sym e) ∙ sym l ∙ y

        more_text : (cur : Cursor) → q1 ≡ Ok cur → 1 ≤ length (drop cur.at text)
        more_text cur e = some_forty (drop cur.at text) (is_forty (drop cur.at text) (some cur e))

        start : (cur : Cursor) → q1 ≡ Ok cur → cur.at ≤ length text → r1 ≡ Ok (record { at = cur.at + 1; w = cur.w })
        start cur e h = x ∙ ap (passed text 1) e ∙ pass_in text 1 cur h (more_text cur e)

        step : (cur : Cursor) → q1 ≡ Ok cur → run (body cur.at) cur.at (drop cur.at text) ≡ run (inner cur.at) (cur.at + 1) (drop (cur.at + 1) text)
        step cur e = byte_run 40 _ _ text cur.at true (some cur e) ∙ run_eat (inner cur.at) text cur.at (more_text cur e)

        conv : (b : Budget) (low : List ℕ) (k : ℕ) (cur : Cursor) → q1 ≡ Ok cur → At b text p0 (0 + k) low t cur v → {w : Res Listed} {r : Parsed} → z2 ≡ looks_p text r 42 → run (spaced (parse_type_list bad f)) (cur.at + 1) (drop (cur.at + 1) text) ≡ w → Ends b text r1 k (low ++ t) (listed n d) w r v2 → TypeEnds (parse_type_list bad f) b text p0 k low (run (body cur.at) cur.at (drop cur.at text)) (back_to q1 r) v2
        conv b low k cur e a no-star h (at {ws = ws} {cur = cur2} c) =
            let res : run (body cur.at) cur.at (drop cur.at text) ≡ ok (opened t (listed n d ws) cur.at) cur2.at = step cur e ∙ opened_run (parse_type_list bad f) (suffixes (u - 1) bad f ptr_words) t cur.at (cur.at + 1) cur2.at (listed n d ws) text h (sym no-star ∙ y2) in
            rw (res, e) (back (back_at ws 0 a c) (is_forty (drop cur.at text) (some cur e)) (record { runs = h }))
        conv b low k cur e a no-star h (out {e = en} {q = qn}) =
            let res : run (body cur.at) cur.at (drop cur.at text) ≡ no_at en qn = step cur e ∙ refused_run (parse_type_list bad f) (suffixes (u - 1) bad f ptr_words) t cur.at (cur.at + 1) en qn text h in
            rw res none

        list : Leads (spaced (parse_type_list bad f)) 0 [] (made (listed n d) text r1) text r1 r1 v r3 v2
        list = spaced_list (parse_type_list bad f) n d i gv

        list_at : (b : Budget) (low : List ℕ) (k : ℕ) (cur : Cursor) → q1 ≡ Ok cur → At b text p0 (0 + k) low t cur v → At b text r1 (0 + k) (low ++ t) [] (record { at = cur.at + 1; w = cur.w }) v
        list_at b low k cur e a = at_part (start cur e a.inside) (at_place (cur.at + 1) (0 + k) (omega arith) (omega (arith, more_text cur e, length-drop cur.at text)) (omega arith) a)

        ends : Leads (place >>= body) 0 t (typed (parse_type_list bad f) text p0) text p0 q1 v r4 v2
        ends = record {
          runs = λ b low k cur e a. rw o (conv b low k cur e a l2 refl (list.runs b (low ++ t) k _ (start cur e a.inside) (list_at b low k cur e a)));
          hands = λ e h s. o ∙ ap (back_to q1) (list.hands e h (x ∙ ap (passed text 1) s));
        }

pub suffix_out : (f : Prog TypeOut) (bad u : ℕ) (t : List ℕ) {g : Prog Listed} {text : List ℕ} {p0 p : Parsed} {w : List ℕ} → u ≤ 0 → Leads (suffixes u bad f t) 0 t (typed g text p0) text p0 p w p w
unfolding suffixes
suffix_out f bad u t h = no_more (λ z. suffixes z bad f t) u h plain_here

-- ---- the depth
pub type_none : {d : ℕ} {text : List ℕ} {p q r : Parsed} {w : List ℕ} → d ≡ 0 → Gives eat_ws tt text p q → r ≡ refused 16 q → Types d text p w r w
unfolding parse_type
type_none {d} e g h = rw e (val _ g (fail_is _ h))

module _ {text : List ℕ} {p q r r2 : Parsed} {w w1 w2 : List ℕ} where
  depth_step : (d : ℕ) → Gives eat_ws tt text p q → Leads (parse_base_type (parse_type d)) 0 [] (made same text q) text q q w r w1 → ((t : List ℕ) → Leads (suffixes 16777217 (no_type d) (parse_type d) t) 0 t (typed (parse_type_list (no_type d) (parse_type d)) text q) text q r w1 r2 w2) → Types (suc d) text p w r2 w2
  unfolding parse_type type_with list_of
  depth_step d g h k = val _ g (type_call (then _ h k))

  pub type_some : (d : ℕ) → (d ≡ 0 → ⊥) → Gives eat_ws tt text p q → Leads (parse_base_type (parse_type (d - 1))) 0 [] (made same text q) text q q w r w1 → ((t : List ℕ) → Leads (suffixes 16777217 (no_type (d - 1)) (parse_type (d - 1)) t) 0 t (typed (parse_type_list (no_type (d - 1)) (parse_type (d - 1))) text q) text q r w1 r2 w2) → Types d text p w r2 w2
  type_some d n g h k = let e : suc (d - 1) ≡ d = omega arith in subst (λ (z : ℕ). Types z text p w r2 w2) e (depth_step (d - 1) g h k)

-- ---- which words cannot stand
module _ {text : List ℕ} {E : Goal (List ℕ)} {c : ℕ} {mid : List ℕ} {p0 p p' : Parsed} {w w' : List ℕ} (g : Prog (List ℕ)) where
  pub words_skipped : (b : ℕ) {r : Bool} → r ≡ looks_p text p b → r ≡ true → (eqb b 118 ≡ false) × (eqb b 102 ≡ false) × (eqb b 100 ≡ false) × (eqb b 112 ≡ false) × (eqb b 108 ≡ false) × (eqb b 109 ≡ false) → Leads g c mid E text p0 p w p' w' → Leads (word_types g) c mid E text p0 p w p' w'
  unfolding word_types
  words_skipped b l y n s =
      word_no _ _ refl (word_other text b 118 _ p l y n.0) (word_no _ _ refl (word_other text b 102 _ p l y n.1) (word_no _ _ refl (word_other text b 100 _ p l y n.2) (word_no _ _ refl (word_other text b 112 _ p l y n.3)
      (word_no _ _ refl (word_other text b 108 _ p l y n.4) (word_no _ _ refl (word_other text b 109 _ p l y n.5) s)))))

-- what stands behind the words does not matter where one of them does
word_cong : {A : Type 0} (kw : List ℕ) (f g h : Prog A) (i : ℕ) (s : List ℕ) → run g i s ≡ run h i s → run (word_if kw f g) i s ≡ run (word_if kw f h) i s
unfolding run word_if
word_cong {A} kw f g h i s e = go (same_word (lead_word s) kw)
  where
    go : (z : Bool) → run {A = A} (elim z [ true ↦ eat_n (length kw) f | false ↦ g ]) i s ≡ run {A = A} (elim z [ true ↦ eat_n (length kw) f | false ↦ h ]) i s
    go true = refl
    go false = e

words_cong : (g h : Prog (List ℕ)) (i : ℕ) (s : List ℕ) → run g i s ≡ run h i s → run (word_types g) i s ≡ run (word_types h) i s
unfolding word_types
words_cong g h i s e = word_cong _ _ _ _ i s (word_cong _ _ _ _ i s (word_cong _ _ _ _ i s (word_cong _ _ _ _ i s (word_cong _ _ _ _ i s (word_cong _ _ _ _ i s e)))))

-- ---- a type without what may stand behind it
-- the forms that begin with a byte of their own
unfoldable pub byte_types : Prog TypeOut → Prog (List ℕ)
byte_types f = byte_if 105 int_type (byte_if 37 (name_node 7) (byte_if 91 (array_type 0 93 f) (byte_if 123 (struct_type f) (byte_if 60 (packed_type f) (refuse 5)))))

module _ (f : Prog TypeOut) {text : List ℕ} {c : ℕ} {mid : List ℕ} {E : Goal (List ℕ)} {p0 p p' : Parsed} {w w' : List ℕ} where
  pub base_bytes : (b : ℕ) {r : Bool} → r ≡ looks_p text p b → r ≡ true → (eqb b 118 ≡ false) × (eqb b 102 ≡ false) × (eqb b 100 ≡ false) × (eqb b 112 ≡ false) × (eqb b 108 ≡ false) × (eqb b 109 ≡ false) → Leads (byte_types f) c mid E text p0 p w p' w' → Leads (parse_base_type f) c mid E text p0 p w p' w'
  unfolding parse_base_type leaf_types word_types byte_types
  base_bytes b l y n s = words_skipped (byte_types f) b l y n s

  pub base_words : {r1 r2 r3 r4 r5 : Bool} → r1 ≡ looks_p text p 105 → r1 ≡ false → r2 ≡ looks_p text p 37 → r2 ≡ false → r3 ≡ looks_p text p 91 → r3 ≡ false → r4 ≡ looks_p text p 123 → r4 ≡ false → r5 ≡ looks_p text p 60 → r5 ≡ false → Leads (word_types (refuse 5)) c mid E text p0 p w p' w' → Leads (parse_base_type f) c mid E text p0 p w p' w'
  unfolding parse_base_type leaf_types word_types byte_types
  base_words l1 y1 l2 y2 l3 y3 l4 y4 l5 y5 s = record {
    runs = λ b low k cur t a. subst (λ (z : Res (List ℕ)). E.ends b k low z p' w') (sym (words_cong (byte_types f) (refuse 5) cur.at (drop cur.at text) (bytes_run cur t))) (s.runs b low k cur t a);
    hands = s.hands;
  }
    where
      seen : (cur : Cursor) → p ≡ Ok cur → (b : ℕ) {r : Bool} → r ≡ looks_p text p b → r ≡ false → is_byte b (byte_at (drop cur.at text)) ≡ false
      seen cur t b l y = ap (λ (z : Parsed). looks_p text z b) (sym t) ∙ sym l ∙ y

      bytes_run : (cur : Cursor) → p ≡ Ok cur → run (byte_types f) cur.at (drop cur.at text) ≡ run (refuse 5) cur.at (drop cur.at text)
      bytes_run cur t =
          byte_run 105 _ _ text cur.at false (seen cur t 105 l1 y1) ∙ byte_run 37 _ _ text cur.at false (seen cur t 37 l2 y2) ∙ byte_run 91 _ _ text cur.at false (seen cur t 91 l3 y3) ∙
          byte_run 123 _ _ text cur.at false (seen cur t 123 l4 y4) ∙ byte_run 60 _ _ text cur.at false (seen cur t 60 l5 y5)

-- ---- what a type refuses with where none begins
pub none_left : (d : ℕ) → d ≡ 0 → 16 ≡ no_type d
unfolding no_type
none_left d e = rw e

pub some_left : (d : ℕ) → (d ≡ 0 → ⊥) → 5 ≡ no_type d
unfolding no_type
some_left zero n = absurd (n refl)
some_left (suc d) n = refl

-- the number that three dots refuse with, in the code
pub dots_as : {bad n : ℕ} {text : List ℕ} {p q : Parsed} → bad ≡ n → Gives (three_dots bad) tt text p q → Gives (three_dots n) tt text p q
dots_as {bad} {n} {text} {p} {q} e g = subst (λ (z : ℕ). Gives (three_dots z) tt text p q) e g
