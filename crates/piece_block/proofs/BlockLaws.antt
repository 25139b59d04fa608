-- The laws of a body and of a piece: a statement's kind says which way the body goes on, and each way is one step of `parse_body`.
-- Assumes nothing.
use mathlib.Core.Path.{◌≡◌, refl, sym, ap, ◌∙◌, subst}
use mathlib.Core.Bool.{Bool, true, false}
use mathlib.Core.List.{List, [], ◌∷◌, ◌++◌, append-nil}
use Prim.Native.Nat.{ℕ, ◌+◌, ◌-◌, ◌≤◌, ◌<◌}
use native.Mathlib.Omega.{arith}
use native.Mathlib.Numerals.{add-one}
use lib.ListN.{length, drop}
use borrow.Author.Tests.{eqb-true}
use Rattle.program.specs.Class.{class_of, is_word}
use Rattle.program.specs.Prog.{Prog, last, Res, ok, closed, no_at, run, ◌>>=◌, byte_at}
use Rattle.records.specs.Piece.{block_of, block_read}
use Rattle.grammar.specs.Lexer.{eat_ws, is_byte}
use Rattle.grammar.specs.Body.{Statement, label, instruction, terminator, in_block, parse_statement, over_at, finish_block, parse_body, parse_block}
use Rattle.grammar.specs.Function.{block_at}
use Rattle.lexer.specs.Step.{looks_p, passed, refused, place_p}
use Rattle.node_words.specs.Writes.{pushed, pushes}
use Rattle.lexer.specs.Reads.{Stands, Budget, At, Ends, at, out, Leads, Goal, made, reach, Reached, there, gone as is-gone, Gives}
use Rattle.lexer.specs.declared.Cursor.{Cursor}
use Rattle.lexer.specs.Parsed.{Parsed, Ok, Refused}
use Rattle.lexer.proofs.Laws.{after, bind_at, true_false, at_less, at_part, at_whole, val, place_then, place_at, fail_is, stay, more, no_more, some_byte, pass_in}
use Rattle.node_words.proofs.Laws.{push_then}
use Rattle.lexer.proofs.Laws.{turn}
use Rattle.inst_operands.specs.Rich.{Rich, richly}
use Rattle.inst_operands.proofs.RichLaws.{enrich}
use Rattle.piece_directory.specs.Piece.{BlockIs, is_block, is_tail_lem, no_block, Holds}
use Rattle.std.specs.Prelude.{Result}
use Rattle.records.specs.declared.Refusal.{Refusal}
use Rattle.piece_directory.specs.declared.pieces.Piece.{Piece}
use Rattle.piece_block.specs.Stated.{Which, a_label, an_instruction, a_terminator, StatementEnds, stated_at, no_statement, stated_by}
use Rattle.piece_block.specs.Bodied.{BodyEnds, through, shut, no_body, bodied}
use Rattle.piece_close.specs.Pieces.{piece_of, tail_of}

-- ---- a statement, then the rest
-- which hands a refusal on
statement_then : {B : Type 0} {f : Prog Statement} (h : Statement → Prog B) {kind m d c : ℕ} {mid : List ℕ} {E : Goal B} {text : List ℕ} {p0 p p1 p' : Parsed} {w w1 w' : List ℕ}
    → Leads f 0 [] (richly text (stated_by kind m d text p)) text p p w p1 w1 → ((e q : ℕ) → p1 ≡ Refused e q → p' ≡ Refused e q) → ((s : Statement) (ws : List ℕ) → Which kind m d s ws → Leads (h s) c (mid ++ ws) (richly text E) text p0 p1 w1 p' w') → Leads (f >>= h) c mid (richly text E) text p0 p w p' w'
unfolding after
statement_then {B} {f} h {kind} {m} {d} {c} {mid} {E} {text} {p0} {p} {p1} {p'} {w} {w1} {w'} r o s = record {
  runs = λ b low k cur e a x. subst (λ (z : Res B). E.ends b k low z p' w') (sym (bind_at f h text cur.at)) (go b low k a x o s (r.runs b (low ++ mid) (c + k) cur e (at_less (0 + (c + k)) (omega arith) (at_part e a)) x));
  hands = λ e q i. o e q (r.hands e q i);
}
  where
    go : (b : Budget) (low : List ℕ) (k : ℕ) {cur : Cursor} → At b text p0 (c + k) low mid cur w → Rich b text → {y : Parsed} {v : List ℕ} → ((e q : ℕ) → y ≡ Refused e q → p' ≡ Refused e q) → ((s : Statement) (ws : List ℕ) → Which kind m d s ws → Leads (h s) c (mid ++ ws) (richly text E) text p0 y v p' w') → {z : Res Statement} → StatementEnds kind m d b text p (c + k) (low ++ mid) z y v → E.ends b k low (after h text z) p' w'
    go b low k a x u t (stated_at {s = s} {ws = ws} {cur = cur} y i) = (t s ws y).runs b low k cur refl (at_whole a i) x
    go b low k a x u t (no_statement {e = e} {q = q}) = rw (u e q refl) (E.outs b k low e q w')

module _ {B : Type 0} {f : Prog Statement} (h : Statement → Prog B) {kind m d c : ℕ} {mid : List ℕ} {E : Goal B} {text : List ℕ} {p0 p p1 p' : Parsed} {w w1 w' : List ℕ} where
  pub then_label : Leads f 0 [] (richly text (stated_by kind m d text p)) text p p w p1 w1 → kind ≡ 0 → Leads (h (label d m)) c mid (richly text E) text p0 p1 w1 p' w' → Leads (f >>= h) c mid (richly text E) text p0 p w p' w'
  then_label r e k = statement_then h r k.hands (λ s ws x. go s ws x)
    where
      go : (s : Statement) (ws : List ℕ) → Which kind m d s ws → Leads (h s) c (mid ++ ws) (richly text E) text p0 p1 w1 p' w'
      go s ws (a_label x) = subst (λ (l : List ℕ). Leads (h (label d m)) c l (richly text E) text p0 p1 w1 p' w') (sym (append-nil mid)) k
      go s ws (an_instruction x) = absurd (omega arith)
      go s ws (a_terminator x) = absurd (omega arith)

  pub then_instruction : Leads f 0 [] (richly text (stated_by kind m d text p)) text p p w p1 w1 → kind ≡ 1 → ((ws : List ℕ) → Leads (h (instruction d ws)) c (mid ++ ws) (richly text E) text p0 p1 w1 p' w') → Leads (f >>= h) c mid (richly text E) text p0 p w p' w'
  then_instruction r e k = statement_then h r (k []).hands (λ s ws x. go s ws x)
    where
      go : (s : Statement) (ws : List ℕ) → Which kind m d s ws → Leads (h s) c (mid ++ ws) (richly text E) text p0 p1 w1 p' w'
      go s ws (a_label x) = absurd (omega arith)
      go s ws (an_instruction x) = k ws
      go s ws (a_terminator x) = absurd (omega arith)

  pub then_terminator : Leads f 0 [] (richly text (stated_by kind m d text p)) text p p w p1 w1 → (kind ≡ 0 → ⊥) → (kind ≡ 1 → ⊥) → ((ws : List ℕ) → Leads (h (terminator d ws)) c (mid ++ ws) (richly text E) text p0 p1 w1 p' w') → Leads (f >>= h) c mid (richly text E) text p0 p w p' w'
  then_terminator r e i k = statement_then h r (k []).hands (λ s ws x. go s ws x)
    where
      go : (s : Statement) (ws : List ℕ) → Which kind m d s ws → Leads (h s) c (mid ++ ws) (richly text E) text p0 p1 w1 p' w'
      go s ws (a_label x) = absurd (e x)
      go s ws (an_instruction x) = absurd (i x)
      go s ws (a_terminator x) = k ws

-- ---- a body
-- and on from where a loop is
pub go_on_rich : {A : Type 0} {f : Prog A} {g : List ℕ → Prog A} {c : ℕ} {mid : List ℕ} {E : Goal A} {text : List ℕ} {p0 p q : Parsed} {w v : List ℕ} {p' : Parsed} {w' : List ℕ} → Leads f c mid (richly text (reach g text p0)) text p0 p w q v → ((ws : List ℕ) → Leads (g ws) 0 ws (richly text E) text p0 q v p' w') → Leads f c mid (richly text E) text p0 p w p' w'
go_on_rich {A} {f} {g} {c} {mid} {E} {text} {p0} {p} {q} {w} {v} {p'} {w'} r s = record {
  runs = λ b low k cur e a x. go b low k x s (r.runs b low k cur e a x);
  hands = λ e x t. (s []).hands e x (r.hands e x t);
}
  where
    go : (b : Budget) (low : List ℕ) (k : ℕ) → Rich b text → {y : Parsed} {u : List ℕ} → ((ws : List ℕ) → Leads (g ws) 0 ws (richly text E) text p0 y u p' w') → {z : Res A} → Reached b g text p0 k low z y u → E.ends b k low z p' w'
    go b low k x t (there {mid = ws} {cur = cur} a) = (t ws).runs b low k cur refl (at_less (0 + k) (omega arith) a) x
    go b low k x t (is-gone {e = e} {q = y}) = rw ((t []).hands e y refl) (E.outs b k low e y w')

-- `}` or not
brace_not : {A : Type 0} (ws : List ℕ) (f : Prog A) (i : ℕ) (s : List ℕ) → is_byte 125 (byte_at s) ≡ false → run (last 125 ws f) i s ≡ run f i s
unfolding run byte_at is_byte
brace_not ws f i [] h = refl
brace_not ws f i (x ∷ s) h = rw (run, h)

brace_is : {A : Type 0} (ws : List ℕ) (f : Prog A) (i : ℕ) (s : List ℕ) → is_byte 125 (byte_at s) ≡ true → run (last 125 ws f) i s ≡ closed ws (i + 1)
unfolding run byte_at is_byte is_word class_of
brace_is ws f i [] h = true_false h
brace_is ws f i (x ∷ s) h = let e : x ≡ 125 = eqb-true _ _ h in rw (run, e, add-one)

looked : (text : List ℕ) {p : Parsed} {cur : Cursor} (b : ℕ) {r z : Bool} → r ≡ looks_p text p b → r ≡ z → p ≡ Ok cur → is_byte b (byte_at (drop cur.at text)) ≡ z
looked text b e y t = rw t at (sym e ∙ y)

pub brace_no : {A : Type 0} (ws : List ℕ) {f : Prog A} {c : ℕ} {mid : List ℕ} {E : Goal A} {text : List ℕ} {p0 p p' : Parsed} {w w' : List ℕ} {r : Bool} → r ≡ looks_p text p 125 → r ≡ false → Leads f c mid E text p0 p w p' w' → Leads (last 125 ws f) c mid E text p0 p w p' w'
brace_no {A} ws {f} {E = E} {text = text} {p' = p'} {w' = w'} e y h = record {
  runs = λ b low k cur t a. subst (λ (z : Res A). E.ends b k low z p' w') (sym (brace_not ws f cur.at (drop cur.at text) (looked text 125 e y t))) (h.runs b low k cur t a);
  hands = h.hands;
}

pub brace_yes : (x l n over : ℕ) (f : Prog (List ℕ)) {c : ℕ} {mid : List ℕ} {text : List ℕ} {p0 p q : Parsed} {w : List ℕ} {r : Bool} → r ≡ looks_p text p 125 → r ≡ true → q ≡ passed text 1 p → Leads (last 125 [] f) c mid (bodied true x l n over text p0) text p0 p w q w
brace_yes x l n over f {c} {mid} {text} {p0} {p} {q} {w} e y i = record {
  runs = λ b low k cur t a.
      let z : is_byte 125 (byte_at (drop cur.at text)) ≡ true = looked text 125 e y t in
      let o : q ≡ Ok (record { at = cur.at + 1; w = cur.w }) = i ∙ ap (passed text 1) t ∙ pass_in text 1 cur a.inside (some_byte 125 (drop cur.at text) z) in
      rw (brace_is [] f cur.at (drop cur.at text) z, o) (shut {cur = record { at = cur.at + 1; w = cur.w }} refl);
  hands = λ m x t. i ∙ ap (passed text 1) t;
}

-- behind a terminator
pub is_through : (x l n over : ℕ) (acc term : List ℕ) {c : ℕ} {text : List ℕ} {p0 p : Parsed} {w : List ℕ} → Leads (finish_block x l n over acc term) c (acc ++ term) (bodied false x l n over text p0) text p0 p w p w
is_through x l n over acc term {c} {text} {p0} {p} {w} = record {
  runs = λ b low k cur e a. subst (λ (z : Parsed). BodyEnds false x l n over b text p0 k low (run (finish_block x l n over acc term) cur.at (drop cur.at text)) z w) (sym e) (through acc term refl (at_less k (omega arith) a));
  hands = λ e q t. t;
}

-- One turn: the loop is at q with these numbers, behind the white space at q1, and no `}` stands there.
module _ {f : Prog (List ℕ)} {text w0 w : List ℕ} {p0 q q1 : Parsed} (left x l n over : ℕ) (inv : Leads f 0 [] (richly text (reach (parse_body left x l n over) text p0)) text p0 p0 w0 q w) (some : 0 < left) (space : Gives eat_ws tt text q q1) where
  pub body_tail : {q2 : Parsed} {r : Bool} → r ≡ looks_p text q1 125 → r ≡ true → q2 ≡ passed text 1 q1 → Leads f 0 [] (richly text (bodied true x l n over text p0)) text p0 p0 w0 q2 w
  unfolding parse_body
  body_tail e y i = go_on_rich inv (λ ws. more (λ u. parse_body u x l n over ws) left some (val _ space (enrich (brace_yes x l n over _ e y i))))

  module _ {kind m d : ℕ} {r : Bool} {q2 : Parsed} {w2 : List ℕ} (e : r ≡ looks_p text q1 125) (y : r ≡ false) (s : Leads (parse_statement (in_block x l n)) 0 [] (richly text (stated_by kind m d text q1)) text q1 q1 w q2 w2) where
    pub body_label : (v : ℕ) → kind ≡ 0 → m ≡ v → Leads f 0 [] (richly text (reach (parse_body (left - 1) d v n over) text p0)) text p0 p0 w0 q2 w2
    unfolding parse_body
    body_label v t o = subst (λ (v : ℕ). Leads f 0 [] (richly text (reach (parse_body (left - 1) d v n over) text p0)) text p0 p0 w0 q2 w2) o (go_on_rich inv (λ ws. more (λ u. parse_body u x l n over ws) left some (val _ space (brace_no [] e y (then_label _ s t (place_then _ (λ j. enrich (stay (parse_body (left - 1) d m n over)))))))))

    pub body_instruction : (j over2 : ℕ) → kind ≡ 1 → j ≡ place_p q2 → over2 ≡ over_at n over j → Leads f 0 [] (richly text (reach (parse_body (left - 1) d l (n + 1) over2) text p0)) text p0 p0 w0 q2 w2
    unfolding parse_body
    body_instruction j over2 t i o = go_on_rich inv (λ ws. more (λ u. parse_body u x l n over ws) left some (val _ space (brace_no [] e y (then_instruction _ s t (λ y. place_at _ j i (λ h. turn (ap (λ (v : ℕ). parse_body (left - 1) d l (n + 1) v (ws ++ y)) (sym o)) (enrich (stay (parse_body (left - 1) d l (n + 1) over2)))))))))

    pub body_terminator : (kind ≡ 0 → ⊥) → (kind ≡ 1 → ⊥) → Leads f 0 [] (richly text (bodied false d l n over text p0)) text p0 p0 w0 q2 w2
    unfolding parse_body
    body_terminator t i = go_on_rich inv (λ ws. more (λ u. parse_body u x l n over ws) left some (val _ space (brace_no [] e y (then_terminator _ s t i (λ y. place_then _ (λ j. enrich (is_through d l n over ws y)))))))

-- the same answer, made anew
pub lead_anew : {A : Type 0} {f : Prog A} {c : ℕ} {mid : List ℕ} {E : Goal A} {text : List ℕ} {p0 p q r : Parsed} {w w' : List ℕ} → r ≡ q → Leads f c mid E text p0 p w q w' → Leads f c mid E text p0 p w r w'
lead_anew {A} {f} {c} {mid} {E} {text} {p0} {p} {q} {r} {w} {w'} e h = subst (λ (z : Parsed). Leads f c mid E text p0 p w z w') (sym e) h

pub body_out : {f : Prog (List ℕ)} {text w0 w : List ℕ} {p0 q q2 : Parsed} {E : Goal (List ℕ)} (left x l n over : ℕ) → Leads f 0 [] (richly text (reach (parse_body left x l n over) text p0)) text p0 p0 w0 q w → left ≤ 0 → q2 ≡ refused 8 q → Leads f 0 [] (richly text E) text p0 p0 w0 q2 w
unfolding parse_body
body_out left x l n over inv h e = go_on_rich inv (λ ws. no_more (λ u. parse_body u x l n over ws) left h (fail_is 8 e))

-- ---- a piece
-- each byte pays for six words, two slots are free
start : Budget
start = record { base = 2; rate = 6; enough = omega arith }

rich : (text : List ℕ) → length text ≤ 16777216 → Rich start text
unfolding start
rich text h = record { rate = omega arith; room = omega arith }

first : (text w : List ℕ) → length text ≤ 16777216 → At start text (Ok (record { at = 0; w = 0 })) 2 [] [] (record { at = 0; w = 0 }) w
unfolding start
first text w h = record {
  from = record { at = 0; w = 0 };
  was = refl;
  base = refl;
  small = h;
  lid = omega arith;
  inside = omega arith;
  count = refl;
  paid = omega arith;
  stands = record { same = λ i l m. absurd (omega arith) };
}

-- the words in front are the piece's
held : (ws words : List ℕ) → Stands ws words → Holds ws words
held ws words s = record { same = s.same }

-- the cursor where a piece begins
abbrev pub origin : Parsed
origin = Ok (record { at = 0; w = 0 })

whole : {text w1 w2 : List ℕ} (i : ℕ) (w : List ℕ) {p1 p2 p' : Parsed} {v' : List ℕ} {E : Goal (List ℕ)} → length text ≤ 16777216 → (p1 ≡ pushed origin) × (w1 ≡ pushes 0 origin w) → (p2 ≡ pushed p1) × (w2 ≡ pushes 0 p1 w1) → Leads (parse_block i) 0 (0 ∷ (0 ∷ [])) (richly text E) text origin p2 w2 p' v' → E.ends start 0 [] (run (parse_block i) 0 text) p' v'
whole {text} i w small o1 o2 k = (push_then 0 o1 (push_then 0 o2 k)).runs start [] 0 (record { at = 0; w = 0 }) refl (first text w small) (rich text small)

-- The run's end and the code's answer, for a whole piece; x is the counter behind a block.
data PieceEnds (tail : Bool) (x : ℕ) (b : Budget) (text : List ℕ) (p0 : Parsed) (k : ℕ) (low : List ℕ) : Res (List ℕ) → Parsed → List ℕ → Type 0 where
  blocked : {ws : List ℕ} {cur : Cursor} {words : List ℕ} → tail ≡ false → At b text p0 k low ws cur words → PieceEnds tail x b text p0 k low (ok (x ∷ ws) cur.at) (Ok cur) words
  tailed : {cur : Cursor} {words : List ℕ} → tail ≡ true → PieceEnds tail x b text p0 k low (closed [] cur.at) (Ok cur) words
  no_piece : {e q : ℕ} {words : List ℕ} → PieceEnds tail x b text p0 k low (no_at e q) (Refused e q) words

abbrev pieced : Bool → ℕ → List ℕ → Parsed → Goal (List ℕ)
pieced tail x text p0 = record { ends = λ b k low r p words. PieceEnds tail x b text p0 k low r p words; outs = λ b k low e q words. no_piece }

not_both : {A : Type 0} {z : Bool} → z ≡ false → z ≡ true → A
not_both e t = true_false (sym e ∙ t)

module _ {f : Prog (List ℕ)} {tail : Bool} {x l n over c : ℕ} {mid : List ℕ} {text : List ℕ} {p0 p q : Parsed} {w v : List ℕ} (r : Leads f 0 [] (richly text (bodied tail x l n over text p)) text p p w q v) where
  tail_then : tail ≡ true → Leads f c mid (richly text (pieced true x text p0)) text p0 p w q v
  tail_then t = record {
    runs = λ b low k cur e a y. go b low k (r.runs b (low ++ mid) k cur e (at_less (0 + k) (omega arith) (at_part e a)) y);
    hands = r.hands;
  }
    where
      go : (b : Budget) (low : List ℕ) (k : ℕ) {z : Res (List ℕ)} {y : Parsed} {u : List ℕ} → BodyEnds tail x l n over b text p k (low ++ mid) z y u → PieceEnds true x b text p0 k low z y u
      go b low k (through acc term h i) = not_both h t
      go b low k (shut h) = tailed refl
      go b low k no_body = no_piece

  block_then : {p' : Parsed} {v' : List ℕ} → tail ≡ false → ((acc term : List ℕ) → Leads (finish_block x l n over acc term) 0 (mid ++ (acc ++ term)) (made (◌∷◌ x) text p0) text p0 q v p' v') → Leads f c mid (richly text (pieced false x text p0)) text p0 p w p' v'
  block_then {p'} {v'} t s = record {
    runs = λ b low k cur e a y. go b low k a s (r.runs b (low ++ mid) k cur e (at_less (0 + k) (omega arith) (at_part e a)) y);
    hands = λ e y i. (s [] []).hands e y (r.hands e y i);
  }
    where
      done_is : (b : Budget) (low : List ℕ) (k : ℕ) {z : Res (List ℕ)} {y : Parsed} {u : List ℕ} → Ends b text p0 k low (◌∷◌ x) z y u → PieceEnds false x b text p0 k low z y u
      done_is b low k (at a) = blocked refl a
      done_is b low k out = no_piece

      go : (b : Budget) (low : List ℕ) (k : ℕ) {cur : Cursor} → At b text p0 (c + k) low mid cur w → {y : Parsed} {u : List ℕ} → ((acc term : List ℕ) → Leads (finish_block x l n over acc term) 0 (mid ++ (acc ++ term)) (made (◌∷◌ x) text p0) text p0 y u p' v') → {z : Res (List ℕ)} → BodyEnds tail x l n over b text p k (low ++ mid) z y u → PieceEnds false x b text p0 k low z p' v'
      go b low k a o (through acc term {cur = cur} h i) = done_is b low k ((o acc term).runs b low k cur refl (at_less (0 + k) (omega arith) (at_whole a i)))
      go b low k a o (shut h) = not_both t h
      go b low k a o (no_body {e = e} {q = y}) = rw ((o [] []).hands e y refl) no_piece

-- what a piece's start gives
tail_answer : {x : ℕ} {b : Budget} {text low : List ℕ} {p0 : Parsed} {k : ℕ} {r : Res (List ℕ)} {p : Parsed} {words : List ℕ} → PieceEnds true x b text p0 k low r p words → BlockIs (block_of r) (tail_of p) words
unfolding block_of
tail_answer (blocked e a) = true_false (sym e)
tail_answer (tailed e) = is_tail_lem
tail_answer no_piece = no_block

block_answer : (x : ℕ) {b : Budget} {text : List ℕ} {p0 : Parsed} {k : ℕ} {r : Res (List ℕ)} {p : Parsed} {words : List ℕ} → PieceEnds false x b text p0 k [] r p words → BlockIs (block_of r) (piece_of x p) words
unfolding block_of
block_answer x (blocked {ws = ws} {words = words} e a) = is_block a.count (held ws words a.stands)
block_answer x (tailed e) = true_false e
block_answer x no_piece = no_block

module _ {text w1 w2 v : List ℕ} (i : ℕ) (w : List ℕ) {p1 p2 q : Parsed} {tail : Bool} {x l n over : ℕ} (small : length text ≤ 16777216) (o1 : (p1 ≡ pushed origin) × (w1 ≡ pushes 0 origin w)) (o2 : (p2 ≡ pushed p1) × (w2 ≡ pushes 0 p1 w1)) (r : Leads (parse_body 16777217 i 0 0 0 []) 0 [] (richly text (bodied tail x l n over text p2)) text p2 p2 w2 q v) where
  pub tail_is : {y : Result Piece Refusal} → tail ≡ true → y ≡ tail_of q → BlockIs (block_at i text) y v
  unfolding parse_block block_at block_read
  tail_is {y} t e = subst (λ (z : Result Piece Refusal). BlockIs (block_of (run (parse_block i) 0 text)) z v) (sym e) (tail_answer (whole i w small o1 o2 (tail_then r t)))

  pub block_is : {p' : Parsed} {v' : List ℕ} {y : Result Piece Refusal} → tail ≡ false → ((x : ℕ) (text acc term : List ℕ) → Leads (finish_block x l n over acc term) 0 (0 ∷ (0 ∷ (acc ++ term))) (made (◌∷◌ x) text origin) text origin q v p' v') → y ≡ piece_of x p' → BlockIs (block_at i text) y v'
  unfolding parse_block block_at block_read
  block_is {p'} {v'} {y} t k e = subst (λ (z : Result Piece Refusal). BlockIs (block_of (run (parse_block i) 0 text)) z v') (sym e) (block_answer x (whole i w small o1 o2 (block_then r t (k x text))))
