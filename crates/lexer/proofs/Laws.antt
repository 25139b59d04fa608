-- The laws of composition: what a program leads to, from what its parts lead to. Each takes a callee's `ensures` as it stands. They hold
-- since a run of a composed program is the run of its first part and, from where that ends, of the next (`run_bind`).
-- Assumes nothing.
use mathlib.Core.Path.{◌≡◌, refl, sym, ap, ◌∙◌, subst}
use mathlib.Core.List.{List, [], ◌∷◌, ◌++◌, append_assoc, append-nil}
use mathlib.Core.Bool.{Bool, true, false, ◌&&◌}
use mathlib.Core.Option.{Option}
use Prim.Native.Nat.{ℕ, zero, suc, ◌+◌, ◌-◌, ◌*◌, ◌≤◌, ◌<◌}
use native.Mathlib.Omega.{arith}
use native.Mathlib.Nat.{add-zero, mul-add, mul-le-mul_left, mul-le-mul_right}
use native.Mathlib.Numerals.{add-one}
use lib.Dec.{ltb, eqb}
use lib.ListN.{length, take, drop, length-drop}
use lib.Seq.{drop-drop}
use borrow.Author.Tests.{lt-ltb, le-leb, eqb-true, ltb-true}
use Rattle.program.specs.Class.{is_word}
use Rattle.program.specs.Prog.{Prog, ret, fail, eat, here, scan, Res, ok, closed, no_at, run, ◌>>=◌, byte_at, lead_word, scan_len}
use Rattle.program.specs.Local.{scan_len_le, next, run_bind, mono}
use Rattle.grammar.specs.Lexer.{eat_ws, refuse, place, is_byte, byte_if, byte_at_if, same_word, eat_n, word_if, word_at_if, token_if, three_dots, dots_if}
use Rattle.lexer.specs.Step.{bumped, looks_p, word_p, passed, refused, refused_at, place_p}
use Rattle.lexer.specs.Reads.{Stands, Budget, At, Ends, at, out, Leads, Goal, made, reach, Reached, there, gone as is-gone, same, Inside, Aim, Finds, Gave, got, not, Gives, Came, on, off, Comes}
use Rattle.lexer.specs.declared.Cursor.{Cursor}
use Rattle.records.specs.declared.Refusal.{Refusal}
use Rattle.lexer.specs.Parsed.{Parsed, Ok, Err, Refused}
use Rattle.program.specs.Lists.{drop_next}

-- ---- one program after another, in the whole text
unfoldable pub after : {A B : Type 0} → (A → Prog B) → List ℕ → Res A → Res B
after h text (ok a j) = run (h a) j (drop j text)
after h text (closed ws j) = closed ws j
after h text (no_at q p) = no_at q p

pub bind_at : {A B : Type 0} (f : Prog A) (h : A → Prog B) (text : List ℕ) (i : ℕ) → run (f >>= h) i (drop i text) ≡ after h text (run f i (drop i text))
unfolding next after
bind_at {A} {B} f h text i = run_bind f h i (drop i text) ∙ go (run f i (drop i text)) refl
  where
    go : (r : Res A) → run f i (drop i text) ≡ r → next h i (drop i text) r ≡ after h text r
    go (ok a j) e =
        let m : (i ≤ j) × (j ≤ i + length (drop i text)) = mono f i j (drop i text) (rw e refl) in
        let d : i + (j - i) ≡ j = omega arith in
        ap (run (h a) j) (drop-drop (j - i) i text ∙ ap (λ (k : ℕ). drop k text) d)
    go (closed ws j) e = refl
    go (no_at q p) e = refl

pub no_ok : {A : Type 0} (c : Cursor) (e q : ℕ) → ◌≡◌ {A = Parsed} (Ok c) (Refused e q) → A
no_ok c e q h = absurd (let z : ◌≡◌ {A = ℕ} 0 1 = cc in omega arith)

ok_same : (c d : Cursor) → ◌≡◌ {A = Parsed} (Ok c) (Ok d) → d ≡ c
ok_same c d e = cc

pub true_false : {A : Type 0} → ◌≡◌ {A = Bool} false true → A
true_false e = absurd (let z : ◌≡◌ {A = ℕ} 0 1 = cc in omega arith)

-- ---- the cursor and its words
pub bump_in : (n : ℕ) → n < 4294967296 → bumped n ≡ n + 1
unfolding bumped
bump_in n h = rw (lt-ltb _ _ h)

-- from i to j, each byte pays for three words at least
pub pays : (r i j m c : ℕ) → 3 ≤ r → i ≤ j → m + 3 * i ≤ c + 3 * j → m + r * i ≤ c + r * j
pays r i j m c e l h =
    let d : i + (j - i) ≡ j = omega arith in
    let s : r * (i + (j - i)) ≡ r * i + r * (j - i) = mul-add r i (j - i) in
    let t : r * j ≡ r * i + r * (j - i) = rw d at s in
    let u : 3 * (j - i) ≤ r * (j - i) = mul-le-mul_right (j - i) e in
    omega arith

module _ {b : Budget} {text : List ℕ} {p0 : Parsed} {c : ℕ} {low mid : List ℕ} {cur : Cursor} {words : List ℕ} where
  -- fewer words paid for
  unfoldable pub at_less : (m : ℕ) → m ≤ c → At b text p0 c low mid cur words → At b text p0 m low mid cur words
  at_less m h a = record { from = a.from; was = a.was; base = a.base; small = a.small; lid = a.lid; inside = a.inside; count = a.count; paid = omega (arith, a.paid); stands = a.stands }

  -- at a place further on, with what the bytes between pay for
  pub at_place : (j m : ℕ) → cur.at ≤ j → j ≤ length text → m + 3 * cur.at ≤ c + 3 * j → At b text p0 c low mid cur words → At b text p0 m low mid (record { at = j; w = cur.w }) words
  at_place j m l h k a = record { from = a.from; was = a.was; base = a.base; small = a.small; lid = a.lid; inside = h; count = a.count; paid = omega (arith, a.paid, pays b.rate cur.at j m c b.enough l k); stands = a.stands }

  -- taken up by a part, and back
  pub at_part : {p : Parsed} → p ≡ Ok cur → At b text p0 c low mid cur words → At b text p c (low ++ mid) [] cur words
  at_part e a = let n : (low ++ mid) ++ [] ≡ low ++ mid = append-nil (low ++ mid) in
      record { from = cur; was = e; base = a.count; small = a.small; lid = a.lid; inside = a.inside; count = rw n a.count; paid = rw n a.paid; stands = rw n a.stands }

  pub at_whole : {p : Parsed} {d : ℕ} {ws : List ℕ} {cur2 : Cursor} {words2 : List ℕ} → At b text p0 c low mid cur words → At b text p d (low ++ mid) ws cur2 words2 → At b text p0 d low (mid ++ ws) cur2 words2
  at_whole {p} {d} {ws} {cur2} {words2} a h = let n : (low ++ mid) ++ ws ≡ low ++ (mid ++ ws) = append_assoc low mid ws in
      record {
        from = a.from;
        was = a.was;
        base = a.base;
        small = a.small;
        lid = a.lid;
        inside = h.inside;
        count = subst (λ (l : List ℕ). cur2.w ≡ length l) n h.count;
        paid = subst (λ (l : List ℕ). length l + d ≤ b.base + b.rate * cur2.at) n h.paid;
        stands = subst (λ (l : List ℕ). Stands l words2) n h.stands;
      }

  -- the count of words has not reached its lid
  pub at_small : At b text p0 c low mid cur words → cur.w < 4294967296
  at_small a = omega (arith, a.lid, a.inside, a.count, a.paid, mul-le-mul_left b.rate a.inside)

-- ---- ends and loops of readers that write
-- the result is what stands
pub done : {A : Type 0} {c : ℕ} {mid : List ℕ} {mk : List ℕ → A} {text : List ℕ} {p0 p : Parsed} {w : List ℕ} → Leads (ret (mk mid)) c mid (made mk text p0) text p0 p w p w
unfolding run
done {c = c} {mid = mid} {mk = mk} {text = text} {p0 = p0} {w = w} = record {
  runs = λ b low k cur e a. subst (λ (z : Parsed). Ends b text p0 k low mk (ok (mk mid) cur.at) z w) (sym e) (at (at_less k (omega arith) a));
  hands = λ e q h. h;
}

-- the program goes on here
pub stay : {A : Type 0} {c : ℕ} {mid : List ℕ} (f : List ℕ → Prog A) {text : List ℕ} {p0 p : Parsed} {w : List ℕ} → Leads (f mid) c mid (reach f text p0) text p0 p w p w
stay {c = c} {mid = mid} f {text = text} {p0 = p0} {w = w} = record {
  runs = λ b low k cur e a. subst (λ (z : Parsed). Reached b f text p0 k low (run (f mid) cur.at (drop cur.at text)) z w) (sym e) (there (at_less k (omega arith) a));
  hands = λ e q h. h;
}

-- and on from there
pub go_on : {A : Type 0} {f : Prog A} {g : List ℕ → Prog A} {c : ℕ} {mid : List ℕ} {E : Goal A} {text : List ℕ} {p0 p q : Parsed} {w v : List ℕ} {p' : Parsed} {w' : List ℕ} → Leads f c mid (reach g text p0) text p0 p w q v → ((ws : List ℕ) → Leads (g ws) 0 ws E text p0 q v p' w') → Leads f c mid E text p0 p w p' w'
go_on {A} {f} {g} {c} {mid} {E} {text} {p0} {p} {q} {w} {v} {p'} {w'} r s = record {
  runs = λ b low k cur e a. go b low k s (r.runs b low k cur e a);
  hands = λ e x t. (s []).hands e x (r.hands e x t);
}
  where
    go : (b : Budget) (low : List ℕ) (k : ℕ) {y : Parsed} {u : List ℕ} → ((ws : List ℕ) → Leads (g ws) 0 ws E text p0 y u p' w') → {z : Res A} → Reached b g text p0 k low z y u → E.ends b k low z p' w'
    go b low k t (there {mid = ws} {cur = cur} a) = (t ws).runs b low k cur refl (at_less (0 + k) (omega arith) a)
    go b low k t (is-gone {e = e} {q = x}) = rw ((t []).hands e x refl) (E.outs b k low e x w')

-- a reader called where nothing has been written yet
pub call : {A : Type 0} {f : Prog A} {c : ℕ} (d : ℕ) {mk : List ℕ → A} {text : List ℕ} {p0 p p' : Parsed} {w w' : List ℕ} → d ≤ c → Leads f d [] (made mk text p) text p p w p' w' → Leads f c [] (made mk text p0) text p0 p w p' w'
call {A} {f} {c} d {mk} {text} {p0} {p} {p'} {w} {w'} l r = record {
  runs = λ b low k cur e a. go b low k a (r.runs b (low ++ []) k cur e (at_less (d + k) (omega arith) (at_part e a)));
  hands = r.hands;
}
  where
    go : (b : Budget) (low : List ℕ) (k : ℕ) {cur : Cursor} → At b text p0 (c + k) low [] cur w → {y : Parsed} {v : List ℕ} {z : Res A} → Ends b text p k (low ++ []) mk z y v → Ends b text p0 k low mk z y v
    go b low k a (at {ws = ws} {cur = cur} h) = at (at_whole a h)
    go b low k a out = out

-- ---- one part, then the rest
-- A program that passes n bytes at least where it gives an answer.
pub record Passes {A : Type 0} (n : ℕ) (f : Prog A) : Type 0 where
  pub over : (i j : ℕ) (s : List ℕ) (a : A) → run f i s ≡ ok a j → i + n ≤ j

module _ {A B : Type 0} {f : Prog A} (h : A → Prog B) {c : ℕ} {mid : List ℕ} {E : Goal B} {text : List ℕ} {p0 p p1 : Parsed} {w : List ℕ} {p' : Parsed} {w' : List ℕ} where
  -- a part that writes
  pub then : {w1 : List ℕ} {mk1 : List ℕ → A} → Leads f 0 [] (made mk1 text p) text p p w p1 w1 → ((ws : List ℕ) → Leads (h (mk1 ws)) c (mid ++ ws) E text p0 p1 w1 p' w') → Leads (f >>= h) c mid E text p0 p w p' w'
  unfolding after
  then {w1} {mk1} r s = record {
    runs = λ b low k cur e a. subst (λ (z : Res B). E.ends b k low z p' w') (sym (bind_at f h text cur.at)) (go b low k a s (r.runs b (low ++ mid) (c + k) cur e (at_less (0 + (c + k)) (omega arith) (at_part e a))));
    hands = λ e q i. (s []).hands e q (r.hands e q i);
  }
    where
      go : (b : Budget) (low : List ℕ) (k : ℕ) {cur : Cursor} → At b text p0 (c + k) low mid cur w → {y : Parsed} {v : List ℕ} → ((ws : List ℕ) → Leads (h (mk1 ws)) c (mid ++ ws) E text p0 y v p' w') → {z : Res A} → Ends b text p (c + k) (low ++ mid) mk1 z y v → E.ends b k low (after h text z) p' w'
      go b low k a t (at {ws = ws} {cur = cur} i) = (t ws).runs b low k cur refl (at_whole a i)
      go b low k a t (out {e = e} {q = q}) = rw ((t []).hands e q refl) (E.outs b k low e q w')

  -- a part that writes nothing and passes n bytes at least, which pay for three words each
  pub val_paid : (n : ℕ) {a : A} → Passes n f → Gives f a text p p1 → Leads (h a) (c + 3 * n) mid E text p0 p1 w p' w' → Leads (f >>= h) c mid E text p0 p w p' w'
  unfolding after
  val_paid n {a} o r s = record {
    runs = λ b low k cur e i. subst (λ (z : Res B). E.ends b k low z p' w') (sym (bind_at f h text cur.at)) (go b low k i (λ j x. o.over cur.at j (drop cur.at text) x) s (r.runs cur e (record { inside = i.inside; small = i.small })));
    hands = λ e q i. s.hands e q (r.hands e q i);
  }
    where
      go : (b : Budget) (low : List ℕ) (k : ℕ) {cur : Cursor} → At b text p0 (c + k) low mid cur w → {z : Res A} → ((j : ℕ) (x : A) → z ≡ ok x j → cur.at + n ≤ j) → {y : Parsed} → Leads (h a) (c + 3 * n) mid E text p0 y w p' w' → Gave text a cur.at cur.w z y → E.ends b k low (after h text z) p' w'
      go b low k {cur} i v t (got {cur = cur2} l x y) = t.runs b low k cur2 refl (subst (λ (u : ℕ). At b text p0 (c + 3 * n + k) low mid (record { at = cur2.at; w = u }) w) (sym y) (at_place cur2.at (c + 3 * n + k) l x (omega (arith, v cur2.at a refl)) i))
      go b low k i v t (not {e = e} {q = q}) = rw (t.hands e q refl) (E.outs b k low e q w')

  -- a part that writes nothing
  pub val : {a : A} → Gives f a text p p1 → Leads (h a) c mid E text p0 p1 w p' w' → Leads (f >>= h) c mid E text p0 p w p' w'
  unfolding after
  val {a} r s = record {
    runs = λ b low k cur e i. subst (λ (z : Res B). E.ends b k low z p' w') (sym (bind_at f h text cur.at)) (go b low k i s (r.runs cur e (record { inside = i.inside; small = i.small })));
    hands = λ e q i. s.hands e q (r.hands e q i);
  }
    where
      go : (b : Budget) (low : List ℕ) (k : ℕ) {cur : Cursor} → At b text p0 (c + k) low mid cur w → {z : Res A} {y : Parsed} → Leads (h a) c mid E text p0 y w p' w' → Gave text a cur.at cur.w z y → E.ends b k low (after h text z) p' w'
      go b low k i t (got {cur = cur2} l x y) = t.runs b low k cur2 refl (subst (λ (u : ℕ). At b text p0 (c + k) low mid (record { at = cur2.at; w = u }) w) (sym y) (at_place cur2.at (c + k) l x (omega arith) i))
      go b low k i t (not {e = e} {q = q}) = rw (t.hands e q refl) (E.outs b k low e q w')

-- the program goes on from q as g, where nothing has been written on the way
pub val_on : {A : Type 0} {f g : Prog A} {c : ℕ} {mid : List ℕ} {E : Goal A} {text : List ℕ} {p0 p q : Parsed} {w : List ℕ} {p' : Parsed} {w' : List ℕ} → Comes f g text p q → Leads g c mid E text p0 q w p' w' → Leads f c mid E text p0 p w p' w'
val_on {A} {f} {g} {c} {mid} {E} {text} {p0} {p} {q} {w} {p'} {w'} r s = record {
  runs = λ b low k cur e i. go b low k i s (r.runs cur e (record { inside = i.inside; small = i.small }));
  hands = λ e x i. s.hands e x (r.hands e x i);
}
  where
    go : (b : Budget) (low : List ℕ) (k : ℕ) {cur : Cursor} → At b text p0 (c + k) low mid cur w → {z : Res A} {y : Parsed} → Leads g c mid E text p0 y w p' w' → Came text g cur.at cur.w z y → E.ends b k low z p' w'
    go b low k i t (on {cur = cur2} l x y) = t.runs b low k cur2 refl (subst (λ (u : ℕ). At b text p0 (c + k) low mid (record { at = cur2.at; w = u }) w) (sym y) (at_place cur2.at (c + k) l x (omega arith) i))
    go b low k i t (off {e = e} {q = q}) = rw (t.hands e q refl) (E.outs b k low e q w')

-- the cursor's place, which the rest may know
pub place_then : {A : Type 0} (h : ℕ → Prog A) {c : ℕ} {mid : List ℕ} {E : Goal A} {text : List ℕ} {p0 p p' : Parsed} {w w' : List ℕ} → ((j : ℕ) → Leads (h j) c mid E text p0 p w p' w') → Leads (place >>= h) c mid E text p0 p w p' w'
unfolding place run ◌>>=◌
place_then h r = record { runs = λ b low k cur e a. (r cur.at).runs b low k cur e a; hands = (r 0).hands }

-- the place as the code has it
pub place_at : {A : Type 0} (h : ℕ → Prog A) {c : ℕ} {mid : List ℕ} {E : Goal A} {text : List ℕ} {p0 p p' : Parsed} {w w' : List ℕ} (j : ℕ) → j ≡ place_p p → (j ≤ 16777216 → Leads (h j) c mid E text p0 p w p' w') → Leads (place >>= h) c mid E text p0 p w p' w'
unfolding place run ◌>>=◌
place_at {A} h {E = E} {text = text} {p' = p'} {w' = w'} j e r = record {
  runs = λ b low k cur t a.
      let i : j ≡ cur.at = e ∙ ap place_p t in
      subst (λ (n : ℕ). E.ends b k low (run (h n) cur.at (drop cur.at text)) p' w') i ((r (omega (arith, a.inside, a.small))).runs b low k cur t a);
  hands = λ n x t. let i : j ≡ 0 = e ∙ ap place_p t in (r (omega arith)).hands n x t;
}

-- ---- tests
pub some_byte : (b : ℕ) (s : List ℕ) → is_byte b (byte_at s) ≡ true → 1 ≤ length s
unfolding is_byte byte_at
some_byte b [] e = go (ltb b 256) refl e
  where
    go : (z : Bool) → ltb b 256 ≡ z → (z && eqb 256 b) ≡ true → 1 ≤ 0
    go true t e = let l : b < 256 = ltb-true _ _ t in let q : 256 ≡ b = eqb-true _ _ e in absurd (omega arith)
    go false t e = true_false e
some_byte b (x ∷ s) e = omega arith

pub some_word : (kw s : List ℕ) → same_word (lead_word s) kw ≡ true → length kw ≤ length s
unfolding same_word lead_word
some_word [] s e = omega arith
some_word (k ∷ ks) [] e = true_false e
some_word (k ∷ ks) (x ∷ s) e = go (is_word x) (some_word ks s) e
  where
    two : (d : Bool) → (same_word (lead_word s) ks ≡ true → length ks ≤ length s) → (d && same_word (lead_word s) ks) ≡ true → suc (length ks) ≤ suc (length s)
    two true h e = omega (arith, h e)
    two false h e = true_false e

    go : (b : Bool) → (same_word (lead_word s) ks ≡ true → length ks ≤ length s) → same_word (elim b [ true ↦ x ∷ lead_word s | false ↦ [] ]) (k ∷ ks) ≡ true → suc (length ks) ≤ suc (length s)
    go true h e = two (eqb x k) h e
    go false h e = true_false e

pub run_eat : {A : Type 0} (f : Prog A) (text : List ℕ) (i : ℕ) → 1 ≤ length (drop i text) → run (eat f) i (drop i text) ≡ run f (i + 1) (drop (i + 1) text)
unfolding run
run_eat f text i h = let l : i < length text = omega (arith, length-drop i text) in rw (drop_next text i l, add-one)

pub run_eat_n : {A : Type 0} (n : ℕ) (f : Prog A) (text : List ℕ) (i : ℕ) → n ≤ length (drop i text) → run (eat_n n f) i (drop i text) ≡ run f (i + n) (drop (i + n) text)
unfolding eat_n
run_eat_n zero f text i h = rw (add-zero i)
run_eat_n (suc n) f text i h =
    let l : n ≤ length (drop (i + 1) text) = omega (arith, length-drop i text, length-drop (i + 1) text) in
    let e : i + 1 + n ≡ i + suc n = omega arith in
    run_eat (eat_n n f) text i (omega arith) ∙ run_eat_n n f text (i + 1) l ∙ ap (λ (j : ℕ). run f j (drop j text)) e

pub byte_run : {A : Type 0} (b : ℕ) (f g : Prog A) (text : List ℕ) (i : ℕ) (z : Bool) → is_byte b (byte_at (drop i text)) ≡ z → run (byte_if b f g) i (drop i text) ≡ run (elim z [ true ↦ eat f | false ↦ g ]) i (drop i text)
unfolding run byte_if
byte_run b f g text i z e = ap (λ (y : Bool). run (elim y [ true ↦ eat f | false ↦ g ]) i (drop i text)) e

word_run : {A : Type 0} (kw : List ℕ) (f g : Prog A) (text : List ℕ) (i : ℕ) (z : Bool) → same_word (lead_word (drop i text)) kw ≡ z → run (word_if kw f g) i (drop i text) ≡ run (elim z [ true ↦ eat_n (length kw) f | false ↦ g ]) i (drop i text)
unfolding run word_if
word_run kw f g text i z e = ap (λ (y : Bool). run (elim y [ true ↦ eat_n (length kw) f | false ↦ g ]) i (drop i text)) e

pub pass_in : (text : List ℕ) (m : ℕ) (cur : Cursor) → cur.at ≤ length text → m ≤ length (drop cur.at text) → passed text m (Ok cur) ≡ Ok (record { at = cur.at + m; w = cur.w })
pass_in text m cur h k = let l : m ≤ length text - cur.at = omega (arith, length-drop cur.at text) in rw (le-leb _ _ h, le-leb _ _ l)

-- m bytes on, in a run and in the code
pub moved : {A : Type 0} {mid : List ℕ} {E : Goal A} {text : List ℕ} {p0 : Parsed} {p' : Parsed} {w w' : List ℕ} {f : Prog A} (c m d : ℕ) (cur : Cursor) {q : Parsed} → q ≡ passed text m (Ok cur) → m ≤ length (drop cur.at text) → d ≤ c + 3 * m → (b : Budget) (low : List ℕ) (k : ℕ) → At b text p0 (c + k) low mid cur w → Leads f d mid E text p0 q w p' w' → E.ends b k low (run f (cur.at + m) (drop (cur.at + m) text)) p' w'
moved {text = text} {f = f} c m d cur e h l b low k a r = r.runs b low k (record { at = cur.at + m; w = cur.w }) (e ∙ pass_in text m cur a.inside h) (at_place (cur.at + m) (d + k) (omega arith) (omega (arith, a.inside, length-drop cur.at text)) (omega arith) a)

pub g_moved : {A : Type 0} {E : Aim A} {text : List ℕ} {p' : Parsed} {f : Prog A} (m : ℕ) (cur : Cursor) {q : Parsed} → q ≡ passed text m (Ok cur) → m ≤ length (drop cur.at text) → Inside text cur → Finds f E text q p' → E.ends cur.at cur.w (run f (cur.at + m) (drop (cur.at + m) text)) p'
g_moved {E = E} {text = text} {p' = p'} {f = f} m cur e h i r = E.sooner cur.at (cur.at + m) cur.w (run f (cur.at + m) (drop (cur.at + m) text)) p' (omega arith) (r.runs (record { at = cur.at + m; w = cur.w }) (e ∙ pass_in text m cur i.inside h) (record { inside = omega (arith, i.inside, length-drop cur.at text); small = i.small }))

-- what a test of the code says of the text under the cursor
seen : (text : List ℕ) {p : Parsed} {cur : Cursor} (b : ℕ) {r z : Bool} → r ≡ looks_p text p b → r ≡ z → p ≡ Ok cur → is_byte b (byte_at (drop cur.at text)) ≡ z
seen text b e y t = rw t at (sym e ∙ y)

read : (text : List ℕ) {p : Parsed} {cur : Cursor} (kw : List ℕ) {r z : Bool} → r ≡ word_p text p kw → r ≡ z → p ≡ Ok cur → same_word (lead_word (drop cur.at text)) kw ≡ z
read text kw e y t = rw t at (sym e ∙ y)

module _ {A : Type 0} {mid : List ℕ} {E : Goal A} {text : List ℕ} {p0 : Parsed} {p' : Parsed} {w w' : List ℕ} where
  pub byte_yes : {c : ℕ} {f : Prog A} (b : ℕ) (g : Prog A) {p q : Parsed} {r : Bool} → r ≡ looks_p text p b → r ≡ true → q ≡ passed text 1 p → Leads f (c + 3) mid E text p0 q w p' w' → Leads (byte_if b f g) c mid E text p0 p w p' w'
  byte_yes {c} {f} b g {p} {q} e y i h = record {
    runs = λ o low k cur t a.
        let z : is_byte b (byte_at (drop cur.at text)) ≡ true = seen text b e y t in
        let l : 1 ≤ length (drop cur.at text) = some_byte b (drop cur.at text) z in
        subst (λ (v : Res A). E.ends o k low v p' w') (sym (byte_run b f g text cur.at true z ∙ run_eat f text cur.at l)) (moved c 1 (c + 3) cur (i ∙ ap (passed text 1) t) l (omega arith) o low k a h);
    hands = λ n x t. true_false (rw t at (sym e ∙ y));
  }

  pub byte_no : {c : ℕ} {g : Prog A} (b : ℕ) (f : Prog A) {p : Parsed} {r : Bool} → r ≡ looks_p text p b → r ≡ false → Leads g c mid E text p0 p w p' w' → Leads (byte_if b f g) c mid E text p0 p w p' w'
  byte_no {c} {g} b f {p} e y h = record {
    runs = λ o low k cur t a. subst (λ (v : Res A). E.ends o k low v p' w') (sym (byte_run b f g text cur.at false (seen text b e y t))) (h.runs o low k cur t a);
    hands = h.hands;
  }

  pub word_yes : {c : ℕ} {f : Prog A} (kw : List ℕ) (g : Prog A) {p q : Parsed} {r : Bool} → r ≡ word_p text p kw → r ≡ true → q ≡ passed text (length kw) p → Leads f (c + 3 * length kw) mid E text p0 q w p' w' → Leads (word_if kw f g) c mid E text p0 p w p' w'
  word_yes {c} {f} kw g {p} {q} e y i h = record {
    runs = λ o low k cur t a.
        let z : same_word (lead_word (drop cur.at text)) kw ≡ true = read text kw e y t in
        let l : length kw ≤ length (drop cur.at text) = some_word kw (drop cur.at text) z in
        subst (λ (v : Res A). E.ends o k low v p' w') (sym (word_run kw f g text cur.at true z ∙ run_eat_n (length kw) f text cur.at l)) (moved c (length kw) (c + 3 * length kw) cur (i ∙ ap (passed text (length kw)) t) l (omega arith) o low k a h);
    hands = λ n x t. true_false (rw t at (sym e ∙ y));
  }

  pub word_no : {c : ℕ} {g : Prog A} (kw : List ℕ) (f : Prog A) {p : Parsed} {r : Bool} → r ≡ word_p text p kw → r ≡ false → Leads g c mid E text p0 p w p' w' → Leads (word_if kw f g) c mid E text p0 p w p' w'
  word_no {c} {g} kw f {p} e y h = record {
    runs = λ o low k cur t a. subst (λ (v : Res A). E.ends o k low v p' w') (sym (word_run kw f g text cur.at false (read text kw e y t))) (h.runs o low k cur t a);
    hands = h.hands;
  }

  -- the byte b behind white space (`match_token`)
  pub token_yes : {c : ℕ} {f : Prog A} (b : ℕ) (g : Prog A) {p p1 q : Parsed} {r : Bool} → Gives eat_ws tt text p p1 → r ≡ looks_p text p1 b → r ≡ true → q ≡ passed text 1 p1 → Leads f (c + 3) mid E text p0 q w p' w' → Leads (token_if b f g) c mid E text p0 p w p' w'
  unfolding token_if
  token_yes b g s e y i h = val _ s (byte_yes b g e y i h)

  pub token_no : {c : ℕ} {g : Prog A} (b : ℕ) (f : Prog A) {p p1 : Parsed} {r : Bool} → Gives eat_ws tt text p p1 → r ≡ looks_p text p1 b → r ≡ false → Leads g c mid E text p0 p1 w p' w' → Leads (token_if b f g) c mid E text p0 p w p' w'
  unfolding token_if
  token_no b f s e y h = val _ s (byte_no b f e y h)

  -- what is paid for need not be used
  pub spare : {c : ℕ} {f : Prog A} {p : Parsed} (d : ℕ) → d ≤ c → Leads f d mid E text p0 p w p' w' → Leads f c mid E text p0 p w p' w'
  spare {c} d l h = record { runs = λ b low k cur t a. h.runs b low k cur t (at_less (d + k) (omega arith) a); hands = h.hands }

-- a refusal
pub fail_is : {A : Type 0} (e : ℕ) {c : ℕ} {mid : List ℕ} {E : Goal A} {text : List ℕ} {p0 p q : Parsed} {w w' : List ℕ} → q ≡ refused e p → Leads (refuse e) c mid E text p0 p w q w'
unfolding run refuse
fail_is {A} e {E = E} {text = text} {p0 = p0} {q = q} {w' = w'} h = record {
  runs = λ b low k cur t a. subst (λ (z : Parsed). E.ends b k low (no_at e cur.at) z w') (sym (h ∙ ap (refused e) t)) (E.outs b k low e cur.at w');
  hands = λ n y t. h ∙ ap (refused e) t;
}

-- a refusal is handed on, whatever would be read
pub handed_on : {A : Type 0} {f : Prog A} {c : ℕ} {mid : List ℕ} {E : Goal A} {text : List ℕ} {p0 p q : Parsed} {w w' : List ℕ} {r : Refusal} → p ≡ Err r → q ≡ Err r → Leads f c mid E text p0 p w q w'
handed_on {r = r} h k = record {
  runs = λ b low n cur t a. no_ok cur r.question r.place (sym t ∙ h);
  hands = λ e x t. k ∙ (sym h ∙ t);
}

-- ---- readers that write nothing
module _ {A : Type 0} {f : Prog A} {a : A} {text : List ℕ} where
  -- from the run itself: it ends at j, or refuses
  pub given : (cur : Cursor) (j : ℕ) → (Inside text cur → run f cur.at (drop cur.at text) ≡ ok a j) → Gives f a text (Ok cur) (Ok (record { at = j; w = cur.w }))
  given cur j h = record {
    runs = λ c t i.
        let o : c ≡ cur = ok_same cur c t in
        let i2 : Inside text cur = rw o at i in
        let e : run f cur.at (drop cur.at text) ≡ ok a j = h i2 in
        let m : (cur.at ≤ j) × (j ≤ cur.at + length (drop cur.at text)) = mono f cur.at j (drop cur.at text) (rw e refl) in
        rw (o, e) (got {cur = record { at = j; w = cur.w }} m.0 (omega (arith, length-drop cur.at text, i2.inside)) refl);
    hands = λ n y t. no_ok cur n y t;
  }

  pub gone : (cur : Cursor) (n y : ℕ) → (Inside text cur → run f cur.at (drop cur.at text) ≡ no_at n y) → Gives f a text (Ok cur) (Refused n y)
  gone cur n y h = record {
    runs = λ c t i.
        let o : c ≡ cur = ok_same cur c t in
        let i2 : Inside text cur = rw o at i in
        let e : run f cur.at (drop cur.at text) ≡ no_at n y = h i2 in
        rw (o, e) not;
    hands = λ n y t. no_ok cur n y t;
  }

  pub kept : (n y : ℕ) → Gives f a text (Refused n y) (Refused n y)
  kept n y = record { runs = λ c t i. no_ok c n y (sym t); hands = λ e q t. t }

-- a refusal is handed on, whatever would be read
pub handed : {A : Type 0} {f : Prog A} {E : Aim A} {text : List ℕ} {p q : Parsed} {r : Refusal} → p ≡ Err r → q ≡ Err r → Finds f E text p q
handed {r = r} h k = record {
  runs = λ cur t i. no_ok cur r.question r.place (sym t ∙ h);
  hands = λ e x t. k ∙ (sym h ∙ t);
}

-- the result is here
pub g_done : {A : Type 0} {a : A} {text : List ℕ} {p : Parsed} → Gives (ret a) a text p p
unfolding run
g_done {A} {a} {text} {p} = record { runs = λ cur t i. subst (λ (z : Parsed). Gave text a cur.at cur.w (ok a cur.at) z) (sym t) (got (omega arith) i.inside refl); hands = λ e q t. t }

-- the program goes on here
pub g_stay : {A : Type 0} {f : Prog A} {text : List ℕ} {p : Parsed} → Comes f f text p p
g_stay {A} {f} {text} {p} = record { runs = λ cur t i. subst (λ (z : Parsed). Came text f cur.at cur.w (run f cur.at (drop cur.at text)) z) (sym t) (on (omega arith) i.inside refl); hands = λ e q t. t }

module _ {A : Type 0} {E : Aim A} {text : List ℕ} {p' : Parsed} where
  -- and on from there
  pub g_on : {f g : Prog A} {p q : Parsed} → Comes f g text p q → Finds g E text q p' → Finds f E text p p'
  g_on {f} {g} {p} {q} r s = record {
    runs = λ cur t i. go cur.at cur.w i.small s (r.runs cur t i);
    hands = λ e x t. s.hands e x (r.hands e x t);
  }
    where
      go : (j w : ℕ) → length text ≤ 16777216 → {y : Parsed} → Finds g E text y p' → {z : Res A} → Came text g j w z y → E.ends j w z p'
      go j w m k (on {cur = cur} l i x) = E.sooner j cur.at w (run g cur.at (drop cur.at text)) p' l (subst (λ (v : ℕ). E.ends cur.at v (run g cur.at (drop cur.at text)) p') x (k.runs cur refl (record { inside = i; small = m })))
      go j w m k (off {e = e} {q = q}) = rw (k.hands e q refl) (E.outs j w e q)

  pub g_then : {B : Type 0} {f : Prog B} (h : B → Prog A) {b : B} {p p1 : Parsed} → Gives f b text p p1 → Finds (h b) E text p1 p' → Finds (f >>= h) E text p p'
  unfolding after
  g_then {B} {f} h {b} {p} {p1} r s = record {
    runs = λ cur t i. subst (λ (z : Res A). E.ends cur.at cur.w z p') (sym (bind_at f h text cur.at)) (go cur.at cur.w i.small s (r.runs cur t i));
    hands = λ e q t. s.hands e q (r.hands e q t);
  }
    where
      go : (j w : ℕ) → length text ≤ 16777216 → {y : Parsed} → Finds (h b) E text y p' → {z : Res B} → Gave text b j w z y → E.ends j w (after h text z) p'
      go j w m k (got {cur = cur} l i x) = E.sooner j cur.at w (run (h b) cur.at (drop cur.at text)) p' l (subst (λ (v : ℕ). E.ends cur.at v (run (h b) cur.at (drop cur.at text)) p') x (k.runs cur refl (record { inside = i; small = m })))
      go j w m k (not {e = e} {q = q}) = rw (k.hands e q refl) (E.outs j w e q)

  pub g_byte_yes : {f : Prog A} (b : ℕ) (g : Prog A) {p q : Parsed} {r : Bool} → r ≡ looks_p text p b → r ≡ true → q ≡ passed text 1 p → Finds f E text q p' → Finds (byte_if b f g) E text p p'
  g_byte_yes {f} b g {p} {q} e y i h = record {
    runs = λ cur t x.
        let z : is_byte b (byte_at (drop cur.at text)) ≡ true = seen text b e y t in
        let l : 1 ≤ length (drop cur.at text) = some_byte b (drop cur.at text) z in
        subst (λ (v : Res A). E.ends cur.at cur.w v p') (sym (byte_run b f g text cur.at true z ∙ run_eat f text cur.at l)) (g_moved 1 cur (i ∙ ap (passed text 1) t) l x h);
    hands = λ n x t. true_false (rw t at (sym e ∙ y));
  }

  pub g_byte_no : {g : Prog A} (b : ℕ) (f : Prog A) {p : Parsed} {r : Bool} → r ≡ looks_p text p b → r ≡ false → Finds g E text p p' → Finds (byte_if b f g) E text p p'
  g_byte_no {g} b f {p} e y h = record {
    runs = λ cur t x. subst (λ (v : Res A). E.ends cur.at cur.w v p') (sym (byte_run b f g text cur.at false (seen text b e y t))) (h.runs cur t x);
    hands = h.hands;
  }

  pub g_word_yes : {f : Prog A} (kw : List ℕ) (g : Prog A) {p q : Parsed} {r : Bool} → r ≡ word_p text p kw → r ≡ true → q ≡ passed text (length kw) p → Finds f E text q p' → Finds (word_if kw f g) E text p p'
  g_word_yes {f} kw g {p} {q} e y i h = record {
    runs = λ cur t x.
        let z : same_word (lead_word (drop cur.at text)) kw ≡ true = read text kw e y t in
        let l : length kw ≤ length (drop cur.at text) = some_word kw (drop cur.at text) z in
        subst (λ (v : Res A). E.ends cur.at cur.w v p') (sym (word_run kw f g text cur.at true z ∙ run_eat_n (length kw) f text cur.at l)) (g_moved (length kw) cur (i ∙ ap (passed text (length kw)) t) l x h);
    hands = λ n x t. true_false (rw t at (sym e ∙ y));
  }

  pub g_word_no : {g : Prog A} (kw : List ℕ) (f : Prog A) {p : Parsed} {r : Bool} → r ≡ word_p text p kw → r ≡ false → Finds g E text p p' → Finds (word_if kw f g) E text p p'
  g_word_no {g} kw f {p} e y h = record {
    runs = λ cur t x. subst (λ (v : Res A). E.ends cur.at cur.w v p') (sym (word_run kw f g text cur.at false (read text kw e y t))) (h.runs cur t x);
    hands = h.hands;
  }

  pub g_token_yes : {f : Prog A} (b : ℕ) (g : Prog A) {p p1 q : Parsed} {r : Bool} → Gives eat_ws tt text p p1 → r ≡ looks_p text p1 b → r ≡ true → q ≡ passed text 1 p1 → Finds f E text q p' → Finds (token_if b f g) E text p p'
  unfolding token_if
  g_token_yes b g s e y i h = g_then _ s (g_byte_yes b g e y i h)

  pub g_token_no : {g : Prog A} (b : ℕ) (f : Prog A) {p p1 : Parsed} {r : Bool} → Gives eat_ws tt text p p1 → r ≡ looks_p text p1 b → r ≡ false → Finds g E text p1 p' → Finds (token_if b f g) E text p p'
  unfolding token_if
  g_token_no b f s e y h = g_then _ s (g_byte_no b f e y h)

  pub g_fail : (e : ℕ) {p : Parsed} → p' ≡ refused e p → Finds (refuse e) E text p p'
  unfolding run refuse
  g_fail e {p} h = record {
    runs = λ cur t i. subst (λ (z : Parsed). E.ends cur.at cur.w (no_at e cur.at) z) (sym (h ∙ ap (refused e) t)) (E.outs cur.at cur.w e cur.at);
    hands = λ n y t. h ∙ ap (refused e) t;
  }

  pub g_place : (h : ℕ → Prog A) {p : Parsed} (j : ℕ) → j ≡ place_p p → (j ≤ 16777216 → Finds (h j) E text p p') → Finds (place >>= h) E text p p'
  unfolding place run ◌>>=◌
  g_place h {p} j e r = record {
    runs = λ cur t i.
        let o : j ≡ cur.at = e ∙ ap place_p t in
        subst (λ (n : ℕ). E.ends cur.at cur.w (run (h n) cur.at (drop cur.at text)) p') o ((r (omega (arith, i.inside, i.small))).runs cur t i);
    hands = λ n x t. let o : j ≡ 0 = e ∙ ap place_p t in (r (omega arith)).hands n x t;
  }

-- ---- fuel: the code counts down as the program does
pub more : {A : Type 0} (f : ℕ → Prog A) (u : ℕ) {c : ℕ} {mid : List ℕ} {E : Goal A} {text : List ℕ} {p0 p p' : Parsed} {w w' : List ℕ} → 0 < u → Leads (f (suc (u - 1))) c mid E text p0 p w p' w' → Leads (f u) c mid E text p0 p w p' w'
more f u {c} {mid} {E} {text} {p0} {p} {p'} {w} {w'} h r = let e : suc (u - 1) ≡ u = omega arith in subst (λ (z : ℕ). Leads (f z) c mid E text p0 p w p' w') e r

pub no_more : {A : Type 0} (f : ℕ → Prog A) (u : ℕ) {c : ℕ} {mid : List ℕ} {E : Goal A} {text : List ℕ} {p0 p p' : Parsed} {w w' : List ℕ} → u ≤ 0 → Leads (f 0) c mid E text p0 p w p' w' → Leads (f u) c mid E text p0 p w p' w'
no_more f u {c} {mid} {E} {text} {p0} {p} {p'} {w} {w'} h r = let e : 0 ≡ u = omega arith in subst (λ (z : ℕ). Leads (f z) c mid E text p0 p w p' w') e r

pub g_more : {A : Type 0} (f : ℕ → Prog A) (u : ℕ) {E : Aim A} {text : List ℕ} {p p' : Parsed} → 0 < u → Finds (f (suc (u - 1))) E text p p' → Finds (f u) E text p p'
g_more f u {E} {text} {p} {p'} h r = let e : suc (u - 1) ≡ u = omega arith in subst (λ (z : ℕ). Finds (f z) E text p p') e r

pub g_no_more : {A : Type 0} (f : ℕ → Prog A) (u : ℕ) {E : Aim A} {text : List ℕ} {p p' : Parsed} → u ≤ 0 → Finds (f 0) E text p p' → Finds (f u) E text p p'
g_no_more f u {E} {text} {p} {p'} h r = let e : 0 ≡ u = omega arith in subst (λ (z : ℕ). Finds (f z) E text p p') e r

-- ---- words that are known, written where as many are paid for
ok_words : (a b : List ℕ) (i j : ℕ) → ok a i ≡ ok b j → a ≡ b
ok_words a b i j e = cc

ok_place : (a b : List ℕ) (i j : ℕ) → ok a i ≡ ok b j → i ≡ j
ok_place a b i j e = cc

ok_not : {B : Type 0} (a : List ℕ) (i e x : ℕ) → ok a i ≡ no_at e x → B
ok_not a i e x h = absurd (let z : ◌≡◌ {A = ℕ} 0 1 = cc in omega arith)

wrote_in : {A : Type 0} {f : Prog A} (d c : ℕ) {n : ℕ} {x mid : List ℕ} {E : Goal A} {text : List ℕ} {p0 p p1 p' : Parsed} {w w1 w' : List ℕ} → d + c ≤ n → Leads (ret x) d [] (made same text p) text p p w p1 w1 → Leads f c (mid ++ x) E text p0 p1 w1 p' w' → Leads f n mid E text p0 p w p' w'
unfolding run
wrote_in {A} {f} d c {n} {x} {mid} {E} {text} {p0} {p} {p1} {p'} {w} {w1} {w'} l r s = record {
  runs = λ b low k cur e a. go b low k cur a refl refl (r.runs b (low ++ mid) (c + k) cur e (at_less (d + (c + k)) (omega arith) (at_part e a)));
  hands = λ e q i. s.hands e q (r.hands e q i);
}
  where
    go : (b : Budget) (low : List ℕ) (k : ℕ) (cur : Cursor) → At b text p0 (n + k) low mid cur w → {y : Parsed} {z : Res (List ℕ)} → p1 ≡ y → ok x cur.at ≡ z → Ends b text p (c + k) (low ++ mid) same z y w1 → E.ends b k low (run f cur.at (drop cur.at text)) p' w'
    go b low k cur a e h (at {ws = ws} {cur = c1} i) =
        let t : ws ≡ x = sym (ok_words x ws cur.at c1.at h) in
        let o : c1.at ≡ cur.at = sym (ok_place x ws cur.at c1.at h) in
        subst (λ (m : ℕ). E.ends b k low (run f m (drop m text)) p' w') o
        (s.runs b low k c1 e (subst (λ (v : List ℕ). At b text p0 (c + k) low (mid ++ v) c1 w1) t (at_whole a i)))
    go b low k cur a e h (out {e = m} {q = y}) = ok_not x cur.at m y h

-- behind them nothing is left over
pub wrote : {A : Type 0} {f : Prog A} (d : ℕ) {n : ℕ} {x mid : List ℕ} {E : Goal A} {text : List ℕ} {p0 p p1 p' : Parsed} {w w1 w' : List ℕ} → d ≤ n → Leads (ret x) d [] (made same text p) text p p w p1 w1 → Leads f 0 (mid ++ x) E text p0 p1 w1 p' w' → Leads f n mid E text p0 p w p' w'
wrote d l r s = wrote_in d 0 (omega arith) r s

-- behind them c more are paid for
pub write_then : {A : Type 0} {f : Prog A} (x : List ℕ) (d : ℕ) {c : ℕ} {mid : List ℕ} {E : Goal A} {text : List ℕ} {p0 p p1 p' : Parsed} {w w1 w' : List ℕ} → Leads (ret x) d [] (made same text p) text p p w p1 w1 → Leads f c (mid ++ x) E text p0 p1 w1 p' w' → Leads f (d + c) mid E text p0 p w p' w'
write_then x d {c} r s = wrote_in d c (omega arith) r s

-- ---- tests that leave the cursor where it is, and what they allow
byte_at_run : {A : Type 0} (b : ℕ) (f g : Prog A) (text : List ℕ) (i : ℕ) (z : Bool) → is_byte b (byte_at (drop i text)) ≡ z → run (byte_at_if b f g) i (drop i text) ≡ run (elim z [ true ↦ f | false ↦ g ]) i (drop i text)
unfolding run byte_at_if
byte_at_run b f g text i z e = ap (λ (y : Bool). run (elim y [ true ↦ f | false ↦ g ]) i (drop i text)) e

word_at_run : {A : Type 0} (kw : List ℕ) (f g : Prog A) (text : List ℕ) (i : ℕ) (z : Bool) → same_word (lead_word (drop i text)) kw ≡ z → run (word_at_if kw f g) i (drop i text) ≡ run (elim z [ true ↦ f | false ↦ g ]) i (drop i text)
unfolding run word_at_if
word_at_run kw f g text i z e = ap (λ (y : Bool). run (elim y [ true ↦ f | false ↦ g ]) i (drop i text)) e

-- a byte stands at the cursor
pub record Here (text : List ℕ) (p : Parsed) : Type 0 where
  pub some : (cur : Cursor) → p ≡ Ok cur → 1 ≤ length (drop cur.at text)

pub byte_here : {text : List ℕ} {p : Parsed} (b : ℕ) {r : Bool} → r ≡ looks_p text p b → r ≡ true → Here text p
byte_here {text} b e y = record { some = λ cur t. some_byte b (drop cur.at text) (seen text b e y t) }

pub word_here : {text : List ℕ} {p : Parsed} (kw : List ℕ) {r : Bool} → r ≡ word_p text p kw → r ≡ true → 1 ≤ length kw → Here text p
word_here {text} kw e y l = record { some = λ cur t. omega (arith, l, some_word kw (drop cur.at text) (read text kw e y t)) }

module _ {A : Type 0} {mid : List ℕ} {E : Goal A} {text : List ℕ} {p0 : Parsed} {p' : Parsed} {w w' : List ℕ} {c : ℕ} {p : Parsed} where
  pub byte_at_yes : {f : Prog A} (b : ℕ) (g : Prog A) {r : Bool} → r ≡ looks_p text p b → r ≡ true → Leads f c mid E text p0 p w p' w' → Leads (byte_at_if b f g) c mid E text p0 p w p' w'
  byte_at_yes {f} b g e y h = record {
    runs = λ o low k cur t a. subst (λ (v : Res A). E.ends o k low v p' w') (sym (byte_at_run b f g text cur.at true (seen text b e y t))) (h.runs o low k cur t a);
    hands = h.hands;
  }

  pub byte_at_no : {g : Prog A} (b : ℕ) (f : Prog A) {r : Bool} → r ≡ looks_p text p b → r ≡ false → Leads g c mid E text p0 p w p' w' → Leads (byte_at_if b f g) c mid E text p0 p w p' w'
  byte_at_no {g} b f e y h = record {
    runs = λ o low k cur t a. subst (λ (v : Res A). E.ends o k low v p' w') (sym (byte_at_run b f g text cur.at false (seen text b e y t))) (h.runs o low k cur t a);
    hands = h.hands;
  }

  pub word_at_yes : {f : Prog A} (kw : List ℕ) (g : Prog A) {r : Bool} → r ≡ word_p text p kw → r ≡ true → Leads f c mid E text p0 p w p' w' → Leads (word_at_if kw f g) c mid E text p0 p w p' w'
  word_at_yes {f} kw g e y h = record {
    runs = λ o low k cur t a. subst (λ (v : Res A). E.ends o k low v p' w') (sym (word_at_run kw f g text cur.at true (read text kw e y t))) (h.runs o low k cur t a);
    hands = h.hands;
  }

  pub word_at_no : {g : Prog A} (kw : List ℕ) (f : Prog A) {r : Bool} → r ≡ word_p text p kw → r ≡ false → Leads g c mid E text p0 p w p' w' → Leads (word_at_if kw f g) c mid E text p0 p w p' w'
  word_at_no {g} kw f e y h = record {
    runs = λ o low k cur t a. subst (λ (v : Res A). E.ends o k low v p' w') (sym (word_at_run kw f g text cur.at false (read text kw e y t))) (h.runs o low k cur t a);
    hands = h.hands;
  }

  -- one byte on, where one stands
  pub eat_then : {f : Prog A} {q : Parsed} → Here text p → q ≡ passed text 1 p → Leads f (c + 3) mid E text p0 q w p' w' → Leads (eat f) c mid E text p0 p w p' w'
  eat_then {f} {q} z i h = record {
    runs = λ o low k cur t a. subst (λ (v : Res A). E.ends o k low v p' w') (sym (run_eat f text cur.at (z.some cur t))) (moved c 1 (c + 3) cur (i ∙ ap (passed text 1) t) (z.some cur t) (omega arith) o low k a h);
    hands = λ n x t. h.hands n x (i ∙ ap (passed text 1) t);
  }

  -- the place as the code has it
  pub here_at : (k : ℕ → Prog A) (j : ℕ) → j ≡ place_p p → (j ≤ 16777216 → Leads (k j) c mid E text p0 p w p' w') → Leads (here k) c mid E text p0 p w p' w'
  unfolding run
  here_at h j e r = record {
    runs = λ b low k cur t a.
        let i : j ≡ cur.at = e ∙ ap place_p t in
        subst (λ (n : ℕ). E.ends b k low (run (h n) cur.at (drop cur.at text)) p' w') i ((r (omega (arith, a.inside, a.small))).runs b low k cur t a);
    hands = λ n x t. let i : j ≡ 0 = e ∙ ap place_p t in (r (omega arith)).hands n x t;
  }

-- a refusal at another place
pub fail_at : {A : Type 0} (e i : ℕ) {c : ℕ} {mid : List ℕ} {E : Goal A} {text : List ℕ} {p0 p q : Parsed} {w w' : List ℕ} → q ≡ refused_at e i p → Leads (fail e i) c mid E text p0 p w q w'
unfolding run
fail_at e i {E = E} {q = q} {w' = w'} h = record {
  runs = λ b low k cur t a. subst (λ (z : Parsed). E.ends b k low (no_at e i) z w') (sym (h ∙ ap (refused_at e i) t)) (E.outs b k low e i w');
  hands = λ n y t. h ∙ ap (refused_at e i) t;
}

module _ {A : Type 0} {E : Aim A} {text : List ℕ} {p' : Parsed} {p : Parsed} where
  pub g_byte_at_yes : {f : Prog A} (b : ℕ) (g : Prog A) {r : Bool} → r ≡ looks_p text p b → r ≡ true → Finds f E text p p' → Finds (byte_at_if b f g) E text p p'
  g_byte_at_yes {f} b g e y h = record {
    runs = λ cur t i. subst (λ (v : Res A). E.ends cur.at cur.w v p') (sym (byte_at_run b f g text cur.at true (seen text b e y t))) (h.runs cur t i);
    hands = h.hands;
  }

  pub g_byte_at_no : {g : Prog A} (b : ℕ) (f : Prog A) {r : Bool} → r ≡ looks_p text p b → r ≡ false → Finds g E text p p' → Finds (byte_at_if b f g) E text p p'
  g_byte_at_no {g} b f e y h = record {
    runs = λ cur t i. subst (λ (v : Res A). E.ends cur.at cur.w v p') (sym (byte_at_run b f g text cur.at false (seen text b e y t))) (h.runs cur t i);
    hands = h.hands;
  }

  pub g_word_at_yes : {f : Prog A} (kw : List ℕ) (g : Prog A) {r : Bool} → r ≡ word_p text p kw → r ≡ true → Finds f E text p p' → Finds (word_at_if kw f g) E text p p'
  g_word_at_yes {f} kw g e y h = record {
    runs = λ cur t i. subst (λ (v : Res A). E.ends cur.at cur.w v p') (sym (word_at_run kw f g text cur.at true (read text kw e y t))) (h.runs cur t i);
    hands = h.hands;
  }

  pub g_word_at_no : {g : Prog A} (kw : List ℕ) (f : Prog A) {r : Bool} → r ≡ word_p text p kw → r ≡ false → Finds g E text p p' → Finds (word_at_if kw f g) E text p p'
  g_word_at_no {g} kw f e y h = record {
    runs = λ cur t i. subst (λ (v : Res A). E.ends cur.at cur.w v p') (sym (word_at_run kw f g text cur.at false (read text kw e y t))) (h.runs cur t i);
    hands = h.hands;
  }

  pub g_eat : {f : Prog A} {q : Parsed} → Here text p → q ≡ passed text 1 p → Finds f E text q p' → Finds (eat f) E text p p'
  g_eat {f} {q} z i h = record {
    runs = λ cur t x. subst (λ (v : Res A). E.ends cur.at cur.w v p') (sym (run_eat f text cur.at (z.some cur t))) (g_moved 1 cur (i ∙ ap (passed text 1) t) (z.some cur t) x h);
    hands = λ n x t. h.hands n x (i ∙ ap (passed text 1) t);
  }

  pub g_here : (k : ℕ → Prog A) (j : ℕ) → j ≡ place_p p → (j ≤ 16777216 → Finds (k j) E text p p') → Finds (here k) E text p p'
  unfolding run
  g_here h j e r = record {
    runs = λ cur t i.
        let o : j ≡ cur.at = e ∙ ap place_p t in
        subst (λ (n : ℕ). E.ends cur.at cur.w (run (h n) cur.at (drop cur.at text)) p') o ((r (omega (arith, i.inside, i.small))).runs cur t i);
    hands = λ n x t. let o : j ≡ 0 = e ∙ ap place_p t in (r (omega arith)).hands n x t;
  }

  pub g_fail_at : (e i : ℕ) → p' ≡ refused_at e i p → Finds (fail e i) E text p p'
  unfolding run
  g_fail_at e i h = record {
    runs = λ cur t x. subst (λ (z : Parsed). E.ends cur.at cur.w (no_at e i) z) (sym (h ∙ ap (refused_at e i) t)) (E.outs cur.at cur.w e i);
    hands = λ n y t. h ∙ ap (refused_at e i) t;
  }

-- behind what an automaton passes
pub scan_run : {A : Type 0} (f : ℕ → ℕ → Option ℕ) (q : ℕ) (k : List ℕ → Prog A) (text : List ℕ) (i : ℕ) → run (scan f q k) i (drop i text) ≡ run (k (take (scan_len f q (drop i text)) (drop i text))) (i + scan_len f q (drop i text)) (drop (i + scan_len f q (drop i text)) text)
unfolding run
scan_run f q k text i = rw (drop-drop (scan_len f q (drop i text)) i text)

pub g_scan : {A : Type 0} {E : Aim A} {text : List ℕ} {p' : Parsed} (f : ℕ → ℕ → Option ℕ) (q : ℕ) (k : List ℕ → Prog A) (cur : Cursor) (i : ℕ) → i ≡ cur.at + scan_len f q (drop cur.at text) → Finds (k (take (scan_len f q (drop cur.at text)) (drop cur.at text))) E text (Ok (record { at = i; w = cur.w })) p' → Finds (scan f q k) E text (Ok cur) p'
g_scan {A} {E} {text} {p'} f q k cur i e h = record {
  runs = λ c t x.
      let o : c ≡ cur = ok_same cur c t in
      let v : Inside text cur = rw o at x in
      let m : scan_len f q (drop cur.at text) ≤ length (drop cur.at text) = scan_len_le f q (drop cur.at text) in
      let z : i ≤ length text = omega (arith, length-drop cur.at text, v.inside) in
      let y : E.ends i cur.w (run (k (take (scan_len f q (drop cur.at text)) (drop cur.at text))) i (drop i text)) p' = h.runs (record { at = i; w = cur.w }) refl (record { inside = z; small = v.small }) in
      rw o (E.sooner cur.at i cur.w (run (scan f q k) cur.at (drop cur.at text)) p' (omega arith) (rw (scan_run f q k text cur.at, ← e) y));
  hands = λ n y t. no_ok cur n y t;
}

-- `...` behind white space
pub dots_yes : {A : Type 0} {mid : List ℕ} {E : Goal A} {text : List ℕ} {p0 p p1 p' : Parsed} {w w' : List ℕ} {c : ℕ} {f : Prog A} (e : ℕ) (g : Prog A) {r : Bool} → r ≡ looks_p text p 46 → r ≡ true → Gives (three_dots e) tt text p p1 → Leads f c mid E text p0 p1 w p' w' → Leads (dots_if e f g) c mid E text p0 p w p' w'
unfolding dots_if
dots_yes e g s y d h = byte_at_yes _ _ s y (val _ d h)

pub dots_no : {A : Type 0} {mid : List ℕ} {E : Goal A} {text : List ℕ} {p0 p p' : Parsed} {w w' : List ℕ} {c : ℕ} {g : Prog A} (e : ℕ) (f : Prog A) {r : Bool} → r ≡ looks_p text p 46 → r ≡ false → Leads g c mid E text p0 p w p' w' → Leads (dots_if e f g) c mid E text p0 p w p' w'
unfolding dots_if
dots_no e f s y h = byte_at_no _ _ s y h

-- ---- a program that is another
pub turn : {A : Type 0} {f g : Prog A} {c : ℕ} {mid : List ℕ} {E : Goal A} {text : List ℕ} {p0 p p' : Parsed} {w w' : List ℕ} → f ≡ g → Leads g c mid E text p0 p w p' w' → Leads f c mid E text p0 p w p' w'
turn {A} {f} {g} {c} {mid} {E} {text} {p0} {p} {p'} {w} {w'} e h = subst (λ (z : Prog A). Leads z c mid E text p0 p w p' w') (sym e) h

pub g_turn : {A : Type 0} {f g : Prog A} {E : Aim A} {text : List ℕ} {p p' : Parsed} → f ≡ g → Finds g E text p p' → Finds f E text p p'
g_turn {A} {f} {g} {E} {text} {p} {p'} e h = subst (λ (z : Prog A). Finds z E text p p') (sym e) h

-- ---- words that are the same
pub same_word_lem : (a b : List ℕ) → same_word a b ≡ true → a ≡ b
unfolding same_word
same_word_lem [] [] e = refl
same_word_lem [] (y ∷ b) e = true_false e
same_word_lem (x ∷ a) [] e = true_false e
same_word_lem (x ∷ a) (y ∷ b) e = go (eqb x y) refl (same_word_lem a b) e
  where
    go : (z : Bool) → eqb x y ≡ z → (same_word a b ≡ true → a ≡ b) → (z && same_word a b) ≡ true → x ∷ a ≡ y ∷ b
    go true t k e = let h : x ≡ y = eqb-true x y t in let m : a ≡ b = k e in cc
    go false t k e = true_false e
