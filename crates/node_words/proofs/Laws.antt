-- The laws of composition for what is written: a word, a header, a word that was left open, one word for all.
-- Assumes nothing.
use mathlib.Core.Path.{◌≡◌, refl, sym, ap, ◌∙◌, subst}
use mathlib.Core.List.{List, [], ◌∷◌, ◌++◌, append_assoc}
use Prim.Native.Nat.{ℕ, suc, ◌+◌, ◌-◌, ◌*◌, ◌≤◌, ◌<◌}
use native.Mathlib.Omega.{arith}
use lib.ListN.{length, set, length-append}
use borrow.Author.Tests.{lt-ltb}
use Rattle.program.specs.Prog.{Prog, ret, ok, run}
use Rattle.records.specs.Words.{node, header}
use Rattle.lexer.specs.Step.{bumped}
use Rattle.node_words.specs.Writes.{pushed, pushes, header_of, closes, patches, replaced, replaces}
use Rattle.lexer.specs.Reads.{Stands, Budget, At, Ends, at, Leads, Goal, made, same}
use Rattle.lexer.specs.declared.Cursor.{Cursor}
use Rattle.lexer.specs.Parsed.{Parsed, Ok, Refused, Err}
use Rattle.node_words.proofs.Words.{front, pushed as stands-more, patched}
use Rattle.lexer.proofs.Laws.{bump_in, at_less, at_small}

pub at_push : {b : Budget} {text : List ℕ} {p0 : Parsed} {c : ℕ} {low mid : List ℕ} {cur : Cursor} {words : List ℕ} (x : ℕ) → At b text p0 (suc c) low mid cur words → At b text p0 c low (mid ++ (x ∷ [])) (record { at = cur.at; w = bumped cur.w }) (set words cur.w x)
at_push {b} {text} {p0} {c} {low} {mid} {cur} {words} x a =
    let n : (low ++ mid) ++ (x ∷ []) ≡ low ++ (mid ++ (x ∷ [])) = append_assoc low mid (x ∷ []) in
    let len : length ((low ++ mid) ++ (x ∷ [])) ≡ length (low ++ mid) + 1 = length-append (low ++ mid) (x ∷ []) in
    let u : bumped cur.w ≡ cur.w + 1 = bump_in cur.w (at_small a) in
    record {
      from = a.from;
      was = a.was;
      base = a.base;
      small = a.small;
      lid = a.lid;
      inside = a.inside;
      count = subst (λ (l : List ℕ). bumped cur.w ≡ length l) n (omega (arith, a.count));
      paid = subst (λ (l : List ℕ). length l + c ≤ b.base + b.rate * cur.at) n (omega (arith, a.paid));
      stands = subst (λ (l : List ℕ). Stands l (set words cur.w x)) n (rw a.count (stands-more (low ++ mid) words x a.stands));
    }

-- one word in place of all since p0
pub at_one : {b : Budget} {text : List ℕ} {p0 : Parsed} {c : ℕ} {low mid : List ℕ} {cur : Cursor} {words : List ℕ} (x : ℕ) (a : At b text p0 (suc c) low mid cur words) → At b text p0 c low (x ∷ []) (record { at = cur.at; w = bumped a.from.w }) (set words a.from.w x)
at_one {b} {text} {p0} {c} {low} {mid} {cur} {words} x a =
    let len : length (low ++ (x ∷ [])) ≡ length low + 1 = length-append low (x ∷ []) in
    let len2 : length (low ++ mid) ≡ length low + length mid = length-append low mid in
    let s : a.from.w < 4294967296 = omega (arith, a.base, at_small a, a.count) in
    let u : bumped a.from.w ≡ a.from.w + 1 = bump_in a.from.w s in
    record {
      from = a.from;
      was = a.was;
      base = a.base;
      small = a.small;
      lid = a.lid;
      inside = a.inside;
      count = omega (arith, a.base);
      paid = omega (arith, a.paid);
      stands = rw a.base (stands-more low words x (front low mid words a.stands));
    }

-- a node's header
pub at_close : {b : Budget} {text : List ℕ} {p0 : Parsed} {c : ℕ} {low body : List ℕ} {cur : Cursor} {words : List ℕ} (kind d n : ℕ) (a : At b text p0 c low (0 ∷ body) cur words) → At b text p0 c low (node kind d n body) cur (set words a.from.w (header_of kind d n a.from.w cur.w))
unfolding node
at_close {b} {text} {p0} {c} {low} {body} {cur} {words} kind d n a =
    let h : ℕ = header kind d n (suc (length body)) in
    let len : length (low ++ (0 ∷ body)) ≡ length low + suc (length body) = length-append low (0 ∷ body) in
    let len2 : length (low ++ (h ∷ body)) ≡ length low + suc (length body) = length-append low (h ∷ body) in
    let s : cur.w - a.from.w ≡ suc (length body) = omega (arith, a.base, a.count) in
    let m : suc (length body) < 4294967296 = omega (arith, at_small a, a.count) in
    let e : header_of kind d n a.from.w cur.w ≡ h = rw (s, lt-ltb _ _ m) in
    record {
      from = a.from;
      was = a.was;
      base = a.base;
      small = a.small;
      lid = a.lid;
      inside = a.inside;
      count = a.count ∙ len ∙ sym len2;
      paid = omega (arith, a.paid);
      stands = rw (e, a.base) (patched low body words 0 h a.stands);
    }

-- a word behind those of l, since p0
pub at_patch : {b : Budget} {text : List ℕ} {p0 : Parsed} {c : ℕ} {low : List ℕ} {cur : Cursor} {words : List ℕ} (l m : List ℕ) (x y k : ℕ) → length l ≡ k → (a : At b text p0 c low (l ++ (x ∷ m)) cur words) → At b text p0 c low (l ++ (y ∷ m)) cur (set words (a.from.w + k) y)
at_patch {b} {text} {p0} {c} {low} {cur} {words} l m x y k e a =
    let n : (v : ℕ) → (low ++ l) ++ (v ∷ m) ≡ low ++ (l ++ (v ∷ m)) = λ v. append_assoc low l (v ∷ m) in
    let o : length (low ++ l) ≡ a.from.w + k = omega (arith, length-append low l, a.base) in
    let i : length ((low ++ l) ++ (x ∷ m)) ≡ length (low ++ l) + suc (length m) = length-append (low ++ l) (x ∷ m) in
    let j : length ((low ++ l) ++ (y ∷ m)) ≡ length (low ++ l) + suc (length m) = length-append (low ++ l) (y ∷ m) in
    let z : length (low ++ (l ++ (x ∷ m))) ≡ length (low ++ (l ++ (y ∷ m))) = ap length (sym (n x)) ∙ i ∙ sym j ∙ ap length (n y) in
    record {
      from = a.from;
      was = a.was;
      base = a.base;
      small = a.small;
      lid = a.lid;
      inside = a.inside;
      count = a.count ∙ z;
      paid = omega (arith, a.paid);
      stands = subst (λ (v : List ℕ). Stands v (set words (a.from.w + k) y)) (n y)
          (subst (λ (v : ℕ). Stands ((low ++ l) ++ (y ∷ m)) (set words v y)) o
          (patched (low ++ l) m words x y (subst (λ (v : List ℕ). Stands v words) (sym (n x)) a.stands)));
    }

-- ---- words
module _ {A : Type 0} {mid : List ℕ} {E : Goal A} {text : List ℕ} {p0 : Parsed} {p' : Parsed} {w w' : List ℕ} where
  -- a word written
  pub push_then : {c : ℕ} {f : Prog A} (x : ℕ) {p q : Parsed} {v : List ℕ} → (q ≡ pushed p) × (v ≡ pushes x p w) → Leads f c (mid ++ (x ∷ [])) E text p0 q v p' w' → Leads f (suc c) mid E text p0 p w p' w'
  push_then {c} {f} x {p} {q} {v} o h = record {
    runs = λ b low k cur t a.
        let u : v ≡ set w cur.w x = o.1 ∙ ap (λ (y : Parsed). pushes x y w) t in
        h.runs b low k (record { at = cur.at; w = bumped cur.w }) (o.0 ∙ ap pushed t)
        (subst (λ (l : List ℕ). At b text p0 (c + k) low (mid ++ (x ∷ [])) (record { at = cur.at; w = bumped cur.w }) l) (sym u) (at_push x (at_less (suc (c + k)) (omega arith) a)));
    hands = λ n y t. h.hands n y (o.0 ∙ ap pushed t);
  }

-- an instruction's node is begun
pub begin_then : {A : Type 0} {E : Goal A} {text : List ℕ} {p0 p' : Parsed} {w w' : List ℕ} {c : ℕ} {f : Prog A} (dest : ℕ) {p q : Parsed} {v : List ℕ} → (q ≡ pushed (pushed p)) × (v ≡ pushes dest (pushed p) (pushes 0 p w)) → Leads f c (0 ∷ dest ∷ []) E text p0 q v p' w' → Leads f (suc (suc c)) [] E text p0 p w p' w'
begin_then {w = w} dest {p} o h = push_then 0 {q = pushed p} {v = pushes 0 p w} (refl, refl) (push_then dest o h)

-- a node ends
pub close_is : (kind d n : ℕ) {c : ℕ} (body : List ℕ) {text : List ℕ} {p0 p q : Parsed} {w w' : List ℕ} → (q ≡ p) × (w' ≡ closes kind d n p0 p w) → Leads (ret (node kind d n body)) c (0 ∷ body) (made same text p0) text p0 p w q w'
unfolding run
close_is kind d n {c} body {text} {p0} {p} {q} {w} {w'} o = record {
  runs = λ b low k cur t a.
      let u : w' ≡ set w a.from.w (header_of kind d n a.from.w cur.w) = o.1 ∙ ap (λ (y : Parsed). closes kind d n y p w) a.was ∙ ap (λ (y : Parsed). closes kind d n (Ok a.from) y w) t in
      subst (λ (l : List ℕ). Ends b text p0 k low same (ok (node kind d n body) cur.at) q l) (sym u)
      (subst (λ (z : Parsed). Ends b text p0 k low same (ok (node kind d n body) cur.at) z (set w a.from.w (header_of kind d n a.from.w cur.w))) (sym (o.0 ∙ t)) (at (at_less k (omega arith) (at_close kind d n a))));
  hands = λ e y t. o.0 ∙ t;
}

-- a node ends, and the program goes on
pub close_then : {A : Type 0} {f : Prog A} (kind d n : ℕ) {c : ℕ} (body : List ℕ) {E : Goal A} {text : List ℕ} {p0 p q p' : Parsed} {w v w' : List ℕ} → (q ≡ p) × (v ≡ closes kind d n p0 p w) → Leads f c (node kind d n body) E text p0 q v p' w' → Leads f c (0 ∷ body) E text p0 p w p' w'
close_then {A} {f} kind d n {c} body {E} {text} {p0} {p} {q} {p'} {w} {v} {w'} o h = record {
  runs = λ b low k cur t a.
      let u : v ≡ set w a.from.w (header_of kind d n a.from.w cur.w) = o.1 ∙ ap (λ (y : Parsed). closes kind d n y p w) a.was ∙ ap (λ (y : Parsed). closes kind d n (Ok a.from) y w) t in
      h.runs b low k cur (o.0 ∙ t) (subst (λ (l : List ℕ). At b text p0 (c + k) low (node kind d n body) cur l) (sym u) (at_close kind d n a));
  hands = λ e y t. h.hands e y (o.0 ∙ t);
}

-- a word that was left open is known now: those of l stand before it, since p0
pub patch_then : {A : Type 0} {f : Prog A} {c : ℕ} (k x : ℕ) (l : List ℕ) (y : ℕ) (m : List ℕ) {E : Goal A} {text : List ℕ} {p0 p q p' : Parsed} {w v w' : List ℕ} → length l ≡ k → (q ≡ p) × (v ≡ patches k x p0 p w) → Leads f c (l ++ (x ∷ m)) E text p0 q v p' w' → Leads f c (l ++ (y ∷ m)) E text p0 p w p' w'
patch_then {A} {f} {c} k x l y m {E} {text} {p0} {p} {q} {p'} {w} {v} {w'} z o h = record {
  runs = λ b low n cur t a.
      let u : v ≡ set w (a.from.w + k) x = o.1 ∙ ap (λ (s : Parsed). patches k x s p w) a.was ∙ ap (λ (s : Parsed). patches k x (Ok a.from) s w) t in
      h.runs b low n cur (o.0 ∙ t) (subst (λ (s : List ℕ). At b text p0 (c + n) low (l ++ (x ∷ m)) cur s) (sym u) (at_patch l m y x k z a));
  hands = λ e s t. h.hands e s (o.0 ∙ t);
}

-- one word in place of all since p0
pub replace_then : {A : Type 0} {f : Prog A} {c : ℕ} (x : ℕ) {mid : List ℕ} {E : Goal A} {text : List ℕ} {p0 p q p' : Parsed} {w v w' : List ℕ} → (q ≡ replaced p0 p) × (v ≡ replaces x p0 p w) → Leads f c (x ∷ []) E text p0 q v p' w' → Leads f (suc c) mid E text p0 p w p' w'
unfolding at_less
replace_then {A} {f} {c} x {mid} {E} {text} {p0} {p} {q} {p'} {w} {v} {w'} o h = record {
  runs = λ b low k cur t a.
      let u : v ≡ set w a.from.w x = o.1 ∙ ap (λ (y : Parsed). replaces x y p w) a.was ∙ ap (λ (y : Parsed). replaces x (Ok a.from) y w) t in
      let z : q ≡ Ok (record { at = cur.at; w = bumped a.from.w }) = o.0 ∙ ap (λ (y : Parsed). replaced y p) a.was ∙ ap (λ (y : Parsed). replaced (Ok a.from) y) t in
      h.runs b low k (record { at = cur.at; w = bumped a.from.w }) z
      (subst (λ (l : List ℕ). At b text p0 (c + k) low (x ∷ []) (record { at = cur.at; w = bumped a.from.w }) l) (sym u) (at_one x (at_less (suc (c + k)) (omega arith) a)));
  hands = λ n y t. h.hands n y (o.0 ∙ ap (λ (z : Parsed). replaced p0 z) t ∙ still p0 n y);
}
  where
    still : (b : Parsed) (n y : ℕ) → replaced b (Refused n y) ≡ Refused n y
    still (Ok b) n y = refl
    still (Err r) n y = refl
