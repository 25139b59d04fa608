-- The laws of words that stand a second time: a copy behind them leaves them as they are, and past the array's end nothing is stored.
-- Assumes nothing.
use mathlib.Core.Path.{◌≡◌, refl, sym, ap, ◌∙◌, subst}
use mathlib.Core.Bool.{Bool, true, false}
use mathlib.Core.List.{List, [], ◌∷◌, ◌++◌, append_assoc, append-nil}
use Prim.Native.Nat.{ℕ, zero, suc, ◌+◌, ◌-◌, ◌*◌, ◌≤◌, ◌<◌}
use native.Mathlib.Omega.{arith}
use native.Mathlib.Nat.{mul-le-mul_left}
use native.Mathlib.Decide.{ℕ_discrete}
use native.Mathlib.Numerals.{add-one}
use lib.Dec.{ltb}
use lib.ListN.{length, get_or, set, take, length-set, length-append, get_or-append}
use lib.Seq.{set_out, get_or-set_other, get_or-append-add, take-suc, take-length, length-take-le}
use borrow.Author.Tests.{ltb-true, ltb-false}
use Rattle.program.specs.Choice.{pick}
use Rattle.program.specs.Prog.{Prog, ret, ok, run}
use Rattle.lexer.specs.Step.{bumped}
use Rattle.node_words.specs.Writes.{pushed, pushes}
use Rattle.lexer.specs.Reads.{Stands, Ends, at, Leads, Goal, made, same}
use Rattle.lexer.specs.declared.Cursor.{Cursor}
use Rattle.lexer.specs.Parsed.{Parsed, Ok, Err}
use Rattle.node_words.proofs.Words.{pushed as stands-more}
use Rattle.lexer.proofs.Laws.{no_ok}
use Rattle.inst_operands.specs.Found.{There, Found}
use Rattle.inst_calls.specs.Copy.{copied, Written, Held}

-- ---- the array
pub length_copied : (n from to : ℕ) (words : List ℕ) → length (copied n from to words) ≡ length words
unfolding copied
length_copied zero from to words = refl
length_copied (suc n) from to words = length-set (copied n from to words) (to + n) (get_or (copied n from to words) (from + n) 0) ∙ length_copied n from to words

-- one word more
pub copied_more : (n from to : ℕ) (words : List ℕ) → set (copied n from to words) (to + n) (get_or (copied n from to words) (from + n) 0) ≡ copied (n + 1) from to words
unfolding copied
copied_more n from to words = rw (add-one n)

-- behind the array's end nothing is stored
pub copied_out : (n m from to : ℕ) (words : List ℕ) → m ≤ n → length words ≤ to + m → copied m from to words ≡ copied n from to words
unfolding copied
copied_out zero m from to words h l = let e : m ≡ 0 = omega arith in rw e
copied_out (suc n) m from to words h l = go (ℕ_discrete m (suc n)) (λ i. copied_out n m from to words i l)
  where
    go : Dec (m ≡ suc n) → (m ≤ n → copied m from to words ≡ copied n from to words) → copied m from to words ≡ copied (suc n) from to words
    go (yes e) ih = rw e
    go (no i) ih = ih (omega arith) ∙ sym (set_out (copied n from to words) (to + n) (get_or (copied n from to words) (from + n) 0) (omega (arith, length_copied n from to words)))

-- words of t that stand before l's end stand behind l too
pub copied_stands : (n from : ℕ) (t l words : List ℕ) → n ≤ length t → from + length t ≤ length l → Stands l words → ((i : ℕ) → i < length t → from + i < length words → get_or words (from + i) 0 ≡ get_or t i 0) → Stands (l ++ take n t) (copied n from (length l) words)
unfolding copied
copied_stands zero from t l words h k s e = subst (λ (z : List ℕ). Stands z words) (sym (append-nil l)) s
copied_stands (suc n) from t l words h k s e = go (copied_stands n from t l words (omega arith) k s e)
  where
    v : List ℕ
    v = copied n from (length l) words

    y : ℕ
    y = get_or t n 0

    -- what is stored is the word of t, or it is not stored
    word : Stands (l ++ take n t) v → (z : Bool) → ltb (from + n) (length words) ≡ z → set v (length l + n) y ≡ set v (length l + n) (get_or v (from + n) 0)
    word ih true i =
        let lt : from + n < length words = ltb-true _ _ i in
        let o : length (l ++ take n t) ≡ length l + length (take n t) = length-append l (take n t) in
        let x : get_or v (from + n) 0 ≡ y = ih.same (from + n) (omega arith) (omega (arith, length_copied n from (length l) words)) ∙ get_or-append l (take n t) 0 (from + n) (omega arith) ∙ sym (s.same (from + n) (omega arith) lt) ∙ e n (omega arith) lt in
        rw x
    word ih false i =
        let le : length words ≤ from + n = ltb-false _ _ i in
        let o : length v ≤ length l + n = omega (arith, length_copied n from (length l) words) in
        set_out v (length l + n) y o ∙ sym (set_out v (length l + n) (get_or v (from + n) 0) o)

    go : Stands (l ++ take n t) v → Stands (l ++ take (suc n) t) (set v (length l + n) (get_or v (from + n) 0))
    go ih =
        let o : length (l ++ take n t) ≡ length l + n = length-append l (take n t) ∙ ap (λ (z : ℕ). length l + z) (length-take-le n t (omega arith)) in
        let x : (l ++ take n t) ++ (y ∷ []) ≡ l ++ take (suc n) t = append_assoc l (take n t) (y ∷ []) ∙ ap (λ (z : List ℕ). l ++ z) (sym (take-suc t n 0 (omega arith))) in
        subst (λ (z : List ℕ). Stands z (set v (length l + n) (get_or v (from + n) 0))) x
        (subst (λ (z : List ℕ). Stands ((l ++ take n t) ++ (y ∷ [])) z) (ap (λ (z : ℕ). set v z y) o ∙ word ih (ltb (from + n) (length words)) refl) (stands-more (l ++ take n t) v y ih))

-- ---- a part that is held and written again
ok_same : (c d : Cursor) → ◌≡◌ {A = Parsed} (Ok c) (Ok d) → c ≡ d
ok_same c d e = cc

pub again_is : {a b p : Parsed} {text t w w' : List ℕ} (x y c : Cursor) (n m : ℕ) → p ≡ Ok c → a ≡ Ok x → b ≡ Ok y → n ≡ y.w - x.w → (x.w ≤ c.w → w' ≡ copied n x.w c.w w) → (c.w + n < 4294967296 → m ≡ c.w + n) → Held t a b p w
    → Leads (ret t) (length t) [] (made same text p) text p p w (Ok (record { at = c.at; w = m })) w'
unfolding run
again_is {a} {b} {p} {text} {t} {w} {w'} x y c n m e f g d s k H = record {
  runs = λ o low j cur i h.
      let u : Written t a b c w = H.there c e in
      let v : cur ≡ c = ok_same cur c (sym i ∙ e) in
      let v1 : u.first ≡ x = ok_same u.first x (sym u.from ∙ f) in
      let v2 : u.last ≡ y = ok_same u.last y (sym u.to ∙ g) in
      let x1 : u.first.w ≡ x.w = ap (λ (z : Cursor). z.w) v1 in
      let y1 : u.last.w ≡ y.w = ap (λ (z : Cursor). z.w) v2 in
      let n1 : n ≡ length t = omega (arith, u.count) in
      let nil : low ++ [] ≡ low = append-nil low in
      let cw : c.w ≡ length low = sym (ap (λ (z : Cursor). z.w) v) ∙ h.count ∙ ap length nil in
      let ca : cur.at ≡ c.at = ap (λ (z : Cursor). z.at) v in
      let len : length (low ++ t) ≡ length low + length t = length-append low t in
      let pd : length (low ++ []) + (length t + j) ≤ o.base + o.rate * cur.at = h.paid in
      let l0 : length (low ++ []) ≡ length low = ap length nil in
      let lt : c.w + n < 4294967296 = omega (arith, h.lid, h.inside, mul-le-mul_left o.rate h.inside) in
      let q : x.w + length t ≤ length low = omega (arith, u.count, u.behind) in
      let st : Stands (low ++ take (length t) t) (copied (length t) x.w (length low) w) = copied_stands (length t) x.w t low w (omega arith) q (subst (λ (z : List ℕ). Stands z w) nil h.stands) (λ r a1 b1. subst (λ (z : ℕ). get_or w (z + r) 0 ≡ get_or t r 0) x1 (u.stands r a1 (omega arith))) in
      let we : w' ≡ copied (length t) x.w (length low) w = s (omega (arith, u.behind, u.count)) ∙ ap (λ (z : ℕ). copied z x.w c.w w) n1 ∙ ap (λ (z : ℕ). copied (length t) x.w z w) cw in
      subst (λ (z : ℕ). Ends o text p j low same (ok t z) (Ok (record { at = c.at; w = m })) w') (sym ca)
      (at (record {
        from = h.from;
        was = h.was;
        base = h.base;
        small = h.small;
        lid = h.lid;
        inside = subst (λ (z : ℕ). z ≤ length text) ca h.inside;
        count = omega (arith, k lt);
        paid = subst (λ (z : ℕ). length (low ++ t) + j ≤ o.base + o.rate * z) ca (omega arith);
        stands = subst (λ (z : List ℕ). Stands (low ++ t) z) (sym we) (subst (λ (z : List ℕ). Stands (low ++ z) (copied (length t) x.w (length low) w)) (take-length t) st);
      }));
  hands = λ en q i. no_ok c en q (sym e ∙ i);
}

-- where the reader has not come
pub again_not : {p q : Parsed} {text t w w' : List ℕ} → q ≡ p → ((c : Cursor) → p ≡ Ok c → ⊥) → Leads (ret t) (length t) [] (made same text p) text p p w q w'
again_not e n = record { runs = λ o low j cur i h. absurd (n cur i); hands = λ en x i. e ∙ i }

-- ---- what is held
-- p is n words behind p0
pub record Since (n : ℕ) (p0 p : Parsed) : Type 0 where
  pub count : (c0 c : Cursor) → p0 ≡ Ok c0 → p ≡ Ok c → c.w ≡ c0.w + n

pub since : {A : Type 0} {f : Prog A} {c : ℕ} {mid : List ℕ} {E : Goal A} {text : List ℕ} {p0 p p' : Parsed} {w w' : List ℕ} → (Since (length mid) p0 p → Leads f c mid E text p0 p w p' w') → Leads f c mid E text p0 p w p' w'
since {A} {f} {c} {mid} {E} {text} {p0} {p} {p'} {w} {w'} k = record {
  runs = λ b low m cur e a. (k (record {
    count = λ c0 d i j.
        let x : c0 ≡ a.from = ok_same c0 a.from (sym i ∙ a.was) in
        let y : d ≡ cur = ok_same d cur (sym j ∙ e) in
        let x1 : c0.w ≡ a.from.w = ap (λ (z : Cursor). z.w) x in
        let y1 : d.w ≡ cur.w = ap (λ (z : Cursor). z.w) y in
        omega (arith, a.base, a.count, length-append low mid);
  })).runs b low m cur e a;
  hands = λ e x i. (k (record { count = λ c0 d j o. no_ok d e x (sym o ∙ i) })).hands e x i;
}

-- what was written since s stands
pub held : {A B : Type 0} {f : Prog A} {a : A} {g : Prog B} (mid t : List ℕ) {c : ℕ} {E : Goal B} {text : List ℕ} {p0 s p p' : Parsed} {w w' : List ℕ} → Since (length mid) p0 s → Found f text s p a → (Held t s p p w → Leads g c (mid ++ t) E text p0 p w p' w') → Leads g c (mid ++ t) E text p0 p w p' w'
held {A} {B} {f} {a} {g} mid t {c} {E} {text} {p0} {s} {p} {p'} {w} {w'} S F k = record {
  runs = λ b low m cur e h. (k (record { there = λ d i. there low cur d e i (F.there cur e) h.from h.was h.base h.count h.stands })).runs b low m cur e h;
  hands = λ e x i. (k (record { there = λ d j. no_ok d e x (sym j ∙ i) })).hands e x i;
}
  where
    there : (low : List ℕ) (cur d : Cursor) → p ≡ Ok cur → p ≡ Ok d → There f text s a → (from : Cursor) → p0 ≡ Ok from → from.w ≡ length low → cur.w ≡ length (low ++ (mid ++ t)) → Stands (low ++ (mid ++ t)) w → Written t s p d w
    there low cur d e i T from was base count stands =
        let y : d.w ≡ cur.w = ap (λ (z : Cursor). z.w) (ok_same d cur (sym i ∙ e)) in
        let o : T.cur.w ≡ from.w + length mid = S.count from T.cur was T.was in
        let l : (low ++ mid) ++ t ≡ low ++ (mid ++ t) = append_assoc low mid t in
        let n : length (low ++ mid) ≡ length low + length mid = length-append low mid in
        let m : length (low ++ (mid ++ t)) ≡ length (low ++ mid) + length t = sym (ap length l) ∙ length-append (low ++ mid) t in
        let x : length (low ++ mid) ≡ T.cur.w = omega arith in
        record {
          first = T.cur;
          last = d;
          from = T.was;
          to = i;
          count = omega arith;
          behind = omega arith;
          stands = λ j u v. stands.same (T.cur.w + j) (omega arith) v ∙ ap (λ (z : List ℕ). get_or z (T.cur.w + j) 0) (sym l) ∙ subst (λ (z : ℕ). get_or ((low ++ mid) ++ t) (z + j) 0 ≡ get_or t j 0) x (get_or-append-add (low ++ mid) t j 0);
        }

bumped_le : (w : ℕ) → w ≤ bumped w
unfolding bumped
bumped_le w = go (ltb w 4294967296)
  where
    go : (z : Bool) → w ≤ pick z (w + 1) w
    go true = omega arith
    go false = omega arith

-- and behind one word more
pub held_pushed : {t w v : List ℕ} {s p q : Parsed} (x : ℕ) → Held t s p p w → (q ≡ pushed p) × (v ≡ pushes x p w) → Held t s p q v
held_pushed {t} {w} {v} {s} {p} {q} x H h = record { there = λ c i. go p refl c i }
  where
    go : (y : Parsed) → p ≡ y → (c : Cursor) → q ≡ Ok c → Written t s p c v
    go (Ok d) e c i =
        let u : Written t s p d w = H.there d e in
        let o : c ≡ record { at = d.at; w = bumped d.w } = ok_same c (record { at = d.at; w = bumped d.w }) (sym i ∙ h.0 ∙ ap pushed e) in
        let o1 : c.w ≡ bumped d.w = ap (λ (z : Cursor). z.w) o in
        let n : v ≡ set w d.w x = h.1 ∙ ap (λ (z : Parsed). pushes x z w) e in
        let m : length v ≡ length w = ap length n ∙ length-set w d.w x in
        record {
          first = u.first;
          last = u.last;
          from = u.from;
          to = u.to;
          count = u.count;
          behind = omega (arith, u.behind, bumped_le d.w);
          stands = λ j a b. ap (λ (z : List ℕ). get_or z (u.first.w + j) 0) n ∙ get_or-set_other w d.w (u.first.w + j) x 0 (λ k. omega (arith, u.count, u.behind)) ∙ u.stands j a (omega arith);
        }
    go (Err r) f c i = no_ok c r.question r.place (sym i ∙ h.0 ∙ ap pushed f)
