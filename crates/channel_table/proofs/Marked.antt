-- What a window's marks say once rules are marked in it: a bit is set exactly if one of them covers the channel; and behind the window, up to the
-- next channel that is kept, no rule of the class begins and none has ended. By induction on the rules.
-- Assumes nothing.
use mathlib.Core.Path.{◌≡◌, refl, sym, ap, ◌∙◌}
use mathlib.Core.Bool.{Bool, true, false, ◌&&◌, ◌||◌}
use mathlib.Core.List.{List, [], ◌∷◌}
use Prim.Native.Nat.{ℕ, zero, suc, ◌+◌, ◌-◌, ◌/◌, ◌^◌, ◌≤◌, ◌<◌, min}
use native.Mathlib.Nat.{mod-lt, zero-lt-suc}
use native.Mathlib.Omega.{arith}
use lib.Dec.{ltb, leb, eqb}
use lib.Bits.{bit_and, bit_or}
use lib.ListN.{length, get_or}
use borrow.Author.Tests.{ltb-true, ltb-false, leb-true, leb-false, eqb-true, eqb-false, not-true, le-ltb, le-leb, lt-leb, eq-eqb, ne_eqb}
use Rattle.program.specs.Class.{inside}
use Rattle.channel_spec.specs.declared.Rule.{Rule}
use Rattle.channel_spec.specs.Table.{channels, overlap, covers}
use Rattle.channel_table.specs.declared.windows.Window.{Window}
use Rattle.channel_table.specs.Windows.{window_size, window_at, bits_of, marks_of, is_of_class, meets, break_before, marked}
use Rattle.channel_table.proofs.BitAt.{bit, one, bit_and_lem, bit_or_lem, range_in, range_above, range_below, zero_bit, has_bit}

pub clash : false ≡ true → ⊥
clash e = let z : ◌≡◌ {A = ℕ} 0 1 = ap one e in absurd (omega arith)

-- both of two tests hold
pub both : (a b : Bool) → (a && b) ≡ true → (a ≡ true) × (b ≡ true)
both true true e = (refl, refl)
both true false e = absurd (clash e)
both false b e = absurd (clash e)

-- A rule covers a channel: by its class and its channels.
pub covers_parts : (c y : ℕ) (r : Rule) → covers c y r ≡ true → (r.account_class ≡ c) × ((r.first ≤ y) × (y ≤ r.last))
unfolding covers
covers_parts c y r e =
    let a : (eqb r.account_class c ≡ true) × (inside r.first r.last y ≡ true) = both _ _ e in
    let b : (leb r.first y ≡ true) × (leb y r.last ≡ true) = both _ _ a.1 in
    (eqb-true _ _ a.0, (leb-true _ _ b.0, leb-true _ _ b.1))

pub covers_made : (c y : ℕ) (r : Rule) → r.account_class ≡ c → r.first ≤ y → y ≤ r.last → covers c y r ≡ true
unfolding covers
covers_made c y r e l h = rw (eq-eqb _ _ e, le-leb _ _ l, le-leb _ _ h)

-- Two rules that cover one channel overlap, and two that overlap cover one.
pub shared : (c y : ℕ) (r s : Rule) → covers c y r ≡ true → covers c y s ≡ true → overlap r s ≡ true
unfolding overlap
shared c y r s e f =
    let a = covers_parts c y r e in
    let b = covers_parts c y s f in
    let q : r.account_class ≡ s.account_class = a.0 ∙ sym b.0 in
    rw (eq-eqb _ _ q, le-leb r.first s.last (omega (arith, a.1.0, b.1.1)), le-leb s.first r.last (omega (arith, b.1.0, a.1.1)))

-- What a rule marks.
bit_two : (k m : ℕ) → bit k m < 2
bit_two k m = mod-lt (m / 2 ^ k) (zero-lt-suc 1)

pub marks_in : (r : Rule) (x k : ℕ) → k < window_size → r.first ≤ x + k → x + k ≤ r.last → bit k (marks_of r x) ≡ 1
unfolding marks_of
marks_in r x k s l h =
    rw (marks_of, le-ltb r.last r.first (omega arith), le-ltb r.last x (omega arith), lt-leb window_size (r.first - x) (omega arith))
    (range_in k (r.first - x) (min (r.last - x) (window_size - 1)) (omega arith) (omega arith))

pub marks_has : (r : Rule) (x k : ℕ) → bit k (marks_of r x) ≡ 1 → (k < window_size) × ((r.first ≤ x + k) × (x + k ≤ r.last))
unfolding marks_of
marks_has r x k e = go (ltb r.last r.first || (ltb r.last x || leb window_size (r.first - x))) refl e
  where
    or_false : (a b : Bool) → (a || b) ≡ false → (a ≡ false) × (b ≡ false)
    or_false true b e = absurd (clash (sym e))
    or_false false b e = (refl, e)

    go : (b : Bool) → (ltb r.last r.first || (ltb r.last x || leb window_size (r.first - x))) ≡ b
        → bit k (elim b [ true ↦ 0 | false ↦ bits_of (r.first - x) (min (r.last - x) (window_size - 1)) ]) ≡ 1
        → (k < window_size) × ((r.first ≤ x + k) × (x + k ≤ r.last))
    go true t e = let z : ◌≡◌ {A = ℕ} 0 1 = sym (zero_bit k) ∙ e in absurd (omega arith)
    go false t e =
        let o = or_false _ _ t in
        let p = or_false _ _ o.1 in
        let f : r.first ≤ r.last = ltb-false _ _ o.0 in
        let g : x ≤ r.last = ltb-false _ _ p.0 in
        let h : r.first - x < window_size = leb-false _ _ p.1 in
        let a : ℕ = r.first - x in
        let b : ℕ = min (r.last - x) (window_size - 1) in
        let low : a ≤ k = within a b k (leb a k) refl (λ i. range_below k a b i) e in
        let high : k ≤ b = over a b k (leb k b) refl (λ i. range_above k a b (omega arith) i) e in
        (omega (arith, high), (omega (arith, low), omega (arith, high, g)))
      where
        within : (a b k : ℕ) (t : Bool) → leb a k ≡ t → (k < a → bit k (bits_of a b) ≡ 0) → bit k (bits_of a b) ≡ 1 → a ≤ k
        within a b k true t f e = leb-true a k t
        within a b k false t f e = let z : ◌≡◌ {A = ℕ} 0 1 = sym (f (leb-false a k t)) ∙ e in absurd (omega arith)

        over : (a b k : ℕ) (t : Bool) → leb k b ≡ t → (b < k → bit k (bits_of a b) ≡ 0) → bit k (bits_of a b) ≡ 1 → k ≤ b
        over a b k true t f e = leb-true k b t
        over a b k false t f e = let z : ◌≡◌ {A = ℕ} 0 1 = sym (f (leb-false k b t)) ∙ e in absurd (omega arith)

-- The window once rules are marked in it, the last one first.
abbrev pub window_of : Window → List Rule → Window
window_of w [] = w
window_of w (r ∷ rs) = marked (window_of w rs) r

abbrev pub blank : Rule
blank = record { account_class = 0; allowed = 0; first = 0; last = 0 }

abbrev pub rule : List Rule → ℕ → Rule
rule rs i = get_or rs i blank

-- one of the rules covers the channel
abbrev pub Covered : (c y : ℕ) → List Rule → Type 0
Covered c y rs = (i : ℕ) × ((i < length rs) × (covers c y (rule rs i) ≡ true))

-- Of a window: its class and its first channel; which bits are set; where the next channel is.
pub record Whole (c x : ℕ) (rs : List Rule) (w : Window) : Type 0 where
  pub class_is : w.class ≡ c
  pub from_is : w.from ≡ x
  pub has : (k : ℕ) → bit k w.marks ≡ 1 → (k < window_size) × Covered c (x + k) rs
  pub into : (k : ℕ) → k < window_size → Covered c (x + k) rs → bit k w.marks ≡ 1
  pub begins : (i : ℕ) → i < length rs → (rule rs i).account_class ≡ c → x + window_size ≤ (rule rs i).first → w.next ≤ (rule rs i).first
  pub ended : (i : ℕ) → i < length rs → (rule rs i).account_class ≡ c → x + window_size ≤ (rule rs i).last + 1 → w.next ≤ (rule rs i).last + 1
  pub inside_all : w.next ≤ channels
  pub behind : x + window_size ≤ channels → x + window_size ≤ w.next

-- the lower of two channels
break_le : (x b n : ℕ) → break_before x b n ≤ n
unfolding break_before
break_le x b n = go (leb (x + window_size) b && ltb b n) refl
  where
    go : (t : Bool) → (leb (x + window_size) b && ltb b n) ≡ t → elim t [ true ↦ b | false ↦ n ] ≤ n
    go true e = omega (arith, ltb-true b n (both (leb (x + window_size) b) (ltb b n) e).1)
    go false e = omega arith

break_at : (x b n : ℕ) → x + window_size ≤ b → break_before x b n ≤ b
unfolding break_before
break_at x b n l = rw (break_before, le-leb (x + window_size) b l) (go (ltb b n) refl)
  where
    go : (t : Bool) → ltb b n ≡ t → elim t [ true ↦ b | false ↦ n ] ≤ b
    go true e = omega arith
    go false e = ltb-false b n e

break_ge : (x b n : ℕ) → x + window_size ≤ n → x + window_size ≤ break_before x b n
unfolding break_before
break_ge x b n l = go (leb (x + window_size) b && ltb b n) refl
  where
    go : (t : Bool) → (leb (x + window_size) b && ltb b n) ≡ t → x + window_size ≤ elim t [ true ↦ b | false ↦ n ]
    go true e = leb-true (x + window_size) b (both (leb (x + window_size) b) (ltb b n) e).0
    go false e = l

-- a rule of another class marks nothing; one of the class does
skipped : (c x : ℕ) (r : Rule) (rs : List Rule) (w : Window) → Whole c x rs w → is_of_class w r ≡ false → Whole c x (r ∷ rs) (marked w r)
unfolding marked is_of_class
skipped c x r rs w W e = rw (marked, e) (record {
  class_is = W.class_is;
  from_is = W.from_is;
  has = λ k b. ((W.has k b).0, (suc (W.has k b).1.0, (omega (arith, (W.has k b).1.1.0), (W.has k b).1.1.1)));
  into = λ k l C. elsewhere k l C.0 C.1.0 C.1.1;
  begins = λ i l q. at_begin i l q;
  ended = λ i l q. at_end i l q;
  inside_all = W.inside_all;
  behind = W.behind;
})
  where
    other : r.account_class ≡ c → ⊥
    other q = eqb-false w.class r.account_class e (W.class_is ∙ sym q)

    elsewhere : (k : ℕ) → k < window_size → (i : ℕ) → i < suc (length rs) → covers c (x + k) (rule (r ∷ rs) i) ≡ true → bit k w.marks ≡ 1
    elsewhere k l zero h e = absurd (other (covers_parts c (x + k) r e).0)
    elsewhere k l (suc i) h e = W.into k l (i, (omega arith, e))

    at_begin : (i : ℕ) → i < suc (length rs) → (rule (r ∷ rs) i).account_class ≡ c → x + window_size ≤ (rule (r ∷ rs) i).first → w.next ≤ (rule (r ∷ rs) i).first
    at_begin zero l q = absurd (other q)
    at_begin (suc i) l q = W.begins i (omega arith) q

    at_end : (i : ℕ) → i < suc (length rs) → (rule (r ∷ rs) i).account_class ≡ c → x + window_size ≤ (rule (r ∷ rs) i).last + 1 → w.next ≤ (rule (r ∷ rs) i).last + 1
    at_end zero l q = absurd (other q)
    at_end (suc i) l q = W.ended i (omega arith) q

placed : (c x : ℕ) (r : Rule) (rs : List Rule) (w : Window) → Whole c x rs w → is_of_class w r ≡ true → Whole c x (r ∷ rs) (marked w r)
unfolding marked is_of_class
placed c x r rs w W e = rw (marked, e) (record {
  class_is = W.class_is;
  from_is = W.from_is;
  has = λ k b. set k (bit k w.marks) refl b;
  into = λ k l C. gets k l C.0 C.1.0 C.1.1;
  begins = λ i l q h. at_begin i l q h;
  ended = λ i l q h. at_end i l q h;
  inside_all = omega (arith, step_le, W.inside_all);
  behind = λ l. break_keeps (W.behind l);
})
  where
    own : r.account_class ≡ c
    own = sym (eqb-true w.class r.account_class e) ∙ W.class_is

    first_next_lem : ℕ
    first_next_lem = break_before w.from r.first w.next

    last_next : ℕ
    last_next = break_before w.from (r.last + 1) first_next_lem

    step_le : last_next ≤ w.next
    step_le = omega (arith, break_le w.from (r.last + 1) first_next_lem, break_le w.from r.first w.next)

    break_keeps : x + window_size ≤ w.next → x + window_size ≤ last_next
    break_keeps l =
        let f : w.from ≡ x = W.from_is in
        let a : w.from + window_size ≤ first_next_lem = break_ge w.from r.first w.next (omega arith) in
        omega (arith, break_ge w.from (r.last + 1) first_next_lem a)

    set : (k b : ℕ) → bit k w.marks ≡ b → bit k (bit_or w.marks (marks_of r w.from)) ≡ 1 → (k < window_size) × Covered c (x + k) (r ∷ rs)
    set k zero e b =
        let m : bit k (marks_of r w.from) ≡ 1 = omega (arith, sym (bit_or_lem k w.marks (marks_of r w.from)) ∙ b, bit_two k (marks_of r w.from)) in
        let h = marks_has r x k (ap (λ (f : ℕ). bit k (marks_of r f)) (sym W.from_is) ∙ m) in
        (h.0, (0, (omega arith, covers_made c (x + k) r own h.1.0 h.1.1)))
    set k (suc zero) e b = let h = W.has k e in (h.0, (suc h.1.0, (omega (arith, h.1.1.0), h.1.1.1)))
    set k (suc (suc n)) e b = absurd (omega (arith, bit_two k w.marks))

    gets : (k : ℕ) → k < window_size → (i : ℕ) → i < suc (length rs) → covers c (x + k) (rule (r ∷ rs) i) ≡ true → bit k (bit_or w.marks (marks_of r w.from)) ≡ 1
    gets k l zero h e =
        let p = covers_parts c (x + k) r e in
        let m : bit k (marks_of r w.from) ≡ 1 = ap (λ (f : ℕ). bit k (marks_of r f)) W.from_is ∙ marks_in r x k l p.1.0 p.1.1 in
        omega (arith, bit_or_lem k w.marks (marks_of r w.from), bit_two k w.marks)
    gets k l (suc i) h e =
        let m : bit k w.marks ≡ 1 = W.into k l (i, (omega arith, e)) in
        omega (arith, bit_or_lem k w.marks (marks_of r w.from), bit_two k (marks_of r w.from))

    at_begin : (i : ℕ) → i < suc (length rs) → (rule (r ∷ rs) i).account_class ≡ c → x + window_size ≤ (rule (r ∷ rs) i).first → last_next ≤ (rule (r ∷ rs) i).first
    at_begin zero l q h =
        let f : w.from ≡ x = W.from_is in
        omega (arith, break_le w.from (r.last + 1) first_next_lem, break_at w.from r.first w.next (omega arith))
    at_begin (suc i) l q h = omega (arith, step_le, W.begins i (omega arith) q h)

    at_end : (i : ℕ) → i < suc (length rs) → (rule (r ∷ rs) i).account_class ≡ c → x + window_size ≤ (rule (r ∷ rs) i).last + 1 → last_next ≤ (rule (r ∷ rs) i).last + 1
    at_end zero l q h = let f : w.from ≡ x = W.from_is in break_at w.from (r.last + 1) first_next_lem (omega arith)
    at_end (suc i) l q h = omega (arith, step_le, W.ended i (omega arith) q h)

-- So of all rules.
pub whole : (c x : ℕ) (rs : List Rule) → Whole c x rs (window_of (window_at c x) rs)
unfolding window_at
whole c x [] = record {
  class_is = refl;
  from_is = refl;
  has = λ k b. (let z : ◌≡◌ {A = ℕ} 0 1 = sym (zero_bit k) ∙ b in absurd (omega arith));
  into = λ k l C. absurd (omega (arith, C.1.0));
  begins = λ i l q h. absurd (omega arith);
  ended = λ i l q h. absurd (omega arith);
  inside_all = omega arith;
  behind = λ l. l;
}
whole c x (r ∷ rs) = go (is_of_class (window_of (window_at c x) rs) r) refl (whole c x rs)
  where
    go : (b : Bool) → is_of_class (window_of (window_at c x) rs) r ≡ b → Whole c x rs (window_of (window_at c x) rs) → Whole c x (r ∷ rs) (marked (window_of (window_at c x) rs) r)
    go true e W = placed c x r rs (window_of (window_at c x) rs) W e
    go false e W = skipped c x r rs (window_of (window_at c x) rs) W e

-- A rule meets a window exactly if it and one of those marked in it cover a channel of it.
pub meets_has : (c x : ℕ) (r : Rule) (rs : List Rule) (w : Window) → Whole c x rs w → meets w r ≡ true → (k : ℕ) × ((k < window_size) × ((covers c (x + k) r ≡ true) × Covered c (x + k) rs))
unfolding meets is_of_class
meets_has c x r rs w W e =
    let p = both _ _ e in
    let own : r.account_class ≡ c = sym (eqb-true w.class r.account_class p.0) ∙ W.class_is in
    let m : ℕ = bit_and w.marks (marks_of r w.from) in
    let some : 0 < m = positive m (not-true _ p.1) in
    let (k, b) = has_bit m some in
    let a : min (bit k w.marks) (bit k (marks_of r w.from)) ≡ 1 = sym (bit_and_lem k w.marks (marks_of r w.from)) ∙ b in
    let one-here : bit k w.marks ≡ 1 = omega (arith, bit_two k w.marks) in
    let one_there : bit k (marks_of r w.from) ≡ 1 = omega (arith, bit_two k (marks_of r w.from)) in
    let h = marks_has r x k (ap (λ (f : ℕ). bit k (marks_of r f)) (sym W.from_is) ∙ one_there) in
    (k, (h.0, (covers_made c (x + k) r own h.1.0 h.1.1, (W.has k one-here).1)))
  where
    positive : (m : ℕ) → eqb m 0 ≡ false → 0 < m
    positive zero e = absurd (eqb-false 0 0 e refl)
    positive (suc m) e = omega arith

pub meets_made : (c x : ℕ) (r : Rule) (rs : List Rule) (w : Window) → Whole c x rs w → (k : ℕ) → k < window_size → covers c (x + k) r ≡ true → Covered c (x + k) rs → meets w r ≡ true
unfolding meets is_of_class
meets_made c x r rs w W k l e C =
    let p = covers_parts c (x + k) r e in
    let q : w.class ≡ r.account_class = W.class_is ∙ sym p.0 in
    let one-here : bit k w.marks ≡ 1 = W.into k l C in
    let one_there : bit k (marks_of r w.from) ≡ 1 = ap (λ (f : ℕ). bit k (marks_of r f)) W.from_is ∙ marks_in r x k l p.1.0 p.1.1 in
    let a : bit k (bit_and w.marks (marks_of r w.from)) ≡ 1 = omega (arith, bit_and_lem k w.marks (marks_of r w.from)) in
    rw (eq-eqb _ _ q, ne_eqb (bit_and w.marks (marks_of r w.from)) 0 (λ z. nothing (ap (bit k) z ∙ zero_bit k) a))
  where
    nothing : {b : ℕ} → b ≡ 0 → b ≡ 1 → ⊥
    nothing z o = absurd (omega arith)
