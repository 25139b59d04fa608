-- Digits w fold to the number that w writes, and a decimal is the float that 01 says.
-- Assumes nothing.
use mathlib.Core.Bool.{Bool, true, false, ◌||◌}
use mathlib.Core.List.{List, [], ◌∷◌}
use mathlib.Core.Logic.{◌⊎◌, inl, inr}
use mathlib.Core.Option.{none}
use mathlib.Core.Path.{◌≡◌, refl, sym, ap, ap₂, ◌∙◌, subst}
use Prim.Native.Nat.{ℕ, zero, suc, ◌+◌, ◌*◌, ◌/◌, ◌%◌, ◌^◌, ◌<◌, ◌≤◌, zero-le}
use native.Mathlib.Nat.{le_trans, le_of_eq, lt_of_le_of_lt, lt_of_lt_of_le, lt_of_not-le, not-le_of_lt, not-suc-le-zero, le_of_suc-le-suc, add-zero, zero-add, add_assoc, mul-one, one-mul, mul_assoc, mul_comm, mul-le-mul_left, mul-le-mul_right, pow-suc, pow-le-pow_right, mul-mod_left, mul-div_cancel, mul-add-mod_self_right, mod-eq_of_lt}
use native.Mathlib.Numerals.{add-one}
use native.Mathlib.Omega.{arith}
use lib.Dec.{ltb, leb, eqb, lit<, lit≤}
use lib.ListN.{length}
use lib.Pow.{pow-add}
use borrow.Author.Tests.{le-ltb, le-leb, eq-eqb, ne_eqb, ltb-true, ltb-false, leb-true, leb-false, eqb-true, eqb-false}
use Rattle.std.proofs.Common.{Option, Some}
use Rattle.program.specs.Bytes.{byte}
use Rattle.program.specs.Choice.{pick}
use Rattle.program.specs.Class.{class_of, is_digit}
use Rattle.grammar.specs.Numbers.{value_of, count_digits, zeros_of, scaled_bits, decimal_bits, Numeral, digits_of, up_of, down_of, float_of}
use Rattle.records.specs.Limits.{number_limit}
use Rattle.number_decimals.specs.Decimals.{counted, no_digits, few_digits, significant_pushed, digit_pushed, powered_bits, exponent_bits, float_in}
use Rattle.number_integers.specs.Folds.{folded, all_digits}
use Rattle.number_bits.specs.Number.{capped, shifted}
use Rattle.number_decimals.specs.declared.mantissa.Mantissa.{Mantissa}
use Rattle.number_integers.proofs.Folds.{and_left, and_right}
use Rattle.number_numerals.proofs.IntegerFolds.{number_value}
use Rattle.number_decimals.proofs.Scale.{counted_same, counted_most, no_digits_lem, no_high, no_low}

ten_more : (x z : ℕ) → x * 10 ^ z * 10 ≡ x * 10 ^ (z + 1)
ten_more x z = mul_assoc x (10 ^ z) 10 ∙ ap (λ (y : ℕ). x * y) (sym (pow-suc 10 z) ∙ ap (λ (y : ℕ). 10 ^ y) (sym (add-one z)))

-- how many zeros stand at the end
pub zeros_are : (u m x z : ℕ) → m ≡ x * 10 ^ z → (x % 10 ≡ 0 → ⊥) → z ≤ u → zeros_of u m ≡ z
unfolding zeros_of
zeros_are zero m x zero e n h = refl
zeros_are zero m x (suc z) e n h = absurd (not-suc-le-zero h)
zeros_are (suc u) m x zero e n h = rw (e ∙ mul-one x, ne_eqb (x % 10) 0 n)
zeros_are (suc u) m x (suc z) e n h =
    let f : m ≡ x * 10 ^ z * 10 = e ∙ ap (λ (y : ℕ). x * y) (pow-suc 10 z) ∙ sym (mul_assoc x (10 ^ z) 10) in
    rw (eq-eqb (m % 10) 0 (ap (λ (y : ℕ). y % 10) f ∙ mul-mod_left (x * 10 ^ z) 10))
    (ap suc (zeros_are u (m / 10) x z (ap (λ (y : ℕ). y / 10) f ∙ mul-div_cancel (x * 10 ^ z) (lit< tt)) n (le_of_suc-le-suc h)))

-- The state s of the digits of m: none but zeros, or those of x and z zeros behind.
pub record Ends (s : Option Mantissa) (m : ℕ) : Type 0 where
  pub x : ℕ
  pub z : ℕ
  pub state : s ≡ few_digits x (counted z)
  pub value : m ≡ x * 10 ^ z
  pub ends : x % 10 ≡ 0 → ⊥

abbrev pub Holds : Option Mantissa → ℕ → Type 0
Holds s m = ((s ≡ no_digits) × (m ≡ 0)) ⊎ Ends s m

not_zero : (x : ℕ) → (x % 10 ≡ 0 → ⊥) → x ≡ 0 → ⊥
not_zero x n e = n (ap (λ (y : ℕ). y % 10) e)

at_least : (x y : ℕ) → x ≤ x + y
at_least x y = omega arith

counted_on : (n : ℕ) → counted (counted n + 1) ≡ counted (n + 1)
counted_on n = go (leb n (2 ^ 62)) refl
  where
    go : (t : Bool) → leb n (2 ^ 62) ≡ t → counted (counted n + 1) ≡ counted (n + 1)
    go true e = ap (λ (k : ℕ). counted (k + 1)) (counted_same n (leb-true n (2 ^ 62) e))
    go false e =
        let h = leb-false n (2 ^ 62) e in
        ap (λ (k : ℕ). counted (k + 1)) (counted_most n h) ∙ counted_most (2 ^ 62 + 1) (lit< tt) ∙ sym (counted_most (n + 1) (omega arith))

-- a zero more
zero_more : (x z : ℕ) → (x % 10 ≡ 0 → ⊥) → digit_pushed (few_digits x (counted z)) 0 ≡ few_digits x (counted (z + 1))
unfolding digit_pushed few_digits
zero_more x z n = go (ltb x (10 ^ 15)) refl
  where
    go : (t : Bool) → ltb x (10 ^ 15) ≡ t → digit_pushed (few_digits x (counted z)) 0 ≡ few_digits x (counted (z + 1))
    go true e = simp (e, ne_eqb x 0 (not_zero x n), counted_on z)
    go false e = simp e

-- another digit more
large : (x p d : ℕ) → 1 ≤ x → 1000000000000000 ≤ p → 1000000000000000 ≤ x * p + d
large x p d h k = le_trans k (le_trans (subst (λ (y : ℕ). y ≤ x * p) (one-mul p) (mul-le-mul_right p h)) (at_least (x * p) d))

larger : (x p d : ℕ) → 1000000000000000 ≤ x → 1 ≤ p → 1000000000000000 ≤ x * p + d
larger x p d h k = le_trans h (le_trans (subst (λ (y : ℕ). y ≤ x * p) (mul-one x) (mul-le-mul_left x k)) (at_least (x * p) d))

tens_pos : (k : ℕ) → 1 ≤ 10 ^ k
tens_pos k = pow-le-pow_right {n = 10} (lit< tt) {i = 0} {j = k} zero-le

pos_of_lem : (x : ℕ) → (x ≡ 0 → ⊥) → 1 ≤ x
pos_of_lem x n = omega arith

counted_far : (z : ℕ) → 15 ≤ z → 15 ≤ counted z
counted_far z h = go (leb z (2 ^ 62)) refl
  where
    go : (t : Bool) → leb z (2 ^ 62) ≡ t → 15 ≤ counted z
    go true e = rw (counted_same z (leb-true z (2 ^ 62) e)) h
    go false e = rw (counted_most z (leb-false z (2 ^ 62) e)) (lit≤ tt)

digit_more : (x z d : ℕ) → (x % 10 ≡ 0 → ⊥) → (d ≡ 0 → ⊥) → digit_pushed (few_digits x (counted z)) d ≡ few_digits (x * 10 ^ (z + 1) + d) 0
unfolding digit_pushed few_digits significant_pushed
digit_more x z d n k = go (ltb x (10 ^ 15)) refl
  where
    go : (t : Bool) → ltb x (10 ^ 15) ≡ t → digit_pushed (few_digits x (counted z)) d ≡ few_digits (x * 10 ^ (z + 1) + d) 0
    go false e = simp (e, le-ltb (x * 10 ^ (z + 1) + d) (10 ^ 15) (larger x (10 ^ (z + 1)) d (ltb-false x (10 ^ 15) e) (tens_pos (z + 1))))
    go true e = far (leb 15 z) refl
      where
        far : (t : Bool) → leb 15 z ≡ t → digit_pushed (few_digits x (counted z)) d ≡ few_digits (x * 10 ^ (z + 1) + d) 0
        far false f =
            let h = leb-false 15 z f in
            simp (e, ne_eqb d 0 k, counted_same z (omega arith), f)
        far true f =
            let h = leb-true 15 z f in
            let l = le_trans (lit≤ {m = 10 ^ 15} {n = 10 ^ 16} tt) (pow-le-pow_right {n = 10} (lit< tt) {i = 16} {j = z + 1} (omega arith)) in
            simp (e, ne_eqb d 0 k, le-leb 15 (counted z) (counted_far z h), le-ltb (x * 10 ^ (z + 1) + d) (10 ^ 15) (large x (10 ^ (z + 1)) d (pos_of_lem x (not_zero x n)) l))

-- the first digit that is not zero
first : (d : ℕ) → (d ≡ 0 → ⊥) → digit_pushed no_digits d ≡ few_digits d 0
unfolding digit_pushed significant_pushed
first d n = simp (ne_eqb d 0 n, zero-add)

no_zeros : counted 0 ≡ 0
unfolding counted
no_zeros = refl

ends_with : (y d : ℕ) → d < 10 → (d ≡ 0 → ⊥) → (y * 10 + d) % 10 ≡ 0 → ⊥
ends_with y d h n e = n (sym (mul-add-mod_self_right y 10 d ∙ mod-eq_of_lt h) ∙ e)

stays : digit_pushed no_digits 0 ≡ no_digits
unfolding digit_pushed
stays = refl

pub holds_more : (s : Option Mantissa) (m d : ℕ) → d < 10 → Holds s m → Holds (digit_pushed s d) (m * 10 + d)
holds_more s m d h a = go (eqb d 0) refl a
  where
    go : (t : Bool) → eqb d 0 ≡ t → Holds s m → Holds (digit_pushed s d) (m * 10 + d)
    go true e (inl p) =
        let k = eqb-true d 0 e in
        inl (rw (k, p.0) stays, rw (k, p.1))
    go true e (inr p) =
        let k = eqb-true d 0 e in
        inr (record {
          x = p.x;
          z = p.z + 1;
          state = rw (k, p.state) (zero_more p.x p.z p.ends);
          value = rw (k, add-zero, p.value) (ten_more p.x p.z);
          ends = p.ends;
        })
    go false e (inl p) =
        let n = eqb-false d 0 e in
        inr (record {
          x = d;
          z = 0;
          state = rw (p.0, no_zeros) (first d n);
          value = rw p.1 (zero-add d ∙ sym (mul-one d));
          ends = λ q. n (sym (mod-eq_of_lt h) ∙ q);
        })
    go false e (inr p) =
        let n = eqb-false d 0 e in
        let v : m * 10 + d ≡ p.x * 10 ^ (p.z + 1) + d =
        ap (λ (y : ℕ). y + d) (ap (λ (y : ℕ). y * 10) p.value ∙ ten_more p.x p.z) in
        inr (record {
          x = m * 10 + d;
          z = 0;
          state = rw (p.state, no_zeros, v) (digit_more p.x p.z d p.ends n);
          value = sym (mul-one (m * 10 + d));
          ends = ends_with m d h n;
        })

-- what a digit or an underscore is
digit_of : (x : ℕ) (r : List ℕ) → all_digits (x ∷ r) ≡ true → eqb x (byte "_") ≡ false → class_of x < 10
unfolding all_digits is_digit
digit_of x r a e = ltb-true (class_of x) 10 (or_left (ltb (class_of x) 10) (eqb x (byte "_")) (and_left (is_digit x || eqb x (byte "_")) (all_digits r) a) e)
  where
    or_left : (a b : Bool) → (a || b) ≡ true → b ≡ false → a ≡ true
    or_left true b e f = refl
    or_left false b e f = sym (let z : false ≡ true = sym f ∙ e in cc)

rest_of : (x : ℕ) (r : List ℕ) → all_digits (x ∷ r) ≡ true → all_digits r ≡ true
unfolding all_digits
rest_of x r a = and_right (is_digit x || eqb x (byte "_")) (all_digits r) a

pub holds_digits : (w : List ℕ) (s : Option Mantissa) (m : ℕ) → all_digits w ≡ true → Holds s m → Holds (folded digit_pushed s w) (value_of m w)
unfolding folded value_of
holds_digits [] s m a h = h
holds_digits (x ∷ r) s m a h = go (eqb x (byte "_")) refl (λ t n k. holds_digits r t n (rest_of x r a) k)
  where
    go : (t : Bool) → eqb x (byte "_") ≡ t → ((t : Option Mantissa) (n : ℕ) → Holds t n → Holds (folded digit_pushed t r) (value_of n r)) →
        Holds (folded digit_pushed s (x ∷ r)) (value_of m (x ∷ r))
    go true e ih = simp e (ih s m h)
    go false e ih = simp e (ih (digit_pushed s (class_of x)) (m * 10 + class_of x) (holds_more s m (class_of x) (digit_of x r a e) h))

-- a number is below ten to the count of its digits
bound_more : (v d p : ℕ) → d < 10 → (v * 10 + d + 1) * p ≤ (v + 1) * (p * 10)
bound_more v d p h = le_trans (mul-le-mul_right p (more v d h)) (le_of_eq (regroup v p))
  where
    more : (v d : ℕ) → d < 10 → v * 10 + d + 1 ≤ (v + 1) * 10
    more v d h = omega arith

    regroup : (v p : ℕ) → (v + 1) * 10 * p ≡ (v + 1) * (p * 10)
    regroup v p = mul_assoc (v + 1) 10 p ∙ ap (λ (y : ℕ). (v + 1) * y) (mul_comm 10 p)

bound_same : (v p : ℕ) → (v + 1) * p ≤ (v + 1) * (p * 10)
bound_same v p = mul-le-mul_left (v + 1) (omega arith)

pub value_small : (w : List ℕ) (v : ℕ) → all_digits w ≡ true → value_of v w < (v + 1) * 10 ^ length w
unfolding value_of
value_small [] v a = rw (mul-one (v + 1)) (omega arith)
value_small (x ∷ r) v a = go (eqb x (byte "_")) refl (λ n. value_small r n (rest_of x r a))
  where
    go : (t : Bool) → eqb x (byte "_") ≡ t → ((n : ℕ) → value_of n r < (n + 1) * 10 ^ length r) → value_of v (x ∷ r) < (v + 1) * 10 ^ suc (length r)
    go true e ih = simp e (rw (pow-suc 10 (length r)) (lt_of_lt_of_le (ih v) (bound_same v (10 ^ length r))))
    go false e ih = simp e (rw (pow-suc 10 (length r)) (lt_of_lt_of_le (ih (v * 10 + class_of x)) (bound_more v (class_of x) (10 ^ length r) (digit_of x r a e))))

-- the digits behind the point
pub count_digits_lem : (w : List ℕ) (p : ℕ) → folded (λ b d. counted (b + 1)) (counted p) w ≡ counted (p + count_digits w)
unfolding folded count_digits
count_digits_lem [] p = ap counted (sym (add-zero p))
count_digits_lem (x ∷ r) p = go (eqb x (byte "_")) refl (count_digits_lem r)
  where
    go : (t : Bool) → eqb x (byte "_") ≡ t → ((p : ℕ) → folded (λ b d. counted (b + 1)) (counted p) r ≡ counted (p + count_digits r)) →
        folded (λ b d. counted (b + 1)) (counted p) (x ∷ r) ≡ counted (p + count_digits (x ∷ r))
    go true e ih = simp (e, zero-add) (ih p)
    go false e ih = simp (e, counted_on p) (ih (p + 1) ∙ ap counted (add_assoc p 1 (count_digits r)))

pub count_small : (w : List ℕ) → count_digits w ≤ length w
unfolding count_digits
count_small [] = zero-le
count_small (x ∷ r) = go (eqb x (byte "_")) (count_small r)
  where
    go : (t : Bool) → count_digits r ≤ length r → pick t 0 1 + count_digits r ≤ suc (length r)
    go true h = omega arith
    go false h = omega arith

-- what is held is judged as the number is: m, of at most u digits, with p of them behind the point, times ten to the e or the -e
tens_cancel : {a b : ℕ} → 10 ^ a < 10 ^ b → a < b
tens_cancel h = lt_of_not-le (λ g. not-le_of_lt h (pow-le-pow_right {n = 10} (lit< tt) g))

module _ (s : Option Mantissa) (m u : ℕ) (h : Ends s m) (small : m < 10 ^ u) where
  tens_in : 10 ^ h.z ≤ m
  tens_in = subst (λ (y : ℕ). 10 ^ h.z ≤ y) (sym h.value) (subst (λ (y : ℕ). y ≤ h.x * 10 ^ h.z) (one-mul (10 ^ h.z)) (mul-le-mul_right (10 ^ h.z) (pos_of_lem h.x (not_zero h.x h.ends))))

  zeros_few : h.z < u
  zeros_few = tens_cancel (lt_of_le_of_lt tens_in small)

  stripped : (a b : ℕ) → decimal_bits u m a b ≡ scaled_bits h.x (a + h.z) b
  unfolding decimal_bits
  stripped a b =
      rw (decimal_bits, ne_eqb m 0 (some_digit m (le_trans (tens_pos h.z) tens_in)), zeros_are u m h.x h.z h.value h.ends (below h.z u zeros_few))
      (ap (λ (y : ℕ). scaled_bits y (a + h.z) b) (ap (λ (y : ℕ). y / 10 ^ h.z) h.value ∙ mul-div_cancel h.x (tens_pos h.z)))
    where
      some_digit : (m : ℕ) → 1 ≤ m → m ≡ 0 → ⊥
      some_digit m h e = omega arith

      below : (z u : ℕ) → z < u → z ≤ u
      below z u h = omega arith

module _ (x z p e : ℕ) (n : x % 10 ≡ 0 → ⊥) (few : z ≤ 2 ^ 62) (part : p ≤ 2 ^ 62) where
  out_of_reach : (down : Bool) → number_limit < e → none ≡ scaled_bits x (pick down 0 e + z) (p + pick down e 0)
  out_of_reach true h = sym (no_low x (0 + z) (p + e) (omega arith))
  out_of_reach false h = sym (no_high x (e + z) (p + 0) (omega arith))

  reached : (down : Bool) → exponent_bits x (counted z) (counted p) down (capped e) ≡ scaled_bits x (pick down 0 e + z) (p + pick down e 0)
  unfolding exponent_bits capped powered_bits
  reached down = go (leb e number_limit) refl
    where
      twice : (n : ℕ) → n ≤ 2 ^ 62 → counted (counted n) ≡ n
      twice n h = ap counted (counted_same n h) ∙ counted_same n h

      go : (t : Bool) → leb e number_limit ≡ t → exponent_bits x (counted z) (counted p) down (capped e) ≡ scaled_bits x (pick down 0 e + z) (p + pick down e 0)
      go true f = simp (f, twice z few, twice p part)
      go false f = simp f (out_of_reach down (leb-false e number_limit f))

  held : (down : Bool) → float_in (Some (record { sig = x; zeros = counted z })) (counted p) (capped e) down ≡ exponent_bits x (counted z) (counted p) down (capped e)
  unfolding float_in
  held down = rw (float_in, ne_eqb x 0 (not_zero x n))

  seen : (down : Bool) → float_in (few_digits x (counted z)) (counted p) (capped e) down ≡ scaled_bits x (pick down 0 e + z) (p + pick down e 0)
  unfolding few_digits float_in
  seen down = go (ltb x (10 ^ 15)) refl
    where
      go : (t : Bool) → ltb x (10 ^ 15) ≡ t → float_in (few_digits x (counted z)) (counted p) (capped e) down ≡ scaled_bits x (pick down 0 e + z) (p + pick down e 0)
      go true f = rw (few_digits, f) (held down ∙ reached down)
      go false f = rw (few_digits, f) (sym (no_digits_lem x (pick down 0 e + z) (p + pick down e 0) (ltb-false x (10 ^ 15) f)))

pub float_held : (s : Option Mantissa) (m u p e : ℕ) (down : Bool) → Holds s m → m < 10 ^ u → u ≤ 2 ^ 62 → p ≤ 2 ^ 62 →
    float_in s (counted p) (capped e) down ≡ decimal_bits u m (pick down 0 e) (p + pick down e 0)
unfolding float_in decimal_bits
float_held s m u p e down (inl h) small few part = rw (h.0, h.1)
float_held s m u p e down (inr h) small few part =
    let k = zeros_few s m u h small in
    ap (λ (t : Option Mantissa). float_in t (counted p) (capped e) down) h.state
    ∙ seen h.x h.z p e h.ends (omega arith) part down
    ∙ sym (stripped s m u h small (pick down 0 e) (p + pick down e 0))

digits_small : (w f : List ℕ) → all_digits w ≡ true → all_digits f ≡ true → value_of (value_of 0 w) f < 10 ^ (length w + length f)
digits_small w f a b =
    lt_of_lt_of_le (value_small f (value_of 0 w) b)
    (le_trans (mul-le-mul_right (10 ^ length f) (next_le (value_of 0 w) (10 ^ length w) (subst (λ (y : ℕ). value_of 0 w < y) (one-mul (10 ^ length w)) (value_small w 0 a))))
    (le_of_eq (sym (pow-add 10 (length w) (length f)))))
  where
    next_le : (x y : ℕ) → x < y → x + 1 ≤ y
    next_le x y h = omega arith

-- a numeral's digits, folded
abbrev pub mantissa_of : Numeral → Option Mantissa
mantissa_of n = folded digit_pushed (folded digit_pushed no_digits n.whole) n.part

abbrev pub behind_of : Numeral → ℕ
behind_of n = folded (λ b d. counted (b + 1)) 0 n.part

pub float_right : (n : Numeral) → all_digits n.whole ≡ true → all_digits n.part ≡ true → length n.whole + length n.part ≤ 2 ^ 62 →
    float_in (mantissa_of n) (behind_of n) (folded shifted (capped 0) n.power) n.down ≡ float_of n
unfolding float_of digits_of up_of down_of
float_right n a b l =
    let w = n.whole in
    let f = n.part in
    ap₂ (λ (x : ℕ) (y : Option ℕ). float_in (mantissa_of n) x y n.down) (none_yet ∙ count_digits_lem f 0 ∙ ap counted (zero-add (count_digits f))) (number_value n.power 0)
    ∙ float_held (mantissa_of n) (value_of (value_of 0 w) f) (length w + length f) (count_digits f) (value_of 0 n.power) n.down
    (holds_digits f (folded digit_pushed no_digits w) (value_of 0 w) b (holds_digits w no_digits 0 a (inl (refl, refl))))
    (digits_small w f a b) l (le_trans (count_small f) (le_trans (in_sum (length w) (length f)) l))
  where
    none_yet : folded (λ b d. counted (b + 1)) 0 n.part ≡ folded (λ b d. counted (b + 1)) (counted 0) n.part
    none_yet = ap (λ (k : ℕ). folded (λ b d. counted (b + 1)) k n.part) (sym no_zeros)

    in_sum : (x y : ℕ) → y ≤ x + y
    in_sum x y = omega arith
