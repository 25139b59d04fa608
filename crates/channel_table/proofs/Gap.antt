-- The lowest gap before a channel of a class: a window's first clear bit, where none was found before. Behind the last class it is the definition's.
-- Assumes nothing.
use mathlib.Core.Path.{◌≡◌, refl, sym, ap, ◌∙◌, subst}
use mathlib.Core.Bool.{Bool, true, false, ◌||◌}
use mathlib.Core.List.{List, [], ◌∷◌}
use mathlib.Core.Logic.{inl, inr}
use mathlib.Core.Option.{none, some}
use Prim.Native.Nat.{ℕ, zero, suc, ◌+◌, ◌-◌, ◌*◌, ◌/◌, ◌^◌, ◌≤◌, ◌<◌}
use native.Mathlib.Nat.{mod-lt, zero-lt-suc}
use native.Mathlib.Omega.{arith}
use lib.Dec.{ltb, leb, eqb}
use lib.ListN.{length}
use borrow.Author.Tests.{ltb-true, ltb-false, leb-true, leb-false, eqb-true, eqb-false, eq-eqb, ne_eqb}
use Rattle.channel_spec.specs.declared.Rule.{Rule}
use Rattle.channel_spec.specs.Table.{classes, channels, covers, covered, gap_from, first_gap}
use Rattle.channel_table.specs.declared.windows.Window.{Window}
use Rattle.channel_table.specs.Windows.{window_size, window_at, first_clear}
use Rattle.channel_table.specs.Search.{no_gap, gap_after}
use Rattle.channel_table.proofs.BitAt.{bit}
use Rattle.channel_table.proofs.Marked.{clash, window_of, rule, Covered, Whole, whole}
use Rattle.channel_table.proofs.Places.{Before, same_back}

-- There is none before (c, x); or it is the lowest of all.
pub data Gaps (rs : List Rule) (c x g : ℕ) : Type 0 where
  no_gap_lem : g ≡ no_gap → ((d y : ℕ) → y < channels → Before c x d y → Covered d y rs) → Gaps rs c x g
  gap_at : (d y : ℕ) → d < classes → y < channels → g ≡ d * channels + y → (Covered d y rs → ⊥) → ((e z : ℕ) → z < channels → Before d y e z → Covered e z rs) → Gaps rs c x g

-- The first clear bit: those before it are set.
clear_le : (m k b : ℕ) → first_clear m k b ≤ k + m
unfolding first_clear
clear_le zero k b = omega arith
clear_le (suc m) k b = go (eqb (bit k b) 0) (clear_le m (suc k) b)
  where
    go : (t : Bool) → first_clear m (suc k) b ≤ suc k + m → elim t [ true ↦ k | false ↦ first_clear m (suc k) b ] ≤ k + suc m
    go true l = omega arith
    go false l = omega arith

clear_is : (m k b : ℕ) → first_clear m k b < k + m → bit (first_clear m k b) b ≡ 0
unfolding first_clear
clear_is zero k b l = absurd (omega arith)
clear_is (suc m) k b l = go (eqb (bit k b) 0) refl (clear_is m (suc k) b) l
  where
    go : (t : Bool) → eqb (bit k b) 0 ≡ t → (first_clear m (suc k) b < suc k + m → bit (first_clear m (suc k) b) b ≡ 0)
        → elim t [ true ↦ k | false ↦ first_clear m (suc k) b ] < k + suc m → bit (elim t [ true ↦ k | false ↦ first_clear m (suc k) b ]) b ≡ 0
    go true e f l = eqb-true (bit k b) 0 e
    go false e f l = f (omega arith)

clear_before : (m k b j : ℕ) → k ≤ j → j < first_clear m k b → bit j b ≡ 1
unfolding first_clear
clear_before zero k b j l h = absurd (omega arith)
clear_before (suc m) k b j l h = go (eqb (bit k b) 0) refl (clear_before m (suc k) b j) h
  where
    set : eqb (bit k b) 0 ≡ false → bit k b ≡ 1
    set e = only (bit k b) (eqb-false (bit k b) 0 e) (mod-lt (b / 2 ^ k) (zero-lt-suc 1))
      where
        only : (d : ℕ) → (d ≡ 0 → ⊥) → d < 2 → d ≡ 1
        only zero n l = absurd (n refl)
        only (suc zero) n l = refl
        only (suc (suc d)) n l = absurd (omega arith)

    go : (t : Bool) → eqb (bit k b) 0 ≡ t → (suc k ≤ j → j < first_clear m (suc k) b → bit j b ≡ 1) → j < elim t [ true ↦ k | false ↦ first_clear m (suc k) b ] → bit j b ≡ 1
    go true e f h = absurd (omega arith)
    go false e f h = here (eqb j k) refl
      where
        here : (t : Bool) → eqb j k ≡ t → bit j b ≡ 1
        here true q = ap (λ (i : ℕ). bit i b) (eqb-true j k q) ∙ set e
        here false q = f (above (eqb-false j k q)) h
          where
            above : (j ≡ k → ⊥) → suc k ≤ j
            above n = more (leb (suc k) j) refl
              where
                more : (t : Bool) → leb (suc k) j ≡ t → suc k ≤ j
                more true z = leb-true (suc k) j z
                more false z = let q : j ≡ k = omega (arith, leb-false (suc k) j z) in absurd (n q)

-- Up to the next window.
pub gaps_on : (c x x' g : ℕ) (rs : List Rule) → c < classes → x + window_size ≤ channels → x' ≤ (window_of (window_at c x) rs).next → Gaps rs c x g → Gaps rs c x' (gap_after g (window_of (window_at c x) rs))
unfolding gap_after
gaps_on c x x' g rs small fits h (gap_at d y l m e n k) =
    let z : (g ≡ no_gap) → ⊥ = λ q. absurd (omega arith) in
    rw (gap_after, ne_eqb g no_gap z) (gap_at d y l m e n k)
gaps_on c x x' g rs small fits h (no_gap_lem e k) = rw (gap_after, eq-eqb g no_gap e) (go (ltb k₀ window_size) refl)
  where
    w : Window
    w = window_of (window_at c x) rs

    W : Whole c x rs w
    W = whole c x rs

    k₀ : ℕ
    k₀ = first_clear window_size 0 w.marks

    -- a channel of the window whose bit is set
    marked : (y : ℕ) → x ≤ y → bit (y - x) w.marks ≡ 1 → Covered c y rs
    marked y l b = let q : x + (y - x) ≡ y = omega arith in subst (λ (i : ℕ). Covered c i rs) q (W.has (y - x) b).1

    -- one before the first that is clear, or before the window
    lower : (y : ℕ) → y < x + k₀ → y < channels → Covered c y rs
    lower y l m = before (leb x y) refl
      where
        before : (t : Bool) → leb x y ≡ t → Covered c y rs
        before true t = marked y (leb-true x y t) (clear_before window_size 0 w.marks (y - x) (omega arith) (omega (arith, leb-true x y t)))
        before false t = k c y m (inr (refl, leb-false x y t))

    here : k₀ < window_size → Gaps rs c x' (w.class * channels + w.from + k₀)
    here l =
        let u : w.class ≡ c = W.class_is in
        let v : w.from ≡ x = W.from_is in
        let s : w.class * channels ≡ c * channels = ap (λ (i : ℕ). i * channels) u in
        gap_at c (x + k₀) small (omega arith) (omega arith)
        (λ C. clears (clear_is window_size 0 w.marks l) (W.into k₀ l C)) (λ d y m B. all d y m B)
      where
        clears : {b : ℕ} → b ≡ 0 → b ≡ 1 → ⊥
        clears z o = absurd (omega arith)

        all : (d y : ℕ) → y < channels → Before c (x + k₀) d y → Covered d y rs
        all d y m (inl z) = k d y m (inl z)
        all d y m (inr (z, u)) = subst (λ (i : ℕ). Covered i y rs) (sym z) (lower y u m)

    past : window_size ≤ k₀ → Gaps rs c x' g
    past l = no_gap_lem e all
      where
        last : Covered c (x + (window_size - 1)) rs
        last = lower (x + (window_size - 1)) (omega arith) (omega arith)

        all : (d y : ℕ) → y < channels → Before c x' d y → Covered d y rs
        all d y m (inl z) = k d y m (inl z)
        all d y m (inr (z, u)) = subst (λ (i : ℕ). Covered i y rs) (sym z) (reach (leb (x + window_size) y) refl)
          where
            reach : (t : Bool) → leb (x + window_size) y ≡ t → Covered c y rs
            reach true t = (last.0, (last.1.0, same_back c x y rs w W (leb-true (x + window_size) y t) (omega arith) last.0 last.1.0 last.1.1))
            reach false t = lower y (omega (arith, leb-false (x + window_size) y t)) m

    go : (t : Bool) → ltb k₀ window_size ≡ t → Gaps rs c x' (elim t [ true ↦ w.class * channels + w.from + k₀ | false ↦ g ])
    go true t = here (ltb-true k₀ window_size t)
    go false t = past (ltb-false k₀ window_size t)

pub gaps_class : (c g : ℕ) (rs : List Rule) → Gaps rs c channels g → Gaps rs (suc c) 0 g
gaps_class c g rs (gap_at d y l m e n k) = gap_at d y l m e n k
gaps_class c g rs (no_gap_lem e k) = no_gap_lem e all
  where
    all : (d y : ℕ) → y < channels → Before (suc c) 0 d y → Covered d y rs
    all d y m (inr (z, u)) = absurd (omega arith)
    all d y m (inl z) = go (ltb d c) refl
      where
        go : (v : Bool) → ltb d c ≡ v → Covered d y rs
        go true v = k d y m (inl (ltb-true d c v))
        go false v = k d y m (inr (omega (arith, ltb-false d c v), m))

-- The definition's test.
covered_made : (c y : ℕ) (rs : List Rule) (i : ℕ) → i < length rs → covers c y (rule rs i) ≡ true → covered c y rs ≡ true
unfolding covered
covered_made c y [] i l e = absurd (omega arith)
covered_made c y (r ∷ rs) zero l e = rw (covered, e)
covered_made c y (r ∷ rs) (suc i) l e = rw (covered, covered_made c y rs i (omega arith) e) (or_true (covers c y r))
  where
    or_true : (b : Bool) → (b || true) ≡ true
    or_true true = refl
    or_true false = refl

covered_has : (c y : ℕ) (rs : List Rule) → covered c y rs ≡ true → Covered c y rs
unfolding covered
covered_has c y [] e = absurd (clash e)
covered_has c y (r ∷ rs) e = go (covers c y r) refl (covered_has c y rs) e
  where
    go : (b : Bool) → covers c y r ≡ b → (covered c y rs ≡ true → Covered c y rs) → (b || covered c y rs) ≡ true → Covered c y (r ∷ rs)
    go true t f e = (0, (omega arith, t))
    go false t f e = let C = f e in (suc C.0, (omega (arith, C.1.0), C.1.1))

covered_not : (c y : ℕ) (rs : List Rule) → (Covered c y rs → ⊥) → covered c y rs ≡ false
covered_not c y rs n = go (covered c y rs) refl
  where
    go : (b : Bool) → covered c y rs ≡ b → covered c y rs ≡ false
    go true e = absurd (n (covered_has c y rs e))
    go false e = e

-- No gap among channels of a class; or the lowest.
from_none : (m c x : ℕ) (rs : List Rule) → ((y : ℕ) → x ≤ y → y < x + m → Covered c y rs) → gap_from m c x rs ≡ none
unfolding gap_from
from_none zero c x rs k = refl
from_none (suc m) c x rs k =
    let C = k x (omega arith) (omega arith) in
    rw (gap_from, covered_made c x rs C.0 C.1.0 C.1.1) (from_none m c (suc x) rs (λ y l h. k y (omega arith) (omega arith)))

from_some : (m c x y : ℕ) (rs : List Rule) → x ≤ y → y < x + m → (Covered c y rs → ⊥) → ((z : ℕ) → x ≤ z → z < y → Covered c z rs) → gap_from m c x rs ≡ some (c * channels + y)
unfolding gap_from
from_some zero c x y rs l h n k = absurd (omega arith)
from_some (suc m) c x y rs l h n k = go (eqb x y) refl (from_some m c (suc x) y rs)
  where
    go : (b : Bool) → eqb x y ≡ b → (suc x ≤ y → y < suc x + m → (Covered c y rs → ⊥) → ((z : ℕ) → suc x ≤ z → z < y → Covered c z rs) → gap_from m c (suc x) rs ≡ some (c * channels + y))
        → elim (covered c x rs) [ true ↦ gap_from m c (suc x) rs | false ↦ some (c * channels + x) ] ≡ some (c * channels + y)
    go true e f = let q : x ≡ y = eqb-true x y e in rw (covered_not c x rs (λ C. n (subst (λ (i : ℕ). Covered c i rs) q C))) (ap (λ (i : ℕ). some (c * channels + i)) q)
    go false e f =
        let s : suc x ≤ y = above (leb (suc x) y) refl in
        let C = k x (omega arith) (omega arith) in
        rw (covered_made c x rs C.0 C.1.0 C.1.1) (f s (omega arith) n (λ z i j. k z (omega arith) j))
      where
        above : (t : Bool) → leb (suc x) y ≡ t → suc x ≤ y
        above true z = leb-true (suc x) y z
        above false z = let q : x ≡ y = omega (arith, leb-false (suc x) y z) in absurd (eqb-false x y e q)

classes_none : (n c : ℕ) (rs : List Rule) → ((d y : ℕ) → c ≤ d → d < c + n → y < channels → Covered d y rs) → first_gap n c rs ≡ none
unfolding first_gap
classes_none zero c rs k = refl
classes_none (suc n) c rs k =
    rw (first_gap, from_none channels c 0 rs (λ y l h. k c y (omega arith) (omega arith) (omega arith)))
    (classes_none n (suc c) rs (λ d y l h m. k d y (omega arith) (omega arith) m))

classes_some : (n c d y : ℕ) (rs : List Rule) → c ≤ d → d < c + n → y < channels → (Covered d y rs → ⊥) → ((e z : ℕ) → c ≤ e → z < channels → Before d y e z → Covered e z rs) → first_gap n c rs ≡ some (d * channels + y)
unfolding first_gap
classes_some zero c d y rs l h m n k = absurd (omega arith)
classes_some (suc u) c d y rs l h m n k = go (eqb c d) refl (classes_some u (suc c) d y rs)
  where
    go : (b : Bool) → eqb c d ≡ b
        → (suc c ≤ d → d < suc c + u → y < channels → (Covered d y rs → ⊥) → ((e z : ℕ) → suc c ≤ e → z < channels → Before d y e z → Covered e z rs) → first_gap u (suc c) rs ≡ some (d * channels + y))
        → elim (gap_from channels c 0 rs) [ some p ↦ some p | none ↦ first_gap u (suc c) rs ] ≡ some (d * channels + y)
    go true e f =
        let q : c ≡ d = eqb-true c d e in
        let s : gap_from channels c 0 rs ≡ some (c * channels + y) =
        from_some channels c 0 y rs (omega arith) (omega arith) (λ C. n (subst (λ (i : ℕ). Covered i y rs) q C)) (λ z i j. k c z (omega arith) (omega arith) (inr (q, j))) in
        rw s (ap (λ (i : ℕ). some (i * channels + y)) q)
    go false e f =
        let s : suc c ≤ d = above (leb (suc c) d) refl in
        rw (from_none channels c 0 rs (λ z i j. k c z (omega arith) (omega arith) (inl s))) (f s (omega arith) m n (λ a z i j B. k a z (omega arith) j B))
      where
        above : (t : Bool) → leb (suc c) d ≡ t → suc c ≤ d
        above true z = leb-true (suc c) d z
        above false z = let q : c ≡ d = omega (arith, leb-false (suc c) d z) in absurd (eqb-false c d e q)

-- Behind the last class.
pub gaps_none : (g : ℕ) (rs : List Rule) → Gaps rs classes 0 g → g ≡ no_gap → first_gap classes 0 rs ≡ none
gaps_none g rs (no_gap_lem e k) q = classes_none classes 0 rs (λ d y l h m. k d y m (inl (omega arith)))
gaps_none g rs (gap_at d y l m e n k) q = absurd (omega arith)

pub gaps_some : (g : ℕ) (rs : List Rule) → Gaps rs classes 0 g → (g ≡ no_gap → ⊥) → first_gap classes 0 rs ≡ some g
gaps_some g rs (no_gap_lem e k) q = absurd (q e)
gaps_some g rs (gap_at d y l m e n k) q = classes_some classes 0 d y rs (omega arith) (omega arith) m n (λ a z i j B. k a z j B) ∙ ap some (sym e)
