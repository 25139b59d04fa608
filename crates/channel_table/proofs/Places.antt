-- What windows have found up to a channel of a class: the earliest rule that shares a channel before it with a later one, and the lowest gap before it.
-- A window adds its channels, and those behind it up to the next window are covered by the same rules as its last one.
-- Assumes nothing.
use mathlib.Core.Path.{◌≡◌, refl, sym, ap, ◌∙◌, subst}
use mathlib.Core.Bool.{Bool, true, false, ◌&&◌}
use mathlib.Core.List.{List, [], ◌∷◌}
use mathlib.Core.Logic.{◌⊎◌, inl, inr}
use Prim.Native.Nat.{ℕ, zero, suc, ◌+◌, ◌-◌, ◌≤◌, ◌<◌}
use native.Mathlib.Omega.{arith}
use lib.Dec.{ltb, leb}
use lib.ListN.{length}
use borrow.Author.Tests.{ltb-true, ltb-false, leb-true, leb-false}
use Rattle.channel_spec.specs.declared.Rule.{Rule}
use Rattle.channel_spec.specs.Table.{channels, overlap, covers}
use Rattle.channel_table.specs.declared.windows.Window.{Window}
use Rattle.channel_table.specs.declared.Question.{Question}
use Rattle.channel_table.specs.declared.Question.TheVariants.{Shared}
use Rattle.channel_table.specs.declared.Found.{Found}
use Rattle.channel_table.specs.declared.Search.{Search}
use Rattle.channel_table.specs.Windows.{window_size, window_at, meets}
use Rattle.channel_table.specs.Search.{finds, answers, question_after, found_after, moved}
use Rattle.channel_table.proofs.Marked.{clash, covers_parts, covers_made, shared, window_of, rule, Whole, whole, meets_has, meets_made}
use Rattle.channel_table.proofs.Lowest.{question_in, found_in}

-- the channel y of class d comes before channel x of class c
abbrev pub Before : (c x d y : ℕ) → Type 0
Before c x d y = (d < c) ⊎ ((d ≡ c) × (y < x))

-- The found rule overlaps one behind it, or none is found; and no earlier rule shares a channel before (c, x) with one behind it.
pub record Pairs (rs : List Rule) (c x : ℕ) (f : Found) : Type 0 where
  pub sound : (f.number ≡ length rs) ⊎ ((f.number < length rs) × ((f.rule ≡ rule rs f.number) × ((b : ℕ) × ((f.number < b) × ((b < length rs) × (overlap f.rule (rule rs b) ≡ true))))))
  pub complete : (a b d y : ℕ) → a < b → b < length rs → covers d y (rule rs a) ≡ true → covers d y (rule rs b) ≡ true → Before c x d y → f.number ≤ a

-- What a window's pass has found in rules, the first of which has number i.
record Part (c x i : ℕ) (rs : List Rule) (f₀ f : Found) : Type 0 where
  less : f.number ≤ f₀.number
  origin : (f ≡ f₀) ⊎ ((a : ℕ) × ((a < length rs) × ((f.number ≡ i + a) × ((f.rule ≡ rule rs a) × ((b : ℕ) × ((a < b) × ((b < length rs) × (overlap (rule rs a) (rule rs b) ≡ true))))))))
  all : (a b k : ℕ) → a < b → b < length rs → k < window_size → covers c (x + k) (rule rs a) ≡ true → covers c (x + k) (rule rs b) ≡ true → f.number ≤ i + a

-- the question of such a pass
pub question_window : (w : Window) (rs : List Rule) → question_in (Shared w) rs ≡ Shared (window_of w rs)
unfolding question_after
question_window w [] = refl
question_window w (r ∷ rs) = ap (λ (q : Question). question_after q r) (question_window w rs)

part : (p : Search) (c x : ℕ) → p.question ≡ Shared (window_at c x) → (i : ℕ) (rs : List Rule) → Part c x i rs p.found (found_in p i rs)
unfolding found_after moved finds answers
part p c x e i [] = record { less = omega arith; origin = inl refl; all = λ a b k l h. absurd (omega arith) }
part p c x e i (r ∷ rs) = go (part p c x e (suc i) rs)
  where
    F : Found
    F = found_in p (suc i) rs

    w : Window
    w = window_of (window_at c x) rs

    q : question_in p.question rs ≡ Shared w
    q = ap (λ (z : Question). question_in z rs) e ∙ question_window (window_at c x) rs

    further : Part c x (suc i) rs p.found F → (meets w r ≡ false) ⊎ (F.number ≤ i) → Part c x i (r ∷ rs) p.found F
    further P o = record { less = P.less; origin = from P.origin; all = every o }
      where
        from : (F ≡ p.found) ⊎ ((a : ℕ) × ((a < length rs) × ((F.number ≡ suc i + a) × ((F.rule ≡ rule rs a) × ((b : ℕ) × ((a < b) × ((b < length rs) × (overlap (rule rs a) (rule rs b) ≡ true))))))))
            → (F ≡ p.found) ⊎ ((a : ℕ) × ((a < suc (length rs)) × ((F.number ≡ i + a) × ((F.rule ≡ rule (r ∷ rs) a) × ((b : ℕ) × ((a < b) × ((b < suc (length rs)) × (overlap (rule (r ∷ rs) a) (rule (r ∷ rs) b) ≡ true))))))))
        from (inl z) = inl z
        from (inr (a, (l, (n, (h, (b, (m, (k, o)))))))) = inr (suc a, (omega arith, (omega arith, (h, (suc b, (omega arith, (omega arith, o)))))))

        every : (meets w r ≡ false) ⊎ (F.number ≤ i) → (a b k : ℕ) → a < b → b < suc (length rs) → k < window_size → covers c (x + k) (rule (r ∷ rs) a) ≡ true → covers c (x + k) (rule (r ∷ rs) b) ≡ true → F.number ≤ i + a
        every o zero zero k l h s y z = absurd (omega arith)
        every (inl m) zero (suc b) k l h s y z = absurd (clash (sym m ∙ meets_made c x r rs w (whole c x rs) k s y (b, (omega arith, z))))
        every (inr n) zero (suc b) k l h s y z = omega arith
        every o (suc a) zero k l h s y z = absurd (omega arith)
        every o (suc a) (suc b) k l h s y z = omega (arith, P.all a b k (omega arith) (omega arith) s y z)

    found : Part c x (suc i) rs p.found F → i < F.number → meets w r ≡ true → Part c x i (r ∷ rs) p.found (record { number = i; rule = r })
    found P l m =
        let (k, (s, (y, (b, (h, z))))) = meets_has c x r rs w (whole c x rs) m in
        record {
          less = omega (arith, P.less);
          origin = inr (0, (omega arith, (omega arith, (refl, (suc b, (omega arith, (omega arith, shared c (x + k) r (rule rs b) y z)))))));
          all = λ a b k l h s y z. omega arith;
        }

    put : Part c x (suc i) rs p.found F → (t m : Bool) → ltb i F.number ≡ t → meets w r ≡ m → Part c x i (r ∷ rs) p.found (elim (t && m) [ true ↦ record { number = i; rule = r } | false ↦ F ])
    put P true true t m = found P (ltb-true i F.number t) m
    put P true false t m = further P (inl m)
    put P false m t z = further P (inr (ltb-false i F.number t))

    asks : finds (moved p i (question_in p.question rs) F) r ≡ meets w r
    asks = ap (λ (z : Question). answers z (moved p i (question_in p.question rs) F) r) q

    go : Part c x (suc i) rs p.found F → Part c x i (r ∷ rs) p.found (elim (ltb i F.number && finds (moved p i (question_in p.question rs) F) r) [ true ↦ record { number = i; rule = r } | false ↦ F ])
    go P = rw asks (put P (ltb i F.number) (meets w r) refl refl)

-- Behind the window, up to the next channel that is kept, the rules of the class are those that cover the window's last channel.
same_rules : (c x y : ℕ) (rs : List Rule) (w : Window) → Whole c x rs w → x + window_size ≤ y → y < w.next → (i : ℕ) → i < length rs → covers c y (rule rs i) ≡ true → covers c (x + (window_size - 1)) (rule rs i) ≡ true
same_rules c x y rs w W l h i s e =
    let p = covers_parts c y (rule rs i) e in
    let f : (rule rs i).first ≤ x + (window_size - 1) = go (leb (x + window_size) (rule rs i).first) refl p in
    covers_made c (x + (window_size - 1)) (rule rs i) p.0 f (omega (arith, p.1.1))
  where
    go : (b : Bool) → leb (x + window_size) (rule rs i).first ≡ b → ((rule rs i).account_class ≡ c) × (((rule rs i).first ≤ y) × (y ≤ (rule rs i).last)) → (rule rs i).first ≤ x + (window_size - 1)
    go true z p = absurd (omega (arith, W.begins i s p.0 (leb-true (x + window_size) (rule rs i).first z), p.1.0))
    go false z p = omega (arith, leb-false (x + window_size) (rule rs i).first z)

pub same_back : (c x y : ℕ) (rs : List Rule) (w : Window) → Whole c x rs w → x + window_size ≤ y → y < w.next → (i : ℕ) → i < length rs → covers c (x + (window_size - 1)) (rule rs i) ≡ true → covers c y (rule rs i) ≡ true
same_back c x y rs w W l h i s e =
    let p = covers_parts c (x + (window_size - 1)) (rule rs i) e in
    covers_made c y (rule rs i) p.0 (omega (arith, p.1.0)) (go (leb y (rule rs i).last) refl p)
  where
    go : (b : Bool) → leb y (rule rs i).last ≡ b → ((rule rs i).account_class ≡ c) × (((rule rs i).first ≤ x + (window_size - 1)) × (x + (window_size - 1) ≤ (rule rs i).last)) → y ≤ (rule rs i).last
    go true z p = leb-true y (rule rs i).last z
    go false z p =
        let m : (rule rs i).last < y = leb-false y (rule rs i).last z in
        let q : x + window_size ≤ (rule rs i).last + 1 = omega (arith, p.1.1) in
        absurd (omega (arith, W.ended i s p.0 q))

-- Overlaps, up to the next window.
pub pairs_on : (p : Search) (c x x' : ℕ) (rs : List Rule) → p.question ≡ Shared (window_at c x) → Pairs rs c x p.found → x' ≤ (window_of (window_at c x) rs).next → Pairs rs c x' (found_in p 0 rs)
pairs_on p c x x' rs e P h = record { sound = from Q.origin; complete = every }
  where
    W : Whole c x rs (window_of (window_at c x) rs)
    W = whole c x rs

    Q : Part c x 0 rs p.found (found_in p 0 rs)
    Q = part p c x e 0 rs

    f : Found
    f = found_in p 0 rs

    Sound : Found → Type 0
    Sound g = (g.number ≡ length rs) ⊎ ((g.number < length rs) × ((g.rule ≡ rule rs g.number) × ((b : ℕ) × ((g.number < b) × ((b < length rs) × (overlap g.rule (rule rs b) ≡ true))))))

    from : (f ≡ p.found) ⊎ ((a : ℕ) × ((a < length rs) × ((f.number ≡ 0 + a) × ((f.rule ≡ rule rs a) × ((b : ℕ) × ((a < b) × ((b < length rs) × (overlap (rule rs a) (rule rs b) ≡ true)))))))) → Sound f
    from (inl z) = subst Sound (sym z) P.sound
    from (inr (a, (l, (n, (r, (b, (m, (k, o)))))))) =
        let q : f.number ≡ a = omega arith in
        inr (omega arith, (r ∙ ap (rule rs) (sym q), (b, (omega arith, (k, ap (λ (s : Rule). overlap s (rule rs b)) r ∙ o)))))

    every : (a b d y : ℕ) → a < b → b < length rs → covers d y (rule rs a) ≡ true → covers d y (rule rs b) ≡ true → Before c x' d y → f.number ≤ a
    every a b d y l m s t (inl z) = omega (arith, Q.less, P.complete a b d y l m s t (inl z))
    every a b d y l m s t (inr (z, u)) = go (leb x y) refl (leb (x + window_size) y) refl
      where
        cs : covers c y (rule rs a) ≡ true
        cs = ap (λ (i : ℕ). covers i y (rule rs a)) (sym z) ∙ s

        ct : covers c y (rule rs b) ≡ true
        ct = ap (λ (i : ℕ). covers i y (rule rs b)) (sym z) ∙ t

        go : (v : Bool) → leb x y ≡ v → (o : Bool) → leb (x + window_size) y ≡ o → f.number ≤ a
        go false v o i = omega (arith, Q.less, P.complete a b d y l m s t (inr (z, leb-false x y v)))
        go true v false i =
            let g : x + (y - x) ≡ y = omega (arith, leb-true x y v) in
            omega (arith, Q.all a b (y - x) l m (omega (arith, leb-false (x + window_size) y i)) (ap (λ (j : ℕ). covers c j (rule rs a)) g ∙ cs) (ap (λ (j : ℕ). covers c j (rule rs b)) g ∙ ct))
        go true v true i =
            let n : x + window_size ≤ y = leb-true (x + window_size) y i in
            omega (arith, Q.all a b (window_size - 1) l m (omega arith) (same_rules c x y rs (window_of (window_at c x) rs) W n (omega arith) a (omega arith) cs) (same_rules c x y rs (window_of (window_at c x) rs) W n (omega arith) b m ct))

-- Overlaps of a whole class: no rule covers a channel behind the last.
pub pairs_class : (c : ℕ) (rs : List Rule) (f : Found) → ((i : ℕ) → i < length rs → (rule rs i).last < channels) → Pairs rs c channels f → Pairs rs (suc c) 0 f
pairs_class c rs f fit P = record { sound = P.sound; complete = every }
  where
    every : (a b d y : ℕ) → a < b → b < length rs → covers d y (rule rs a) ≡ true → covers d y (rule rs b) ≡ true → Before (suc c) 0 d y → f.number ≤ a
    every a b d y l m s t (inr (z, u)) = absurd (omega arith)
    every a b d y l m s t (inl z) = go (ltb d c) refl
      where
        go : (v : Bool) → ltb d c ≡ v → f.number ≤ a
        go true v = P.complete a b d y l m s t (inl (ltb-true d c v))
        go false v = P.complete a b d y l m s t (inr (omega (arith, ltb-false d c v), omega (arith, fit b m, (covers_parts d y (rule rs b) t).1.1)))
