-- M-102: of a table that stands, every channel of every class has exactly one rule, and the rules of one class say nothing to another.
-- Each search through the rules finds the first place of which its test holds, or there is none; the rest follows from what the tests say.
-- Assumes nothing.
use Rattle.std.specs.Prelude.{◌≡◌, refl, Bool, true, false, ◌&&◌, ◌||◌, List, [], ◌∷◌, ◌↔◌, ◌⊎◌, ℕ, zero, suc, ◌+◌, ◌*◌, ◌≤◌, ◌<◌, ltb, leb, eqb, length, get_or}
use Rattle.std.proofs.Common.{sym, ap, ◌∙◌, subst, inl, inr, arith, ltb-true, ltb-false, leb-true, leb-false, eqb-true, le-ltb, le-leb, eq-eqb}
use Rattle.std.proofs.Math.Option.{Option, none, some}
use Rattle.std.proofs.lemmas.Bool.{eqb-false}
use Rattle.program.specs.Choice.{pick}
use Rattle.records.specs.Limits.{class_limit, channel_limit}
use Rattle.records.specs.Questions.{q_rule, q_overlap, q_gap}
use Rattle.channel_spec.specs.declared.Rule.{Rule}
use Rattle.channel_spec.specs.Told.{Told, Answer, Refused, same_refused}
use Rattle.channel_spec.specs.declared.Fired.{Fired}
use Rattle.channel_spec.specs.declared.Fired.TheVariants.{Channel, Undecided, Nothing}
use Rattle.channel_spec.specs.Table.{classes, channels, is_bad, first_that, overlap, first_overlap, covers, covered, gap_from, first_gap, or_else, asked_place, judged, permits}
use Rattle.channel_spec.specs.Answers.{answer_no, answer_yes, answer_undecided, answer_none, answer_of, ruling}

-- rule number i of a table; past its end, one that says nothing of use
abbrev pub rule_at : List Rule → ℕ → Rule
rule_at rs i = get_or rs i (record { account_class = 0; allowed = 0; first = 0; last = 0 })

-- a table that is not refused: no rule is bad, no two overlap, and there is no gap
abbrev pub Stands : List Rule → Type 0
Stands rs = (first_that is_bad 0 rs ≡ none) × ((first_overlap 0 rs ≡ none) × (first_gap classes 0 rs ≡ none))

-- Of the first j rules a test does not hold.
abbrev pub NoneOf : (test : Rule → Bool) (j : ℕ) → List Rule → Type 0
NoneOf test j rs = (k : ℕ) → k < j → test (rule_at rs k) ≡ false

-- rule number j is the first of which it holds
abbrev pub First : (test : Rule → Bool) (j : ℕ) → List Rule → Type 0
First test j rs = (j < length rs) × ((test (rule_at rs j) ≡ true) × NoneOf test j rs)

-- Of the pairs whose earlier rule is one of the first j, none overlap.
abbrev pub Apart : (j : ℕ) → List Rule → Type 0
Apart j rs = (a b : ℕ) → a < j → a < b → b < length rs → overlap (rule_at rs a) (rule_at rs b) ≡ false

-- The pair of rules a and b, a before b, is the first that overlaps, "lowest by earlier, then later".
abbrev pub FirstPair : (a b : ℕ) → List Rule → Type 0
FirstPair a b rs =
    (a < b) × ((b < length rs) × ((overlap (rule_at rs a) (rule_at rs b) ≡ true)
    × (Apart a rs × ((c : ℕ) → a < c → c < b → overlap (rule_at rs a) (rule_at rs c) ≡ false))))

-- Channels of a class, from x on and below y, are covered.
abbrev pub Whole : (c x y : ℕ) → List Rule → Type 0
Whole c x y rs = (z : ℕ) → x ≤ z → z < y → covered c z rs ≡ true

-- Channel y of a class is the first, from x on, that no rule covers.
abbrev pub FirstGap : (c x y : ℕ) → List Rule → Type 0
FirstGap c x y rs = (x ≤ y) × ((covered c y rs ≡ false) × Whole c x y rs)

-- All channels of the classes from c on and below d are covered.
abbrev pub WholeClasses : (c d : ℕ) → List Rule → Type 0
WholeClasses c d rs = (b : ℕ) → c ≤ b → b < d → Whole b 0 channels rs

-- a rule covers a channel of its class, from its first to its last
abbrev pub Covers : (c x : ℕ) → Rule → Type 0
Covers c x r = (r.account_class ≡ c) × ((r.first ≤ x) × (x ≤ r.last))

-- A channel of a class has one rule: it is there, it covers the channel, every rule that does is this one, and it says what is asked of it.
abbrev pub OneRule : (c x : ℕ) (rs : List Rule) → (Rule → Type 0) → Type 0
OneRule c x rs says =
    (i : ℕ) × ((i < length rs) × (Covers c x (rule_at rs i) × (((j : ℕ) → j < length rs → Covers c x (rule_at rs j) → j ≡ i) × says (rule_at rs i))))

-- what is told, by what the searches found in their order
abbrev told_of : (o p q r : Option ℕ) → Told → Told
told_of o p q r t = or_else q_rule o (or_else q_rule p (or_else q_overlap q (or_else q_gap r t)))

-- The refusals, "in that order": 23 for "class asked for above 3, place 0; then the earliest rule with class above 3 or first above last"; 24; 25.
pub data Refusal (asked : ℕ) (rs : List Rule) : (q p : ℕ) → Type 0 where
  class_asked : class_limit < asked → Refusal asked rs q_rule 0
  bad_rule : (p : ℕ) → asked ≤ class_limit → First is_bad p rs → Refusal asked rs q_rule p
  two_overlap : (a p : ℕ) → asked ≤ class_limit → first_that is_bad 0 rs ≡ none → FirstPair a p rs → Refusal asked rs q_overlap p
  a_gap : (c x : ℕ) → asked ≤ class_limit → first_that is_bad 0 rs ≡ none → first_overlap 0 rs ≡ none → c ≤ class_limit → x ≤ channel_limit → FirstGap c 0 x rs → WholeClasses 0 c rs → Refusal asked rs q_gap (c * channels + x)

-- A rule is one of a table.
abbrev pub Among : Rule → List Rule → Type 0
Among r rs = (j : ℕ) × ((j < length rs) × (rule_at rs j ≡ r))

-- all rules of a class in one table are in the other; those of other classes may be any
abbrev pub KeepsClass : (c : ℕ) (rs rs' : List Rule) → Type 0
KeepsClass c rs rs' = (i : ℕ) → i < length rs → (rule_at rs i).account_class ≡ c → Among (rule_at rs i) rs'

-- what a call says is a channel, if it says one
abbrev pub IsChannel : Fired → Type 0
IsChannel (Channel x) = x ≤ channel_limit
IsChannel Undecided = Unit {0}
IsChannel Nothing = Unit {0}

-- One rule more in front.
none_past : (test : Rule → Bool) (j : ℕ) (r : Rule) (rs : List Rule) → test r ≡ false → NoneOf test j rs → NoneOf test (suc j) (r ∷ rs)
none_past test j r rs e h zero l = e
none_past test j r rs e h (suc k) l = h k (omega arith)

-- A search finds nothing, or the first.
pub first_none : (test : Rule → Bool) (i : ℕ) (rs : List Rule) → first_that test i rs ≡ none → NoneOf test (length rs) rs
unfolding first_that
first_none test i [] e = λ k l. absurd (omega arith)
first_none test i (r ∷ rs) e = go (test r) refl e (first_none test (suc i) rs)
  where
    go : (b : Bool) → test r ≡ b → ◌≡◌ {A = Option ℕ} (elim b [ true ↦ some i | false ↦ first_that test (suc i) rs ]) none → (first_that test (suc i) rs ≡ none → NoneOf test (length rs) rs) → NoneOf test (suc (length rs)) (r ∷ rs)
    go true q h next = let z : ◌≡◌ {A = ℕ} 0 1 = cc in absurd (omega arith)
    go false q h next = none_past test (length rs) r rs q (next h)

pub first_some : (test : Rule → Bool) (i : ℕ) (rs : List Rule) (p : ℕ) → first_that test i rs ≡ some p → (j : ℕ) × ((p ≡ i + j) × First test j rs)
unfolding first_that
first_some test i [] p e = let z : ◌≡◌ {A = ℕ} 0 1 = cc in absurd (omega arith)
first_some test i (r ∷ rs) p e = go (test r) refl e (first_some test (suc i) rs p)
  where
    go : (b : Bool) → test r ≡ b → ◌≡◌ {A = Option ℕ} (elim b [ true ↦ some i | false ↦ first_that test (suc i) rs ]) (some p) → (first_that test (suc i) rs ≡ some p → (j : ℕ) × ((p ≡ suc i + j) × First test j rs))
        → (j : ℕ) × ((p ≡ i + j) × First test j (r ∷ rs))
    go true q h next = let z : i ≡ p = cc in (0, (omega arith, (omega arith, (q, λ k l. absurd (omega arith)))))
    go false q h next =
        let n : (j : ℕ) × ((p ≡ suc i + j) × First test j rs) = next h in
        let j : ℕ = n.0 in
        (suc j, (omega (arith, n.1.0), (omega (arith, n.1.1.0), (n.1.1.1.0, none_past test j r rs q n.1.1.1.1))))

apart_past : (j : ℕ) (r : Rule) (rs : List Rule) → NoneOf (overlap r) (length rs) rs → Apart j rs → Apart (suc j) (r ∷ rs)
apart_past j r rs e h zero zero l m n = absurd (omega arith)
apart_past j r rs e h zero (suc b) l m n = e b (omega arith)
apart_past j r rs e h (suc a) zero l m n = absurd (omega arith)
apart_past j r rs e h (suc a) (suc b) l m n = h a b (omega arith) (omega arith) (omega arith)

pub overlap_none : (i : ℕ) (rs : List Rule) → first_overlap i rs ≡ none → Apart (length rs) rs
unfolding first_overlap
overlap_none i [] e = λ a b l m n. absurd (omega arith)
overlap_none i (r ∷ rs) e = go (first_that (overlap r) (suc i) rs) refl e (overlap_none (suc i) rs)
  where
    go : (o : Option ℕ) → first_that (overlap r) (suc i) rs ≡ o → ◌≡◌ {A = Option ℕ} (elim o [ some j ↦ some j | none ↦ first_overlap (suc i) rs ]) none → (first_overlap (suc i) rs ≡ none → Apart (length rs) rs)
        → Apart (suc (length rs)) (r ∷ rs)
    go (some j) q h next = let z : ◌≡◌ {A = ℕ} 0 1 = cc in absurd (omega arith)
    go none q h next = apart_past (length rs) r rs (first_none (overlap r) (suc i) rs q) (next h)

pub overlap_some : (i : ℕ) (rs : List Rule) (p : ℕ) → first_overlap i rs ≡ some p → (a : ℕ) × ((b : ℕ) × ((p ≡ i + b) × FirstPair a b rs))
unfolding first_overlap
overlap_some i [] p e = let z : ◌≡◌ {A = ℕ} 0 1 = cc in absurd (omega arith)
overlap_some i (r ∷ rs) p e = go (first_that (overlap r) (suc i) rs) refl e (overlap_some (suc i) rs p)
  where
    later : (b : ℕ) → NoneOf (overlap r) b rs → (c : ℕ) → 0 < c → c < suc b → overlap r (rule_at (r ∷ rs) c) ≡ false
    later b h zero l m = absurd (omega arith)
    later b h (suc c) l m = h c (omega arith)

    shift : (a b : ℕ) → ((c : ℕ) → a < c → c < b → overlap (rule_at rs a) (rule_at rs c) ≡ false) → (c : ℕ) → suc a < c → c < suc b → overlap (rule_at rs a) (rule_at (r ∷ rs) c) ≡ false
    shift a b h zero l m = absurd (omega arith)
    shift a b h (suc c) l m = h c (omega arith) (omega arith)

    go : (o : Option ℕ) → first_that (overlap r) (suc i) rs ≡ o → ◌≡◌ {A = Option ℕ} (elim o [ some j ↦ some j | none ↦ first_overlap (suc i) rs ]) (some p)
        → (first_overlap (suc i) rs ≡ some p → (a : ℕ) × ((b : ℕ) × ((p ≡ suc i + b) × FirstPair a b rs)))
        → (a : ℕ) × ((b : ℕ) × ((p ≡ i + b) × FirstPair a b (r ∷ rs)))
    go (some j) q h next =
        let z : j ≡ p = cc in
        let n : (b : ℕ) × ((j ≡ suc i + b) × First (overlap r) b rs) = first_some (overlap r) (suc i) rs j q in
        let b : ℕ = n.0 in
        (0, (suc b, (omega (arith, n.1.0), (omega arith, (omega (arith, n.1.1.0), (n.1.1.1.0, ((λ a c l m k. absurd (omega arith)), later b n.1.1.1.1)))))))
    go none q h next =
        let n : (a : ℕ) × ((b : ℕ) × ((p ≡ suc i + b) × FirstPair a b rs)) = next h in
        let a : ℕ = n.0 in
        let b : ℕ = n.1.0 in
        let f : FirstPair a b rs = n.1.1.1 in
        (suc a, (suc b, (omega (arith, n.1.1.0), (omega (arith, f.0), (omega (arith, f.1.0), (f.1.1.0, (apart_past a r rs (first_none (overlap r) (suc i) rs q) f.1.1.1.0, shift a b f.1.1.1.1)))))))

whole_past : (c x y : ℕ) (rs : List Rule) → covered c x rs ≡ true → Whole c (suc x) y rs → Whole c x y rs
whole_past c x y rs e h z l m = go (eqb z x) refl
  where
    go : (b : Bool) → eqb z x ≡ b → covered c z rs ≡ true
    go true q = ap (λ (v : ℕ). covered c v rs) (eqb-true z x q) ∙ e
    go false q = h z (above (ltb x z) refl) m
      where
        above : (t : Bool) → ltb x z ≡ t → suc x ≤ z
        above true u = ltb-true x z u
        above false u = let same : z ≡ x = omega (arith, ltb-false x z u) in absurd (eqb-false z x q same)

-- The search for a gap in a class, and in all.
pub gap_none : (m c x : ℕ) (rs : List Rule) → gap_from m c x rs ≡ none → Whole c x (x + m) rs
unfolding gap_from
gap_none zero c x rs e = λ z l n. absurd (omega arith)
gap_none (suc m) c x rs e = go (covered c x rs) refl e (gap_none m c (suc x) rs)
  where
    go : (b : Bool) → covered c x rs ≡ b → ◌≡◌ {A = Option ℕ} (elim b [ true ↦ gap_from m c (suc x) rs | false ↦ some (c * channels + x) ]) none → (gap_from m c (suc x) rs ≡ none → Whole c (suc x) (suc x + m) rs) → Whole c x (x + suc m) rs
    go true q h next = whole_past c x (x + suc m) rs q (λ z l n. next h z l (omega arith))
    go false q h next = let z : ◌≡◌ {A = ℕ} 0 1 = cc in absurd (omega arith)

pub gap_some : (m c x : ℕ) (rs : List Rule) (p : ℕ) → gap_from m c x rs ≡ some p → (y : ℕ) × ((p ≡ c * channels + y) × ((y < x + m) × FirstGap c x y rs))
unfolding gap_from
gap_some zero c x rs p e = let z : ◌≡◌ {A = ℕ} 0 1 = cc in absurd (omega arith)
gap_some (suc m) c x rs p e = go (covered c x rs) refl e (gap_some m c (suc x) rs p)
  where
    go : (b : Bool) → covered c x rs ≡ b → ◌≡◌ {A = Option ℕ} (elim b [ true ↦ gap_from m c (suc x) rs | false ↦ some (c * channels + x) ]) (some p)
        → (gap_from m c (suc x) rs ≡ some p → (y : ℕ) × ((p ≡ c * channels + y) × ((y < suc x + m) × FirstGap c (suc x) y rs)))
        → (y : ℕ) × ((p ≡ c * channels + y) × ((y < x + suc m) × FirstGap c x y rs))
    go true q h next =
        let n : (y : ℕ) × ((p ≡ c * channels + y) × ((y < suc x + m) × FirstGap c (suc x) y rs)) = next h in
        let y : ℕ = n.0 in
        (y, (n.1.0, (omega (arith, n.1.1.0), (omega (arith, n.1.1.1.0), (n.1.1.1.1.0, whole_past c x y rs q n.1.1.1.1.1)))))
    go false q h next = let z : c * channels + x ≡ p = cc in (x, (sym z, (omega arith, (omega arith, (q, λ v l u. absurd (omega arith))))))

classes_past : (c d : ℕ) (rs : List Rule) → Whole c 0 channels rs → WholeClasses (suc c) d rs → WholeClasses c d rs
classes_past c d rs e h b l m = go (eqb b c) refl
  where
    go : (t : Bool) → eqb b c ≡ t → Whole b 0 channels rs
    go true q = λ z i j. ap (λ (v : ℕ). covered v z rs) (eqb-true b c q) ∙ e z i j
    go false q = h b (above (ltb c b) refl) m
      where
        above : (t : Bool) → ltb c b ≡ t → suc c ≤ b
        above true u = ltb-true c b u
        above false u = let same : b ≡ c = omega (arith, ltb-false c b u) in absurd (eqb-false b c q same)

pub gaps_none : (n c : ℕ) (rs : List Rule) → first_gap n c rs ≡ none → WholeClasses c (c + n) rs
unfolding first_gap
gaps_none zero c rs e = λ b l m. absurd (omega arith)
gaps_none (suc n) c rs e = go (gap_from channels c 0 rs) refl e (gaps_none n (suc c) rs)
  where
    go : (o : Option ℕ) → gap_from channels c 0 rs ≡ o → ◌≡◌ {A = Option ℕ} (elim o [ some p ↦ some p | none ↦ first_gap n (suc c) rs ]) none → (first_gap n (suc c) rs ≡ none → WholeClasses (suc c) (suc c + n) rs) → WholeClasses c (c + suc n) rs
    go (some p) q h next = let z : ◌≡◌ {A = ℕ} 0 1 = cc in absurd (omega arith)
    go none q h next = classes_past c (c + suc n) rs (λ z l m. gap_none channels c 0 rs q z l (omega arith)) (λ b l m. next h b l (omega arith))

pub gaps_some : (n c : ℕ) (rs : List Rule) (p : ℕ) → first_gap n c rs ≡ some p
    → (d : ℕ) × ((y : ℕ) × ((p ≡ d * channels + y) × ((c ≤ d) × ((d < c + n) × ((y < channels) × (FirstGap d 0 y rs × WholeClasses c d rs))))))
unfolding first_gap
gaps_some zero c rs p e = let z : ◌≡◌ {A = ℕ} 0 1 = cc in absurd (omega arith)
gaps_some (suc n) c rs p e = go (gap_from channels c 0 rs) refl e (gaps_some n (suc c) rs p)
  where
    go : (o : Option ℕ) → gap_from channels c 0 rs ≡ o → ◌≡◌ {A = Option ℕ} (elim o [ some p ↦ some p | none ↦ first_gap n (suc c) rs ]) (some p)
        → (first_gap n (suc c) rs ≡ some p → (d : ℕ) × ((y : ℕ) × ((p ≡ d * channels + y) × ((suc c ≤ d) × ((d < suc c + n) × ((y < channels) × (FirstGap d 0 y rs × WholeClasses (suc c) d rs)))))))
        → (d : ℕ) × ((y : ℕ) × ((p ≡ d * channels + y) × ((c ≤ d) × ((d < c + suc n) × ((y < channels) × (FirstGap d 0 y rs × WholeClasses c d rs))))))
    go (some v) q h next =
        let z : v ≡ p = cc in
        let f : (y : ℕ) × ((v ≡ c * channels + y) × ((y < 0 + channels) × FirstGap c 0 y rs)) = gap_some channels c 0 rs v q in
        (c, (f.0, (sym z ∙ f.1.0, (omega arith, (omega arith, (omega (arith, f.1.1.0), (f.1.1.1, λ b l m. absurd (omega arith))))))))
    go none q h next =
        let f : (d : ℕ) × ((y : ℕ) × ((p ≡ d * channels + y) × ((suc c ≤ d) × ((d < suc c + n) × ((y < channels) × (FirstGap d 0 y rs × WholeClasses (suc c) d rs)))))) = next h in
        let d : ℕ = f.0 in
        let y : ℕ = f.1.0 in
        let g : (p ≡ d * channels + y) × ((suc c ≤ d) × ((d < suc c + n) × ((y < channels) × (FirstGap d 0 y rs × WholeClasses (suc c) d rs)))) = f.1.1 in
        (d, (y, (g.0, (omega (arith, g.1.0), (omega (arith, g.1.1.0), (g.1.1.1.0, (g.1.1.1.1.0, classes_past c d rs (λ z l m. gap_none channels c 0 rs q z l (omega arith)) g.1.1.1.1.1)))))))

-- What the tests say.
both : (a b : Bool) → a && b ≡ true → (a ≡ true) × (b ≡ true)
both true b e = (refl, e)
both false b e = let z : ◌≡◌ {A = ℕ} 0 1 = cc in absurd (omega arith)

pub covers_says : (c x : ℕ) (r : Rule) → covers c x r ≡ true → Covers c x r
unfolding covers
covers_says c x r e =
    let s : (eqb r.account_class c ≡ true) × (leb r.first x && leb x r.last ≡ true) = both (eqb r.account_class c) (leb r.first x && leb x r.last) e in
    let t : (leb r.first x ≡ true) × (leb x r.last ≡ true) = both (leb r.first x) (leb x r.last) s.1 in
    (eqb-true r.account_class c s.0, (leb-true r.first x t.0, leb-true x r.last t.1))

pub says_covers : (c x : ℕ) (r : Rule) → Covers c x r → covers c x r ≡ true
unfolding covers
says_covers c x r h = rw (covers, eq-eqb r.account_class c h.0, le-leb r.first x h.1.0, le-leb x r.last h.1.1)

-- "class above 3 or first above last"
pub bad_says : (r : Rule) → is_bad r ≡ true → (class_limit < r.account_class) ⊎ (r.last < r.first)
unfolding is_bad
bad_says r e = go (ltb class_limit r.account_class) refl e
  where
    go : (b : Bool) → ltb class_limit r.account_class ≡ b → b || ltb r.last r.first ≡ true → (class_limit < r.account_class) ⊎ (r.last < r.first)
    go true q h = inl (ltb-true class_limit r.account_class q)
    go false q h = inr (ltb-true r.last r.first h)

pub good_says : (r : Rule) → is_bad r ≡ false → (r.account_class ≤ class_limit) × (r.first ≤ r.last)
unfolding is_bad
good_says r e = go (ltb class_limit r.account_class) refl e
  where
    go : (b : Bool) → ltb class_limit r.account_class ≡ b → b || ltb r.last r.first ≡ false → (r.account_class ≤ class_limit) × (r.first ≤ r.last)
    go true q h = let z : ◌≡◌ {A = ℕ} 0 1 = cc in absurd (omega arith)
    go false q h = (ltb-false class_limit r.account_class q, ltb-false r.last r.first h)

-- Two rules that cover one channel of a class overlap; and of rules that are not bad, two that overlap do.
pub shared_overlap : (c x : ℕ) (r s : Rule) → Covers c x r → Covers c x s → overlap r s ≡ true
unfolding overlap
shared_overlap c x r s h g =
    rw (overlap, eq-eqb r.account_class s.account_class (h.0 ∙ sym g.0), le-leb r.first s.last (omega (arith, h.1.0, g.1.1)), le-leb s.first r.last (omega (arith, g.1.0, h.1.1)))

pub overlap_shared : (r s : Rule) → is_bad r ≡ false → is_bad s ≡ false → overlap r s ≡ true → (x : ℕ) × (Covers r.account_class x r × Covers r.account_class x s)
unfolding overlap
overlap_shared r s a b e =
    let t : (eqb r.account_class s.account_class ≡ true) × (leb r.first s.last && leb s.first r.last ≡ true) =
    both (eqb r.account_class s.account_class) (leb r.first s.last && leb s.first r.last) e in
    let u : (leb r.first s.last ≡ true) × (leb s.first r.last ≡ true) = both (leb r.first s.last) (leb s.first r.last) t.1 in
    go (sym (eqb-true r.account_class s.account_class t.0)) (leb-true r.first s.last u.0) (leb-true s.first r.last u.1) (good_says r a).1 (good_says s b).1 (leb r.first s.first) refl
  where
    go : s.account_class ≡ r.account_class → r.first ≤ s.last → s.first ≤ r.last → r.first ≤ r.last → s.first ≤ s.last → (t : Bool) → leb r.first s.first ≡ t → (x : ℕ) × (Covers r.account_class x r × Covers r.account_class x s)
    go k l m n o true q = let w : r.first ≤ s.first = leb-true r.first s.first q in (s.first, ((refl, (w, m)), (k, (omega arith, o))))
    go k l m n o false q = let w : s.first < r.first = leb-false r.first s.first q in (r.first, ((refl, (omega arith, n)), (k, (omega arith, l))))

-- A channel that is covered has a first rule that does, and that rule says whether it may fire.
pub covered_first : (c x : ℕ) (rs : List Rule) → covered c x rs ≡ true → (i : ℕ) × (First (covers c x) i rs × (permits c x rs ≡ ltb 0 (rule_at rs i).allowed))
unfolding covered permits
covered_first c x [] e = let z : ◌≡◌ {A = ℕ} 0 1 = cc in absurd (omega arith)
covered_first c x (r ∷ rs) e = go (covers c x r) refl e (covered_first c x rs)
  where
    go : (b : Bool) → covers c x r ≡ b → b || covered c x rs ≡ true → (covered c x rs ≡ true → (i : ℕ) × (First (covers c x) i rs × (permits c x rs ≡ ltb 0 (rule_at rs i).allowed)))
        → (i : ℕ) × (First (covers c x) i (r ∷ rs) × (permits c x (r ∷ rs) ≡ ltb 0 (rule_at (r ∷ rs) i).allowed))
    go true q h next = (0, ((omega arith, (q, λ k l. absurd (omega arith))), rw (permits, q)))
    go false q h next =
        let n : (i : ℕ) × (First (covers c x) i rs × (permits c x rs ≡ ltb 0 (rule_at rs i).allowed)) = next h in
        let i : ℕ = n.0 in
        (suc i, ((omega (arith, n.1.0.0), (n.1.0.1.0, none_past (covers c x) i r rs q n.1.0.1.1)), rw (permits, q) n.1.1))

-- Rules that do not overlap: two that cover one channel of a class are one.
pub no_two : (rs : List Rule) → Apart (length rs) rs → (c x i j : ℕ) → i < length rs → j < length rs → Covers c x (rule_at rs i) → Covers c x (rule_at rs j) → j ≡ i
no_two rs h c x i j l m f g = go (ltb i j) refl (ltb j i) refl
  where
    clash : (a b : ℕ) → a < b → b < length rs → Covers c x (rule_at rs a) → Covers c x (rule_at rs b) → ⊥
    clash a b u v p q =
        let t : overlap (rule_at rs a) (rule_at rs b) ≡ true = shared_overlap c x (rule_at rs a) (rule_at rs b) p q in
        let w : overlap (rule_at rs a) (rule_at rs b) ≡ false = h a b (omega arith) u v in
        let z : ◌≡◌ {A = ℕ} 0 1 = cc in omega arith

    go : (a : Bool) → ltb i j ≡ a → (b : Bool) → ltb j i ≡ b → j ≡ i
    go true p b q = absurd (clash i j (ltb-true i j p) m f g)
    go false p true q = absurd (clash j i (ltb-true j i q) l g f)
    go false p false q = omega (arith, ltb-false i j p, ltb-false j i q)

-- "every channel by exactly one rule", and "each yes or no is that of the one rule of the class covering the channel"
pub one_rule : (rs : List Rule) → Stands rs → (c x : ℕ) → c ≤ class_limit → x ≤ channel_limit → OneRule c x rs (λ r. permits c x rs ≡ ltb 0 r.allowed)
one_rule rs s c x l m =
    let w : covered c x rs ≡ true = gaps_none classes 0 rs s.1.1 c (omega arith) (omega arith) x (omega arith) (omega arith) in
    let n : (i : ℕ) × (First (covers c x) i rs × (permits c x rs ≡ ltb 0 (rule_at rs i).allowed)) = covered_first c x rs w in
    let i : ℕ = n.0 in
    let f : Covers c x (rule_at rs i) = covers_says c x (rule_at rs i) n.1.0.1.0 in
    (i, (n.1.0.0, (f, ((λ j k g. no_two rs (overlap_none 0 rs s.1.0) c x i j n.1.0.0 k f g), n.1.1))))

-- Of a channel that is not covered there is no rule.
pub not_covered : (c x : ℕ) (rs : List Rule) → covered c x rs ≡ false → (i : ℕ) → i < length rs → Covers c x (rule_at rs i) → ⊥
unfolding covered
not_covered c x [] e i l h = omega arith
not_covered c x (r ∷ rs) e i l h = go (covers c x r) refl e i l h (not_covered c x rs)
  where
    go : (b : Bool) → covers c x r ≡ b → b || covered c x rs ≡ false → (i : ℕ) → i < suc (length rs) → Covers c x (rule_at (r ∷ rs) i) → (covered c x rs ≡ false → (i : ℕ) → i < length rs → Covers c x (rule_at rs i) → ⊥) → ⊥
    go true q g i l h next = let z : ◌≡◌ {A = ℕ} 0 1 = cc in omega arith
    go false q g zero l h next = let t : covers c x r ≡ true = says_covers c x r h in let z : ◌≡◌ {A = ℕ} 0 1 = cc in omega arith
    go false q g (suc i) l h next = next g i (omega arith) h

-- What is told of a table that stands is the answer; and where an answer is told, the table stands (`answered_stands`).
pub stands : (asked : ℕ) (rs : List Rule) (t : Told) → asked ≤ class_limit → Stands rs → judged asked rs t ≡ t
unfolding judged or_else asked_place
stands asked rs t l s = rw (judged, asked_place, le-ltb class_limit asked l, s.0, s.1.0, s.1.1)

-- whether the class asked for is one
asked_none : (asked : ℕ) → asked_place asked ≡ none → asked ≤ class_limit
unfolding asked_place
asked_none asked e = go (ltb class_limit asked) refl e
  where
    go : (b : Bool) → ltb class_limit asked ≡ b → ◌≡◌ {A = Option ℕ} (elim b [ true ↦ some 0 | false ↦ none ]) none → asked ≤ class_limit
    go true q h = let z : ◌≡◌ {A = ℕ} 0 1 = cc in absurd (omega arith)
    go false q h = ltb-false class_limit asked q

asked_some : (asked p : ℕ) → asked_place asked ≡ some p → (class_limit < asked) × (p ≡ 0)
unfolding asked_place
asked_some asked p e = go (ltb class_limit asked) refl e
  where
    go : (b : Bool) → ltb class_limit asked ≡ b → ◌≡◌ {A = Option ℕ} (elim b [ true ↦ some 0 | false ↦ none ]) (some p) → (class_limit < asked) × (p ≡ 0)
    go true q h = (ltb-true class_limit asked q, cc)
    go false q h = let z : ◌≡◌ {A = ℕ} 0 1 = cc in absurd (omega arith)

pub answered_stands : (asked : ℕ) (rs : List Rule) (a b : ℕ) → judged asked rs (Answer a) ≡ Answer b → (asked ≤ class_limit) × (Stands rs × (a ≡ b))
unfolding judged or_else
answered_stands asked rs a b e = go (asked_place asked) (first_that is_bad 0 rs) (first_overlap 0 rs) (first_gap classes 0 rs) refl refl refl refl e
  where
    go : (o p q r : Option ℕ) → asked_place asked ≡ o → first_that is_bad 0 rs ≡ p → first_overlap 0 rs ≡ q → first_gap classes 0 rs ≡ r → told_of o p q r (Answer a) ≡ Answer b → (asked ≤ class_limit) × (Stands rs × (a ≡ b))
    go (some x) p q r h i j k e = let z : ◌≡◌ {A = ℕ} 0 1 = cc in absurd (omega arith)
    go none (some x) q r h i j k e = let z : ◌≡◌ {A = ℕ} 0 1 = cc in absurd (omega arith)
    go none none (some x) r h i j k e = let z : ◌≡◌ {A = ℕ} 0 1 = cc in absurd (omega arith)
    go none none none (some x) h i j k e = let z : ◌≡◌ {A = ℕ} 0 1 = cc in absurd (omega arith)
    go none none none none h i j k e = (asked_none asked h, ((i, (j, k)), cc))

-- "before any function": a table that is refused is refused whatever the answer would be.
pub before_any : (asked : ℕ) (rs : List Rule) (a b q p : ℕ) → judged asked rs (Answer a) ≡ Refused q p → judged asked rs (Answer b) ≡ Refused q p
unfolding judged or_else
before_any asked rs a b q p e = go (asked_place asked) (first_that is_bad 0 rs) (first_overlap 0 rs) (first_gap classes 0 rs) e
  where
    go : (o m n r : Option ℕ) → told_of o m n r (Answer a) ≡ Refused q p → told_of o m n r (Answer b) ≡ Refused q p
    go (some x) m n r e = e
    go none (some x) n r e = e
    go none none (some x) r e = e
    go none none none (some x) e = e
    go none none none none e = let z : ◌≡◌ {A = ℕ} 0 1 = cc in absurd (omega arith)

-- Whatever has a lower number than the first gap is covered.
pub gap_lowest : (c x : ℕ) (rs : List Rule) → FirstGap c 0 x rs → WholeClasses 0 c rs → x < channels → (d y : ℕ) → y < channels → d * channels + y < c * channels + x → covered d y rs ≡ true
gap_lowest c x rs f w l d y m n = go (ltb d c) refl
  where
    go : (b : Bool) → ltb d c ≡ b → covered d y rs ≡ true
    go true q = w d (omega arith) (ltb-true d c q) y (omega arith) m
    go false q =
        let u : c ≤ d = ltb-false d c q in
        let e : d ≡ c = omega arith in
        let v : y < x = omega arith in
        ap (λ (k : ℕ). covered k y rs) e ∙ f.1.1 y (omega arith) v

-- "overlap in a class, place the later rule, of the pair lowest by earlier, then later"
pub overlap_found : (rs : List Rule) (p : ℕ) → first_overlap 0 rs ≡ some p → (a : ℕ) × FirstPair a p rs
overlap_found rs p e =
    let s : (a : ℕ) × ((b : ℕ) × ((p ≡ 0 + b) × FirstPair a b rs)) = overlap_some 0 rs p e in
    let q : s.1.0 ≡ p = omega (arith, s.1.1.0) in
    (s.0, subst (λ (b : ℕ). FirstPair s.0 b rs) q s.1.1.1)

-- "gap, place the lowest class × 65,536 + channel": no rule covers that channel of that class, and all that have a lower number are covered.
pub gap_found : (rs : List Rule) (p : ℕ) → first_gap classes 0 rs ≡ some p
    → (c : ℕ) × ((x : ℕ) × ((p ≡ c * channels + x) × ((c ≤ class_limit) × ((x ≤ channel_limit)
    × (((i : ℕ) → i < length rs → Covers c x (rule_at rs i) → ⊥) × ((d y : ℕ) → y ≤ channel_limit → d * channels + y < p → covered d y rs ≡ true))))))
gap_found rs p e =
    let s : (d : ℕ) × ((y : ℕ) × ((p ≡ d * channels + y) × ((0 ≤ d) × ((d < 0 + classes) × ((y < channels) × (FirstGap d 0 y rs × WholeClasses 0 d rs)))))) = gaps_some classes 0 rs p e in
    let c : ℕ = s.0 in
    let x : ℕ = s.1.0 in
    let f : FirstGap c 0 x rs = s.1.1.1.1.1.1.0 in (
      c,
      (
        x,
        (
          s.1.1.0,
          (
            omega (arith, s.1.1.1.1.0),
            (
              omega (arith, s.1.1.1.1.1.0),
              (
                not_covered c x rs f.1.0,
                λ d y l m. gap_lowest c x rs f s.1.1.1.1.1.1.1 s.1.1.1.1.1.0 d y (omega arith) (omega (arith, m, s.1.1.0)),
              ),
            ),
          ),
        ),
      ),
    )

-- What each refusal means: the table is refused as `Refusal` says, and with no other question.
pub refusals_named : (asked : ℕ) (rs : List Rule) (a q p : ℕ) → judged asked rs (Answer a) ≡ Refused q p → Refusal asked rs q p
unfolding judged or_else
refusals_named asked rs a q p e = go (asked_place asked) (first_that is_bad 0 rs) (first_overlap 0 rs) (first_gap classes 0 rs) refl refl refl refl e
  where
    put : (u v : ℕ) → u ≡ q → v ≡ p → Refusal asked rs u v → Refusal asked rs q p
    put u v k l t = subst (λ (w : ℕ). Refusal asked rs w p) k (subst (λ (w : ℕ). Refusal asked rs u w) l t)

    go : (o m n r : Option ℕ) → asked_place asked ≡ o → first_that is_bad 0 rs ≡ m → first_overlap 0 rs ≡ n → first_gap classes 0 rs ≡ r → told_of o m n r (Answer a) ≡ Refused q p → Refusal asked rs q p
    go (some x) m n r h i j k e =
        let s : (class_limit < asked) × (x ≡ 0) = asked_some asked x h in
        let t : (q_rule ≡ q) × (x ≡ p) = same_refused q_rule x q p e in
        put q_rule 0 t.0 (sym s.1 ∙ t.1) (class_asked s.0)
    go none (some x) n r h i j k e =
        let s : (b : ℕ) × ((x ≡ 0 + b) × First is_bad b rs) = first_some is_bad 0 rs x i in
        let t : (q_rule ≡ q) × (x ≡ p) = same_refused q_rule x q p e in
        put q_rule s.0 t.0 (omega (arith, s.1.0, t.1)) (bad_rule s.0 (asked_none asked h) s.1.1)
    go none none (some x) r h i j k e =
        let s : (b : ℕ) × FirstPair b x rs = overlap_found rs x j in
        let t : (q_overlap ≡ q) × (x ≡ p) = same_refused q_overlap x q p e in
        put q_overlap x t.0 t.1 (two_overlap s.0 x (asked_none asked h) i s.1)
    go none none none (some x) h i j k e =
        let s : (d : ℕ) × ((y : ℕ) × ((x ≡ d * channels + y) × ((0 ≤ d) × ((d < 0 + classes) × ((y < channels) × (FirstGap d 0 y rs × WholeClasses 0 d rs)))))) = gaps_some classes 0 rs x k in
        let t : (q_gap ≡ q) × (x ≡ p) = same_refused q_gap x q p e in
        let d : ℕ = s.0 in
        let y : ℕ = s.1.0 in
        put q_gap (d * channels + y) t.0 (sym s.1.1.0 ∙ t.1)
        (a_gap d y (asked_none asked h) i j (omega (arith, s.1.1.1.1.0)) (omega (arith, s.1.1.1.1.1.0)) s.1.1.1.1.1.1.0 s.1.1.1.1.1.1.1)
    go none none none none h i j k e = let z : ◌≡◌ {A = ℕ} 0 1 = cc in absurd (omega arith)

-- "between two tables not refused, rules of one class never alter answers for another": tables that stand and have one class's rules in common permit
-- the same channels of it.
pub same_permits : (rs rs' : List Rule) → Stands rs → Stands rs' → (c x : ℕ) → c ≤ class_limit → x ≤ channel_limit → KeepsClass c rs rs' → permits c x rs ≡ permits c x rs'
same_permits rs rs' s s' c x l m k =
    let n : OneRule c x rs (λ r. permits c x rs ≡ ltb 0 r.allowed) = one_rule rs s c x l m in
    let n' : OneRule c x rs' (λ r. permits c x rs' ≡ ltb 0 r.allowed) = one_rule rs' s' c x l m in
    let i : ℕ = n.0 in
    let a : Among (rule_at rs i) rs' = k i n.1.0 n.1.1.0.0 in
    let j : ℕ = a.0 in
    let e : rule_at rs' j ≡ rule_at rs i = a.1.1 in
    let f : Covers c x (rule_at rs' j) = subst (Covers c x) (sym e) n.1.1.0 in
    let u : j ≡ n'.0 = n'.1.1.1.0 j a.1.0 f in
    n.1.1.1.1 ∙ ap (λ (r : Rule). ltb 0 r.allowed) (sym e ∙ ap (rule_at rs') u) ∙ sym n'.1.1.1.1

pub classes_apart : (rs rs' : List Rule) → Stands rs → Stands rs' → (c : ℕ) → c ≤ class_limit → KeepsClass c rs rs' → (f : Fired) → IsChannel f → answer_of c rs f ≡ answer_of c rs' f
unfolding answer_of
classes_apart rs rs' s s' c l k (Channel x) m = ap (λ (b : Bool). pick b answer_yes answer_no) (same_permits rs rs' s s' c x l m k)
classes_apart rs rs' s s' c l k Undecided m = refl
classes_apart rs rs' s s' c l k Nothing m = refl

pub same_ruling : (rs rs' : List Rule) → Stands rs → Stands rs' → (c : ℕ) → c ≤ class_limit → KeepsClass c rs rs' → (f : Fired) → IsChannel f → ruling c rs f ≡ ruling c rs' f
unfolding ruling
same_ruling rs rs' s s' c l k f m =
    stands c rs (Answer (answer_of c rs f)) l s ∙ ap Answer (classes_apart rs rs' s s' c l k f m) ∙ sym (stands c rs' (Answer (answer_of c rs' f)) l s')

-- said of what is told: two tables that answer, answer alike
pub answers_apart : (rs rs' : List Rule) (c : ℕ) (f : Fired) (a b : ℕ) → IsChannel f → KeepsClass c rs rs' → ruling c rs f ≡ Answer a → ruling c rs' f ≡ Answer b → a ≡ b
unfolding ruling
answers_apart rs rs' c f a b m k g h =
    let s : (c ≤ class_limit) × (Stands rs × (answer_of c rs f ≡ a)) = answered_stands c rs (answer_of c rs f) a g in
    let s' : (c ≤ class_limit) × (Stands rs' × (answer_of c rs' f ≡ b)) = answered_stands c rs' (answer_of c rs' f) b h in
    sym s.1.1 ∙ classes_apart rs rs' s.1.0 s'.1.0 c s.0 k f m ∙ s'.1.1

-- "the part answers yes, no, undecided, or none past the last": which it is, what the call says tells.
pub undecided_exactly : (c : ℕ) (rs : List Rule) (f : Fired) → (answer_of c rs f ≡ answer_undecided) ↔ (f ≡ Undecided)
unfolding answer_of
undecided_exactly c rs f = (there f, λ e. ap (answer_of c rs) e)
  where
    low : (b : Bool) → pick b answer_yes answer_no ≡ answer_undecided → ⊥
    low true e = omega arith
    low false e = omega arith

    there : (f : Fired) → answer_of c rs f ≡ answer_undecided → f ≡ Undecided
    there (Channel x) e = absurd (low (permits c x rs) e)
    there Undecided e = refl
    there Nothing e = absurd (omega arith)

pub none_exactly : (c : ℕ) (rs : List Rule) (f : Fired) → (answer_of c rs f ≡ answer_none) ↔ (f ≡ Nothing)
unfolding answer_of
none_exactly c rs f = (there f, λ e. ap (answer_of c rs) e)
  where
    low : (b : Bool) → pick b answer_yes answer_no ≡ answer_none → ⊥
    low true e = omega arith
    low false e = omega arith

    there : (f : Fired) → answer_of c rs f ≡ answer_none → f ≡ Nothing
    there (Channel x) e = absurd (low (permits c x rs) e)
    there Undecided e = absurd (omega arith)
    there Nothing e = refl

-- Yes or no is for a channel, and it is what its one rule says: no where its `allowed` is 0, else yes.
pub answer_of_rule : (rs : List Rule) → Stands rs → (c x : ℕ) → c ≤ class_limit → x ≤ channel_limit → OneRule c x rs (λ r. ruling c rs (Channel x) ≡ Answer (pick (ltb 0 r.allowed) answer_yes answer_no))
unfolding ruling answer_of
answer_of_rule rs s c x l m =
    let n : OneRule c x rs (λ r. permits c x rs ≡ ltb 0 r.allowed) = one_rule rs s c x l m in
    (n.0, (n.1.0, (n.1.1.0, (n.1.1.1.0, stands c rs (Answer (answer_of c rs (Channel x))) l s ∙ ap (λ (b : Bool). Answer (pick b answer_yes answer_no)) n.1.1.1.1))))
