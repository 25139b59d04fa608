-- A search that is shown the rules it wants tells in the end what the table says: each pass starts from what the passes before it have found
-- (`Ready`), partway it has seen the rules behind the one it wants, and once it is whole the next one can start or all is known.
-- Assumes nothing.
use mathlib.Core.Path.{◌≡◌, refl, sym, ap, ap₂, ◌∙◌, subst}
use mathlib.Core.Bool.{Bool, true, false, ◌&&◌, ◌||◌}
use mathlib.Core.List.{List, [], ◌∷◌}
use mathlib.Core.Logic.{◌⊎◌, inl, inr}
use mathlib.Core.Option.{Option, none, some}
use Prim.Native.Nat.{ℕ, zero, suc, ◌+◌, ◌-◌, ◌*◌, ◌/◌, ◌%◌, ◌≤◌, ◌<◌, max}
use native.Mathlib.Nat.{mod-lt, div-add-mod', mul-le-mul_right, suc-mul}
use native.Mathlib.Omega.{arith}
use lib.Dec.{ltb, leb, eqb}
use lib.Bits.{bit_or}
use lib.ListN.{length, get_or, drop}
use borrow.Author.Tests.{ltb-true, ltb-false, leb-true, leb-false, eqb-true, eqb-false, lt-ltb, le-ltb}
use Rattle.program.specs.Choice.{pick}
use Rattle.records.specs.Limits.{class_limit}
use Rattle.records.specs.Questions.{q_rule, q_overlap, q_gap}
use Rattle.channel_spec.specs.declared.Rule.{Rule}
use Rattle.channel_spec.specs.declared.Fired.{Fired}
use Rattle.channel_spec.specs.declared.Fired.TheVariants as fired
use Rattle.channel_spec.specs.Told.{Told, Answer, Refused}
use Rattle.channel_spec.specs.Table.{classes, channels, is_bad, first_that, overlap, first_overlap, covers, covered, gap_from, first_gap, or_else, asked_place, judged, permits}
use Rattle.channel_spec.specs.Answers.{answer_no, answer_yes, answer_undecided, answer_none, answer_of, ruling}
use Rattle.channel_table.specs.declared.windows.Window.{Window}
use Rattle.channel_table.specs.declared.Question.{Question}
use Rattle.channel_table.specs.declared.Question.TheVariants.{Bad, Shared, Later, Covering, Nothing}
use Rattle.channel_table.specs.declared.Found.{Found}
use Rattle.channel_table.specs.declared.Search.{Search}
use Rattle.channel_table.specs.Windows.{window_size, window_at, is_of_class, marks_of, break_before, marked}
use Rattle.channel_table.specs.Search.{no_gap, no_rule, covers_call, answers, finds, question_after, found_after, moved, look, pass, done, later, with_gap, gap_after, answering_to, answering, behind_windows, behind_window, answered, turned_at, turned, shown, fresh, begin}
use Rattle.channel_table.proofs.Marked.{clash, both, covers_made, blank, window_of, rule, Whole, whole}
use Rattle.channel_table.proofs.Lowest.{question_in, found_in, Lowest, nowhere, lowest, pass_finds, first_none, first_some, overlap_none, overlap_some, permits_none, permits_some}
use Rattle.channel_table.proofs.Places.{Before, Pairs, question_window, pairs_on, pairs_class}
use Rattle.channel_table.proofs.Gap.{Gaps, no_gap_lem, gaps_on, gaps_class, gaps_none, gaps_some}

-- a pass partway: rule n is wanted, and those behind it have been shown
abbrev partway : Search → (n : ℕ) → (behind : List Rule) → Search
partway p n rs = moved p n (question_in p.question rs) (found_in p (suc n) rs)

-- a whole pass
abbrev whole_pass : Search → List Rule → Search
whole_pass p rs = moved p 0 (question_in p.question rs) (found_in p 0 rs)

shown_on : (p : Search) (m : ℕ) (r : Rule) (rs : List Rule) → shown (partway p (suc m) rs) r ≡ partway p m (r ∷ rs)
unfolding shown moved look found_after
shown_on p m r rs = let q : suc m - 1 ≡ m = omega arith in rw (shown, lt-ltb 0 (suc m) (omega arith), q)

shown_last : (p : Search) (r : Rule) (rs : List Rule) → shown (partway p 0 rs) r ≡ turned (whole_pass p (r ∷ rs))
unfolding shown moved look found_after
shown_last p r rs = refl

-- How many passes can still come, by the question: windows go up in class and channel.
rank : Question → ℕ
rank Bad = no_gap + 3
rank (Shared w) = no_gap - (w.class * channels + w.from) + 2
rank Later = 1
rank Covering = 1
rank Nothing = 0

pub measure : Search → ℕ
measure s = rank s.question * suc s.count + s.at

-- a rule's marks change no rank
rank_after : (q : Question) (r : Rule) → rank (question_after q r) ≡ rank q
unfolding rank question_after marked
rank_after Bad r = refl
rank_after (Shared w) r = go (is_of_class w r)
  where
    go : (b : Bool) → rank (Shared (elim b [
      | true ↦ record { class = w.class; from = w.from; marks = bit_or w.marks (marks_of r w.from); next = break_before w.from (r.last + 1) (break_before w.from r.first w.next) }
      | false ↦ w
    ])) ≡ rank (Shared w)
    go true = refl
    go false = refl
rank_after Later r = refl
rank_after Covering r = refl
rank_after Nothing r = refl

rank_in : (q : Question) (qs : List Rule) → rank (question_in q qs) ≡ rank q
rank_in q [] = refl
rank_in q (r ∷ qs) = rank_after (question_in q qs) r ∙ rank_in q qs

-- A search with fewer passes to come.
record Fewer (n k : ℕ) (s : Search) : Type 0 where
  same_count : s.count ≡ n
  lower_rank : rank s.question < k
  not_past : s.at ≤ n

fewer_done : (n k : ℕ) (s : Search) (t : Told) → s.count ≡ n → 0 < k → Fewer n k (done s t)
unfolding done rank
fewer_done n k s t c l = record { same_count = c; lower_rank = l; not_past = omega (arith, c) }

fewer_pass : (n k : ℕ) (s : Search) (q : Question) (g : Found) → s.count ≡ n → rank q < k → Fewer n k (pass s q g)
unfolding pass moved
fewer_pass n k s q g c l = record { same_count = c; lower_rank = l; not_past = omega (arith, c) }

fewer_answering : (n k : ℕ) (s : Search) → s.count ≡ n → 1 < k → Fewer n k (answering s)
unfolding answering answering_to rank
fewer_answering n k s c l = go s.fired
  where
    go : (h : Fired) → Fewer n k (answering_to h s)
    go (fired.Channel x) = fewer_pass n k s Covering (no_rule s.count) c l
    go fired.Undecided = fewer_done n k s (Answer answer_undecided) c (omega arith)
    go fired.Nothing = fewer_done n k s (Answer answer_none) c (omega arith)

fewer_behind : (n k : ℕ) (s : Search) → s.count ≡ n → 1 < k → Fewer n k (behind_windows s)
unfolding behind_windows later rank
fewer_behind n k s c l = go (ltb s.found.number s.count) (eqb s.gap no_gap)
  where
    go : (t u : Bool) → Fewer n k (elim t [ true ↦ later s | false ↦ elim u [ true ↦ answering s | false ↦ done s (Refused q_gap s.gap) ] ])
    go true u = record { same_count = c; lower_rank = l; not_past = omega (arith, c) }
    go false true = fewer_answering n k s c l
    go false false = fewer_done n k s (Refused q_gap s.gap) c (omega arith)

module _ (rs : List Rule) (asked : ℕ) (f : Fired) where
  -- what a search is about
  pub record About (p : Search) : Type 0 where
    pub count_is : p.count ≡ length rs
    pub asked_is : p.asked ≡ asked
    pub fired_is : p.fired ≡ f
    pub low : asked ≤ class_limit

  -- channels are 16 bits
  abbrev pub Fit : Type 0
  Fit = (i : ℕ) → i < length rs → (rule rs i).last < channels

  -- What a pass starts from, by its question.
  pub data Ready (p : Search) : Type 0 where
    at_bad : About p → p.question ≡ Bad → p.found.number ≡ length rs → p.gap ≡ no_gap → Ready p
    at_window : (c x : ℕ) → About p → p.question ≡ Shared (window_at c x) → c < classes → x + window_size ≤ channels → Fit → first_that is_bad 0 rs ≡ none → Pairs rs c x p.found → Gaps rs c x p.gap → Ready p
    at_later : About p → p.question ≡ Later → p.found.number ≡ length rs → first_that is_bad 0 rs ≡ none → Pairs rs classes 0 p.earlier → p.earlier.number < length rs → Ready p
    at_covering : (x : ℕ) → About p → p.question ≡ Covering → f ≡ fired.Channel x → p.found ≡ no_rule (length rs) → first_that is_bad 0 rs ≡ none → first_overlap 0 rs ≡ none → first_gap classes 0 rs ≡ none → Ready p

  -- A search partway through a pass; or one that is done.
  pub data Good (s : Search) : Type 0 where
    within : (p : Search) → Ready p → (n : ℕ) → n < length rs → s ≡ partway p n (drop (suc n) rs) → ((i : ℕ) → n < i → i < length rs → (rule rs i).last < channels) → Good s
    finished : s.at ≡ length rs → s.question ≡ Nothing → s.told ≡ ruling asked rs f → Good s

  -- At its start a pass has seen none.
  drop_all : {A : Type 0} (xs : List A) (n : ℕ) → n ≡ length xs → drop n xs ≡ []
  drop_all [] n e = let q : n ≡ 0 = e in ap (λ (i : ℕ). drop i []) q
  drop_all (x ∷ xs) zero e = absurd (omega arith)
  drop_all (x ∷ xs) (suc n) e = drop_all xs n (omega arith)

  starts_pass : (p : Search) → Ready p → 0 < length rs → p.at ≡ length rs - 1 → Good p
  unfolding moved
  starts_pass p R l e =
      let n : suc (length rs - 1) ≡ length rs = omega arith in
      within p R (length rs - 1) (omega arith) (here (drop_all rs (suc (length rs - 1)) n)) (λ i a b. absurd (omega arith))
    where
      here : drop (suc (length rs - 1)) rs ≡ [] → p ≡ partway p (length rs - 1) (drop (suc (length rs - 1)) rs)
      here d = rw (d, sym e)

  -- What the definitions say, by what was found.
  open_asked : asked ≤ class_limit → asked_place asked ≡ none
  unfolding asked_place
  open_asked l = rw (asked_place, le-ltb class_limit asked l)

  ruled_rule : (i : ℕ) → asked ≤ class_limit → first_that is_bad 0 rs ≡ some i → Refused q_rule i ≡ ruling asked rs f
  unfolding ruling judged or_else
  ruled_rule i l b = rw (ruling, judged, open_asked l, b)

  ruled_asked : ltb class_limit asked ≡ true → Refused q_rule 0 ≡ ruling asked rs f
  unfolding ruling judged or_else asked_place
  ruled_asked t = rw (ruling, judged, asked_place, t)

  ruled_overlap : (i : ℕ) → asked ≤ class_limit → first_that is_bad 0 rs ≡ none → first_overlap 0 rs ≡ some i → Refused q_overlap i ≡ ruling asked rs f
  unfolding ruling judged or_else
  ruled_overlap i l b o = rw (ruling, judged, open_asked l, b, o)

  ruled_gap : (g : ℕ) → asked ≤ class_limit → first_that is_bad 0 rs ≡ none → first_overlap 0 rs ≡ none → first_gap classes 0 rs ≡ some g → Refused q_gap g ≡ ruling asked rs f
  unfolding ruling judged or_else
  ruled_gap g l b o h = rw (ruling, judged, open_asked l, b, o, h)

  ruled_empty : asked ≤ class_limit → length rs ≡ 0 → Refused q_gap 0 ≡ ruling asked rs f
  unfolding ruling judged or_else first_that first_overlap first_gap gap_from covered
  ruled_empty l e = subst (λ (qs : List Rule). Refused q_gap 0 ≡ ruling asked qs f) (sym (none_left rs e)) (rw (ruling, judged, open_asked l))
    where
      none_left : (qs : List Rule) → length qs ≡ 0 → qs ≡ []
      none_left [] e = refl
      none_left (r ∷ qs) e = absurd (omega arith)

  ruled_answer : asked ≤ class_limit → first_that is_bad 0 rs ≡ none → first_overlap 0 rs ≡ none → first_gap classes 0 rs ≡ none → Answer (answer_of asked rs f) ≡ ruling asked rs f
  unfolding ruling judged or_else
  ruled_answer l b o h = rw (ruling, judged, open_asked l, b, o, h)

  -- No rule is bad: each has a class and channels.
  none_that : (test : Rule → Bool) (i : ℕ) (qs : List Rule) → first_that test i qs ≡ none → (a : ℕ) → a < length qs → test (rule qs a) ≡ false
  unfolding first_that
  none_that test i [] e a l = absurd (omega arith)
  none_that test i (r ∷ qs) e a l = go (test r) refl e (none_that test (suc i) qs) a l
    where
      go : (b : Bool) → test r ≡ b → ◌≡◌ {A = Option ℕ} (elim b [ true ↦ some i | false ↦ first_that test (suc i) qs ]) none → (first_that test (suc i) qs ≡ none → (a : ℕ) → a < length qs → test (rule qs a) ≡ false)
          → (a : ℕ) → a < suc (length qs) → test (rule (r ∷ qs) a) ≡ false
      go true t e g a l = let z : ◌≡◌ {A = ℕ} 0 1 = cc in absurd (omega arith)
      go false t e g zero l = t
      go false t e g (suc a) l = g e a (omega arith)

  not_bad : first_that is_bad 0 rs ≡ none → (a : ℕ) → a < length rs → ((rule rs a).account_class ≤ class_limit) × ((rule rs a).first ≤ (rule rs a).last)
  unfolding is_bad
  not_bad e a l = go (none_that is_bad 0 rs e a l)
    where
      go : (ltb class_limit (rule rs a).account_class || ltb (rule rs a).last (rule rs a).first) ≡ false → ((rule rs a).account_class ≤ class_limit) × ((rule rs a).first ≤ (rule rs a).last)
      go t = parts (ltb class_limit (rule rs a).account_class) (ltb (rule rs a).last (rule rs a).first) refl refl t
        where
          parts : (x y : Bool) → ltb class_limit (rule rs a).account_class ≡ x → ltb (rule rs a).last (rule rs a).first ≡ y → (x || y) ≡ false → ((rule rs a).account_class ≤ class_limit) × ((rule rs a).first ≤ (rule rs a).last)
          parts true y u v t = absurd (clash (sym t))
          parts false true u v t = absurd (clash (sym t))
          parts false false u v t = (ltb-false _ _ u, ltb-false _ _ v)

  -- Two that overlap cover a channel of one class: the higher of their first ones.
  overlapped : first_that is_bad 0 rs ≡ none → (g : Found) → Pairs rs classes 0 g → (a b : ℕ) → a < b → b < length rs → overlap (rule rs a) (rule rs b) ≡ true → g.number ≤ a
  unfolding overlap
  overlapped e g P a b l h o =
      let p = both _ _ o in
      let q = both _ _ p.1 in
      let same : (rule rs a).account_class ≡ (rule rs b).account_class = eqb-true _ _ p.0 in
      let ab : (rule rs a).first ≤ (rule rs b).last = leb-true _ _ q.0 in
      let ba : (rule rs b).first ≤ (rule rs a).last = leb-true _ _ q.1 in
      let na = not_bad e a (omega arith) in
      let nb = not_bad e b h in
      let d : ℕ = (rule rs b).account_class in
      let y : ℕ = max (rule rs a).first (rule rs b).first in
      P.complete a b d y l h
      (covers_made d y (rule rs a) same (omega arith) (omega (arith, na.1)))
      (covers_made d y (rule rs b) refl (omega arith) (omega (arith, nb.1)))
      (inl (omega (arith, nb.0)))

  no_overlap : first_that is_bad 0 rs ≡ none → (g : Found) → Pairs rs classes 0 g → length rs ≤ g.number → first_overlap 0 rs ≡ none
  no_overlap e g P n = overlap_none 0 rs (λ a b l h. go a b l h (overlap (rule rs a) (rule rs b)) refl)
    where
      go : (a b : ℕ) → a < b → b < length rs → (t : Bool) → overlap (rule rs a) (rule rs b) ≡ t → overlap (rule rs a) (rule rs b) ≡ false
      go a b l h true t = absurd (omega (arith, overlapped e g P a b l h t))
      go a b l h false t = t

  -- The question of a pass stays, but for a window's marks.
  still : (q : Question) → question_after q ≡ (λ (r : Rule). q) → (qs : List Rule) → question_in q qs ≡ q
  still q e [] = refl
  still q e (r ∷ qs) = ap (λ (z : Question). question_after z r) (still q e qs) ∙ ap (λ (g : Rule → Question). g r) e

  still_bad : (qs : List Rule) → question_in Bad qs ≡ Bad
  unfolding question_after
  still_bad = still Bad refl

  still_later : (qs : List Rule) → question_in Later qs ≡ Later
  unfolding question_after
  still_later = still Later refl

  still_covering : (qs : List Rule) → question_in Covering qs ≡ Covering
  unfolding question_after
  still_covering = still Covering refl

  -- what a search is about stays
  about_moved : (p : Search) (n : ℕ) (q : Question) (g : Found) → About p → About (moved p n q g)
  unfolding moved
  about_moved p n q g a = record { count_is = a.count_is; asked_is = a.asked_is; fired_is = a.fired_is; low = a.low }

  about_pass : (p : Search) (q : Question) (g : Found) → About p → About (pass p q g)
  unfolding pass
  about_pass p q g a = about_moved p (p.count - 1) q g a

  asks_pass : (p : Search) (q : Question) (g : Found) → (pass p q g).question ≡ q
  unfolding pass moved
  asks_pass p q g = refl

  found_pass : (p : Search) (q : Question) (g : Found) → (pass p q g).found ≡ g
  unfolding pass moved
  found_pass p q g = refl

  pairs_of_lem : (p : Search) (q : Question) (g : Found) (c x : ℕ) → Pairs rs c x g → Pairs rs c x (pass p q g).found
  unfolding pass moved
  pairs_of_lem p q g c x P = P

  gaps_of : (p : Search) (q : Question) (g : Found) (c x : ℕ) → Gaps rs c x p.gap → Gaps rs c x (pass p q g).gap
  unfolding pass moved
  gaps_of p q g c x G = G

  -- A search that is done.
  over : (s : Search) (t : Told) → s.count ≡ length rs → t ≡ ruling asked rs f → Good (done s t)
  unfolding done
  over s t c e = finished c refl e

  module _ (l : 0 < length rs) where
    next_pass : (t : Search) (q : Question) (g : Found) → About t → Ready (pass t q g) → Good (pass t q g)
    unfolding pass moved
    next_pass t q g a R = starts_pass (pass t q g) R l (ap (λ (n : ℕ). n - 1) a.count_is)

    -- 23: a bad rule, or on to the first window.
    turn_bad : (p : Search) → About p → p.question ≡ Bad → p.found.number ≡ length rs → p.gap ≡ no_gap → Fit → Good (turned (whole_pass p rs))
    unfolding turned turned_at moved finds answers pass
    turn_bad p a q n g fit = rw (ap (λ (z : Question). question_in z rs) q ∙ still_bad rs) (go found)
      where
        F : Found
        F = found_in p 0 rs

        S : Search
        S = moved p 0 Bad F

        A : About S
        A = about_moved p 0 Bad F a

        found : Lowest (λ i r. is_bad r) p.found 0 rs F
        found = pass_finds (λ i r. is_bad r) p (λ i r qs h. ap (λ (z : Question). answers z (moved p i (question_in p.question qs) h) r) (ap (λ (z : Question). question_in z qs) q ∙ still_bad qs)) 0 rs (omega arith)

        before : {X : Type 0} (d y : ℕ) → Before 0 0 d y → X
        before d y (inl z) = absurd (omega arith)
        before d y (inr z) = absurd (omega (arith, z.1))

        go : Lowest (λ i r. is_bad r) p.found 0 rs F → Good (turned_at Bad S)
        go (nowhere e k) =
            let m : F.number ≡ length rs = ap (λ (z : Found). z.number) e ∙ n in
            let b : ltb F.number p.count ≡ false = le-ltb F.number p.count (omega (arith, a.count_is)) in
            rw (turned_at, b) (next_pass S (Shared (window_at 0 0)) F A
            (at_window 0 0 (about_pass S (Shared (window_at 0 0)) F A) (asks_pass S (Shared (window_at 0 0)) F) (omega arith) (omega arith) fit (first_none is_bad 0 rs k)
            (record { sound = inl m; complete = λ u v d y b c s t B. before d y B }) (no_gap_lem g (λ d y m B. before d y B))))
        go (lowest i h e r t k) =
            let c : F.number ≡ i = omega arith in
            let z : 0 + i ≡ i = omega arith in
            let b : ltb F.number p.count ≡ true = lt-ltb F.number p.count (omega (arith, a.count_is)) in
            rw (turned_at, b) (over S (Refused q_rule F.number) a.count_is (ap (Refused q_rule) c ∙ ruled_rule i a.low (first_some is_bad 0 rs i h t k ∙ ap some z)))

    -- 24: the first rule behind the earlier one that shares a channel with it.
    turn_later : (p : Search) → About p → p.question ≡ Later → p.found.number ≡ length rs → first_that is_bad 0 rs ≡ none → Pairs rs classes 0 p.earlier → p.earlier.number < length rs → Good (turned (whole_pass p rs))
    unfolding turned turned_at moved finds answers
    turn_later p a q n b P small = rw (ap (λ (z : Question). question_in z rs) q ∙ still_later rs) (go found)
      where
        F : Found
        F = found_in p 0 rs

        e : ℕ
        e = p.earlier.number

        test : ℕ → Rule → Bool
        test i r = ltb e i && overlap p.earlier.rule r

        found : Lowest test p.found 0 rs F
        found = pass_finds test p (λ i r qs h. ap (λ (z : Question). answers z (moved p i (question_in p.question qs) h) r) (ap (λ (z : Question). question_in z qs) q ∙ still_later qs)) 0 rs (omega arith)

        -- the earlier rule, and one behind it
        Proof : Type 0
        Proof = (p.earlier.rule ≡ rule rs e) × ((j : ℕ) × ((e < j) × ((j < length rs) × (overlap p.earlier.rule (rule rs j) ≡ true))))

        proof : (e ≡ length rs) ⊎ ((e < length rs) × Proof) → Proof
        proof (inl z) = absurd (omega arith)
        proof (inr z) = z.1

        is : p.earlier.rule ≡ rule rs e
        is = (proof P.sound).0

        -- none with a lower number
        lower : (d j : ℕ) → d < e → d < j → j < length rs → (t : Bool) → overlap (rule rs d) (rule rs j) ≡ t → overlap (rule rs d) (rule rs j) ≡ false
        lower d j h i k true t = absurd (omega (arith, overlapped b p.earlier P d j i k t))
        lower d j h i k false t = t

        between : (i j : ℕ) → e < j → (t : Bool) → overlap (rule rs e) (rule rs j) ≡ t → test (0 + j) (rule rs j) ≡ false → overlap (rule rs e) (rule rs j) ≡ false
        between i j h true t z =
            let o : overlap p.earlier.rule (rule rs j) ≡ true = ap (λ (r : Rule). overlap r (rule rs j)) is ∙ t in
            let y : test (0 + j) (rule rs j) ≡ true = rw (lt-ltb e (0 + j) (omega arith), o) in
            absurd (clash (sym z ∙ y))
        between i j h false t z = t

        go : Lowest test p.found 0 rs F → Good (turned_at Later (moved p 0 Later F))
        go (nowhere c k) =
            let j = (proof P.sound).1 in
            let y : test (0 + j.0) (rule rs j.0) ≡ true = rw (lt-ltb e (0 + j.0) (omega (arith, j.1.0)), j.1.1.1) in
            absurd (clash (sym (k j.0 j.1.1.0) ∙ y))
        go (lowest i h c r t k) =
            let d : F.number ≡ i = omega arith in
            let both_of = both (ltb e (0 + i)) (overlap p.earlier.rule (rule rs i)) t in
            let behind : e < i = omega (arith, ltb-true e (0 + i) both_of.0) in
            let o : overlap (rule rs e) (rule rs i) ≡ true = ap (λ (z : Rule). overlap z (rule rs i)) (sym is) ∙ both_of.1 in
            let first : first_overlap 0 rs ≡ some (0 + i) = overlap_some 0 rs e i behind h o (λ j x y. between i j x (overlap (rule rs e) (rule rs j)) refl (k j y)) (λ u j x y z. lower u j x y z (overlap (rule rs u) (rule rs j)) refl) in
            let zero-plus : 0 + i ≡ i = omega arith in
            over (moved p 0 Later F) (Refused q_overlap F.number) a.count_is (ap (Refused q_overlap) d ∙ ruled_overlap i a.low b (first ∙ ap some zero-plus))

    -- The rule that covers the channel.
    turn_covering : (p : Search) (x : ℕ) → About p → p.question ≡ Covering → f ≡ fired.Channel x → p.found ≡ no_rule (length rs) → first_that is_bad 0 rs ≡ none → first_overlap 0 rs ≡ none → first_gap classes 0 rs ≡ none → Good (turned (whole_pass p rs))
    unfolding turned turned_at moved finds answers answered no_rule covers_call answer_of
    turn_covering p x a q c n b o g =
        rw (ap (λ (z : Question). question_in z rs) q ∙ still_covering rs)
        (over (moved p 0 Covering F) (Answer (pick (ltb 0 F.rule.allowed) answer_yes answer_no)) a.count_is
        (ap (λ (t : Bool). Answer (pick t answer_yes answer_no)) (says found) ∙ answer_is ∙ ruled_answer a.low b o g))
      where
        F : Found
        F = found_in p 0 rs

        found : Lowest (λ i r. covers asked x r) p.found 0 rs F
        found = pass_finds (λ i r. covers asked x r) p
            (λ i r qs h. ap (λ (z : Question). answers z (moved p i (question_in p.question qs) h) r) (ap (λ (z : Question). question_in z qs) q ∙ still_covering qs)
            ∙ ap (λ (z : ℕ). covers_call z p.fired r) a.asked_is ∙ ap (λ (z : Fired). covers_call asked z r) (a.fired_is ∙ c)) 0 rs (omega (arith, ap (λ (z : Found). z.number) n))

        says : Lowest (λ i r. covers asked x r) p.found 0 rs F → ltb 0 F.rule.allowed ≡ permits asked x rs
        says (nowhere e k) = ap (λ (z : Found). ltb 0 z.rule.allowed) (e ∙ n) ∙ sym (permits_none asked x rs k)
        says (lowest i h e r t k) = ap (λ (z : Rule). ltb 0 z.allowed) r ∙ sym (permits_some asked x rs i h t k)

        answer_is : Answer (pick (permits asked x rs) answer_yes answer_no) ≡ Answer (answer_of asked rs f)
        answer_is = ap (λ (z : Fired). Answer (answer_of asked rs z)) (sym c)

    -- All windows are behind.
    about_gap : (p : Search) (g : ℕ) → About p → About (with_gap p g)
    unfolding with_gap
    about_gap p g a = record { count_is = a.count_is; asked_is = a.asked_is; fired_is = a.fired_is; low = a.low }

    stand_still : (s : Search) → About s → first_that is_bad 0 rs ≡ none → first_overlap 0 rs ≡ none → first_gap classes 0 rs ≡ none → Good (answering s)
    unfolding answering answering_to answer_of
    stand_still s a b o g = subst (λ (h : Fired). Good (answering_to h s)) (sym a.fired_is) (go f refl)
      where
        go : (h : Fired) → f ≡ h → Good (answering_to h s)
        go (fired.Channel x) e =
            next_pass s Covering (no_rule s.count) a
            (at_covering x (about_pass s Covering (no_rule s.count) a) (asks_pass s Covering (no_rule s.count)) e (found_pass s Covering (no_rule s.count) ∙ ap no_rule a.count_is) b o g)
        go fired.Undecided e = over s (Answer answer_undecided) a.count_is (ap (λ (h : Fired). Answer (answer_of asked rs h)) (sym e) ∙ ruled_answer a.low b o g)
        go fired.Nothing e = over s (Answer answer_none) a.count_is (ap (λ (h : Fired). Answer (answer_of asked rs h)) (sym e) ∙ ruled_answer a.low b o g)

    behind_all : (s : Search) → About s → first_that is_bad 0 rs ≡ none → Pairs rs classes 0 s.found → Gaps rs classes 0 s.gap → Good (behind_windows s)
    unfolding behind_windows later moved no_rule
    behind_all s a b P G = go (ltb s.found.number s.count) refl (eqb s.gap no_gap) refl
      where
        none_shared : ltb s.found.number s.count ≡ false → first_overlap 0 rs ≡ none
        none_shared t = no_overlap b s.found P (omega (arith, ltb-false s.found.number s.count t, a.count_is))

        go : (t : Bool) → ltb s.found.number s.count ≡ t → (u : Bool) → eqb s.gap no_gap ≡ u
            → Good (elim t [ true ↦ later s | false ↦ elim u [ true ↦ answering s | false ↦ done s (Refused q_gap s.gap) ] ])
        go true t u v =
            starts_pass (later s)
            (at_later (record { count_is = a.count_is; asked_is = a.asked_is; fired_is = a.fired_is; low = a.low }) refl a.count_is b P (omega (arith, ltb-true s.found.number s.count t, a.count_is)))
            l (ap (λ (n : ℕ). n - 1) a.count_is)
        go false t true v = stand_still s a b (none_shared t) (gaps_none s.gap rs G (eqb-true s.gap no_gap v))
        go false t false v = over s (Refused q_gap s.gap) a.count_is (ruled_gap s.gap a.low b (none_shared t) (gaps_some s.gap rs G (eqb-false s.gap no_gap v)))

    -- 24 and 25: a window, and on to the next.
    turn_window : (p : Search) (c x : ℕ) → About p → p.question ≡ Shared (window_at c x) → c < classes → x + window_size ≤ channels → Fit → first_that is_bad 0 rs ≡ none → Pairs rs c x p.found → Gaps rs c x p.gap
        → Good (turned (whole_pass p rs))
    unfolding turned turned_at moved behind_window with_gap
    turn_window p c x a q small fits fit b P G =
        rw (ap (λ (z : Question). question_in z rs) q ∙ question_window (window_at c x) rs) (go (ltb w.next channels) refl (ltb w.class class_limit) refl)
      where
        w : Window
        w = window_of (window_at c x) rs

        W : Whole c x rs w
        W = whole c x rs

        F : Found
        F = found_in p 0 rs

        S : Search
        S = moved p 0 (Shared w) F

        g : ℕ
        g = gap_after p.gap w

        T : Search
        T = with_gap S g

        A : About T
        A = record { count_is = a.count_is; asked_is = a.asked_is; fired_is = a.fired_is; low = a.low }

        on : (x' : ℕ) → x' ≤ w.next → Pairs rs c x' F × Gaps rs c x' g
        on x' h = (pairs_on p c x x' rs q P h, gaps_on c x x' p.gap rs small fits h G)

        go : (t : Bool) → ltb w.next channels ≡ t → (u : Bool) → ltb w.class class_limit ≡ u
            → Good (elim t [
              | true ↦ pass T (Shared (window_at w.class (w.next - w.next % window_size))) F
              | false ↦ elim u [ true ↦ pass T (Shared (window_at (w.class + 1) 0)) F | false ↦ behind_windows T ]
            ])
        go true t u v =
            let y : ℕ = w.next - w.next % window_size in
            let m : y ≤ w.next = omega arith in
            let e : w.next / window_size * window_size + w.next % window_size ≡ w.next = div-add-mod' w.next window_size in
            let r : w.next % window_size < window_size = mod-lt w.next (omega arith) in
            let s : w.next < channels = ltb-true w.next channels t in
            let k : y + window_size ≤ channels = omega arith in
            let Q : Question = Shared (window_at w.class y) in
            next_pass T Q F A (at_window c y (about_pass T Q F A) (asks_pass T Q F ∙ ap (λ (d : ℕ). Shared (window_at d y)) W.class_is) small k fit b
            (pairs_of_lem T Q F c y (on y m).0) (gaps_of T Q F c y (on y m).1))
        go false t true v =
            let n : channels ≤ w.next = ltb-false w.next channels t in
            let Q : Question = Shared (window_at (w.class + 1) 0) in
            let d : w.class + 1 ≡ suc c = omega (arith, W.class_is) in
            next_pass T Q F A (at_window (suc c) 0 (about_pass T Q F A) (asks_pass T Q F ∙ ap (λ (i : ℕ). Shared (window_at i 0)) d) (omega (arith, W.class_is, ltb-true w.class class_limit v)) (omega arith) fit b
            (pairs_of_lem T Q F (suc c) 0 (pairs_class c rs F fit (on channels n).0)) (gaps_of T Q F (suc c) 0 (gaps_class c g rs (on channels n).1)))
        go false t false v =
            let n : channels ≤ w.next = ltb-false w.next channels t in
            let d : suc c ≡ classes = omega (arith, W.class_is, ltb-false w.class class_limit v) in
            behind_all T A b (subst (λ (i : ℕ). Pairs rs i 0 F) d (pairs_class c rs F fit (on channels n).0)) (subst (λ (i : ℕ). Gaps rs i 0 g) d (gaps_class c g rs (on channels n).1))

    -- Once a pass is whole.
    turn : (p : Search) → Ready p → Fit → Good (turned (whole_pass p rs))
    turn p (at_bad a q n g) fit = turn_bad p a q n g fit
    turn p (at_window c x a q small fits fit b P G) _ = turn_window p c x a q small fits fit b P G
    turn p (at_later a q n b P small) fit = turn_later p a q n b P small
    turn p (at_covering x a q c n b o g) fit = turn_covering p x a q c n b o g

    -- Then fewer are to come.
    turn_fewer : (p : Search) → Ready p → Fewer (length rs) (rank p.question) (turned (whole_pass p rs))
    unfolding turned turned_at moved behind_window with_gap rank window_at answered
    turn_fewer p (at_bad a q n g) =
        subst (λ (i : ℕ). Fewer (length rs) i (turned (whole_pass p rs))) (ap rank (sym q))
        (rw (ap (λ (z : Question). question_in z rs) q ∙ still_bad rs) (go (ltb F.number p.count)))
      where
        F : Found
        F = found_in p 0 rs

        S : Search
        S = moved p 0 Bad F

        go : (t : Bool) → Fewer (length rs) (rank Bad) (elim t [ true ↦ done S (Refused q_rule F.number) | false ↦ pass S (Shared (window_at 0 0)) F ])
        go true = fewer_done (length rs) (rank Bad) S (Refused q_rule F.number) a.count_is (omega arith)
        go false = fewer_pass (length rs) (rank Bad) S (Shared (window_at 0 0)) F a.count_is (omega arith)
    turn_fewer p (at_window c x a q small fits fit b P G) =
        subst (λ (i : ℕ). Fewer (length rs) i (turned (whole_pass p rs))) (ap rank (sym q))
        (rw (ap (λ (z : Question). question_in z rs) q ∙ question_window (window_at c x) rs) (go (ltb w.next channels) refl (ltb w.class class_limit) refl))
      where
        w : Window
        w = window_of (window_at c x) rs

        W : Whole c x rs w
        W = whole c x rs

        F : Found
        F = found_in p 0 rs

        T : Search
        T = with_gap (moved p 0 (Shared w) F) (gap_after p.gap w)

        k : ℕ
        k = rank (Shared (window_at c x))

        up : (d y : ℕ) → d * channels + y ≤ no_gap → c * channels + x < d * channels + y → rank (Shared (window_at d y)) < k
        up d y l h = omega arith

        go : (t : Bool) → ltb w.next channels ≡ t → (u : Bool) → ltb w.class class_limit ≡ u
            → Fewer (length rs) k (elim t [
              | true ↦ pass T (Shared (window_at w.class (w.next - w.next % window_size))) F
              | false ↦ elim u [ true ↦ pass T (Shared (window_at (w.class + 1) 0)) F | false ↦ behind_windows T ]
            ])
        go true t u v =
            let r : w.next % window_size < window_size = mod-lt w.next (omega arith) in
            let s : w.next < channels = ltb-true w.next channels t in
            let z : w.class ≡ c = W.class_is in
            let m : x + window_size ≤ w.next = W.behind fits in
            let y : ℕ = w.next - w.next % window_size in
            fewer_pass (length rs) k T (Shared (window_at w.class y)) F a.count_is (up w.class y (omega arith) (omega arith))
        go false t true v =
            let z : w.class ≡ c = W.class_is in
            let h : w.class < class_limit = ltb-true w.class class_limit v in
            fewer_pass (length rs) k T (Shared (window_at (w.class + 1) 0)) F a.count_is (up (w.class + 1) 0 (omega arith) (omega arith))
        go false t false v = fewer_behind (length rs) k T a.count_is (omega arith)
    turn_fewer p (at_later a q n b P small) =
        subst (λ (i : ℕ). Fewer (length rs) i (turned (whole_pass p rs))) (ap rank (sym q))
        (rw (ap (λ (z : Question). question_in z rs) q ∙ still_later rs) (fewer_done (length rs) 1 (moved p 0 Later (found_in p 0 rs)) (Refused q_overlap (found_in p 0 rs).number) a.count_is (omega arith)))
    turn_fewer p (at_covering x a q c n b o g) =
        subst (λ (i : ℕ). Fewer (length rs) i (turned (whole_pass p rs))) (ap rank (sym q))
        (rw (ap (λ (z : Question). question_in z rs) q ∙ still_covering rs) (fewer_done (length rs) 1 (moved p 0 Covering (found_in p 0 rs)) (Answer (pick (ltb 0 (found_in p 0 rs).rule.allowed) answer_yes answer_no)) a.count_is (omega arith)))

  -- the rule that is wanted, and those behind it
  drop_rule : (qs : List Rule) (n : ℕ) → n < length qs → drop n qs ≡ rule qs n ∷ drop (suc n) qs
  drop_rule [] n l = absurd (omega arith)
  drop_rule (r ∷ qs) zero l = refl
  drop_rule (r ∷ qs) (suc n) l = drop_rule qs n (omega arith)

  ready_count : (p : Search) → Ready p → p.count ≡ length rs
  ready_count p (at_bad a q n g) = a.count_is
  ready_count p (at_window c x a q small fits fit b P G) = a.count_is
  ready_count p (at_later a q n b P small) = a.count_is
  ready_count p (at_covering x a q c n b o g) = a.count_is

  pub starts : Good (begin asked f (length rs))
  unfolding begin fresh no_rule done pass moved
  starts = go (ltb class_limit asked) refl (eqb (length rs) 0) refl
    where
      B : Search
      B = fresh asked f (length rs)

      go : (t : Bool) → ltb class_limit asked ≡ t → (u : Bool) → eqb (length rs) 0 ≡ u
          → Good (elim t [ true ↦ done B (Refused q_rule 0) | false ↦ elim u [ true ↦ B | false ↦ pass B Bad (no_rule (length rs)) ] ])
      go true t u v = finished refl refl (first t)
        where
          first : ltb class_limit asked ≡ true → Refused q_rule 0 ≡ ruling asked rs f
          first t = ruled_asked t
      go false t true v = finished refl refl (ruled_empty (ltb-false class_limit asked t) (eqb-true (length rs) 0 v))
      go false t false v =
          starts_pass (pass B Bad (no_rule (length rs)))
          (at_bad (record { count_is = refl; asked_is = refl; fired_is = refl; low = ltb-false class_limit asked t }) refl refl refl)
          (some_rule (length rs) (eqb-false (length rs) 0 v)) refl
        where
          some_rule : (n : ℕ) → (n ≡ 0 → ⊥) → 0 < n
          some_rule zero k = absurd (k refl)
          some_rule (suc n) k = omega arith

  -- the search at rule n of a pass, once that rule is shown
  on_rule : (p : Search) → Ready p → (n : ℕ) → n < length rs → ((i : ℕ) → n < i → i < length rs → (rule rs i).last < channels) → (rule rs n).last < channels → Good (shown (partway p n (drop (suc n) rs)) (rule rs n))
  on_rule p R zero m k h =
      subst Good (sym (shown_last p (rule rs 0) (drop 1 rs)))
      (subst (λ (qs : List Rule). Good (turned (whole_pass p qs))) (drop_rule rs 0 m) (turn (omega arith) p R fit))
    where
      fit : Fit
      fit zero l = h
      fit (suc i) l = k (suc i) (omega arith) l
  on_rule p R (suc n) m k h =
      subst Good (sym (shown_on p n (rule rs (suc n)) (drop (suc (suc n)) rs)))
      (within p R n (omega arith) (ap (partway p n) (sym (drop_rule rs (suc n) m))) fit)
    where
      fit : (i : ℕ) → n < i → i < length rs → (rule rs i).last < channels
      fit i a b = go (eqb i (suc n)) refl
        where
          go : (t : Bool) → eqb i (suc n) ≡ t → (rule rs i).last < channels
          go true t = subst (λ (j : ℕ). (rule rs j).last < channels) (sym (eqb-true i (suc n) t)) h
          go false t = k i (above (leb (suc (suc n)) i) refl) b
            where
              above : (u : Bool) → leb (suc (suc n)) i ≡ u → suc n < i
              above true u = leb-true (suc (suc n)) i u
              above false u = let q : i ≡ suc n = omega (arith, leb-false (suc (suc n)) i u) in absurd (eqb-false i (suc n) t q)

  pub goes : (s : Search) → Good s → s.at < length rs → (get_or rs s.at blank).last < channels → Good (shown s (get_or rs s.at blank))
  unfolding moved
  goes s (finished a q t) l h = absurd (omega (arith, a))
  goes s (within p R n m e k) l h =
      subst (λ (z : Search). Good (shown z (get_or rs z.at blank))) (sym e)
      (on_rule p R n m k (subst (λ (i : ℕ). (rule rs i).last < channels) (ap (λ (z : Search). z.at) e) h))

  fewer_less : (k : ℕ) (s : Search) → Fewer (length rs) k s → measure s < k * suc (length rs)
  unfolding measure
  fewer_less k s F =
      let a : rank s.question * suc s.count ≡ rank s.question * suc (length rs) = ap (λ (n : ℕ). rank s.question * suc n) F.same_count in
      let b : suc (rank s.question) * suc (length rs) ≤ k * suc (length rs) = mul-le-mul_right (suc (length rs)) F.lower_rank in
      let c : suc (rank s.question) * suc (length rs) ≡ rank s.question * suc (length rs) + suc (length rs) = suc-mul (rank s.question) (suc (length rs)) in
      omega (arith, F.not_past)

  on_measure : (p : Search) → Ready p → (n : ℕ) → n < length rs → measure (shown (partway p n (drop (suc n) rs)) (rule rs n)) < measure (partway p n (drop (suc n) rs))
  unfolding measure moved
  on_measure p R zero m =
      let e : shown (partway p 0 (drop 1 rs)) (rule rs 0) ≡ turned (whole_pass p rs) = shown_last p (rule rs 0) (drop 1 rs) ∙ ap (λ (qs : List Rule). turned (whole_pass p qs)) (sym (drop_rule rs 0 m)) in
      let less : measure (turned (whole_pass p rs)) < rank p.question * suc (length rs) = fewer_less (rank p.question) (turned (whole_pass p rs)) (turn_fewer (omega arith) p R) in
      let same : rank (question_in p.question (drop 1 rs)) * suc p.count ≡ rank p.question * suc (length rs) = ap₂ (λ (i j : ℕ). i * suc j) (rank_in p.question (drop 1 rs)) (ready_count p R) in
      rw e (omega arith)
  on_measure p R (suc n) m =
      let e : shown (partway p (suc n) (drop (suc (suc n)) rs)) (rule rs (suc n)) ≡ partway p n (rule rs (suc n) ∷ drop (suc (suc n)) rs) = shown_on p n (rule rs (suc n)) (drop (suc (suc n)) rs) in
      let same : rank (question_in p.question (rule rs (suc n) ∷ drop (suc (suc n)) rs)) ≡ rank (question_in p.question (drop (suc (suc n)) rs)) = rank_after (question_in p.question (drop (suc (suc n)) rs)) (rule rs (suc n)) in
      let times : rank (question_in p.question (rule rs (suc n) ∷ drop (suc (suc n)) rs)) * suc p.count ≡ rank (question_in p.question (drop (suc (suc n)) rs)) * suc p.count = ap (λ (i : ℕ). i * suc p.count) same in
      rw e (omega arith)

  pub falls : (s : Search) → Good s → s.at < length rs → measure (shown s (get_or rs s.at blank)) < measure s
  unfolding moved
  falls s (finished a q t) l = absurd (omega (arith, a))
  falls s (within p R n m e k) l = subst (λ (z : Search). measure (shown z (get_or rs z.at blank)) < measure z) (sym e) (on_measure p R n m)

  pub ends : (s : Search) → Good s → length rs ≤ s.at → s.told ≡ ruling asked rs f
  unfolding moved
  ends s (finished a q t) l = t
  ends s (within p R n m e k) l = let z : s.at ≡ n = ap (λ (y : Search). y.at) e in absurd (omega arith)
