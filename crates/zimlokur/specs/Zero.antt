-- 0 is never the number of a refusal: whoever gets it has the records of an accepted text.
-- Assumes nothing.
use Rattle.std.specs.Prelude.{◌≡◌, refl, List, ℕ, ◌≤◌}
use Rattle.std.proofs.Common.{arith}
use Rattle.records.specs.Pieces.{refused_at, count, Left, left, Again, left_of}
use Rattle.grammar.specs.Function.{reading_of, rereading_of}
use Rattle.theorem_refusals.specs.Places.{reading_refusal, rereading_refusal}
use Rattle.zimlokur.specs.Report.{Reports, reports, ReportsAgain, reports_again}

accepted : (l : Left) {r place n : ℕ} {words dir : List ℕ} → Reports l r place n words dir → r ≡ 0 → ((q p : ℕ) (ws ds : List ℕ) → l ≡ left (refused_at q p) ws ds → 1 ≤ q) → l ≡ left (count n) words dir
accepted _ (reports {a = count m} {words = ws} {dir = ds}) e h = refl
accepted _ (reports {a = refused_at q p} {words = ws} {dir = ds}) e h = absurd (omega (arith, e, h q p ws ds refl))

pub zero_accepts : (W D : ℕ) (text : List ℕ) (place n : ℕ) (words dir : List ℕ) → Reports (reading_of W D text) 0 place n words dir → reading_of W D text ≡ left (count n) words dir
zero_accepts W D text place n words dir h = accepted (reading_of W D text) h refl (λ q p ws ds e. (reading_refusal W D text ws ds q p e).0.0)

accepted_again : (l : Again) {r place n first many : ℕ} {words dir : List ℕ} → ReportsAgain l r place n first many words dir → r ≡ 0 → ((q p : ℕ) (ws ds : List ℕ) → left_of l ≡ left (refused_at q p) ws ds → 1 ≤ q) → left_of l ≡ left (count n) words dir
unfolding left_of
accepted_again _ (reports_again {a = count m} {words = ws} {dir = ds}) e h = refl
accepted_again _ (reports_again {a = refused_at q p} {words = ws} {dir = ds}) e h = absurd (omega (arith, e, h q p ws ds refl))

pub zero_accepts_again : (ws ds : List ℕ) (count-before : ℕ) (older newer : List ℕ) (place n first many : ℕ) (words dir : List ℕ) → ReportsAgain (rereading_of ws ds count-before older newer) 0 place n first many words dir
    → left_of (rereading_of ws ds count-before older newer) ≡ left (count n) words dir
zero_accepts_again ws ds m older newer place n first many words dir h = accepted_again (rereading_of ws ds m older newer) h refl (λ q p us vs e. (rereading_refusal ws ds m older newer us vs q p e).0.0)
