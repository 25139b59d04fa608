-- 01: "what the older words hold decides no answer".
-- They reach `source_words` alone, and that is asked of an accepted run.
-- Assumes nothing.
use Rattle.std.specs.Prelude.{◌≡◌, refl, List, ℕ, suc, length}
use Rattle.std.proofs.Common.{ap}
use Rattle.std.proofs.Math.Option.{Option, none, some}
use Rattle.records.specs.Pieces.{HeadRead, BlockRead, Run, done, stop, item, map_run, count_run, Source, source_words, Old, Verdict, fine, refused, Answer, left, leave, Again, again_left, leave_again, olds, keeps, reread_of, reread}

-- What a call reports: count or refusal and place, `first` and `read`.
pub data Report : Type 0 where
  report : Answer → ℕ → ℕ → Report

unfoldable pub report_of : Again → Report
report_of (again_left (left a ws ds) f r) = report a f r

count_map : {A B : Type 0} (f : A → B) (r : Run A) → count_run (map_run f r) ≡ count_run r
unfolding map_run count_run
count_map f done = refl
count_map f (stop q p) = refl
count_map f (item e c a r) = ap suc (count_map f r)

same_report : (ws vs dir : List ℕ) (k : ℕ) (v : Verdict) (r all : Run Source) → report_of (leave_again ws dir v k r all) ≡ report_of (leave_again vs dir v k r all)
unfolding report_of leave_again leave
same_report ws vs dir k fine r all = rw (count_map (source_words ws) all, count_map (source_words vs) all)
same_report ws vs dir k (refused q p) r all = refl

module _ (head_at : List ℕ → HeadRead) (block_at : ℕ → List ℕ → BlockRead) where
  same_olds : (ws vs dir older newer : List ℕ) → length ws ≡ length vs → (o : Option (List Old))
      → report_of (reread_of head_at block_at ws dir older newer o) ≡ report_of (reread_of head_at block_at vs dir older newer o)
  unfolding reread_of
  same_olds ws vs dir older newer h none = same_report ws vs dir 0 _ done done
  same_olds ws vs dir older newer h (some os) = rw h (same_report ws vs dir (keeps head_at block_at older newer os) _ _ _)

  -- Two arrays of one length, whatever they hold, give one report.
  pub words_decide_nothing : (ws vs dir : List ℕ) (n : ℕ) (older newer : List ℕ) → length ws ≡ length vs
      → report_of (reread head_at block_at ws dir n older newer) ≡ report_of (reread head_at block_at vs dir n older newer)
  unfolding reread
  words_decide_nothing ws vs dir n older newer h = rw h (same_olds ws vs dir older newer h (olds (length older) (length vs) n dir))
