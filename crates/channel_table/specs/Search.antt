-- A search through the rules of a table, step by step, as the code makes it.
-- Assumes nothing.
use Rattle.std.specs.Prelude.{Bool, true, false, ◌&&◌, ℕ, ◌+◌, ◌-◌, ◌*◌, ◌%◌, ltb, eqb}
use Rattle.program.specs.Choice.{pick}
use Rattle.records.specs.Limits.{class_limit}
use Rattle.records.specs.Questions.{q_rule, q_overlap, q_gap}
use Rattle.channel_spec.specs.declared.Rule.{Rule}
use Rattle.channel_spec.specs.declared.Fired.{Fired}
use Rattle.channel_spec.specs.declared.Fired.TheVariants as fired
use Rattle.channel_spec.specs.Told.{Told, Answer, Refused}
use Rattle.channel_spec.specs.Table.{classes, channels, is_bad, overlap, covers}
use Rattle.channel_spec.specs.Answers.{answer_no, answer_yes, answer_undecided, answer_none}
use Rattle.channel_table.specs.declared.windows.Window.{Window}
use Rattle.channel_table.specs.declared.Question.{Question}
use Rattle.channel_table.specs.declared.Question.TheVariants.{Bad, Shared, Later, Covering, Nothing}
use Rattle.channel_table.specs.declared.Found.{Found}
use Rattle.channel_table.specs.declared.Search.{Search}
use Rattle.channel_table.specs.Windows.{window_size, window_at, meets, marked, first_clear}

-- the place of no gap
abbrev pub no_gap : ℕ
no_gap = classes * channels

-- past the rules
unfoldable pub no_rule : (count : ℕ) → Found
no_rule n = record { number = n; rule = record { account_class = 0; allowed = 0; first = 0; last = 0 } }

unfoldable pub covers_call : (asked : ℕ) → Fired → Rule → Bool
covers_call c (fired.Channel x) r = covers c x r
covers_call c fired.Undecided r = false
covers_call c fired.Nothing r = false

-- does a rule answer the question with yes?
unfoldable pub answers : Question → Search → Rule → Bool
answers Bad s r = is_bad r
answers (Shared w) s r = meets w r
answers Later s r = ltb s.earlier.number s.at && overlap s.earlier.rule r
answers Covering s r = covers_call s.asked s.fired r
answers Nothing s r = false

unfoldable pub finds : Search → Rule → Bool
finds s r = answers s.question s r

unfoldable pub question_after : Question → Rule → Question
question_after Bad r = Bad
question_after (Shared w) r = Shared (marked w r)
question_after Later r = Later
question_after Covering r = Covering
question_after Nothing r = Nothing

-- what has been found, once a rule was shown
unfoldable pub found_after : Search → Rule → Found
found_after s r = elim (ltb s.at s.found.number && finds s r) [ true ↦ record { number = s.at; rule = r } | false ↦ s.found ]

-- with another rule to be shown next, another question, and something else found
unfoldable pub moved : Search → (at : ℕ) → Question → Found → Search
moved s n q f = record { at = n; count = s.count; asked = s.asked; fired = s.fired; question = q; found = f; earlier = s.earlier; gap = s.gap; told = s.told }

unfoldable pub look : Search → Rule → Search
look s r = moved s s.at (question_after s.question r) (found_after s r)

-- the next pass, from the last rule on
unfoldable pub pass : Search → Question → Found → Search
pass s q f = moved s (s.count - 1) q f

-- nothing more is wanted
unfoldable pub done : Search → Told → Search
done s t = record { at = s.count; count = s.count; asked = s.asked; fired = s.fired; question = Nothing; found = s.found; earlier = s.earlier; gap = s.gap; told = t }

-- the pass for the later rule of an overlap
unfoldable pub later : Search → Search
later s = record { at = s.count - 1; count = s.count; asked = s.asked; fired = s.fired; question = Later; found = no_rule s.count; earlier = s.found; gap = s.gap; told = s.told }

unfoldable pub with_gap : Search → (gap : ℕ) → Search
with_gap s g = record { at = s.at; count = s.count; asked = s.asked; fired = s.fired; question = s.question; found = s.found; earlier = s.earlier; gap = g; told = s.told }

-- the lowest gap, once a window is whole
unfoldable pub gap_after : (gap : ℕ) → Window → ℕ
gap_after g w =
    elim (eqb g no_gap && ltb (first_clear window_size 0 w.marks) window_size) [
      | true ↦ w.class * channels + w.from + first_clear window_size 0 w.marks
      | false ↦ g
    ]

unfoldable pub answering_to : Fired → Search → Search
answering_to (fired.Channel x) s = pass s Covering (no_rule s.count)
answering_to fired.Undecided s = done s (Answer answer_undecided)
answering_to fired.Nothing s = done s (Answer answer_none)

unfoldable pub answering : Search → Search
answering s = answering_to s.fired s

unfoldable pub behind_windows : Search → Search
behind_windows s =
    elim (ltb s.found.number s.count) [
      | true ↦ later s
      | false ↦ elim (eqb s.gap no_gap) [ true ↦ answering s | false ↦ done s (Refused q_gap s.gap) ]
    ]

unfoldable pub behind_window : Search → Window → Search
behind_window s w =
    elim (ltb w.next channels) [
      | true ↦ pass (with_gap s (gap_after s.gap w)) (Shared (window_at w.class (w.next - w.next % window_size))) s.found
      | false ↦ elim (ltb w.class class_limit) [
        | true ↦ pass (with_gap s (gap_after s.gap w)) (Shared (window_at (w.class + 1) 0)) s.found
        | false ↦ behind_windows (with_gap s (gap_after s.gap w))
      ]
    ]

unfoldable pub answered : Search → Search
answered s = done s (Answer (pick (ltb 0 s.found.rule.allowed) answer_yes answer_no))

unfoldable pub turned_at : Question → Search → Search
turned_at Bad s = elim (ltb s.found.number s.count) [ true ↦ done s (Refused q_rule s.found.number) | false ↦ pass s (Shared (window_at 0 0)) s.found ]
turned_at (Shared w) s = behind_window s w
turned_at Later s = done s (Refused q_overlap s.found.number)
turned_at Covering s = answered s
turned_at Nothing s = done s s.told

-- once a pass is whole
unfoldable pub turned : Search → Search
turned s = turned_at s.question s

-- once the rule that is wanted is shown
unfoldable pub shown : Search → Rule → Search
shown s r = elim (ltb 0 s.at) [ true ↦ moved s (s.at - 1) (question_after s.question r) (found_after s r) | false ↦ turned (look s r) ]

-- before the first rule
unfoldable pub fresh : (asked : ℕ) → Fired → (count : ℕ) → Search
fresh c f n = record { at = n; count = n; asked = c; fired = f; question = Nothing; found = no_rule n; earlier = no_rule n; gap = no_gap; told = Refused q_gap 0 }

unfoldable pub begin : (asked : ℕ) → Fired → (count : ℕ) → Search
begin c f n =
    elim (ltb class_limit c) [
      | true ↦ done (fresh c f n) (Refused q_rule 0)
      | false ↦ elim (eqb n 0) [ true ↦ fresh c f n | false ↦ pass (fresh c f n) Bad (no_rule n) ]
    ]
