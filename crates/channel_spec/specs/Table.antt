-- M-102, "Channel rules per account class": a table of rules, when it is refused, and what it says of a channel.
-- Assumes nothing.
use Rattle.std.specs.Prelude.{Bool, true, false, ◌&&◌, ◌||◌, List, [], ◌∷◌, ℕ, zero, suc, ◌+◌, ◌*◌, ltb, leb, eqb}
use Rattle.std.proofs.Math.Option.{Option, none, some}
use Rattle.program.specs.Class.{inside}
use Rattle.records.specs.Limits.{class_limit, channel_limit}
use Rattle.records.specs.Questions.{q_rule, q_overlap, q_gap}
use Rattle.channel_spec.specs.declared.Rule.{Rule}
use Rattle.channel_spec.specs.Told.{Told, Refused}

-- how many classes and channels there are: "class 0 to 3", "channels 0 to 65,535"
abbrev pub classes : ℕ
classes = suc class_limit

abbrev pub channels : ℕ
channels = suc channel_limit

-- 23: "class above 3 or first above last"
unfoldable pub is_bad : Rule → Bool
is_bad r = ltb class_limit r.account_class || ltb r.last r.first

-- the number of the first rule of which a test holds, where the first of them has the number i
unfoldable pub first_that : (Rule → Bool) → (i : ℕ) → List Rule → Option ℕ
first_that test i [] = none
first_that test i (r ∷ rs) = elim (test r) [ true ↦ some i | false ↦ first_that test (suc i) rs ]

-- 24, "overlap in a class": do two rules share a channel of one class?
unfoldable pub overlap : Rule → Rule → Bool
overlap r s = eqb r.account_class s.account_class && (leb r.first s.last && leb s.first r.last)

-- "place the later rule, of the pair lowest by earlier, then later"
unfoldable pub first_overlap : (i : ℕ) → List Rule → Option ℕ
first_overlap i [] = none
first_overlap i (r ∷ rs) = elim (first_that (overlap r) (suc i) rs) [ some j ↦ some j | none ↦ first_overlap (suc i) rs ]

-- does a rule cover this channel of this class?
unfoldable pub covers : (c x : ℕ) → Rule → Bool
covers c x r = eqb r.account_class c && inside r.first r.last x

-- does one of them?
unfoldable pub covered : (c x : ℕ) → List Rule → Bool
covered c x [] = false
covered c x (r ∷ rs) = covers c x r || covered c x rs

-- 25: "gap, place the lowest class × 65,536 + channel". Among m channels of a class, from x on
unfoldable pub gap_from : (m c x : ℕ) → List Rule → Option ℕ
gap_from zero c x rs = none
gap_from (suc m) c x rs = elim (covered c x rs) [ true ↦ gap_from m c (suc x) rs | false ↦ some (c * channels + x) ]

-- in n classes, from c on
unfoldable pub first_gap : (n c : ℕ) → List Rule → Option ℕ
first_gap zero c rs = none
first_gap (suc n) c rs = elim (gap_from channels c 0 rs) [ some p ↦ some p | none ↦ first_gap n (suc c) rs ]

-- the refusal of a question that found a place; else what comes next
unfoldable pub or_else : (question : ℕ) → Option ℕ → Told → Told
or_else q (some place) t = Refused q place
or_else q none t = t

-- "class asked for above 3, place 0"
unfoldable pub asked_place : (asked : ℕ) → Option ℕ
asked_place asked = elim (ltb class_limit asked) [ true ↦ some 0 | false ↦ none ]

-- The table's refusal, "in that order, before any function"; or what is told where it stands.
unfoldable pub judged : (asked : ℕ) → List Rule → Told → Told
judged asked rs t =
    or_else q_rule (asked_place asked)
    (or_else q_rule (first_that is_bad 0 rs)
    (or_else q_overlap (first_overlap 0 rs)
    (or_else q_gap (first_gap classes 0 rs) t)))

-- What the first rule that covers a channel says: 0 is no, all else yes. Where the table stands it is the one rule of the class that does.
unfoldable pub permits : (c x : ℕ) → List Rule → Bool
permits c x [] = false
permits c x (r ∷ rs) = elim (covers c x r) [ true ↦ ltb 0 r.allowed | false ↦ permits c x rs ]
