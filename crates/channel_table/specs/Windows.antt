-- A window of channels of one class, and what a rule marks in it.
-- Assumes nothing.
use Rattle.std.specs.Prelude.{Bool, true, false, ◌&&◌, ◌||◌, not, ℕ, zero, suc, ◌+◌, ◌-◌, ◌*◌, ◌/◌, ◌%◌, ◌^◌, min, ltb, leb, eqb}
use Rattle.std.specs.Int.Bits.{bit_and, bit_or}
use Rattle.channel_spec.specs.declared.Rule.{Rule}
use Rattle.channel_spec.specs.Table.{channels}
use Rattle.channel_table.specs.declared.windows.Window.{Window}

abbrev pub window_size : ℕ
window_size = 64

unfoldable pub window_at : (class from : ℕ) → Window
window_at c x = record { class = c; from = x; marks = 0; next = channels }

-- the bits from a to b
unfoldable pub bits_of : (a b : ℕ) → ℕ
bits_of a b = ((2 ^ (b - a) - 1) + (2 ^ (b - a) - 1) + 1) * 2 ^ a

-- of a rule, in the window that begins at a channel
unfoldable pub marks_of : Rule → (from : ℕ) → ℕ
marks_of r from =
    elim (ltb r.last r.first || (ltb r.last from || leb window_size (r.first - from))) [
      | true ↦ 0
      | false ↦ bits_of (r.first - from) (min (r.last - from) (window_size - 1))
    ]

unfoldable pub is_of_class : Window → Rule → Bool
is_of_class w r = eqb w.class r.account_class

-- does the rule share a channel with those that are marked?
unfoldable pub meets : Window → Rule → Bool
meets w r = is_of_class w r && not (eqb (bit_and w.marks (marks_of r w.from)) 0)

-- the lower of two channels, of which the first counts only behind the window
unfoldable pub break_before : (from channel next : ℕ) → ℕ
break_before from x next = elim (leb (from + window_size) x && ltb x next) [ true ↦ x | false ↦ next ]

-- the window once a rule is marked in it
unfoldable pub marked : Window → Rule → Window
marked w r = elim (is_of_class w r) [
  | true ↦ record { class = w.class; from = w.from; marks = bit_or w.marks (marks_of r w.from); next = break_before w.from (r.last + 1) (break_before w.from r.first w.next) }
  | false ↦ w
]

-- the lowest of m bits from k on that is 0; past them where there is none
unfoldable pub first_clear : (m k marks : ℕ) → ℕ
first_clear zero k marks = k
first_clear (suc m) k marks = elim (eqb ((marks / 2 ^ k) % 2) 0) [ true ↦ k | false ↦ first_clear m (suc k) marks ]
