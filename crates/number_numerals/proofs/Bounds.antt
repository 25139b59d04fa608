-- The numbers of a numeral's state stay in their bounds: figures below 10^15, counts up to 2^62. The other fields are a phase, flags and words of 64
-- and 128 bits, so the state's size does not depend on the numeral.
-- Assumes nothing.
use mathlib.Core.Path.{◌≡◌, refl}
use mathlib.Core.Bool.{Bool, true, false}
use mathlib.Core.List.{List, [], ◌∷◌}
use mathlib.Core.Option.{Option, none, some}
use Prim.Native.Nat.{ℕ, ◌+◌, ◌*◌, ◌^◌, ◌<◌, ◌≤◌}
use lib.Dec.{ltb, leb, eqb, lit<, lit≤}
use borrow.Author.Tests.{ltb-true, leb-true}
use Rattle.std.proofs.Common.{Option as Maybe, Some, None}
use Rattle.std.specs.Prelude.{IfSome}
use Rattle.program.specs.Bytes.{byte}
use Rattle.program.specs.Choice.{pick}
use Rattle.program.specs.Class.{class_of}
use Rattle.number_decimals.specs.Decimals.{counted, few_digits, significant_pushed, digit_pushed}
use Rattle.number_decimals.specs.declared.mantissa.Mantissa.{Mantissa}
use Rattle.number_numerals.specs.Numerals.{started, sign_passed, in_phase, whole_pushed, part_pushed, power_signed, power_pushed, next_phase, pushed_in, taken_in, takes, onward}
use Rattle.number_numerals.specs.declared.folds.Phase.{Phase}
use Rattle.number_numerals.specs.declared.folds.Phase.TheVariants.{Start, Front, Whole, Point, Behind, Letter, Sign, Power}
use Rattle.number_numerals.specs.declared.folds.Fold.{Fold}

pub record Figures (m : Mantissa) : Type 0 where
  pub sig : m.sig < 10 ^ 15
  pub zeros : m.zeros ≤ 2 ^ 62

abbrev pub Held : Maybe Mantissa → Type 0
Held m = IfSome m Figures

pub record Bounds (s : Fold) : Type 0 where
  pub figures : Held s.mantissa
  pub behind : s.behind ≤ 2 ^ 62

counted_in : (n : ℕ) → counted n ≤ 2 ^ 62
unfolding counted
counted_in n = go (leb n (2 ^ 62)) refl
  where
    go : (t : Bool) → leb n (2 ^ 62) ≡ t → pick t n (2 ^ 62) ≤ 2 ^ 62
    go true e = leb-true n (2 ^ 62) e
    go false e = lit≤ tt

-- the figures
one_of : {A : Type 0} (P : A → Type 0) (t : Bool) {a b : A} → P a → P b → P (pick t a b)
one_of P true x y = x
one_of P false x y = y

few_in : (x z : ℕ) → z ≤ 2 ^ 62 → Held (few_digits x z)
unfolding few_digits
few_in x z h = go (ltb x (10 ^ 15)) refl
  where
    go : (t : Bool) → ltb x (10 ^ 15) ≡ t → Held (pick t (Some (record { sig = x; zeros = z })) None)
    go true e = record { sig = ltb-true x (10 ^ 15) e; zeros = h }
    go false e = tt

digit_in : (m : Maybe Mantissa) (d : ℕ) → Held m → Held (digit_pushed m d)
unfolding digit_pushed significant_pushed
digit_in None d f = tt
digit_in (Some m) d f =
    one_of Held (eqb d 0)
    (one_of Held (eqb m.sig 0) f (record { sig = f.sig; zeros = counted_in (m.zeros + 1) }))
    (one_of Held (leb 15 m.zeros) tt (few_in (m.sig * 10 ^ (m.zeros + 1) + d) 0 (lit≤ tt)))

-- a byte more
pushed_in_lem : (f : Phase) (s : Fold) (x : ℕ) → Bounds s → Bounds (pushed_in f s x)
unfolding pushed_in sign_passed in_phase whole_pushed part_pushed power_signed power_pushed
pushed_in_lem Start s x h = h
pushed_in_lem Front s x h = record { figures = h.figures; behind = h.behind }
pushed_in_lem Whole s x h = record { figures = digit_in s.mantissa (class_of x) h.figures; behind = h.behind }
pushed_in_lem Point s x h = record { figures = h.figures; behind = h.behind }
pushed_in_lem Behind s x h = record { figures = digit_in s.mantissa (class_of x) h.figures; behind = counted_in (s.behind + 1) }
pushed_in_lem Letter s x h = record { figures = h.figures; behind = h.behind }
pushed_in_lem Sign s x h = record { figures = h.figures; behind = h.behind }
pushed_in_lem Power s x h = record { figures = h.figures; behind = h.behind }

taken_in_lem : (f : Phase) (s : Fold) (x : ℕ) → Bounds s → Bounds (taken_in f s x)
unfolding taken_in
taken_in_lem f s x h = one_of Bounds (eqb x (byte "_")) h (pushed_in_lem f s x h)

pub started_in : Bounds started
unfolding started
started_in = record { figures = record { sig = lit< tt; zeros = lit≤ tt }; behind = lit≤ tt }

-- behind any bytes
pub bounds : (s : Fold) (r : List ℕ) → Bounds s → Bounds (onward s r)
unfolding onward
bounds s [] h = h
bounds s (x ∷ r) h = go (next_phase s.phase x) (λ f. bounds (taken_in f s x) r (taken_in_lem f s x h))
  where
    go : (o : Option Phase) → ((f : Phase) → Bounds (onward (taken_in f s x) r)) → Bounds (elim (takes o s x) [ some t ↦ onward t r | none ↦ s ])
    go none ih = h
    go (some f) ih = ih f
