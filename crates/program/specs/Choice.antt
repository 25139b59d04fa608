-- A choice by a test.
-- Assumes nothing.
use Rattle.std.specs.Prelude.{Bool, true, false}

-- both sides are values
abbrev pub pick : {A : Type 0} → Bool → A → A → A
pick true a b = a
pick false a b = b

-- only the side that holds is computed
abbrev pub test : {A : Type 0} → Bool → (Unit {0} → A) → (Unit {0} → A) → A
test true a b = a tt
test false a b = b tt
