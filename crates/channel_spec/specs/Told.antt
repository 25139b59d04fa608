-- What is told: an answer; or the question that refuses the table, and the place.
-- Assumes nothing.
use Rattle.std.specs.Prelude.{◌≡◌, ℕ, Result, Ok, Err}
use Rattle.std.proofs.Common.{ap}
use Rattle.records.specs.declared.Refusal.{Refusal}

abbrev pub Told : Type 0
Told = Result ℕ Refusal

abbrev pub Answer : ℕ → Told
Answer a = Ok a

abbrev pub Refused : (question place : ℕ) → Told
Refused q p = Err (record { question = q; place = p })

-- two refusals that are the same have the same question and the same place
pub same_refused : (q p u v : ℕ) → Refused q p ≡ Refused u v → (q ≡ u) × (p ≡ v)
same_refused q p u v e =
    let r : ◌≡◌ {A = Refusal} (record { question = q; place = p }) (record { question = u; place = v }) = cc in
    (ap (λ (x : Refusal). x.question) r, ap (λ (x : Refusal). x.place) r)
