-- The record of addition, and records that say too much or too little to be it.
use Rattle.std.specs.Prelude.{[], ◌∷◌}
use Rattle.lf.specs.Variables.{everything, nothing}
use Rattle.lf_totality.specs.Group.{Checked}
use Rattle.lf_totality.specs.Record.{IsRecordOf}
use Rattle.lf_totality.specs.Examples.{Addition, addition_marks, addition_record}

-- R is the record of addition, with no record before it
abbrev pub IsAdditionRecord : Checked → Type 0
IsAdditionRecord R = IsRecordOf Addition (1 ∷ []) addition_marks [] [] R

-- below plus are nat and plus, and both are frozen
abbrev pub AdditionHasRecord : Type 0
AdditionHasRecord = IsAdditionRecord addition_record

-- A record that has all numbers below plus, or none, or that freezes all, or nothing, is not it; nor is one of another family.
abbrev pub OtherRecordsAreRefused : Type 0
OtherRecordsAreRefused = (IsAdditionRecord (record addition_record { below = λ f. everything }) → ⊥) × (IsAdditionRecord (record addition_record { below = λ f. nothing }) → ⊥) × (IsAdditionRecord (record addition_record { frozen = everything }) → ⊥) × (IsAdditionRecord (record addition_record { frozen = nothing }) → ⊥) × (IsAdditionRecord (record addition_record { families = 0 ∷ [] }) → ⊥)
