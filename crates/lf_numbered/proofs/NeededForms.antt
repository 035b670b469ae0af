-- A signature of entries is free from their count on.
use Rattle.std.proofs.Common.{◌≡◌, ℕ, ◌≤◌, List, [], ◌∷◌, length, refl, ap, ◌∙◌, arith}
use Rattle.std.specs.Prelude.{Some, None, cond}
use Rattle.lf.specs.Entries.{Entry, entry, kind_of, type_of}
use Rattle.lf_numbered.specs.NeededForms.{EntriesAreFreeFrom}
use Rattle.lf_numbered.proofs.EntrySignature.{not_same}

no_entry : (es : List Entry) (c : ℕ) → length es ≤ c → entry es c ≡ None
no_entry [] c l = refl
no_entry (e ∷ es) c l = ap (λ b. cond b (Some e) (entry es c)) (not_same c (length es) (λ q. omega (q, l, arith))) ∙ no_entry es c (omega (l, arith))

pub entries_are_free_from : EntriesAreFreeFrom
entries_are_free_from es = record { types_free = λ c l. ap type_of (no_entry es c l); kinds_free = λ a l. ap kind_of (no_entry es a l) }
