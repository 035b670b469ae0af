-- Tests that decide facts.
use Rattle.std.proofs.Common.{◌≡◌, Bool, true, false, Result, Ok, Err, IfOk, refl, sym, ◌∙◌, true≢false}
use Rattle.std.specs.Prelude.{Decides}

-- what is so of an outcome's value in one way is so in another
pub on_value : {T E : Type 0} (r : Result T E) (P Q : T → Type 0) → ((x : T) → P x → Q x) → IfOk r P → IfOk r Q
on_value (Ok x) P Q f h = f x h
on_value (Err e) P Q f h = h

-- a test that decides one fact decides another that holds exactly where it does
pub decided_as : {P Q : Type 0} (b : Bool) → (P → Q) → (Q → P) → Decides b P → Decides b Q
decided_as b f g d = (λ e. f (d.0 e), λ q. d.1 (g q))

pub decided_no : {P : Type 0} → (P → ⊥) → Decides false P
decided_no n = (λ e. absurd (true≢false (sym e)), λ p. absurd (n p))

pub decided_yes : {P : Type 0} → P → Decides true P
decided_yes p = (λ e. p, λ q. refl)

pub not_so : {P : Type 0} (b : Bool) → b ≡ false → Decides b P → P → ⊥
not_so b e d p = true≢false (sym (d.1 p) ∙ e)
